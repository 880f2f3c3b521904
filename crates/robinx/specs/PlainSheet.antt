-- The plain sheet (FORMAT 5.6): a list of G slots that knows the season and is fed each call. It takes
-- nothing from the lent sheet, the books or the replies.
use Rattle.std.specs.Prelude.{List, [], ◌∷◌, Bool, ◌&&◌, ℕ, zero, suc, eqb}
use Rattle.robinx.specs.Season.{Instance}
use Rattle.robinx.specs.Refusals.{first_true}
use Rattle.robinx.specs.Calls.{Call, moved, of_call, touched}

-- the number with which the plain sheet refuses a call; 0: it accepts
unfoldable pub plain_fault : Instance → List ℕ → Call → ℕ
plain_fault m plain k = first_true (of_call m plain k)

-- a refused call leaves it as it is
abbrev pub unless_fault : ℕ → List ℕ → List ℕ → List ℕ
unless_fault zero after plain = after
unless_fault (suc r) after plain = plain

unfoldable pub plain_next : Instance → List ℕ → Call → List ℕ
plain_next m plain k = unless_fault (plain_fault m plain k) (moved plain k) plain

-- the plain sheet after a list of calls
unfoldable pub plain_after : Instance → List ℕ → List Call → List ℕ
plain_after m plain [] = plain
plain_after m plain (k ∷ ks) = plain_after m (plain_next m plain k) ks

-- a call's change touches constraint c; a refused call has none
unfoldable pub changes : Instance → List ℕ → Call → ℕ → Bool
changes m plain k c = eqb (plain_fault m plain k) 0 && touched m plain k c
