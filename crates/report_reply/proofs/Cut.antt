-- Where an input is cut into season and sheet: at the length that its sizes give, or at its end.
use mathlib.Core.Path.{◌≡◌}
use mathlib.Core.List.{List}
use Prim.Native.Nat.{ℕ, ◌<◌, ◌≤◌}
use native.Mathlib.Omega.{arith}
use lib.ListN.{length, take, drop}
use Rattle.std.proofs.Common.{min}
use Rattle.std.proofs.lemmas.List.{take_min, drop_min}
use Rattle.robinx.specs.Season.{season_length}
use Rattle.robinx.specs.Report.{season_of, sheet_of}

abbrev pub CutAt : List ℕ → ℕ → Type 0
CutAt l r = (r ≤ length l) × (take r l ≡ season_of l) × (drop r l ≡ sheet_of l)

pub cut : (l : List ℕ) {r : ℕ} → r ≡ min (season_length l) (length l) → CutAt l r
unfolding season_of sheet_of
cut l e = rw e (omega arith, take_min (season_length l) l, drop_min (season_length l) l)

-- fewer than 6 bytes are all season
pub cut_short : (l : List ℕ) → length l < 6 → CutAt l (length l)
unfolding season_length
cut_short l h = cut l (omega (arith, h))
