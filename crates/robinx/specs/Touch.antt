-- Which changes touch a constraint (FORMAT 5.4), by the row of its kind.
use Rattle.std.specs.Prelude.{Bool, true, false, ◌&&◌, ◌||◌, not, ℕ, zero, suc, eqb}
use Rattle.robinx.specs.Season.{slots_of}
use Rattle.robinx.specs.Groups.{has, reaches}
use Rattle.robinx.specs.Kinds.{form_at}
use Rattle.robinx.specs.declared.Constraint.{Constraint}
use Rattle.robinx.specs.declared.Form.{Form}
use Rattle.robinx.specs.declared.TouchTeams.{TouchTeams}
use Rattle.robinx.specs.declared.TouchTeams.TheVariants.{Nobody, OneInT1, Across, HomeAndAway, BothInT1}
use Rattle.robinx.specs.declared.TouchSlots.{TouchSlots}
use Rattle.robinx.specs.declared.TouchSlots.TheVariants.{InS, UpToLastOfS, AnySlot}

-- a game of i at home against j is such as the row asks, where the groups are T1 and T2
unfoldable pub teams_touch : TouchTeams → ℕ → ℕ → ℕ → ℕ → Bool
teams_touch Nobody T1 T2 i j = false
teams_touch OneInT1 T1 T2 i j = has T1 i || has T1 j
teams_touch Across T1 T2 i j = has T1 i && has T2 j || has T1 j && has T2 i
teams_touch HomeAndAway T1 T2 i j = has T1 i && has T2 j
teams_touch BothInT1 T1 T2 i j = has T1 i && has T1 j

-- .. and so is its slot k
unfoldable pub slot_touches : TouchSlots → ℕ → ℕ → Bool
slot_touches InS S k = has S k
slot_touches UpToLastOfS S k = reaches S k
slot_touches AnySlot S k = true

-- The scope: the constraint reads x at (i, j, k). It is FORMAT 5.4 at one slot.
unfoldable pub scope_of : Form → Constraint → ℕ → ℕ → ℕ → Bool
scope_of f c i j k = teams_touch f.teams c.t1 c.t2 i j && slot_touches f.slots (slots_of c) k

abbrev pub scope : Constraint → ℕ → ℕ → ℕ → Bool
scope c i j k = scope_of (form_at c.kind) c i j k

-- the constraint reads the game (i, j) in the slot s of the sheet; in slot 0 none does
abbrev pub hits : Constraint → ℕ → ℕ → ℕ → Bool
hits c i j zero = false
hits c i j (suc k) = scope c i j k

unfoldable pub touches : Constraint → ℕ → ℕ → ℕ → ℕ → Bool
touches c i j a b = not (eqb a b) && (hits c i j a || hits c i j b)
