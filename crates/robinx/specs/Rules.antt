-- The rules that a constraint keeps (FORMAT 2.2 and 3.5); sentence 5 is their breach.
use Rattle.std.specs.Prelude.{Bool, true, ◌&&◌, ◌||◌, not, ℕ, ◌-◌, ◌^◌, eqb, leb}
use Rattle.robinx.specs.Groups.{size}
use Rattle.robinx.specs.Season.{most_byte, slots_of}
use Rattle.robinx.specs.Kinds.{asks_at}
use Rattle.robinx.specs.declared.Constraint.{Constraint}
use Rattle.robinx.specs.declared.Field.{Field}
use Rattle.robinx.specs.declared.Field.TheVariants.{Zero, Any, UpToKmax, Some}
use Rattle.robinx.specs.declared.Asks.{Asks}

-- v is in low .. high
abbrev pub fits : ℕ → ℕ → ℕ → Bool
fits low high v = leb low v && leb v high

-- v is such as the field of the row asks
abbrev pub asked : Field → ℕ → ℕ → Bool
asked Zero kmax v = eqb v 0
asked Any kmax v = true
asked UpToKmax kmax v = leb v kmax
asked Some kmax v = leb 1 v

-- .. and at most high
abbrev pub holds : Field → ℕ → ℕ → ℕ → Bool
holds f kmax high v = asked f kmax v && leb v high

-- functions 1 to 5, of which 2 and 3 square
abbrev pub function_fits : Bool → ℕ → Bool
function_fits squares f = fits 1 5 f && (squares || not (fits 2 3 f))

-- one group of the two has more than one team
abbrev pub several_teams : ℕ → Constraint → Bool
several_teams n c = leb 2 (size n c.t1) || leb 2 (size n c.t2)

-- Weight and w are at most 255, which a byte is anyway; so are kmin and kmax here, so that no theorem has to ask that a season consists
-- of bytes.
unfoldable pub keeps : Asks → ℕ → ℕ → Constraint → Bool
keeps f n P c =
    fits f.first f.last c.mode
    && leb c.hard 1
    && function_fits f.squares c.function
    && fits 1 most_byte c.weight
    && holds f.kmin c.kmax most_byte c.kmin
    && holds f.kmax c.kmax most_byte c.kmax
    && holds f.w c.kmax most_byte c.w
    && fits 1 (2 ^ n - 1) c.t1
    && holds f.t2 c.kmax (2 ^ n - 1) c.t2
    && holds f.s c.kmax (2 ^ P - 1) (slots_of c)
    && leb f.fewest (size n c.t1)
    && (not f.several || several_teams n c)

unfoldable pub obeys : ℕ → ℕ → Constraint → Bool
obeys n P c = keeps (asks_at c.kind) n P c
