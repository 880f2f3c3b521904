-- What two running totals are to hold.
use Rattle.std.specs.Prelude.{◌≡◌, ℕ, ◌+◌, ◌-◌, ◌%◌, ◌^◌, Bool, not}
use Rattle.robinx.specs.Sums.{only}
use Rattle.robinx.specs.Books.{is_hard, is_soft}
use Rattle.robinx.specs.Calls.{moved_total}
use Rattle.robinx.specs.declared.Constraint.{Constraint}
use Rattle.totals.specs.declared.Totals.{Totals}

-- a sum over the hard constraints and the same sum over the soft ones, modulo 2^64
pub record TotalsOf (sum : (Constraint → Bool) → ℕ) (t : Totals) : Type 0 where
  pub hard : t.hard ≡ sum is_hard % 2 ^ 64
  pub soft : t.soft ≡ sum is_soft % 2 ^ 64

-- t with the penalty p of a hard or a soft constraint added is r
abbrev pub Adds : Totals → Bool → ℕ → Totals → Type 0
Adds t hard p r =
    (r.hard ≡ (t.hard + only hard p) % 2 ^ 64) × (r.soft ≡ (t.soft + only (not hard) p) % 2 ^ 64)

-- what was gained less what was lost, modulo 2^64
abbrev pub less : Totals → Totals → Totals
less g l = record { hard = (g.hard + (2 ^ 64 - l.hard)) % 2 ^ 64; soft = (g.soft + (2 ^ 64 - l.soft)) % 2 ^ 64 }

-- t with each total moved by its own change, which d holds
abbrev pub moved_by : Totals → Totals → Totals
moved_by t d = record { hard = moved_total t.hard d.hard; soft = moved_total t.soft d.soft }
