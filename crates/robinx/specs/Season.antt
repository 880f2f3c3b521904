-- What a season's bytes say (docs/FORMAT.md, section 2; FORMAT 2 for short, here and in the other files). Nothing after this file sees bytes.
use Rattle.std.specs.Prelude.{List, ℕ, zero, suc, ◌+◌, ◌*◌, get_or, take, drop}
use Rattle.robinx.specs.declared.Constraint.{Constraint}

-- The largest sizes (`Season::TEAMS` and so on in the code), and the most meetings of two teams.
abbrev pub most_teams : ℕ
most_teams = 32

abbrev pub most_slots : ℕ
most_slots = 64

abbrev pub most_games : ℕ
most_games = 1024

abbrev pub most_constraints : ℕ
most_constraints = 1024

abbrev pub most_meetings : ℕ
most_meetings = 8

-- the most deviations that the report program takes
abbrev pub most_deviations : ℕ
most_deviations = 6000

-- the largest value of a byte
abbrev pub most_byte : ℕ
most_byte = 255

-- the number in w bytes from place a on, lowest byte first
unfoldable pub number : ℕ → List ℕ → ℕ → ℕ
number zero s a = 0
number (suc w) s a = get_or s a 0 + 256 * number w s (a + 1)

-- Sizes: teams and slots a byte each, games and constraints two.
unfoldable pub teams : List ℕ → ℕ
teams s = get_or s 0 0

unfoldable pub slots : List ℕ → ℕ
slots s = get_or s 1 0

unfoldable pub games : List ℕ → ℕ
games s = number 2 s 2

unfoldable pub constraints : List ℕ → ℕ
constraints s = number 2 s 4

-- Then home teams, away teams, heads of 8 bytes, bodies of 16.
abbrev pub head_at : List ℕ → ℕ → ℕ
head_at s c = 6 + 2 * games s + 8 * c

abbrev pub body_at : List ℕ → ℕ → ℕ
body_at s c = 6 + 2 * games s + 8 * constraints s + 16 * c

unfoldable pub season_length : List ℕ → ℕ
season_length s = 6 + 2 * games s + 24 * constraints s

unfoldable pub home_teams : List ℕ → List ℕ
home_teams s = take (games s) (drop 6 s)

unfoldable pub away_teams : List ℕ → List ℕ
away_teams s = take (games s) (drop (6 + games s) s)

-- the constraint with its head at place h and its body at place b
unfoldable pub constraint_from : List ℕ → ℕ → ℕ → Constraint
constraint_from s h b = record {
  kind = get_or s h 0;
  mode = get_or s (h + 1) 0;
  hard = get_or s (h + 2) 0;
  function = get_or s (h + 3) 0;
  weight = get_or s (h + 4) 0;
  kmin = get_or s (h + 5) 0;
  kmax = get_or s (h + 6) 0;
  w = get_or s (h + 7) 0;
  t1 = number 4 s b;
  t2 = number 4 s (b + 4);
  s = number 8 s (b + 8);
}

-- S, the slots of a constraint: the one place that knows how they stand in its record
abbrev pub slots_of : Constraint → ℕ
slots_of c = c.s

-- A season that has been read: n teams, P slots, G games with their teams, C constraints.
pub record Instance : Type 0 where
  pub n : ℕ
  pub P : ℕ
  pub G : ℕ
  pub C : ℕ
  pub home : List ℕ
  pub away : List ℕ
  pub constraint : ℕ → Constraint

unfoldable pub decode : List ℕ → Instance
decode s = record {
  n = teams s;
  P = slots s;
  G = games s;
  C = constraints s;
  home = home_teams s;
  away = away_teams s;
  constraint = λ c. constraint_from s (head_at s c) (body_at s c);
}
