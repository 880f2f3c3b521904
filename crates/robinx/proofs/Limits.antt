-- What a season that no sentence refuses gives: its sizes, teams and constraints are in their ranges, and so its figures are small.
use mathlib.Core.Path.{◌≡◌, subst}
use mathlib.Core.Logic.{◌≢◌}
use mathlib.Core.List.{List}
use mathlib.Core.Bool.{Bool, true, false, ◌&&◌, ◌||◌, not}
use Prim.Native.Nat.{ℕ, ◌+◌, ◌*◌, ◌-◌, ◌^◌, ◌<◌, ◌≤◌}
use native.Mathlib.Omega.{arith}
use lib.Dec.{leb}
use lib.Pow.{le_ones, lt_of_le_ones}
use lib.ListN.{length, get_or, take, drop, length-drop}
use lib.Seq.{length-take-le}
use borrow.Author.Tests.{eqb-true, eqb-false, leb-true, leb-false, ltb-false, not-false}
use Rattle.std.proofs.lemmas.Bool.{or_parts, and_parts}
use Rattle.robinx.specs.Sums.{sum_to, only}
use Rattle.robinx.specs.Groups.{size}
use Rattle.robinx.specs.Season.{Instance, decode, games, season_length, home_teams, away_teams, most_byte, slots_of, most_teams, most_slots, most_games, most_constraints}
use Rattle.robinx.specs.Timetable.{clash}
use Rattle.robinx.specs.Kinds.{kind_of, asks_of, asks_at}
use Rattle.robinx.specs.declared.Kind.{Kind}
use Rattle.robinx.specs.declared.Kind.TheVariants.{Ca1, Ca2, Ca3, Ca4, Ca5, Ga1, Br1, Br2, Br4, Fa1, Fa2, Se1, Unknown}
use Rattle.robinx.specs.Rules.{fits, asked, holds, function_fits, several_teams, keeps, obeys}
use Rattle.robinx.specs.Books.{timetable, deviations_at, penalty_at, start_at, total}
use Rattle.robinx.specs.Refusals.{sentence2, sentence3, encounters, bad_game, sentence4, sentence5}
use Rattle.robinx.specs.declared.Constraint.{Constraint}
use Rattle.robinx.specs.declared.Field.{Field}
use Rattle.robinx.specs.declared.Asks.{Asks}
use Rattle.robinx.proofs.Sums.{any_none, only-bound, sum_bound}
use Rattle.robinx.proofs.Valid.{valid}
use Rattle.robinx.proofs.Bounds.{entries-small, each-small, penalty-small}

-- a number in its range
pub fits_in : (low high v : ℕ) → fits low high v ≡ true → (low ≤ v) × (v ≤ high)
fits_in low high v h = let b = and_parts (leb low v) (leb v high) h in (leb-true low v b.0, leb-true v high b.1)

-- a season's sizes in their ranges
pub sizes-in : (n P G C : ℕ) → not (fits 2 most_teams n && fits 1 most_slots P && leb G most_games && leb C most_constraints) ≡ false
    → (2 ≤ n) × (n ≤ most_teams) × (1 ≤ P) × (P ≤ most_slots) × (G ≤ most_games) × (C ≤ most_constraints)
sizes-in n P G C h =
    let constraints = and_parts _ _ (not-false _ h) in
    let games = and_parts _ _ constraints.0 in
    let slots = and_parts _ _ games.0 in
    let n-in = fits_in 2 most_teams n slots.0 in
    let P-in = fits_in 1 most_slots P slots.1 in
    (n-in.0, n-in.1, P-in.0, P-in.1, leb-true G most_games games.1, leb-true C most_constraints constraints.1)

-- a field is at most its largest value, whatever the row asks
pub holds-le : (f : Field) (kmax high v : ℕ) → holds f kmax high v ≡ true → v ≤ high
holds-le f kmax high v h = leb-true v high (and_parts (asked f kmax v) (leb v high) h).1

-- what the constraint's kind asks
abbrev pub asks_for : Constraint → Asks
asks_for c = asks_at c.kind

-- the modes of a kind are some of 1 to 6
modes-of : (k : Kind) → (1 ≤ (asks_of k).first) × ((asks_of k).last ≤ 6)
unfolding asks_of
modes-of Ca1 = (omega arith, omega arith)
modes-of Ca2 = (omega arith, omega arith)
modes-of Ca3 = (omega arith, omega arith)
modes-of Ca4 = (omega arith, omega arith)
modes-of Ca5 = (omega arith, omega arith)
modes-of Ga1 = (omega arith, omega arith)
modes-of Br1 = (omega arith, omega arith)
modes-of Br2 = (omega arith, omega arith)
modes-of Br4 = (omega arith, omega arith)
modes-of Fa1 = (omega arith, omega arith)
modes-of Fa2 = (omega arith, omega arith)
modes-of Se1 = (omega arith, omega arith)
modes-of Unknown = (omega arith, omega arith)

mode-bounds : (c : Constraint) → fits (asks_for c).first (asks_for c).last c.mode ≡ true → (1 ≤ c.mode) × (c.mode ≤ 6)
unfolding asks_at
mode-bounds c h =
    let b = fits_in (asks_for c).first (asks_for c).last c.mode h in
    let k = modes-of (kind_of c.kind) in (omega (arith, b.0, k.0), omega (arith, b.1, k.1))

pub record Obeys (n P : ℕ) (c : Constraint) : Type 0 where
  pub mode-in : fits (asks_for c).first (asks_for c).last c.mode ≡ true
  pub mode-least : 1 ≤ c.mode
  pub mode-most : c.mode ≤ 6
  pub hard : c.hard ≤ 1
  pub function-in : function_fits (asks_for c).squares c.function ≡ true
  pub weight-least : 1 ≤ c.weight
  pub weight : c.weight ≤ 255
  pub kmin-holds : holds (asks_for c).kmin c.kmax most_byte c.kmin ≡ true
  pub kmin : c.kmin ≤ 255
  pub kmax-holds : holds (asks_for c).kmax c.kmax most_byte c.kmax ≡ true
  pub kmax : c.kmax ≤ 255
  pub w-holds : holds (asks_for c).w c.kmax most_byte c.w ≡ true
  pub w : c.w ≤ 255
  pub t1-least : 1 ≤ c.t1
  pub t1 : c.t1 < 2 ^ n
  pub t2-holds : holds (asks_for c).t2 c.kmax (2 ^ n - 1) c.t2 ≡ true
  pub t2 : c.t2 < 2 ^ n
  pub s-holds : holds (asks_for c).s c.kmax (2 ^ P - 1) (slots_of c) ≡ true
  pub s : slots_of c < 2 ^ P
  pub fewest : (asks_for c).fewest ≤ size n c.t1
  pub several : not (asks_for c).several || several_teams n c ≡ true

pub obeyed : (n P : ℕ) (c : Constraint) → obeys n P c ≡ true → Obeys n P c
unfolding obeys keeps
obeyed n P c h =
    let f = asks_for c in
    let several = and_parts _ _ h in
    let fewest = and_parts _ _ several.0 in
    let s = and_parts _ _ fewest.0 in
    let t2 = and_parts _ _ s.0 in
    let t1 = and_parts _ _ t2.0 in
    let w = and_parts _ _ t1.0 in
    let kmax = and_parts _ _ w.0 in
    let kmin = and_parts _ _ kmax.0 in
    let weight = and_parts _ _ kmin.0 in
    let function = and_parts _ _ weight.0 in
    let hard = and_parts _ _ function.0 in
    let weight-in = fits_in 1 most_byte c.weight weight.1 in
    let t1-in = fits_in 1 (2 ^ n - 1) c.t1 t1.1 in
    record {
      mode-in = hard.0;
      mode-least = (mode-bounds c hard.0).0;
      mode-most = (mode-bounds c hard.0).1;
      hard = leb-true c.hard 1 hard.1;
      function-in = function.1;
      weight-least = weight-in.0;
      weight = weight-in.1;
      kmin-holds = kmin.1;
      kmin = holds-le f.kmin c.kmax most_byte c.kmin kmin.1;
      kmax-holds = kmax.1;
      kmax = holds-le f.kmax c.kmax most_byte c.kmax kmax.1;
      w-holds = w.1;
      w = holds-le f.w c.kmax most_byte c.w w.1;
      t1-least = t1-in.0;
      t1 = lt_of_le_ones n t1-in.1;
      t2-holds = t2.1;
      t2 = lt_of_le_ones n (holds-le f.t2 c.kmax (2 ^ n - 1) c.t2 t2.1);
      s-holds = s.1;
      s = lt_of_le_ones P (holds-le f.s c.kmax (2 ^ P - 1) (slots_of c) s.1);
      fewest = leb-true f.fewest (size n c.t1) fewest.1;
      several = several.1;
    }

-- what is no kind keeps no rules
pub known : {n P : ℕ} {c : Constraint} → Obeys n P c → kind_of c.kind ≢ Unknown
unfolding asks_of asks_at
known {c = c} o e =
    let h = subst (λ k. fits (asks_of k).first (asks_of k).last c.mode ≡ true) e o.mode-in in
    let b = fits_in 1 0 c.mode h in omega arith

pub record GoodGame (m : Instance) (g : ℕ) : Type 0 where
  pub home : get_or m.home g 0 < m.n
  pub away : get_or m.away g 0 < m.n
  pub differ : get_or m.home g 0 ≢ get_or m.away g 0
  pub meetings : encounters m.home m.away (get_or m.home g 0) (get_or m.away g 0) m.G ≤ 8

good-game : (m : Instance) (g : ℕ) → bad_game m g ≡ false → GoodGame m g
unfolding bad_game
good-game m g h =
    let meetings = or_parts _ _ h in
    let differ = or_parts _ _ meetings.0 in
    let away = or_parts _ _ differ.0 in
    record {
      home = leb-false _ _ away.0;
      away = leb-false _ _ away.1;
      differ = eqb-false _ _ differ.1;
      meetings = ltb-false _ _ meetings.1;
    }

-- what it says that sentences 2, 4 and 5 are false; that home and away have G teams is another matter (sentence 3, `decode-home`)
pub record Sound (m : Instance) : Type 0 where
  pub teams-least : 2 ≤ m.n
  pub teams : m.n ≤ most_teams
  pub slots-least : 1 ≤ m.P
  pub slots : m.P ≤ most_slots
  pub games : m.G ≤ most_games
  pub constraints : m.C ≤ most_constraints
  pub game : (g : ℕ) → g < m.G → GoodGame m g
  pub constraint : (c : ℕ) → c < m.C → Obeys m.n m.P (m.constraint c)

pub sound : (m : Instance) → sentence2 m ≡ false → sentence4 m ≡ false → sentence5 m ≡ false → Sound m
unfolding sentence2 sentence4 sentence5
sound m h2 h4 h5 =
    let sizes = sizes-in m.n m.P m.G m.C h2 in
    record {
      teams-least = sizes.0;
      teams = sizes.1;
      slots-least = sizes.2;
      slots = sizes.3;
      games = sizes.4;
      constraints = sizes.5;
      game = λ g l. good-game m g (any_none _ m.G h4 g l);
      constraint = λ c l. obeyed m.n m.P (m.constraint c) (not-false _ (any_none _ m.C h5 c l));
    }

-- A season of the right length holds its games' teams.
stretch : (s : List ℕ) (a k : ℕ) → a + k ≤ length s → length (take k (drop a s)) ≡ k
stretch s a k h = length-take-le k (drop a s) (simp length-drop (omega arith))

module _ (season : List ℕ) (h : sentence3 season ≡ false) where
  right-length : 6 + 2 * games season ≤ length season
  unfolding sentence3 season_length
  right-length = omega (arith, eqb-true (length season) (season_length season) (not-false _ h))

  pub decode-home : length (decode season).home ≡ (decode season).G
  unfolding decode home_teams
  decode-home = stretch season 6 (games season) (omega (arith, right-length))

  pub decode-away : length (decode season).away ≡ (decode season).G
  unfolding decode away_teams
  decode-away = stretch season (6 + games season) (games season) (omega (arith, right-length))

-- where a constraint's cells of the ledger begin
module _ (m : Instance) (ok : Sound m) where
  pub start_small : (k : ℕ) → start_at m k ≤ k * 496
  unfolding start_at
  start_small k = sum_bound k 496 (λ c l. entries-small m.n m.P ok.teams ok.slots (m.constraint c))

-- Figures of a sheet without a clash.
module _ (m : Instance) (ok : Sound m) (whole : length m.home ≡ m.G) (sheet : List ℕ)
    (clear : clash m.home m.away sheet ≡ false) where
  pub once : (t k : ℕ) → t < m.n → k < m.P → sum_to (λ j. timetable m sheet t j k + timetable m sheet j t k) m.n ≤ 1
  once t k lt lk = valid m.home m.away sheet (λ g l. (ok.game g (omega arith)).differ) clear m.n t k

  pub deviation-at : (c i : ℕ) → c < m.C → get_or (deviations_at m (timetable m sheet) c) i 0 ≤ 530400
  deviation-at c i l =
      let o = ok.constraint c l in
      each-small m.n m.P ok.teams ok.slots (timetable m sheet) once (m.constraint c) o.kmin o.kmax o.w i

  pub penalty-at : (c : ℕ) → c < m.C → penalty_at m (timetable m sheet) c < 2 ^ 50
  penalty-at c l =
      let o = ok.constraint c l in
      penalty-small m.n m.P ok.teams ok.slots (timetable m sheet) once (m.constraint c) o.kmin o.kmax o.w o.weight

  -- the penalties of any of the first k constraints together
  pub penalties-small : (p : ℕ → Bool) (k : ℕ) → k ≤ m.C → sum_to (λ c. only (p c) (penalty_at m (timetable m sheet) c)) k < 2 ^ 60
  penalties-small p k h =
      omega (arith, ok.constraints, sum_bound k (2 ^ 50 - 1) (λ c l. only-bound (p c) (le_ones 50 (penalty-at c (omega arith)))))

  pub total-small : (want : Constraint → Bool) → total want m (timetable m sheet) < 2 ^ 60
  unfolding total
  total-small want = penalties-small (λ c. want (m.constraint c)) m.C (omega arith)
