-- What `play` is proved to do, and what `demand-3` says of the same terms: after an accepted opening it leaves fresh books, and its sums are
-- their totals.
use mathlib.Core.Path.{◌≡◌, ap, ◌∙◌}
use mathlib.Core.List.{List}
use mathlib.Core.Bool.{Bool, false}
use Prim.Native.Nat.{ℕ, ◌+◌, ◌^◌, ◌<◌}
use native.Mathlib.Omega.{arith}
use lib.ListN.{get_or}
use Rattle.robinx.specs.Season.{Instance, decode}
use Rattle.robinx.specs.Books.{timetable, is_hard, is_soft, total, fresh_tally}
use Rattle.robinx.specs.Calls.{Buffers, buffers, Outcome, outcome, Call, opened, open_call}
use Rattle.robinx.specs.PlainSheet.{plain_after}
use Rattle.robinx.specs.declared.Constraint.{Constraint}
use Rattle.robinx.proofs.Passed.{open-no-fault, opens-fresh, passed}
use Rattle.robinx.proofs.Kept.{hard-held, soft-held}
use Rattle.robinx.proofs.Demand3.{totals-small, demand-3}
use Rattle.replies.specs.Reply.{reply_of}
use Rattle.played.specs.declared.Played.{Played}
use Rattle.played.specs.Word.{word}
use Rattle.replay.specs.Play.{Fresh, Replays, ReplaysFresh}
use Rattle.played.proofs.Words.{word_small}

-- fresh books hold totals below 2^60
module _ (season plain : List ℕ) (o : Outcome) (f : Fresh season plain o) where
  abbrev m : Instance
  m = decode season

  abbrev again : Buffers
  again = buffers plain o.left.ledger o.left.tally

  tally-is : o.left.tally ≡ fresh_tally m plain
  unfolding opened
  tally-is = f.tally ∙ ap (λ (r : Outcome). r.left.tally) (opens-fresh season again f.opens)

  low : (want : Constraint → Bool) → total want m (timetable m plain) < 2 ^ 60
  low = totals-small season plain _ _ (passed season again (open-no-fault season again f.opens))

  pub hard-low : get_or o.left.tally m.C 0 < 2 ^ 64
  hard-low = rw (tally-is, hard-held m plain) (omega (arith, low is_hard))

  pub soft-low : get_or o.left.tally (m.C + 1) 0 < 2 ^ 64
  soft-low = rw (tally-is, soft-held m plain) (omega (arith, low is_soft))

pub replays-fresh : (season : List ℕ) (b : Buffers) (calls : List Call) (p : Played) (left : Buffers)
    → (open_call season b).reply.declined ≡ false → Replays season b calls p left → ReplaysFresh season b calls p left
replays-fresh season b calls p left accepted h =
    let d = demand-3 season b accepted calls in
    let plain = plain_after (decode season) b.sheet calls in
    let f : Fresh season plain (outcome (reply_of p.answer) left) = rw h.lasts d.2 in
    let hard = rw (← h.lasts) at d.3.0 in
    let soft = rw (← h.lasts) at d.3.1 in
    record {
      fresh = f;
      infeasibility = h.infeasibility ∙ ap word hard ∙ word_small _ (hard-low season plain (outcome (reply_of p.answer) left) f);
      objective = h.objective ∙ ap word soft ∙ word_small _ (soft-low season plain (outcome (reply_of p.answer) left) f);
    }
