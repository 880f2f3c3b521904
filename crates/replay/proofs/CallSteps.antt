-- The calls made so far.
use mathlib.Core.Path.{◌≡◌, sym, ap, ◌∙◌}
use mathlib.Core.List.{List, [], ◌∷◌, ◌++◌}
use Prim.Native.Nat.{ℕ, ◌+◌, ◌%◌, ◌^◌}
use lib.IntN.{ℤ}
use Rattle.std.specs.Prelude.{Result}
use Rattle.robinx.specs.Calls.{Buffers, Outcome, outcome, Call, open_call, call_on}
use Rattle.robinx.specs.declared.Refusal.{Refusal}
use Rattle.robinx.specs.declared.Reply.{Reply}
use Rattle.replies.specs.Reply.{reply_of}
use Rattle.replies.specs.declared.Accepted.{Accepted}
use Rattle.played.specs.declared.Played.{Played}
use Rattle.played.specs.Word.{word}
use Rattle.played.specs.AnswerList.{begun, with_answer}
use Rattle.replay.specs.Play.{last, added, Replays}
use Rattle.played.proofs.Words.{word-adds}
use Rattle.replay.proofs.Lists.{last_more, added_more}

module _ (season : List ℕ) (b : Buffers) where
  -- the opening alone
  pub plays-open : {left : Buffers} {r : Result Accepted Refusal} {p : Played} → outcome (reply_of r) left ≡ open_call season b → p ≡ begun r → Replays season b [] p left
  unfolding last added
  plays-open e is = rw is (record {
    lasts = e;
    infeasibility = ap (λ (o : Outcome). word o.reply.infeasibility) e;
    objective = ap (λ (o : Outcome). word o.reply.objective) e;
  })

  -- a sum with one change more
  sum_more : (d : Reply → ℤ) (made : List Call) (k : Call) (s : ℕ) (o : Outcome)
      → s ≡ word (added d season (open_call season b) made)
      → o ≡ last season (open_call season b) (made ++ k ∷ [])
      → (s + word (d o.reply)) % 2 ^ 64 ≡ word (added d season (open_call season b) (made ++ k ∷ []))
  sum_more d made k s o e l = rw (added_more season d (open_call season b) made k, word-adds, e, l)

  -- one call more
  pub plays-next : {made : List Call} {p : Played} {left left' : Buffers} {r : Result Accepted Refusal} (k : Call) → Replays season b made p left
      → outcome (reply_of r) left' ≡ call_on season left k → Replays season b (made ++ k ∷ []) (with_answer p r) left'
  plays-next {made} {p} {left} {left'} {r} k h e =
      let l : outcome (reply_of r) left' ≡ last season (open_call season b) (made ++ k ∷ []) =
      e ∙ ap (λ (o : Outcome). call_on season o.left k) h.lasts ∙ sym (last_more season (open_call season b) made k) in
      record {
        lasts = l;
        infeasibility = sum_more (λ r. r.infeasibility) made k p.sums.hard (outcome (reply_of r) left') h.infeasibility l;
        objective = sum_more (λ r. r.objective) made k p.sums.soft (outcome (reply_of r) left') h.objective l;
      }
