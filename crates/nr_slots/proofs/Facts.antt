-- What the rule says of a worker and the combiner, from the tale of the worker's slot.
use Rattle.std.proofs.Common.{◌≡◌, ◌≢◌, zero, suc, ◌+◌, ◌≤◌, List, [], ◌∷◌, ◌++◌, length, get_or, refl, sym, ap, subst, inl, inr, arith, append-nil}
use Rattle.nr_entry.specs.declared.batch.Batch.{Batch}
use Rattle.nr_entry.specs.declared.batch.Answer.{Answer}
use Rattle.nr_slots.specs.declared.view.WorkerPast.{WorkerPast}
use Rattle.nr_slots.specs.declared.view.CombinerPast.{CombinerPast}
use Rattle.nr_slots.specs.Names.{Names}
use Rattle.nr_slots.specs.Rule.{Round, Stage, vacant, placing, offered, lifting, held, answering, ready, fetching, posted_at, lifted_at, answered_at, word_at, IsNamed, batches, answers}
use Rattle.nr_slots.specs.Law.{IsAllOrAllButLast, NameEach, SlotFacts, HoldsOfSeats}
use Rattle.nr_slots.specs.Layout.{word_of}
use Rattle.nr_slots.proofs.Tales.{even, snoc_length, nil_length}
use Rattle.nr_slots.proofs.Moves.{EachNamed}

name_rounds : (rounds : List Round) → EachNamed rounds → NameEach (answers rounds) (batches rounds)
name_rounds [] each = tt
name_rounds (x ∷ xs) each = (each zero x refl, name_rounds xs (λ k y e. each (suc k) y e))

name_more : (cs : List Answer) (bs : List Batch) (a : Answer) (b : Batch) → NameEach cs bs → Names a b → NameEach (cs ++ a ∷ []) (bs ++ b ∷ [])
name_more [] [] a b n h = (h, tt)
name_more [] (y ∷ ys) a b n h = absurd n
name_more (x ∷ xs) [] a b n h = absurd n
name_more (x ∷ xs) (y ∷ ys) a b n h = (n.0, name_more xs ys a b n.1 h)

module _ (rounds : List Round) (each : EachNamed rounds) where
  abbrev Answered : List Batch → List Answer → Type 0
  Answered lifted answered = (bs : List Batch) × IsAllOrAllButLast bs lifted × NameEach answered bs

  all_named : NameEach (answers rounds ++ []) (batches rounds)
  all_named = subst (λ l. NameEach l (batches rounds)) (sym (append-nil (answers rounds))) (name_rounds rounds each)

  none_more : Answered (batches rounds ++ []) (answers rounds ++ [])
  none_more = (batches rounds, inl (sym (append-nil (batches rounds))), all_named)

  one_more : (b : Batch) → Answered (batches rounds ++ b ∷ []) (answers rounds ++ [])
  one_more b = (batches rounds, inr (b, refl), all_named)

  both_more : (b : Batch) (a : Answer) → Names a b → Answered (batches rounds ++ b ∷ []) (answers rounds ++ a ∷ [])
  both_more b a n = (batches rounds ++ b ∷ [], inl refl, name_more (answers rounds) (batches rounds) a b (name_rounds rounds each) n)

  same_answers : IsAllOrAllButLast (answers rounds) (answers rounds ++ [])
  same_answers = inl (sym (append-nil (answers rounds)))

  few : length (batches rounds ++ []) ≤ length (answers rounds) + 1
  few = let p = even rounds in let q = nil_length (batches rounds) in omega arith

  fewer : (b : Batch) → length (batches rounds ++ b ∷ []) ≤ length (answers rounds) + 1
  fewer b = let p = even rounds in let q = snoc_length (batches rounds) b in omega arith

  abbrev Facts : Stage → Type 0
  Facts st = SlotFacts (batches rounds ++ posted_at st) (answers rounds) (batches rounds ++ lifted_at st) (answers rounds ++ answered_at st)

  facts : (st : Stage) → IsNamed st → Facts st
  facts vacant n = record { lifted_is = inl refl; answered_is = none_more; collected_is = same_answers; at_most_one = few }
  facts placing n = record { lifted_is = inl refl; answered_is = none_more; collected_is = same_answers; at_most_one = few }
  facts (offered b) n = record { lifted_is = inr (b, ap (λ l. l ++ b ∷ []) (sym (append-nil (batches rounds)))); answered_is = none_more; collected_is = same_answers; at_most_one = fewer b }
  facts (lifting b) n = record { lifted_is = inl refl; answered_is = one_more b; collected_is = same_answers; at_most_one = fewer b }
  facts (held b) n = record { lifted_is = inl refl; answered_is = one_more b; collected_is = same_answers; at_most_one = fewer b }
  facts (answering b) n = record { lifted_is = inl refl; answered_is = one_more b; collected_is = same_answers; at_most_one = fewer b }
  facts (ready b a) n = record { lifted_is = inl refl; answered_is = both_more b a n; collected_is = inr (a, refl); at_most_one = fewer b }
  facts (fetching b a) n = record { lifted_is = inl refl; answered_is = both_more b a n; collected_is = inr (a, refl); at_most_one = fewer b }

-- a batch that isn't lifted is offered
all_lifted : (rounds : List Round) (st : Stage) → word_at st ≢ 1 → batches rounds ++ lifted_at st ≡ batches rounds ++ posted_at st
all_lifted rounds vacant h = refl
all_lifted rounds placing h = refl
all_lifted rounds (offered b) h = absurd (h refl)
all_lifted rounds (lifting b) h = refl
all_lifted rounds (held b) h = refl
all_lifted rounds (answering b) h = refl
all_lifted rounds (ready b a) h = refl
all_lifted rounds (fetching b a) h = refl

pub holds_of_seats : HoldsOfSeats
holds_of_seats workers s r worker near id other v c at at' owns combines =
    let k = r.each_slot worker near in
    let lane = (r.each_seat id v at).lane_is worker owns in let desk = (r.each_seat other c at').desk_is combines worker near in
    subst (λ (q : WorkerPast × CombinerPast). SlotFacts q.0.posted q.0.collected q.1.lifted q.1.answered × (get_or s.words (word_of worker) 0 ≢ 1 → q.1.lifted ≡ q.0.posted)) (λ i. (sym lane i, sym desk i)) (
      facts (r.tale worker).rounds k.each_named (r.tale worker).stage k.named,
      λ other. all_lifted (r.tale worker).rounds (r.tale worker).stage (subst (λ z. z ≢ 1) k.word_is other),
    )
