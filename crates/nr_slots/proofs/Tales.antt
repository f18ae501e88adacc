-- What a seat's own view tells of the stage of its slot's tale.
use Rattle.std.proofs.Common.{◌≡◌, ◌+◌, List, [], ◌∷◌, ◌++◌, length, refl, sym, ap, ◌∙◌, subst, arith, append-nil, length-append}
use Rattle.std.proofs.lemmas.List.{length-map}
use Rattle.nr_entry.specs.declared.batch.Batch.{Batch}
use Rattle.nr_entry.specs.declared.batch.Answer.{Answer}
use Rattle.nr_slots.specs.declared.view.Hand.{Hand}
use Rattle.nr_slots.specs.declared.view.Hand.TheVariants.{Still, Placing, Fetching}
use Rattle.nr_slots.specs.declared.view.Grip.TheVariants.{Loose, Lifting, Answering}
use Rattle.nr_slots.specs.Names.{Names, IsForLast}
use Rattle.nr_slots.specs.Rule.{Round, Stage, vacant, placing, offered, lifting, held, answering, ready, fetching, word_at, posted_at, lifted_at, answered_at, hand_at, grip_at, batches, answers}

module _ {A : Type 0} where
  last_of : A → List A → A
  last_of d [] = d
  last_of d (x ∷ xs) = last_of x xs

  last_snoc : (d : A) (xs : List A) (x : A) → last_of d (xs ++ x ∷ []) ≡ x
  unfolding last_of
  last_snoc d [] x = refl
  last_snoc d (y ∷ ys) x = last_snoc y ys x

  -- two lists that are one have one last element
  pub same_last : (xs ys : List A) (x y : A) → xs ++ x ∷ [] ≡ ys ++ y ∷ [] → x ≡ y
  same_last xs ys x y e = sym (last_snoc x xs x) ∙ ap (last_of x) e ∙ last_snoc x ys y

  pub snoc_length : (xs : List A) (x : A) → length (xs ++ x ∷ []) ≡ length xs + 1
  snoc_length xs x = length-append xs (x ∷ [])

  pub nil_length : (xs : List A) → length (xs ++ []) ≡ length xs
  nil_length xs = ap length (append-nil xs)

fetched_or : Answer → Hand → Answer
fetched_or a Still = a
fetched_or a Placing = a
fetched_or a (Fetching b) = b

same_fetched : (a b : Answer) → Fetching a ≡ Fetching b → a ≡ b
unfolding fetched_or
same_fetched a b e = ap (fetched_or a) e

module _ (rounds : List Round) where
  -- each round has a batch and an answer
  pub even : length (batches rounds) ≡ length (answers rounds)
  even = length-map rounds (λ (x : Round). x.batch) ∙ sym (length-map rounds (λ (x : Round). x.answer))

  one_over : (b : Batch) → length (batches rounds ++ b ∷ []) ≡ length (answers rounds) → ⊥
  one_over b e = let p = even in let q = snoc_length (batches rounds) b in omega arith

  -- a worker that is still, and whose answers are as many as its batches
  pub is_vacant : (st : Stage) → hand_at st ≡ Still → length (batches rounds ++ posted_at st) ≡ length (answers rounds) → st ≡ vacant
  is_vacant vacant h l = refl
  is_vacant placing h l = absurd (cc)
  is_vacant (offered b) h l = absurd (one_over b l)
  is_vacant (lifting b) h l = absurd (one_over b l)
  is_vacant (held b) h l = absurd (one_over b l)
  is_vacant (answering b) h l = absurd (one_over b l)
  is_vacant (ready b a) h l = absurd (one_over b l)
  is_vacant (fetching b a) h l = absurd (one_over b l)

  one_over' : (b : Batch) → length (batches rounds ++ b ∷ []) ≡ length (answers rounds ++ []) → ⊥
  one_over' b e = one_over b (e ∙ nil_length (answers rounds))

  -- a combiner that is at no place, and whose answers are as many as its batches
  pub is_offered : (st : Stage) → grip_at st ≡ Loose → word_at st ≡ 1 → length (batches rounds ++ lifted_at st) ≡ length (answers rounds ++ answered_at st) → (b : Batch) × (st ≡ offered b)
  is_offered vacant g w l = absurd (omega arith)
  is_offered placing g w l = absurd (omega arith)
  is_offered (offered b) g w l = (b, refl)
  is_offered (lifting b) g w l = absurd (cc)
  is_offered (held b) g w l = absurd (one_over' b l)
  is_offered (answering b) g w l = absurd (one_over' b l)
  is_offered (ready b a) g w l = absurd (omega arith)
  is_offered (fetching b a) g w l = absurd (omega arith)

  none_left : (a : Answer) → IsForLast a (batches rounds ++ []) (answers rounds ++ []) → ⊥
  none_left a f =
      let p = even in let q = nil_length (batches rounds) in let q' = nil_length (answers rounds) in
      let e : length (batches rounds ++ []) ≡ length f.0 + 1 = ap length f.2 ∙ snoc_length f.0 f.1 in
      let e' : length (answers rounds ++ []) ≡ length f.0 = f.3 in omega arith

  one_left : (a c : Answer) (b : Batch) → IsForLast a (batches rounds ++ b ∷ []) (answers rounds ++ c ∷ []) → ⊥
  one_left a c b f =
      let p = even in let q = snoc_length (batches rounds) b in let q' = snoc_length (answers rounds) c in
      let e : length (batches rounds ++ b ∷ []) ≡ length f.0 + 1 = ap length f.2 ∙ snoc_length f.0 f.1 in
      let e' : length (answers rounds ++ c ∷ []) ≡ length f.0 = f.3 in omega arith

  named_last : (a : Answer) (b : Batch) (cs : List Answer) → IsForLast a (batches rounds ++ b ∷ []) cs → Names a b
  named_last a b cs f = subst (Names a) (same_last f.0 (batches rounds) f.1 b (sym f.2)) f.4

  -- a combiner that has an answer to its last batch
  pub is_held : (a : Answer) (st : Stage) → grip_at st ≡ Loose → IsForLast a (batches rounds ++ lifted_at st) (answers rounds ++ answered_at st) → (b : Batch) × (st ≡ held b) × Names a b
  is_held a vacant g f = absurd (none_left a f)
  is_held a placing g f = absurd (none_left a f)
  is_held a (offered b) g f = absurd (none_left a f)
  is_held a (lifting b) g f = absurd (cc)
  is_held a (held b) g f = (b, refl, named_last a b (answers rounds ++ []) f)
  is_held a (answering b) g f = absurd (cc)
  is_held a (ready b c) g f = absurd (one_left a c b f)
  is_held a (fetching b c) g f = absurd (one_left a c b f)

  -- a combiner that puts an answer to its last batch in
  pub is_answering : (a : Answer) (st : Stage) → grip_at st ≡ Answering → IsForLast a (batches rounds ++ lifted_at st) (answers rounds ++ answered_at st) → (b : Batch) × (st ≡ answering b) × Names a b
  is_answering a vacant g f = absurd (cc)
  is_answering a placing g f = absurd (cc)
  is_answering a (offered b) g f = absurd (cc)
  is_answering a (lifting b) g f = absurd (cc)
  is_answering a (held b) g f = absurd (cc)
  is_answering a (answering b) g f = (b, refl, named_last a b (answers rounds ++ []) f)
  is_answering a (ready b c) g f = absurd (cc)
  is_answering a (fetching b c) g f = absurd (cc)

  -- an answer that names the last batch is for it
  pub for_last : (a : Answer) (b : Batch) → Names a b → IsForLast a (batches rounds ++ b ∷ []) (answers rounds)
  for_last a b n = (batches rounds, b, refl, sym even, n)

pub is_placing : (st : Stage) → hand_at st ≡ Placing → st ≡ placing
is_placing vacant h = absurd (cc)
is_placing placing h = refl
is_placing (offered b) h = absurd (cc)
is_placing (lifting b) h = absurd (cc)
is_placing (held b) h = absurd (cc)
is_placing (answering b) h = absurd (cc)
is_placing (ready b a) h = absurd (cc)
is_placing (fetching b a) h = absurd (cc)

pub is_fetching : (a : Answer) (st : Stage) → hand_at st ≡ Fetching a → (b : Batch) × (st ≡ fetching b a)
is_fetching a vacant h = absurd (cc)
is_fetching a placing h = absurd (cc)
is_fetching a (offered b) h = absurd (cc)
is_fetching a (lifting b) h = absurd (cc)
is_fetching a (held b) h = absurd (cc)
is_fetching a (answering b) h = absurd (cc)
is_fetching a (ready b c) h = absurd (cc)
is_fetching a (fetching b c) h = (b, ap (fetching b) (same_fetched c a h))

pub is_ready : (st : Stage) → hand_at st ≡ Still → word_at st ≡ 2 → (b : Batch) × (a : Answer) × (st ≡ ready b a)
is_ready vacant h w = absurd (omega arith)
is_ready placing h w = absurd (omega arith)
is_ready (offered b) h w = absurd (omega arith)
is_ready (lifting b) h w = absurd (omega arith)
is_ready (held b) h w = absurd (omega arith)
is_ready (answering b) h w = absurd (omega arith)
is_ready (ready b a) h w = (b, a, refl)
is_ready (fetching b a) h w = absurd (cc)

pub is_lifting : (st : Stage) → grip_at st ≡ Lifting → (b : Batch) × (st ≡ lifting b)
is_lifting vacant h = absurd (cc)
is_lifting placing h = absurd (cc)
is_lifting (offered b) h = absurd (cc)
is_lifting (lifting b) h = (b, refl)
is_lifting (held b) h = absurd (cc)
is_lifting (answering b) h = absurd (cc)
is_lifting (ready b a) h = absurd (cc)
is_lifting (fetching b a) h = absurd (cc)
