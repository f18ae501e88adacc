-- Items taken out at an end, one by one.
use Rattle.std.proofs.Common.{◌≡◌, ℕ, zero, suc, ◌+◌, ◌<◌, ◌≤◌, ◌⊎◌, inl, inr, min, List, [], ◌∷◌, ◌++◌, length, take, drop, map, refl, ap, sym, ◌∙◌, arith, add-one}
use Rattle.std.proofs.lemmas.List.{reverse-reverse, length-reverse, map-append, length-drop, take_all, drop_all}
use Rattle.std.proofs.lemmas.Bool.{cases_lt}
use Rattle.nr_model.specs.Bytes.{Bytes}
use Rattle.nr_model.specs.Replies.{Reply, Bulk}
use Rattle.nr_model.specs.Keyspace.{Key, Keyspace}
use Rattle.nr_model.specs.Lists.{seen_from}
use Rattle.nr_model.specs.Commands.Lists.{bulks, taken, first_items, without_items, pop_items}
use Rattle.nr_model.specs.declared.command.End.{End}
use Rattle.nr_model.specs.declared.command.End.TheVariants.{Left, Right}

-- a count above 0
pub some_popped : (keyspace : Keyspace) (key : Key) (end : End) (count : ℕ) (items : List Bytes) → 0 < count
    → pop_items keyspace key end count items ≡ taken keyspace key end count items (bulks (first_items end count items))
some_popped keyspace key end zero items some = absurd (omega (arith, some))
some_popped keyspace key end (suc n) items some = refl

-- so many of the items were taken
pub record Pops (turns : ℕ) (end : End) (old new : List Bytes) (items : List Reply) : Type 0 where
  pub took : items ≡ map Bulk (take turns (seen_from end old))
  pub left : seen_from end new ≡ drop turns (seen_from end old)

next_taken : {A : Type 0} (n : ℕ) (xs : List A) (x : A) (rest : List A) → drop n xs ≡ x ∷ rest → take (suc n) xs ≡ take n xs ++ x ∷ []
next_taken zero [] x rest is = absurd (cc is)
next_taken zero (y ∷ ys) x rest is = let same : y ≡ x = cc is in ap (λ z. z ∷ []) same
next_taken (suc n) [] x rest is = absurd (cc is)
next_taken (suc n) (y ∷ ys) x rest is = ap (λ zs. y ∷ zs) (next_taken n ys x rest is)

next_dropped : {A : Type 0} (n : ℕ) (xs : List A) (x : A) (rest : List A) → drop n xs ≡ x ∷ rest → drop (suc n) xs ≡ rest
next_dropped zero [] x rest is = absurd (cc is)
next_dropped zero (y ∷ ys) x rest is = cc is
next_dropped (suc n) [] x rest is = absurd (cc is)
next_dropped (suc n) (y ∷ ys) x rest is = next_dropped n ys x rest is

pub one_taken : (turns : ℕ) (end : End) (old before new : List Bytes) (items : List Reply) (item : Bytes) → seen_from end before ≡ item ∷ seen_from end new
    → Pops turns end old before items → Pops (turns + 1) end old new (items ++ Bulk item ∷ [])
one_taken turns end old before new items item is so_far =
    let next : drop turns (seen_from end old) ≡ item ∷ seen_from end new = sym so_far.left ∙ is in
    record {
      took = ap (λ xs. xs ++ Bulk item ∷ []) so_far.took ∙ sym (map-append Bulk (take turns (seen_from end old)) (item ∷ []))
          ∙ ap (map Bulk) (sym (next_taken turns (seen_from end old) item (seen_from end new) next) ∙ ap (λ n. take n (seen_from end old)) (sym (add-one turns)));
      left = sym (next_dropped turns (seen_from end old) item (seen_from end new) next) ∙ ap (λ n. drop n (seen_from end old)) (sym (add-one turns));
    }

seen_twice : {A : Type 0} (end : End) (xs : List A) → seen_from end (seen_from end xs) ≡ xs
seen_twice Left xs = refl
seen_twice Right xs = reverse-reverse xs

pub what_is_left : (turns : ℕ) (end : End) (old new : List Bytes) (items : List Reply) → Pops turns end old new items → new ≡ without_items end turns old
what_is_left turns end old new items so_far = sym (seen_twice end new) ∙ ap (seen_from end) so_far.left

length_seen : {A : Type 0} (end : End) (xs : List A) → length (seen_from end xs) ≡ length xs
length_seen Left xs = refl
length_seen Right xs = length-reverse xs

-- until so many were taken there is one
pub one_is_left : (turns count : ℕ) (end : End) (old new : List Bytes) (items : List Reply) → turns < count → count ≤ length old → Pops turns end old new items → 0 < length new
one_is_left turns count end old new items more few so_far =
    omega (arith, more, few, length_seen end old, length_seen end new, ap length so_far.left, length-drop turns (seen_from end old))

-- no more are taken than there are
take_most : {A : Type 0} (count n : ℕ) (xs : List A) → (count < length xs) ⊎ (length xs ≤ count) → n ≡ min count (length xs) → take n xs ≡ take count xs
take_most count n xs (inl fewer) is = let same : n ≡ count = omega (arith, fewer, is) in ap (λ k. take k xs) same
take_most count n xs (inr more) is = take_all n xs (omega (arith, more, is)) ∙ sym (take_all count xs more)

drop_most : {A : Type 0} (count n : ℕ) (xs : List A) → (count < length xs) ⊎ (length xs ≤ count) → n ≡ min count (length xs) → drop n xs ≡ drop count xs
drop_most count n xs (inl fewer) is = let same : n ≡ count = omega (arith, fewer, is) in ap (λ k. drop k xs) same
drop_most count n xs (inr more) is = drop_all n xs (omega (arith, more, is)) ∙ sym (drop_all count xs more)

pub most_taken : (end : End) (count n : ℕ) (items : List Bytes) → n ≡ min count (length items) → first_items end n items ≡ first_items end count items
most_taken end count n items is =
    take_most count n (seen_from end items) (cases_lt count (length (seen_from end items))) (is ∙ ap (min count) (sym (length_seen end items)))

pub most_left : (end : End) (count n : ℕ) (items : List Bytes) → n ≡ min count (length items) → without_items end n items ≡ without_items end count items
most_left end count n items is =
    ap (seen_from end) (drop_most count n (seen_from end items) (cases_lt count (length (seen_from end items))) (is ∙ ap (min count) (sym (length_seen end items))))
