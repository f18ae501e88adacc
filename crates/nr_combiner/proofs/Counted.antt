-- Batches that are numbered from nought on.
use Rattle.std.proofs.Common.{◌≡◌, ℕ, suc, ◌+◌, List, [], ◌∷◌, ◌++◌, length, ap, sym, subst, arith, length-append}
use Rattle.nr_model.specs.Bytes.{IsBeginningOf}
use Rattle.nr_entry.specs.declared.batch.Batch.{Batch}
use Rattle.nr_combiner.specs.Workers.{CountFrom}

-- one more, with the next number
pub counted_more : (n : ℕ) (batches : List Batch) (batch : Batch) → CountFrom n batches → batch.number ≡ n + length batches → CountFrom n (batches ++ batch ∷ [])
counted_more n [] batch counted is = (omega (arith, is), tt)
counted_more n (first ∷ batches) batch counted is = (counted.0, counted_more (suc n) batches batch counted.1 (omega (arith, is)))

-- so it goes on
pub counted_next : (old new : List Batch) (batch : Batch) (next : ℕ) → new ≡ old ++ batch ∷ [] → CountFrom 0 old → next ≡ length old → batch.number ≡ next
    → CountFrom 0 new × (next + 1 ≡ length new)
counted_next old new batch next is counted long number = (
  subst (CountFrom 0) (sym is) (counted_more 0 old batch counted (omega (arith, number, long))),
  omega (arith, long, ap length is, length-append old (batch ∷ [])),
)

-- the number of the last
last_number : (n : ℕ) (batches : List Batch) (last : Batch) → CountFrom n (batches ++ last ∷ []) → last.number ≡ n + length batches
last_number n [] last counted = omega (arith, counted.0)
last_number n (first ∷ batches) last counted = let more = last_number (suc n) batches last counted.1 in omega (arith, more)

-- One of these that stands at the end of a beginning and has the last one's number is the last.
pub is_last_of : (n : ℕ) (first : List Batch) (batch : Batch) (posted : List Batch) (last : Batch) → IsBeginningOf (first ++ batch ∷ []) (posted ++ last ∷ [])
    → CountFrom n (posted ++ last ∷ []) → batch.number ≡ last.number → batch ≡ last
is_last_of n [] batch [] last front counted same = cc front.1
is_last_of n [] batch (p ∷ posted) last front counted same =
    let here : batch ≡ p = cc front.1 in
    let at = last_number (suc n) posted last counted.1 in
    let number = ap (λ (b : Batch). b.number) here in
    absurd (omega (arith, at, counted.0, number, same))
is_last_of n (f ∷ first) batch [] last front counted same =
    let long : suc (length ((first ++ batch ∷ []) ++ front.0)) ≡ 1 = ap length front.1 in
    let more = length-append (first ++ batch ∷ []) front.0 in
    let some = length-append first (batch ∷ []) in
    absurd (omega (arith, long, more, some))
is_last_of n (f ∷ first) batch (p ∷ posted) last front counted same = is_last_of (suc n) first batch posted last (front.0, cc front.1) counted.1 same
