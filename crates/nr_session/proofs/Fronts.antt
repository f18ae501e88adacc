-- What was added before a refusal is a front of what was to be added.
use Rattle.std.proofs.Common.{◌≡◌, ℕ, ◌+◌, ◌≤◌, List, [], ◌∷◌, ◌++◌, length, take, ap, sym, ◌∙◌, arith, length-append}
use Rattle.std.proofs.Math.Seq.{take-append_seam}
use Rattle.std.specs.Prelude.{Result, Ok, Err, OnErr}
use Rattle.std.proofs.lemmas.List.{take_all}
use Rattle.nr_model.specs.Items.{Item}
use Rattle.nr_session.specs.SessionState.{AddsFront}

pub on_err : {T E : Type 0} (r : Result T E) (P : Type 0) → P → OnErr r P
on_err (Ok x) P p = tt
on_err (Err e) P p = p

begun : {A : Type 0} (old now left all : List A) → now ++ left ≡ old ++ all → length old ≤ length now
    → (n : ℕ) × (n + length old ≡ length now) × (now ≡ old ++ take n all)
begun [] now left all e h = (length now, omega arith, sym (ap (take (length now)) (sym e) ∙ take-append_seam now left))
begun (x ∷ old) [] left all e h = absurd (omega arith)
begun (x ∷ old) (y ∷ now) left all e h =
    let heads : y ≡ x = cc in
    let tails : now ++ left ≡ old ++ all = cc in
    let more = begun old now left all tails (omega arith) in
    (more.0, omega (arith, more.1), λ i. heads i ∷ more.2 i)

-- the number of the next job counts what was added
pub adds_front : (old now left all : List Item) (start next : ℕ) → now ++ left ≡ old ++ all → length now + start ≡ length old + next → start ≤ next
    → AddsFront old now start next all
adds_front old now left all start next e counted on =
    let front = begun old now left all e (omega arith) in record {
      count = front.0;
      few = omega (arith, front.1, ap length e, length-append now left, length-append old all);
      added = front.2;
      numbered = omega (arith, front.1);
    }

-- all of them were added
pub adds_all : (old now all : List Item) (start next : ℕ) → now ≡ old ++ all → next ≡ start + length all → AddsFront old now start next all
adds_all old now all start next e numbered =
    record { count = length all; few = omega arith; added = e ∙ ap (λ js. old ++ js) (sym (take_all (length all) all (omega arith))); numbered = numbered }
