-- What a sink has so far of what is emitted for one node.
use Rattle.std.proofs.Common.{◌≡◌, ℕ, suc, ◌+◌, ◌<◌, List, [], ◌∷◌, ◌++◌, length, take, drop, get_or, refl, ap, sym, ◌∙◌, subst, append_assoc, drop-cons, add-one}
use Rattle.std.specs.Prelude.{Result, Ok, Err, OnOk, OnErr}
use Rattle.std.proofs.lemmas.List.{append-nil, take-append-drop}
use Rattle.std.proofs.lemmas.List.Sums.{fold-append}
use Rattle.std.proofs.Math.Seq.{take-append_seam}
use Rattle.nr_model.specs.Sequential.{for_node}
use Rattle.nr_model.specs.Sequential.Events.{Emission}
use Rattle.nr_emission.specs.Emitted.{all_after}
use Rattle.nr_emission.proofs.Nodes.{for_node-append}

-- a front of emissions
abbrev pub IsFront : {S : Type 0} → (S → Emission → S) → S → S → List Emission → Type 0
IsFront after before here emissions = (n : ℕ) × (here ≡ all_after after before (take n emissions))

-- It has what of a front is for the node, and the rest is left of the whole.
pub record Sent {S : Type 0} (after : S → Emission → S) (node : ℕ) (before here : S) (whole rest : List Emission) : Type 0 where
  pub front : List Emission
  pub seen : here ≡ all_after after before (for_node node front)
  pub parts : front ++ rest ≡ whole

pub none_sent : {S : Type 0} (after : S → Emission → S) (node : ℕ) (before : S) (whole : List Emission) → Sent after node before before whole whole
none_sent after node before whole = record { front = []; seen = refl; parts = refl }

-- one part further
pub sent_more : {S : Type 0} (after : S → Emission → S) (node : ℕ) (before here later : S) (whole one rest : List Emission)
    → later ≡ all_after after here (for_node node one) → Sent after node before here whole (one ++ rest) → Sent after node before later whole rest
sent_more after node before here later whole one rest more sent =
    record {
      front = sent.front ++ one;
      seen =
          more ∙ ap (λ s. all_after after s (for_node node one)) sent.seen
          ∙ sym (fold-append after before (for_node node sent.front) (for_node node one))
          ∙ ap (all_after after before) (sym (for_node-append node sent.front one));
      parts = append_assoc sent.front one rest ∙ sent.parts;
    }

-- nothing is left
pub all_sent : {S : Type 0} (after : S → Emission → S) (node : ℕ) (before here : S) (whole : List Emission) → Sent after node before here whole []
    → here ≡ all_after after before (for_node node whole)
all_sent after node before here whole sent =
    sent.seen ∙ ap (λ (es : List Emission). all_after after before (for_node node es)) (sym (append-nil sent.front) ∙ sent.parts)

-- a front behind what was sent
pub front_more : {S : Type 0} (after : S → Emission → S) (node : ℕ) (before here later : S) (whole one rest : List Emission)
    → IsFront after here later (for_node node one) → Sent after node before here whole (one ++ rest) → IsFront after before later (for_node node whole)
front_more after node before here later whole one rest some sent =
    let front = for_node node sent.front in
    let part = for_node node one in
    let begun = take some.0 part in
    let left = drop some.0 part ++ for_node node rest in
    let parts : for_node node whole ≡ (front ++ begun) ++ left =
    ap (for_node node) (sym sent.parts) ∙ for_node-append node sent.front (one ++ rest) ∙ ap (λ es. front ++ es) (for_node-append node one rest)
    ∙ ap (λ es. front ++ (es ++ for_node node rest)) (sym (take-append-drop some.0 part))
    ∙ ap (λ es. front ++ es) (append_assoc begun (drop some.0 part) (for_node node rest)) ∙ sym (append_assoc front begun left) in (
      length (front ++ begun),
      some.1 ∙ ap (λ s. all_after after s begun) sent.seen ∙ sym (fold-append after before front begun)
          ∙ ap (all_after after before) (sym (ap (take (length (front ++ begun))) parts ∙ take-append_seam (front ++ begun) left)),
    )

-- what was sent is a front
pub front_sent : {S : Type 0} (after : S → Emission → S) (node : ℕ) (before here : S) (whole rest : List Emission) → Sent after node before here whole rest
    → IsFront after before here (for_node node whole)
front_sent after node before here whole rest sent = front_more after node before here here whole [] rest (0, refl) sent

-- the same where the step left the sink as it was
pub front_unchanged : {S : Type 0} (after : S → Emission → S) (node : ℕ) (before here later : S) (whole rest : List Emission) → later ≡ here
    → Sent after node before here whole rest → IsFront after before later (for_node node whole)
front_unchanged after node before here later whole rest same sent = front_more after node before here later whole [] rest (0, same) sent

-- all of it is a front
pub all_front : {S : Type 0} (after : S → Emission → S) (before here : S) (emissions : List Emission) → here ≡ all_after after before emissions
    → IsFront after before here emissions
all_front after before here emissions is =
    (length emissions, is ∙ ap (all_after after before) (sym (ap (take (length emissions)) (sym (append-nil emissions)) ∙ take-append_seam emissions [])))

-- fronts of two parts, the first of which was sent
pub first_front : {S : Type 0} (after : S → Emission → S) (node : ℕ) (before later : S) (one two : List Emission)
    → IsFront after before later (for_node node one)
    → IsFront after before later (for_node node (one ++ two))
first_front after node before later one two some = front_more after node before before later (one ++ two) one two some
    (none_sent after node before (one ++ two))

pub second_front : {S : Type 0} (after : S → Emission → S) (node : ℕ) (before here later : S) (one two : List Emission) → here
    ≡ all_after after before (for_node node one)
    → IsFront after here later (for_node node two) → IsFront after before later (for_node node (one ++ two))
second_front after node before here later one two first some =
    front_more after node before here later (one ++ two) two [] some
    (subst (Sent after node before here (one ++ two)) (sym (append-nil two))
    (sent_more after node before before here (one ++ two) one two first (none_sent after node before (one ++ two))))

pub both_front : {S : Type 0} (after : S → Emission → S) (node : ℕ) (before here later : S) (one two : List Emission) → here
    ≡ all_after after before (for_node node one)
    → later ≡ all_after after here (for_node node two) → IsFront after before later (for_node node (one ++ two))
both_front after node before here later one two first second =
    second_front after node before here later one two first (all_front after here later (for_node node two) second)

-- the list from an index on begins with the item there
pub cut : {A : Type 0} (xs : List A) (i : ℕ) (x : A) → i < length xs → x ≡ get_or xs i x → drop i xs ≡ x ∷ drop (i + 1) xs
cut xs i x below at = rw add-one (drop-cons xs i x below ∙ ap (λ y. y ∷ drop (suc i) xs) (sym at))

-- what an error and a success say
pub on_err : {T E : Type 0} (r : Result T E) (P : Type 0) → P → OnErr r P
on_err (Ok x) P p = tt
on_err (Err e) P p = p

pub on_ok : {T E : Type 0} (r : Result T E) (P : Type 0) → P → OnOk r P
on_ok (Ok x) P p = p
on_ok (Err e) P p = tt
