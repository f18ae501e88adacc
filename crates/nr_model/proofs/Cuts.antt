-- The frames of bytes that come in pieces.
use Rattle.std.proofs.Common.{◌≡◌, ℕ, zero, suc, ◌<◌, ◌≤◌, List, [], ◌∷◌, ◌++◌, length, Option, Some, None, refl, sym, ap, ◌∙◌, subst, arith}
use Rattle.std.proofs.lemmas.List.{nil_from_length}
use Rattle.nr_model.specs.declared.fault.Fault.{Fault}
use Rattle.nr_model.specs.Bytes.{Bytes}
use Rattle.nr_model.specs.Requests.{Frame, Front, Whole, Faulty, Partial, request_at, Framing, with_request, unfinished, broken, frames_within, framing_of}
use Rattle.nr_model.specs.Requests.Laws.{Extends, continued, framing_by, CutLaw, RestLaw, StepLaw, FuelLaw}
use Rattle.nr_model.proofs.Fronts.{Leaves, request_extends, request_leaves}

-- framing_by with any function for the rest
abbrev by_front : Bytes → (Bytes → Framing) → Front Frame → Framing
by_front bytes next (Whole words rest) = with_request words (next rest)
by_front bytes next (Faulty fault) = broken fault
by_front bytes next Partial = unfinished bytes

within_suc : (n : ℕ) (bytes : Bytes) → frames_within (suc n) bytes ≡ by_front bytes (frames_within n) (request_at bytes)
unfolding frames_within
within_suc n bytes = refl

within_nil : (n : ℕ) → frames_within n [] ≡ unfinished []
unfolding frames_within
within_nil zero = refl
within_nil (suc n) = refl

same_next : (bytes : Bytes) (next next' : Bytes → Framing) (front : Front Frame) → Leaves (λ rest. next rest ≡ next' rest) front
    → by_front bytes next front ≡ by_front bytes next' front
same_next bytes next next' (Whole words rest) same = ap (with_request words) same
same_next bytes next next' (Faulty fault) same = refl
same_next bytes next next' Partial same = refl

leaves_same : (n : ℕ) (next next' : Bytes → Framing) (front : Front Frame) → Leaves (λ rest. length rest < n) front
    → ((rest : Bytes) → length rest < n → next rest ≡ next' rest) → Leaves (λ rest. next rest ≡ next' rest) front
leaves_same n next next' (Whole words rest) left each = each rest left
leaves_same n next next' (Faulty fault) left each = tt
leaves_same n next next' Partial left each = tt

same_fuel : (m n : ℕ) (bytes : Bytes) → length bytes ≤ m → length bytes ≤ n → frames_within m bytes ≡ frames_within n bytes
same_fuel zero n bytes low high =
    let nil : bytes ≡ [] = nil_from_length bytes (omega arith) in
    ap (frames_within zero) nil ∙ within_nil zero ∙ sym (within_nil n) ∙ ap (frames_within n) (sym nil)
same_fuel (suc m) zero bytes low high =
    let nil : bytes ≡ [] = nil_from_length bytes (omega arith) in
    ap (frames_within (suc m)) nil ∙ within_nil (suc m) ∙ sym (within_nil zero) ∙ ap (frames_within zero) (sym nil)
same_fuel (suc m) (suc n) bytes low high =
    within_suc m bytes
    ∙ same_next bytes (frames_within m) (frames_within n) (request_at bytes)
    (leaves_same (length bytes) (frames_within m) (frames_within n) (request_at bytes) (request_leaves bytes)
    (λ rest less. same_fuel m n rest (omega arith) (omega arith)))
    ∙ sym (within_suc n bytes)

-- any number of steps from the length on gives the same frames
pub fuel_law : FuelLaw
unfolding framing_of
fuel_law n bytes le = same_fuel n (length bytes) bytes le (omega arith)

by_is : (bytes : Bytes) (front : Front Frame) → by_front bytes framing_of front ≡ framing_by bytes front
by_is bytes (Whole words rest) = refl
by_is bytes (Faulty fault) = refl
by_is bytes Partial = refl

pub step_law : StepLaw
step_law bytes =
    sym (fuel_law (suc (length bytes)) bytes (omega arith))
    ∙ within_suc (length bytes) bytes
    ∙ same_next bytes (frames_within (length bytes)) framing_of (request_at bytes)
    (leaves_same (length bytes) (frames_within (length bytes)) framing_of (request_at bytes) (request_leaves bytes)
    (λ rest less. fuel_law (length bytes) rest (omega arith)))
    ∙ by_is bytes (request_at bytes)

continued_request : (words : List Bytes) (framing : Framing) (more : Bytes)
    → with_request words (continued framing more) ≡ continued (with_request words framing) more
continued_request [] framing more = refl
continued_request (word ∷ words) framing more = by_fault framing.fault refl
  where
    by_fault : (fault : Option Fault) → framing.fault ≡ fault
        → with_request (word ∷ words) (continued framing more) ≡ continued (with_request (word ∷ words) framing) more
    by_fault None e = rw e refl
    by_fault (Some fault) e = rw e refl

-- what holds of each shorter rest
leaves_each : (P : Bytes → Type 0) (n : ℕ) (front : Front Frame) → Leaves (λ rest. length rest < n) front
    → ((rest : Bytes) → length rest < n → P rest) → Leaves P front
leaves_each P n (Whole words rest) left each = each rest left
leaves_each P n (Faulty fault) left each = tt
leaves_each P n Partial left each = tt

abbrev IsCut : Bytes → Bytes → Type 0
IsCut more bytes = framing_of (bytes ++ more) ≡ continued (framing_of bytes) more

cut_by : (bytes more : Bytes) (front front' : Front Frame) → framing_of bytes ≡ framing_by bytes front
    → framing_of (bytes ++ more) ≡ framing_by (bytes ++ more) front'
    → Extends front more front' → Leaves (IsCut more) front → IsCut more bytes
cut_by bytes more (Whole words rest) front' here there e left =
    there ∙ ap (framing_by (bytes ++ more)) e ∙ ap (with_request words) left ∙ continued_request words (framing_of rest) more
    ∙ ap (λ framing. continued framing more) (sym here)
cut_by bytes more (Faulty fault) front' here there e left = there ∙ ap (framing_by (bytes ++ more)) e ∙ ap (λ framing. continued framing more) (sym here)
cut_by bytes more Partial front' here there e left = ap (λ framing. continued framing more) (sym here)

cut_within : (n : ℕ) (bytes more : Bytes) → length bytes ≤ n → IsCut more bytes
cut_within zero bytes more le =
    cut_by bytes more (request_at bytes) (request_at (bytes ++ more)) (step_law bytes) (step_law (bytes ++ more)) (request_extends bytes more)
    (leaves_each (IsCut more) (length bytes) (request_at bytes) (request_leaves bytes) (λ rest less. absurd (omega arith)))
cut_within (suc n) bytes more le =
    cut_by bytes more (request_at bytes) (request_at (bytes ++ more)) (step_law bytes) (step_law (bytes ++ more)) (request_extends bytes more)
    (leaves_each (IsCut more) (length bytes) (request_at bytes) (request_leaves bytes) (λ rest less. cut_within n rest more (omega arith)))

pub cut_law : CutLaw
cut_law bytes more = cut_within (length bytes) bytes more (omega arith)

abbrev IsRest : Framing → Type 0
IsRest framing = framing.fault ≡ None → (request_at framing.rest ≡ Partial) × (framing_of framing.rest ≡ unfinished framing.rest)

rest_request : (words : List Bytes) (framing : Framing) → IsRest framing → IsRest (with_request words framing)
rest_request [] framing h = h
rest_request (word ∷ words) framing h = h

rest_by : (bytes : Bytes) (front : Front Frame) → request_at bytes ≡ front → Leaves (λ rest. IsRest (framing_of rest)) front → IsRest (framing_of bytes)
rest_by bytes (Whole words rest) e left = subst IsRest (sym (step_law bytes ∙ ap (framing_by bytes) e)) (rest_request words (framing_of rest) left)
rest_by bytes (Faulty fault) e left = subst IsRest (sym (step_law bytes ∙ ap (framing_by bytes) e)) (λ none. absurd (some_none none))
  where
    some_none : Some fault ≡ None → ⊥
    some_none none = cc
rest_by bytes Partial e left =
    let here : framing_of bytes ≡ unfinished bytes = step_law bytes ∙ ap (framing_by bytes) e in
    subst IsRest (sym here) (λ none. (e, here))

rest_within : (n : ℕ) (bytes : Bytes) → length bytes ≤ n → IsRest (framing_of bytes)
rest_within zero bytes le =
    rest_by bytes (request_at bytes) refl
    (leaves_each (λ rest. IsRest (framing_of rest)) (length bytes) (request_at bytes) (request_leaves bytes) (λ rest less. absurd (omega arith)))
rest_within (suc n) bytes le =
    rest_by bytes (request_at bytes) refl
    (leaves_each (λ rest. IsRest (framing_of rest)) (length bytes) (request_at bytes) (request_leaves bytes) (λ rest less. rest_within n rest (omega arith)))

pub rest_law : RestLaw
rest_law bytes = rest_within (length bytes) bytes (omega arith)
