-- What is read of a list with no items.
use Rattle.std.proofs.Common.{◌≡◌, ℕ, ℤ, pos, negsuc, zero, suc, Bool, [], ◌-◌, take, drop, map, refl, ap, ◌∙◌, arith}
use Rattle.std.specs.Prelude.{Some, None, filter, bytes_eq, slice_get, option_and_then, if◌then◌else◌}
use Rattle.std.proofs.lemmas.Bool.{le-ltb}
use Rattle.nr_model.specs.Bytes.{Bytes}
use Rattle.nr_model.specs.Strings.{range, range_start, range_end}
use Rattle.nr_model.specs.Lists.{item_at, seen_from, end_of, limited, passed_over, places_of}
use Rattle.nr_model.specs.declared.command.End.{End}
use Rattle.nr_model.specs.declared.command.End.TheVariants.{Left, Right}

pub no_item : (index : ℤ) → item_at {A = Bytes} index [] ≡ None
no_item (pos n) = ap (λ b. option_and_then (slice_get {X = Bytes} []) (if b then Some n else None)) (le-ltb n 0 (omega arith))
no_item (negsuc n) = ap (λ b. option_and_then (slice_get {X = Bytes} []) (if b then Some (0 - suc n) else None)) (le-ltb n 0 (omega arith))

take_none : {A : Type 0} (n : ℕ) → take {A = A} n [] ≡ []
take_none zero = refl
take_none (suc n) = refl

drop_none : {A : Type 0} (n : ℕ) → drop {A = A} n [] ≡ []
drop_none zero = refl
drop_none (suc n) = refl

pub no_range : (first last : ℤ) → range {A = Bytes} first last [] ≡ []
no_range first last =
    ap (take (range_end 0 last - range_start 0 first)) (drop_none (range_start 0 first)) ∙ take_none (range_end 0 last - range_start 0 first)

limited_none : {A : Type 0} (n : ℕ) → limited {A = A} n [] ≡ []
limited_none zero = refl
limited_none (suc n) = refl

seen_none : {A : Type 0} (end : End) → seen_from {A = A} end [] ≡ []
seen_none Left = refl
seen_none Right = refl

pub no_places : (rank : ℤ) (count most : ℕ) (item : Bytes) → places_of rank count most item [] ≡ []
no_places rank count most item =
    let same : ℕ × Bytes → Bool = λ numbered. bytes_eq numbered.1 item in
    ap (λ xs. map (λ (numbered : ℕ × Bytes). numbered.0) (limited count (drop (passed_over rank) (filter same xs)))) (ap (limited most) (seen_none (end_of rank)) ∙ limited_none most)
    ∙ ap (λ xs. map (λ (numbered : ℕ × Bytes). numbered.0) (limited count xs)) (drop_none (passed_over rank))
    ∙ ap (map (λ (numbered : ℕ × Bytes). numbered.0)) (limited_none count)
