-- Where items stand is within the list.
use Rattle.std.proofs.Common.{◌≡◌, ℕ, zero, suc, ◌<◌, ◌^◌, Bool, List, length, drop, sym, subst, arith}
use Rattle.std.specs.Prelude.{All, filter, bytes_eq, ℤ}
use Rattle.std.specs.List.{enumerate_from}
use Rattle.std.proofs.lemmas.List.Elements.{All-take, All-drop, All-filter, All-map, All-weaker}
use Rattle.std.proofs.lemmas.List.FromFn.{length-enumerate_from}
use Rattle.nr_model.specs.Bytes.{Bytes}
use Rattle.nr_model.specs.Lists.{seen_from, end_of, limited, passed_over, places_of}
use Rattle.nr_model.specs.declared.command.End.{End}
use Rattle.nr_model.specs.declared.command.End.TheVariants.{Left, Right}
use Rattle.nr_lists.specs.Matches.{place_from}
use Rattle.nr_lists.proofs.Placed.{numbered_at}
use Rattle.nr_lists.proofs.TakenOut.{length_seen}

place_within : (end : End) (len at : ℕ) → at < len → place_from end len at < len
place_within Left len at within = within
place_within Right len at within = omega (arith, within)

numbered_within : (end : End) (items : List Bytes) → All (λ (numbered : ℕ × Bytes). numbered.0 < length items) (seen_from end (enumerate_from 0 items))
numbered_within end items at other within =
    let here : at < length items = omega (arith, within, length_seen end (enumerate_from 0 items), length-enumerate_from 0 items) in
    subst (λ (numbered : ℕ × Bytes). numbered.0 < length items) (sym (numbered_at end items at other here)) (place_within end (length items) at here)

limited_within : {A : Type 0} (P : A → Type 0) (most : ℕ) (xs : List A) → All P xs → All P (limited most xs)
limited_within P zero xs all = all
limited_within P (suc most) xs all = All-take P (suc most) xs all

places_within : (rank : ℤ) (count most : ℕ) (bytes : Bytes) (items : List Bytes) (places : List ℕ) → places ≡ places_of rank count most bytes items
    → All (λ place. place < length items) places
places_within rank count most bytes items places are =
    let within : ℕ × Bytes → Type 0 = λ numbered. numbered.0 < length items in
    let same : ℕ × Bytes → Bool = λ numbered. bytes_eq numbered.1 bytes in
    let looked_at = limited most (seen_from (end_of rank) (enumerate_from 0 items)) in
    let found = drop (passed_over rank) (filter same looked_at) in
    let all : All within (limited count found) =
    limited_within within count found (All-drop within (passed_over rank) (filter same looked_at)
    (All-filter same within looked_at (limited_within within most (seen_from (end_of rank) (enumerate_from 0 items)) (numbered_within (end_of rank) items)))) in
    subst (λ (ps : List ℕ). All (λ place. place < length items) ps) (sym are)
    (All-map (λ place. place < length items) (λ (numbered : ℕ × Bytes). numbered.0) (limited count found) all)

pub places_small : (rank : ℤ) (count most : ℕ) (bytes : Bytes) (items : List Bytes) (places : List ℕ) → length items < 2 ^ 63 → places ≡ places_of rank count most bytes items
    → All (λ place. place < 2 ^ 63) places
places_small rank count most bytes items places few are =
    All-weaker (λ place. place < length items) (λ place. place < 2 ^ 63) (λ place (within : place < length items). omega (arith, within, few)) places
    (places_within rank count most bytes items places are)
