-- What is listed of a hash: each field and its value in turn, and nothing where there are no fields.
use Rattle.std.proofs.Common.{◌≡◌, ℕ, List, [], ◌∷◌, ap, sym, ◌∙◌}
use Rattle.std.specs.Prelude.{flat_map, map as each, Option, None, Ok}
use Rattle.std.specs.Option.{option_map}
use Rattle.std.specs.FinMap as map
use Rattle.std.proofs.lemmas.List.{nil_from_length}
use Rattle.nr_model.specs.Bytes.{Bytes}
use Rattle.nr_model.specs.Hashes.{Hash, in_turn}
use Rattle.nr_model.specs.Keyspace.{Keyspace, byte_cmp}
use Rattle.nr_model.specs.Replies.{Reply, Bulk, array}
use Rattle.nr_model.specs.Commands.Reading.{one_word}
use Rattle.nr_model.specs.Commands.Hashes.{or_none, hash_at, listed}

-- each field and its value in turn
abbrev pub turns : List (Bytes × Bytes) → List Bytes
turns pairs = flat_map (λ pair. pair.0 ∷ pair.1 ∷ []) pairs

no_entries : map.entries (map.empty {X = Bytes} {R = byte_cmp}) ≡ []
no_entries = nil_from_length _ (sym (map.len-entries map.empty) ∙ map.len-empty byte_cmp Bytes)

-- a hash without fields shows nothing
pub no_fields : map.keys (map.empty {X = Bytes} {R = byte_cmp}) ≡ []
no_fields = ap (each (λ (e : Bytes × Bytes). e.0)) no_entries

pub no_values : map.values (map.empty {X = Bytes} {R = byte_cmp}) ≡ []
no_values = ap (each (λ (e : Bytes × Bytes). e.1)) no_entries

pub no_turns : in_turn map.empty ≡ []
no_turns = ap turns no_entries

-- nor does a key that is missing
pub none_listed : {A : Type 0} (items : Hash → List Bytes) (seen : A → Hash) (m : Keyspace) (database : ℕ) (words : List Bytes) (name : Bytes) (held : Option A) (shown : Reply)
    → items map.empty ≡ [] → one_word words ≡ Ok name → hash_at m database name ≡ Ok (or_none (option_map seen held)) → held ≡ None → shown ≡ array []
    → shown ≡ listed items m database words
none_listed {A} items seen m database words name held shown nothing word read none is =
    let empty : hash_at m database name ≡ Ok map.empty = read ∙ ap (λ (held : Option A). Ok (or_none (option_map seen held))) none in
    rw (word, empty) (is ∙ ap (λ (items : List Bytes). array (each Bulk items)) (sym nothing))
