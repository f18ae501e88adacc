-- Names that match a pattern, at some keys.
use Rattle.std.specs.Prelude.{◌≡◌, [], ◌∷◌, None, codes}
use Rattle.std.specs.FinMap as map
use Rattle.nr_model.specs.Replies.{Bulk, array}
use Rattle.nr_model.specs.Keyspace.{key_of, Keyspace, Stored, Text}
use Rattle.nr_model.specs.Commands.Keys.{matching}

abbrev pub one : Stored
one = record { value = Text (codes "1"); deadline = None }

-- hello, hallo and hxllo in database 0, and hillo in database 1
abbrev pub four : Keyspace
four =
    map.from_entries ((key_of 0 (codes "hello"), one) ∷ (key_of 1 (codes "hillo"), one) ∷ (key_of 0 (codes "hallo"), one) ∷ (key_of 0 (codes "hxllo"), one) ∷ [])

pub record KeysRows : Type 0 where
  pub negated_class : matching four 0 (codes "h[^a-c]llo" ∷ []) ≡ array (Bulk (codes "hello") ∷ Bulk (codes "hxllo") ∷ [])
  pub in_byte_order : matching four 0 (codes "*" ∷ []) ≡ array (Bulk (codes "hallo") ∷ Bulk (codes "hello") ∷ Bulk (codes "hxllo") ∷ [])
  pub of_another_database : matching four 1 (codes "h?llo" ∷ []) ≡ array (Bulk (codes "hillo") ∷ [])
  pub none_matches : matching four 0 (codes "h?" ∷ []) ≡ array []
