use Rattle.std.proofs.Common.{◌≡◌, [], refl, sym, ◌∙◌}
use Rattle.std.proofs.lemmas.List.{nil_from_length}
use Rattle.std.specs.FinMap as map
use Rattle.nr_model.specs.Keyspace.{Stored, key_cmp}
use Rattle.nr_model.specs.Patterns.{parts, parts_from}
use Rattle.nr_model.proofs.Live.{key_total}
use Rattle.nr_model.proofs.rows.keys_rows.Goals as goal

none : map.entries (map.empty {X = Stored} {R = key_cmp}) ≡ []
none = nil_from_length _ (sym (map.len-entries map.empty) ∙ map.len-empty key_cmp Stored)

pub returns : goal.returns
unfolding parts parts_from
returns c = record {
  negated_class = simp (map.entries-insert {X = Stored} key_total, none) refl;
  in_byte_order = simp (map.entries-insert {X = Stored} key_total, none) refl;
  of_another_database = simp (map.entries-insert {X = Stored} key_total, none) refl;
  none_matches = simp (map.entries-insert {X = Stored} key_total, none) refl;
}
