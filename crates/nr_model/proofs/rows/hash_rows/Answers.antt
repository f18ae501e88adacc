use Rattle.std.proofs.Common.{◌≡◌, [], refl, sym, ◌∙◌}
use Rattle.std.proofs.lemmas.List.{nil_from_length}
use Rattle.std.specs.FinMap as map
use Rattle.std.specs.FinMap.{gets}
use Rattle.std.specs.Cmp.Lexicographic.{nat_list_cmp_total}
use Rattle.nr_model.specs.Bytes.{Bytes}
use Rattle.nr_model.specs.Keyspace.{byte_cmp}
use Rattle.nr_model.proofs.rows.hash_rows.Goals as goal

none : map.entries (map.empty {X = Bytes} {R = byte_cmp}) ≡ []
none = nil_from_length _ (sym (map.len-entries map.empty) ∙ map.len-empty byte_cmp Bytes)

pub returns : goal.returns
returns c = record {
  in_byte_order = simp (map.entries-insert {X = Bytes} nat_list_cmp_total, none) refl;
  again = simp (map.entries-insert {X = Bytes} nat_list_cmp_total, none) refl;
  found = simp gets refl;
  gone = simp gets refl;
}
