use Rattle.std.proofs.Common.{◌≡◌, [], ℤ, Bool, cond, None, refl, sym, ap, ◌∙◌}
use Rattle.std.proofs.lemmas.List.{nil_from_length}
use Rattle.std.specs.FinMap as finmap
use Rattle.std.specs.FinMap.{gets, nat_cmp-IsAntisymmetric, slice_cmp-IsAntisymmetric}
use Rattle.std.specs.Cmp.Lexicographic.{nat_list_cmp_total}
use Rattle.nr_model.specs.Bytes.{Bytes}
use Rattle.nr_model.specs.Keyspace.{byte_cmp}
use Rattle.nr_model.specs.SortedSets.{Scores}
use Rattle.nr_model.proofs.rows.sorted_set_rows.Goals as goal

none : finmap.entries (finmap.empty {X = ℤ} {R = byte_cmp}) ≡ []
none = nil_from_length _ (sym (finmap.len-entries finmap.empty) ∙ finmap.len-empty byte_cmp ℤ)

in_both : (p : Bytes → Bool) (sums : Scores) (q : Bytes) → finmap.get (finmap.retain_keys sums p) q ≡ cond (p q) (finmap.get sums q) None
in_both p sums q = finmap.get-retain_keys sums p q (λ x tied. ap p (sym (slice_cmp-IsAntisymmetric nat_cmp-IsAntisymmetric q x tied)))

pub returns : goal.returns
returns c = record {
  by_score = simp (finmap.entries-insert {X = ℤ} nat_list_cmp_total, none) refl;
  equal_by_bytes = simp (finmap.entries-insert {X = ℤ} nat_list_cmp_total, none) refl;
  rank = simp (finmap.entries-insert {X = ℤ} nat_list_cmp_total, none) refl;
  reversed_rank = simp (finmap.entries-insert {X = ℤ} nat_list_cmp_total, none) refl;
  no_rank = simp (finmap.entries-insert {X = ℤ} nat_list_cmp_total, none) refl;
  last_two = simp (finmap.entries-insert {X = ℤ} nat_list_cmp_total, none) refl;
  greatest = simp (finmap.entries-insert {X = ℤ} nat_list_cmp_total, none) refl;
  open_end = simp (finmap.entries-insert {X = ℤ} nat_list_cmp_total, none) refl;
  closed_end = simp (finmap.entries-insert {X = ℤ} nat_list_cmp_total, none) refl;
  reversed_then_limited = simp (finmap.entries-insert {X = ℤ} nat_list_cmp_total, none) refl;
  by_bytes = simp (finmap.entries-insert {X = ℤ} nat_list_cmp_total, none) refl;
  nothing_between = simp (finmap.entries-insert {X = ℤ} nat_list_cmp_total, none) refl;
  point_and_zeros = refl;
  point_alone = refl;
  fraction = refl;
  greatest_score = refl;
  too_great = refl;
  endless = refl;
  open_score = refl;
  open_bytes = refl;
  no_bound = refl;
  greater_alone = simp gets refl;
  changed_once = simp gets refl;
  new_alone = refl;
  summed = simp (finmap.entries-insert {X = ℤ} nat_list_cmp_total, none, gets) refl;
  least = simp (finmap.entries-insert {X = ℤ} nat_list_cmp_total, none, gets) refl;
  common = simp (finmap.entries-insert {X = ℤ} nat_list_cmp_total, none, in_both, gets) refl;
  judged_in_the_end = simp (finmap.entries-insert {X = ℤ} nat_list_cmp_total, none, gets) refl;
}
