use Rattle.std.proofs.Common.{◌++◌, ◌∙◌, ap, length, subst, sym}
use Rattle.std.specs.List.Sorted.{IsPermutation}
use Rattle.nr_packs.specs.Rows.{pairs_in}
use Rattle.nr_packs.specs.Tables.{pairs_of}
use Rattle.nr_packs.proofs.Sorting.{listed, written_back}
use Rattle.nr_packs.proofs.listed.list.Goals as goal

pub returns : goal.returns
returns c =
    let same = c.number.ensures.same ∙ ap pairs_in c.deref_mut.ensures.value in
    listed (pairs_of c.args.packs.now ++ c.args.long.now.entries) c.number.new.rows c.sort.new.rows.items (same ∙ c.in_ok-rows.ensures) c.requires
    c.number.ensures.numbered
    (subst (λ rows. IsPermutation rows c.sort.new.rows.items) (written_back _ c.number.new.rows c.in_ok-rows.rows.items (ap length (sym c.deref_mut.ensures.value) ∙ c.deref_mut.ensures.len) same) c.sort.ensures.permutation)
    c.sort.ensures.sorted
