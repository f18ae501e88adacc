use Rattle.std.proofs.Common.{◌≡◌, ◌∙◌, ◌++◌, ap, length, sym, subst}
use Rattle.std.specs.Prelude.{IfOk}
use Rattle.nr_entry.specs.Jobs.{items_of}
use Rattle.nr_entry.specs.Shares.{shares_of}
use Rattle.nr_entry.specs.declared.entry.Entry.{Entry}
use Rattle.nr_log_end.specs.declared.standing.Standing.{Standing}
use Rattle.nr_log_end.specs.Numbers.{AreRising}
use Rattle.nr_log_end.specs.Standings.{logged}
use Rattle.nr_oplog.specs.declared.view.LogView.{LogView}
use Rattle.nr_node_tests.proofs.Single.{single_rises}
use Rattle.nr_node_tests.proofs.stopped.reserves.Goals as goal

pub reserve-requires-clause-shares : goal.reserve-requires-clause-shares
reserve-requires-clause-shares g c =
    let entry = c.expect-entry.result in
    let made : (entry.node ≡ 0) × (length entry.jobs.items ≡ 1) =
    subst (λ r. IfOk r (λ (e : Entry). (e.node ≡ 0) × (length e.jobs.items ≡ 1))) c.expect-entry.ensures c.setting.ensures in
    let stands = ap (λ (v : LogView). v.standing) c.requires in (
      entry,
      c.in-Ok.ensures.ok ∙ ap (shares_of entry) (sym (ap (λ (s : Standing). s.nodes) stands)),
      made.0 ∙ sym (ap (λ (s : Standing). s.node) stands),
      subst (λ (s : Standing). AreRising s.node (logged s ++ items_of entry.jobs.items)) (sym stands) (single_rises 0 entry.jobs.items made.1),
    )
