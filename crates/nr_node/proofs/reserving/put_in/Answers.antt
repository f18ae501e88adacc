use Rattle.std.proofs.Common.{◌<◌, ℕ, [], None, ap, sym, ◌∙◌, subst, get_or}
use Rattle.std.proofs.lemmas.List.{append-nil}
use Rattle.nr_entry.specs.Shares.{shares_of}
use Rattle.nr_log_end.specs.declared.standing.Standing.{Standing}
use Rattle.nr_log_end.specs.declared.standing.Load.{Load}
use Rattle.nr_oplog.specs.declared.view.LogView.{LogView}
use Rattle.nr_node.proofs.Taking.{still_met}
use Rattle.nr_node.proofs.reserving.put_in.Goals as goal

pub reserve-requires-clause-nodes : goal.reserve-requires-clause-nodes
reserve-requires-clause-nodes g c = subst (λ (n : ℕ). 0 < n) c.requires.nodes.0 c.requires.nodes.1

pub fill_all-requires : goal.fill_all-requires
fill_all-requires g c =
    let q = c.requires.shares in
    let is = c.in-Taken.ensures.taken.0 in (
      sym (ap (λ (s : Standing). s.at) is),
      (q.0, ap (λ (s : Standing). s.unfilled) is ∙ q.1 ∙ ap (shares_of q.0) (sym c.requires.nodes.0)),
    )

pub returns-in-Refused-clause-refused : goal.returns-in-Refused-clause-refused
returns-in-Refused-clause-refused g c =
    let refused = c.in-Refused.ensures.refused in
    (refused.0, still_met c.args.end.now c.reserve.new.end refused.1)

pub returns-in-Refused-clause-filled : goal.returns-in-Refused-clause-filled
returns-in-Refused-clause-filled g c = λ node. ap (λ (v : LogView). get_or v.standing.unfilled node None) c.in-Refused.ensures.refused.1 ∙ c.requires.filled node

pub returns-in-Refused-clause-looks : goal.returns-in-Refused-clause-looks
returns-in-Refused-clause-looks g c = ([], ap (λ (v : LogView). v.looks) c.in-Refused.ensures.refused.1 ∙ sym (append-nil {A = Load} c.args.end.now.looks))
