use Rattle.std.proofs.Common.{◌≡◌, ◌+◌, ◌<◌, None, ap, sym, ◌∙◌, get_or, arith}
use Rattle.nr_oplog.specs.declared.view.LogView.{LogView}
use Rattle.nr_node.proofs.Fresh.{started_kept}
use Rattle.nr_node.proofs.Shares.{none_last}
use Rattle.nr_node.proofs.node_core.Core.new.Goals as goal

pub invariant_of-result : goal.invariant_of-result
invariant_of-result g c =
    let node = c.args.node in
    let is = c.requires.end in
    let count : c.nodes-nodes.result ≡ c.args.setup.nodes = c.nodes-nodes.ensures.value in
    let some : 0 < c.nodes-nodes.result = omega (arith, count, c.nodes-nodes.ensures.allowed.one_node) in (
      started_kept c.args.end c.in_ok-new.field-0 c.in_ok-new-2.field-0 g.B.LogName.nodes g.B.LogName.places node (node + 1) c.workers-workers.result c.nodes-nodes.result
          is c.in_ok-new.ensures c.in_ok-new-2.ensures.accounts,
      ap (λ (v : LogView). v.standing.held) is,
      λ node. ap (λ (v : LogView). get_or v.standing.unfilled node None) is,
      count ∙ c.requires.nodes ∙ sym (ap (λ (v : LogView). v.standing.nodes) is),
      some,
      none_last c.new-3.result c.args.end c.new-3.ensures (ap (λ (v : LogView). v.standing.reservations) is),
    )
