use Rattle.std.proofs.Common.{◌≡◌, true, false, ap, sym, ◌∙◌, refl, rules}
use Rattle.nr_node.specs.Next.{jobs_next}
use Rattle.nr_node.proofs.Caught.{none_of}
use Rattle.nr_node.specs.Level.{NodeState}
use Rattle.nr_node.proofs.Loans.{has_lent, lent_by, lent_within, looked_at}
use Rattle.nr_node.proofs.Orders.{is_sound}
use Rattle.nr_node.proofs.Shares.{looked_last}
use Rattle.nr_node.proofs.node_core.Core.lend.Goals as goal

pub lend-requires-clause-sound : goal.lend-requires-clause-sound
lend-requires-clause-sound g c =
    let keeps = c.self.invariant in
    let inside = c.self.inside in
    is_sound inside.end.standing inside.end.standing inside.replica inside.accounts (jobs_next inside.next) refl keeps.1 keeps.0.level.opened keeps.0.order

pub invariant_of-self : goal.invariant_of-self
invariant_of-self g c =
    let keeps = c.self.invariant in
    let inside = c.self.inside in
    let last = c.lend.new.end in
    let w = lent_within inside.end.standing last.standing inside.replica c.lend.new.replica inside.accounts inside.next inside.nodes c.lend.ensures.met c.lend.ensures.replica
    (keeps.0, keeps.1, keeps.2, keeps.3, keeps.4) in
    (w.0, w.1, w.2, w.3, w.4, looked_last inside.kept inside.end last last.standing.seen c.lend.ensures.met c.lend.ensures.looks keeps.5)

pub returns-clause-lent : goal.returns-clause-lent
returns-clause-lent g c =
    let keeps = c.self.invariant in
    let inside = c.self.inside in
    let last = c.lend.new.end in
    let w = lent_within inside.end.standing last.standing inside.replica c.lend.new.replica inside.accounts inside.next inside.nodes c.lend.ensures.met c.lend.ensures.replica
    (keeps.0, keeps.1, keeps.2, keeps.3, keeps.4) in
    let idle : c.is_idle.result ≡ true = search rules in
    let not_due : c.is_some.result ≡ false = search rules in
    let none = ap jobs_next (none_of inside.next (sym c.is_some.ensures ∙ not_due)) in
    has_lent c.lend.result inside.end last inside.replica c.lend.new.replica inside.accounts inside.next inside.nodes c.args.self.now c.self.view_is c.lend.ensures.stood
    c.lend.ensures.lent c.lend.ensures.passed c.lend.ensures.in_log c.lend.ensures.looks w (c.is_idle.ensures idle) none

pub returns-clause-node : goal.returns-clause-node
returns-clause-node g c =
    let keeps = c.self.invariant in
    let inside = c.self.inside in
    let last = c.lend.new.end in
    let w = lent_within inside.end.standing last.standing inside.replica c.lend.new.replica inside.accounts inside.next inside.nodes c.lend.ensures.met c.lend.ensures.replica
    (keeps.0, keeps.1, keeps.2, keeps.3, keeps.4) in
    lent_by c.lend.result last.standing c.args.self.now.book.node c.lend.ensures.stood (sym w.0.order.book_is ∙ ap (λ (n : NodeState). n.book.node) c.self.view_is)

pub returns-clause-same : goal.returns-clause-same
returns-clause-same g c =
    let inside = c.self.inside in
    looked_at inside.end c.lend.new.end inside.replica c.lend.new.replica inside.accounts (jobs_next inside.next) c.args.self.now c.self.view_is c.lend.ensures.met
    c.lend.ensures.looks c.lend.ensures.replica
