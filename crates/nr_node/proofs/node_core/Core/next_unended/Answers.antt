use Rattle.std.proofs.Common.{refl}
use Rattle.std.proofs.lemmas.Option.{IfSome_then}
use Rattle.nr_node.specs.Level.{NodeState}
use Rattle.nr_node.specs.Next.{jobs_next}
use Rattle.nr_node.proofs.Unended.{all_told}
use Rattle.nr_node.proofs.node_core.Core.next_unended.Goals as goal

pub returns-clause-served : goal.returns-clause-served
returns-clause-served g c =
    let inside = c.self.inside in
    let n : NodeState = record { seat = inside.end; replica = inside.replica; book = inside.accounts; next = jobs_next inside.next } in
    IfSome_then c.next_unended.result
    (all_told n c.args.self.now inside.next inside.nodes c.args.worker c.args.last c.next_unended.result c.self.view_is c.self.invariant.0 refl
    c.next_unended.ensures.found c.next_unended.ensures.next) (λ one told. told.served)

pub returns-clause-numbered : goal.returns-clause-numbered
returns-clause-numbered g c =
    let inside = c.self.inside in
    let n : NodeState = record { seat = inside.end; replica = inside.replica; book = inside.accounts; next = jobs_next inside.next } in
    IfSome_then c.next_unended.result
    (all_told n c.args.self.now inside.next inside.nodes c.args.worker c.args.last c.next_unended.result c.self.view_is c.self.invariant.0 refl
    c.next_unended.ensures.found c.next_unended.ensures.next) (λ one told. told.numbered)

pub returns-clause-some : goal.returns-clause-some
returns-clause-some g c =
    let inside = c.self.inside in
    let n : NodeState = record { seat = inside.end; replica = inside.replica; book = inside.accounts; next = jobs_next inside.next } in
    IfSome_then c.next_unended.result
    (all_told n c.args.self.now inside.next inside.nodes c.args.worker c.args.last c.next_unended.result c.self.view_is c.self.invariant.0 refl
    c.next_unended.ensures.found c.next_unended.ensures.next) (λ one told. told.some)
