use Rattle.std.proofs.Common.{rules, ◌∙◌, ap, sym, Some, None}
use Rattle.nr_entry.specs.Jobs.{connection_of}
use Rattle.nr_pubsub.specs.Holdings.{all_held_of}
use Rattle.nr_pubsub.proofs.Held.{last_given_up, one_given_up, nothing_given_up, changed_twice, held_at}
use Rattle.nr_pubsub.proofs.holders.Holders.unsubscribe.Goals as goal
use Rattle.nr_pubsub.proofs.holders.Holders.unsubscribe.Goals.{in-Some-1, in-None-1}

pub returns-in-None : goal.returns-in-None
returns-in-None c =
    let same = c.get_mut.follows.holds-at-none in
    nothing_given_up c.get_mut.follows.lender-at-none.entries c.args.self.now (connection_of c.args.conn) c.args.kind c.args.name.now
    (ap (λ m. all_held_of m.entries) same ∙ c.self.view_is) (c.in-None.ensures.value ∙ sym (ap (λ m. held_at m.entries (connection_of c.args.conn)) same))

pub returns-then-is_empty : goal.returns-then-is_empty
returns-then-is_empty c =
    let after = c.give_up-is_empty.new.holding in
    let conn = connection_of c.args.conn in
    let done =
    last_given_up c.self.inside.by_conn.entries c.remove.new.self.entries c.args.self.now conn c.args.kind c.args.name.now c.in-Some.holding.now after
    c.self.view_is c.in-Some.ensures.value
    (changed_twice c.self.inside.by_conn.entries (c.get_mut.follows.lender after).entries c.remove.new.self.entries conn (Some after) None
    ((c.get_mut.follows.holds after).3 (search rules)).0 c.remove.ensures.updates.0)
    c.give_up-is_empty.ensures.left (sym c.give_up-is_empty.ensures.empty ∙ c.if-is_empty.true) in
    elim c.match-remove.branch [
      | in-Some-1 w ↦ w.self-is ∙ done
      | in-None-1 w ↦ w.self-is ∙ done
    ]

pub returns-else-is_empty : goal.returns-else-is_empty
returns-else-is_empty c =
    let after = c.give_up-is_empty.new.holding in
    one_given_up c.self.inside.by_conn.entries (c.get_mut.follows.lender after).entries c.args.self.now
    (connection_of c.args.conn) c.args.kind c.args.name.now
    c.in-Some.holding.now after c.self.view_is c.in-Some.ensures.value ((c.get_mut.follows.holds after).3 (search rules)).0
    c.give_up-is_empty.ensures.left (sym c.give_up-is_empty.ensures.empty ∙ c.if-is_empty.false)
