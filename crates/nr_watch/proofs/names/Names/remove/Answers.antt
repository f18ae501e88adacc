use Rattle.std.proofs.Common.{rules, Some}
use Rattle.nr_watch.proofs.Standing.{no_items, fewer_conns, taken_out, none_taken, emptied, has_one-left, still_held, emptied_held}
use Rattle.nr_watch.proofs.names.Names.remove.Goals as goal

pub returns-in_default : goal.returns-in_default
returns-in_default c = rw c.get_mut.follows.holds-at-none (none_taken c.args.self.now.conns.entries c.args.name.now c.args.conn c.in_default.ensures.value)

pub returns-else-is_empty : goal.returns-else-is_empty
returns-else-is_empty c =
    let conns = c.remove.new.self in
    let changes = (c.get_mut.follows.holds conns).3 (search rules) in
    taken_out c.args.self.now.conns.entries (c.get_mut.follows.lender conns).entries c.args.name.now c.args.conn
    (Some c.in-Some.conns.now) (Some conns) c.in-Some.ensures.value changes.1 changes.3
    (fewer_conns c.in-Some.conns.now conns c.args.conn c.remove.ensures.updates.0)

pub returns-then-is_empty : goal.returns-then-is_empty
returns-then-is_empty c =
    let conns = c.remove.new.self in
    let changes = (c.get_mut.follows.holds conns).3 (search rules) in
    let less = (c.get_mut.follows.lender conns).entries in
    let gone = c.remove-then-is_empty.ensures.updates in
    emptied c.args.self.now.conns.entries less c.remove-then-is_empty.new.self.entries c.args.name.now c.args.conn
    (taken_out c.args.self.now.conns.entries less c.args.name.now c.args.conn
    (Some c.in-Some.conns.now) (Some conns) c.in-Some.ensures.value changes.1 changes.3
    (fewer_conns c.in-Some.conns.now conns c.args.conn c.remove.ensures.updates.0))
    conns (no_items conns.keys (c.is_empty.ensures.0 (search (rules, c.if-is_empty.true)))) changes.1 gone.1 gone.3

pub invariant_of-self-else-is_empty : goal.invariant_of-self-else-is_empty
invariant_of-self-else-is_empty c =
    let conns = c.remove.new.self in
    let changes = (c.get_mut.follows.holds conns).3 (search rules) in
    record {
      held = still_held c.args.self.now.conns.entries (c.get_mut.follows.lender conns).entries c.args.name.now (Some conns) c.args.self.now.held changes.1 changes.3
          (has_one-left conns.keys (λ none. search (rules, c.is_empty.ensures.1 none, c.if-is_empty.false)));
    }

pub invariant_of-self-then-is_empty : goal.invariant_of-self-then-is_empty
invariant_of-self-then-is_empty c =
    let conns = c.remove.new.self in
    let changes = (c.get_mut.follows.holds conns).3 (search rules) in
    let gone = c.remove-then-is_empty.ensures.updates in
    record {
      held = emptied_held c.args.self.now.conns.entries (c.get_mut.follows.lender conns).entries c.remove-then-is_empty.new.self.entries c.args.name.now
          (Some conns) c.args.self.now.held changes.1 changes.3 gone.1 gone.3;
    }
