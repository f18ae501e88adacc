use Rattle.std.proofs.Common.{rules, ◌∙◌, ap, sym, subst, Some, None, true≢false}
use Rattle.std.specs.List.Sorted.{IsStrictlySortedBy}
use Rattle.nr_model.specs.Items.{connection_cmp}
use Rattle.nr_entry.specs.Jobs.{connection_of}
use Rattle.nr_pubsub.specs.Standings.{IsPlaced, standing_of, standing_at, without}
use Rattle.nr_pubsub.proofs.Indexed.{fewer, emptied, nobody, nobody_rises, changed_twice, standing-set, in_order, set_at}
use Rattle.nr_pubsub.proofs.index.Index.remove.Goals as goal
use Rattle.nr_pubsub.proofs.index.Index.remove.Goals.{in-Some-1, in-None-1}

pub leave-is_empty-requires : goal.leave-is_empty-requires
leave-is_empty-requires c = subst (IsStrictlySortedBy connection_cmp)
    (standing-set c.self.inside.by_name.entries c.args.name.now c.in-Some.set.now (sym c.in-Some.ensures.value)) (c.self.invariant.each c.args.name.now)

pub returns-in-None : goal.returns-in-None
returns-in-None c =
    let same = c.get_mut.follows.holds-at-none in
    nobody c.args.self.now c.get_mut.follows.lender-at-none.entries c.args.name.now (connection_of c.args.conn)
    (ap (λ m. standing_of m.entries) same ∙ c.self.view_is) (ap (λ m. set_at m.entries c.args.name.now) same ∙ sym c.in-None.ensures.value)

pub invariant_of-self-then-is_empty : goal.invariant_of-self-then-is_empty
invariant_of-self-then-is_empty c =
    let set = c.leave-is_empty.new.set in
    let written = c.get_mut.follows.holds set in
    in_order c.self.inside.by_name.entries c.remove.new.self.entries c.args.name.now None c.self.invariant c.remove.ensures.ordered
    (changed_twice c.self.inside.by_name.entries (c.get_mut.follows.lender set).entries c.remove.new.self.entries c.args.name.now (Some set) None
    (written.3 (search rules)).0 c.remove.ensures.updates.0) nobody_rises

pub invariant_of-self-else-is_empty : goal.invariant_of-self-else-is_empty
invariant_of-self-else-is_empty c =
    let set = c.leave-is_empty.new.set in
    let written = c.get_mut.follows.holds set in
    in_order c.self.inside.by_name.entries (c.get_mut.follows.lender set).entries c.args.name.now (Some set) c.self.invariant written.4
    (written.3 (search rules)).0 c.leave-is_empty.ensures.ordered

pub returns-then-is_empty : goal.returns-then-is_empty
returns-then-is_empty c =
    let set = c.leave-is_empty.new.set in
    let written = c.get_mut.follows.holds set in
    let after = without (connection_of c.args.conn) (standing_at c.args.self.now c.args.name.now) in
    let done : IsPlaced c.args.self.now (standing_of c.remove.new.self.entries) c.args.name.now after =
    subst (λ m. IsPlaced m (standing_of c.remove.new.self.entries) c.args.name.now (without (connection_of c.args.conn) (standing_at m c.args.name.now)))
    c.self.view_is
    (emptied c.self.inside.by_name.entries c.remove.new.self.entries c.args.name.now c.in-Some.set.now set (connection_of c.args.conn)
    (sym c.in-Some.ensures.value)
    (changed_twice c.self.inside.by_name.entries (c.get_mut.follows.lender set).entries c.remove.new.self.entries c.args.name.now (Some set) None
    (written.3 (search rules)).0 c.remove.ensures.updates.0)
    c.leave-is_empty.ensures.left (c.leave-is_empty.ensures.empty.0 c.if-is_empty.true)) in
    elim c.match-remove.branch [
      | in-Some-1 w ↦ subst (λ m. IsPlaced c.args.self.now m c.args.name.now after) (sym w.self-is) done
      | in-None-1 w ↦ subst (λ m. IsPlaced c.args.self.now m c.args.name.now after) (sym w.self-is) done
    ]

pub returns-else-is_empty : goal.returns-else-is_empty
returns-else-is_empty c =
    let set = c.leave-is_empty.new.set in
    let written = c.get_mut.follows.holds set in
    subst (λ m. IsPlaced m (standing_of (c.get_mut.follows.lender set).entries) c.args.name.now
    (without (connection_of c.args.conn) (standing_at m c.args.name.now)))
    c.self.view_is
    (fewer c.self.inside.by_name.entries (c.get_mut.follows.lender set).entries c.args.name.now c.in-Some.set.now set (connection_of c.args.conn)
    (sym c.in-Some.ensures.value) (written.3 (search rules)).0 c.leave-is_empty.ensures.left
    (λ none. true≢false (sym (c.leave-is_empty.ensures.empty.1 none) ∙ c.if-is_empty.false)))
