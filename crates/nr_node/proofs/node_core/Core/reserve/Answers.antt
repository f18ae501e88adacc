use Rattle.std.proofs.Common.{◌≡◌, ℕ, ◌<◌, inl, List, Option, false, refl, ap, sym, ◌∙◌, subst}
use Rattle.nr_entry.specs.Shares.{shares_of}
use Rattle.nr_entry.specs.declared.entry.Entry.{Entry}
use Rattle.nr_log_end.specs.declared.standing.Standing.{Standing}
use Rattle.nr_node.specs.Level.{NodeState, unpassed, jobs_reserved}
use Rattle.nr_node.specs.Next.{jobs_next, IsNextOf}
use Rattle.nr_node.specs.Reserved.{IsReserved}
use Rattle.nr_node.specs.Steps.{HasReserved}
use Rattle.nr_node.proofs.Lists.{jobs_reserved_more}
use Rattle.nr_node.proofs.Orders.{due_rises}
use Rattle.nr_node.proofs.Taking.{some_is, none_is, memory_kept, none_kept, reserved_within, back_within}
use Rattle.nr_node.specs.OwnEntries.{IsFirst}
use Rattle.nr_node.proofs.Shares.{kept_more, one_of_all, reserved_more, reserved_nodes, met_last}
use Rattle.nr_node.proofs.node_core.Core.reserve.Goals as goal

pub invariant_of-self : goal.invariant_of-self
invariant_of-self g c =
    let keeps = c.self.invariant in
    let inside = c.self.inside in (
      memory_kept inside.end.standing inside.replica c.take_shares.new.replica inside.accounts inside.next c.take_shares.new.next inside.nodes c.in_err-shares.ensures.err
          (subst (λ (n : ℕ). IsNextOf n inside.nodes c.take_shares.new.next) (sym keeps.0.level.node) c.in_err-shares.ensures.next) keeps.0,
      keeps.1,
      keeps.2,
      keeps.3,
      keeps.4,
      keeps.5,
    )

pub invariant_of-self-in_default : goal.invariant_of-self-in_default
invariant_of-self-in_default g c =
    let keeps = c.self.invariant in
    let inside = c.self.inside in (
      none_kept inside.end.standing inside.replica c.take_shares.new.replica inside.accounts inside.next c.take_shares.new.next inside.nodes
          (none_is _ _ c.in_default.is c.in_ok-shares.ensures.none) keeps.0,
      keeps.1,
      keeps.2,
      keeps.3,
      keeps.4,
      keeps.5,
    )

pub put_in-requires-clause-nodes : goal.put_in-requires-clause-nodes
put_in-requires-clause-nodes g c = (c.self.invariant.3, c.self.invariant.4)

pub put_in-requires-clause-shares : goal.put_in-requires-clause-shares
put_in-requires-clause-shares g c =
    let keeps = c.self.invariant in
    let got = some_is _ _ _ c.in-Some.is c.in_ok-shares.ensures.some in (
      got.0,
      got.1 ∙ ap (shares_of got.0) keeps.3,
      got.2 ∙ sym keeps.0.level.node,
      due_rises c.self.inside.end.standing got.0 c.self.inside.replica c.self.inside.accounts (jobs_next c.self.inside.next) got.3.due keeps.0.order,
    )

pub invariant_of-self-in-Taken : goal.invariant_of-self-in-Taken
invariant_of-self-in-Taken g c =
    let inside = c.self.inside in
    let got = some_is _ _ _ c.in-Some.is c.in_ok-shares.ensures.some in
    let t = c.put_in.new.end.standing in
    let named = subst (λ (shares : List (Option Entry)). IsReserved c.in-Taken.field-0 shares inside.end.standing t) (got.1 ∙ ap (shares_of got.0) c.self.invariant.3) c.in-Taken.ensures.taken in
    let up : inside.replica.down ≡ false = sym c.is_down.ensures ∙ c.if-is_down.false in
    let w = reserved_within inside.end.standing t c.in-Taken.field-0 got.0 inside.replica c.take_shares.new.replica inside.accounts inside.next c.take_shares.new.next inside.nodes named got.3 up
    c.put_in.ensures.filled (c.self.invariant.0, c.self.invariant.1, c.self.invariant.2, c.self.invariant.3, c.self.invariant.4) in
    let first = subst IsFirst (sym got.1) (one_of_all got.0 inside.nodes c.self.invariant.4) in
    (w.0, w.1, w.2, w.3, w.4, kept_more inside.kept c.put_in.new.kept c.in-Taken.field-0 c.in-Some.shares first.1.0 inside.end c.put_in.new.end first.1.1 c.in-Taken.ensures.kept (reserved_more inside.end c.put_in.new.end c.in-Taken.field-0 c.in-Some.shares c.in-Taken.ensures.taken) (reserved_nodes inside.end c.put_in.new.end c.in-Taken.field-0 c.in-Some.shares c.in-Taken.ensures.taken) c.put_in.ensures.looks c.self.invariant.5)

pub invariant_of-self-in-Full : goal.invariant_of-self-in-Full
invariant_of-self-in-Full g c =
    let inside = c.self.inside in
    let got = some_is _ _ _ c.in-Some.is c.in_ok-shares.ensures.some in
    let back = c.in-Full.ensures.full in
    let w = back_within inside.end.standing c.put_in.new.end.standing got.0 inside.replica c.take_shares.new.replica inside.accounts inside.next c.take_shares.new.next c.in-Some.shares
    c.in-Full.shares inside.nodes back.1 got.3 got.1 back.0 got.2 c.put_in.ensures.filled (c.self.invariant.0, c.self.invariant.1, c.self.invariant.2, c.self.invariant.3, c.self.invariant.4) in
    (w.0, w.1, w.2, w.3, w.4, met_last inside.kept c.put_in.new.kept inside.end c.put_in.new.end c.in-Full.ensures.others back.1 c.put_in.ensures.looks c.self.invariant.5)

pub invariant_of-self-in-Lost : goal.invariant_of-self-in-Lost
invariant_of-self-in-Lost g c =
    let inside = c.self.inside in
    let got = some_is _ _ _ c.in-Some.is c.in_ok-shares.ensures.some in
    let back = c.in-Lost.ensures.lost in
    let w = back_within inside.end.standing c.put_in.new.end.standing got.0 inside.replica c.take_shares.new.replica inside.accounts inside.next c.take_shares.new.next c.in-Some.shares
    c.in-Lost.shares inside.nodes back.1 got.3 got.1 back.0 got.2 c.put_in.ensures.filled (c.self.invariant.0, c.self.invariant.1, c.self.invariant.2, c.self.invariant.3, c.self.invariant.4) in
    (w.0, w.1, w.2, w.3, w.4, met_last inside.kept c.put_in.new.kept inside.end c.put_in.new.end c.in-Lost.ensures.others back.1 c.put_in.ensures.looks c.self.invariant.5)

pub invariant_of-self-in-Refused : goal.invariant_of-self-in-Refused
invariant_of-self-in-Refused g c =
    let inside = c.self.inside in
    let got = some_is _ _ _ c.in-Some.is c.in_ok-shares.ensures.some in
    let back = c.in-Refused.ensures.refused in
    let w = back_within inside.end.standing c.put_in.new.end.standing got.0 inside.replica c.take_shares.new.replica inside.accounts inside.next c.take_shares.new.next c.in-Some.shares
    c.in-Refused.shares inside.nodes back.1 got.3 got.1 back.0 got.2 c.put_in.ensures.filled (c.self.invariant.0, c.self.invariant.1, c.self.invariant.2, c.self.invariant.3, c.self.invariant.4) in
    (w.0, w.1, w.2, w.3, w.4, met_last inside.kept c.put_in.new.kept inside.end c.put_in.new.end c.in-Refused.ensures.others back.1 c.put_in.ensures.looks c.self.invariant.5)

pub returns-in-Taken-clause-done : goal.returns-in-Taken-clause-done
returns-in-Taken-clause-done g c = λ _.
    let keeps = c.self.invariant in
    let inside = c.self.inside in
    let got = some_is _ _ _ c.in-Some.is c.in_ok-shares.ensures.some in
    let reserved = subst (λ (shares : List (Option Entry)). IsReserved c.in-Taken.field-0 shares inside.end.standing c.put_in.new.end.standing)
    (got.1 ∙ ap (shares_of got.0) keeps.3) c.in-Taken.ensures.taken in
    let m : NodeState = record { seat = c.put_in.new.end; replica = c.take_shares.new.replica; book = inside.accounts; next = jobs_next c.take_shares.new.next } in
    inl (
      c.in-Taken.field-0,
      got.0,
      subst (λ (n : NodeState). HasReserved c.in-Taken.field-0 got.0 n m) c.self.view_is record {
        due = got.3.some;
        jobs = got.3.due;
        node = got.2;
        reserved = reserved;
        behind = ap (λ (x : Standing). jobs_reserved (unpassed x)) reserved.standing
            ∙ jobs_reserved_more inside.end.standing c.in-Taken.field-0 got.0 (subst (λ (k : ℕ). 0 < k) keeps.3 keeps.4) keeps.0.order.passed;
        next = ap jobs_next got.3.none;
        left = got.3.left;
        book = refl;
      },
    )
