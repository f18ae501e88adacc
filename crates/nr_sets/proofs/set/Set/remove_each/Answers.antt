use Rattle.std.proofs.Common.{◌≡◌, ap, sym, ◌∙◌, arith}
use Rattle.std.proofs.lemmas.List.{drop_all}
use Rattle.std.specs.FinSet as set
use Rattle.nr_model.specs.Commands.Sets.{without_each}
use Rattle.nr_sets.proofs.Gathered.{shrinks}
use Rattle.nr_sets.proofs.set.Set.remove_each.Goals as goal

pub overflow_sub-result : goal.overflow_sub-result
overflow_sub-result c =
    let all : c.loop-member.self ≡ without_each c.args.self.now c.args.members.now =
    sym (ap (λ left. without_each c.loop-member.self left) (drop_all c.loop-member.member-index c.args.members.now c.loop-member-test.false)) ∙ c.loop-member.invariant in
    omega (arith, c.len-before.ensures.len, c.len.ensures.len, ap (λ s. set.len s) all, shrinks c.args.self.now c.args.members.now)
