use Rattle.std.proofs.Common.{◌∙◌, ◌-◌, ap, sym}
use Rattle.std.specs.FinSet as set
use Rattle.nr_model.specs.Keyspace.{key_of}
use Rattle.nr_model.specs.Commands.Sets.{with_each}
use Rattle.nr_members.proofs.SetChanges.{none_put}
use Rattle.nr_members.proofs.sets.changing.put.Goals as goal

pub returns-then-count-eq0 : goal.returns-then-count-eq0
returns-then-count-eq0 c missing =
    none_put c.args.keyspace.now (key_of c.args.database c.args.name.now) c.args.members.now missing
    (ap (λ s. set.len (with_each s c.args.members.now) - set.len s) (sym c.new-set.ensures)
    ∙ ap (λ s. set.len s - set.len c.new-set.result) (sym c.in_ok-count.ensures.ok)
    ∙ sym c.in_ok-count.ensures.new ∙ c.if-count-eq0.true)
