use Rattle.std.proofs.Common.{take, sym, subst}
use Rattle.nr_model.specs.SortedSets.{ranked, told_in}
use Rattle.nr_model.specs.Keyspace.{key_of}
use Rattle.nr_model.specs.Commands.Shape.{performed, staying}
use Rattle.nr_model.specs.Commands.Reading.{Read}
use Rattle.nr_model.specs.Commands.SortedSets as sorted_sets
use Rattle.nr_resp.specs.Done.{Performs}
use Rattle.nr_ranked.proofs.popping.pop.Goals as goal

pub returns : goal.returns
returns g c =
    let old = c.args.keyspace.now in
    let database = c.args.database in
    let count = c.in_ok-name.field-0.count in
    subst (λ (read : Read sorted_sets.PopRequest). Performs g.T.Touched.after c.change_at.result c.change_at.new.keyspace database c.args.touched.now c.change_at.new.touched
    (staying database (performed old read (λ request. performed old (sorted_sets.sorted_at old database request.name) (λ scores.
    sorted_sets.popped old (key_of database request.name) scores (take request.count (told_in c.args.direction (ranked scores)))))))) (sym c.in_ok-name.ensures.request)
    (c.change_at.ensures (λ scores keyspace key. sorted_sets.popped keyspace key scores (take count (told_in c.args.direction (ranked scores)))) (λ old new given is. is))
