use Rattle.std.proofs.Common.{None, sym, subst}
use Rattle.nr_model.specs.SortedSets.{told_range, without}
use Rattle.nr_model.specs.Keyspace.{key_of}
use Rattle.nr_model.specs.Commands.Shape.{performed, staying}
use Rattle.nr_model.specs.Commands.Reading.{Read}
use Rattle.nr_model.specs.Commands.SortedSets as sorted_sets
use Rattle.nr_model.specs.declared.command.Direction.TheVariants.{Ascending}
use Rattle.nr_resp.specs.Done.{Performs}
use Rattle.nr_ranked.specs.Reading.{ends_of}
use Rattle.nr_ranked.proofs.removing.remove_range.Goals as goal

pub returns : goal.returns
returns g c =
    let old = c.args.keyspace.now in
    let database = c.args.database in
    let ends = ends_of c.in_ok-name.field-0.ends in
    subst (λ (read : Read sorted_sets.EndsRequest). Performs g.T.Touched.after c.change_at.result c.change_at.new.keyspace database c.args.touched.now c.change_at.new.touched
    (staying database (performed old read (λ request. performed old (sorted_sets.sorted_at old database request.name) (λ scores.
    sorted_sets.left_with old (key_of database request.name) scores (without (told_range request.ends Ascending None scores) scores)))))) (sym c.in_ok-name.ensures.request)
    (c.change_at.ensures (λ scores keyspace key. sorted_sets.left_with keyspace key scores (without (told_range ends Ascending None scores) scores)) (λ old new given is. is))
