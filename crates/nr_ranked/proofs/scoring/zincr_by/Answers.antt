use Rattle.std.proofs.Common.{rules, ◌≡◌, ℤ, to_z, of_z, w64, sym, subst}
use Rattle.nr_model.specs.Keyspace.{key_of}
use Rattle.nr_model.specs.Commands.Shape.{performed, staying}
use Rattle.nr_model.specs.Commands.Reading.{Read}
use Rattle.nr_model.specs.Commands.Keys.{unconditional}
use Rattle.nr_model.specs.Commands.SortedSets as sorted_sets
use Rattle.nr_resp.specs.Done.{Performs}
use Rattle.nr_ranked.specs.Changing.{Gives}
use Rattle.nr_ranked.proofs.scoring.zincr_by.Goals as goal

pub returns : goal.returns
returns g c =
    let old = c.args.keyspace.now in
    let database = c.args.database in
    let request = c.in_ok-name.field-0 in
    let same : to_z w64 (of_z w64 request.by) ≡ request.by = search rules in
    subst (λ (read : Read sorted_sets.RaiseRequest). Performs g.T.Touched.after c.change_at.result c.change_at.new.keyspace database c.args.touched.now c.change_at.new.touched
    (staying database (performed old read (λ request. performed old (sorted_sets.sorted_at old database request.name) (λ scores.
    sorted_sets.raise old (key_of database request.name) unconditional scores (request.member, request.by)))))) (sym c.in_ok-name.ensures.request)
    (c.change_at.ensures (λ scores keyspace key. sorted_sets.raise keyspace key unconditional scores (request.member.now, request.by))
    (λ old new given is. subst (λ (by : ℤ). Gives (λ keyspace key. sorted_sets.raise keyspace key unconditional old (request.member.now, by)) new given) same is))
