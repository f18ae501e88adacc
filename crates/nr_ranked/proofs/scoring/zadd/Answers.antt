use Rattle.std.proofs.Common.{◌≡◌, map, sym, subst, ap, ◌∙◌}
use Rattle.std.specs.Prelude.{Ok}
use Rattle.nr_model.specs.Keyspace.{key_of}
use Rattle.nr_model.specs.Commands.Shape.{performed, staying}
use Rattle.nr_model.specs.Commands.Reading.{Read}
use Rattle.nr_model.specs.Commands.SortedSets as sorted_sets
use Rattle.nr_resp.specs.Done.{Performs}
use Rattle.nr_zsets.specs.Lists.{shown}
use Rattle.nr_ranked.proofs.scoring.zadd.Goals as goal

pub returns : goal.returns
returns g c =
    let old = c.args.keyspace.now in
    let database = c.args.database in
    let request = c.in_ok-name.field-0 in
    let pairs = map shown c.deref.result.now in
    let read : sorted_sets.add_request c.args.words.now ≡ Ok (record { name = request.name.now; options = request.options; pairs = pairs }) =
    c.in_ok-name.ensures.request ∙ ap (λ pairs. Ok (record { name = request.name.now; options = request.options; pairs = map shown pairs })) (sym c.deref.ensures.value) in
    subst (λ (read : Read sorted_sets.AddRequest). Performs g.T.Touched.after c.change_at.result c.change_at.new.keyspace database c.args.touched.now c.change_at.new.touched
    (staying database (performed old read (λ request. performed old (sorted_sets.sorted_at old database request.name) (λ scores.
    sorted_sets.add_pairs old (key_of database request.name) request.options scores request.pairs))))) (sym read)
    (c.change_at.ensures (λ scores keyspace key. sorted_sets.add_pairs keyspace key request.options scores pairs) (λ old new given is. is))
