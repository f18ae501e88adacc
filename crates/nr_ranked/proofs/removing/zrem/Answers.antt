use Rattle.std.proofs.Common.{rules, ◌≡◌, ◌∷◌, sym, subst, List}
use Rattle.std.specs.Prelude.{fold}
use Rattle.std.specs.FinMap as finmap
use Rattle.nr_model.specs.Bytes.{Bytes}
use Rattle.nr_model.specs.Commands.Shape.{staying}
use Rattle.nr_model.specs.Commands.SortedSets as sorted_sets
use Rattle.nr_resp.specs.Done.{Performs}
use Rattle.nr_ranked.proofs.removing.zrem.Goals as goal

pub returns : goal.returns
returns g c =
    let words : c.args.words.now ≡ c.in-Some.name.now ∷ c.in-Some.members.now = search rules in
    subst (λ (words : List Bytes). Performs g.T.Touched.after c.change_at.result c.change_at.new.keyspace c.args.database c.args.touched.now c.change_at.new.touched
    (staying c.args.database (sorted_sets.zrem c.args.keyspace.now c.args.database words))) (sym words)
    (c.change_at.ensures (λ scores keyspace key. sorted_sets.left_with keyspace key scores (fold finmap.remove scores c.in-Some.members.now)) (λ old new given is. is))
