use Rattle.nr_crew.specs.Nodes.{AreFresh}
use Rattle.std.proofs.Common.{◌∙◌, ap, sym}
use Rattle.nr_crew.specs.Places.{places_from}
use Rattle.nr_crew.proofs.Fresh.{all_from, fresh_node}
use Rattle.nr_crew.proofs.InPlace.{places_in}
use Rattle.nr_crew.proofs.nodes.serve_named.Goals as goal

pub lanes_of-requires : goal.lanes_of-requires
lanes_of-requires g c =
    all_from (λ workers. AreFresh c.args.setup.workers workers.items) c.in_ok-built.built.items
    (λ node workers is. fresh_node _ _ _ node workers.items (c.in_ok-built.ensures.workers node workers is))

pub returns-clause-in_place : goal.returns-clause-in_place
returns-clause-in_place g c =
    let placed = c.in_ok-ran.ensures.placed in (
      placed.0,
      placed.1 ∙ c.in_ok-lanes.ensures.placed
          ∙ places_in (λ workers. workers.items) c.args.setup.workers _ _ _ c.in_ok-built.built.items c.in_ok-built.ensures.nodes c.in_ok-built.ensures.workers
          ∙ ap (λ n. places_from 0 n c.args.setup.workers) (sym c.requires.nodes),
    )
