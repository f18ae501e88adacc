use Rattle.nr_crew.specs.Nodes.{AreFresh}
use Rattle.nr_crew.proofs.Fresh.{all_from, fresh_node}
use Rattle.nr_crew_tests.proofs.sizes.does_named.Goals as goal

pub lanes_of-requires : goal.lanes_of-requires
lanes_of-requires g c =
    all_from (λ workers. AreFresh c.args.setup.workers workers.items) c.in_ok-built.built.items
    (λ node workers is. fresh_node _ _ _ node workers.items (c.in_ok-built.ensures.workers node workers is))
