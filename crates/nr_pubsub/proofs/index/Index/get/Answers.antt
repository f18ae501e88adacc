use Rattle.std.proofs.Common.{◌∙◌, ap, sym}
use Rattle.std.specs.FinMap as finmap
use Rattle.std.specs.Option.{option_map}
use Rattle.nr_pubsub.specs.Standings.{connections}
use Rattle.nr_pubsub.proofs.Indexed.{get-standing, seen_option}
use Rattle.nr_pubsub.proofs.index.Index.get.Goals as goal

pub returns : goal.returns
returns c = seen_option c.get.result ∙ ap (option_map (λ set. connections set.keys)) c.get.ensures.value
    ∙ sym (get-standing c.self.inside.by_name.entries c.args.name.now) ∙ ap (λ m. finmap.get m c.args.name.now) c.self.view_is
