-- A story is explained, since its events are.
use Rattle.std.proofs.Common.{List, ◌++◌, sym, ap, ◌∙◌, append_assoc}
use Rattle.nr_model.specs.Connections.{handed_to}
use Rattle.nr_model.specs.Nodes.Pasts.{handed_in}
use Rattle.nr_model.specs.Nodes.Explained.{waiting_for}
use Rattle.nr_model.proofs.NodesExplained.{nodes_are_explained}
use Rattle.nr_service.specs.Stories.{Occurrence, handed_in as pieces_in}
use Rattle.nr_world_service.specs.Led.{StoryLaw}
use Rattle.nr_world_service.proofs.Occurred.{told_handed}

pub stories_are_explained : StoryLaw
stories_are_explained a story once =
    let led = once.led in
    let law = nodes_are_explained.explained story.setup led.events led.world led.is.past in
    record {
      events = led.events;
      world = led.world;
      is = led.is;
      explains = law;
      begins = λ c.
          let begins = law.accounts.beginning c in
          let waits = waiting_for led.world c in (
            waits ++ begins.0,
            ap (λ (os : List Occurrence). handed_to c (pieces_in os) ++ (waits ++ begins.0)) (sym led.is.told)
                ∙ ap (λ hs. handed_to c hs ++ (waits ++ begins.0)) (told_handed led.events)
                ∙ sym (append_assoc (handed_to c (handed_in led.events)) waits begins.0) ∙ begins.1,
          );
    }
