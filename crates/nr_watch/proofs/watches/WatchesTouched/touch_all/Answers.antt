use Rattle.std.proofs.Common.{◌∙◌, sym}
use Rattle.nr_model.specs.Keyspace.{live}
use Rattle.nr_model.specs.Commands.Server.{named_in}
use Rattle.nr_watch.proofs.Touching.{touched_in_turn}
use Rattle.nr_watch.proofs.watches.WatchesTouched.touch_all.Goals as goal

pub returns : goal.returns
returns c =
    c.touch_all.ensures ∙ sym (touched_in_turn c.args.self.now (named_in (live c.args.keyspace.now c.args.now) c.args.source c.args.target))
