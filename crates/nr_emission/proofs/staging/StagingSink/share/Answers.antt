use Rattle.std.proofs.Common.{refl}
use Rattle.nr_emission.specs.declared.staging.Staged.TheVariants.{Message}
use Rattle.nr_emission.proofs.Held.{message_held}
use Rattle.nr_emission.proofs.staging.StagingSink.share.Goals as goal

pub invariant_of-self-2 : goal.invariant_of-self-2
invariant_of-self-2 c =
    message_held c.self.inside.bytes.items c.self.inside.staged.items c.push.new.self.items (Message c.args.conn c.in_ok-message.message)
    c.in_ok-push.ensures.items tt refl c.self.invariant
