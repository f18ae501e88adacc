use Rattle.std.proofs.Common.{◌≡◌, ◌++◌, map}
use Rattle.nr_model.specs.Servers.{names_in}
use Rattle.nr_model.specs.Sequential.Messages.{bulks}
use Rattle.nr_model.specs.declared.command.Kind.TheVariants.{Channels}
use Rattle.nr_resp.specs.Seen.{reply_of}
use Rattle.nr_emission.proofs.inspecting.every_channel.Given as goal

abbrev pub invariant-loop-name : goal.invariant-loop-name
invariant-loop-name l = map reply_of l.names.items ++ bulks (map (λ e. e.0) l.name-iterator) ≡ bulks (names_in l.subs Channels)
