use Rattle.std.proofs.Common.{◌≡◌, ◌++◌, map}
use Rattle.std.specs.Prelude.{filter}
use Rattle.nr_model.specs.Patterns.{matches}
use Rattle.nr_model.specs.Servers.{names_in}
use Rattle.nr_model.specs.Sequential.Messages.{bulks}
use Rattle.nr_model.specs.declared.command.Kind.TheVariants.{Channels}
use Rattle.nr_resp.specs.Seen.{reply_of}
use Rattle.nr_emission.proofs.inspecting.matching_channels.Given as goal

abbrev pub invariant-loop-name : goal.invariant-loop-name
invariant-loop-name l =
    map reply_of l.names.items ++ bulks (filter (λ name. matches l.pattern name) (map (λ e. e.0) l.name-iterator))
    ≡ bulks (filter (λ name. matches l.pattern name) (names_in l.subs Channels))
