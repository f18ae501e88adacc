-- The commands that the rows name.
use Rattle.nr_model.specs.declared.command.Command.{Command}
use Rattle.nr_model.specs.declared.command.Command.TheVariants.{Session}
use Rattle.nr_model.specs.declared.command.ServerLook.TheVariants.{Ping}
use Rattle.nr_model.specs.declared.command.ServerChange.TheVariants.{Select}
use Rattle.nr_model.specs.declared.command.KeysChange.TheVariants.{Del}
use Rattle.nr_model.specs.declared.command.StringsLook.TheVariants.{Get}
use Rattle.nr_model.specs.declared.command.StringsChange.TheVariants.{Set}
use Rattle.nr_model.specs.declared.command.Session.TheVariants.{Watch, Unwatch, Discard, Subscribe, Unsubscribe, Publish}
use Rattle.nr_model.specs.declared.command.Kind.TheVariants.{Channels, Patterns}
use Rattle.nr_model.specs.Commands.{server_look, server_change, keys_change, strings_look, strings_change}

abbrev pub ping : Command
ping = server_look Ping

abbrev pub select : Command
select = server_change Select

abbrev pub del : Command
del = keys_change Del

abbrev pub get : Command
get = strings_look Get

abbrev pub set : Command
set = strings_change Set

abbrev pub watch : Command
watch = Session Watch

abbrev pub unwatch : Command
unwatch = Session Unwatch

abbrev pub discard : Command
discard = Session Discard

abbrev pub subscribe : Command
subscribe = Session (Subscribe Channels)

abbrev pub psubscribe : Command
psubscribe = Session (Subscribe Patterns)

abbrev pub unsubscribe : Command
unsubscribe = Session (Unsubscribe Channels)

abbrev pub publish : Command
publish = Session Publish
