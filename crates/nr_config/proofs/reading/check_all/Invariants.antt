-- What is left of the table has the same first fault.
use Rattle.std.proofs.Common.{◌≡◌}
use Rattle.toml.specs.View.{members_view}
use Rattle.nr_config.specs.Keys.{is_allowed}
use Rattle.nr_config.proofs.Firsts.{first_fault}
use Rattle.nr_config.proofs.reading.check_all.Given as goal

abbrev pub invariant-loop-key : goal.invariant-loop-key
invariant-loop-key l = first_fault is_allowed (members_view l.key-iterator) ≡ first_fault is_allowed (members_view l.table.entries)
