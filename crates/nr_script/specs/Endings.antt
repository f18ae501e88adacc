-- How a line that isn't read ends a script.
use Rattle.nr_script.specs.declared.line.LineError.{LineError}
use Rattle.nr_script.specs.declared.line.LineError.TheVariants as lines
use Rattle.nr_script.specs.declared.player.PlayError.{PlayError}
use Rattle.nr_script.specs.declared.player.PlayError.TheVariants as errors

abbrev pub ended_by : LineError → PlayError
ended_by lines.BadStep = errors.BadStep
ended_by lines.Memory = errors.Memory
