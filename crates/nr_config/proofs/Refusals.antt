-- What is made of a refusal says that the words name no task.
use Rattle.std.proofs.Common.{◌≢◌, List, inl, inr}
use Rattle.clap.specs.Words.{Text, kind_of}
use Rattle.clap.specs.declared.error.Error.{Error}
use Rattle.clap.specs.declared.error.kind.ErrorKind.TheVariants as kinds
use Rattle.nr_config.specs.CommandLines.{NameNone, IsRefusal, IsMadeOf, Refuses}
use Rattle.nr_config.specs.declared.command_line.WordsError.{WordsError}
use Rattle.nr_config.specs.declared.command_line.WordsError.TheVariants.{Asked, Refused, Memory}

no_name : (words : List Text) (error : Error) → kind_of error ≢ kinds.OutOfMemory → IsRefusal words error → NameNone words
no_name words error other (inl memory) = absurd (other memory)
no_name words error other (inr none) = none

pub refuses : (words : List Text) (error : Error) (made : WordsError) → IsRefusal words error → IsMadeOf error made → Refuses words made
refuses words error (Asked text) refusal is = (no_name words error is.1 refusal, rw is.0 is.2)
refuses words error (Refused text) refusal is = (no_name words error is.1 refusal, rw is.0 is.2, rw is.0 is.3)
refuses words error Memory refusal is = tt
