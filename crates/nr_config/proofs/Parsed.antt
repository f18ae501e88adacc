-- What `clap` answers at words, of the command as it was told.
use Rattle.std.proofs.Common.{◌≡◌, ◌∙◌, List, [], ◌∷◌, true, Result, Ok, Err, IfOk, IfErr, inl, inr, ap, sym, refl}
use Rattle.clap.specs.Words.{App, FailsBy, HasMatchesOf, IsAmong, Kinds, Text, fault_of, is_simple, is_simple_and_free, subcommand_of}
use Rattle.clap.specs.declared.error.Error.{Error}
use Rattle.clap.specs.declared.error.kind.ErrorKind.{ErrorKind}
use Rattle.clap.specs.declared.parser.matches.ArgMatches.{ArgMatches}
use Rattle.nr_config.specs.CommandLines.{command, Finds, IsRefusal}

simple : is_simple command ≡ true
simple = refl

simple_and_free : is_simple_and_free command ≡ true
simple_and_free = refl

pub finds : (app : App) (words : List Text) (result : Result ArgMatches Error) → app ≡ command → IfOk result (HasMatchesOf app words)
    → (is_simple_and_free app ≡ true → FailsBy (fault_of app words) result) → IfOk result (Finds words)
finds app words (Ok matches) is has fails = (
  ap (λ (a : App). fault_of a words) (sym is) ∙ fails (ap is_simple_and_free is ∙ simple_and_free),
  (has (ap is_simple is ∙ simple)).1 ∙ ap (λ (a : App). subcommand_of a words) is,
)
finds app words (Err error) is has fails = tt

none_among : (kind : ErrorKind) (kinds : Kinds) → IsAmong kind kinds → kinds ≡ [] → ⊥
none_among kind [] among none = among
none_among kind (first ∷ kinds) among none = cc

pub refused : (app : App) (words : List Text) (result : Result ArgMatches Error) → app ≡ command
    → (is_simple_and_free app ≡ true → FailsBy (fault_of app words) result) → IfErr result (IsRefusal words)
refused app words (Ok matches) is fails = tt
refused app words (Err error) is fails = elim (fails (ap is_simple_and_free is ∙ simple_and_free)) [
  | inl memory ↦ inl memory
  | inr among ↦ inr (λ task named. none_among _ _ among (ap (λ (a : App). fault_of a words) is ∙ named.0))
]
