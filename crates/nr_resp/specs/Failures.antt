-- What a body that failed is answered.
use Rattle.std.specs.Prelude.{Option, Some, None, IfSome}
use Rattle.nr_model.specs.Replies.{Reply}
use Rattle.nr_model.specs.Commands.Shape.{refusal}
use Rattle.nr_resp.specs.declared.failure.Failure.{Failure}
use Rattle.nr_resp.specs.declared.failure.Failure.TheVariants.{Refused, Memory}

-- the error of a refusal, and nothing where memory ran out
abbrev pub answer_to : Failure → Option Reply
answer_to (Refused why) = Some (refusal why)
answer_to (Memory _) = None

-- a refusal is answered so
abbrev pub IfRefused : Failure → (Reply → Type 0) → Type 0
IfRefused failure holds = IfSome (answer_to failure) holds
