-- Refusals, as the replies that they become.
use Rattle.std.proofs.Common.{◌≡◌, ℕ, Some, refl, subst}
use Rattle.std.specs.Prelude.{Result, Ok, Err, IfOk, IfErr, IfSome, Option}
use Rattle.std.specs.Result.{IsErr, IsErrAnd}
use Rattle.std.proofs.lemmas.Option.{IfSome_then}
use Rattle.std.proofs.lemmas.Result.{IfErr-weaker}
use Rattle.nr_model.specs.Replies.{Reply}
use Rattle.nr_model.specs.Keyspace.{Key, Keyspace}
use Rattle.nr_model.specs.Commands.Shape.{Effect, refused, staying}
use Rattle.nr_model.specs.declared.refused.Refused.{Refused}
use Rattle.nr_resp.specs.Seen.{reply_of}
use Rattle.nr_resp.specs.declared.reply.Reply as code
use Rattle.nr_resp.specs.Failures.{answer_to, IfRefused}
use Rattle.nr_resp.specs.declared.failure.Failure.{Failure}
use Rattle.nr_resp.specs.declared.failure.Failure.TheVariants as failures
use Rattle.nr_resp.specs.Done.{Performs}

-- what holds of a refusal holds of the reply that it became
pub refused_as : (failure : Failure) (reply : Reply) (holds : Reply → Type 0) → answer_to failure ≡ Some reply → IfRefused failure holds → holds reply
refused_as failure reply holds is refused = subst (λ (answer : Option Reply). IfSome answer holds) is refused

pub refused_in : {E : Type 0} (r : Result code.Reply E) (failure : Failure) (holds : Reply → Type 0) → IfOk r (λ reply. answer_to failure ≡ Some (reply_of reply)) → IfRefused failure holds
    → IfOk r (λ reply. holds (reply_of reply))
refused_in (Ok reply) failure holds is refused = refused_as failure (reply_of reply) holds is refused
refused_in (Err e) failure holds is refused = tt

-- and so does what follows from it
pub refused_weaker : {A : Type 0} (r : Result A Failure) (P Q : Reply → Type 0) → ((reply : Reply) → P reply → Q reply) → IfErr r (λ failure. IfRefused failure P) → IfErr r (λ failure. IfRefused failure Q)
refused_weaker r P Q all p = IfErr-weaker r (λ failure. IfRefused failure P) (λ failure. IfRefused failure Q) (λ failure refused. IfSome_then (answer_to failure) refused all) p

-- a body that ends by a refusal, with all as it was
pub ended : {T : Type 0} (after : T → Key → T) (r : Result code.Reply Failure) (old new : Keyspace) (database : ℕ) (told : T) (why : Refused) (effect : Effect)
    → IsErr r × IsErrAnd r (λ failure. failure ≡ failures.Refused why) → new ≡ old → effect ≡ refused old why
    → Performs after r new database told told (staying database effect)
ended after (Ok reply) old new database told why effect is same says = absurd (cc is.0)
ended after (Err failure) old new database told why effect is same says =
    rw (is.1, says) (record { replied = refl; left = same; selected = refl; touched = refl })
