-- What a write of the refusal came to.
use Rattle.std.proofs.Common.{ℕ, List, Option, Some, None, Ok, Err, take, ◌∙◌, sym}
use Rattle.std.specs.Prelude.{Result}
use Rattle.std.specs.Io.KnownBytes.{Appends, Keeps, WriteAppends}
use Rattle.std.proofs.Common.{append-nil}
use Rattle.nr_sockets.specs.Refusing.{IsTold, refusal}

-- what is kept has nothing behind it
none_behind : (old new : Option (List ℕ)) → Keeps old new → Appends old new (take 0 refusal)
none_behind None new h = tt
none_behind (Some xs) None h = absurd h
none_behind (Some xs) (Some ys) h = h ∙ sym (append-nil xs)

pub told : {E : Type 0} (old new : Option (List ℕ)) (result : Result ℕ E) → WriteAppends old new result refusal → IsTold old new
told old new (Ok count) h = (count, h)
told old new (Err why) h = (0, none_behind old new h)
