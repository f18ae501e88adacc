-- Strings that would be longer than strings may be.
use Rattle.std.proofs.Common.{◌≡◌, ℕ, true, false, ap, refl, length}
use Rattle.std.specs.Prelude.{◌+◌, ◌++◌, ◌==◌, pos, nat_lt, if◌then◌else◌}
use Rattle.nr_model.specs.Bytes.{Bytes}
use Rattle.nr_model.specs.Strings.{max_len}
use Rattle.nr_model.specs.Replies.{Int}
use Rattle.nr_model.specs.Keyspace.{Key, Keyspace}
use Rattle.nr_model.specs.Commands.Shape.{refused}
use Rattle.nr_model.specs.Commands.Strings.{rewritten, append_at, set_range_at}
use Rattle.nr_model.specs.declared.refused.Refused.TheVariants.{TooLong}

pub long_append : (old : Keyspace) (key : Key) (more text : Bytes) → nat_lt max_len (length text + length more) ≡ true → append_at old key text more ≡ refused old TooLong
long_append old key more text is = ap (λ b. if b then refused old TooLong else rewritten old key (text ++ more) (Int (pos (length text + length more)))) is

pub long_range : (old : Keyspace) (key : Key) (offset : ℕ) (written text : Bytes) → (length written == 0) ≡ false → nat_lt max_len (offset + length written) ≡ true
    → set_range_at old key offset written text ≡ refused old TooLong
long_range old key offset written text some is = rw (some, is) refl
