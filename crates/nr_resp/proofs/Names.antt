-- A look-up in tables behind one another.
use Rattle.std.proofs.Common.{◌≡◌, Bool, true, false, cond, List, [], ◌∷◌, ◌++◌, Some, None}
use Rattle.std.specs.Prelude.{Option}
use Rattle.std.specs.Str.{bytes_eq, str_to_ascii_lowercase}
use Rattle.nr_model.specs.Bytes.{Bytes}
use Rattle.nr_model.specs.Commands.{named, row_of}
use Rattle.nr_model.specs.declared.command.Command.{Command}

here_if : {A : Type 0} (b : Bool) (x c : A) (r s : Option A) → Some c ≡ cond b (Some x) r → (Some c ≡ r → Some c ≡ s) → Some c ≡ cond b (Some x) s
here_if true x c r s e rest = e
here_if false x c r s e rest = rest e

there_if : {A : Type 0} (b : Bool) (x : A) (r s t : Option A) → None ≡ cond b (Some x) r → (None ≡ r → t ≡ s) → t ≡ cond b (Some x) s
there_if true x r s t e rest = absurd (cc e)
there_if false x r s t e rest = rest e

-- a name of the first of two tables, and one that isn't
pub named_here : (xs ys : List Command) (word : Bytes) (c : Command) → Some c ≡ named xs word → Some c ≡ named (xs ++ ys) word
named_here [] ys word c e = absurd (cc e)
named_here (x ∷ xs) ys word c e = here_if (bytes_eq (row_of x).name (str_to_ascii_lowercase word)) x c (named xs word) (named (xs ++ ys) word) e (named_here xs ys word c)

pub named_there : (xs ys : List Command) (word : Bytes) (r : Option Command) → None ≡ named xs word → r ≡ named ys word → r ≡ named (xs ++ ys) word
named_there [] ys word r e rest = rest
named_there (x ∷ xs) ys word r e rest = there_if (bytes_eq (row_of x).name (str_to_ascii_lowercase word)) x (named xs word) (named (xs ++ ys) word) r e (λ e. named_there xs ys word r e rest)
