-- What lines print that are played one after the other.
use Rattle.std.proofs.Common.{◌≡◌, ℕ, ◌+◌, List, [], ◌∷◌, ◌++◌, length, Option, refl, ap, sym, ◌∙◌, subst, arith, append_assoc, append-nil}
use Rattle.std.proofs.lemmas.List.{length-append}
use Rattle.std.specs.Io.KnownBytes.{Appends}
use Rattle.std.proofs.KnownBytes.{Appends-trans}
use Rattle.nr_model.specs.Bytes.{Bytes}
use Rattle.nr_script.specs.Playing.{Played, ArePlayed, IsPlayed, begun}
use Rattle.nr_script.specs.Scripts.{Prints}

-- one line more
played_more : (lines : List Bytes) (line : Bytes) (old middle new : Played) (printed more : Bytes) → ArePlayed lines old middle printed
    → IsPlayed line middle new [] more → ArePlayed (lines ++ line ∷ []) old new (printed ++ more)
played_more [] line old middle new printed more are is =
    (new, more, [], subst (λ (p : Played). IsPlayed line p new [] more) are.0 is, (refl, refl), (λ i. are.1 i ++ more) ∙ sym (append-nil more))
played_more (first ∷ lines) line old middle new printed more are is = (
  are.0,
  are.1,
  are.2 ++ more,
  are.3,
  played_more lines line are.0 middle new are.2 more are.4 is,
  (λ i. are.5 i ++ more) ∙ append_assoc are.1 are.2 more,
)

-- The lines that were passed were played, and what they printed was written; these are left.
pub record SoFar (all left : List Bytes) (passed : ℕ) (player : Played) (old now : Option Bytes) : Type 0 where
  pub front : List Bytes
  pub are : all ≡ front ++ left
  pub many : length front ≡ passed
  pub prints : Prints front player old now

pub one_further : (all left rest : List Bytes) (line : Bytes) (passed next : ℕ) (player after : Played) (old now new : Option Bytes) (out : Bytes)
    → SoFar all left passed player old now → left ≡ line ∷ rest → next ≡ passed + 1 → IsPlayed line player after [] out → Appends now new out
    → SoFar all rest next after old new
one_further all left rest line passed next player after old now new out so_far here step is written =
    let front = so_far.front in
    let p = so_far.prints in
    let many = so_far.many in
    record {
      front = front ++ line ∷ [];
      are = so_far.are ∙ ap (λ (ls : List Bytes). front ++ ls) here ∙ sym (append_assoc front (line ∷ []) rest);
      many = omega (arith, length-append front (line ∷ []));
      prints = record {
        printed = p.printed ++ out;
        played = played_more front line begun player after p.printed out p.played is;
        appends = Appends-trans old now new p.printed out p.appends written;
      };
    }
