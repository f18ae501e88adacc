-- A part that takes one byte, at a text.
use Rattle.std.proofs.Common.{◌≡◌, ℕ, ◌-◌, ◌<◌, ◌≤◌, Bool, true, false, ◌&&◌, List, [], ◌∷◌, length, get_or, take, drop, refl, sym, ap, subst, ◌∙◌, arith}
use Rattle.std.proofs.lemmas.Bool.{and_parts}
use Rattle.nr_model.specs.Patterns.{Part, parts_match}
use Rattle.nr_glob.specs.Singles.{single_seen, takes, IsNoStep, IsStep}
use Rattle.nr_glob.specs.declared.singles.Single.{Single}
use Rattle.nr_glob.specs.declared.singles.Single.TheVariants as singles
use Rattle.nr_glob.proofs.Cuts.{behind_is}
use Rattle.nr_glob.proofs.Rests.{some_behind}

at_nothing : (single : Single) (others : List Part) → parts_match (single_seen single ∷ others) [] ≡ false
at_nothing singles.AnyByte others = refl
at_nothing (singles.Byte b) others = refl
at_nothing (singles.Class class) others = refl
at_nothing (singles.NotClass class) others = refl

at_byte : (single : Single) (others : List Part) (c : ℕ) (cs : List ℕ)
    → parts_match (single_seen single ∷ others) (c ∷ cs) ≡ (takes (single_seen single) c && parts_match others cs)
at_byte singles.AnyByte others c cs = refl
at_byte (singles.Byte b) others c cs = refl
at_byte (singles.Class class) others c cs = refl
at_byte (singles.NotClass class) others c cs = refl

pub no_byte : (single : Single) (text : List ℕ) → length text < 1 → IsNoStep (single_seen single) text
no_byte single [] h = at_nothing single
no_byte single (c ∷ cs) h = absurd (omega arith)

pub other_byte : (single : Single) (text : List ℕ) → 1 ≤ length text → takes (single_seen single) (get_or text 0 0) ≡ false → IsNoStep (single_seen single) text
other_byte single [] h not_taken = absurd (omega arith)
other_byte single (c ∷ cs) h not_taken = λ others. at_byte single others c cs ∙ ap (λ (b : Bool). b && parts_match others cs) not_taken

byte_taken : (single : Single) (c : ℕ) (cs : List ℕ) → takes (single_seen single) c ≡ true → IsStep (single_seen single) (c ∷ cs) cs
byte_taken single c cs taken = record {
  here = λ others. at_byte single others c cs ∙ ap (λ (b : Bool). b && parts_match others cs) taken;
  later = λ others.
      some_behind (parts_match (single_seen single ∷ others)) (parts_match others) (at_nothing single others)
      (λ d ds h. (and_parts (takes (single_seen single) d) (parts_match others ds) (sym (at_byte single others d ds) ∙ h)).1) c cs;
}

pub this_byte : (single : Single) (text : List ℕ) → 1 ≤ length text → takes (single_seen single) (get_or text 0 0) ≡ true
    → IsStep (single_seen single) text (take (length text - 1) (drop 1 text))
this_byte single [] h taken = absurd (omega arith)
this_byte single (c ∷ cs) h taken = subst (λ (t : List ℕ). IsStep (single_seen single) (c ∷ cs) t) (sym (behind_is c cs)) (byte_taken single c cs taken)
