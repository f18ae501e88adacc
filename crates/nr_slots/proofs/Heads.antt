-- What a combiner did first.
use Rattle.std.proofs.Common.{◌≡◌, ℕ, zero, suc, ◌≤◌, List, [], ◌∷◌, ◌++◌, length, take, drop, refl, sym, ap, ◌∙◌, subst, arith, append_assoc, append-nil, take-append-drop}
use Rattle.nr_model.specs.Bytes.{IsBeginningOf}
use Rattle.nr_slots.specs.declared.view.CombinerPast.{CombinerPast}
use Rattle.nr_slots.specs.Rule.{IsFrontOf, no_desk}

module _ {A : Type 0} where
  pub begins_all : (xs : List A) → IsBeginningOf xs xs
  begins_all xs = ([], append-nil xs)

  pub begins_none : (xs : List A) → IsBeginningOf [] xs
  begins_none xs = (xs, refl)

  pub begins_then : (xs ys zs : List A) → IsBeginningOf xs ys → IsBeginningOf ys zs → IsBeginningOf xs zs
  begins_then xs ys zs b c = (b.0 ++ c.0, sym (append_assoc xs b.0 c.0) ∙ ap (λ l. l ++ c.0) b.1 ∙ c.1)

  take_front : (xs rest : List A) → take (length xs) (xs ++ rest) ≡ xs
  take_front [] rest = refl
  take_front (x ∷ xs) rest = ap (λ z. x ∷ z) (take_front xs rest)

  take_shorter : (m n : ℕ) (zs : List A) → m ≤ n → take m (take n zs) ≡ take m zs
  take_shorter zero n zs h = refl
  take_shorter (suc m) zero zs h = absurd (omega arith)
  take_shorter (suc m) (suc n) [] h = refl
  take_shorter (suc m) (suc n) (z ∷ zs) h = ap (λ l. z ∷ l) (take_shorter m n zs (omega arith))

  -- of two beginnings the shorter is one of the longer
  pub begins_both : (xs ys zs : List A) → IsBeginningOf xs zs → IsBeginningOf ys zs → length xs ≤ length ys → IsBeginningOf xs ys
  begins_both xs ys zs b c h =
      let first : take (length xs) zs ≡ xs = subst (λ l. take (length xs) l ≡ xs) b.1 (take_front xs b.0) in
      let second : take (length ys) zs ≡ ys = subst (λ l. take (length ys) l ≡ ys) c.1 (take_front ys c.0) in
      let both : take (length xs) ys ≡ xs = ap (take (length xs)) (sym second) ∙ take_shorter (length xs) (length ys) zs h ∙ first in
      (drop (length xs) ys, ap (λ l. l ++ drop (length xs) ys) (sym both) ∙ take-append-drop (length xs) ys)

pub front_all : (d : CombinerPast) → IsFrontOf d d
front_all d = (begins_all d.lifted, begins_all d.answered)

pub front_then : (d e f : CombinerPast) → IsFrontOf d e → IsFrontOf e f → IsFrontOf d f
front_then d e f a b = (begins_then d.lifted e.lifted f.lifted a.0 b.0, begins_then d.answered e.answered f.answered a.1 b.1)

pub front_none : (d : CombinerPast) → IsFrontOf no_desk d
front_none d = (begins_none d.lifted, begins_none d.answered)
