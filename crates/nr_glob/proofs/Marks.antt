-- The marks of a class, one by one, and its ranges.
use Rattle.std.proofs.Common.{◌≡◌, ◌≢◌, ℕ, ◌-◌, ◌<◌, ◌≤◌, Bool, true, false, ◌||◌, ◌==◌, List, [], ◌∷◌, length, get_or, take, drop, refl, sym, ap, subst, ◌∙◌, ◌⊎◌, inl, inr, arith}
use Rattle.std.proofs.lemmas.Bool.{ne_eqb, cond-true, cond-false}
use Rattle.nr_model.specs.Patterns.{Mark, escaped, plain, in_class, is_dash}
use Rattle.nr_glob.specs.Classes.{class_marks, class_rest, IsClassEnd, IsMarkFront, IsNoRange, IsRangeEnd}
use Rattle.nr_glob.proofs.Cuts.{behind_is, first_and_behind}

pub mark_plain : (byte : ℕ) (behind : List ℕ) → byte ≢ 93 → (length behind < 1) ⊎ (byte ≢ 92) → IsMarkFront (byte ∷ behind) (plain byte) behind
unfolding class_marks class_rest
mark_plain byte [] closing why = record { marks = rw (ne_eqb byte 93 closing, class_marks) refl; rest = refl }
mark_plain byte (b ∷ bs) closing (inl none) = absurd (omega arith)
mark_plain byte (b ∷ bs) closing (inr escape) = record {
  marks = rw (ne_eqb byte 93 closing, ne_eqb byte 92 escape, class_marks) refl;
  rest = rw (ne_eqb byte 93 closing, ne_eqb byte 92 escape, class_rest) refl;
}

pub escaped_front : (d : ℕ) (rest : List ℕ) → IsMarkFront (92 ∷ d ∷ rest) (escaped d) rest
unfolding class_marks class_rest
escaped_front d rest = record { marks = refl; rest = refl }

pub mark_escaped : (byte : ℕ) (behind : List ℕ) → byte ≡ 92 → 1 ≤ length behind
    → IsMarkFront (byte ∷ behind) (escaped (get_or behind 0 0)) (take (length behind - 1) (drop 1 behind))
mark_escaped byte [] is h = absurd (omega arith)
mark_escaped byte (b ∷ bs) is h =
    subst (λ (t : List ℕ). IsMarkFront (byte ∷ b ∷ bs) (escaped b) t) (sym (behind_is b bs))
    (subst (λ (n : ℕ). IsMarkFront (n ∷ b ∷ bs) (escaped b) bs) (sym is) (escaped_front b bs))

pub mark_first : (class after : List ℕ) (mark : Mark) → 1 ≤ length class → IsMarkFront (get_or class 0 0 ∷ take (length class - 1) (drop 1 class)) mark after
    → IsMarkFront class mark after
mark_first class after mark h front = subst (λ (t : List ℕ). IsMarkFront t mark after) (sym (first_and_behind class h)) front

pub end_of_bytes : (class : List ℕ) → length class < 1 → IsClassEnd class
unfolding class_marks class_rest
end_of_bytes [] h = record { marks = refl; rest = refl }
end_of_bytes (b ∷ bs) h = absurd (omega arith)

pub closed : (behind : List ℕ) → IsClassEnd (93 ∷ behind)
unfolding class_marks class_rest
closed [] = record { marks = refl; rest = refl }
closed (b ∷ bs) = record { marks = refl; rest = refl }

pub end_closing : (class : List ℕ) → 1 ≤ length class → get_or class 0 0 ≡ 93 → IsClassEnd class
end_closing [] h is = absurd (omega arith)
end_closing (b ∷ bs) h is = subst (λ (n : ℕ). IsClassEnd (n ∷ bs)) (sym is) (closed bs)

or_nothing : (b : Bool) → b ≡ (b || false)
or_nothing true = refl
or_nothing false = refl

-- without a dash no range begins
one_of : (y : Mark) (marks : List Mark) → is_dash y ≡ false → (x : Mark) (c : ℕ) → in_class (x ∷ y ∷ marks) c ≡ (x.byte == c || in_class (y ∷ marks) c)
one_of y [] dash x c = refl
one_of y (z ∷ marks) dash x c = cond-false (is_dash y) _ _ dash

pub no_range-none : (behind : List ℕ) → IsClassEnd behind → IsNoRange behind
no_range-none behind end = λ x c. subst (λ (ms : List Mark). in_class (x ∷ ms) c ≡ (x.byte == c || in_class ms c)) (sym end.marks) (or_nothing (x.byte == c))

pub no_range-plain : (behind after : List ℕ) (y : Mark) → IsMarkFront behind y after → is_dash y ≡ false → IsNoRange behind
no_range-plain behind after y front dash =
    λ x c. subst (λ (ms : List Mark). in_class (x ∷ ms) c ≡ (x.byte == c || in_class ms c)) (sym front.marks) (one_of y (class_marks after) dash x c)

pub no_range-last : (behind after : List ℕ) (y : Mark) → IsMarkFront behind y after → IsClassEnd after → IsNoRange behind
no_range-last behind after y front end = λ x c.
    subst (λ (ms : List Mark). in_class (x ∷ ms) c ≡ (x.byte == c || in_class ms c)) (sym (front.marks ∙ ap (λ (ms : List Mark). y ∷ ms) end.marks)) refl

pub range_read : (behind after rest : List ℕ) (y z : Mark) → IsMarkFront behind y after → is_dash y ≡ true → IsMarkFront after z rest
    → IsRangeEnd behind z.byte rest
range_read behind after rest y z front dash last = λ x c.
    ap (λ (ms : List Mark). in_class (x ∷ ms) c) (front.marks ∙ ap (λ (ms : List Mark). y ∷ ms) last.marks) ∙ cond-true (is_dash y) _ _ dash
