-- Lists by places: what is put into one of three parts, taken out of it, or stands there.
use Rattle.std.proofs.Common.{◌≡◌, ℕ, ℤ, zero, suc, ◌+◌, ◌-◌, ◌<◌, ◌≤◌, Some, None, List, [], ◌∷◌, ◌++◌, length, take, drop, refl, sym, ap, ◌∙◌, arith, length-drop}
use Rattle.std.specs.Prelude.{slice_range}
use Rattle.std.specs.List.{insert, remove, slice_get}
use Rattle.std.proofs.lemmas.List.{take-append-drop, take_all}
use Rattle.std.proofs.lemmas.List.Edits.{insert-append_left, insert-append_right, remove-append_left, remove-append_right}
use Rattle.nr_ordered.specs.Lists.{Item, renumbered}

pub same_Some : {A : Type 0} (x y : A) → Some x ≡ Some y → x ≡ y
same_Some x y e = ap (λ o. elim o [ Some z ↦ z | None ↦ x ]) e

module _ {A : Type 0} where
  got_front : (a b : List A) (k : ℕ) → k < length a → slice_get (a ++ b) k ≡ slice_get a k
  got_front [] b k low = absurd (omega (arith, low))
  got_front (x ∷ a) b zero low = refl
  got_front (x ∷ a) b (suc k) low = got_front a b k (omega (arith, low))

  got_back : (a b : List A) (n k : ℕ) → n ≡ length a → n ≤ k → slice_get (a ++ b) k ≡ slice_get b (k - n)
  got_back [] b n k size high = let same : k ≡ k - n = omega (arith, size) in ap (slice_get b) same
  got_back (x ∷ a) b n zero size high = absurd (omega (arith, size, high))
  got_back (x ∷ a) b n (suc k) size high =
      let less : k - length a ≡ suc k - n = omega (arith, size) in
      got_back a b (length a) k refl (omega (arith, size, high)) ∙ ap (slice_get b) less

  pub seam_at : (l : List A) (x : A) (r : List A) → slice_get (l ++ x ∷ r) (length l) ≡ Some x
  seam_at [] x r = refl
  seam_at (y ∷ l) x r = seam_at l x r

  module _ (all l m r : List A) (is : all ≡ l ++ (m ++ r)) where
    pub got_left : (place : ℕ) → place < length l → slice_get l place ≡ slice_get all place
    got_left place low = sym (ap (λ xs. slice_get xs place) is ∙ got_front l (m ++ r) place low)

    pub got_here : (place before : ℕ) → before ≡ length l → before ≤ place → place - before < length m → slice_get m (place - before) ≡ slice_get all place
    got_here place before size high low =
        sym (ap (λ xs. slice_get xs place) is ∙ got_back l (m ++ r) before place size high ∙ got_front m r (place - before) low)

    pub got_right : (place before here : ℕ) → before ≡ length l → here ≡ length m → before ≤ place → here ≤ place - before
        → slice_get r (place - before - here) ≡ slice_get all place
    got_right place before here size long high past =
        sym (ap (λ xs. slice_get xs place) is ∙ got_back l (m ++ r) before place size high ∙ got_back m r here (place - before) long past)

    pub put_left : (new : List A) (y : A) (place : ℕ) → place < length l → new ≡ insert l place y → new ++ (m ++ r) ≡ insert all place y
    put_left new y place low put =
        ap (λ xs. xs ++ (m ++ r)) put ∙ sym (insert-append_left l (m ++ r) place y (omega (arith, low))) ∙ ap (λ xs. insert xs place y) (sym is)

    pub put_here : (block right : List A) (y : A) (place before : ℕ) → before ≡ length l → before ≤ place → place - before ≤ length m
        → block ++ right ≡ insert m (place - before) y ++ r → l ++ (block ++ right) ≡ insert all place y
    put_here block right y place before size high low put =
        ap (λ xs. l ++ xs) (put ∙ sym (insert-append_left m r (place - before) y low))
        ∙ sym (insert-append_right l (m ++ r) before place y (sym size) high) ∙ ap (λ xs. insert xs place y) (sym is)

    pub put_right : (new : List A) (y : A) (place before here : ℕ) → before ≡ length l → here ≡ length m → before + here ≤ place
        → new ≡ insert r (place - before - here) y → l ++ (m ++ new) ≡ insert all place y
    put_right new y place before here size long high put =
        ap (λ xs. l ++ (m ++ xs)) put
        ∙ ap (λ xs. l ++ xs) (sym (insert-append_right m r here (place - before) y (sym long) (omega (arith, high))))
        ∙ sym (insert-append_right l (m ++ r) before place y (sym size) (omega (arith, high))) ∙ ap (λ xs. insert xs place y) (sym is)

    pub took_left : (new : List A) (place : ℕ) → place < length l → new ≡ remove l place → new ++ (m ++ r) ≡ remove all place
    took_left new place low took =
        ap (λ xs. xs ++ (m ++ r)) took ∙ sym (remove-append_left l (m ++ r) place low) ∙ ap (λ xs. remove xs place) (sym is)

    pub took_here : (block : List A) (place before : ℕ) → before ≡ length l → before ≤ place → place - before < length m
        → block ≡ remove m (place - before) → l ++ (block ++ r) ≡ remove all place
    took_here block place before size high low took =
        ap (λ xs. l ++ (xs ++ r)) took
        ∙ ap (λ xs. l ++ xs) (sym (remove-append_left m r (place - before) low))
        ∙ sym (remove-append_right l (m ++ r) before place (sym size) high) ∙ ap (λ xs. remove xs place) (sym is)

    pub took_right : (new : List A) (place before here : ℕ) → before ≡ length l → here ≡ length m → before + here ≤ place
        → new ≡ remove r (place - before - here) → l ++ (m ++ new) ≡ remove all place
    took_right new place before here size long high took =
        ap (λ xs. l ++ (m ++ xs)) took
        ∙ ap (λ xs. l ++ xs) (sym (remove-append_right m r here (place - before) (sym long) (omega (arith, high))))
        ∙ sym (remove-append_right l (m ++ r) before place (sym size) (omega (arith, high))) ∙ ap (λ xs. remove xs place) (sym is)

    -- the only item of a part
    pub took_all : (place before : ℕ) → before ≡ length l → before ≤ place → place - before < length m → length m ≤ 1 → l ++ r ≡ remove all place
    took_all place before size high low one =
        took_here [] place before size high low (gone m (place - before) low one)
      where
        gone : (xs : List A) (k : ℕ) → k < length xs → length xs ≤ 1 → [] ≡ remove xs k
        gone [] k low one = absurd (omega (arith, low))
        gone (x ∷ []) zero low one = refl
        gone (x ∷ []) (suc k) low one = absurd (omega (arith, low))
        gone (x ∷ (y ∷ xs)) k low one = absurd (omega (arith, one))

-- two parts of a list
pub both_parts : {A : Type 0} (xs front behind : List A) (stay len : ℕ) → len ≡ length xs → front ≡ slice_range xs 0 stay → behind ≡ slice_range xs stay len
    → front ++ behind ≡ xs
both_parts xs front behind stay len size front_is behind_is =
    let all : stay - 0 ≡ stay = omega arith in
    let kept : front ≡ take stay xs = front_is ∙ ap (λ n. take n xs) all in
    let gone : behind ≡ drop stay xs = behind_is ∙ take_all (len - stay) (drop stay xs) (omega (arith, size, length-drop stay xs)) in
    (λ i. kept i ++ gone i) ∙ take-append-drop stay xs

renumbered_front : (a b : List Item) (k : ℕ) (n : ℤ) → k < length a → renumbered (a ++ b) k n ≡ renumbered a k n ++ b
renumbered_front [] b k n low = absurd (omega (arith, low))
renumbered_front (x ∷ a) b zero n low = refl
renumbered_front (x ∷ a) b (suc k) n low = ap (λ xs. x ∷ xs) (renumbered_front a b k n (omega (arith, low)))

renumbered_back : (a b : List Item) (size k : ℕ) (n : ℤ) → size ≡ length a → size ≤ k → renumbered (a ++ b) k n ≡ a ++ renumbered b (k - size) n
renumbered_back [] b size k n is high = let same : k ≡ k - size = omega (arith, is) in ap (λ i. renumbered b i n) same
renumbered_back (x ∷ a) b size zero n is high = absurd (omega (arith, is, high))
renumbered_back (x ∷ a) b size (suc k) n is high =
    let less : k - length a ≡ suc k - size = omega (arith, is) in
    ap (λ xs. x ∷ xs) (renumbered_back a b (length a) k n refl (omega (arith, is, high)) ∙ ap (λ i. a ++ renumbered b i n) less)

pub length-renumbered : (xs : List Item) (k : ℕ) (n : ℤ) → length (renumbered xs k n) ≡ length xs
length-renumbered [] k n = refl
length-renumbered (x ∷ xs) zero n = refl
length-renumbered (x ∷ xs) (suc k) n = ap suc (length-renumbered xs k n)

module _ (all l m r : List Item) (is : all ≡ l ++ (m ++ r)) (n : ℤ) where
  pub set_left : (new : List Item) (place : ℕ) → place < length l → new ≡ renumbered l place n → new ++ (m ++ r) ≡ renumbered all place n
  set_left new place low set =
      ap (λ xs. xs ++ (m ++ r)) set ∙ sym (renumbered_front l (m ++ r) place n low) ∙ ap (λ xs. renumbered xs place n) (sym is)

  pub set_here : (block : List Item) (place before : ℕ) → before ≡ length l → before ≤ place → place - before < length m
      → block ≡ renumbered m (place - before) n → l ++ (block ++ r) ≡ renumbered all place n
  set_here block place before size high low set =
      ap (λ xs. l ++ (xs ++ r)) set
      ∙ ap (λ xs. l ++ xs) (sym (renumbered_front m r (place - before) n low))
      ∙ sym (renumbered_back l (m ++ r) before place n size high) ∙ ap (λ xs. renumbered xs place n) (sym is)

  pub set_right : (new : List Item) (place before here : ℕ) → before ≡ length l → here ≡ length m → before + here ≤ place
      → new ≡ renumbered r (place - before - here) n → l ++ (m ++ new) ≡ renumbered all place n
  set_right new place before here size long high set =
      ap (λ xs. l ++ (m ++ xs)) set
      ∙ ap (λ xs. l ++ xs) (sym (renumbered_back m r here (place - before) n long (omega (arith, high))))
      ∙ sym (renumbered_back l (m ++ r) before place n size (omega (arith, high))) ∙ ap (λ xs. renumbered xs place n) (sym is)
