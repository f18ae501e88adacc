-- Lists side by side: what is read and written at a place.
use Rattle.std.proofs.Common.{◌≡◌, ℕ, zero, suc, ◌<◌, List, [], ◌∷◌, ◌++◌, length, get_or, set, take, drop, append-nil, refl, ap, ◌∙◌, arith}
use Rattle.std.proofs.lemmas.List.{drop_all, take_all}
use Rattle.nr_world.specs.Served.{both}

pub length-both : {A B C : Type 0} (f : A → B → C) (xs : List A) (ys : List B) → length xs ≡ length ys → length (both f xs ys) ≡ length xs
length-both f [] ys h = refl
length-both f (x ∷ xs) [] h = absurd (omega arith)
length-both f (x ∷ xs) (y ∷ ys) h = ap suc (length-both f xs ys (omega arith))

pub get_or-both : {A B C : Type 0} (f : A → B → C) (xs : List A) (ys : List B) (i : ℕ) (a : A) (b : B) (c : C) → i < length xs → i < length ys
    → get_or (both f xs ys) i c ≡ f (get_or xs i a) (get_or ys i b)
get_or-both f [] ys i a b c h k = absurd (omega arith)
get_or-both f (x ∷ xs) [] i a b c h k = absurd (omega arith)
get_or-both f (x ∷ xs) (y ∷ ys) zero a b c h k = refl
get_or-both f (x ∷ xs) (y ∷ ys) (suc i) a b c h k = get_or-both f xs ys i a b c (omega arith) (omega arith)

-- one side is written
pub both-set_left : {A B C : Type 0} (f : A → B → C) (xs : List A) (ys : List B) (i : ℕ) (x : A) (b : B) → both f (set xs i x) ys ≡ set (both f xs ys) i (f x (get_or ys i b))
both-set_left f [] ys i x b = refl
both-set_left f (z ∷ xs) [] zero x b = refl
both-set_left f (z ∷ xs) [] (suc i) x b = refl
both-set_left f (z ∷ xs) (y ∷ ys) zero x b = refl
both-set_left f (z ∷ xs) (y ∷ ys) (suc i) x b = ap (λ more. f z y ∷ more) (both-set_left f xs ys i x b)

pub both-set_right : {A B C : Type 0} (f : A → B → C) (xs : List A) (ys : List B) (i : ℕ) (a : A) (y : B) → both f xs (set ys i y) ≡ set (both f xs ys) i (f (get_or xs i a) y)
both-set_right f [] ys i a y = refl
both-set_right f (x ∷ xs) [] i a y = refl
both-set_right f (x ∷ xs) (z ∷ ys) zero a y = refl
both-set_right f (x ∷ xs) (z ∷ ys) (suc i) a y = ap (λ more. f x z ∷ more) (both-set_right f xs ys i a y)

-- both are
pub both-set : {A B C : Type 0} (f : A → B → C) (xs : List A) (ys : List B) (i : ℕ) (x : A) (y : B) → both f (set xs i x) (set ys i y) ≡ set (both f xs ys) i (f x y)
both-set f [] ys i x y = refl
both-set f (z ∷ xs) [] zero x y = refl
both-set f (z ∷ xs) [] (suc i) x y = refl
both-set f (z ∷ xs) (w ∷ ys) zero x y = refl
both-set f (z ∷ xs) (w ∷ ys) (suc i) x y = ap (λ more. f z w ∷ more) (both-set f xs ys i x y)

pub both-push : {A B C : Type 0} (f : A → B → C) (xs : List A) (ys : List B) (x : A) (y : B) → length xs ≡ length ys → both f (xs ++ x ∷ []) (ys ++ y ∷ []) ≡ both f xs ys ++ f x y ∷ []
both-push f [] [] x y h = refl
both-push f [] (w ∷ ys) x y h = absurd (omega arith)
both-push f (z ∷ xs) [] x y h = absurd (omega arith)
both-push f (z ∷ xs) (w ∷ ys) x y h = ap (λ more. f z w ∷ more) (both-push f xs ys x y (omega arith))

-- within a list the default doesn't matter
pub any_default : {A : Type 0} (xs : List A) (i : ℕ) (a b : A) → i < length xs → get_or xs i a ≡ get_or xs i b
any_default [] i a b h = absurd (omega arith)
any_default (x ∷ xs) zero a b h = refl
any_default (x ∷ xs) (suc i) a b h = any_default xs i a b (omega arith)

-- a list in the place of one as long
pub refill : {A : Type 0} (n : ℕ) (new old : List A) → length new ≡ length old → n ≡ length old → take n (new ++ drop (length new) old) ≡ new
refill n new old h k =
    ap (λ more. take n (new ++ more)) (drop_all (length new) old (omega arith)) ∙ ap (take n) (append-nil new) ∙ take_all n new (omega arith)

pub drop_one : {A : Type 0} (n : ℕ) (xs : List A) → drop 1 (drop n xs) ≡ drop (suc n) xs
drop_one zero xs = refl
drop_one (suc n) [] = refl
drop_one (suc n) (x ∷ xs) = drop_one n xs
