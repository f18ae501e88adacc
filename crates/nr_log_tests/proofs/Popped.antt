-- A list without its last element.
use Rattle.std.specs.Option.{unwrap_or}
use Rattle.std.proofs.Common.{◌≡◌, ℕ, zero, suc, ◌+◌, ◌<◌, List, [], ◌∷◌, ◌++◌, length, slice_get, Option, Some, option_to_list, refl, sym, ap, ◌∙◌, arith, length-append}

get_front : {A : Type 0} (xs ys : List A) (k : ℕ) → k < length xs → slice_get (xs ++ ys) k ≡ slice_get xs k
get_front [] ys k h = absurd (omega arith)
get_front (x ∷ xs) ys zero h = refl
get_front (x ∷ xs) ys (suc k) h = get_front xs ys k (omega arith)

-- what held of each element holds of those that are left
pub popped : {A : Type 0} (xs ys : List A) (o : Option A) (f : ℕ → A) → xs ≡ ys ++ option_to_list o → ((k : ℕ) → k < length xs → slice_get xs k ≡ Some (f k)) → (k : ℕ) → k < length ys → slice_get ys k ≡ Some (f k)
popped xs ys o f is all k h =
    let long : length xs ≡ length ys + length (option_to_list o) = ap length is ∙ length-append ys (option_to_list o) in
    sym (get_front ys (option_to_list o) k h) ∙ ap (λ l. slice_get l k) (sym is) ∙ all k (omega arith)

-- one fewer there and one more here
pub moved : {A B : Type 0} (xs ys : List A) (o : Option A) (x : A) (us vs : List B) (b : B) (n : ℕ) → xs ≡ ys ++ option_to_list o → o ≡ Some x → vs ≡ us ++ b ∷ [] → length xs + length us ≡ n → length ys + length vs ≡ n
moved xs ys o x us vs b n is some more long =
    let front : length xs ≡ length ys + length (option_to_list o) = ap length is ∙ length-append ys (option_to_list o) in
    let one : length (option_to_list o) ≡ 1 = ap (λ p. length (option_to_list p)) some in
    let back : length vs ≡ length us + 1 = ap length more ∙ length-append us (b ∷ []) in
    omega arith

get_last : {A : Type 0} (xs : List A) (x : A) → slice_get (xs ++ x ∷ []) (length xs) ≡ Some x
get_last [] x = refl
get_last (y ∷ xs) x = get_last xs x

-- what held of the last holds of the one that was taken
pub last_is : {A : Type 0} (xs ys : List A) (o : Option A) (x : A) (f : ℕ → A) → xs ≡ ys ++ option_to_list o → o ≡ Some x → ((k : ℕ) → k < length xs → slice_get xs k ≡ Some (f k)) → x ≡ f (length ys)
last_is xs ys o x f is some all =
    let whole : xs ≡ ys ++ x ∷ [] = is ∙ ap (λ p. ys ++ option_to_list p) some in
    let long : length xs ≡ length ys + 1 = ap length whole ∙ length-append ys (x ∷ []) in
    ap (λ p. unwrap_or p x) (sym (ap (λ l. slice_get l (length ys)) whole ∙ get_last ys x) ∙ all (length ys) (omega arith))

-- there are fewer left than there were
pub fewer : {A B : Type 0} (xs ys : List A) (o : Option A) (x : A) (us : List B) (n : ℕ) → xs ≡ ys ++ option_to_list o → o ≡ Some x → length xs + length us ≡ n → length ys < n
fewer xs ys o x us n is some long =
    let front : length xs ≡ length ys + length (option_to_list o) = ap length is ∙ length-append ys (option_to_list o) in
    let one : length (option_to_list o) ≡ 1 = ap (λ p. length (option_to_list p)) some in
    omega arith
