-- Rows behind numbers that lie as their fields do.
use Rattle.std.proofs.Common.{inl, inr, ◌≡◌, ◌≢◌, ℕ, zero, suc, ◌+◌, ◌*◌, ◌≤◌, ◌<◌, ◌^◌, List, [], ◌∷◌, ◌++◌, length, take, drop, get_or, set, refl, ap, sym, ◌∙◌, subst, arith, append_assoc}
use Rattle.std.specs.Prelude.{slice_index}
use Rattle.std.specs.Ordering.{nat_cmp, ordering_then, MatchOrdering}
use Rattle.std.specs.declared.cmp.Ordering.{Ordering}
use Rattle.std.specs.declared.cmp.Ordering.TheVariants.{Less, Equal, Greater}
use Rattle.std.specs.Cmp.{nat_cmp_is, ranks}
use Rattle.std.specs.Cmp.Lexicographic.{slice_cmp}
use Rattle.std.proofs.lemmas.List.{take-append-drop, get_or-append-add}
use Rattle.nr_model.specs.Bytes.{Bytes}
use Rattle.nr_packs.proofs.Moved.{low_or_high}
use Rattle.nr_packs.specs.Rows.{Row, pair_of, pairs_in, head, AreBytes, Begins}

-- the number alone changes
pub pairs_numbered : (rows : List Row) (i n : ℕ) (blank : Row) → pairs_in (set rows i (n, (get_or rows i blank).1, (get_or rows i blank).2)) ≡ pairs_in rows
pairs_numbered [] i n blank = refl
pairs_numbered (row ∷ rows) zero n blank = refl
pairs_numbered (row ∷ rows) (suc i) n blank = ap (λ es. pair_of row ∷ es) (pairs_numbered rows i n blank)

-- one byte more in common
pub alike_more : (n : ℕ) (xs ys : Bytes) → n < length xs → n < length ys → take n xs ≡ take n ys → slice_index xs n ≡ slice_index ys n → take (suc n) xs ≡ take (suc n) ys
alike_more n [] ys here there same next = absurd (omega arith)
alike_more n (x ∷ xs) [] here there same next = absurd (omega arith)
alike_more zero (x ∷ xs) (y ∷ ys) here there same next = ap (λ z. z ∷ []) next
alike_more (suc n) (x ∷ xs) (y ∷ ys) here there same next =
    let first : x ≡ y = ap (λ l. get_or l 0 0) same in
    let others = alike_more n xs ys (omega arith) (omega arith) (ap (drop 1) same) next in
    λ i. first i ∷ others i

take_less : (n m : ℕ) (xs : Bytes) → n ≤ m → take n (take m xs) ≡ take n xs
take_less zero m xs less = refl
take_less (suc n) zero xs less = absurd (omega arith)
take_less (suc n) (suc m) [] less = refl
take_less (suc n) (suc m) (x ∷ xs) less = ap (λ ys. x ∷ ys) (take_less n m xs (omega arith))

-- what begins so begins with less of it
pub begins_less : (n m : ℕ) (first : Bytes) (pair : Bytes × Bytes) → n ≤ m → Begins (take m first) pair → Begins (take n first) pair
begins_less n m first pair less begins =
    let front : take m first ≡ take n first ++ drop n (take m first) = sym (take-append-drop n (take m first)) ∙ ap (λ f. f ++ drop n (take m first)) (take_less n m first less) in
    record { rest = drop n (take m first) ++ begins.rest; is = begins.is ∙ ap (λ f. f ++ begins.rest) front ∙ append_assoc (take n first) (drop n (take m first)) begins.rest }

-- what has the same in front begins with it
pub begins_so : (n : ℕ) (first : Bytes) (pair : Bytes × Bytes) → take n first ≡ take n pair.0 → Begins (take n first) pair
begins_so n first pair same = record { rest = drop n pair.0; is = sym (take-append-drop n pair.0) ∙ ap (λ f. f ++ drop n pair.0) (sym same) }

-- ---- numbers of eight bytes
-- the number that so many bytes spell behind others; 0 stands where there are fewer
abbrev padded : ℕ → ℕ → Bytes → ℕ
padded zero n xs = n
padded (suc k) n [] = padded k (n * 256) []
padded (suc k) n (x ∷ xs) = padded k (n * 256 + x) xs

least : (k n m : ℕ) (ys : Bytes) → n ≤ m → padded k n [] ≤ padded k m ys
least zero n m ys less = less
least (suc k) n m [] less = least k (n * 256) (m * 256) [] (omega arith)
least (suc k) n m (y ∷ ys) less = least k (n * 256) (m * 256 + y) ys (omega arith)

rises : (k n m : ℕ) (xs ys : Bytes) → AreBytes xs → n < m → padded k n xs < padded k m ys
rises zero n m xs ys fit less = less
rises (suc k) n m [] [] fit less = rises k (n * 256) (m * 256) [] [] fit (omega arith)
rises (suc k) n m [] (y ∷ ys) fit less = rises k (n * 256) (m * 256 + y) [] ys fit (omega arith)
rises (suc k) n m (x ∷ xs) [] fit less = let small : x < 256 = fit 0 in rises k (n * 256 + x) (m * 256) xs [] (λ i. fit (suc i)) (omega arith)
rises (suc k) n m (x ∷ xs) (y ∷ ys) fit less = let small : x < 256 = fit 0 in rises k (n * 256 + x) (m * 256 + y) xs ys (λ i. fit (suc i)) (omega arith)

no_bytes : AreBytes []
no_bytes zero = omega arith
no_bytes (suc k) = omega arith

at_most_or : (n m : ℕ) → n ≤ m → n ≢ m → n < m
at_most_or n m less differ = elim (low_or_high n m) [ inl under ↦ under | inr over ↦ absurd (differ (omega (arith, less, over))) ]

-- by the first bytes
settled_first : (k n x y : ℕ) (xs ys : Bytes) → x < 256 → y < 256 → AreBytes xs → AreBytes ys
    → (padded k (n * 256 + x) xs ≢ padded k (n * 256 + x) ys → slice_cmp nat_cmp xs ys ≡ nat_cmp (padded k (n * 256 + x) xs) (padded k (n * 256 + x) ys))
    → padded k (n * 256 + x) xs ≢ padded k (n * 256 + y) ys → (r : Ordering) → nat_cmp x y ≡ r → MatchOrdering r (x < y) (x ≡ y) (y < x)
    → ordering_then (nat_cmp x y) (slice_cmp nat_cmp xs ys) ≡ nat_cmp (padded k (n * 256 + x) xs) (padded k (n * 256 + y) ys)
settled_first k n x y xs ys small little fit too next differ Less is l =
    let under : x < y = l in
    ap (λ r. ordering_then r (slice_cmp nat_cmp xs ys)) is ∙ (nat_cmp_is _ _ Less (rises k (n * 256 + x) (n * 256 + y) xs ys fit (omega arith)))
settled_first k n x y xs ys small little fit too next differ Greater is l =
    let over : y < x = l in
    ap (λ r. ordering_then r (slice_cmp nat_cmp xs ys)) is ∙ (nat_cmp_is _ _ Greater (rises k (n * 256 + y) (n * 256 + x) ys xs too (omega arith)))
settled_first k n x y xs ys small little fit too next differ Equal is l =
    let level : x ≡ y = l in
    ap (λ r. ordering_then r (slice_cmp nat_cmp xs ys)) is
    ∙ next (λ same. differ (same ∙ ap (λ z. padded k (n * 256 + z) ys) level))
    ∙ ap (λ z. nat_cmp (padded k (n * 256 + x) xs) (padded k (n * 256 + z) ys)) level

-- where two of them differ they lie as the bytes do
pub settled : (k n : ℕ) (xs ys : Bytes) → AreBytes xs → AreBytes ys → padded k n xs ≢ padded k n ys → slice_cmp nat_cmp xs ys ≡ nat_cmp (padded k n xs) (padded k n ys)
settled zero n xs ys fit too differ = absurd (differ refl)
settled (suc k) n [] [] fit too differ = absurd (differ refl)
settled (suc k) n [] (y ∷ ys) fit too differ =
    (nat_cmp_is _ _ Less (at_most_or _ _ (least (suc k) n n (y ∷ ys) (omega arith)) differ))
settled (suc k) n (x ∷ xs) [] fit too differ =
    (nat_cmp_is _ _ Greater (at_most_or _ _ (least (suc k) n n (x ∷ xs) (omega arith)) (λ is. differ (sym is))))
settled (suc k) n (x ∷ xs) (y ∷ ys) fit too differ =
    settled_first k n x y xs ys (fit 0) (too 0) (λ i. fit (suc i)) (λ i. too (suc i)) (settled k (n * 256 + x) xs ys (λ i. fit (suc i)) (λ i. too (suc i))) differ (nat_cmp x y) refl (ranks x y)

pub head_is : (xs : Bytes) → head 0 xs ≡ padded 8 0 xs
head_is [] = omega arith
head_is (a ∷ []) = omega arith
head_is (a ∷ b ∷ []) = omega arith
head_is (a ∷ b ∷ c ∷ []) = omega arith
head_is (a ∷ b ∷ c ∷ d ∷ []) = omega arith
head_is (a ∷ b ∷ c ∷ d ∷ e ∷ []) = omega arith
head_is (a ∷ b ∷ c ∷ d ∷ e ∷ f ∷ []) = omega arith
head_is (a ∷ b ∷ c ∷ d ∷ e ∷ f ∷ g ∷ []) = omega arith
head_is (a ∷ b ∷ c ∷ d ∷ e ∷ f ∷ g ∷ h ∷ xs) = omega arith

behind : (front xs ys : Bytes) → slice_cmp nat_cmp (front ++ xs) (front ++ ys) ≡ slice_cmp nat_cmp xs ys
behind [] xs ys = refl
behind (x ∷ front) xs ys = ap (λ r. ordering_then r (slice_cmp nat_cmp (front ++ xs) (front ++ ys))) (sym (nat_cmp_is x x Equal refl)) ∙ behind front xs ys

bytes_behind : (front xs : Bytes) → AreBytes (front ++ xs) → AreBytes xs
bytes_behind front xs fit k = subst (λ n. n < 256) (get_or-append-add front xs k 0) (fit (length front + k))

head_behind : (front xs : Bytes) → head (length front) (front ++ xs) ≡ head 0 xs
head_behind front xs =
    let at = get_or-append-add front xs in
    let first : slice_index (front ++ xs) (length front) ≡ slice_index xs 0 = ap (slice_index (front ++ xs)) (omega arith) ∙ at 0 0 in
    λ i. (((first i * 256 + at 1 0 i) * 256 + at 2 0 i) * 256 + at 3 0 i) * 2 ^ 32 + (((at 4 0 i * 256 + at 5 0 i) * 256 + at 6 0 i) * 256 + at 7 0 i)

-- so it is behind a common front
pub settled_behind : (front xs ys : Bytes) (n m : ℕ) → AreBytes (front ++ xs) → AreBytes (front ++ ys) → n ≡ head (length front) (front ++ xs) → m ≡ head (length front) (front ++ ys) → n ≢ m
    → slice_cmp nat_cmp (front ++ xs) (front ++ ys) ≡ nat_cmp n m
settled_behind front xs ys n m fit too one other differ =
    let first : n ≡ padded 8 0 xs = one ∙ head_behind front xs ∙ head_is xs in
    let second : m ≡ padded 8 0 ys = other ∙ head_behind front ys ∙ head_is ys in
    behind front xs ys ∙ settled 8 0 xs ys (bytes_behind front xs fit) (bytes_behind front ys too) (λ same. differ (first ∙ same ∙ sym second)) ∙ (λ i. nat_cmp (sym first i) (sym second i))
