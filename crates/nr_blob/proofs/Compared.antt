-- Bytes that are compared as numbers.
use Rattle.std.proofs.Common.{◌≡◌, ℕ, zero, suc, ◌+◌, ◌*◌, ◌<◌, ◌≤◌, ◌^◌, min, [], ◌∷◌, ◌++◌, length, take, drop, get_or, Fits, w8, arith, refl, sym, ap, ◌∙◌, subst}
use Rattle.std.specs.Ordering.{nat_cmp, ordering_then, MatchOrdering}
use Rattle.std.specs.declared.cmp.Ordering.{Ordering}
use Rattle.std.specs.declared.cmp.Ordering.TheVariants.{Less, Equal, Greater}
use Rattle.std.specs.Cmp.{nat_cmp_is, ranks}
use Rattle.std.specs.Cmp.Lexicographic.{slice_cmp}
use Rattle.std.specs.Slice.Scan.{big_endian}
use Rattle.std.proofs.lemmas.List.{take-append-drop, length-drop, get_or-drop}
use Rattle.std.proofs.Math.Seq.{take-add}
use Rattle.nr_model.specs.Bytes.{Bytes}
use Rattle.nr_blob.specs.Compared.{Settles}

abbrev AreBytes : Bytes → Type 0
AreBytes xs = (k : ℕ) → Fits w8 (get_or xs k 0)

-- ---- behind what is the same
behind : (front xs ys : Bytes) → slice_cmp nat_cmp (front ++ xs) (front ++ ys) ≡ slice_cmp nat_cmp xs ys
behind [] xs ys = refl
behind (x ∷ front) xs ys = ap (λ r. ordering_then r (slice_cmp nat_cmp (front ++ xs) (front ++ ys))) (sym (nat_cmp_is x x Equal refl)) ∙ behind front xs ys

past : (n : ℕ) (xs ys : Bytes) → take n xs ≡ take n ys → slice_cmp nat_cmp xs ys ≡ slice_cmp nat_cmp (drop n xs) (drop n ys)
past n xs ys same =
    (λ i. slice_cmp nat_cmp (sym (take-append-drop n xs) i) ((sym (take-append-drop n ys) ∙ ap (λ front. front ++ drop n ys) (sym same)) i))
    ∙ behind (take n xs) (drop n xs) (drop n ys)

-- ---- bytes as numbers
rises : (n a b : ℕ) (us vs : Bytes) → n ≤ length us → n ≤ length vs → AreBytes us → a < b → big_endian a (take n us) < big_endian b (take n vs)
rises zero a b us vs p q fit less = less
rises (suc n) a b [] vs p q fit less = absurd (omega arith)
rises (suc n) a b (u ∷ us) [] p q fit less = absurd (omega arith)
rises (suc n) a b (u ∷ us) (v ∷ vs) p q fit less =
    let small : u < 256 = (fit 0).fits in
    rises n (a * 256 + u) (b * 256 + v) us vs (omega arith) (omega arith) (λ k. fit (suc k)) (omega arith)

spells : (n a : ℕ) (us vs : Bytes) → n ≤ length us → n ≤ length vs → AreBytes us → AreBytes vs → Settles us vs n (big_endian a (take n us)) (big_endian a (take n vs))
spells zero a us vs p q us_fit vs_fit = record { apart = λ differ. absurd (differ refl); alike = λ _. refl }
spells (suc n) a [] vs p q us_fit vs_fit = absurd (omega arith)
spells (suc n) a (u ∷ us) [] p q us_fit vs_fit = absurd (omega arith)
spells (suc n) a (u ∷ us) (v ∷ vs) p q us_fit vs_fit =
    by (spells n (a * 256 + u) us vs (omega arith) (omega arith) (λ k. us_fit (suc k)) (λ k. vs_fit (suc k))) (nat_cmp u v) refl (ranks u v)
  where
    by : Settles us vs n (big_endian (a * 256 + u) (take n us)) (big_endian (a * 256 + u) (take n vs))
        → (r : Ordering) → nat_cmp u v ≡ r → MatchOrdering r (u < v) (u ≡ v) (v < u)
        → Settles (u ∷ us) (v ∷ vs) (suc n) (big_endian (a * 256 + u) (take n us)) (big_endian (a * 256 + v) (take n vs))
    by rest Less e l =
        let under : u < v = l in
        let t = rises n (a * 256 + u) (a * 256 + v) us vs (omega arith) (omega arith) (λ k. us_fit (suc k)) (omega arith) in
        record { apart = λ _. ap (λ r. ordering_then r (slice_cmp nat_cmp us vs)) e ∙ nat_cmp_is _ _ Less t; alike = λ s. absurd (omega arith) }
    by rest Greater e l =
        let over : v < u = l in
        let t = rises n (a * 256 + v) (a * 256 + u) vs us (omega arith) (omega arith) (λ k. vs_fit (suc k)) (omega arith) in
        record { apart = λ _. ap (λ r. ordering_then r (slice_cmp nat_cmp us vs)) e ∙ nat_cmp_is _ _ Greater t; alike = λ s. absurd (omega arith) }
    by rest Equal e l =
        let level : u ≡ v = l in
        let t = subst (λ z. Settles us vs n (big_endian (a * 256 + u) (take n us)) (big_endian (a * 256 + z) (take n vs))) level rest in
        record {
          apart = λ differ. ap (λ r. ordering_then r (slice_cmp nat_cmp us vs)) e ∙ t.apart differ;
          alike = λ s i. level i ∷ t.alike s i;
        }

-- n bytes from i on, where those before are the same
pub window : (i n x y : ℕ) (xs ys : Bytes) → AreBytes xs → AreBytes ys → i + n ≤ length xs → i + n ≤ length ys
    → x ≡ big_endian 0 (take n (drop i xs)) → y ≡ big_endian 0 (take n (drop i ys)) → take i xs ≡ take i ys → Settles xs ys (i + n) x y
window i n x y xs ys xs_fit ys_fit p q x_is y_is same =
    let t = spells n 0 (drop i xs) (drop i ys) (omega (arith, length-drop i xs)) (omega (arith, length-drop i ys))
    (λ k. subst (Fits w8) (sym (get_or-drop i xs k 0)) (xs_fit (i + k))) (λ k. subst (Fits w8) (sym (get_or-drop i ys k 0)) (ys_fit (i + k))) in
    let found : Settles xs ys (i + n) (big_endian 0 (take n (drop i xs))) (big_endian 0 (take n (drop i ys))) = record {
      apart = λ differ. past i xs ys same ∙ t.apart differ;
      alike = λ s. take-add i n xs ∙ (λ j. same j ++ t.alike s j) ∙ sym (take-add i n ys);
    } in
    subst (Settles xs ys (i + n) x) (sym y_is) (subst (λ z. Settles xs ys (i + n) z (big_endian 0 (take n (drop i ys)))) (sym x_is) found)

-- two numbers that differ settle all
pub at_once : (xs ys : Bytes) (m n x y : ℕ) → (x ≡ y → ⊥) → Settles xs ys m x y → Settles xs ys n x y
at_once xs ys m n x y differ found = record { apart = found.apart; alike = λ e. absurd (differ e) }

pub fewer : (i j : ℕ) (xs ys : Bytes) → i ≤ j → take j xs ≡ take j ys → take i xs ≡ take i ys
fewer zero j xs ys less same = refl
fewer (suc i) zero xs ys less same = absurd (omega arith)
fewer (suc i) (suc j) [] [] less same = refl
fewer (suc i) (suc j) [] (y ∷ ys) less same = absurd (cc same)
fewer (suc i) (suc j) (x ∷ xs) [] less same = absurd (cc same)
fewer (suc i) (suc j) (x ∷ xs) (y ∷ ys) less same =
    let first : x ≡ y = ap (λ l. get_or l 0 0) same in
    let others = fewer i j xs ys (omega arith) (ap (drop 1) same) in
    λ k. first k ∷ others k

-- ---- two numbers of four bytes each as one
moved : (x z w : ℕ) (r : Ordering) → MatchOrdering r (z < w) (z ≡ w) (w < z)
    → MatchOrdering r (x * 2 ^ 32 + z < x * 2 ^ 32 + w) (x * 2 ^ 32 + z ≡ x * 2 ^ 32 + w) (x * 2 ^ 32 + w < x * 2 ^ 32 + z)
moved x z w Less l = let less : z < w = l in omega arith
moved x z w Equal l = let level : z ≡ w = l in omega arith
moved x z w Greater l = let more : w < z = l in omega arith

pub joined : (i j x y z w : ℕ) (xs ys : Bytes) → z < 2 ^ 32 → w < 2 ^ 32 → Settles xs ys i x y → (take i xs ≡ take i ys → Settles xs ys j z w)
    → Settles xs ys j (x * 2 ^ 32 + z) (y * 2 ^ 32 + w)
joined i j x y z w xs ys z_fits w_fits high low = by (nat_cmp x y) (ranks x y)
  where
    by : (r : Ordering) → MatchOrdering r (x < y) (x ≡ y) (y < x) → Settles xs ys j (x * 2 ^ 32 + z) (y * 2 ^ 32 + w)
    by Less l =
        let under : x < y = l in
        record { apart = λ _. high.apart (λ e. omega arith) ∙ sym (nat_cmp_is x y Less l) ∙ nat_cmp_is (x * 2 ^ 32 + z) (y * 2 ^ 32 + w) Less (omega arith); alike = λ e. absurd (omega arith) }
    by Greater l =
        let over : y < x = l in
        record { apart = λ _. high.apart (λ e. omega arith) ∙ sym (nat_cmp_is x y Greater l) ∙ nat_cmp_is (x * 2 ^ 32 + z) (y * 2 ^ 32 + w) Greater (omega arith); alike = λ e. absurd (omega arith) }
    by Equal l = subst (λ v. Settles xs ys j (x * 2 ^ 32 + z) (v * 2 ^ 32 + w)) l level
      where
        level : Settles xs ys j (x * 2 ^ 32 + z) (x * 2 ^ 32 + w)
        level =
            let found = low (high.alike l) in
            record {
              apart = λ differ. found.apart (λ e. differ (omega (arith, e))) ∙ nat_cmp_is _ _ (nat_cmp z w) (moved x z w (nat_cmp z w) (ranks z w));
              alike = λ e. found.alike (omega (arith, e));
            }

-- ---- the shorter one is a front of the other
longer : (m n : ℕ) (r : Ordering) → MatchOrdering r (m < n) (m ≡ n) (n < m) → MatchOrdering r (suc m < suc n) (suc m ≡ suc n) (suc n < suc m)
longer m n Less l = let less : m < n = l in omega arith
longer m n Equal l = ap suc l
longer m n Greater l = let more : n < m = l in omega arith

pub by_lengths : (n : ℕ) (xs ys : Bytes) → n ≡ min (length xs) (length ys) → take n xs ≡ take n ys → nat_cmp (length xs) (length ys) ≡ slice_cmp nat_cmp xs ys
by_lengths n [] [] is same = refl
by_lengths n [] (y ∷ ys) is same = sym (nat_cmp_is 0 (length (y ∷ ys)) Less (omega arith))
by_lengths n (x ∷ xs) [] is same = sym (nat_cmp_is (length (x ∷ xs)) 0 Greater (omega arith))
by_lengths zero (x ∷ xs) (y ∷ ys) is same = absurd (omega (arith, is))
by_lengths (suc n) (x ∷ xs) (y ∷ ys) is same =
    let first : x ≡ y = ap (λ l. get_or l 0 0) same in
    let others = by_lengths n xs ys (omega (arith, is)) (ap (drop 1) same) in
    sym (nat_cmp_is _ _ (nat_cmp (length xs) (length ys)) (longer _ _ (nat_cmp (length xs) (length ys)) (ranks (length xs) (length ys))))
    ∙ others ∙ ap (λ r. ordering_then r (slice_cmp nat_cmp xs ys)) (nat_cmp_is x y Equal first)
