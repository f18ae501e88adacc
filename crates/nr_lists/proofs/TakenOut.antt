-- Items taken out of a block, and one turn through the blocks of a list, each of which is put behind those still to be looked at.
use Rattle.std.proofs.Common.{◌≡◌, ℕ, zero, suc, ◌+◌, ◌-◌, ◌<◌, ◌≤◌, ◌^◌, Bool, true, false, List, [], ◌∷◌, ◌++◌, length, take, drop, get_or, map, reverse, ◌⊎◌, inl, inr, refl, ap, sym, ◌∙◌, subst, arith, append-nil, append_assoc, length-append}
use Rattle.std.proofs.lemmas.List.{length-reverse, reverse-reverse, reverse-append, map-append, length-take, length-drop, take-append-drop, take_at, drop_at, take_all, drop_all, drop_more, take_more, map-id, get_or-reverse}
use Rattle.std.proofs.lemmas.Bool.{and_from, and_left, and_right, lt-ltb, le-ltb}
use Rattle.std.specs.Prelude.{◌&&◌, nat_lt, if◌then◌else◌, bytes_eq}
use Rattle.nr_model.specs.Bytes.{Bytes}
use Rattle.nr_model.specs.Lists.{seen_from, without_first}
use Rattle.nr_model.specs.declared.command.End.{End}
use Rattle.nr_model.specs.declared.command.End.TheVariants.{Left, Right}
use Rattle.nr_lists.specs.Packed.{joined}
use Rattle.nr_lists.specs.Matches.{place_from, thin, some_of}
use Rattle.nr_lists.proofs.Packed.{joined-append}

-- what is left where the first goes or stays
abbrev first_of : Bool → ℕ → Bytes → Bytes → List Bytes → List Bytes
first_of goes most bytes item items =
    let left = without_first (if goes then most - 1 else most) bytes items in if goes then left else item ∷ left

goes_out : (most : ℕ) (bytes item : Bytes) (items : List Bytes) → (nat_lt 0 most && bytes_eq item bytes) ≡ true
    → without_first most bytes (item ∷ items) ≡ without_first (most - 1) bytes items
goes_out most bytes item items goes = ap (λ b. first_of b most bytes item items) goes

stays_in : (most : ℕ) (bytes item : Bytes) (items : List Bytes) → (nat_lt 0 most && bytes_eq item bytes) ≡ false
    → without_first most bytes (item ∷ items) ≡ item ∷ without_first most bytes items
stays_in most bytes item items stays = ap (λ b. first_of b most bytes item items) stays

-- whether the next stays
stays_there : (most taken : ℕ) (bytes item : Bytes) → (most ≤ taken) ⊎ (bytes_eq item bytes ≡ false) → (nat_lt 0 (most - taken) && bytes_eq item bytes) ≡ false
stays_there most taken bytes item (inl enough) = and_left _ _ (le-ltb 0 (most - taken) (omega (arith, enough)))
stays_there most taken bytes item (inr other) = and_right _ _ other

goes_there : (most taken : ℕ) (bytes item : Bytes) → taken < most → bytes_eq item bytes ≡ true → (nat_lt 0 (most - taken) && bytes_eq item bytes) ≡ true
goes_there most taken bytes item fewer same =
    and_from (nat_lt 0 (most - taken)) (bytes_eq item bytes) (lt-ltb 0 (most - taken) (omega (arith, fewer))) same

pub length_seen : {A : Type 0} (end : End) (xs : List A) → length (seen_from end xs) ≡ length xs
length_seen Left xs = refl
length_seen Right xs = length-reverse xs

pub seen_twice : {A : Type 0} (end : End) (xs : List A) → seen_from end (seen_from end xs) ≡ xs
seen_twice Left xs = refl
seen_twice Right xs = reverse-reverse xs

seen_none : (end : End) → seen_from {A = Bytes} end [] ≡ []
seen_none Left = refl
seen_none Right = refl

-- an item of a block, looked at from an end: those in front of it, and those behind it
module _ (end : End) (xs : List Bytes) (seen place : ℕ) (within : seen < length xs) (at : place ≡ place_from end (length xs) seen) where
  place_within : place < length xs
  place_within = from end at
    where
      from : (end : End) → place ≡ place_from end (length xs) seen → place < length xs
      from Left at = omega (arith, within, at)
      from Right at = omega (arith, within, at)

  pub seen_next : drop seen (seen_from end xs) ≡ get_or xs place [] ∷ drop (seen + 1) (seen_from end xs)
  seen_next = from end at
    where
      from : (end : End) → place ≡ place_from end (length xs) seen → drop seen (seen_from end xs) ≡ get_or xs place [] ∷ drop (seen + 1) (seen_from end xs)
      from Left at =
          let here : place ≡ seen = at in
          drop_more xs seen [] within ∙ ap (λ n. get_or xs n [] ∷ drop (seen + 1) xs) (sym here)
      from Right at =
          drop_more (reverse xs) seen [] (omega (arith, within, length-reverse xs))
          ∙ ap (λ x. x ∷ drop (seen + 1) (reverse xs)) (get_or-reverse xs seen [] within ∙ ap (λ n. get_or xs n []) (sym at))

  pub seen_without : seen_from end (take place xs ++ drop (place + 1) xs) ≡ take seen (seen_from end xs) ++ drop (seen + 1) (seen_from end xs)
  seen_without = from end at
    where
      from : (end : End) → place ≡ place_from end (length xs) seen
          → seen_from end (take place xs ++ drop (place + 1) xs) ≡ take seen (seen_from end xs) ++ drop (seen + 1) (seen_from end xs)
      from Left at = let here : place ≡ seen = at in ap (λ n. take n xs ++ drop (n + 1) xs) here
      from Right at =
          let x = get_or xs place [] in
          let front = take place xs in
          let back = drop (place + 1) xs in
          let apart : reverse xs ≡ reverse back ++ (x ∷ reverse front) =
          ap reverse (sym (take-append-drop place xs) ∙ ap (λ ys. front ++ ys) (drop_more xs place [] place_within))
          ∙ reverse-append front (x ∷ back) ∙ ap (λ ys. ys ++ reverse front) (reverse-append (x ∷ []) back) ∙ append_assoc (reverse back) (x ∷ []) (reverse front) in
          let long : length (reverse back) ≡ seen = omega (arith, within, at, length-reverse back, length-drop (place + 1) xs) in
          let next : length (reverse back ++ x ∷ []) ≡ seen + 1 = omega (arith, long, length-append (reverse back) (x ∷ [])) in
          reverse-append front back
          ∙ sym (λ i. (ap (take seen) apart ∙ take_at (reverse back) (x ∷ reverse front) seen long) i
          ++ (ap (drop (seen + 1)) (apart ∙ sym (append_assoc (reverse back) (x ∷ []) (reverse front))) ∙ drop_at (reverse back ++ x ∷ []) (reverse front) (seen + 1) next) i)

-- some of a block are seen and stay, and some were taken out
pub record Thins (end : End) (most taken seen : ℕ) (bytes : Bytes) (all now : List Bytes) : Type 0 where
  pub whole : take seen (seen_from end now) ++ without_first (most - taken) bytes (drop seen (seen_from end now)) ≡ without_first most bytes (seen_from end all)
  pub few : taken ≤ most

module _ (end : End) (most taken seen place : ℕ) (bytes : Bytes) (all now : List Bytes) (within : seen < length now) (at : place ≡ place_from end (length now) seen)
    (so_far : Thins end most taken seen bytes all now) where
  abbrev item : Bytes
  item = get_or now place []

  abbrev others : List Bytes
  others = drop (seen + 1) (seen_from end now)

  -- the next stays
  pub one_stays : (most ≤ taken) ⊎ (bytes_eq item bytes ≡ false) → Thins end most taken (seen + 1) bytes all now
  one_stays stays =
      let next = seen_next end now seen place within at in
      let long : seen < length (seen_from end now) = omega (arith, within, length_seen end now) in
      let more : take (seen + 1) (seen_from end now) ≡ take seen (seen_from end now) ++ item ∷ [] =
      take_more (seen_from end now) seen [] long
      ∙ ap (λ x. take seen (seen_from end now) ++ x ∷ []) (ap (λ ys. get_or ys 0 []) (sym (drop_more (seen_from end now) seen [] long) ∙ next)) in
      record {
        whole = ap (λ ys. ys ++ without_first (most - taken) bytes others) more
            ∙ append_assoc (take seen (seen_from end now)) (item ∷ []) (without_first (most - taken) bytes others)
            ∙ ap (λ ys. take seen (seen_from end now) ++ ys) (sym (ap (without_first (most - taken) bytes) next
            ∙ stays_in (most - taken) bytes item others (stays_there most taken bytes item stays)))
            ∙ so_far.whole;
        few = so_far.few;
      }

  -- the next goes
  goes_now : taken < most → bytes_eq item bytes ≡ true
      → without_first (most - taken) bytes (drop seen (seen_from end now)) ≡ without_first (most - (taken + 1)) bytes others
  goes_now fewer same =
      let less : most - taken - 1 ≡ most - (taken + 1) = omega arith in
      ap (without_first (most - taken) bytes) (seen_next end now seen place within at)
      ∙ goes_out (most - taken) bytes item others (goes_there most taken bytes item fewer same) ∙ ap (λ n. without_first n bytes others) less

  pub one_goes : (new : List Bytes) → taken < most → bytes_eq item bytes ≡ true → new ≡ take place now ++ drop (place + 1) now
      → Thins end most (taken + 1) seen bytes all new
  one_goes new fewer same are =
      let long : length (take seen (seen_from end now)) ≡ seen = omega (arith, within, length_seen end now, length-take seen (seen_from end now)) in
      let left : seen_from end new ≡ take seen (seen_from end now) ++ others = ap (seen_from end) are ∙ seen_without end now seen place within at in
      record {
        whole = (λ i. (ap (take seen) left ∙ take_at (take seen (seen_from end now)) others seen long) i
            ++ without_first (most - (taken + 1)) bytes ((ap (drop seen) left ∙ drop_at (take seen (seen_from end now)) others seen long) i))
            ∙ ap (λ ys. take seen (seen_from end now) ++ ys) (sym (goes_now fewer same)) ∙ so_far.whole;
        few = omega (arith, fewer);
      }

pub one_fewer : (now new : List Bytes) (place taken all : ℕ) → place < length now → new ≡ take place now ++ drop (place + 1) now → taken + length now ≡ all
    → taken + 1 + length new ≡ all
one_fewer now new place taken all within are count =
    omega (arith, within, count, ap length are, length-append (take place now) (drop (place + 1) now), length-take place now, length-drop (place + 1) now)

some_there : (xs : List Bytes) → 0 < length xs → some_of xs ≡ xs ∷ []
some_there [] some = absurd (omega (arith, some))
some_there (x ∷ xs) some = refl

-- all of a block were looked at
pub all_thinned : (end : End) (most taken seen : ℕ) (bytes : Bytes) (all now : List Bytes) → length now ≤ seen → 0 < length now → Thins end most taken seen bytes all now
    → now ∷ [] ≡ some_of (thin end most bytes all)
all_thinned end most taken seen bytes all now ended some so_far =
    let xs = seen_from end now in
    let long : length xs ≤ seen = omega (arith, ended, length_seen end now) in
    let left : xs ≡ without_first most bytes (seen_from end all) =
    sym (append-nil xs) ∙ (λ i. sym (take_all seen xs long) i ++ sym (ap (without_first (most - taken) bytes) (drop_all seen xs long)) i) ∙ so_far.whole in
    sym (ap (λ ys. some_of (seen_from end ys)) (sym left) ∙ ap some_of (seen_twice end now) ∙ some_there now some)

-- the items of blocks, looked at from an end
abbrev pub flat : End → List (List Bytes) → List Bytes
flat end blocks = joined (map (seen_from end) blocks)

flat-append : (end : End) (a b : List (List Bytes)) → flat end (a ++ b) ≡ flat end a ++ flat end b
flat-append end a b = ap joined (map-append (seen_from end) a b) ∙ joined-append (map (seen_from end) a) (map (seen_from end) b)

pub flat_seen : (end : End) (blocks : List (List Bytes)) → flat end (seen_from end blocks) ≡ seen_from end (joined blocks)
flat_seen Left blocks = ap joined (map-id blocks)
flat_seen Right [] = refl
flat_seen Right (b ∷ blocks) =
    ap (flat Right) (reverse-append (b ∷ []) blocks) ∙ flat-append Right (reverse blocks) (b ∷ [])
    ∙ (λ i. flat_seen Right blocks i ++ append-nil (reverse b) i) ∙ sym (reverse-append b (joined blocks))

flat_some : (end : End) (xs : List Bytes) → flat end (some_of xs) ≡ seen_from end xs
flat_some Left [] = refl
flat_some Right [] = refl
flat_some end (x ∷ xs) = append-nil (seen_from end (x ∷ xs))

-- what is left of two lists, one behind the other
goes_some : (most : ℕ) (same : Bool) → (nat_lt 0 most && same) ≡ true → 0 < most
goes_some zero same goes = absurd (cc goes)
goes_some (suc most) same goes = omega arith

shorter : (most : ℕ) (bytes : Bytes) (xs : List Bytes) → length (without_first most bytes xs) ≤ length xs
shorter most bytes [] = omega arith
shorter most bytes (x ∷ xs) = by_case (nat_lt 0 most && bytes_eq x bytes) refl (shorter (most - 1) bytes xs) (shorter most bytes xs)
  where
    by_case : (b : Bool) → (nat_lt 0 most && bytes_eq x bytes) ≡ b → length (without_first (most - 1) bytes xs) ≤ length xs
        → length (without_first most bytes xs) ≤ length xs → length (without_first most bytes (x ∷ xs)) ≤ length (x ∷ xs)
    by_case true goes less more = omega (arith, ap length (goes_out most bytes x xs goes), less)
    by_case false stays less more = omega (arith, ap length (stays_in most bytes x xs stays), more)

not_more : (most : ℕ) (bytes : Bytes) (xs : List Bytes) → length xs ≤ most + length (without_first most bytes xs)
not_more most bytes [] = omega arith
not_more most bytes (x ∷ xs) = by_case (nat_lt 0 most && bytes_eq x bytes) refl (not_more (most - 1) bytes xs) (not_more most bytes xs)
  where
    by_case : (b : Bool) → (nat_lt 0 most && bytes_eq x bytes) ≡ b → length xs ≤ most - 1 + length (without_first (most - 1) bytes xs)
        → length xs ≤ most + length (without_first most bytes xs) → length (x ∷ xs) ≤ most + length (without_first most bytes (x ∷ xs))
    by_case true goes less more = omega (arith, ap length (goes_out most bytes x xs goes), less, goes_some most (bytes_eq x bytes) goes)
    by_case false stays less more = omega (arith, ap length (stays_in most bytes x xs stays), more)

without-append : (most : ℕ) (bytes : Bytes) (xs ys : List Bytes)
    → without_first most bytes (xs ++ ys) ≡ without_first most bytes xs ++ without_first (most - (length xs - length (without_first most bytes xs))) bytes ys
without-append most bytes [] ys = let none : most ≡ most - (0 - 0) = omega arith in ap (λ n. without_first n bytes ys) none
without-append most bytes (x ∷ xs) ys =
    by_case (nat_lt 0 most && bytes_eq x bytes) refl (without-append (most - 1) bytes xs ys) (without-append most bytes xs ys)
  where
    by_case : (b : Bool) → (nat_lt 0 most && bytes_eq x bytes) ≡ b
        → without_first (most - 1) bytes (xs ++ ys)
        ≡ without_first (most - 1) bytes xs ++ without_first (most - 1 - (length xs - length (without_first (most - 1) bytes xs))) bytes ys
        → without_first most bytes (xs ++ ys) ≡ without_first most bytes xs ++ without_first (most - (length xs - length (without_first most bytes xs))) bytes ys
        → without_first most bytes (x ∷ xs ++ ys)
        ≡ without_first most bytes (x ∷ xs) ++ without_first (most - (length (x ∷ xs) - length (without_first most bytes (x ∷ xs)))) bytes ys
    by_case true goes less more =
        let left = goes_out most bytes x xs goes in
        let sum : most - 1 - (length xs - length (without_first (most - 1) bytes xs)) ≡ most - (length (x ∷ xs) - length (without_first most bytes (x ∷ xs))) =
        omega (arith, ap length left, shorter (most - 1) bytes xs) in
        goes_out most bytes x (xs ++ ys) goes ∙ less ∙ (λ i. sym left i ++ without_first (sum i) bytes ys)
    by_case false stays less more =
        let left = stays_in most bytes x xs stays in
        let sum : most - (length xs - length (without_first most bytes xs)) ≡ most - (length (x ∷ xs) - length (without_first most bytes (x ∷ xs))) =
        omega (arith, ap length left, shorter most bytes xs) in
        stays_in most bytes x (xs ++ ys) stays ∙ ap (λ zs. x ∷ zs) more ∙ (λ i. sym left i ++ without_first (sum i) bytes ys)

-- after so many turns, of which each took some items out of a block
pub record TurnsOut (end : End) (most taken turns : ℕ) (bytes : Bytes) (all blocks : List (List Bytes)) : Type 0 where
  pub put : List (List Bytes)
  pub left : List (List Bytes)
  pub blocks_are : blocks ≡ left ++ put
  pub whole : flat end put ++ without_first (most - taken) bytes (flat end left) ≡ without_first most bytes (flat end all)
  pub turned : length left + turns ≡ length all
  pub counted : taken + (length (flat end put) + length (flat end left)) ≡ length (flat end all)
  pub few : taken ≤ most

pub none_turned : (end : End) (most : ℕ) (bytes : Bytes) (all : List (List Bytes)) → TurnsOut end most 0 0 bytes all all
none_turned end most bytes all =
    let none : most - 0 ≡ most = omega arith in
    record {
      put = [];
      left = all;
      blocks_are = sym (append-nil all);
      whole = ap (λ n. without_first n bytes (flat end all)) none;
      turned = omega arith;
      counted = omega arith;
      few = omega arith;
    }

-- one block more
pub one_turned : (end : End) (most taken turns gone : ℕ) (bytes : Bytes) (all blocks new : List (List Bytes)) → turns < length all
    → new ≡ drop 1 blocks ++ some_of (thin end (most - taken) bytes (get_or blocks 0 []))
    → gone + length (thin end (most - taken) bytes (get_or blocks 0 [])) ≡ length (get_or blocks 0 [])
    → TurnsOut end most taken turns bytes all blocks → TurnsOut end most (taken + gone) (turns + 1) bytes all new
one_turned end most taken turns gone bytes all blocks new within are fewer so_far =
    from so_far.left so_far.blocks_are so_far.whole so_far.turned so_far.counted
  where
    from : (left : List (List Bytes)) → blocks ≡ left ++ so_far.put
        → flat end so_far.put ++ without_first (most - taken) bytes (flat end left) ≡ without_first most bytes (flat end all)
        → length left + turns ≡ length all → taken + (length (flat end so_far.put) + length (flat end left)) ≡ length (flat end all)
        → TurnsOut end most (taken + gone) (turns + 1) bytes all new
    from [] split whole turned counted = absurd (omega (arith, within, turned))
    from (b ∷ left) split whole turned counted =
        let put = so_far.put in
        let m = most - taken in
        let kept = without_first m bytes (seen_from end b) in
        let thinned = thin end m bytes b in
        let first : get_or blocks 0 [] ≡ b = ap (λ bs. get_or bs 0 []) split in
        let rest : drop 1 blocks ≡ left ++ put = ap (drop 1) split in
        let kept_is : seen_from end thinned ≡ kept = seen_twice end kept in
        let size : length thinned ≡ length kept = length_seen end kept in
        let count : gone + length thinned ≡ length b = subst (λ (c : List Bytes). gone + length (thin end m bytes c) ≡ length c) first fewer in
        let long : length (seen_from end b) ≡ length b = length_seen end b in
        let sum : m - (length (seen_from end b) - length kept) ≡ most - (taken + gone) = omega (arith, count, size, long) in
        let put_flat : flat end (put ++ some_of thinned) ≡ flat end put ++ kept =
        flat-append end put (some_of thinned) ∙ ap (λ ys. flat end put ++ ys) (flat_some end thinned ∙ kept_is) in
        record {
          put = put ++ some_of thinned;
          left = left;
          blocks_are = are ∙ (λ i. rest i ++ some_of (thin end m bytes (first i))) ∙ append_assoc left put (some_of thinned);
          whole = ap (λ ys. ys ++ without_first (most - (taken + gone)) bytes (flat end left)) put_flat
              ∙ append_assoc (flat end put) kept (without_first (most - (taken + gone)) bytes (flat end left))
              ∙ ap (λ n. flat end put ++ (kept ++ without_first n bytes (flat end left))) (sym sum)
              ∙ ap (λ ys. flat end put ++ ys) (sym (without-append m bytes (seen_from end b) (flat end left)))
              ∙ whole;
          turned = omega (arith, turned);
          counted = omega (arith, counted, count, size, long, ap length put_flat, length-append (flat end put) kept, length-append (seen_from end b) (flat end left));
          few = omega (arith, so_far.few, count, size, long, not_more m bytes (seen_from end b));
        }

-- after all turns
pub all_turned : (end : End) (most taken turns : ℕ) (bytes : Bytes) (all blocks : List (List Bytes)) (old new : List (List Bytes)) → length all ≤ turns
    → all ≡ seen_from end old → blocks ≡ seen_from end new → TurnsOut end most taken turns bytes all blocks
    → (joined new ≡ seen_from end (without_first most bytes (seen_from end (joined old)))) × (taken + length (joined new) ≡ length (joined old))
all_turned end most taken turns bytes all blocks old new ended began is so_far =
    from so_far.left so_far.blocks_are so_far.whole so_far.turned so_far.counted
  where
    from : (left : List (List Bytes)) → blocks ≡ left ++ so_far.put
        → flat end so_far.put ++ without_first (most - taken) bytes (flat end left) ≡ without_first most bytes (flat end all)
        → length left + turns ≡ length all → taken + (length (flat end so_far.put) + length (flat end left)) ≡ length (flat end all)
        → (joined new ≡ seen_from end (without_first most bytes (seen_from end (joined old)))) × (taken + length (joined new) ≡ length (joined old))
    from [] split whole turned counted =
        let now : seen_from end (joined new) ≡ flat end so_far.put = sym (flat_seen end new) ∙ ap (flat end) (sym is ∙ split) in
        let before : flat end all ≡ seen_from end (joined old) = ap (flat end) began ∙ flat_seen end old in (
          sym (seen_twice end (joined new)) ∙ ap (seen_from end) (now ∙ sym (append-nil (flat end so_far.put)) ∙ whole ∙ ap (without_first most bytes) before),
          omega (arith, counted, ap length now, ap length before, length_seen end (joined new), length_seen end (joined old)),
        )
    from (b ∷ left) split whole turned counted = absurd (omega (arith, ended, turned))

-- until then there is one
pub one_is_left : (end : End) (most taken turns : ℕ) (bytes : Bytes) (all blocks : List (List Bytes)) (now : List (List Bytes)) → TurnsOut end most taken turns bytes all blocks
    → turns < length all → blocks ≡ seen_from end now → 0 < length now
one_is_left end most taken turns bytes all blocks now so_far within is =
    omega (arith, ap length so_far.blocks_are, length-append so_far.left so_far.put, so_far.turned, within, ap length is, length_seen end now)

-- how many fewer a block has
some_is : (xs left : List Bytes) → left ∷ [] ≡ some_of xs → xs ≡ left
some_is [] left is = absurd (cc is)
some_is (x ∷ xs) left is = ap (λ bs. get_or bs 0 []) (sym is)

thin_fewer : (end : End) (most : ℕ) (bytes : Bytes) (block : List Bytes) → length (thin end most bytes block) ≤ length block
thin_fewer end most bytes block =
    omega (arith, length_seen end (without_first most bytes (seen_from end block)), shorter most bytes (seen_from end block), length_seen end block)

pub left_fewer : (end : End) (most : ℕ) (bytes : Bytes) (block left : List Bytes) (n m : ℕ) → left ∷ [] ≡ some_of (thin end most bytes block) → n ≡ length block
    → m ≡ length left → m ≤ n
left_fewer end most bytes block left n m is all some =
    omega (arith, all, some, ap length (some_is (thin end most bytes block) left is), thin_fewer end most bytes block)

pub gone_are : (end : End) (most : ℕ) (bytes : Bytes) (seen rest : List (List Bytes)) (block left : List Bytes) (n m : ℕ) → seen ≡ block ∷ rest
    → left ∷ [] ≡ some_of (thin end most bytes block) → n ≡ length block → m ≡ length left
    → n - m + length (thin end most bytes (get_or seen 0 [])) ≡ length (get_or seen 0 [])
gone_are end most bytes seen rest block left n m first is all some =
    let same : get_or seen 0 [] ≡ block = ap (λ bs. get_or bs 0 []) first in
    let count : n - m + length (thin end most bytes block) ≡ length block =
    omega (arith, all, some, ap length (some_is (thin end most bytes block) left is), thin_fewer end most bytes block) in
    subst (λ (b : List Bytes). n - m + length (thin end most bytes b) ≡ length b) (sym same) count

pub fits_count : (end : End) (most taken turns : ℕ) (bytes : Bytes) (blocks now old : List (List Bytes)) → length (joined old) < 2 ^ 63 → blocks ≡ seen_from end old
    → TurnsOut end most taken turns bytes blocks now → taken < 2 ^ 63
fits_count end most taken turns bytes blocks now old few is so_far =
    omega (arith, few, so_far.counted, ap length (ap (flat end) is ∙ flat_seen end old), length_seen end (joined old))
