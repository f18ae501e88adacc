-- Places among blocks, and what stands there once items are put in and taken out.
use Rattle.std.proofs.Common.{◌≡◌, ℕ, zero, suc, ◌+◌, ◌-◌, ◌<◌, ◌≤◌, ◌⊎◌, inl, inr, List, [], ◌∷◌, ◌++◌, length, take, drop, get_or, set, refl, ap, sym, ◌∙◌, subst, arith, append-nil, append_assoc, length-append}
use Rattle.std.specs.Prelude.{slice_get, Some, Bool, true, false, if◌then◌else◌, Result, Ok, Err, OnErr}
use Rattle.std.specs.Bool.{OnTrue, OnFalse}
use Rattle.std.specs.Option.{unwrap_or}
use Rattle.std.proofs.lemmas.Bool.{cases_lt}
use Rattle.std.specs.List.{insert, remove}
use Rattle.std.proofs.lemmas.List.{take-append-drop, take_at, drop_at, take_all, drop_all, drop_more, take_more, length-take, length-drop, set_split, get_or_read, set-get_or, set_at, get_or_at, drop-append-le, take-take, drop-drop, drop-take}
use Rattle.nr_model.specs.Bytes.{Bytes}
use Rattle.nr_lists.specs.Packed.{joined}
use Rattle.nr_lists.specs.Blocks.{block_at, before, behind}
use Rattle.nr_lists.proofs.Packed.{joined-append, joined_split}

abbrev Blocks : Type 0
Blocks = List (List Bytes)

-- a block between the others
pub here : (blocks : Blocks) (k : ℕ) → k < length blocks → blocks ≡ take k blocks ++ block_at blocks k ∷ drop (k + 1) blocks
here blocks k within = sym (take-append-drop k blocks) ∙ ap (λ bs. take k blocks ++ bs) (drop_more blocks k [] within)

taken_long : (blocks : Blocks) (k : ℕ) → k < length blocks → length (take k blocks) ≡ k
taken_long blocks k within = omega (arith, within, length-take k blocks)

-- what stands at a place, of blocks that are taken apart
pub block_there : (first rest : Blocks) (b : List Bytes) (k : ℕ) → length first ≡ k → block_at (first ++ b ∷ rest) k ≡ b
block_there first rest b k long = get_or_at first b rest [] k long

pub before_there : (first rest : Blocks) (b : List Bytes) (k i : ℕ) → length first ≡ k → before (first ++ b ∷ rest) k i ≡ joined first ++ take i b
before_there first rest b k i long = λ j. joined (take_at first (b ∷ rest) k long j) ++ take i (block_there first rest b k long j)

rest_there : (first rest : Blocks) (b : List Bytes) (k : ℕ) → length first ≡ k → drop (k + 1) (first ++ b ∷ rest) ≡ rest
rest_there first rest b k long =
    ap (drop (k + 1)) (sym (append_assoc first (b ∷ []) rest))
    ∙ drop_at (first ++ b ∷ []) rest (k + 1) (omega (arith, long, length-append first (b ∷ [])))

pub behind_there : (first rest : Blocks) (b : List Bytes) (k i : ℕ) → length first ≡ k → behind (first ++ b ∷ rest) k i ≡ drop i b ++ joined rest
behind_there first rest b k i long = λ j. drop i (block_there first rest b k long j) ++ joined (rest_there first rest b k long j)

-- all items are those in front of a place and those from it on
pub all_around : (blocks : Blocks) (k i : ℕ) → k < length blocks → joined blocks ≡ before blocks k i ++ behind blocks k i
all_around blocks k i within =
    let b = block_at blocks k in
    ap joined (here blocks k within) ∙ joined-append (take k blocks) (b ∷ drop (k + 1) blocks)
    ∙ ap (λ ys. joined (take k blocks) ++ (ys ++ joined (drop (k + 1) blocks))) (sym (take-append-drop i b))
    ∙ ap (λ ys. joined (take k blocks) ++ ys) (append_assoc (take i b) (drop i b) (joined (drop (k + 1) blocks)))
    ∙ sym (append_assoc (joined (take k blocks)) (take i b) (drop i b ++ joined (drop (k + 1) blocks)))

module _ (blocks : Blocks) (k i place : ℕ) (within : k < length blocks) (inside : i ≤ length (block_at blocks k))
    (at : place ≡ length (joined (take k blocks)) + i) where
  long_before : length (before blocks k i) ≡ place
  long_before = omega (arith, at, inside, length-append (joined (take k blocks)) (take i (block_at blocks k)), length-take i (block_at blocks k))

  pub before_is : before blocks k i ≡ take place (joined blocks)
  before_is = sym (ap (take place) (all_around blocks k i within) ∙ take_at (before blocks k i) (behind blocks k i) place long_before)

  pub behind_is : behind blocks k i ≡ drop place (joined blocks)
  behind_is = sym (ap (drop place) (all_around blocks k i within) ∙ drop_at (before blocks k i) (behind blocks k i) place long_before)

  -- an item put in there
  pub put_there : (new : Blocks) (x : Bytes) → joined new ≡ before blocks k i ++ x ∷ behind blocks k i → joined new ≡ insert (joined blocks) place x
  put_there new x are = are ∙ (λ j. before_is j ++ x ∷ behind_is j)

pub first_item : {A : Type 0} (xs : List A) (i : ℕ) (d : A) → i < length xs → slice_get xs i ≡ Some (get_or xs i d)
first_item [] i d within = absurd (omega (arith, within))
first_item (x ∷ xs) zero d within = refl
first_item (x ∷ xs) (suc i) d within = first_item xs i d (omega (arith, within))

-- the item there
pub item_there : (blocks : Blocks) (k i place : ℕ) → k < length blocks → i < length (block_at blocks k) → place ≡ length (joined (take k blocks)) + i
    → slice_get (block_at blocks k) i ≡ slice_get (joined blocks) place
item_there blocks k i place within inside at =
    let b = block_at blocks k in
    let xs = joined blocks in
    let left : drop place xs ≡ drop i b ++ joined (drop (k + 1) blocks) = sym (behind_is blocks k i place within (omega (arith, inside)) at) in
    let one = drop_more b i [] inside in
    let here_is : drop place xs ≡ get_or b i [] ∷ (drop (i + 1) b ++ joined (drop (k + 1) blocks)) = left ∙ ap (λ ys. ys ++ joined (drop (k + 1) blocks)) one in
    let some : place < length xs = omega (arith, ap length here_is, length-drop place xs) in
    let same : get_or xs place [] ≡ get_or b i [] = ap (λ ys. get_or ys 0 []) (sym (drop_more xs place [] some) ∙ here_is) in
    first_item b i [] inside ∙ ap (λ x. Some x) (sym same) ∙ sym (first_item xs place [] some)

-- a block changed
pub changed_there : (blocks : Blocks) (k : ℕ) (b : List Bytes) → k < length blocks → joined (set blocks k b) ≡ joined (take k blocks) ++ (b ++ joined (drop (k + 1) blocks))
changed_there blocks k b within =
    ap joined (set_split blocks k b within) ∙ joined-append (take k blocks) (b ∷ drop (suc k) blocks)
    ∙ (let same : suc k ≡ k + 1 = omega arith in ap (λ n. joined (take k blocks) ++ (b ++ joined (drop n blocks))) same)

-- an item put into a block
pub put_inside : (blocks new : Blocks) (k i : ℕ) (x : Bytes) → k < length blocks → new ≡ set blocks k (insert (block_at blocks k) i x)
    → joined new ≡ before blocks k i ++ x ∷ behind blocks k i
put_inside blocks new k i x within are =
    let b = block_at blocks k in
    ap joined are ∙ changed_there blocks k (insert b i x) within
    ∙ ap (λ ys. joined (take k blocks) ++ ys) (append_assoc (take i b) (x ∷ drop i b) (joined (drop (k + 1) blocks)))
    ∙ sym (append_assoc (joined (take k blocks)) (take i b) (x ∷ (drop i b ++ joined (drop (k + 1) blocks))))

-- a block put in between
pub put_between : (blocks new : Blocks) (k : ℕ) (x : Bytes) → new ≡ insert blocks k (x ∷ []) → joined new ≡ joined (take k blocks) ++ x ∷ joined (drop k blocks)
put_between blocks new k x are = ap joined are ∙ joined-append (take k blocks) ((x ∷ []) ∷ drop k blocks)

pub put_in_front : (blocks new : Blocks) (k i : ℕ) (x : Bytes) → k < length blocks → i ≡ 0 → new ≡ insert blocks k (x ∷ [])
    → joined new ≡ before blocks k i ++ x ∷ behind blocks k i
put_in_front blocks new k i x within none are =
    put_between blocks new k x are
    ∙ (λ j. sym (append-nil (joined (take k blocks))) j ++ x ∷ joined (drop_more blocks k [] within j))
    ∙ ap (λ n. before blocks k n ++ x ∷ behind blocks k n) (sym none)

pub put_behind_parted : (blocks parted new : Blocks) (k i : ℕ) (x : Bytes) → joined (take (k + 1) parted) ≡ before blocks k i → joined (drop (k + 1) parted) ≡ behind blocks k i
    → new ≡ insert parted (k + 1) (x ∷ []) → joined new ≡ before blocks k i ++ x ∷ behind blocks k i
put_behind_parted blocks parted new k i x first others are =
    put_between parted new (k + 1) x are ∙ (λ j. first j ++ x ∷ others j)

pub parted_same : (blocks parted : Blocks) (k i : ℕ) → k < length blocks → joined (take (k + 1) parted) ≡ before blocks k i → joined (drop (k + 1) parted) ≡ behind blocks k i
    → joined parted ≡ joined blocks
parted_same blocks parted k i within first others =
    joined_split (k + 1) parted ∙ (λ j. first j ++ others j) ∙ sym (all_around blocks k i within)

-- a block that ends at a place
pub ends_there : (blocks : Blocks) (k i : ℕ) → k < length blocks → i ≡ length (block_at blocks k) → joined (take (k + 1) blocks) ≡ before blocks k i
ends_there blocks k i within at =
    ap joined (take_more blocks k [] within) ∙ joined-append (take k blocks) (block_at blocks k ∷ [])
    ∙ ap (λ ys. joined (take k blocks) ++ ys) (append-nil (block_at blocks k) ∙ sym (take_all i (block_at blocks k) (omega (arith, at))))

-- a block split in two
module _ (blocks new : Blocks) (k h : ℕ) (within : k < length blocks)
    (are : new ≡ take k blocks ++ (take h (block_at blocks k) ∷ (drop h (block_at blocks k) ∷ drop (k + 1) blocks))) where
  abbrev b : List Bytes
  b = block_at blocks k

  first_long : length (take k blocks) ≡ k
  first_long = taken_long blocks k within

  both_long : length (take k blocks ++ take h b ∷ []) ≡ k + 1
  both_long = omega (arith, first_long, length-append (take k blocks) (take h b ∷ []))

  second : new ≡ (take k blocks ++ take h b ∷ []) ++ (drop h b ∷ drop (k + 1) blocks)
  second = are ∙ sym (append_assoc (take k blocks) (take h b ∷ []) (drop h b ∷ drop (k + 1) blocks))

  pub split_same : joined new ≡ joined blocks
  split_same =
      ap joined are ∙ joined-append (take k blocks) (take h b ∷ (drop h b ∷ drop (k + 1) blocks))
      ∙ sym (append_assoc (joined (take k blocks)) (take h b) (drop h b ++ joined (drop (k + 1) blocks))) ∙ sym (all_around blocks k h within)

  pub split_first : joined (take (k + 1) new) ≡ before blocks k h
  split_first =
      ap (λ bs. joined (take (k + 1) bs)) second ∙ ap joined (take_at (take k blocks ++ take h b ∷ []) (drop h b ∷ drop (k + 1) blocks) (k + 1) both_long)
      ∙ joined-append (take k blocks) (take h b ∷ []) ∙ ap (λ ys. joined (take k blocks) ++ ys) (append-nil (take h b))

  pub split_others : joined (drop (k + 1) new) ≡ behind blocks k h
  split_others =
      ap (λ bs. joined (drop (k + 1) bs)) second ∙ ap joined (drop_at (take k blocks ++ take h b ∷ []) (drop h b ∷ drop (k + 1) blocks) (k + 1) both_long)

  -- a place in the first
  pub before_first : (i : ℕ) → i ≤ h → before new k i ≡ before blocks k i
  before_first i order =
      ap (λ bs. before bs k i) are ∙ before_there (take k blocks) (drop h b ∷ drop (k + 1) blocks) (take h b) k i first_long
      ∙ ap (λ ys. joined (take k blocks) ++ ys) (take-take i h b order)

  pub behind_first : (i : ℕ) → i ≤ h → h ≤ length b → behind new k i ≡ behind blocks k i
  behind_first i order inside =
      ap (λ bs. behind bs k i) are ∙ behind_there (take k blocks) (drop h b ∷ drop (k + 1) blocks) (take h b) k i first_long
      ∙ sym (append_assoc (drop i (take h b)) (drop h b) (joined (drop (k + 1) blocks)))
      ∙ ap (λ ys. ys ++ joined (drop (k + 1) blocks))
      (sym (ap (drop i) (sym (take-append-drop h b)) ∙ drop-append-le i (take h b) (drop h b) (omega (arith, order, inside, length-take h b))))

  -- a place in the second
  pub before_second : (i : ℕ) → h ≤ i → before new (k + 1) (i - h) ≡ before blocks k i
  before_second i order =
      let sum : i ≡ h + (i - h) = omega (arith, order) in
      ap (λ bs. before bs (k + 1) (i - h)) second
      ∙ before_there (take k blocks ++ take h b ∷ []) (drop (k + 1) blocks) (drop h b) (k + 1) (i - h) both_long
      ∙ ap (λ ys. ys ++ take (i - h) (drop h b)) (joined-append (take k blocks) (take h b ∷ []) ∙ ap (λ ys. joined (take k blocks) ++ ys) (append-nil (take h b)))
      ∙ append_assoc (joined (take k blocks)) (take h b) (take (i - h) (drop h b))
      ∙ ap (λ ys. joined (take k blocks) ++ ys) (taken_twice h (i - h) b ∙ ap (λ n. take n b) (sym sum))
    where
      taken_twice : {A : Type 0} (m n : ℕ) (xs : List A) → take m xs ++ take n (drop m xs) ≡ take (m + n) xs
      taken_twice m n xs =
          (λ i. sym (take-take m (m + n) xs (omega arith)) i ++ sym (drop-take m n xs) i) ∙ take-append-drop m (take (m + n) xs)

  pub behind_second : (i : ℕ) → h ≤ i → behind new (k + 1) (i - h) ≡ behind blocks k i
  behind_second i order =
      let sum : h + (i - h) ≡ i = omega (arith, order) in
      ap (λ bs. behind bs (k + 1) (i - h)) second
      ∙ behind_there (take k blocks ++ take h b ∷ []) (drop (k + 1) blocks) (drop h b) (k + 1) (i - h) both_long
      ∙ ap (λ ys. ys ++ joined (drop (k + 1) blocks)) (drop-drop (i - h) h b ∙ ap (λ n. drop n b) sum)

-- the walk to a place from the front
pub passed_within : (blocks : Blocks) (k place left : ℕ) → place ≡ length (joined (take k blocks)) + left → place < length (joined blocks) → k < length blocks
passed_within blocks k place left at within = from (cases_lt k (length blocks))
  where
    from : (k < length blocks) ⊎ (length blocks ≤ k) → k < length blocks
    from (inl less) = less
    from (inr more) = absurd (omega (arith, at, within, ap (λ bs. length (joined bs)) (take_all k blocks more)))

pub one_passed : (blocks : Blocks) (k place left len : ℕ) (b : List Bytes) → place ≡ length (joined (take k blocks)) + left → place < length (joined blocks)
    → b ≡ get_or blocks k b → len ≡ length b → len ≤ left → place ≡ length (joined (take (k + 1) blocks)) + (left - len)
one_passed blocks k place left len b at within is long order =
    let more : joined (take (k + 1) blocks) ≡ joined (take k blocks) ++ b =
    ap joined (take_more blocks k b (passed_within blocks k place left at within)) ∙ joined-append (take k blocks) (get_or blocks k b ∷ [])
    ∙ ap (λ ys. joined (take k blocks) ++ ys) (append-nil (get_or blocks k b) ∙ sym is) in
    omega (arith, at, long, order, ap length more, length-append (joined (take k blocks)) b)

-- and from the end
pub place_from_last : (blocks : Blocks) (k all left len : ℕ) (b : List Bytes) → k < length blocks → b ≡ get_or blocks k b → len ≡ length b → left ≤ len
    → all ≡ left + length (joined (drop (k + 1) blocks)) → length (joined blocks) - all ≡ length (joined (take k blocks)) + (len - left)
place_from_last blocks k all left len b within is long order are =
    let whole : joined blocks ≡ joined (take k blocks) ++ (b ++ joined (drop (k + 1) blocks)) =
    joined_split k blocks ∙ ap (λ bs. joined (take k blocks) ++ joined bs) (drop_more blocks k b within)
    ∙ ap (λ ys. joined (take k blocks) ++ (ys ++ joined (drop (k + 1) blocks))) (sym is) in
    omega (
      arith,
      long,
      order,
      are,
      ap length whole,
      length-append (joined (take k blocks)) (b ++ joined (drop (k + 1) blocks)),
      length-append b (joined (drop (k + 1) blocks)),
    )

-- the last item apart
pub last_apart : (xs new : List Bytes) (n : ℕ) (x : Bytes) → n ≡ length xs → 0 < n → slice_get xs (n - 1) ≡ Some x → new ≡ take (n - 1) xs ++ drop n xs → xs ≡ new ++ x ∷ []
last_apart xs new n x long some is are =
    let place : n - 1 < length xs = omega (arith, long, some) in
    let one : get_or xs (n - 1) x ≡ x = some_same (sym (first_item xs (n - 1) x place) ∙ is) in
    let next : n - 1 + 1 ≡ n = omega (arith, some) in
    let first : new ≡ take (n - 1) xs = are ∙ ap (λ ys. take (n - 1) xs ++ ys) (drop_all n xs (omega (arith, long))) ∙ append-nil (take (n - 1) xs) in
    sym (take_all n xs (omega (arith, long))) ∙ ap (λ m. take m xs) (sym next) ∙ take_more xs (n - 1) x place ∙ (λ i. sym first i ++ one i ∷ [])
  where
    some_same : {A : Type 0} {a b : A} → Some a ≡ Some b → a ≡ b
    some_same {a = a} e = ap (λ o. unwrap_or o a) e

-- a block put behind another that is cut
pub split_is : (blocks more new : Blocks) (k h : ℕ) (others : List Bytes) → k < length blocks → others ≡ drop h (block_at blocks k)
    → more ≡ insert blocks (k + 1) others → new ≡ set more k (take h (block_at more k))
    → new ≡ take k blocks ++ (take h (block_at blocks k) ∷ (drop h (block_at blocks k) ∷ drop (k + 1) blocks))
split_is blocks more new k h others within is put cut =
    let b = block_at blocks k in
    let long = taken_long blocks k within in
    let apart : more ≡ take k blocks ++ b ∷ (others ∷ drop (k + 1) blocks) =
    put ∙ ap (λ bs. bs ++ others ∷ drop (k + 1) blocks) (take_more blocks k [] within) ∙ append_assoc (take k blocks) (b ∷ []) (others ∷ drop (k + 1) blocks) in
    let same : block_at more k ≡ b = ap (λ bs. block_at bs k) apart ∙ block_there (take k blocks) (others ∷ drop (k + 1) blocks) b k long in
    cut ∙ (λ i. set (apart i) k (take h (same i))) ∙ set_at (take k blocks) b (others ∷ drop (k + 1) blocks) (take h b) k long
    ∙ ap (λ ys. take k blocks ++ take h b ∷ (ys ∷ drop (k + 1) blocks)) is

pub held_on_err : {T E P : Type 0} (r : Result T E) → P → OnErr r P
held_on_err (Ok x) held = tt
held_on_err (Err e) held = held

-- what became of a block in its place
pub done_put : (blocks new : Blocks) (k i : ℕ) (x : Bytes) (done : Bool) → k < length blocks
    → new ≡ set blocks k (if done then insert (block_at blocks k) i x else block_at blocks k) → OnTrue done (joined new ≡ before blocks k i ++ x ∷ behind blocks k i)
done_put blocks new k i x true within are = put_inside blocks new k i x within are
done_put blocks new k i x false within are = tt

pub done_same : (blocks new : Blocks) (k i : ℕ) (x : Bytes) (done : Bool)
    → new ≡ set blocks k (if done then insert (block_at blocks k) i x else block_at blocks k) → OnFalse done (new ≡ blocks)
done_same blocks new k i x true are = tt
done_same blocks new k i x false are = are ∙ set-get_or blocks k []

-- two reads of one block
pub read_twice : (blocks : Blocks) (k n m : ℕ) (b c : List Bytes) → k < length blocks → b ≡ get_or blocks k b → c ≡ get_or blocks k c → n ≡ length b → m ≡ length c → n ≡ m
read_twice blocks k n m b c within is too long much =
    long ∙ ap length (get_or_read blocks k b within is [] ∙ sym (get_or_read blocks k c within too [])) ∙ sym much

-- an item put in once a block was split
pub halved_first : (blocks more new : Blocks) (k h i : ℕ) (x : Bytes) → k < length blocks → h ≤ length (block_at blocks k)
    → more ≡ take k blocks ++ (take h (block_at blocks k) ∷ (drop h (block_at blocks k) ∷ drop (k + 1) blocks))
    → i ≤ h → joined new ≡ before more k i ++ x ∷ behind more k i → joined new ≡ before blocks k i ++ x ∷ behind blocks k i
halved_first blocks more new k h i x within inside are order put =
    put ∙ (λ j. before_first blocks more k h within are i order j ++ x ∷ behind_first blocks more k h within are i order inside j)

pub halved_second : (blocks more new : Blocks) (k h i : ℕ) (x : Bytes) → k < length blocks
    → more ≡ take k blocks ++ (take h (block_at blocks k) ∷ (drop h (block_at blocks k) ∷ drop (k + 1) blocks))
    → h ≤ i → joined new ≡ before more (k + 1) (i - h) ++ x ∷ behind more (k + 1) (i - h) → joined new ≡ before blocks k i ++ x ∷ behind blocks k i
halved_second blocks more new k h i x within are order put =
    put ∙ (λ j. before_second blocks more k h within are i order j ++ x ∷ behind_second blocks more k h within are i order j)

-- the last block
pub last_block : (blocks : Blocks) (k : ℕ) → k + 1 ≡ length blocks → blocks ≡ take k blocks ++ block_at blocks k ∷ []
last_block blocks k last =
    here blocks k (omega (arith, last)) ∙ ap (λ bs. take k blocks ++ block_at blocks k ∷ bs) (drop_all (k + 1) blocks (omega (arith, last)))

joined_last : (blocks : Blocks) (b : List Bytes) → joined (blocks ++ b ∷ []) ≡ joined blocks ++ b
joined_last blocks b = joined-append blocks (b ∷ []) ∙ ap (λ ys. joined blocks ++ ys) (append-nil b)

pub pushed_inside : (blocks new : Blocks) (k i : ℕ) (x : Bytes) → k + 1 ≡ length blocks → i ≡ length (block_at blocks k)
    → joined new ≡ before blocks k i ++ x ∷ behind blocks k i → joined new ≡ joined blocks ++ x ∷ []
pushed_inside blocks new k i x last at put =
    put ∙ (λ j. (sym (ap joined (last_block blocks k last) ∙ joined_last (take k blocks) (block_at blocks k)
    ∙ ap (λ ys. joined (take k blocks) ++ ys) (sym (take_all i (block_at blocks k) (omega (arith, at)))))) j
    ++ x ∷ (drop_all i (block_at blocks k) (omega (arith, at)) j ++ joined (drop_all (k + 1) blocks (omega (arith, last)) j)))

pub pushed_alone : (blocks same new : Blocks) (alone : List Bytes) (x : Bytes) → alone ≡ x ∷ [] → joined same ≡ joined blocks → new ≡ same ++ alone ∷ []
    → joined new ≡ joined blocks ++ x ∷ []
pushed_alone blocks same new alone x is kept are = ap joined are ∙ joined_last same alone ∙ (λ j. kept j ++ is j)

pub popped_inside : (blocks : Blocks) (k : ℕ) (b left : List Bytes) (x : Bytes) → k + 1 ≡ length blocks → b ≡ get_or blocks k b → b ≡ left ++ x ∷ []
    → joined blocks ≡ joined (set blocks k left) ++ x ∷ []
popped_inside blocks k b left x last read is =
    let within : k < length blocks = omega (arith, last) in
    let ended : drop (suc k) blocks ≡ [] = drop_all (suc k) blocks (omega (arith, last)) in
    ap joined (last_block blocks k last) ∙ joined_last (take k blocks) (block_at blocks k)
    ∙ ap (λ ys. joined (take k blocks) ++ ys) (sym (get_or_read blocks k b within read []) ∙ is)
    ∙ sym (append_assoc (joined (take k blocks)) left (x ∷ []))
    ∙ ap (λ ys. ys ++ x ∷ []) (sym (ap joined (set_split blocks k left within ∙ ap (λ bs. take k blocks ++ left ∷ bs) ended) ∙ joined_last (take k blocks) left))

pub popped_alone : (blocks left : Blocks) (b : List Bytes) (x : Bytes) → blocks ≡ left ++ b ∷ [] → b ≡ x ∷ [] → joined blocks ≡ joined left ++ x ∷ []
popped_alone blocks left b x are is = ap joined are ∙ joined_last left b ∙ ap (λ ys. joined left ++ ys) is

-- an item in the place of another
pub done_replaced : (blocks new : Blocks) (k i : ℕ) (x : Bytes) (done : Bool) → k < length blocks → i < length (block_at blocks k)
    → new ≡ set blocks k (if done then set (block_at blocks k) i x else block_at blocks k)
    → OnTrue done (joined new ≡ before blocks k i ++ x ∷ drop 1 (behind blocks k i))
done_replaced blocks new k i x false within inside are = tt
done_replaced blocks new k i x true within inside are =
    let b = block_at blocks k in
    let rest = joined (drop (k + 1) blocks) in
    let less : drop 1 (behind blocks k i) ≡ drop (suc i) b ++ rest =
    let next : i + 1 ≡ suc i = omega arith in
    drop-append-le 1 (drop i b) rest (omega (arith, inside, length-drop i b)) ∙ ap (λ ys. ys ++ rest) (drop-drop 1 i b ∙ ap (λ n. drop n b) next) in
    ap joined are ∙ changed_there blocks k (set b i x) within
    ∙ ap (λ ys. joined (take k blocks) ++ (ys ++ rest)) (set_split b i x inside)
    ∙ ap (λ ys. joined (take k blocks) ++ ys) (append_assoc (take i b) (x ∷ drop (suc i) b) rest)
    ∙ sym (append_assoc (joined (take k blocks)) (take i b) (x ∷ (drop (suc i) b ++ rest)))
    ∙ ap (λ ys. before blocks k i ++ x ∷ ys) (sym less)

-- the last item of a block out
first_blocks : (blocks : Blocks) (k : ℕ) → k < length blocks → joined (take (k + 1) blocks) ≡ joined (take k blocks) ++ block_at blocks k
first_blocks blocks k within = ap joined (take_more blocks k [] within) ∙ joined_last (take k blocks) (block_at blocks k)

without_last : (xs ys : List Bytes) (n : ℕ) → n ≡ length ys → 0 < n → take (length (xs ++ ys) - 1) (xs ++ ys) ≡ xs ++ take (n - 1) ys
without_last xs ys n long some =
    let last : length (xs ++ ys) - 1 ≡ length (xs ++ take (n - 1) ys) =
    omega (arith, long, some, length-append xs ys, length-append xs (take (n - 1) ys), length-take (n - 1) ys) in
    ap (take (length (xs ++ ys) - 1)) (ap (λ zs. xs ++ zs) (sym (take-append-drop (n - 1) ys)) ∙ sym (append_assoc xs (take (n - 1) ys) (drop (n - 1) ys)))
    ∙ take_at (xs ++ take (n - 1) ys) (drop (n - 1) ys) (length (xs ++ ys) - 1) (sym last)

abbrev without_last_of : Blocks → ℕ → List Bytes
without_last_of blocks k = let first = joined (take (k + 1) blocks) in take (length first - 1) first ++ joined (drop (k + 1) blocks)

last_out : (blocks : Blocks) (k n : ℕ) → k < length blocks → n ≡ length (block_at blocks k) → 0 < n
    → without_last_of blocks k ≡ joined (take k blocks) ++ (take (n - 1) (block_at blocks k) ++ joined (drop (k + 1) blocks))
last_out blocks k n within long some =
    ap (λ xs. take (length xs - 1) xs ++ joined (drop (k + 1) blocks)) (first_blocks blocks k within)
    ∙ ap (λ ys. ys ++ joined (drop (k + 1) blocks)) (without_last (joined (take k blocks)) (block_at blocks k) n long some)
    ∙ append_assoc (joined (take k blocks)) (take (n - 1) (block_at blocks k)) (joined (drop (k + 1) blocks))

pub block_out : (blocks new : Blocks) (k n : ℕ) (b : List Bytes) → k < length blocks → b ≡ get_or blocks k b → n ≡ length b → n ≡ 1 → new ≡ remove blocks k
    → joined new ≡ without_last_of blocks k
block_out blocks new k n b within read long one are =
    let size : n ≡ length (block_at blocks k) = long ∙ ap length (get_or_read blocks k b within read []) in
    let next : suc k ≡ k + 1 = omega arith in
    let none : n - 1 ≡ 0 = omega (arith, one) in
    ap joined are ∙ ap (λ m. joined (take k blocks ++ drop m blocks)) next ∙ joined-append (take k blocks) (drop (k + 1) blocks)
    ∙ sym (last_out blocks k n within size (omega (arith, one))
    ∙ ap (λ m. joined (take k blocks) ++ (take m (block_at blocks k) ++ joined (drop (k + 1) blocks))) none)

pub last_item_out : (blocks : Blocks) (k n : ℕ) (b c left : List Bytes) → k < length blocks → b ≡ get_or blocks k b → n ≡ length b → 0 < n → c ≡ get_or blocks k c
    → left ≡ take (n - 1) c ++ drop n c → joined (set blocks k left) ≡ without_last_of blocks k
last_item_out blocks k n b c left within read long some again are =
    let size : n ≡ length (block_at blocks k) = long ∙ ap length (get_or_read blocks k b within read []) in
    let cut : left ≡ take (n - 1) (block_at blocks k) = are ∙ ap (λ ys. take (n - 1) ys ++ drop n ys) (get_or_read blocks k c within again [])
    ∙ ap (λ ys. take (n - 1) (block_at blocks k) ++ ys) (drop_all n (block_at blocks k) (omega (arith, size))) ∙ append-nil (take (n - 1) (block_at blocks k)) in
    changed_there blocks k left within ∙ ap (λ ys. joined (take k blocks) ++ (ys ++ joined (drop (k + 1) blocks))) cut ∙ sym (last_out blocks k n within size some)

-- an item in a block of its own in the place of another
pub replaced_alone : (blocks parted more new : Blocks) (k i : ℕ) (x : Bytes) → k < length blocks → i < length (block_at blocks k) → k < length parted
    → joined (take (k + 1) parted) ≡ before blocks k (i + 1) → joined (drop (k + 1) parted) ≡ behind blocks k (i + 1) → more ≡ insert parted (k + 1) (x ∷ [])
    → joined new ≡ without_last_of more k → joined new ≡ before blocks k i ++ x ∷ drop 1 (behind blocks k i)
replaced_alone blocks parted more new k i x within inside inside_parted first others put out =
    let b = block_at blocks k in
    let long : length (take (k + 1) parted) ≡ k + 1 = omega (arith, inside_parted, length-take (k + 1) parted) in
    let same_first : take (k + 1) more ≡ take (k + 1) parted = ap (take (k + 1)) put ∙ take_at (take (k + 1) parted) ((x ∷ []) ∷ drop (k + 1) parted) (k + 1) long in
    let left : drop (k + 1) more ≡ (x ∷ []) ∷ drop (k + 1) parted = ap (drop (k + 1)) put ∙ drop_at (take (k + 1) parted) ((x ∷ []) ∷ drop (k + 1) parted) (k + 1) long in
    let size : i + 1 ≡ length (take (i + 1) b) = omega (arith, inside, length-take (i + 1) b) in
    let less : i + 1 - 1 ≡ i = omega arith in
    let shorter : take (length (before blocks k (i + 1)) - 1) (before blocks k (i + 1)) ≡ before blocks k i =
    without_last (joined (take k blocks)) (take (i + 1) b) (i + 1) size (omega arith) ∙ ap (λ n. joined (take k blocks) ++ take n (take (i + 1) b)) less
    ∙ ap (λ ys. joined (take k blocks) ++ ys) (take-take i (i + 1) b (omega arith)) in
    let behind_next : behind blocks k (i + 1) ≡ drop 1 (behind blocks k i) =
    sym (drop-append-le 1 (drop i b) (joined (drop (k + 1) blocks)) (omega (arith, inside, length-drop i b)) ∙ ap (λ ys. ys ++ joined (drop (k + 1) blocks)) (drop-drop 1 i b)) in
    out
    ∙ (λ j. let xs = (ap joined same_first ∙ first) j in take (length xs - 1) xs ++ joined (left j))
    ∙ (λ j. shorter j ++ x ∷ (others ∙ behind_next) j)

pub on_true : {P : Type 0} (b : Bool) → b ≡ true → OnTrue b P → P
on_true {P = P} b is held = subst (λ (c : Bool). OnTrue c P) is held

-- the first items kept
pub cut_end : (blocks cut new : Blocks) (k i end : ℕ) → k < length blocks → i < length (block_at blocks k) → 0 < end → end - 1 ≡ length (joined (take k blocks)) + i
    → cut ≡ take (k + 1) blocks → new ≡ set cut k (take (i + 1) (block_at cut k)) → joined new ≡ take end (joined blocks)
cut_end blocks cut new k i end within inside some at short are =
    let b = block_at blocks k in
    let long = taken_long blocks k within in
    let apart : cut ≡ take k blocks ++ b ∷ [] = short ∙ take_more blocks k [] within in
    let same : block_at cut k ≡ b = ap (λ bs. block_at bs k) apart ∙ block_there (take k blocks) [] b k long in
    ap joined (are ∙ (λ j. set (apart j) k (take (i + 1) (same j))) ∙ set_at (take k blocks) b [] (take (i + 1) b) k long)
    ∙ joined_last (take k blocks) (take (i + 1) b) ∙ before_is blocks k (i + 1) end within (omega (arith, inside)) (omega (arith, some, at))

-- the first items out
pub cut_start : (blocks skipped : Blocks) (b left : List Bytes) (k i start : ℕ) → k < length blocks → i < length (block_at blocks k)
    → start ≡ length (joined (take k blocks)) + i → skipped ≡ drop k blocks → b ≡ get_or skipped 0 b → left ≡ take 0 b ++ drop i b
    → joined (set skipped 0 left) ≡ drop start (joined blocks)
cut_start blocks skipped b left k i start within inside at short read are =
    let apart : skipped ≡ block_at blocks k ∷ drop (k + 1) blocks = short ∙ drop_more blocks k [] within in
    let same : b ≡ block_at blocks k = read ∙ ap (λ bs. get_or bs 0 b) apart in
    (λ j. joined (set (apart j) 0 left)) ∙ ap (λ ys. ys ++ joined (drop (k + 1) blocks)) (are ∙ ap (drop i) same)
    ∙ behind_is blocks k i start within (omega (arith, inside)) at
