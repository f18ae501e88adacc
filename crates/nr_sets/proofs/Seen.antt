-- Keys in byte order, as the finite set that they are seen as.
use Rattle.std.proofs.Common.{◌≡◌, ◌+◌, Bool, true, false, cond, not, ◌||◌, ◌&&◌, T, Option, Some, None, is_some, is_none, List, [], ◌∷◌, length, refl, ap, sym, ◌∙◌, subst, arith, map}
use Rattle.std.specs.declared.cmp.Ordering.TheVariants.{Less}
use Rattle.std.specs.Ordering.{eq_by_cmp, is_eq, is_lt}
use Rattle.std.specs.Cmp.Lexicographic.{nat_list_cmp_total}
use Rattle.std.specs.List.{AllByRecursion, list_any}
use Rattle.std.specs.List.Sorted.{IsStrictlySortedBy}
use Rattle.std.specs.Map.{keys_of, remove_entry}
use Rattle.std.specs.BTreeMap.{insert_entry, is_at}
use Rattle.std.specs.FinSet as set
use Rattle.std.specs.FinMap.Entries as entries
use Rattle.std.proofs.lemmas.List.{length-map}
use Rattle.std.proofs.lemmas.Map.Lookups.{exact_bytes}
use Rattle.nr_model.specs.Bytes.{Bytes}
use Rattle.nr_model.specs.Keyspace.{byte_cmp}
use Rattle.nr_model.specs.Sets.{Members, listed}
use Rattle.nr_model.proofs.Ordered.{has, IsOrdered, ordered-in_order, has-in_order, same_ordered}
use Rattle.nr_packs.specs.Packed.{Entries}
use Rattle.nr_packs.specs.Orders.{AreInOrder}
use Rattle.nr_packs.specs.Tables.{held}
use Rattle.nr_packs.proofs.Looked.{is_same, held-insert, held-remove}

abbrev pub seen : List Bytes → Members
seen ks = set.from_list ks

both : (a b : Bool) → T a → T b → T (a && b)
both true b p q = q
both false b p q = p

abbrev marked : List Bytes → List (Bytes × Unit {0})
marked ks = map (λ k. (k, tt)) ks

below : (x : Bytes) (ks : List Bytes) → AllByRecursion (λ y. byte_cmp x y ≡ Less) ks → T (entries.below_all byte_cmp x (marked ks))
below x [] all = tt
below x (k ∷ ks) all = both (is_lt (byte_cmp x k)) _ (subst (λ r. T (is_lt r)) (sym all.0) tt) (below x ks all.1)

-- keys that rise are in order
pub rising : (ks : List Bytes) → IsStrictlySortedBy byte_cmp ks → IsOrdered byte_cmp ks
unfolding IsStrictlySortedBy
rising [] rises = tt
rising (k ∷ ks) rises = both (entries.below_all byte_cmp k (marked ks)) _ (below k ks rises.0) (rising ks rises.1)

pub contains_seen : (ks : List Bytes) (q : Bytes) → set.contains (seen ks) q ≡ list_any (is_at (byte_cmp q)) ks
contains_seen ks q = set.contains-from_list nat_list_cmp_total ks q

pub has-listed : (s : Members) (q : Bytes) → has byte_cmp q (listed s) ≡ set.contains s q
has-listed s q = has-in_order byte_cmp nat_list_cmp_total q (set.items s) ∙ sym (set.contains-items s q)

pub ordered-listed : (s : Members) → IsOrdered byte_cmp (listed s)
ordered-listed s = ordered-in_order byte_cmp nat_list_cmp_total (set.items s)

-- members in order are those of a set, if the same are in it
pub listed_is : (s : Members) (ks : List Bytes) → IsOrdered byte_cmp ks → ((q : Bytes) → has byte_cmp q ks ≡ set.contains s q) → ks ≡ listed s
listed_is s ks ordered same = same_ordered byte_cmp nat_list_cmp_total exact_bytes ks (listed s) ordered (ordered-listed s)
    (λ q. same q ∙ sym (has-listed s q))

pub listed_seen : (ks : List Bytes) → IsStrictlySortedBy byte_cmp ks → ks ≡ listed (seen ks)
listed_seen ks rises = listed_is (seen ks) ks (rising ks rises) (λ q. sym (contains_seen ks q))

-- the least is not among the greater ones
apart : (k : Bytes) (ks : List Bytes) → AllByRecursion (λ y. byte_cmp k y ≡ Less) ks → list_any (eq_by_cmp byte_cmp k) ks ≡ false
apart k [] all = refl
apart k (x ∷ ks) all = (λ i. is_eq (all.0 i) || apart k ks all.1 i)

pub len_seen : (ks : List Bytes) → IsStrictlySortedBy byte_cmp ks → set.len (seen ks) ≡ length ks
unfolding IsStrictlySortedBy
len_seen [] rises = set.len-empty byte_cmp
len_seen (k ∷ ks) rises =
    let new : set.contains (seen ks) k ≡ false = contains_seen ks k ∙ apart k ks rises.0 in
    let more = len_seen ks rises.1 in
    set.len-insert nat_list_cmp_total (seen ks) k ∙ ap (λ b. cond b (set.len (seen ks)) (set.len (seen ks) + 1)) new ∙ omega (arith, more)

pub none_seen : (ks : List Bytes) → ks ≡ [] → seen ks ≡ set.empty
none_seen ks none = ap seen none

-- there are as many as entries
pub counted_seen : (es : Entries) → AreInOrder es → set.len (seen (keys_of es)) ≡ length es
counted_seen es rises = len_seen (keys_of es) rises ∙ length-map es (λ (e : Bytes × Bytes). e.0)

some_by : {A : Type 0} (b : Bool) (x : A) (o : Option A) → is_some (cond b (Some x) o) ≡ (b || is_some o)
some_by true x o = refl
some_by false x o = refl

none_by : {A : Type 0} (b : Bool) (o : Option A) → is_some (cond b None o) ≡ (not b && is_some o)
none_by true o = refl
none_by false o = refl

found_in : (es : Entries) (q : Bytes) → list_any (is_at (byte_cmp q)) (keys_of es) ≡ is_some (held q es)
found_in [] q = refl
found_in (e ∷ es) q = ap (λ b. is_at (byte_cmp q) e.0 || b) (found_in es q) ∙ sym (some_by (is_at (byte_cmp q) e.0) e.1 (held q es))

-- a member is what something is found at
pub contains_found : (es : Entries) (q : Bytes) → set.contains (seen (keys_of es)) q ≡ is_some (held q es)
contains_found es q = contains_seen (keys_of es) q ∙ found_in es q

-- one put in, and one taken out
pub inserted_seen : (old new : Entries) (k v : Bytes) → new ≡ insert_entry byte_cmp old k v → seen (keys_of new) ≡ set.insert (seen (keys_of old)) k
inserted_seen old new k v is = set.same_set nat_list_cmp_total exact_bytes _ _ (λ q.
    contains_found new q ∙ ap (λ es. is_some (held q es)) is ∙ ap is_some (held-insert k v q old) ∙ some_by (is_same q k) v (held q old)
    ∙ ap (λ b. is_same q k || b) (sym (contains_found old q))
    ∙ sym (set.contains-insert nat_list_cmp_total (seen (keys_of old)) k q))

pub removed_seen : (old new : Entries) (k : Bytes) → AreInOrder old → new ≡ remove_entry (is_at (byte_cmp k)) old → seen (keys_of new) ≡ set.remove (seen (keys_of old)) k
removed_seen old new k rises is = set.same_set nat_list_cmp_total exact_bytes _ _ (λ q.
    contains_found new q ∙ ap (λ es. is_some (held q es)) is ∙ ap is_some (held-remove k q old rises) ∙ none_by (is_same q k) (held q old)
    ∙ ap (λ b. not (is_same q k) && b) (sym (contains_found old q))
    ∙ sym (set.contains-remove nat_list_cmp_total (seen (keys_of old)) k q))

-- a member is new where nothing is found
pub is_new : {A : Type 0} (o : Option A) → is_none o ≡ not (is_some o)
is_new None = refl
is_new (Some x) = refl
