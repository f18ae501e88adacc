-- What changes of an index are on who stands where.
use Rattle.std.proofs.Common.{◌≡◌, true, false, cond, Option, Some, None, List, [], ◌∷◌, map, refl, ap, sym, ◌∙◌, subst, Bor, Result, Ok, Err, OnOk, OnErr}
use Rattle.std.specs.Prelude.{unwrap_or, T}
use Rattle.std.specs.declared.cmp.Ordering.TheVariants.{Less, Equal, Greater}
use Rattle.std.specs.List.Sorted.{IsStrictlySortedBy}
use Rattle.std.specs.Map.{lookup, keys_of}
use Rattle.std.specs.BTreeSet.{BTreeSet}
use Rattle.std.specs.BTreeMap.{is_at}
use Rattle.std.specs.Option.{option_map, option_copied}
use Rattle.std.specs.Ordering.{eq_by_cmp}
use Rattle.std.specs.Cmp.{Equal-is}
use Rattle.std.specs.Cmp.Lexicographic.{nat_list_cmp_total}
use Rattle.std.specs.FinMap as finmap
use Rattle.std.proofs.lemmas.Map.Lookups.{exact_bytes}
use Rattle.nr_model.specs.Bytes.{Bytes}
use Rattle.nr_model.specs.Keyspace.{byte_cmp}
use Rattle.nr_model.specs.Names.{put}
use Rattle.nr_model.specs.Items.{Connection, connection_cmp}
use Rattle.nr_model.proofs.Ordered.{IsOrdered}
use Rattle.nr_entry.specs.declared.conn.ConnId.{ConnId}
use Rattle.nr_pubsub.specs.Standings.{Standing, standing_at, some_of, IsPlaced, connections, without, standing_entries, standing_of, IsInOrder}
use Rattle.nr_pubsub.proofs.Seen.{get-seen, changed, twice, sorted_keys}
use Rattle.nr_pubsub.proofs.Sets.{rising}

abbrev pub Entries : Type 0
Entries = List (Bytes × BTreeSet ConnId)

abbrev pub seen_set : BTreeSet ConnId → List Connection
seen_set set = connections set.keys

-- the set at a name
abbrev pub set_at : Entries → Bytes → Option (BTreeSet ConnId)
set_at entries name = lookup (is_at (byte_cmp name)) entries

pub get-standing : (entries : Entries) (q : Bytes) → finmap.get (standing_of entries) q ≡ option_map seen_set (set_at entries q)
get-standing entries q = get-seen byte_cmp nat_list_cmp_total (λ (n : Bytes). n) seen_set entries q

-- one name has another set, or none
abbrev pub IsChanged : Entries → Entries → Bytes → Option (BTreeSet ConnId) → Type 0
IsChanged old new name w = (q : Bytes) → set_at new q ≡ cond (is_at (byte_cmp name) q) w (set_at old q)

pub placed : (old new : Entries) (name : Bytes) (w : Option (BTreeSet ConnId)) (after : List Connection) → IsChanged old new name w
    → option_map seen_set w ≡ some_of after → IsPlaced (standing_of old) (standing_of new) name after
placed old new name w after at is = record {
  found = λ q. changed byte_cmp nat_list_cmp_total (λ (n : Bytes). n) seen_set old new name w at q
      ∙ ap (λ o. cond (eq_by_cmp byte_cmp q name) o (finmap.get (standing_of old) q)) is;
}

-- the second of two changes at one name counts
pub changed_twice : (a b c : Entries) (name : Bytes) (v w : Option (BTreeSet ConnId)) → IsChanged a b name v → IsChanged b c name w → IsChanged a c name w
changed_twice a b c name v w first second q =
    second q ∙ ap (cond (is_at (byte_cmp name) q) w) (first q) ∙ twice (is_at (byte_cmp name) q) w v (set_at a q)

pub some_or_none : (cs : List Connection) → unwrap_or (some_of cs) [] ≡ cs
some_or_none [] = refl
some_or_none (c ∷ cs) = refl

pub some_of-put : (c : Connection) (cs : List Connection) → some_of (put connection_cmp c cs) ≡ Some (put connection_cmp c cs)
some_of-put c [] = refl
some_of-put c (d ∷ ds) =
    elim (connection_cmp c d) as (λ r. some_of (elim r [ Less ↦ c ∷ d ∷ ds | Equal ↦ d ∷ ds | Greater ↦ d ∷ put connection_cmp c ds ])
    ≡ Some (elim r [ Less ↦ c ∷ d ∷ ds | Equal ↦ d ∷ ds | Greater ↦ d ∷ put connection_cmp c ds ])) [
      | Less ↦ refl
      | Equal ↦ refl
      | Greater ↦ refl
    ]

pub some_of-some : (cs : List Connection) → (cs ≡ [] → ⊥) → Some cs ≡ some_of cs
some_of-some [] some = absurd (some refl)
some_of-some (c ∷ cs) some = refl

-- who stands at a name is who is in the set there
pub standing-set : (entries : Entries) (name : Bytes) (set : BTreeSet ConnId) → set_at entries name ≡ Some set
    → standing_at (standing_of entries) name ≡ seen_set set
standing-set entries name set is = ap (λ o. unwrap_or o []) (get-standing entries name ∙ ap (option_map seen_set) is)

pub standing-none : (entries : Entries) (name : Bytes) → set_at entries name ≡ None → standing_at (standing_of entries) name ≡ []
standing-none entries name is = ap (λ o. unwrap_or o []) (get-standing entries name ∙ ap (option_map seen_set) is)

-- where nobody stands at a name, nothing changes by saying so
pub absent_placed : (all : Standing) (name : Bytes) → finmap.get all name ≡ None → IsPlaced all all name []
absent_placed all name none = record {
  found = λ q.
      elim (eq_by_cmp byte_cmp q name) as (λ t. eq_by_cmp byte_cmp q name ≡ t → finmap.get all q ≡ cond t None (finmap.get all q)) [
        | true ↦ λ here. ap (finmap.get all) (exact_bytes q name ((Equal-is (byte_cmp q name)).0 here)) ∙ none
        | false ↦ λ _. refl
      ] refl;
}

-- who stands in a set, or in none
abbrev pub in_set : Option (BTreeSet ConnId) → List Connection
in_set w = unwrap_or (option_map seen_set w) []

-- what stands where stays in order
pub in_order : (old new : Entries) (name : Bytes) (w : Option (BTreeSet ConnId)) → IsInOrder old → IsStrictlySortedBy byte_cmp (keys_of new)
    → IsChanged old new name w → IsStrictlySortedBy connection_cmp (in_set w) → IsInOrder new
in_order old new name w was names at rises = record {
  names = names;
  each = λ q. subst (IsStrictlySortedBy connection_cmp)
      (sym (ap (λ o. unwrap_or o []) (get-standing new q ∙ ap (option_map seen_set) (at q))))
      (elim (is_at (byte_cmp name) q) as (λ t. IsStrictlySortedBy connection_cmp (in_set (cond t w (set_at old q)))) [
        | true ↦ rises
        | false ↦ subst (IsStrictlySortedBy connection_cmp) (ap (λ o. unwrap_or o []) (get-standing old q)) (was.each q)
      ]);
}

pub one_rises : (c : Connection) → IsStrictlySortedBy connection_cmp (c ∷ [])
unfolding IsStrictlySortedBy
one_rises c = (tt, tt)

pub nobody_rises : IsStrictlySortedBy connection_cmp []
unfolding IsStrictlySortedBy
nobody_rises = tt

pub none_in_order : (entries : Entries) → entries ≡ [] → IsInOrder entries
unfolding IsStrictlySortedBy
none_in_order entries none = subst IsInOrder (sym none) (record {
  names = tt;
  each = λ q. subst (IsStrictlySortedBy connection_cmp) (sym (standing-none [] q refl)) tt;
})

-- the same sets at all names are the same standing
pub same_standing : (old new : Entries) → ((q : Bytes) → set_at new q ≡ set_at old q) → standing_of new ≡ standing_of old
same_standing old new same = finmap.same_map nat_list_cmp_total exact_bytes (standing_of new) (standing_of old)
    (λ q. get-standing new q ∙ ap (option_map seen_set) (same q) ∙ sym (get-standing old q))

-- one more at a name
pub joined : (old new : Entries) (name : Bytes) (set after : BTreeSet ConnId) (c : Connection) → set_at old name ≡ Some set
    → IsChanged old new name (Some after)
    → seen_set after ≡ put connection_cmp c (seen_set set)
    → IsPlaced (standing_of old) (standing_of new) name (put connection_cmp c (standing_at (standing_of old) name))
joined old new name set after c there at is =
    placed old new name (Some after) (put connection_cmp c (standing_at (standing_of old) name)) at
    (ap Some (is ∙ ap (put connection_cmp c) (sym (standing-set old name set there))) ∙ sym (some_of-put c (standing_at (standing_of old) name)))

-- one less at a name where some are left
pub fewer : (old new : Entries) (name : Bytes) (set after : BTreeSet ConnId) (c : Connection) → set_at old name ≡ Some set
    → IsChanged old new name (Some after)
    → seen_set after ≡ without c (seen_set set) → (seen_set after ≡ [] → ⊥)
    → IsPlaced (standing_of old) (standing_of new) name (without c (standing_at (standing_of old) name))
fewer old new name set after c there at is some =
    let left : seen_set after ≡ without c (standing_at (standing_of old) name) = is ∙ ap (without c) (sym (standing-set old name set there)) in
    placed old new name (Some after) (without c (standing_at (standing_of old) name)) at (some_of-some (seen_set after) some ∙ ap some_of left)

-- the last one at a name
pub emptied : (old new : Entries) (name : Bytes) (set after : BTreeSet ConnId) (c : Connection) → set_at old name ≡ Some set → IsChanged old new name None
    → seen_set after ≡ without c (seen_set set) → seen_set after ≡ []
    → IsPlaced (standing_of old) (standing_of new) name (without c (standing_at (standing_of old) name))
emptied old new name set after c there at is none =
    placed old new name None (without c (standing_at (standing_of old) name)) at
    (ap some_of (sym (ap (without c) (standing-set old name set there) ∙ sym is ∙ none)))

-- nobody at a name
pub nobody : (all : Standing) (entries : Entries) (name : Bytes) (c : Connection) → standing_of entries ≡ all → set_at entries name ≡ None
    → IsPlaced all (standing_of entries) name (without c (standing_at all name))
nobody all entries name c is none =
    let absent : finmap.get all name ≡ None = ap (λ m. finmap.get m name) (sym is) ∙ get-standing entries name ∙ ap (option_map seen_set) none in
    subst (λ m. IsPlaced all m name (without c (standing_at all name))) (sym is)
    (subst (IsPlaced all all name) (sym (ap (λ o. without c (unwrap_or o [])) absent)) (absent_placed all name absent))

keys_standing : (entries : Entries) → map (λ e. e.0) (standing_entries entries) ≡ keys_of entries
keys_standing [] = refl
keys_standing (e ∷ entries) = ap (λ ns. e.0 ∷ ns) (keys_standing entries)

rising_entries : (entries : Entries) → IsStrictlySortedBy byte_cmp (keys_of entries) → T (finmap.is_sorted byte_cmp (standing_entries entries))
rising_entries entries rises =
    subst T (sym (sorted_keys byte_cmp (standing_entries entries)))
    (subst (IsOrdered byte_cmp) (sym (keys_standing entries)) (rising byte_cmp (keys_of entries) rises))

-- the entries of a map whose names rise
pub entries-standing : (entries : Entries) → IsStrictlySortedBy byte_cmp (keys_of entries) → finmap.entries (standing_of entries) ≡ standing_entries entries
entries-standing entries rises =
    let sorted : T (finmap.is_sorted byte_cmp (standing_entries entries)) = rising_entries entries rises in
    ap finmap.entries (finmap.same_map nat_list_cmp_total exact_bytes (standing_of entries) (finmap.from_sorted (standing_entries entries))
    (λ q. finmap.get-from_entries nat_list_cmp_total (standing_entries entries) q
    ∙ sym (finmap.get-from_sorted byte_cmp (standing_entries entries) q sorted)))
    ∙ finmap.entries-from_sorted byte_cmp (standing_entries entries) sorted

pub seen_option : (o : Option (Bor (BTreeSet ConnId))) → option_map (λ set. seen_set set.now) o ≡ option_map seen_set (option_copied o)
seen_option None = refl
seen_option (Some set) = refl

-- a set that is written back as it was
pub written_back : (old new : Entries) (name : Bytes) (set : BTreeSet ConnId) → set_at old name ≡ Some set → IsChanged old new name (Some set)
    → standing_of new ≡ standing_of old
written_back old new name set there at = same_standing old new (λ q.
    at q
    ∙ elim (is_at (byte_cmp name) q) as (λ t. is_at (byte_cmp name) q ≡ t → cond t (Some set) (set_at old q) ≡ set_at old q) [
      | true ↦ λ here. sym there ∙ ap (set_at old) (exact_bytes name q ((Equal-is (byte_cmp name q)).0 here))
      | false ↦ λ _. refl
    ] refl)

-- the first at a name
pub begun : (old new : Entries) (name key : Bytes) (set : BTreeSet ConnId) (c : Connection) → IsChanged old new key (Some set) → seen_set set ≡ c ∷ []
    → key ≡ name
    → IsPlaced (standing_of old) (standing_of new) name (c ∷ [])
begun old new name key set c at is same =
    subst (λ (n : Bytes). IsPlaced (standing_of old) (standing_of new) n (c ∷ [])) same (placed old new key (Some set) (c ∷ []) at (ap Some is))

pub set_rises : (set : BTreeSet ConnId) (c : Connection) → seen_set set ≡ c ∷ [] → IsStrictlySortedBy connection_cmp (seen_set set)
set_rises set c is = subst (IsStrictlySortedBy connection_cmp) (sym is) (one_rises c)

-- to be the first is to be one more
pub first_joined : (all new : Standing) (entries : Entries) (name : Bytes) (c : Connection) → standing_of entries ≡ all → set_at entries name ≡ None
    → IsPlaced (standing_of entries) new name (c ∷ []) → IsPlaced all new name (put connection_cmp c (standing_at all name))
first_joined all new entries name c is none placed_there =
    subst (λ m. IsPlaced m new name (put connection_cmp c (standing_at m name))) is
    (subst (λ cs. IsPlaced (standing_of entries) new name (put connection_cmp c cs)) (sym (standing-none entries name none)) placed_there)

pub ok_then : {A E P Q : Type 0} (result : Result A E) → OnOk result P → (P → Q) → OnOk result Q
ok_then (Ok x) holds then = then holds
ok_then (Err e) holds then = tt

pub err_then : {A E P Q : Type 0} (result : Result A E) → OnErr result P → (P → Q) → OnErr result Q
err_then (Ok x) holds then = tt
err_then (Err e) holds then = then holds
