-- The names of a kind in order, each with its subscribers, are the entries of the index.
use Rattle.std.proofs.Common.{◌≡◌, Bool, true, false, cond, ◌||◌, Some, None, List, [], ◌∷◌, map, refl, ap, sym, ◌∙◌, subst}
use Rattle.std.specs.Prelude.{T, filter, flat_map}
use Rattle.std.specs.Ordering.{eq_by_cmp}
use Rattle.std.specs.List.{list_any}
use Rattle.std.specs.Cmp.{Equal-is}
use Rattle.std.specs.Cmp.Lexicographic.{nat_list_cmp_total}
use Rattle.std.specs.FinMap as finmap
use Rattle.std.proofs.lemmas.Map.Lookups.{exact_bytes}
use Rattle.nr_model.specs.Bytes.{Bytes}
use Rattle.nr_model.specs.Keyspace.{byte_cmp}
use Rattle.nr_model.specs.Items.{Connection}
use Rattle.nr_model.specs.Names.{held}
use Rattle.nr_model.specs.Servers.{held_in, subscribers_in, names_in}
use Rattle.nr_model.specs.declared.command.Kind.{Kind}
use Rattle.nr_model.proofs.Ordered.{has, IsOrdered, ordered-in_order, has-in_order, has-flat_map}
use Rattle.nr_model.proofs.Subscribed.{holds, names-has}
use Rattle.nr_pubsub.specs.Holdings.{AllHeld}
use Rattle.nr_pubsub.specs.Standings.{Standing, some_of}
use Rattle.nr_pubsub.specs.Indices.{listed_in}
use Rattle.nr_pubsub.proofs.Seen.{sorted_keys}

some_if : (p : Connection → Bool) (cs : List Connection) → some_of (filter p cs) ≡ cond (list_any p cs) (Some (filter p cs)) None
some_if p [] = refl
some_if p (c ∷ cs) =
    elim (p c) as (λ b. some_of (cond b (c ∷ filter p cs) (filter p cs)) ≡ cond (b || list_any p cs) (Some (cond b (c ∷ filter p cs) (filter p cs))) None) [
      | true ↦ refl
      | false ↦ some_if p cs
    ]

any_same : {A : Type 0} (p q : A → Bool) → ((x : A) → p x ≡ q x) → (xs : List A) → list_any p xs ≡ list_any q xs
any_same p q is [] = refl
any_same p q is (x ∷ xs) = λ i. is x i || any_same p q is xs i

-- a name that some connection holds is listed
is_listed : (all : AllHeld) (kind : Kind) (name : Bytes) → has byte_cmp name (names_in all kind) ≡ list_any (λ c. holds kind name (held_in all c))
    (finmap.keys all)
is_listed all kind name =
    has-in_order byte_cmp nat_list_cmp_total name (flat_map (λ c. held kind (held_in all c)) (finmap.keys all))
    ∙ has-flat_map byte_cmp name (λ c. held kind (held_in all c)) (finmap.keys all)
    ∙ any_same (λ c. has byte_cmp name (held kind (held_in all c))) (λ c. holds kind name (held_in all c))
    (λ c. sym (names-has (held kind (held_in all c)) name)) (finmap.keys all)

-- entries that each name gives by a function
abbrev entries_by : {X : Type 0} → (Bytes → X) → List Bytes → List (Bytes × X)
entries_by f names = map (λ n. (n, f n)) names

keys_by : {X : Type 0} (f : Bytes → X) (names : List Bytes) → map (λ e. e.0) (entries_by f names) ≡ names
keys_by f [] = refl
keys_by f (n ∷ names) = ap (λ ns. n ∷ ns) (keys_by f names)

sorted_by : {X : Type 0} (f : Bytes → X) (names : List Bytes) → IsOrdered byte_cmp names → T (finmap.is_sorted byte_cmp (entries_by f names))
sorted_by f names ordered = subst T (sym (sorted_keys byte_cmp (entries_by f names))) (subst (IsOrdered byte_cmp) (sym (keys_by f names)) ordered)

find_by : {X : Type 0} (f : Bytes → X) (q : Bytes) (names : List Bytes)
    → finmap.find byte_cmp q (entries_by f names) ≡ cond (has byte_cmp q names) (Some (f q)) None
find_by f q [] = refl
find_by f q (n ∷ names) =
    elim (eq_by_cmp byte_cmp q n) as (λ t. eq_by_cmp byte_cmp q n ≡ t
    → cond t (Some (f n)) (finmap.find byte_cmp q (entries_by f names)) ≡ cond (t || has byte_cmp q names) (Some (f q)) None) [
      | true ↦ λ here. ap (λ m. Some (f m)) (sym (exact_bytes q n ((Equal-is (byte_cmp q n)).0 here)))
      | false ↦ λ _. find_by f q names
    ] refl

pub entries_listed : (all : AllHeld) (kind : Kind) (index : Standing) → ((q : Bytes) → finmap.get index q ≡ some_of (subscribers_in all kind q))
    → finmap.entries index ≡ listed_in all kind
entries_listed all kind index exact =
    let sorted = sorted_by (subscribers_in all kind) (names_in all kind)
    (ordered-in_order byte_cmp nat_list_cmp_total (flat_map (λ c. held kind (held_in all c)) (finmap.keys all))) in
    ap finmap.entries (finmap.same_map nat_list_cmp_total exact_bytes index (finmap.from_sorted (listed_in all kind)) (λ q.
    exact q ∙ some_if (λ c. holds kind q (held_in all c)) (finmap.keys all)
    ∙ ap (λ b. cond b (Some (subscribers_in all kind q)) None) (sym (is_listed all kind q))
    ∙ sym (finmap.get-from_sorted byte_cmp (listed_in all kind) q sorted ∙ find_by (subscribers_in all kind) q (names_in all kind))))
    ∙ finmap.entries-from_sorted byte_cmp (listed_in all kind) sorted
