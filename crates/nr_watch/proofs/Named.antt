-- All keys of a database touched at once, by the names that another has.
use Rattle.std.proofs.Common.{◌≡◌, ℕ, Bool, true, false, cond, eqb, ◌&&◌, ◌||◌, Option, Some, None, List, [], ◌∷◌, map, refl, ap, sym, ◌∙◌}
use Rattle.std.specs.Prelude.{filter, bytes_eq}
use Rattle.std.specs.Option.{option_map}
use Rattle.std.specs.List.{list_any}
use Rattle.std.specs.Ordering.{eq_by_cmp}
use Rattle.std.specs.Cmp.{nat_eq_equiv}
use Rattle.std.specs.Cmp.Lexicographic.{texts_ties}
use Rattle.std.specs.FinMap as finmap
use Rattle.nr_model.specs.Bytes.{Bytes}
use Rattle.nr_model.specs.Keyspace.{Key, key_of, key_cmp, Keyspace, names_in}
use Rattle.nr_model.specs.Commands.Server.{named_in}
use Rattle.nr_model.specs.Sequential.Watches.{same_key}
use Rattle.nr_model.specs.Servers.{Watch, watches_one, touched_by}
use Rattle.nr_keyspace.proofs.Joined.{tied}
use Rattle.nr_watch.specs.Kept.{Watcher, marked_where, is_named_in, Kept, kept_at, watches_at, is_marked, watches_of, touched_of, watching_of, IsMarkedWhere}
use Rattle.nr_watch.proofs.Seen.{list_of, get-watches, contains-touched, watches-seen, seen_as}
use Rattle.nr_watch.proofs.Touching.{contains-touched_by}

no_name : (b : Bool) → (b && false) ≡ false
no_name true = refl
no_name false = refl

either : (b x y : Bool) → ((b && x) || (b && y)) ≡ (b && (x || y))
either true x y = refl
either false x y = refl

among_keys : (key : Key) (target : ℕ) (names : List Bytes)
    → list_any (same_key key) (map (key_of target) names) ≡ (eqb key.database target && list_any (bytes_eq key.name) names)
among_keys key target [] = sym (no_name (eqb key.database target))
among_keys key target (name ∷ names) =
    ap (λ b. (eqb key.database target && bytes_eq key.name name) || b) (among_keys key target names)
    ∙ either (eqb key.database target) (bytes_eq key.name name) (list_any (bytes_eq key.name) names)

one_named : (name : Bytes) (source : ℕ) (key : Key) → eq_by_cmp key_cmp (key_of source name) key ≡ (eqb key.database source && bytes_eq name key.name)
one_named name source key =
    tied (key_of source name) key.database key.name
    ∙ (λ i. nat_eq_equiv.symm source key.database i && sym (texts_ties name key.name) i)

among_names : (name : Bytes) (source : ℕ) (keys : List Key)
    → list_any (bytes_eq name) (map {A = Key} (λ key. key.name) (filter (λ (key : Key). eqb key.database source) keys))
    ≡ list_any (eq_by_cmp key_cmp (key_of source name)) keys
among_names name source [] = refl
among_names name source (key ∷ keys) =
    let others = map {A = Key} (λ k. k.name) (filter (λ (k : Key). eqb k.database source) keys) in
    elim (eqb key.database source) as
    (λ b. list_any (bytes_eq name) (map {A = Key} (λ k. k.name) (cond b (key ∷ filter (λ (k : Key). eqb k.database source) keys) (filter (λ (k : Key). eqb k.database source) keys)))
    ≡ ((b && bytes_eq name key.name) || list_any (bytes_eq name) others)) [ true ↦ refl | false ↦ refl ]
    ∙ ap (λ b. b || list_any (bytes_eq name) others) (sym (one_named name source key))
    ∙ ap (λ b. eq_by_cmp key_cmp (key_of source name) key || b) (among_names name source keys)

-- to be among the keys is to be of the database, by a name that the other has
pub among_named : (keyspace : Keyspace) (source target : ℕ) (key : Key)
    → list_any (same_key key) (named_in keyspace source target) ≡ is_named_in keyspace source target key
among_named keyspace source target key =
    among_keys key target (names_in keyspace source)
    ∙ ap (λ b. eqb key.database target && b)
    (among_names key.name source (finmap.keys keyspace) ∙ sym (finmap.contains_key-keys keyspace (key_of source key.name)))

each_named : (keyspace : Keyspace) (source target : ℕ) (watches : List Watch)
    → list_any (λ watch. is_named_in keyspace source target watch.key) watches ≡ watches_one (named_in keyspace source target) watches
each_named keyspace source target [] = refl
each_named keyspace source target (watch ∷ watches) =
    λ i. sym (among_named keyspace source target watch.key) i || each_named keyspace source target watches i

marked_list : (hits : Key → Bool) (o : Option Watcher) → list_of (option_map (marked_where hits) o) ≡ list_of o
marked_list hits None = refl
marked_list hits (Some w) = refl

marked_flag : (hits : Key → Bool) (o : Option Watcher)
    → is_marked (option_map (marked_where hits) o) ≡ (is_marked o || list_any (λ watch. hits watch.key) (watches_at o))
marked_flag hits None = refl
marked_flag hits (Some w) = refl

-- to mark each that watches one of the keys is to touch them all
pub named_seen : (keyspace : Keyspace) (source target : ℕ) (old new : Kept) → IsMarkedWhere (is_named_in keyspace source target) old new
    → watching_of new ≡ record { watches = watches_of old; touched = touched_by (watches_of old) (named_in keyspace source target) (touched_of old) }
named_seen keyspace source target old new marked =
    let hits = is_named_in keyspace source target in
    let keys = named_in keyspace source target in
    seen_as new (record { watches = watches_of old; touched = touched_by (watches_of old) keys (touched_of old) })
    (λ c. ap list_of (marked.at c) ∙ marked_list hits (kept_at c old) ∙ sym (get-watches old c))
    (λ c. ap is_marked (marked.at c) ∙ marked_flag hits (kept_at c old)
    ∙ ap (λ b. is_marked (kept_at c old) || b) (each_named keyspace source target (watches_at (kept_at c old)))
    ∙ (λ i. sym (contains-touched old c) i || watches_one keys (sym (watches-seen old c) i))
    ∙ sym (contains-touched_by (watches_of old) keys (touched_of old) c))
