-- What is kept behind a watch that is begun, and behind watches that are forgotten.
use Rattle.std.proofs.Common.{◌≡◌, Bool, true, false, cond, not, Option, Some, None, List, [], ◌∷◌, ◌++◌, refl, ap, sym, ◌∙◌, true≢false}
use Rattle.std.specs.Prelude.{◌&&◌, ◌||◌, bytes_eq}
use Rattle.std.specs.Ordering.{eq_by_cmp}
use Rattle.std.specs.Cmp.Lexicographic.{texts_ties, nat_list_eq_equiv}
use Rattle.std.specs.FinMap as finmap
use Rattle.std.specs.FinSet as set
use Rattle.nr_model.specs.Bytes.{Bytes}
use Rattle.nr_model.specs.Keyspace.{byte_cmp, Key}
use Rattle.std.specs.Option.{option_map}
use Rattle.nr_model.specs.Items.{Connection}
use Rattle.nr_model.specs.Servers.{Watch, watches_in, watches_added}
use Rattle.nr_model.proofs.Subscribed.{connection_total}
use Rattle.std.proofs.lemmas.List.Folds.{list_any-append}
use Rattle.nr_model.proofs.Ordered.{or_false}
use Rattle.nr_entry.specs.declared.conn.ConnId.{ConnId}
use Rattle.nr_entry.specs.Jobs.{connection_of}
use Rattle.nr_watch.specs.Kept.{Watcher, Kept, Index, is_conn, kept_at, watches_at, is_marked, watches_of, touched_of, watching_of, stands, names_one, with_watch, marked_at, marked_where, IsPut, IsMarked, IsMarkedWhere, IsKeptAsBefore, IsAdded, IsTakenOut, IsIndexed}
use Rattle.nr_watch.proofs.Found.{is_the_conn, is_the_name}
use Rattle.nr_watch.proofs.Seen.{list_of, get-watches, contains-touched, watches-seen, seen_as}

-- one watch more
more_list : (watch : Watch) (o : Option Watcher) → list_of (Some (with_watch watch o)) ≡ Some (watches_at o ++ watch ∷ [])
more_list watch None = refl
more_list watch (Some w) = refl

more_flag : (watch : Watch) (o : Option Watcher) → is_marked (Some (with_watch watch o)) ≡ is_marked o
more_flag watch None = refl
more_flag watch (Some w) = refl

pub added_seen : (old new : Kept) (conn : ConnId) (watch : Watch) → IsPut conn (Some (with_watch watch (kept_at (connection_of conn) old))) old new
    → watching_of new ≡ record { watches = watches_added (watches_of old) (connection_of conn) (watch ∷ []); touched = touched_of old }
added_seen old new conn watch put =
    let own = connection_of conn in
    let w = with_watch watch (kept_at own old) in
    seen_as new (record { watches = watches_added (watches_of old) own (watch ∷ []); touched = touched_of old })
    (λ c. ap list_of (put.at c)
    ∙ elim (is_conn c conn) as (λ b. list_of (cond b (Some w) (kept_at c old))
    ≡ cond b (Some (watches_in (watches_of old) own ++ watch ∷ [])) (finmap.get (watches_of old) c)) [
      | true ↦ more_list watch (kept_at own old) ∙ ap (λ (ws : List Watch). Some (ws ++ watch ∷ [])) (sym (watches-seen old own))
      | false ↦ sym (get-watches old c)
    ]
    ∙ sym (finmap.get-insert connection_total (watches_of old) own (watches_in (watches_of old) own ++ watch ∷ []) c))
    (λ c. ap is_marked (put.at c)
    ∙ elim (is_conn c conn) as (λ b. is_conn c conn ≡ b → is_marked (cond b (Some w) (kept_at c old)) ≡ is_marked (kept_at c old)) [
      | true ↦ λ here. more_flag watch (kept_at own old) ∙ ap (λ d. is_marked (kept_at d old)) (sym (is_the_conn c conn here))
      | false ↦ λ _. refl
    ] refl
    ∙ sym (contains-touched old c))

or_swapped : (a b : Bool) → (a || b) ≡ (b || a)
or_swapped true true = refl
or_swapped true false = refl
or_swapped false true = refl
or_swapped false false = refl

and_true : (a : Bool) → a ≡ (a && true)
and_true true = refl
and_true false = refl

and_no : (a : Bool) → (a && false) ≡ false
and_no true = refl
and_no false = refl

named : (name other : Bytes) → bytes_eq name other ≡ eq_by_cmp byte_cmp other name
named name other = nat_list_eq_equiv.symm name other ∙ texts_ties other name

and_left : (a b : Bool) → (a && b) ≡ true → a ≡ true
and_left true b both = refl
and_left false b both = both

and_right : (a b : Bool) → (a && b) ≡ true → b ≡ true
and_right true b both = both
and_right false b both = absurd (true≢false (sym both))

more_names : (watch : Watch) (o : Option Watcher) (name : Bytes)
    → names_one name (watches_at (Some (with_watch watch o))) ≡ (names_one name (watches_at o) || bytes_eq watch.key.name name)
more_names watch None name = or_false (bytes_eq watch.key.name name)
more_names watch (Some w) name =
    list_any-append (λ v. bytes_eq v.key.name name) w.watches (watch ∷ []) ∙ ap (λ b. names_one name w.watches || b) (or_false (bytes_eq watch.key.name name))

names_grown : (old new : Kept) (conn : ConnId) (watch : Watch) → IsPut conn (Some (with_watch watch (kept_at (connection_of conn) old))) old new
    → (c : Connection) (name : Bytes) → names_one name (watches_at (kept_at c new))
    ≡ ((eq_by_cmp byte_cmp name watch.key.name && is_conn c conn) || names_one name (watches_at (kept_at c old)))
names_grown old new conn watch put c name =
    let own = connection_of conn in
    let here_at = eq_by_cmp byte_cmp name watch.key.name in
    let names : Connection → Bool = λ d. names_one name (watches_at (kept_at d old)) in
    ap (λ o. names_one name (watches_at o)) (put.at c)
    ∙ elim (is_conn c conn) as (λ b. is_conn c conn ≡ b
    → names_one name (watches_at (cond b (Some (with_watch watch (kept_at own old))) (kept_at c old))) ≡ ((here_at && b) || names c)) [
      | true ↦ λ here. more_names watch (kept_at own old) name
          ∙ or_swapped (names own) (bytes_eq watch.key.name name)
          ∙ (λ i. (named watch.key.name name ∙ and_true here_at) i || names (sym (is_the_conn c conn here) i))
      | false ↦ λ _. sym (ap (λ b. b || names c) (and_no here_at))
    ] refl

pub added_indexed : (old new : Kept) (before after : Index) (conn : ConnId) (watch : Watch)
    → IsIndexed old before → IsPut conn (Some (with_watch watch (kept_at (connection_of conn) old))) old new
    → IsAdded (λ other. eq_by_cmp byte_cmp other watch.key.name) conn before after → IsIndexed new after
added_indexed old new before after conn watch indexed put added = record {
  at = λ c name. added.at name c
      ∙ ap (λ b. (eq_by_cmp byte_cmp name watch.key.name && is_conn c conn) || b) (indexed.at c name)
      ∙ sym (names_grown old new conn watch put c name);
}

-- each watches what it did, and stands where it stood
pub indexed_alike : (old new : Kept) (before after : Index) → IsIndexed old before
    → ((c : Connection) → watches_at (kept_at c new) ≡ watches_at (kept_at c old))
    → ((name : Bytes) (c : Connection) → stands after name c ≡ stands before name c) → IsIndexed new after
indexed_alike old new before after indexed same stood = record {
  at = λ c name. stood name c ∙ indexed.at c name ∙ ap (names_one name) (sym (same c));
}

marked_alike : (key : Key) (b : Bool) (o : Option Watcher) → watches_at (cond b (option_map (marked_at key) o) o) ≡ watches_at o
marked_alike key true None = refl
marked_alike key true (Some w) = refl
marked_alike key false o = refl

where_alike : (hits : Key → Bool) (o : Option Watcher) → watches_at (option_map (marked_where hits) o) ≡ watches_at o
where_alike hits None = refl
where_alike hits (Some w) = refl

pub marked_indexed : (key : Key) (among : Connection → Bool) (old new : Kept) (index : Index) → IsIndexed old index → IsMarked key among old new
    → IsIndexed new index
marked_indexed key among old new index indexed marked = indexed_alike old new index index indexed
    (λ c. ap watches_at (marked.at c) ∙ marked_alike key (among c) (kept_at c old)) (λ name c. refl)

pub where_indexed : (hits : Key → Bool) (old new : Kept) (index : Index) → IsIndexed old index → IsMarkedWhere hits old new → IsIndexed new index
where_indexed hits old new index indexed marked = indexed_alike old new index index indexed
    (λ c. ap watches_at (marked.at c) ∙ where_alike hits (kept_at c old)) (λ name c. refl)

-- a connection was added at a name in vain
module _ (old new : Kept) (before more : Index) (name : Bytes) (conn : ConnId) (indexed : IsIndexed old before) (same : IsKeptAsBefore old new)
    (added : IsAdded (λ other. eq_by_cmp byte_cmp other name) conn before more) where
  -- it stands there as one that is looked up
  at_the_name : (other : Bytes) (c : Connection) (b : Bool) → stands before name (connection_of conn) ≡ b
      → (eq_by_cmp byte_cmp other name && is_conn c conn) ≡ true → stands before other c ≡ b
  at_the_name other c b stood here =
      (λ i. stands before (is_the_name other name (and_left _ _ here) i) (is_the_conn c conn (and_right _ _ here) i)) ∙ stood

  it_stood : (other : Bytes) (c : Connection) → stands before name (connection_of conn) ≡ true → stands more other c ≡ stands before other c
  it_stood other c stood =
      added.at other c
      ∙ elim (eq_by_cmp byte_cmp other name && is_conn c conn) as
      (λ b. (eq_by_cmp byte_cmp other name && is_conn c conn) ≡ b → (b || stands before other c) ≡ stands before other c) [
        | true ↦ λ here. sym (at_the_name other c true stood here)
        | false ↦ λ _. refl
      ] refl

  pub it_stays : stands before name (connection_of conn) ≡ true → IsIndexed new more
  it_stays stood = indexed_alike old new before more indexed (λ c. ap watches_at (same.at c)) (λ other c. it_stood other c stood)

  pub it_goes : (after : Index) → stands before name (connection_of conn) ≡ false
      → IsTakenOut (λ other. eq_by_cmp byte_cmp other name) conn more after → IsIndexed new after
  it_goes after stood taken = indexed_alike old new before after indexed (λ c. ap watches_at (same.at c)) (λ other c.
      let here_at = eq_by_cmp byte_cmp other name && is_conn c conn in
      taken.at other c
      ∙ ap (λ b. not here_at && b) (added.at other c)
      ∙ elim here_at as (λ b. here_at ≡ b → (not b && (b || stands before other c)) ≡ stands before other c) [
        | true ↦ λ here. sym (at_the_name other c false stood here)
        | false ↦ λ _. refl
      ] refl)

-- all watches forgotten
pub forgotten_seen : (old new : Kept) (conn : ConnId) → IsPut conn None old new
    → watching_of new ≡ record { watches = finmap.remove (watches_of old) (connection_of conn); touched = set.remove (touched_of old) (connection_of conn) }
forgotten_seen old new conn put =
    let own = connection_of conn in
    seen_as new (record { watches = finmap.remove (watches_of old) own; touched = set.remove (touched_of old) own })
    (λ c. ap list_of (put.at c)
    ∙ elim (is_conn c conn) as (λ b. list_of (cond b None (kept_at c old)) ≡ cond b None (finmap.get (watches_of old) c)) [
      | true ↦ refl
      | false ↦ sym (get-watches old c)
    ]
    ∙ sym (finmap.get-remove connection_total (watches_of old) own c))
    (λ c. ap is_marked (put.at c)
    ∙ elim (is_conn c conn) as (λ b. is_marked (cond b None (kept_at c old)) ≡ (not b && set.contains (touched_of old) c)) [
      | true ↦ refl
      | false ↦ sym (contains-touched old c)
    ]
    ∙ sym (set.contains-remove connection_total (touched_of old) own c))

gone : (a b : Bool) → a ≡ b → (not (a && true) && b) ≡ false
gone true b same = refl
gone false b same = sym same

stays : (a b : Bool) → (not (a && false) && b) ≡ b
stays true b = refl
stays false b = refl

-- a connection stands nowhere once it watches nothing
pub forgotten_indexed : (old new : Kept) (before after : Index) (conn : ConnId) (found : Watcher) → IsIndexed old before
    → Some found ≡ kept_at (connection_of conn) old → IsPut conn None old new → IsTakenOut (λ name. names_one name found.watches) conn before after
    → IsIndexed new after
forgotten_indexed old new before after conn found indexed was put taken = record {
  at = λ c name. taken.at name c
      ∙ elim (is_conn c conn) as (λ b. is_conn c conn ≡ b
      → (not (names_one name found.watches && b) && stands before name c) ≡ names_one name (watches_at (cond b None (kept_at c old)))) [
        | true ↦ λ here. gone (names_one name found.watches) (stands before name c)
            (ap (λ o. names_one name (watches_at o)) was ∙ sym (indexed.at (connection_of conn) name)
            ∙ ap (stands before name) (sym (is_the_conn c conn here)))
        | false ↦ λ _. stays (names_one name found.watches) (stands before name c) ∙ indexed.at c name
      ] refl
      ∙ ap (λ o. names_one name (watches_at o)) (sym (put.at c));
}

pub nothing_forgotten : (old new : Kept) (index : Index) (conn : ConnId) → IsIndexed old index → None ≡ kept_at (connection_of conn) old
    → IsPut conn None old new → IsIndexed new index
nothing_forgotten old new index conn indexed none put = indexed_alike old new index index indexed
    (λ c. ap watches_at (put.at c)
    ∙ elim (is_conn c conn) as (λ b. is_conn c conn ≡ b → watches_at (cond b None (kept_at c old)) ≡ watches_at (kept_at c old)) [
      | true ↦ λ here. ap watches_at (none ∙ ap (λ d. kept_at d old) (sym (is_the_conn c conn here)))
      | false ↦ λ _. refl
    ] refl)
    (λ name c. refl)
