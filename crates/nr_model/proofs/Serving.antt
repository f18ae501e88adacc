-- The server that goes from state to state agrees with the sequential Redis, which looks back.
use Rattle.std.proofs.Common.{◌≡◌, ℕ, Bool, true, false, not, cond, inl, inr, List, [], ◌∷◌, ◌++◌, map, max, refl, ap, sym, ◌∙◌, subst, append_assoc, append-nil}
use Rattle.std.specs.Prelude.{◌&&◌, ◌||◌, ◌==◌, filter, flat_map, reverse, Option, Some, None, unwrap_or, is_some, T}
use Rattle.std.specs.List.{list_any}
use Rattle.std.specs.Ordering.{eq_by_cmp, is_lt}
use Rattle.std.specs.declared.cmp.Ordering.{Ordering}
use Rattle.std.specs.Cmp.{both_ways, unsigned_Decides}
use Rattle.std.specs.Cmp.Lexicographic.{nat_list_cmp_total}
use Rattle.std.specs.FinMap as finmap
use Rattle.std.specs.FinSet as finset
use Rattle.std.specs.FinMap.Entries as entries
use Rattle.std.proofs.lemmas.Bool.{cases_Bool, or_left, or_right}
use Rattle.std.proofs.lemmas.Map.Lookups.{exact_bytes}
use Rattle.std.proofs.lemmas.List.{reverse-append}
use Rattle.std.proofs.lemmas.List.Concat.{flat_map-append}
use Rattle.nr_model.specs.Bytes.{Bytes}
use Rattle.nr_model.specs.Keyspace.{Key, byte_cmp}
use Rattle.nr_model.specs.Names.{in_order, Held, holding_none, held}
use Rattle.nr_model.specs.declared.command.Command.{Command}
use Rattle.nr_model.specs.declared.command.Command.TheVariants.{Perform, Session}
use Rattle.nr_model.specs.declared.command.Operation.TheVariants.{Look, Change}
use Rattle.nr_model.specs.declared.command.Session.TheVariants as sessions
use Rattle.nr_model.specs.declared.command.Kind.{Kind}
use Rattle.nr_model.specs.declared.command.Kind.TheVariants.{Channels, Patterns}
use Rattle.nr_model.specs.Items.{Connection, connection_cmp, same_connection, arguments, Deed, Say, Act, Run, Abort, End, Item, Sequence, is_update}
use Rattle.nr_model.specs.Sequential.Events.{Emission, Event, Past, keyspace_after, database_of, logged_moment, now_of}
use Rattle.nr_model.specs.Sequential.Subscribers.{same_kind, names, command_says, deed_says, item_says, said_or, is_subscriber, command_names, deed_names, known_names, known_connections, held_of, subscribers, is_held, names_held}
use Rattle.nr_model.specs.Sequential.Watches.{is_spoiled, forgets, watched_keys, is_broken}
use Rattle.nr_model.specs.Sequential.{Found, Progress, start, done_by, database_left, emissions_of, found_after, event_of, past_from}
use Rattle.nr_model.specs.Servers.{Watch, Server, watches_in, has_gone, is_spoiled_in, fresh, database_in, held_in, subscribers_in, names_in, found_in, with_database, watch_of, watches_behind, touched_by, touched_behind, now_in, progress_in, stepped, emitted_in, after_all, emitted_all, IsRedis}
use Rattle.nr_model.proofs.Ordered.{has, IsOrdered, has-filter, ordered-filter, ordered-in_order, has-in_order, has-flat_map, same_ordered, tied-is, or_false}
use Rattle.nr_model.proofs.Subscribed.{connection_total, connection_exact, tied_back, same-is, names-has, holds, ordered_of, AllOrdered, all_ordered, holds-deed, ordered-deed, none_ordered}
use Rattle.nr_model.proofs.Watched.{spoiled_with, is_broken_by, spoiled-behind}

-- What a past and a state have in common.
record Agrees (past : Past) (s : Server) : Type 0 where
  keyspace : keyspace_after past ≡ s.keyspace
  logged : logged_moment past ≡ s.logged
  databases : (c : Connection) → database_of c past ≡ database_in s.databases c
  subscribed : (c : Connection) (kind : Kind) (name : Bytes) → is_subscriber c kind name past ≡ holds kind name (held_in s.held c)
  ordered : AllOrdered s.held
  spoiled : (c : Connection) (now : ℕ) (keys : List Key) → is_spoiled c now keys past ≡ spoiled_with s.touched s.watches c now keys

-- A subscriber's name is one that was subscribed to, and the subscriber a connection that there was.
implies_and : (a b : Bool) → (a ≡ true → b ≡ true) → (a && b) ≡ a
implies_and true b h = h refl
implies_and false b h = refl

or_both : (a b c : Bool) → (a || b) ≡ true → (b ≡ true → c ≡ true) → (a || c) ≡ true
or_both true b c h k = refl
or_both false b c h k = k h

said_begun : (s n b : Bool) → said_or (cond (s && n) (Some true) None) b ≡ true → ((s && n) || b) ≡ true
said_begun true true b h = refl
said_begun true false b h = h
said_begun false n b h = h

said_ended : (s b : Bool) → said_or (cond s (Some false) None) b ≡ true → b ≡ true
said_ended true b h = absurd (cc)
said_ended false b h = h

has_of_kind : (s : Bool) (name : Bytes) (words : List Bytes) → (s && names words name) ≡ has byte_cmp name (cond s words [])
has_of_kind true name words = names-has words name
has_of_kind false name words = refl

command_named : (kind : Kind) (name : Bytes) (command : Command) (words : List Bytes) (b : Bool) → said_or (command_says kind name command words) b ≡ true
    → (has byte_cmp name (command_names kind command words) || b) ≡ true
command_named kind name (Session (sessions.Subscribe k)) words b h =
    subst (λ x. (x || b) ≡ true) (has_of_kind (same_kind k kind) name words) (said_begun (same_kind k kind) (names words name) b h)
command_named kind name (Session (sessions.Unsubscribe k)) words b h = said_ended _ b h
command_named kind name (Session sessions.Multi) words b h = h
command_named kind name (Session sessions.Exec) words b h = h
command_named kind name (Session sessions.Discard) words b h = h
command_named kind name (Session sessions.Watch) words b h = h
command_named kind name (Session sessions.Unwatch) words b h = h
command_named kind name (Session sessions.Quit) words b h = h
command_named kind name (Session sessions.Publish) words b h = h
command_named kind name (Session sessions.Pubsub) words b h = h
command_named kind name (Perform operation) words b h = h

deed_named : (kind : Kind) (name : Bytes) (deed : Deed) (b : Bool) → said_or (deed_says kind name deed) b ≡ true → (has byte_cmp name (deed_names kind deed) || b) ≡ true
deed_named kind name (Say reply) b h = h
deed_named kind name (Act call) b h = command_named kind name call.command (arguments call) b h
deed_named kind name (Run calls) b h = h
deed_named kind name Abort b h = h
deed_named kind name (End reply) b h = absurd (cc)

item_named : (own : Bool) (kind : Kind) (name : Bytes) (deed : Deed) (b : Bool) → said_or (cond own (deed_says kind name deed) None) b ≡ true → (has byte_cmp name (deed_names kind deed) || b) ≡ true
item_named true kind name deed b h = deed_named kind name deed b h
item_named false kind name deed b h = or_right (has byte_cmp name (deed_names kind deed)) b h

ever_named : (past : Past) (c : Connection) (kind : Kind) (name : Bytes) → is_subscriber c kind name past ≡ true → list_any (λ (event : Event). has byte_cmp name (deed_names kind event.item.deed)) past ≡ true
ever_named [] c kind name h = absurd (cc)
ever_named (event ∷ older) c kind name h =
    or_both (has byte_cmp name (deed_names kind event.item.deed)) (is_subscriber c kind name older) _
    (item_named (same_connection event.item.connection c) kind name event.item.deed (is_subscriber c kind name older) h) (ever_named older c kind name)

name_known : (past : Past) (c : Connection) (kind : Kind) (name : Bytes) → is_subscriber c kind name past ≡ true → has byte_cmp name (known_names kind past) ≡ true
name_known past c kind name h =
    has-in_order byte_cmp nat_list_cmp_total name (flat_map (λ (event : Event). deed_names kind event.item.deed) past)
    ∙ has-flat_map byte_cmp name (λ (event : Event). deed_names kind event.item.deed) past
    ∙ ever_named past c kind name h

mine : (own : Bool) (o : Option Bool) (b : Bool) → said_or (cond own o None) b ≡ true → (own || b) ≡ true
mine true o b h = refl
mine false o b h = h

ever_there : (past : Past) (c : Connection) (kind : Kind) (name : Bytes) → is_subscriber c kind name past ≡ true → has connection_cmp c (map (λ (event : Event). event.item.connection) past) ≡ true
ever_there [] c kind name h = absurd (cc)
ever_there (event ∷ older) c kind name h =
    let own = same_connection event.item.connection c in
    subst (λ x. (x || has connection_cmp c (map (λ (e : Event). e.item.connection) older)) ≡ true) (sym (tied_back c event.item.connection))
    (or_both own (is_subscriber c kind name older) _ (mine own (deed_says kind name event.item.deed) (is_subscriber c kind name older) h) (ever_there older c kind name))

connection_known : (past : Past) (c : Connection) (kind : Kind) (name : Bytes) → is_subscriber c kind name past ≡ true → has connection_cmp c (known_connections past) ≡ true
connection_known past c kind name h =
    has-in_order connection_cmp connection_total c (map (λ (event : Event). event.item.connection) past) ∙ ever_there past c kind name h

-- The connections of a state, in order; who holds anything is among them.
below_keys : {K X : Type 0} (R : K → K → Ordering) (x : K) (es : List (K × X)) → entries.below_all R x es ≡ entries.below_all R x (map (λ k. (k, tt {0})) (map (λ e. e.0) es))
below_keys R x [] = refl
below_keys R x (e ∷ es) = ap (λ b. is_lt (R x e.0) && b) (below_keys R x es)

sorted_keys : {K X : Type 0} (R : K → K → Ordering) (es : List (K × X)) → entries.is_sorted R es ≡ entries.is_sorted R (map (λ k. (k, tt {0})) (map (λ e. e.0) es))
sorted_keys R [] = refl
sorted_keys R (e ∷ es) = λ i. below_keys R e.0 es i && sorted_keys R es i

keys_ordered : {X : Type 0} (m : finmap.FinMap connection_cmp X) → IsOrdered connection_cmp (finmap.keys m)
keys_ordered m = subst T (sorted_keys connection_cmp (finmap.entries m)) (finmap.entries_sorted m)

holds_is_there : (kind : Kind) (name : Bytes) (o : Option Held) → holds kind name (unwrap_or o holding_none) ≡ true → is_some o ≡ true
holds_is_there Channels name None h = absurd (cc)
holds_is_there Patterns name None h = absurd (cc)
holds_is_there kind name (Some h) k = refl

holder_there : (all : finmap.FinMap connection_cmp Held) (c : Connection) (kind : Kind) (name : Bytes) → holds kind name (held_in all c) ≡ true → has connection_cmp c (finmap.keys all) ≡ true
holder_there all c kind name h = sym (finmap.contains_key-keys all c) ∙ holds_is_there kind name (finmap.get all c) h

-- What is asked of the past is what the state knows.
module _ (past : Past) (s : Server) (a : Agrees past s) where
  same_names : (c : Connection) (kind : Kind) → filter (λ name. is_subscriber c kind name past) (known_names kind past) ≡ held kind (held_in s.held c)
  same_names c kind =
      let known = known_names kind past in
      let p : Bytes → Bool = λ name. is_subscriber c kind name past in
      same_ordered byte_cmp nat_list_cmp_total exact_bytes (filter p known) (held kind (held_in s.held c))
      (ordered-filter byte_cmp p known (ordered-in_order byte_cmp nat_list_cmp_total (flat_map (λ (event : Event). deed_names kind event.item.deed) past)))
      (ordered_of kind (held_in s.held c) (all_ordered s.held a.ordered c))
      (λ q. has-filter byte_cmp nat_list_cmp_total exact_bytes q p known
      ∙ implies_and (p q) (has byte_cmp q known) (name_known past c kind q)
      ∙ a.subscribed c kind q ∙ names-has (held kind (held_in s.held c)) q)

  same_held : (c : Connection) → held_of c past ≡ held_in s.held c
  same_held c = λ i. record { channels = same_names c Channels i; patterns = same_names c Patterns i }

  same_subscribers : (kind : Kind) (name : Bytes) → subscribers kind name past ≡ subscribers_in s.held kind name
  same_subscribers kind name =
      let known = known_connections past in
      let p : Connection → Bool = λ c. is_subscriber c kind name past in
      let q : Connection → Bool = λ c. holds kind name (held_in s.held c) in
      same_ordered connection_cmp connection_total connection_exact (filter p known) (filter q (finmap.keys s.held))
      (ordered-filter connection_cmp p known (ordered-in_order connection_cmp connection_total (map (λ (event : Event). event.item.connection) past)))
      (ordered-filter connection_cmp q (finmap.keys s.held) (keys_ordered s.held))
      (λ c. has-filter connection_cmp connection_total connection_exact c p known
      ∙ implies_and (p c) (has connection_cmp c known) (connection_known past c kind name)
      ∙ a.subscribed c kind name
      ∙ sym (has-filter connection_cmp connection_total connection_exact c q (finmap.keys s.held)
      ∙ implies_and (q c) (has connection_cmp c (finmap.keys s.held)) (holder_there s.held c kind name)))

  -- one that passes gives what each that passes gives
  any_gives : {A : Type 0} (p : A → Bool) (b : Bool) (xs : List A) → list_any p xs ≡ true → ((x : A) → p x ≡ true → b ≡ true) → b ≡ true
  any_gives p b [] h gives = absurd (cc)
  any_gives p b (x ∷ xs) h gives =
      elim (cases_Bool (p x)) [
        | inl e ↦ gives x e
        | inr e ↦ any_gives p b xs (sym (ap (λ c. c || list_any p xs) e) ∙ h) gives
      ]

  any_of : (q : Connection → Bool) (c : Connection) (xs : List Connection) → has connection_cmp c xs ≡ true → q c ≡ true → list_any q xs ≡ true
  any_of q c [] h k = absurd (cc)
  any_of q c (x ∷ xs) h k =
      elim (cases_Bool (eq_by_cmp connection_cmp c x)) [
        | inl e ↦ or_left (q x) (list_any q xs) (ap q (sym (tied-is connection_cmp connection_total connection_exact c x e)) ∙ k)
        | inr e ↦ or_right (q x) (list_any q xs) (any_of q c xs (sym (ap (λ b. b || has connection_cmp c xs) e) ∙ h) k)
      ]

  same_is_held : (kind : Kind) (name : Bytes) → is_held kind past name ≡ list_any (λ c. holds kind name (held_in s.held c)) (finmap.keys s.held)
  same_is_held kind name =
      let p : Connection → Bool = λ c. is_subscriber c kind name past in
      let q : Connection → Bool = λ c. holds kind name (held_in s.held c) in
      both_ways (list_any p (known_connections past)) (list_any q (finmap.keys s.held))
      (λ h. any_gives p (list_any q (finmap.keys s.held)) (known_connections past) h (λ c e.
      let there = sym (a.subscribed c kind name) ∙ e in any_of q c (finmap.keys s.held) (holder_there s.held c kind name there) there))
      (λ h. any_gives q (list_any p (known_connections past)) (finmap.keys s.held) h (λ c e.
      let there = a.subscribed c kind name ∙ e in any_of p c (known_connections past) (connection_known past c kind name there) there))

  any_same : {A : Type 0} (p q : A → Bool) → ((x : A) → p x ≡ q x) → (xs : List A) → list_any p xs ≡ list_any q xs
  any_same p q is [] = refl
  any_same p q is (x ∷ xs) = λ i. is x i || any_same p q is xs i

  held_known : (kind : Kind) (name : Bytes) → is_held kind past name ≡ true → has byte_cmp name (known_names kind past) ≡ true
  held_known kind name h = any_gives (λ c. is_subscriber c kind name past) _ (known_connections past) h (λ c. name_known past c kind name)

  same_names_held : (kind : Kind) → names_held kind past ≡ names_in s.held kind
  same_names_held kind =
      let known = known_names kind past in
      let of_all : List Bytes = flat_map (λ c. held kind (held_in s.held c)) (finmap.keys s.held) in
      same_ordered byte_cmp nat_list_cmp_total exact_bytes (filter (is_held kind past) known) (in_order byte_cmp of_all)
      (ordered-filter byte_cmp (is_held kind past) known (ordered-in_order byte_cmp nat_list_cmp_total (flat_map (λ (event : Event). deed_names kind event.item.deed) past)))
      (ordered-in_order byte_cmp nat_list_cmp_total of_all)
      (λ name. has-filter byte_cmp nat_list_cmp_total exact_bytes name (is_held kind past) known
      ∙ implies_and (is_held kind past name) (has byte_cmp name known) (held_known kind name)
      ∙ same_is_held kind name
      ∙ any_same (λ c. holds kind name (held_in s.held c)) (λ c. has byte_cmp name (held kind (held_in s.held c))) (λ c. names-has (held kind (held_in s.held c)) name) (finmap.keys s.held)
      ∙ sym (has-in_order byte_cmp nat_list_cmp_total name of_all ∙ has-flat_map byte_cmp name (λ c. held kind (held_in s.held c)) (finmap.keys s.held)))

  same_spoiled : (c : Connection) (now : ℕ) → is_spoiled c now [] past ≡ is_spoiled_in s c now
  same_spoiled c now =
      a.spoiled c now []
      ∙ ap (λ b. finset.contains s.touched c || b) (any_same (is_broken_by now []) (λ w. has_gone now w.deadline) (λ w. or_false (has_gone now w.deadline)) (watches_in s.watches c))

  same_found : (c : Connection) (now : ℕ) → found_after past c now ≡ found_in s c now
  same_found c now = λ i. record {
    keyspace = a.keyspace i;
    database = a.databases c i;
    held = same_held c i;
    subscriptions = record { subscribers = λ kind name. same_subscribers kind name i; names = λ kind. same_names_held kind i };
    spoiled = same_spoiled c now i;
  }

  same_now : (item : Item) → now_of past item ≡ now_in s item
  same_now item = ap (max item.moment) a.logged

  -- what an item leaves
  left_by : (item : Item) → Progress
  left_by item = done_by (found_after past item.connection (now_of past item)) (now_of past item) item.deed (start (found_after past item.connection (now_of past item)))

  same_left : (item : Item) → left_by item ≡ progress_in s item
  unfolding left_by
  same_left item =
      ap (λ (f : Found). done_by f (now_of past item) item.deed (start f)) (same_found item.connection (now_of past item))
      ∙ ap (λ n. done_by (found_in s item.connection n) n item.deed (start (found_in s item.connection n))) (same_now item)

at_none : (own : Bool) (o : Option ℕ) (database : ℕ) → 0 ≡ database → unwrap_or (cond own None o) 0 ≡ cond own database (unwrap_or o 0)
at_none true o database h = h
at_none false o database h = refl

at_some : (own : Bool) (database : ℕ) (o : Option ℕ) → unwrap_or (cond own (Some database) o) 0 ≡ cond own database (unwrap_or o 0)
at_some true database o = refl
at_some false database o = refl

-- a connection's database behind a deed
database_changed : (databases : finmap.FinMap connection_cmp ℕ) (c d : Connection) (database : ℕ) → database_in (with_database databases c database) d ≡ cond (same_connection c d) database (database_in databases d)
database_changed databases c d database =
    let own = same_connection c d in
    let at_own : (b : Bool) → own ≡ b → database_in databases c ≡ database → database_in databases d ≡ cond b database (database_in databases d) =
    λ b. elim b as (λ b. own ≡ b → database_in databases c ≡ database → database_in databases d ≡ cond b database (database_in databases d)) [
      | true ↦ λ e is. ap (database_in databases) (sym (same-is c d e)) ∙ is
      | false ↦ λ e is. refl
    ] in
    let changed : (zero : Bool) → (database == 0) ≡ zero → database_in (cond zero (finmap.remove databases c) (finmap.insert databases c database)) d ≡ cond own database (database_in databases d) =
    λ zero. elim zero as (λ zero. (database == 0) ≡ zero → database_in (cond zero (finmap.remove databases c) (finmap.insert databases c database)) d ≡ cond own database (database_in databases d)) [
      | true ↦ λ e.
          ap (λ o. unwrap_or o 0) (finmap.get-remove connection_total databases c d ∙ ap (λ b. cond b None (finmap.get databases d)) (tied_back d c))
          ∙ at_none own (finmap.get databases d) database (sym ((unsigned_Decides database 0).0 e))
      | false ↦ λ e.
          ap (λ o. unwrap_or o 0) (finmap.get-insert connection_total databases c database d ∙ ap (λ b. cond b (Some database) (finmap.get databases d)) (tied_back d c))
          ∙ at_some own database (finmap.get databases d)
    ] in
    let all : (same : Bool) → (database_in databases c == database) ≡ same
    → database_in (cond same databases (cond (database == 0) (finmap.remove databases c) (finmap.insert databases c database))) d ≡ cond own database (database_in databases d) =
    λ same. elim same as (λ same. (database_in databases c == database) ≡ same
    → database_in (cond same databases (cond (database == 0) (finmap.remove databases c) (finmap.insert databases c database))) d ≡ cond own database (database_in databases d)) [
      | true ↦ λ e. at_own own refl ((unsigned_Decides (database_in databases c) database).0 e)
      | false ↦ λ e. changed (database == 0) refl
    ] in
    all (database_in databases c == database) refl

-- one item further
agrees_on : (past : Past) (s : Server) (item : Item) → Agrees past s → Agrees (event_of past item ∷ past) (stepped s item) × ((event_of past item).emitted ≡ emitted_in s item)
unfolding event_of left_by
agrees_on past s item a =
    let same = same_left past s a item in
    let c = item.connection in
    let event = event_of past item in (
      record {
        keyspace = ap (λ (p : Progress). p.keyspace) same;
        logged = λ i. cond (is_update item.deed) (same_now past s a item i) (a.logged i);
        databases = λ d.
            (λ i. cond (same_connection c d) (database_left item.deed (same i).database) (a.databases d i))
            ∙ sym (database_changed s.databases c d (database_left item.deed (progress_in s item).database));
        subscribed = λ d kind name.
            ap (said_or (item_says d kind name item)) (a.subscribed d kind name) ∙ sym (holds-deed s.held c d item.deed kind name);
        ordered = ordered-deed s.held c item.deed a.ordered;
        spoiled = λ d now keys.
            ap (λ earlier. not (same_connection c d && forgets item.deed)
            && ((same_connection c d && list_any (is_broken event now keys) (watched_keys event.database item.deed)) || earlier)) (a.spoiled d now (keys ++ event.touched))
            ∙ spoiled-behind s.watches s.touched event item.deed d now keys
            ∙ (λ i. spoiled_with (touched_behind (touched_by s.watches (same i).touched s.touched) c (forgets item.deed))
            (watches_behind s.watches c (forgets item.deed)
            (map (watch_of (same i).keyspace (same_now past s a item i)) (watched_keys (database_left item.deed (same i).database) item.deed))) d now keys);
      },
      ap (emissions_of c) same,
    )

-- what a past emitted
abbrev emitted_by : Past → List Emission
emitted_by past = flat_map (λ (event : Event). event.emitted) (reverse past)

one_more : (event : Event) (past : Past) → emitted_by (event ∷ past) ≡ emitted_by past ++ event.emitted
one_more event past =
    ap (flat_map (λ (e : Event). e.emitted)) (reverse-append (event ∷ []) past)
    ∙ flat_map-append (λ (e : Event). e.emitted) (reverse past) (event ∷ [])
    ∙ ap (λ xs. emitted_by past ++ xs) (append-nil event.emitted)

-- a whole sequence further
agrees_along : (items : Sequence) (past : Past) (s : Server) → Agrees past s
    → Agrees (past_from past items) (after_all s items) × (emitted_by (past_from past items) ≡ emitted_by past ++ emitted_all s items)
unfolding past_from
agrees_along [] past s a = (a, sym (append-nil (emitted_by past)))
agrees_along (item ∷ items) past s a =
    let one = agrees_on past s item a in
    let more = agrees_along items (event_of past item ∷ past) (stepped s item) one.0 in (
      more.0,
      more.1 ∙ ap (λ xs. xs ++ emitted_all (stepped s item) items) (one_more (event_of past item) past ∙ ap (λ xs. emitted_by past ++ xs) one.1)
          ∙ append_assoc (emitted_by past) (emitted_in s item) (emitted_all (stepped s item) items),
    )

none_held : (kind : Kind) (name : Bytes) (c : Connection) → false ≡ holds kind name (held_in finmap.empty c)
none_held Channels name c = sym (ap (λ o. names (unwrap_or o holding_none).channels name) (finmap.get-empty connection_cmp c))
none_held Patterns name c = sym (ap (λ o. names (unwrap_or o holding_none).patterns name) (finmap.get-empty connection_cmp c))

opens : Agrees [] fresh
opens = record {
  keyspace = refl;
  logged = refl;
  databases = λ c. sym (ap (λ o. unwrap_or o 0) (finmap.get-empty connection_cmp c));
  subscribed = λ c kind name. none_held kind name c;
  ordered = none_ordered;
  spoiled = λ c now keys.
      sym (λ i. finset.contains-empty connection_cmp c i || list_any (is_broken_by now keys) (unwrap_or (finmap.get-empty {X = List Watch} connection_cmp c i) []));
}

-- a read leaves the state as it is
abbrev item_of : Connection → ℕ → ℕ → Deed → Item
item_of c number moment deed = record { connection = c; number = number; moment = moment; deed = deed }

itself : (n : ℕ) → (n == n) ≡ true
itself n = (unsigned_Decides n n).1 refl

same_database : (s : Server) (c : Connection) → with_database s.databases c (database_in s.databases c) ≡ s.databases
same_database s c = ap (λ b. cond b s.databases (cond (database_in s.databases c == 0) (finmap.remove s.databases c) (finmap.insert s.databases c (database_in s.databases c)))) (itself (database_in s.databases c))

left_same : (s : Server) (c : Connection)
    → ◌≡◌ {A = Server} (record { keyspace = s.keyspace; logged = s.logged; databases = with_database s.databases c (database_in s.databases c); held = s.held; watches = s.watches; touched = s.touched }) s
left_same s c = λ i. record { keyspace = s.keyspace; logged = s.logged; databases = same_database s c i; held = s.held; watches = s.watches; touched = s.touched }

command_reads : (s : Server) (c : Connection) (number moment : ℕ) (command : Command) (words : List Bytes)
    → is_update (Act (record { command = command; words = words })) ≡ false → stepped s (item_of c number moment (Act (record { command = command; words = words }))) ≡ s
command_reads s c number moment (Perform (Look command)) words h = left_same s c
command_reads s c number moment (Perform (Change command)) words h = absurd (cc)
command_reads s c number moment (Session sessions.Pubsub) words h = left_same s c
command_reads s c number moment (Session sessions.Publish) words h = absurd (cc)
command_reads s c number moment (Session (sessions.Subscribe k)) words h = absurd (cc)
command_reads s c number moment (Session (sessions.Unsubscribe k)) words h = absurd (cc)
command_reads s c number moment (Session sessions.Multi) words h = absurd (cc)
command_reads s c number moment (Session sessions.Exec) words h = absurd (cc)
command_reads s c number moment (Session sessions.Discard) words h = absurd (cc)
command_reads s c number moment (Session sessions.Watch) words h = absurd (cc)
command_reads s c number moment (Session sessions.Unwatch) words h = absurd (cc)
command_reads s c number moment (Session sessions.Quit) words h = absurd (cc)

deed_reads : (s : Server) (c : Connection) (number moment : ℕ) (deed : Deed) → is_update deed ≡ false → stepped s (item_of c number moment deed) ≡ s
deed_reads s c number moment (Say reply) h = left_same s c
deed_reads s c number moment (Act call) h = command_reads s c number moment call.command call.words h
deed_reads s c number moment (Run calls) h = absurd (cc)
deed_reads s c number moment Abort h = absurd (cc)
deed_reads s c number moment (End reply) h = absurd (cc)

pub server_is_redis : IsRedis
server_is_redis = record {
  keyspace = λ items. (agrees_along items [] fresh opens).0.keyspace;
  emissions = λ items. (agrees_along items [] fresh opens).1;
  databases = λ items. (agrees_along items [] fresh opens).0.databases;
  held = λ items c. same_held (past_from [] items) (after_all fresh items) (agrees_along items [] fresh opens).0 c;
  subscribers = λ items kind name. same_subscribers (past_from [] items) (after_all fresh items) (agrees_along items [] fresh opens).0 kind name;
  names = λ items kind. same_names_held (past_from [] items) (after_all fresh items) (agrees_along items [] fresh opens).0 kind;
  spoiled = λ items c now. same_spoiled (past_from [] items) (after_all fresh items) (agrees_along items [] fresh opens).0 c now;
  reads = λ s item h. deed_reads s item.connection item.number item.moment item.deed h;
}
