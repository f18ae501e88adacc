-- Watches begun one after the other.
use Rattle.std.proofs.Common.{◌≡◌, ℕ, ◌+◌, ◌<◌, ◌≤◌, Bool, true, false, List, [], ◌∷◌, ◌++◌, length, map, drop, get_or, refl, ap, sym, ◌∙◌, append_assoc, cond}
use Rattle.std.specs.Prelude.{Option, Some, None, unwrap_or, ℤ}
use Rattle.std.specs.Option.{option_map, option_flatten}
use Rattle.std.specs.FinMap as finmap
use Rattle.std.specs.Cmp.{eq_by_cmp_equiv}
use Rattle.std.specs.Ordering.{eq_by_cmp}
use Rattle.std.proofs.lemmas.List.{drop_all}
use Rattle.nr_model.specs.Bytes.{Bytes}
use Rattle.nr_model.specs.Keyspace.{Key, Keyspace, Stored, live, is_live_at, only_live}
use Rattle.nr_model.specs.Items.{Connection, connection_cmp}
use Rattle.nr_model.specs.Servers.{Watch, watches_in, watches_added, watch_of, watched_deadline}
use Rattle.nr_model.proofs.Live.{get-live}
use Rattle.nr_model.proofs.Subscribed.{connection_total, connection_exact}
use Rattle.nr_emission.proofs.Sent.{cut}
use Rattle.nr_machine.specs.Steps.{keys_of}

abbrev AllWatches : Type 0
AllWatches = finmap.FinMap connection_cmp (List Watch)

twice : {A : Type 0} (b : Bool) (x y z : A) → cond b x (cond b y z) ≡ cond b x z
twice true x y z = refl
twice false x y z = refl

-- the second of two values at a key counts
inserted_twice : (m : AllWatches) (c : Connection) (a b : List Watch) → finmap.insert (finmap.insert m c a) c b ≡ finmap.insert m c b
inserted_twice m c a b =
    finmap.same_map connection_total connection_exact (finmap.insert (finmap.insert m c a) c b) (finmap.insert m c b) (λ q.
    finmap.get-insert connection_total (finmap.insert m c a) c b q
    ∙ ap (cond (eq_by_cmp connection_cmp q c) (Some b)) (finmap.get-insert connection_total m c a q)
    ∙ twice (eq_by_cmp connection_cmp q c) (Some b) (Some a) (finmap.get m q)
    ∙ sym (finmap.get-insert connection_total m c b q))

inserted_in : (m : AllWatches) (c : Connection) (a : List Watch) → watches_in (finmap.insert m c a) c ≡ a
inserted_in m c a =
    ap (λ (o : Option (List Watch)). unwrap_or o [])
    (finmap.get-insert connection_total m c a c ∙ ap (λ b. cond b (Some a) (finmap.get m c)) ((eq_by_cmp_equiv connection_total).refl c))

-- one watch, and those behind it
one_added : (m : AllWatches) (c : Connection) (w : Watch) (ws : List Watch) → watches_added (watches_added m c (w ∷ [])) c ws ≡ watches_added m c (w ∷ ws)
one_added m c w [] = refl
one_added m c w (x ∷ ws) =
    let first = watches_in m c ++ w ∷ [] in
    inserted_twice m c first (watches_in (finmap.insert m c first) c ++ x ∷ ws)
    ∙ ap (λ (front : List Watch). finmap.insert m c (front ++ x ∷ ws)) (inserted_in m c first)
    ∙ ap (finmap.insert m c) (append_assoc (watches_in m c) (w ∷ []) (x ∷ ws))

-- the deadline that a key has, if it is live
live_deadline : (now : ℕ) (stored : Option Stored) → option_flatten (option_map (λ (s : Stored). s.deadline) (only_live now stored)) ≡ watched_deadline now stored
live_deadline now None = refl
live_deadline now (Some stored) =
    elim (is_live_at now stored.deadline) as (λ b. option_flatten (option_map (λ (s : Stored). s.deadline) (cond b (Some stored) None)) ≡ cond b stored.deadline None) [ true ↦ refl | false ↦ refl ]

pub deadline_is : (keyspace : Keyspace) (now : ℕ) (key : Key) (found : Option (Option ℤ)) (flat : Option ℤ)
    → found ≡ option_map (λ (s : Stored). s.deadline) (finmap.get (live keyspace now) key) → flat ≡ option_flatten found → flat ≡ watched_deadline now (finmap.get keyspace key)
deadline_is keyspace now key found flat is made =
    made ∙ ap option_flatten (is ∙ ap (option_map (λ (s : Stored). s.deadline)) (get-live keyspace now key)) ∙ live_deadline now (finmap.get keyspace key)

-- The first of the names are watched, and the others do the rest.
pub record Begun (keyspace : Keyspace) (now : ℕ) (c : Connection) (database : ℕ) (all : List Bytes) (old here : AllWatches) (rest : List Bytes) : Type 0 where
  pub further : watches_added here c (map (watch_of keyspace now) (keys_of database rest)) ≡ watches_added old c (map (watch_of keyspace now) (keys_of database all))

pub one_begun : (keyspace : Keyspace) (now : ℕ) (c : Connection) (database : ℕ) (all : List Bytes) (old here later : AllWatches) (i : ℕ) (name : Bytes) (deadline : Option ℤ)
    → i < length all → name ≡ get_or all i name → deadline ≡ watched_deadline now (finmap.get keyspace (record { database = database; name = name }))
    → later ≡ watches_added here c (record { key = record { database = database; name = name }; deadline = deadline } ∷ [])
    → Begun keyspace now c database all old here (drop i all) → Begun keyspace now c database all old later (drop (i + 1) all)
one_begun keyspace now c database all old here later i name deadline below at is added begun =
    let key : Key = record { database = database; name = name } in
    let rest = map (watch_of keyspace now) (keys_of database (drop (i + 1) all)) in
    record {
      further =
          ap (λ (m : AllWatches). watches_added m c rest) added
          ∙ ap (λ (d : Option ℤ). watches_added (watches_added here c (record { key = key; deadline = d } ∷ [])) c rest) is
          ∙ one_added here c (watch_of keyspace now key) rest
          ∙ ap (λ (names : List Bytes). watches_added here c (map (watch_of keyspace now) (keys_of database names))) (sym (cut all i name below at))
          ∙ begun.further;
    }

pub all_begun : (keyspace : Keyspace) (now : ℕ) (c : Connection) (database : ℕ) (all : List Bytes) (old here : AllWatches) (i : ℕ) → length all ≤ i
    → Begun keyspace now c database all old here (drop i all) → here ≡ watches_added old c (map (watch_of keyspace now) (keys_of database all))
all_begun keyspace now c database all old here i past begun =
    sym (ap (λ (names : List Bytes). watches_added here c (map (watch_of keyspace now) (keys_of database names))) (drop_all i all past)) ∙ begun.further
