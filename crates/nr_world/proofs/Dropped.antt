-- Jobs that are dropped, as items of the definitions.
use Rattle.std.proofs.Common.{◌≡◌, ℕ, suc, ◌+◌, ◌<◌, ◌≤◌, Bool, true, false, cond, List, [], ◌∷◌, ◌++◌, length, get_or, drop, Option, Some, None, refl, ap, sym, ◌∙◌, arith, ne_eqb, drop-cons}
use Rattle.std.specs.Prelude.{map, filter, flat_map, not, is_some, ◌&&◌, ◌==◌}
use Rattle.std.specs.Option.{option_or}
use Rattle.std.proofs.lemmas.List.{drop_all}
use Rattle.nr_model.specs.Items.{Connection, same_connection, Item, End}
use Rattle.nr_model.specs.Keyspace.{moment}
use Rattle.nr_model.specs.Entries.{Jobs}
use Rattle.nr_model.specs.Asked.{own_jobs, first_number, close_number}
use Rattle.nr_model.specs.Nodes.Steps.{close_job}
use Rattle.nr_session.specs.SessionState.{SessionState}
use Rattle.nr_replica.specs.Members.{Member}
use Rattle.nr_world.specs.Dropped.{end_of}
use Rattle.nr_world.specs.Served.{client_seen}

-- what is kept by a test of the images
pub map-filter : {A B : Type 0} (f : A → B) (test : B → Bool) (xs : List A) → map f (filter (λ x. test (f x)) xs) ≡ filter test (map f xs)
map-filter f test [] = refl
map-filter f test (x ∷ xs) =
    elim (test (f x)) as (λ b. map f (cond b (x ∷ filter (λ y. test (f y)) xs) (filter (λ y. test (f y)) xs)) ≡ cond b (f x ∷ filter test (map f xs)) (filter test (map f xs))) [
      | true ↦ ap (λ ys. f x ∷ ys) (map-filter f test xs)
      | false ↦ map-filter f test xs
    ]

and_false : (b : Bool) → (b && false) ≡ false
and_false true = refl
and_false false = refl

-- the end that a session gives is that of its client
abbrev end_with : SessionState → ℕ → ℕ → Bool → Option Item
end_with session time number is_none =
    cond is_none None (Some (record { connection = session.connection; number = number; moment = moment time; deed = End None }))

by_lost : (session : SessionState) (lost : Option ℕ) (time : ℕ) (dropped : Jobs)
    → end_of (option_or (first_number dropped) lost) (moment time) session
    ≡ cond (not (is_some lost) && (session.gave_end && length dropped == 0)) None
    (Some (record {
      connection = session.connection;
      number = close_number (elim lost [ None ↦ session.next | Some number ↦ number ]) dropped;
      moment = moment time;
      deed = End None;
    }))
by_lost session None time [] = refl
by_lost session (Some number) time [] = ap (end_with session time number) (and_false session.gave_end)
by_lost session None time (job ∷ jobs) =
    ap (λ (b : Bool). end_with session time job.number (session.gave_end && b)) (sym (ne_eqb (suc (length jobs)) 0 (λ e. omega arith)))
by_lost session (Some number) time (job ∷ jobs) = ap (end_with session time job.number) (and_false session.gave_end)

pub end_is : (session : SessionState) (member : Member) (time : ℕ) (dropped : Jobs)
    → end_of (option_or (first_number dropped) session.lost) (moment time) session ≡ close_job (client_seen session member) session.connection time dropped
end_is session member time dropped = by_lost session session.lost time dropped

-- the first of a connection's jobs in both is that of the first ones, where there is one
first-append : (c : Connection) (xs ys : Jobs)
    → first_number (own_jobs c (xs ++ ys)) ≡ option_or (first_number (own_jobs c xs)) (first_number (own_jobs c ys))
first-append c [] ys = refl
first-append c (x ∷ xs) ys =
    elim (same_connection x.connection c) as (λ b.
    first_number (cond b (x ∷ own_jobs c (xs ++ ys)) (own_jobs c (xs ++ ys)))
    ≡ option_or (first_number (cond b (x ∷ own_jobs c xs) (own_jobs c xs))) (first_number (own_jobs c ys))) [
      | true ↦ refl
      | false ↦ first-append c xs ys
    ]

pub first_here : (c : Connection) (xs ys : Jobs) (number : ℕ) → Some number ≡ first_number (own_jobs c xs) → Some number ≡ first_number (own_jobs c (xs ++ ys))
first_here c xs ys number e = ap (λ (o : Option ℕ). option_or o (first_number (own_jobs c ys))) e ∙ sym (first-append c xs ys)

pub first_behind : (c : Connection) (xs ys : Jobs) → None ≡ first_number (own_jobs c xs) → first_number (own_jobs c ys) ≡ first_number (own_jobs c (xs ++ ys))
first_behind c xs ys e = ap (λ (o : Option ℕ). option_or o (first_number (own_jobs c ys))) e ∙ sym (first-append c xs ys)

-- in the jobs at each of some workers, from one on
split_at : {A : Type 0} (jobs : A → Jobs) (xs : List A) (i : ℕ) (x : A) → i < length xs → x ≡ get_or xs i x
    → jobs x ++ flat_map jobs (drop (i + 1) xs) ≡ flat_map jobs (drop i xs)
split_at jobs xs i x within at =
    let next : i + 1 ≡ suc i = omega arith in
    (λ k. jobs (at k) ++ flat_map jobs (drop (next k) xs)) ∙ ap (flat_map jobs) (sym (drop-cons xs i x within))

pub first_at : {A : Type 0} (c : Connection) (jobs : A → Jobs) (xs : List A) (i : ℕ) (x : A) (number : ℕ) → i < length xs → x ≡ get_or xs i x
    → Some number ≡ first_number (own_jobs c (jobs x)) → Some number ≡ first_number (own_jobs c (flat_map jobs (drop i xs)))
first_at c jobs xs i x number within at e =
    first_here c (jobs x) (flat_map jobs (drop (i + 1) xs)) number e ∙ ap (λ (all : Jobs). first_number (own_jobs c all)) (split_at jobs xs i x within at)

pub none_at : {A : Type 0} (c : Connection) (jobs : A → Jobs) (xs : List A) (i : ℕ) (x : A) → i < length xs → x ≡ get_or xs i x
    → None ≡ first_number (own_jobs c (jobs x))
    → first_number (own_jobs c (flat_map jobs (drop (i + 1) xs))) ≡ first_number (own_jobs c (flat_map jobs (drop i xs)))
none_at c jobs xs i x within at e =
    first_behind c (jobs x) (flat_map jobs (drop (i + 1) xs)) e ∙ ap (λ (all : Jobs). first_number (own_jobs c all)) (split_at jobs xs i x within at)

pub none_left : {A : Type 0} (c : Connection) (jobs : A → Jobs) (xs : List A) (i : ℕ) → length xs ≤ i
    → None ≡ first_number (own_jobs c (flat_map jobs (drop i xs)))
none_left {A = A} c jobs xs i past = ap (λ (left : List A). first_number (own_jobs c (flat_map jobs left))) (sym (drop_all i xs past))
