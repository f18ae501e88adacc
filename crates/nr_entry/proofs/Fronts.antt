-- Runs of jobs: what leads in them, and what is lent.
use Rattle.std.proofs.Common.{◌≡◌, ℕ, zero, suc, ◌+◌, ◌-◌, ◌<◌, ◌≤◌, Bool, true, false, not, cond, List, [], ◌∷◌, ◌++◌, length, take, drop, get_or, refl, sym, ap, ◌∙◌, append_assoc, arith}
use Rattle.std.specs.Prelude.{◌&&◌, ◌==◌, replicate}
use Rattle.std.specs.List.{filter}
use Rattle.std.proofs.lemmas.List.{append-nil, take_all, take_more, take_more_set, drop-set-lt, at_drop_more, drop_all, length-take}
use Rattle.std.proofs.Common.{set, subst, length-append, length-drop}
use Rattle.std.proofs.lemmas.List.{length-set}
use Rattle.std.specs.VecDeque.{deque_len}
use Rattle.std.proofs.lemmas.Bool.Decides.{nat_tests}
use mathlib.Core.Bool.{beq}
use Rattle.nr_model.specs.Items.{Connection, same_connection, is_update}
use Rattle.nr_model.specs.Entries.{Jobs}
use Rattle.nr_entry.specs.declared.conn.ConnId.{ConnId}
use Rattle.nr_entry.specs.declared.job.Job.{Job}
use Rattle.nr_entry.specs.declared.run.Run.{Run}
use Rattle.nr_entry.specs.Kinds.{deed_of}
use Rattle.nr_entry.specs.Jobs.{connection_of, items_of}
use Rattle.nr_entry.specs.Waiting.{belong, filled, are_from}
use Rattle.nr_entry.specs.Runs.{jobs_in, has_jobs, sum_of, lent_in, gaps_in, gaps_where, owners_in, spread, first_of, owners_of, others_of, marks_of, front, is_kind_at, IsWithin}

-- the job at a place
pub is_kind_there : (updates : Bool) (jobs : List Job) (i : ℕ) (x : Job) → i < length jobs → x ≡ get_or jobs i x → is_kind_at updates i (items_of jobs) ≡ beq (is_update (deed_of x.kind)) updates
is_kind_there updates [] i x lt is = absurd (omega arith)
is_kind_there updates (y ∷ jobs) zero x lt is = ap (λ (j : Job). beq (is_update (deed_of j.kind)) updates) (sym is)
is_kind_there updates (y ∷ jobs) (suc i) x lt is = is_kind_there updates jobs i x (omega arith) is

pub is_kind_nowhere : (updates : Bool) (jobs : List Job) (i : ℕ) → length jobs ≤ i → is_kind_at updates i (items_of jobs) ≡ false
is_kind_nowhere updates [] i le = refl
is_kind_nowhere updates (y ∷ jobs) zero le = absurd (omega arith)
is_kind_nowhere updates (y ∷ jobs) (suc i) le = is_kind_nowhere updates jobs i (omega arith)

-- one job more of the kind stands in front, or no more
front_more : (updates : Bool) (room count : ℕ) (jobs : Jobs) → is_kind_at updates count jobs ≡ true → front updates (suc room) (drop count jobs) ≡ suc (front updates room (drop (suc count) jobs))
front_more updates room count [] is = absurd (cc is)
front_more updates room zero (x ∷ jobs) is = ap (λ (b : Bool). elim b [ true ↦ suc (front updates room jobs) | false ↦ 0 ]) is
front_more updates room (suc count) (x ∷ jobs) is = front_more updates room count jobs is

front_none : (updates : Bool) (room count : ℕ) (jobs : Jobs) → is_kind_at updates count jobs ≡ false → front updates room (drop count jobs) ≡ 0
front_none updates zero count jobs is = refl
front_none updates (suc room) zero [] is = refl
front_none updates (suc room) (suc count) [] is = refl
front_none updates (suc room) zero (x ∷ jobs) is = ap (λ (b : Bool). elim b [ true ↦ suc (front updates room jobs) | false ↦ 0 ]) is
front_none updates (suc room) (suc count) (x ∷ jobs) is = front_none updates (suc room) count jobs is

pub front_further : (updates : Bool) (most count : ℕ) (jobs : Jobs) → count < most → is_kind_at updates count jobs ≡ true
    → count + front updates (most - count) (drop count jobs) ≡ front updates most jobs
    → (count + 1) + front updates (most - (count + 1)) (drop (count + 1) jobs) ≡ front updates most jobs
front_further updates most count jobs lt is so_far =
    let room : ℕ = most - suc count in
    let e : most - count ≡ suc room = omega arith in
    let f : most - (count + 1) ≡ room = omega arith in
    let g : count + 1 ≡ suc count = omega arith in
    let step : front updates (most - count) (drop count jobs) ≡ suc (front updates room (drop (suc count) jobs)) = ap (λ (r : ℕ). front updates r (drop count jobs)) e ∙ front_more updates room count jobs is in
    let same : front updates (most - (count + 1)) (drop (count + 1) jobs) ≡ front updates room (drop (suc count) jobs) = ap (λ (r : ℕ). front updates r (drop (count + 1) jobs)) f ∙ ap (λ (k : ℕ). front updates room (drop k jobs)) g in
    omega (arith, step, same, so_far)

pub front_ends : (updates : Bool) (most count : ℕ) (jobs : Jobs) → is_kind_at updates count jobs ≡ false
    → count + front updates (most - count) (drop count jobs) ≡ front updates most jobs → count ≡ front updates most jobs
front_ends updates most count jobs is so_far = omega (arith, so_far, front_none updates (most - count) count jobs is)

-- lists of runs, joined
pub jobs_in-append : (before behind : List Run) → jobs_in (before ++ behind) ≡ jobs_in before ++ jobs_in behind
jobs_in-append [] behind = refl
jobs_in-append (r ∷ before) behind = ap (λ (t : List Job). r.jobs.items ++ t) (jobs_in-append before behind) ∙ sym (append_assoc r.jobs.items (jobs_in before) (jobs_in behind))

pub jobs_in-push : (before : List Run) (r : Run) → jobs_in (before ++ r ∷ []) ≡ jobs_in before ++ r.jobs.items
jobs_in-push before r = jobs_in-append before (r ∷ []) ∙ ap (λ (t : List Job). jobs_in before ++ t) (append-nil r.jobs.items)

pub lent_in-append : (before behind : List Run) → lent_in (before ++ behind) ≡ lent_in before + lent_in behind
lent_in-append [] behind = omega arith
lent_in-append (r ∷ before) behind = omega (arith, lent_in-append before behind)

pub lent_in-push : (before : List Run) (r : Run) → lent_in (before ++ r ∷ []) ≡ lent_in before + r.lent
lent_in-push before r = omega (arith, lent_in-append before (r ∷ []))

pub gaps_in-push : (before : List Run) (r : Run) → gaps_in (before ++ r ∷ []) ≡ gaps_in before ++ spread r.lent (length r.jobs.items)
gaps_in-push [] r = append-nil (spread r.lent (length r.jobs.items))
gaps_in-push (a ∷ before) r =
    let here = spread a.lent (length a.jobs.items) in
    ap (λ (t : List Bool). here ++ t) (gaps_in-push before r) ∙ sym (append_assoc here (gaps_in before) (spread r.lent (length r.jobs.items)))

-- one run is written in a list of them
pub record Writes (runs new : List Run) (i : ℕ) (was now : Run) : Type 0 where
  pub here : i < length runs
  pub is_was : was ≡ get_or runs i was
  pub is_new : new ≡ set runs i now

front_written : (runs new : List Run) (i : ℕ) (was now : Run) → Writes runs new i was now → take (i + 1) new ≡ take i runs ++ now ∷ []
front_written runs new i was now w = ap (take (i + 1)) w.is_new ∙ take_more_set runs i now w.here

pub rest_written : (runs new : List Run) (i : ℕ) (was now : Run) → Writes runs new i was now → drop (i + 1) new ≡ drop (i + 1) runs
rest_written runs new i was now w = ap (drop (i + 1)) w.is_new ∙ drop-set-lt (i + 1) runs i now (omega arith)

pub rest_before : (runs new : List Run) (i : ℕ) (was now : Run) → Writes runs new i was now → drop i runs ≡ was ∷ drop (i + 1) runs
rest_before runs new i was now w = at_drop_more (λ (t : List Run). t) runs i was w.here ∙ ap (λ (r : Run). r ∷ drop (i + 1) runs) (sym w.is_was)

pub jobs_written : (runs new : List Run) (i : ℕ) (was now : Run) → Writes runs new i was now → jobs_in (take (i + 1) new) ≡ jobs_in (take i runs) ++ now.jobs.items
jobs_written runs new i was now w = ap jobs_in (front_written runs new i was now w) ∙ jobs_in-push (take i runs) now

pub lent_written : (runs new : List Run) (i : ℕ) (was now : Run) → Writes runs new i was now → lent_in (take (i + 1) new) ≡ lent_in (take i runs) + now.lent
lent_written runs new i was now w = ap lent_in (front_written runs new i was now w) ∙ lent_in-push (take i runs) now

pub gaps_written : (runs new : List Run) (i : ℕ) (was now : Run) → Writes runs new i was now → gaps_in (take (i + 1) new) ≡ gaps_in (take i runs) ++ spread now.lent (length now.jobs.items)
gaps_written runs new i was now w = ap gaps_in (front_written runs new i was now w) ∙ gaps_in-push (take i runs) now

-- a run that forgets what it lent
pub record Forgets (all : List Job) (runs : List Run) (i : ℕ) : Type 0 where
  pub jobs : jobs_in (take i runs) ++ jobs_in (drop i runs) ≡ all
  pub settled : lent_in (take i runs) ≡ 0

pub forgets_more : (all : List Job) (runs new : List Run) (i : ℕ) (was now : Run) → Writes runs new i was now → now.jobs.items ≡ was.jobs.items → now.lent ≡ 0 → Forgets all runs i → Forgets all new (i + 1)
forgets_more all runs new i was now w same none f = record {
  jobs =
      ap (λ (t : List Job). t ++ jobs_in (drop (i + 1) new)) (jobs_written runs new i was now w)
      ∙ ap (λ (t : List Run). (jobs_in (take i runs) ++ now.jobs.items) ++ jobs_in t) (rest_written runs new i was now w)
      ∙ append_assoc (jobs_in (take i runs)) now.jobs.items (jobs_in (drop (i + 1) runs))
      ∙ ap (λ (t : List Job). jobs_in (take i runs) ++ (t ++ jobs_in (drop (i + 1) runs))) same
      ∙ ap (λ (t : List Run). jobs_in (take i runs) ++ jobs_in t) (sym (rest_before runs new i was now w))
      ∙ f.jobs;
  settled = omega (arith, lent_written runs new i was now w, none, f.settled);
}

-- jobs of one connection
both : (a b : Bool) → (a && b) ≡ true → (a ≡ true) × (b ≡ true)
both true b e = (refl, e)
both false b e = absurd (cc e)

pub are_from-drop : (c : Connection) (count : ℕ) (jobs : List Job) → are_from c (items_of jobs) ≡ true → are_from c (items_of (drop count jobs)) ≡ true
are_from-drop c zero jobs all = all
are_from-drop c (suc count) [] all = refl
are_from-drop c (suc count) (x ∷ jobs) all = are_from-drop c count jobs (both (same_connection (connection_of x.conn) c) (are_from c (items_of jobs)) all).1

pub are_from-append : (c : Connection) (front back : List Job) → are_from c (items_of front) ≡ true → are_from c (items_of back) ≡ true → are_from c (items_of (front ++ back)) ≡ true
are_from-append c [] back all more = more
are_from-append c (x ∷ front) back all more =
    let parts = both (same_connection (connection_of x.conn) c) (are_from c (items_of front)) all in
    ap (λ (b : Bool). b && are_from c (items_of (front ++ back))) parts.0 ∙ are_from-append c front back parts.1 more

-- the last run is taken out and unloaded
pub record Restores (all : List Job) (runs : List Run) (left : List Job) (room : ℕ) : Type 0 where
  pub jobs : jobs_in runs ++ left ≡ all
  pub fits : length (jobs_in runs) + (length left) ≤ room

pub restores_room : (runs rest : List Run) (r : Run) (left : List Job) (room : ℕ) → runs ≡ rest ++ r ∷ [] → length (jobs_in runs) + (length left) ≤ room → length r.jobs.items + (length left) ≤ room
restores_room runs rest r left room is le = omega (arith, le, ap length (ap jobs_in is ∙ jobs_in-push rest r), length-append (jobs_in rest) r.jobs.items)

pub restores_more : (all : List Job) (runs rest : List Run) (r : Run) (left new : List Job) (room : ℕ) → runs ≡ rest ++ r ∷ [] → new ≡ r.jobs.items ++ left → Restores all runs left room → Restores all rest new room
restores_more all runs rest r left new room is moved s = record {
  jobs =
      ap (λ (t : List Job). jobs_in rest ++ t) moved
      ∙ sym (append_assoc (jobs_in rest) r.jobs.items left)
      ∙ ap (λ (t : List Job). t ++ left) (sym (ap jobs_in is ∙ jobs_in-push rest r))
      ∙ s.jobs;
  fits = omega (arith, s.fits, ap length moved, length-append r.jobs.items left, ap length (ap jobs_in is ∙ jobs_in-push rest r), length-append (jobs_in rest) r.jobs.items);
}

-- one job more in the last run
front_is_all : (runs : List Run) (i : ℕ) → length runs ≡ i + 1 → take (i + 1) runs ≡ runs
front_is_all runs i e = take_all (i + 1) runs (omega (arith, e))

pub last_written : (runs new : List Run) (i : ℕ) (was now : Run) (job : Job) → Writes runs new i was now → length runs ≡ i + 1 → now.jobs.items ≡ was.jobs.items ++ job ∷ [] → jobs_in new ≡ jobs_in runs ++ job ∷ []
last_written runs new i was now job w e more =
    let whole : new ≡ take i runs ++ now ∷ [] = sym (front_is_all new i (ap length w.is_new ∙ length-set runs i now ∙ e)) ∙ front_written runs new i was now w in
    let before : runs ≡ take i runs ++ was ∷ [] = sym (front_is_all runs i e) ∙ take_more runs i was w.here ∙ ap (λ (r : Run). take i runs ++ r ∷ []) (sym w.is_was) in
    ap jobs_in whole ∙ jobs_in-push (take i runs) now
    ∙ ap (λ (t : List Job). jobs_in (take i runs) ++ t) more
    ∙ sym (append_assoc (jobs_in (take i runs)) was.jobs.items (job ∷ []))
    ∙ ap (λ (t : List Job). t ++ job ∷ []) (sym (ap jobs_in before ∙ jobs_in-push (take i runs) was))

pub last_same : (runs new : List Run) (i : ℕ) (was now : Run) → Writes runs new i was now → length runs ≡ i + 1 → now.jobs.items ≡ was.jobs.items → jobs_in new ≡ jobs_in runs
last_same runs new i was now w e same =
    let whole : new ≡ take i runs ++ now ∷ [] = sym (front_is_all new i (ap length w.is_new ∙ length-set runs i now ∙ e)) ∙ front_written runs new i was now w in
    let before : runs ≡ take i runs ++ was ∷ [] = sym (front_is_all runs i e) ∙ take_more runs i was w.here ∙ ap (λ (r : Run). take i runs ++ r ∷ []) (sym w.is_was) in
    ap jobs_in whole ∙ jobs_in-push (take i runs) now
    ∙ ap (λ (t : List Job). jobs_in (take i runs) ++ t) same
    ∙ sym (ap jobs_in before ∙ jobs_in-push (take i runs) was)

pub last_unlent : (runs new : List Run) (i : ℕ) (was now : Run) → Writes runs new i was now → length runs ≡ i + 1 → lent_in runs ≡ 0 → now.lent ≡ 0 → lent_in new ≡ 0
last_unlent runs new i was now w e none now_none =
    let whole : new ≡ take i runs ++ now ∷ [] = sym (front_is_all new i (ap length w.is_new ∙ length-set runs i now ∙ e)) ∙ front_written runs new i was now w in
    let before : runs ≡ take i runs ++ was ∷ [] = sym (front_is_all runs i e) ∙ take_more runs i was w.here ∙ ap (λ (r : Run). take i runs ++ r ∷ []) (sym w.is_was) in
    omega (arith, ap lent_in whole, lent_in-push (take i runs) now, ap lent_in before, lent_in-push (take i runs) was, none, now_none)

pub unlent_at : (runs : List Run) (i : ℕ) (r : Run) → i < length runs → r ≡ get_or runs i r → lent_in runs ≡ 0 → r.lent ≡ 0
unlent_at [] i r lt is none = absurd (omega arith)
unlent_at (x ∷ runs) zero r lt is none = ap (λ (q : Run). q.lent) is ∙ omega (arith, none)
unlent_at (x ∷ runs) (suc i) r lt is none = unlent_at runs i r (omega arith) is (omega (arith, none))

-- the first jobs of each run are lent
pub record Lends (counts : List ℕ) (all : List Run) (first : List Job) (i : ℕ) (runs : List Run) (taken : List Job) : Type 0 where
  pub taken_are : taken ++ first_of (drop i counts) (drop i runs) ≡ first ++ first_of counts all
  pub left_are : jobs_in (take i runs) ++ others_of (drop i counts) (drop i runs) ≡ others_of counts all
  pub gaps_are : gaps_in (take i runs) ++ marks_of (drop i counts) (drop i runs) ≡ marks_of counts all
  pub lent_are : lent_in (take i runs) + sum_of (drop i counts) ≡ sum_of counts
  pub within : IsWithin (drop i counts) (drop i runs)
  pub owners_are : owners_in (take i runs) ++ owners_of (drop i counts) (drop i runs) ≡ owners_of counts all
  pub unlent : lent_in (drop i runs) ≡ 0

-- what one step of it does
pub record LendsOne (counts : List ℕ) (runs new : List Run) (i k : ℕ) (was now : Run) (taken more : List Job) : Type 0 where
  pub writes : Writes runs new i was now
  pub count : drop i counts ≡ k ∷ drop (i + 1) counts
  pub into : more ≡ taken ++ take k was.jobs.items
  pub left : now.jobs.items ≡ drop k was.jobs.items
  pub lent : now.lent ≡ k
  pub conn : now.conn ≡ was.conn

owners_in-push : (before : List Run) (r : Run) → owners_in (before ++ r ∷ []) ≡ owners_in before ++ replicate r.lent (connection_of r.conn)
owners_in-push [] r = append-nil (replicate r.lent (connection_of r.conn))
owners_in-push (a ∷ before) r =
    let here = replicate a.lent (connection_of a.conn) in
    ap (λ (t : List Connection). here ++ t) (owners_in-push before r) ∙ sym (append_assoc here (owners_in before) (replicate r.lent (connection_of r.conn)))

pub lends_next : (counts : List ℕ) (all : List Run) (first : List Job) (i : ℕ) (runs new : List Run) (k : ℕ) (was now : Run) (taken more : List Job)
    → Lends counts all first i runs taken → LendsOne counts runs new i k was now taken more → Lends counts all first (i + 1) new more
lends_next counts all first i runs new k was now taken more l o =
    let cs = drop (i + 1) counts in
    let rs = drop (i + 1) runs in
    let e_n : drop (i + 1) new ≡ rs = rest_written runs new i was now o.writes in
    let e_r : drop i runs ≡ was ∷ rs = rest_before runs new i was now o.writes in
    let inside : IsWithin (k ∷ cs) (was ∷ rs) = subst (λ (t : List ℕ). IsWithin t (was ∷ rs)) o.count (subst (λ (t : List Run). IsWithin (drop i counts) t) e_r l.within) in
    let len : length was.jobs.items - k ≡ length now.jobs.items = omega (arith, ap length o.left, length-drop k was.jobs.items) in
    record {
      taken_are =
          ap (λ (t : List Run). more ++ first_of cs t) e_n
          ∙ ap (λ (t : List Job). t ++ first_of cs rs) o.into
          ∙ append_assoc taken (take k was.jobs.items) (first_of cs rs)
          ∙ ap (λ (t : List ℕ). taken ++ first_of t (was ∷ rs)) (sym o.count)
          ∙ ap (λ (t : List Run). taken ++ first_of (drop i counts) t) (sym e_r)
          ∙ l.taken_are;
      left_are =
          ap (λ (t : List Run). jobs_in (take (i + 1) new) ++ others_of cs t) e_n
          ∙ ap (λ (t : List Job). t ++ others_of cs rs) (jobs_written runs new i was now o.writes ∙ ap (λ (t : List Job). jobs_in (take i runs) ++ t) o.left)
          ∙ append_assoc (jobs_in (take i runs)) (drop k was.jobs.items) (others_of cs rs)
          ∙ ap (λ (t : List ℕ). jobs_in (take i runs) ++ others_of t (was ∷ rs)) (sym o.count)
          ∙ ap (λ (t : List Run). jobs_in (take i runs) ++ others_of (drop i counts) t) (sym e_r)
          ∙ l.left_are;
      gaps_are =
          ap (λ (t : List Run). gaps_in (take (i + 1) new) ++ marks_of cs t) e_n
          ∙ ap (λ (t : List Bool). t ++ marks_of cs rs) (gaps_written runs new i was now o.writes ∙ ap (λ (j : ℕ). gaps_in (take i runs) ++ spread j (length now.jobs.items)) o.lent ∙ ap (λ (j : ℕ). gaps_in (take i runs) ++ spread k j) (sym len))
          ∙ append_assoc (gaps_in (take i runs)) (spread k (length was.jobs.items - k)) (marks_of cs rs)
          ∙ ap (λ (t : List ℕ). gaps_in (take i runs) ++ marks_of t (was ∷ rs)) (sym o.count)
          ∙ ap (λ (t : List Run). gaps_in (take i runs) ++ marks_of (drop i counts) t) (sym e_r)
          ∙ l.gaps_are;
      lent_are = omega (arith, lent_written runs new i was now o.writes, o.lent, ap sum_of o.count, l.lent_are);
      within = subst (λ (t : List Run). IsWithin cs t) (sym e_n) inside.1;
      owners_are =
          ap (λ (t : List Run). owners_in (take (i + 1) new) ++ owners_of cs t) e_n
          ∙ ap (λ (t : List Connection). t ++ owners_of cs rs) (ap owners_in (front_written runs new i was now o.writes) ∙ owners_in-push (take i runs) now ∙ ap (λ (j : ℕ). owners_in (take i runs) ++ replicate j (connection_of now.conn)) o.lent ∙ ap (λ (d : ConnId). owners_in (take i runs) ++ replicate k (connection_of d)) o.conn)
          ∙ append_assoc (owners_in (take i runs)) (replicate k (connection_of was.conn)) (owners_of cs rs)
          ∙ ap (λ (t : List ℕ). owners_in (take i runs) ++ owners_of t (was ∷ rs)) (sym o.count)
          ∙ ap (λ (t : List Run). owners_in (take i runs) ++ owners_of (drop i counts) t) (sym e_r)
          ∙ l.owners_are;
      unlent = omega (arith, ap lent_in e_n, ap lent_in e_r, l.unlent);
    }

-- nothing is left behind the last run
pub ended : (counts : List ℕ) (runs : List Run) (i : ℕ) → length runs ≤ i → IsWithin (drop i counts) (drop i runs) → (drop i counts ≡ []) × (drop i runs ≡ []) × (take i runs ≡ runs)
ended counts runs i le w =
    let e : drop i runs ≡ [] = drop_all i runs le in
    (none (drop i counts) (subst (λ (t : List Run). IsWithin (drop i counts) t) e w), e, take_all i runs le)
  where
    none : (cs : List ℕ) → IsWithin cs [] → cs ≡ []
    none [] w = refl
    none (k ∷ cs) w = absurd w

pub all_lent : (counts : List ℕ) (all : List Run) (first : List Job) (i : ℕ) (runs : List Run) (taken : List Job) → Lends counts all first i runs taken → length runs ≤ i
    → (taken ≡ first ++ first_of counts all) × (jobs_in runs ≡ others_of counts all) × (gaps_in runs ≡ marks_of counts all) × (lent_in runs ≡ sum_of counts) × (owners_in runs ≡ owners_of counts all)
all_lent counts all first i runs taken l le =
    let e = ended counts runs i le l.within in
    let whole = e.2 in (
      sym (append-nil taken) ∙ ap (λ (t : List ℕ). taken ++ first_of t (drop i runs)) (sym e.0) ∙ l.taken_are,
      ap jobs_in (sym whole) ∙ sym (append-nil (jobs_in (take i runs))) ∙ ap (λ (t : List ℕ). jobs_in (take i runs) ++ others_of t (drop i runs)) (sym e.0) ∙ l.left_are,
      ap gaps_in (sym whole) ∙ sym (append-nil (gaps_in (take i runs))) ∙ ap (λ (t : List ℕ). gaps_in (take i runs) ++ marks_of t (drop i runs)) (sym e.0) ∙ l.gaps_are,
      omega (arith, ap lent_in whole, ap sum_of e.0, l.lent_are),
      ap owners_in (sym whole) ∙ sym (append-nil (owners_in (take i runs))) ∙ ap (λ (t : List ℕ). owners_in (take i runs) ++ owners_of t (drop i runs)) (sym e.0) ∙ l.owners_are,
    )

-- jobs that come back to the front of a run
filled_here : (gaps : List Bool) (back here rest : List Job) → filled (replicate (length here) false ++ gaps) back (here ++ rest) ≡ here ++ filled gaps back rest
filled_here gaps back [] rest = refl
filled_here gaps [] (x ∷ here) rest = ap (λ (t : List Job). x ∷ t) (filled_here gaps [] here rest)
filled_here gaps (b ∷ back) (x ∷ here) rest = ap (λ (t : List Job). x ∷ t) (filled_here gaps (b ∷ back) here rest)

filled_run : (k : ℕ) (gaps : List Bool) (back here rest : List Job) → k ≤ length back → filled (spread k (length here) ++ gaps) back (here ++ rest) ≡ (take k back ++ here) ++ filled gaps (drop k back) rest
filled_run zero gaps [] here rest le = filled_here gaps [] here rest
filled_run zero gaps (b ∷ back) here rest le = filled_here gaps (b ∷ back) here rest
filled_run (suc k) gaps [] here rest le = absurd (omega arith)
filled_run (suc k) gaps (b ∷ back) here rest le = ap (λ (t : List Job). b ∷ t) (filled_run k gaps back here rest (omega arith))

pub belong_run : (k : ℕ) (c : Connection) (cs : List Connection) (back : List Job) → belong (replicate k c ++ cs) (items_of back) ≡ true
    → (k ≤ length back) × (are_from c (items_of (take k back)) ≡ true) × (belong cs (items_of (drop k back)) ≡ true)
belong_run zero c cs [] is = (omega arith, refl, is)
belong_run zero c cs (b ∷ back) is = (omega arith, refl, is)
belong_run (suc k) c cs [] is = absurd (cc is)
belong_run (suc k) c cs (b ∷ back) is =
    let parts = both (same_connection (connection_of b.conn) c) (belong (replicate k c ++ cs) (items_of back)) is in
    let more = belong_run k c cs back parts.1 in
    (omega (arith, more.0), ap (λ (x : Bool). x && are_from c (items_of (take k back))) parts.0 ∙ more.1, more.2)

pub record Refills (all : List Job) (count i : ℕ) (runs : List Run) (back : List Job) : Type 0 where
  pub jobs : jobs_in (take i runs) ++ filled (gaps_in (drop i runs)) back (jobs_in (drop i runs)) ≡ all
  pub count_is : length (jobs_in (take i runs)) + (length (jobs_in (drop i runs)) + lent_in (drop i runs)) ≡ count
  pub settled : lent_in (take i runs) ≡ 0
  pub owners : belong (owners_in (drop i runs)) (items_of back) ≡ true

pub next_belongs : (all : List Job) (count i : ℕ) (runs : List Run) (was : Run) (back : List Job) → i < length runs → was ≡ get_or runs i was → Refills all count i runs back
    → (was.lent ≤ length back) × (are_from (connection_of was.conn) (items_of (take was.lent back)) ≡ true) × (belong (owners_in (drop (i + 1) runs)) (items_of (drop was.lent back)) ≡ true)
next_belongs all count i runs was back lt is r =
    let e : drop i runs ≡ was ∷ drop (i + 1) runs = at_drop_more (λ (t : List Run). t) runs i was lt ∙ ap (λ (q : Run). q ∷ drop (i + 1) runs) (sym is) in
    belong_run was.lent (connection_of was.conn) (owners_in (drop (i + 1) runs)) back (sym (ap (λ (t : List Run). belong (owners_in t) (items_of back)) e) ∙ r.owners)

pub refills_next : (all : List Job) (count i : ℕ) (runs new : List Run) (was now : Run) (back less : List Job) → Writes runs new i was now
    → now.jobs.items ≡ take was.lent back ++ was.jobs.items → now.lent ≡ 0 → less ≡ drop was.lent back → Refills all count i runs back → Refills all count (i + 1) new less
refills_next all count i runs new was now back less w put none left r =
    let rs = drop (i + 1) runs in
    let e_n : drop (i + 1) new ≡ rs = rest_written runs new i was now w in
    let e_r : drop i runs ≡ was ∷ rs = rest_before runs new i was now w in
    let own = next_belongs all count i runs was back w.here w.is_was r in
    record {
      jobs =
          ap (λ (t : List Run). jobs_in (take (i + 1) new) ++ filled (gaps_in t) less (jobs_in t)) e_n
          ∙ ap (λ (t : List Job). t ++ filled (gaps_in rs) less (jobs_in rs)) (jobs_written runs new i was now w ∙ ap (λ (t : List Job). jobs_in (take i runs) ++ t) put)
          ∙ ap (λ (t : List Job). (jobs_in (take i runs) ++ (take was.lent back ++ was.jobs.items)) ++ filled (gaps_in rs) t (jobs_in rs)) left
          ∙ append_assoc (jobs_in (take i runs)) (take was.lent back ++ was.jobs.items) (filled (gaps_in rs) (drop was.lent back) (jobs_in rs))
          ∙ ap (λ (t : List Job). jobs_in (take i runs) ++ t) (sym (filled_run was.lent (gaps_in rs) back was.jobs.items (jobs_in rs) own.0))
          ∙ ap (λ (t : List Run). jobs_in (take i runs) ++ filled (gaps_in t) back (jobs_in t)) (sym e_r)
          ∙ r.jobs;
      count_is =
          omega (arith, r.count_is, own.0, ap (λ (t : List Run). length (jobs_in t)) e_n, ap lent_in e_n, ap (λ (t : List Run). length (jobs_in t)) e_r, ap lent_in e_r, ap length (jobs_written runs new i was now w), length-append (jobs_in (take i runs)) now.jobs.items, length-append was.jobs.items (jobs_in rs), ap length put, length-append (take was.lent back) was.jobs.items, length-take was.lent back);
      settled = omega (arith, lent_written runs new i was now w, none, r.settled);
      owners = ap (λ (t : List Run). belong (owners_in t) (items_of less)) e_n ∙ ap (λ (t : List Job). belong (owners_in rs) (items_of t)) left ∙ own.2;
    }

-- runs of which no job is here
no_items : (n : ℕ) (jobs : List Job) → n ≡ length jobs → (n == 0) ≡ true → jobs ≡ []
no_items n [] len none = refl
no_items n (x ∷ jobs) len none = let k : n ≡ 0 = grind (arith, nat_tests) in absurd (omega arith)

not_false : (b : Bool) → not b ≡ false → b ≡ true
not_false true e = refl
not_false false e = absurd (cc e)

pub jobs_in-filter : (runs : List Run) → jobs_in (filter has_jobs runs) ≡ jobs_in runs
jobs_in-filter [] = refl
jobs_in-filter (r ∷ runs) = at_run r (filter has_jobs runs) runs (has_jobs r) refl (jobs_in-filter runs)
  where
    at_run : (r : Run) (kept runs : List Run) (b : Bool) → has_jobs r ≡ b → jobs_in kept ≡ jobs_in runs → jobs_in (cond b (r ∷ kept) kept) ≡ r.jobs.items ++ jobs_in runs
    at_run r kept runs true is more = ap (λ (t : List Job). r.jobs.items ++ t) more
    at_run r kept runs false is more = more ∙ ap (λ (t : List Job). t ++ jobs_in runs) (sym (no_items (deque_len r.jobs) r.jobs.items r.jobs.ok.0 (not_false (deque_len r.jobs == 0) is)))

pub lent_in-filter : (runs : List Run) → lent_in runs ≡ 0 → lent_in (filter has_jobs runs) ≡ 0
lent_in-filter [] none = refl
lent_in-filter (r ∷ runs) none = at_run r (filter has_jobs runs) (has_jobs r) (omega arith) (lent_in-filter runs (omega arith))
  where
    at_run : (r : Run) (kept : List Run) (b : Bool) → r.lent ≡ 0 → lent_in kept ≡ 0 → lent_in (cond b (r ∷ kept) kept) ≡ 0
    at_run r kept true one more = omega arith
    at_run r kept false one more = more

-- there is a count for each run
no_counts : (runs : List Run) (i : ℕ) → i < length runs → IsWithin [] (drop i runs) → ⊥
no_counts [] i lt w = omega arith
no_counts (r ∷ runs) zero lt w = w
no_counts (r ∷ runs) (suc i) lt w = no_counts runs i (omega arith) w

pub within_reach : (counts : List ℕ) (runs : List Run) (i : ℕ) → i < length runs → IsWithin (drop i counts) (drop i runs) → i < length counts
within_reach [] runs zero lt w = absurd (no_counts runs zero lt w)
within_reach [] runs (suc i) lt w = absurd (no_counts runs (suc i) lt w)
within_reach (k ∷ counts) [] i lt w = absurd (omega arith)
within_reach (k ∷ counts) (r ∷ runs) zero lt w = omega arith
within_reach (k ∷ counts) (r ∷ runs) (suc i) lt w = omega (arith, within_reach counts runs i (omega arith) w)

-- what a slice of all runs was written to
pub whole_slice : {A : Type 0} (new old : List A) (n : ℕ) → length new ≡ length old → n ≡ length old → take n (new ++ drop (length new) old) ≡ new
whole_slice {A} new old n same len =
    ap (λ (t : List A). take n (new ++ t)) (drop_all (length new) old (omega (arith, same)))
    ∙ ap (take n) (append-nil new)
    ∙ take_all n new (omega (arith, same, len))

-- where none is lent there is no gap
filled_gapless : (runs : List Run) (back : List Job) → lent_in runs ≡ 0 → filled (gaps_in runs) back (jobs_in runs) ≡ jobs_in runs
filled_gapless [] [] none = refl
filled_gapless [] (b ∷ back) none = refl
filled_gapless (r ∷ runs) back none =
    let e : r.lent ≡ 0 = omega (arith, none) in
    ap (λ (k : ℕ). filled (spread k (length r.jobs.items) ++ gaps_in runs) back (r.jobs.items ++ jobs_in runs)) e
    ∙ filled_here (gaps_in runs) back r.jobs.items (jobs_in runs)
    ∙ ap (λ (t : List Job). r.jobs.items ++ t) (filled_gapless runs back (omega (arith, none)))

pub filled_where : (n : ℕ) (runs : List Run) (back : List Job) → lent_in runs ≡ n → filled (gaps_in runs) back (jobs_in runs) ≡ filled (gaps_where n runs) back (jobs_in runs)
filled_where zero runs back is = filled_gapless runs back is
filled_where (suc n) runs back is = refl
