-- What each change of a node keeps of what its workers' slots say.
use Rattle.std.proofs.Common.{◌≡◌, ◌≢◌, ℕ, zero, suc, ◌+◌, ◌<◌, ◌≤◌, Bool, true, false, cond, ◌⊎◌, inl, inr, List, [], ◌∷◌, ◌++◌, length, map, drop, get_or, set, refl, ap, sym, ◌∙◌, subst, arith, Contains}
use Rattle.std.specs.Prelude.{◌==◌, ◌&&◌, nat_le, flat_map}
use Rattle.std.proofs.lemmas.Bool.{cases_Bool, cond_both, and_parts, leb-true, leb-false, le-leb, eq-eqb, ne_eqb}
use Rattle.std.proofs.lemmas.Bool.Decides.{eqb_tells}
use Rattle.std.proofs.lemmas.List.{append-nil, length-append, length-map, length-set, get_or-set_same, get_or-set_other, get_or_past, get_or_default, get_or_append_left, drop-append-le, drop_all}
use Rattle.std.proofs.lemmas.List.Elements.{Contains-append_left, Contains-append_right}
use Rattle.std.proofs.lemmas.Grind.{flat_map-append}
use Rattle.nr_model.specs.Items.{Item}
use Rattle.nr_model.specs.Entries.{Jobs, entry_items, read_jobs, left_by_reads, entry_jobs, left_by_entry}
use Rattle.nr_model.specs.Servers.{Server, after_all, emitted_all}
use Rattle.nr_model.specs.Nodes.{Client, fresh_client, Slot, Empty, Posted, Lifted, Answered, Worker, fresh_worker, worker_at, Node, Logged, Batch}
use Rattle.nr_model.specs.Nodes.Steps.{Cut, Refused, owing_less, jobs_of_worker, executed_from, is_owed, with_executed, delivered_to, dropped_jobs, fallen_client, fallen, with_entry, with_reads, advanced, advanced_by, emptied, owed_in, has_batch, revived}
use Rattle.nr_model.proofs.NodesOwnAdvance.{next_entry, by_advance, entry_passed}
use Rattle.nr_model.proofs.NodesOwnShape.{executed_at, fallen_at}
use Rattle.nr_model.proofs.NodesExecutedLists.{lt_or_le, count, Parts, entry_parts, reads_parts}
use Rattle.nr_model.proofs.NodesExecutedFits.{Standing, worker_of, serves, owing, SlotFits, WorkerFits, fits_on, fits_less, count_same, count-append}

-- what holds of each element, behind a write
pub at_set : {A : Type 0} (P : ℕ → A → Type 0) (xs : List A) (n : ℕ) (x d : A) → (n < length xs → P n x) → (length xs ≤ n → P n (get_or xs n d))
    → ((m : ℕ) → m ≢ n → P m (get_or xs m d)) → (m : ℕ) → P m (get_or (set xs n x) m d)
at_set P xs n x d here past other m =
    elim (eqb_tells m n) [
      | inr e ↦ subst (P m) (sym (get_or-set_other xs n m x d e.1)) (other m e.1)
      | inl e ↦ subst (λ (k : ℕ). P k (get_or (set xs n x) k d)) (sym e.1) (elim (lt_or_le n (length xs)) [
        | inl h ↦ subst (P n) (sym (get_or-set_same xs n x d h)) (here h)
        | inr h ↦
            let long = length-set xs n x in
            subst (P n) (get_or_past xs n d h ∙ sym (get_or_past (set xs n x) n d (omega arith))) (past h)
      ])
    ]

-- the jobs of a node's entry
abbrev pub own_entry : ℕ → Logged → Jobs
own_entry r entry = cond (entry.node == r) entry.jobs []

-- the jobs of its entries from one on
abbrev pub unapplied : ℕ → ℕ → List Logged → Jobs
unapplied r applied log = flat_map (own_entry r) (drop applied log)

-- the number of the first entry that it hasn't applied and may have reserved since it came back
abbrev pub first_owed : ℕ → ℕ → ℕ
first_owed resumed applied = cond (nat_le resumed applied) applied resumed

abbrev pub standing_of : ℕ → List Logged → Jobs → Node → Standing
standing_of r log executed node = record {
  down = node.down;
  clients = node.clients;
  waiting = node.waiting;
  behind = unapplied r (first_owed node.resumed node.applied) log;
  executed = executed;
}

-- each of its workers fits
abbrev pub NodeFits : ℕ → List Logged → Jobs → List Batch → Node → Type 0
NodeFits r log executed batches node =
    (w : ℕ) → WorkerFits r w batches (standing_of r log executed node) (worker_at w node).slot (worker_at w node).batches

-- connections keep their workers
pub record KeepsWorkers (clients after : List Client) : Type 0 where
  pub long : length after ≡ length clients
  pub same : (s : ℕ) (d : Client) → (get_or after s d).worker ≡ (get_or clients s d).worker

map_worker : (f : Client → Client) → ((c : Client) → (f c).worker ≡ c.worker) → (clients : List Client) (s : ℕ) (d : Client)
    → (get_or (map f clients) s d).worker ≡ (get_or clients s d).worker
map_worker f same [] s d = refl
map_worker f same (c ∷ clients) zero d = same c
map_worker f same (c ∷ clients) (suc s) d = map_worker f same clients s d

pub keeps_map : (f : Client → Client) → ((c : Client) → (f c).worker ≡ c.worker) → (clients : List Client) → KeepsWorkers clients (map f clients)
keeps_map f same clients = record { long = length-map clients f; same = map_worker f same clients }

pub keeps_set : (clients : List Client) (n : ℕ) (c d : Client) → n < length clients → c.worker ≡ (get_or clients n d).worker
    → KeepsWorkers clients (set clients n c)
keeps_set clients n c d there same = record {
  long = length-set clients n c;
  same = λ s e. at_set (λ m x. x.worker ≡ (get_or clients m e).worker) clients n c e
      (λ h. same ∙ ap (λ (x : Client). x.worker) (get_or_default clients n d e there)) (λ h. refl) (λ m other. refl) s;
}

abbrev pub with_clients : List Client → Standing → Standing
with_clients clients s = record s { clients = clients }

pub fits_clients : (r w : ℕ) (batches : List Batch) (s : Standing) (slot : Slot) (posted : ℕ) (clients : List Client) → KeepsWorkers s.clients clients
    → WorkerFits r w batches s slot posted → WorkerFits r w batches (with_clients clients s) slot posted
fits_clients r w batches s slot posted clients keeps p =
    let default = λ (x : Item). fresh_client 0 0 x.connection in
    fits_on r w batches s (with_clients clients s) slot posted (record {
      up = λ up. up;
      at = λ x a.
          let there = a.there in
          let long = keeps.long in
          record { there = omega arith; worker = keeps.same x.connection.serial (default x) ∙ a.worker };
      executed = λ x h. h;
      waiting = λ up x h. inl h;
    })
    (λ up.
    let each = λ (jobs : Jobs). count_same (serves w clients) (serves w s.clients) jobs
    (λ x h. ap (λ (k : ℕ). k == w) (keeps.same x.connection.serial (default x))) in
    λ i. each s.waiting i + each s.behind i) p

-- one more connection
pub fits_open : (r w : ℕ) (batches : List Batch) (s : Standing) (slot : Slot) (posted : ℕ) (client : Client)
    → ((x : Item) → Contains s.waiting x → x.connection.serial < length s.clients) → ((x : Item) → Contains s.behind x → x.connection.serial < length s.clients)
    → WorkerFits r w batches s slot posted → WorkerFits r w batches (with_clients (s.clients ++ client ∷ []) s) slot posted
fits_open r w batches s slot posted client waits behind p =
    let clients = s.clients ++ client ∷ [] in
    let default = λ (x : Item). fresh_client 0 0 x.connection in
    let same : (x : Item) → x.connection.serial < length s.clients → worker_of clients x ≡ worker_of s.clients x =
    λ x h. ap (λ (c : Client). c.worker) (get_or_append_left s.clients (client ∷ []) (default x) x.connection.serial h) in
    let long = length-append s.clients (client ∷ []) in
    fits_on r w batches s (with_clients clients s) slot posted (record {
      up = λ up. up;
      at = λ x a. let there = a.there in record { there = omega arith; worker = same x a.there ∙ a.worker };
      executed = λ x h. h;
      waiting = λ up x h. inl h;
    })
    (λ up.
    let first = count_same (serves w clients) (serves w s.clients) s.waiting (λ x h. ap (λ (k : ℕ). k == w) (same x (waits x h))) in
    let second = count_same (serves w clients) (serves w s.clients) s.behind (λ x h. ap (λ (k : ℕ). k == w) (same x (behind x h))) in
    λ i. first i + second i) p

-- a node that fell
fits_fallen : (r w : ℕ) (batches : List Batch) (s : Standing) (slot : Slot) (posted : ℕ) → WorkerFits r w batches s slot posted
    → WorkerFits r w batches (record s { down = true; waiting = [] }) slot posted
fits_fallen r w batches s slot posted p =
    fits_on r w batches s (record s { down = true; waiting = [] }) slot posted (record {
      up = λ up. absurd (cc up);
      at = λ x a. a;
      executed = λ x h. h;
      waiting = λ up. absurd (cc up);
    }) (λ up. absurd (cc up)) p

-- other nodes' jobs were executed
fits_grown : (r w : ℕ) (batches : List Batch) (s : Standing) (slot : Slot) (posted : ℕ) (more : Jobs) → WorkerFits r w batches s slot posted
    → WorkerFits r w batches (record s { executed = s.executed ++ more }) slot posted
fits_grown r w batches s slot posted more p =
    fits_on r w batches s (record s { executed = s.executed ++ more }) slot posted (record {
      up = λ up. up;
      at = λ x a. a;
      executed = λ x h. Contains-append_left s.executed more x h;
      waiting = λ up x h. inl h;
    }) (λ up. refl) p

-- what was taken of the jobs that wait
taken_or_left : (s : Standing) (taken left : Jobs) → Parts s.waiting taken left → (x : Item) → Contains s.waiting x
    → Contains left x ⊎ Contains (s.executed ++ taken) x
taken_or_left s taken left parts x h = elim (parts.shares x h) [ inl t ↦ inr (Contains-append_right s.executed taken x t) | inr l ↦ inl l ]

-- an entry was reserved for some that wait
fits_reserve : (r w : ℕ) (batches : List Batch) (s : Standing) (slot : Slot) (posted : ℕ) (taken left : Jobs) → Parts s.waiting taken left
    → WorkerFits r w batches s slot posted
    → WorkerFits r w batches (record s { waiting = left; behind = s.behind ++ taken; executed = s.executed ++ taken }) slot posted
fits_reserve r w batches s slot posted taken left parts p =
    fits_on r w batches s (record s { waiting = left; behind = s.behind ++ taken; executed = s.executed ++ taken }) slot posted (record {
      up = λ up. up;
      at = λ x a. a;
      executed = λ x h. Contains-append_left s.executed taken x h;
      waiting = λ up. taken_or_left s taken left parts;
    })
    (λ up.
    let test = serves w s.clients in
    let all = parts.counts test in
    let more = count-append test s.behind taken in
    omega arith) p

-- some that wait were run
fits_run : (r w : ℕ) (batches : List Batch) (s : Standing) (slot : Slot) (posted : ℕ) (taken left : Jobs) → Parts s.waiting taken left
    → WorkerFits r w batches s slot posted
    → WorkerFits r w batches (record s { waiting = left; executed = s.executed ++ taken }) (owing_less (length (jobs_of_worker w s.clients taken)) slot) posted
fits_run r w batches s slot posted taken left parts p =
    fits_less r w batches s (record s { waiting = left; executed = s.executed ++ taken }) slot posted (length (jobs_of_worker w s.clients taken)) (record {
      up = λ up. up;
      at = λ x a. a;
      executed = λ x h. Contains-append_left s.executed taken x h;
      waiting = λ up. taken_or_left s taken left parts;
    })
    (λ up. let all = parts.counts (serves w s.clients) in omega arith) p

-- an own entry was applied
fits_applied : (r w : ℕ) (batches : List Batch) (s : Standing) (slot : Slot) (posted : ℕ) (jobs behind : Jobs) → s.behind ≡ jobs ++ behind
    → WorkerFits r w batches s slot posted
    → WorkerFits r w batches (record s { behind = behind }) (owing_less (length (jobs_of_worker w s.clients jobs)) slot) posted
fits_applied r w batches s slot posted jobs behind is p =
    fits_less r w batches s (record s { behind = behind }) slot posted (length (jobs_of_worker w s.clients jobs)) (record {
      up = λ up. up;
      at = λ x a. a;
      executed = λ x h. h;
      waiting = λ up x h. inl h;
    })
    (λ up.
    let test = serves w s.clients in
    let all = ap (count test) is ∙ count-append test jobs behind in
    omega arith) p

-- the workers that jobs were executed for
fits_executed : (r v : ℕ) (batches : List Batch) (s : Standing) (clients : List Client) (jobs : Jobs) (workers : List Worker)
    → WorkerFits r v batches s (owing_less (length (jobs_of_worker v clients jobs)) (get_or workers v fresh_worker).slot) (get_or workers v fresh_worker).batches
    → WorkerFits r v batches s (get_or (executed_from 0 clients jobs workers) v fresh_worker).slot
    (get_or (executed_from 0 clients jobs workers) v fresh_worker).batches
fits_executed r v batches s clients jobs workers p =
    let worker = get_or workers v fresh_worker in
    let e : v ≡ 0 + v = omega arith in
    subst (λ (x : Worker). WorkerFits r v batches s x.slot x.batches) (sym (executed_at 0 clients jobs workers v))
    (subst (λ (k : ℕ). WorkerFits r v batches s (owing_less (length (jobs_of_worker k clients jobs)) worker.slot) worker.batches) e p)

-- none of an empty log
drop_none : (k : ℕ) → drop {A = Logged} k [] ≡ []
drop_none zero = refl
drop_none (suc k) = refl

abbrev no_entry : Logged
no_entry = record { node = 0; jobs = [] }

choice_same : {A : Type 0} (b : Bool) (x : A) → cond b x x ≡ x
choice_same true x = refl
choice_same false x = refl

-- what is not applied is the next entry, and what is not applied behind it
unapplied_step : (r k : ℕ) (log : List Logged) → unapplied r k log ≡ own_entry r (get_or log k no_entry) ++ unapplied r (suc k) log
unapplied_step r zero [] = sym (append-nil (own_entry r no_entry) ∙ choice_same (0 == r) [])
unapplied_step r (suc k) [] = sym (append-nil (own_entry r no_entry) ∙ choice_same (0 == r) [])
unapplied_step r zero (e ∷ log) = refl
unapplied_step r (suc k) (e ∷ log) = unapplied_step r k log

-- an own entry that was applied, and another node's
own_step : (r applied passed : ℕ) (log : List Logged) → applied ≡ passed → ((get_or log passed no_entry).node == r) ≡ true
    → unapplied r applied log ≡ (get_or log passed no_entry).jobs ++ unapplied r (suc applied) log
own_step r applied passed log same own =
    unapplied_step r applied log
    ∙ ap (λ (k : ℕ). own_entry r (get_or log k no_entry) ++ unapplied r (suc applied) log) same
    ∙ ap (λ (b : Bool). cond b (get_or log passed no_entry).jobs [] ++ unapplied r (suc applied) log) own

other_step : (r applied passed : ℕ) (log : List Logged) → applied ≡ passed → ((get_or log passed no_entry).node == r) ≡ false
    → unapplied r applied log ≡ unapplied r (suc applied) log
other_step r applied passed log same other =
    unapplied_step r applied log
    ∙ ap (λ (k : ℕ). own_entry r (get_or log k no_entry) ++ unapplied r (suc applied) log) same
    ∙ ap (λ (b : Bool). cond b (get_or log passed no_entry).jobs [] ++ unapplied r (suc applied) log) other

-- an entry that was owed, and one that wasn't
owed_step : (r resumed applied passed : ℕ) (log : List Logged) → applied ≡ passed → (nat_le resumed applied && (get_or log passed no_entry).node == r) ≡ true
    → unapplied r (first_owed resumed applied) log ≡ (get_or log passed no_entry).jobs ++ unapplied r (first_owed resumed (suc applied)) log
owed_step r resumed applied passed log same owed =
    let both = and_parts (nat_le resumed applied) ((get_or log passed no_entry).node == r) owed in
    let below = leb-true resumed applied both.0 in
    let next : nat_le resumed (suc applied) ≡ true = le-leb resumed (suc applied) (omega arith) in
    ap (λ (b : Bool). unapplied r (cond b applied resumed) log) both.0
    ∙ own_step r applied passed log same both.1
    ∙ ap (λ (b : Bool). (get_or log passed no_entry).jobs ++ unapplied r (cond b (suc applied) resumed) log) (sym next)

unowed_step : (r resumed applied passed : ℕ) (log : List Logged) → applied ≡ passed → (nat_le resumed applied && (get_or log passed no_entry).node == r) ≡ false
    → unapplied r (first_owed resumed applied) log ≡ unapplied r (first_owed resumed (suc applied)) log
unowed_step r resumed applied passed log same unowed =
    elim (cases_Bool (nat_le resumed applied)) [
      | inl e ↦
          let below = leb-true resumed applied e in
          let next : nat_le resumed (suc applied) ≡ true = le-leb resumed (suc applied) (omega arith) in
          let other : ((get_or log passed no_entry).node == r) ≡ false =
          ap (λ (b : Bool). b && (get_or log passed no_entry).node == r) (sym e) ∙ unowed in
          ap (λ (b : Bool). unapplied r (cond b applied resumed) log) e
          ∙ other_step r applied passed log same other
          ∙ ap (λ (b : Bool). unapplied r (cond b (suc applied) resumed) log) (sym next)
      | inr e ↦
          let past = leb-false resumed applied e in
          let now : first_owed resumed (suc applied) ≡ resumed =
          cond_both (nat_le resumed (suc applied)) (suc applied) resumed (λ (k : ℕ). k ≡ resumed)
          (λ h. let below = leb-true resumed (suc applied) h in omega arith) (λ h. refl) in
          ap (λ (b : Bool). unapplied r (cond b applied resumed) log) e ∙ ap (λ (k : ℕ). unapplied r k log) (sym now)
    ]

-- it isn't before what was applied, and within the log
pub owed_from : (resumed applied : ℕ) → applied ≤ first_owed resumed applied
owed_from resumed applied =
    cond_both (nat_le resumed applied) applied resumed (λ (k : ℕ). applied ≤ k) (λ h. omega arith)
    (λ h. let past = leb-false resumed applied h in omega arith)

pub owed_since : (resumed applied : ℕ) → resumed ≤ first_owed resumed applied
owed_since resumed applied =
    cond_both (nat_le resumed applied) applied resumed (λ (k : ℕ). resumed ≤ k) (λ h. leb-true resumed applied h) (λ h. omega arith)

pub owed_within : (resumed applied tail : ℕ) → resumed ≤ tail → applied ≤ tail → first_owed resumed applied ≤ tail
owed_within resumed applied tail a b = cond_both (nat_le resumed applied) applied resumed (λ (k : ℕ). k ≤ tail) (λ h. b) (λ h. a)

-- an entry more, of another node
unapplied_other : (r k : ℕ) (log : List Logged) (e : Logged) → own_entry r e ≡ [] → unapplied r k (log ++ e ∷ []) ≡ unapplied r k log
unapplied_other r zero log e silent =
    flat_map-append (own_entry r) log (e ∷ [])
    ∙ ap (λ (js : Jobs). flat_map (own_entry r) log ++ (js ++ [])) silent
    ∙ append-nil (flat_map (own_entry r) log)
unapplied_other r (suc k) [] e silent = ap (flat_map (own_entry r)) (drop_none k)
unapplied_other r (suc k) (l ∷ log) e silent = unapplied_other r k log e silent

-- and of its own
unapplied_own : (r k : ℕ) (log : List Logged) (jobs : Jobs) → k ≤ length log
    → unapplied r k (log ++ record { node = r; jobs = jobs } ∷ []) ≡ unapplied r k log ++ jobs
unapplied_own r k log jobs within =
    let e : Logged = record { node = r; jobs = jobs } in
    ap (flat_map (own_entry r)) (drop-append-le k log (e ∷ []) within)
    ∙ flat_map-append (own_entry r) (drop k log) (e ∷ [])
    ∙ ap (λ (b : Bool). unapplied r k log ++ (cond b jobs [] ++ [])) (eq-eqb r r refl)
    ∙ ap (λ (js : Jobs). unapplied r k log ++ js) (append-nil jobs)

-- a node that has applied what it passed
abbrev pub IsGoing : ℕ → List Logged → Jobs → List Batch → Node → Type 0
IsGoing n log executed batches node = NodeFits n log executed batches node × (node.down ≡ false → node.applied ≡ node.passed)

-- a node that fell
fallen_fits : (n : ℕ) (log : List Logged) (executed : Jobs) (batches : List Batch) (node : Node) → NodeFits n log executed batches node
    → NodeFits n log executed batches (fallen node)
fallen_fits n log executed batches node fits v =
    let fell = fallen_client (dropped_jobs node) in
    let s : Standing = record (standing_of n log executed node) { down = true; waiting = [] } in
    subst (λ (x : Worker). WorkerFits n v batches (standing_of n log executed (fallen node)) x.slot x.batches) (sym (fallen_at node.workers v))
    (fits_clients n v batches s (worker_at v node).slot (worker_at v node).batches (map fell node.clients) (keeps_map fell (λ c. refl) node.clients)
    (fits_fallen n v batches (standing_of n log executed node) (worker_at v node).slot (worker_at v node).batches (fits v)))

-- one that applied its next entry
entry_fits : (cuts : List Cut) (n : ℕ) (log : List Logged) (executed : Jobs) (batches : List Batch) (node : Node) → node.applied ≡ node.passed
    → NodeFits n log executed batches node → NodeFits n log executed batches (with_entry cuts n (next_entry log node) node)
entry_fits cuts n log executed batches node even fits =
    let entry = next_entry log node in
    let s = standing_of n log executed node in
    let deliver = delivered_to cuts node.passed (emitted_all node.server (entry_items entry.jobs)) in
    let keeps = keeps_map deliver (λ c. refl) node.clients in
    let behind = unapplied n (first_owed node.resumed (suc node.applied)) log in
    let t : Standing = record s { behind = behind } in
    cond_both (is_owed n entry node) (with_executed entry.jobs node) node
    (λ (x : Node). NodeFits n log executed batches (record x {
      applied = suc node.applied;
      server = after_all node.server (entry_items entry.jobs);
      clients = map deliver node.clients;
    }))
    (λ own v.
    fits_clients n v batches t (worker_at v (with_executed entry.jobs node)).slot (worker_at v (with_executed entry.jobs node)).batches
    (map deliver node.clients) keeps
    (fits_executed n v batches t node.clients entry.jobs node.workers
    (fits_applied n v batches s (worker_at v node).slot (worker_at v node).batches entry.jobs behind
    (owed_step n node.resumed node.applied node.passed log even own) (fits v))))
    (λ other v.
    fits_clients n v batches t (worker_at v node).slot (worker_at v node).batches (map deliver node.clients) keeps
    (subst (λ (js : Jobs). WorkerFits n v batches (record s { behind = js }) (worker_at v node).slot (worker_at v node).batches)
    (unowed_step n node.resumed node.applied node.passed log even other) (fits v)))

-- the next entry
pub advanced_going : (refused : Refused) (n : ℕ) (log : List Logged) (executed : Jobs) (batches : List Batch) (node : Node)
    → IsGoing n log executed batches node → IsGoing n log executed batches (advanced refused n log node)
advanced_going refused n log executed batches node going =
    by_advance (IsGoing n log executed batches) refused n log node
    (λ down. (going.0, λ up. absurd (cc (up, down))))
    (λ up. (fallen_fits n log executed batches node going.0, λ still. absurd (cc still)))
    (λ up. (
      entry_fits refused.cuts n log executed batches node (going.1 up) going.0,
      λ still. ap suc (going.1 up) ∙ ap suc (sym (entry_passed refused.cuts n (next_entry log node) node)),
    ))

-- and so many
pub ahead_going : (count : ℕ) (refused : Refused) (n : ℕ) (log : List Logged) (executed : Jobs) (batches : List Batch) (node : Node)
    → IsGoing n log executed batches node → IsGoing n log executed batches (advanced_by count refused n log node)
ahead_going zero refused n log executed batches node going = going
ahead_going (suc count) refused n log executed batches node going =
    ahead_going count refused n log executed batches (advanced refused n log node) (advanced_going refused n log executed batches node going)

-- a look
pub reads_fit : (cuts : List Cut) (tail n : ℕ) (log : List Logged) (executed : Jobs) (batches : List Batch) (node : Node)
    → NodeFits n log executed batches node → NodeFits n log (executed ++ read_jobs node.waiting) batches (with_reads cuts tail node)
reads_fit cuts tail n log executed batches node fits v =
    let jobs = read_jobs node.waiting in
    let s = standing_of n log executed node in
    let t : Standing = record s { waiting = left_by_reads node.waiting; executed = executed ++ jobs } in
    let deliver = delivered_to cuts tail (emitted_all node.server jobs) in
    fits_clients n v batches t (worker_at v (with_executed jobs node)).slot (worker_at v (with_executed jobs node)).batches
    (map deliver node.clients) (keeps_map deliver (λ c. refl) node.clients)
    (fits_executed n v batches t node.clients jobs node.workers
    (fits_run n v batches s (worker_at v node).slot (worker_at v node).batches jobs (left_by_reads node.waiting) (reads_parts node.waiting) (fits v)))

-- a collect's connections
pub emptied_worker : (w : ℕ) (c : Client) → (emptied w c).worker ≡ c.worker
emptied_worker w c = cond_both (c.worker == w) _ _ (λ (x : Client). x.worker ≡ c.worker) (λ e. refl) (λ e. refl)

-- an entry was reserved by the node
pub reserve_fits : (n : ℕ) (log : List Logged) (executed : Jobs) (batches : List Batch) (node : Node) (at : ℕ) (unfilled : List Bool)
    → first_owed node.resumed node.applied ≤ length log → NodeFits n log executed batches node
    → NodeFits n (log ++ record { node = n; jobs = entry_jobs node.waiting } ∷ []) (executed ++ entry_jobs node.waiting) batches
    (record node { waiting = left_by_entry node.waiting; at = at; unfilled = unfilled })
reserve_fits n log executed batches node at unfilled within fits v =
    let jobs = entry_jobs node.waiting in
    let s = standing_of n log executed node in
    subst (λ (js : Jobs). WorkerFits n v batches (record s { waiting = left_by_entry node.waiting; behind = js; executed = executed ++ jobs })
    (worker_at v node).slot (worker_at v node).batches)
    (sym (unapplied_own n (first_owed node.resumed node.applied) log jobs within))
    (fits_reserve n v batches s (worker_at v node).slot (worker_at v node).batches jobs (left_by_entry node.waiting) (entry_parts node.waiting) (fits v))

-- and by another
pub reserve_beside : (r n : ℕ) (log : List Logged) (executed : Jobs) (batches : List Batch) (node : Node) (jobs : Jobs) → r ≢ n
    → NodeFits r log executed batches node → NodeFits r (log ++ record { node = n; jobs = jobs } ∷ []) (executed ++ jobs) batches node
reserve_beside r n log executed batches node jobs other fits v =
    let s = standing_of r log executed node in
    let silent = ap (λ (b : Bool). cond b jobs []) (ne_eqb n r (λ e. other (sym e))) in
    subst (λ (js : Jobs). WorkerFits r v batches (record s { behind = js; executed = executed ++ jobs }) (worker_at v node).slot (worker_at v node).batches)
    (sym (unapplied_other r (first_owed node.resumed node.applied) log (record { node = n; jobs = jobs }) silent))
    (fits_grown r v batches s (worker_at v node).slot (worker_at v node).batches jobs (fits v))

-- jobs of another were run
pub reads_beside : (r : ℕ) (log : List Logged) (executed : Jobs) (batches : List Batch) (node : Node) (jobs : Jobs)
    → NodeFits r log executed batches node → NodeFits r log (executed ++ jobs) batches node
reads_beside r log executed batches node jobs fits v =
    fits_grown r v batches (standing_of r log executed node) (worker_at v node).slot (worker_at v node).batches jobs (fits v)

-- a slot without a batch owes nothing, and says the same of every standing with as much executed
none_owed : (worker : Worker) (slot : Slot) → has_batch (record worker { slot = slot }) ≡ false → owed_in slot ≡ 0
none_owed worker Empty e = refl
none_owed worker (Posted jobs) e = absurd (cc e)
none_owed worker (Lifted owed) e = absurd (cc e)
none_owed worker (Answered whole) e = refl

slot_back : (w : ℕ) (s t : Standing) (jobs : Jobs) (worker : Worker) (slot : Slot) → has_batch (record worker { slot = slot }) ≡ false → t.executed ≡ s.executed
    → SlotFits w s jobs slot → SlotFits w t jobs slot
slot_back w s t jobs worker Empty e same p = tt
slot_back w s t jobs worker (Posted posted) e same p = absurd (cc e)
slot_back w s t jobs worker (Lifted owed) e same p = absurd (cc e)
slot_back w s t jobs worker (Answered whole) e same p = λ is x h. subst (λ (js : Jobs). Contains js x) (sym same) (p is x h)

-- a node that comes back: none of its entries so far is owed
pub revived_fits : (n : ℕ) (log : List Logged) (executed : Jobs) (batches : List Batch) (server : Server) (node : Node) → node.waiting ≡ []
    → ((w : ℕ) → has_batch (worker_at w node) ≡ false) → NodeFits n log executed batches node
    → NodeFits n log executed batches (revived (length log) server node)
revived_fits n log executed batches server node waiting idle fits v =
    let worker = worker_at v node in
    let s = standing_of n log executed node in
    let t = standing_of n log executed (revived (length log) server node) in
    let from = first_owed (length log) node.passed in
    let past = owed_since (length log) node.passed in
    let none : drop from log ≡ [] = drop_all from log past in
    let test = serves v t.clients in
    let owing_none : owing v t ≡ 0 = λ i. count test (waiting i) + count test (flat_map (own_entry n) (none i)) in
    let p = fits v in
    record {
      owed = λ up. none_owed worker worker.slot (idle v) ∙ sym owing_none;
      below = p.below;
      last = λ some.
          let l = p.last some in
          record {
            batch = l.batch;
            stands = l.stands;
            own = l.own;
            number = l.number;
            fits = slot_back v s t l.batch.jobs worker worker.slot (idle v) refl l.fits;
          };
    }
