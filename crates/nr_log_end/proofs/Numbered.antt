-- The numbers of a connection's jobs in a node's record, in what it reserved, and in the log behind what it passed.
use Rattle.std.proofs.Common.{◌≡◌, ℕ, zero, suc, ◌+◌, Bool, true, false, cond, inl, inr, List, [], ◌∷◌, ◌++◌, length, map, drop, refl, ap, sym, ◌∙◌, subst, append_assoc, arith}
use Rattle.std.specs.Prelude.{◌==◌, IsTrue}
use Rattle.std.specs.List.{AllByRecursion}
use Rattle.std.proofs.Math.Seq.{drop-append_seam}
use Rattle.std.proofs.lemmas.Bool.{and_parts, eqb-true}
use Rattle.std.proofs.lemmas.Bool.Decides.{eqb_tells}
use Rattle.std.proofs.lemmas.Grind.{flat_map-append}
use Rattle.std.proofs.lemmas.List.{append-nil, map-append}
use Rattle.std.proofs.lemmas.List.Elements.{filter-append}
use Rattle.nr_model.specs.Bytes.{IsBeginningOf}
use Rattle.nr_model.specs.Items.{Connection, same_connection, Item}
use Rattle.nr_model.specs.Entries.{Jobs, entry_items, entry_moment}
use Rattle.nr_model.specs.Asked.{own_jobs}
use Rattle.nr_model.proofs.NodesOwnLists.{none_own}
use Rattle.nr_model.proofs.NodesPartsEmitted.{of_another}
use Rattle.nr_entry.specs.Entry.{are_of}
use Rattle.nr_entry.specs.Jobs.{item_of, items_of}
use Rattle.nr_entry.specs.declared.entry.Entry.{Entry}
use Rattle.nr_log_end.specs.Numbers.{IsRising, numbers_of, connection_at}
use Rattle.nr_log_end.specs.declared.standing.LogEvent.{LogEvent}
use Rattle.nr_log_end.specs.declared.standing.LogEvent.TheVariants.{Applied, Ran, Opened}
use Rattle.nr_log_end.specs.Standings.{applied_of, items_of_turn, record_of, own_from, own_entries, jobs_reserved, jobs_in, EachRises}
use Rattle.nr_log_end.proofs.Rising.{rising_left_out, rising_front}

-- one history behind another
pub record-append : (turns more : List LogEvent) → record_of (turns ++ more) ≡ record_of turns ++ record_of more
record-append turns more = flat_map-append items_of_turn turns more

pub applied-append : (turns more : List LogEvent) → applied_of (turns ++ more) ≡ applied_of turns ++ applied_of more
applied-append [] more = refl
applied-append (Applied entry ∷ turns) more = ap (λ (es : List Entry). entry ∷ es) (applied-append turns more)
applied-append (Ran job ∷ turns) more = applied-append turns more
applied-append (Opened worker ∷ turns) more = applied-append turns more

-- the entries of a node in one log behind another
own_behind : (node n : ℕ) (log more : List Entry) → own_from node n (log ++ more) ≡ own_from node n log ++ own_from node (n + length log) more
own_behind node n [] more =
    let same : n ≡ n + 0 = omega arith in
    ap (λ (k : ℕ). own_from node k more) same
own_behind node n (entry ∷ log) more =
    let same : suc n + length log ≡ n + suc (length log) = omega arith in
    let rest = own_from node (suc n) log in
    let behind = own_from node (n + suc (length log)) more in
    let ih : own_from node (suc n) (log ++ more) ≡ rest ++ behind =
    own_behind node (suc n) log more ∙ ap (λ (k : ℕ). rest ++ own_from node k more) same in
    let all = own_from node (suc n) (log ++ more) in
    elim (entry.node == node) as (λ own. cond own ((n, entry) ∷ all) all ≡ cond own ((n, entry) ∷ rest) rest ++ behind) [
      | true ↦ ap (λ (rs : List (ℕ × Entry)). (n, entry) ∷ rs) ih
      | false ↦ ih
    ]

pub own-append : (node : ℕ) (log more : List Entry) → own_entries node (log ++ more) ≡ own_entries node log ++ own_from node (length log) more
own-append node log more =
    let same : 0 + length log ≡ length log = omega arith in
    own_behind node 0 log more ∙ ap (λ (k : ℕ). own_entries node log ++ own_from node k more) same

-- the numbers of a connection's jobs
abbrev number : Item → ℕ
number job = job.number

pub numbers-append : (c : Connection) (xs ys : Jobs) → numbers_of c (xs ++ ys) ≡ numbers_of c xs ++ numbers_of c ys
numbers-append c xs ys =
    ap (map number) (filter-append (λ (job : Item). same_connection job.connection c) xs ys) ∙ map-append number (own_jobs c xs) (own_jobs c ys)

-- at another moment
numbers_at : (c : Connection) (moment : ℕ) (jobs : Jobs) → numbers_of c (map {A = Item} (λ job. record job { moment = moment }) jobs) ≡ numbers_of c jobs
numbers_at c moment [] = refl
numbers_at c moment (job ∷ jobs) =
    let more : Jobs = map {A = Item} (λ j. record j { moment = moment }) jobs in
    let now : Item = record job { moment = moment } in
    let ih = numbers_at c moment jobs in
    elim (same_connection job.connection c) as (λ own. map number (cond own (now ∷ own_jobs c more) (own_jobs c more))
    ≡ map number (cond own (job ∷ own_jobs c jobs) (own_jobs c jobs))) [
      | true ↦ ap (λ (ns : List ℕ). job.number ∷ ns) ih
      | false ↦ ih
    ]

pub numbers_entry : (c : Connection) (jobs : Jobs) → numbers_of c (entry_items jobs) ≡ numbers_of c jobs
numbers_entry c jobs = numbers_at c (entry_moment jobs) jobs

-- another node's jobs
elsewhere : (c : Connection) (node : ℕ) (jobs : Jobs) → IsTrue (are_of node jobs) → (c.node ≡ node → ⊥)
    → AllByRecursion (λ (job : Item). same_connection job.connection c ≡ false) jobs
elsewhere c node [] own apart = tt
elsewhere c node (job ∷ jobs) own apart =
    let both = and_parts (job.connection.node == node) (are_of node jobs) own in
    let here = eqb-true job.connection.node node both.0 in
    (of_another job.connection c (λ e. apart (sym e ∙ here)), elsewhere c node jobs both.1 apart)

pub numbers_other : (c : Connection) (node : ℕ) (jobs : Jobs) → IsTrue (are_of node jobs) → (c.node ≡ node → ⊥) → numbers_of c jobs ≡ []
numbers_other c node jobs own apart = ap (map number) (none_own c jobs (elsewhere c node jobs own apart))

-- what is behind the entries that are known
pub behind_known : (node : ℕ) (known rest log : List Entry) → known ++ rest ≡ log
    → own_entries node log ≡ own_entries node known ++ own_from node (length known) rest
behind_known node known rest log e = ap (own_entries node) (sym e) ∙ own-append node known rest

pub unpassed_behind : (node : ℕ) (known rest log : List Entry) (reservations : List (ℕ × Entry)) → known ++ rest ≡ log → reservations ≡ own_entries node log
    → drop (length (own_entries node known)) reservations ≡ own_from node (length known) rest
unpassed_behind node known rest log reservations e are =
    ap (drop (length (own_entries node known))) (are ∙ behind_known node known rest log e)
    ∙ drop-append_seam (own_entries node known) (own_from node (length known) rest)

-- the entry that was fetched is the next of its own node, and of no other
pub numbers_front : (c : Connection) (node n : ℕ) (e : Entry) (rest : List Entry) → c.node ≡ node
    → numbers_of c (items_of e.jobs.items) ++ numbers_of c (jobs_reserved (own_from node (suc n) rest))
    ≡ numbers_of c (jobs_reserved (own_from node n (e ∷ rest)))
numbers_front c node n e rest here =
    let more = own_from node (suc n) rest in
    let items = items_of e.jobs.items in
    let at = λ (own : Bool). numbers_of c (jobs_reserved (cond own ((n, e) ∷ more) more)) in
    elim (eqb_tells e.node node) [
      | inl own ↦ sym (numbers-append c items (jobs_reserved more)) ∙ sym (ap at own.0)
      | inr other ↦ ap (λ (ns : List ℕ). ns ++ numbers_of c (jobs_reserved more)) (numbers_other c e.node items e.own (λ same. other.1 (sym same ∙ here)))
          ∙ sym (ap at other.0)
    ]

-- of a connection of the node the entries have the numbers that those of the node have
pub numbers_own : (c : Connection) (node n : ℕ) (entries : List Entry) → c.node ≡ node
    → numbers_of c (jobs_reserved (own_from node n entries)) ≡ numbers_of c (jobs_in entries)
numbers_own c node n [] here = refl
numbers_own c node n (e ∷ entries) here =
    let items = items_of e.jobs.items in
    sym (numbers_front c node n e entries here)
    ∙ ap (λ (ns : List ℕ). numbers_of c items ++ ns) (numbers_own c node (suc n) entries here)
    ∙ sym (numbers-append c items (jobs_in entries))

-- entries behind entries
jobs_in-append : (xs ys : List Entry) → jobs_in (xs ++ ys) ≡ jobs_in xs ++ jobs_in ys
jobs_in-append [] ys = refl
jobs_in-append (x ∷ xs) ys =
    let items = items_of x.jobs.items in
    ap (λ (js : Jobs). items ++ js) (jobs_in-append xs ys) ∙ sym (append_assoc items (jobs_in xs) (jobs_in ys))

pub numbers_in_both : (c : Connection) (xs ys : List Entry) → numbers_of c (jobs_in (xs ++ ys)) ≡ numbers_of c (jobs_in xs) ++ numbers_of c (jobs_in ys)
numbers_in_both c xs ys = ap (numbers_of c) (jobs_in-append xs ys) ∙ numbers-append c (jobs_in xs) (jobs_in ys)

-- an entry that is passed has the numbers in the record that it had in the log
pub numbers_passed : (c : Connection) (turns : List LogEvent) (entry : Entry) (rest : List Entry)
    → numbers_of c (record_of (turns ++ Applied entry ∷ []) ++ jobs_in rest) ≡ numbers_of c (record_of turns ++ jobs_in (entry ∷ rest))
numbers_passed c turns entry rest =
    let done = record_of turns in
    let items = items_of entry.jobs.items in
    ap (λ (js : Jobs). numbers_of c (js ++ jobs_in rest))
    (record-append turns (Applied entry ∷ []) ∙ ap (λ (js : Jobs). done ++ js) (append-nil (entry_items items)))
    ∙ ap (numbers_of c) (append_assoc done (entry_items items) (jobs_in rest))
    ∙ numbers-append c done (entry_items items ++ jobs_in rest)
    ∙ ap (λ (ns : List ℕ). numbers_of c done ++ ns) (numbers-append c (entry_items items) (jobs_in rest)
    ∙ ap (λ (ns : List ℕ). ns ++ numbers_of c (jobs_in rest)) (numbers_entry c items)
    ∙ sym (numbers-append c items (jobs_in rest)))
    ∙ sym (numbers-append c done (items ++ jobs_in rest))

-- behind the same record
pub numbers_behind : (c : Connection) (done xs ys : Jobs) → numbers_of c xs ≡ numbers_of c ys → numbers_of c (done ++ xs) ≡ numbers_of c (done ++ ys)
numbers_behind c done xs ys e = numbers-append c done xs ∙ ap (λ (ns : List ℕ). numbers_of c done ++ ns) e ∙ sym (numbers-append c done ys)

-- the entries alone of what a node did: the reads between them are left out
entries_rise : (c : Connection) (front : List ℕ) (turns : List LogEvent) (back : List ℕ) → IsRising (front ++ (numbers_of c (record_of turns) ++ back))
    → IsRising (front ++ (numbers_of c (jobs_in (applied_of turns)) ++ back))
entries_rise c front [] back h = h
entries_rise c front (Applied entry ∷ turns) back h =
    let items = items_of entry.jobs.items in
    let here = numbers_of c items in
    let done = numbers_of c (record_of turns) in
    let more = numbers_of c (jobs_in (applied_of turns)) in
    let before : front ++ (numbers_of c (entry_items items ++ record_of turns) ++ back) ≡ (front ++ here) ++ (done ++ back) =
    ap (λ (ns : List ℕ). front ++ (ns ++ back))
    (numbers-append c (entry_items items) (record_of turns) ∙ ap (λ (ns : List ℕ). ns ++ done) (numbers_entry c items))
    ∙ ap (λ (ns : List ℕ). front ++ ns) (append_assoc here done back) ∙ sym (append_assoc front here (done ++ back)) in
    let after : front ++ (numbers_of c (items ++ jobs_in (applied_of turns)) ++ back) ≡ (front ++ here) ++ (more ++ back) =
    ap (λ (ns : List ℕ). front ++ (ns ++ back)) (numbers-append c items (jobs_in (applied_of turns)))
    ∙ ap (λ (ns : List ℕ). front ++ ns) (append_assoc here more back) ∙ sym (append_assoc front here (more ++ back)) in
    subst IsRising (sym after) (entries_rise c (front ++ here) turns back (subst IsRising before h))
entries_rise c front (Ran job ∷ turns) back h =
    let here = numbers_of c (item_of job ∷ []) in
    let done = numbers_of c (record_of turns) in
    let before : front ++ (numbers_of c (item_of job ∷ record_of turns) ++ back) ≡ front ++ (here ++ (done ++ back)) =
    ap (λ (ns : List ℕ). front ++ (ns ++ back)) (numbers-append c (item_of job ∷ []) (record_of turns))
    ∙ ap (λ (ns : List ℕ). front ++ ns) (append_assoc here done back) in
    entries_rise c front turns back (rising_left_out front here (done ++ back) (subst IsRising before h))
entries_rise c front (Opened worker ∷ turns) back h = entries_rise c front turns back h

-- along the whole log, too
pub log_rises : (c : Connection) (past : List LogEvent) (log behind : List Entry) → applied_of past ++ behind ≡ log
    → IsRising (numbers_of c (record_of past ++ jobs_in behind)) → IsRising (numbers_of c (jobs_in log))
log_rises c past log behind whole h =
    let entries = entries_rise c [] past (numbers_of c (jobs_in behind)) (subst IsRising (numbers-append c (record_of past) (jobs_in behind)) h) in
    subst (λ (es : List Entry). IsRising (numbers_of c (jobs_in es))) whole (subst IsRising (sym (numbers_in_both c (applied_of past) behind)) entries)

-- so it is with the first of entries
pub each_rises_front : (xs ys : List Entry) → IsBeginningOf xs ys → EachRises ys → EachRises xs
each_rises_front xs ys b h = λ node serial.
    let c = connection_at node serial in
    rising_front (numbers_of c (jobs_in xs)) (numbers_of c (jobs_in b.0))
    (subst IsRising (ap (λ (es : List Entry). numbers_of c (jobs_in es)) (sym b.1) ∙ numbers_in_both c xs b.0) (h node serial))

begins_drop : {A : Type 0} (n : ℕ) (xs ys : List A) → IsBeginningOf xs ys → IsBeginningOf (drop n xs) (drop n ys)
begins_drop zero xs ys b = b
begins_drop (suc n) [] ys b = (drop (suc n) ys, refl)
begins_drop (suc n) (x ∷ xs) [] b = absurd (cc b.1)
begins_drop (suc n) (x ∷ xs) (y ∷ ys) b = let e : xs ++ b.0 ≡ ys = ap (drop 1) b.1 in begins_drop n xs ys (b.0, e)

-- A beginning of what a node did, and of what is known of the log: where the numbers rise along all that the node did and the log behind it, they rise
-- along the beginning and what is known behind that.
pub part_rises : (c : Connection) (turns past : List LogEvent) (known log behind : List Entry) → IsBeginningOf turns past → IsBeginningOf known log
    → applied_of past ++ behind ≡ log → IsRising (numbers_of c (record_of past ++ jobs_in behind))
    → IsRising (numbers_of c (record_of turns ++ jobs_in (drop (length (applied_of turns)) known)))
part_rises c turns past known log behind b k whole h =
    let done = record_of turns in
    let more = b.0 in
    let rest = applied_of more ++ behind in
    let split : done ++ (record_of more ++ jobs_in behind) ≡ record_of past ++ jobs_in behind =
    sym (append_assoc done (record_of more) (jobs_in behind)) ∙ ap (λ (js : Jobs). js ++ jobs_in behind) (sym (record-append turns more) ∙ ap record_of b.1) in
    let apart : numbers_of c done ++ (numbers_of c (record_of more) ++ numbers_of c (jobs_in behind)) ≡ numbers_of c (record_of past ++ jobs_in behind) =
    ap (λ (ns : List ℕ). numbers_of c done ++ ns) (sym (numbers-append c (record_of more) (jobs_in behind)))
    ∙ sym (numbers-append c done (record_of more ++ jobs_in behind)) ∙ ap (numbers_of c) split in
    let entries = entries_rise c (numbers_of c done) more (numbers_of c (jobs_in behind)) (subst IsRising (sym apart) h) in
    let log_is : applied_of turns ++ rest ≡ log =
    sym (append_assoc (applied_of turns) (applied_of more) behind)
    ∙ ap (λ (es : List Entry). es ++ behind) (sym (applied-append turns more) ∙ ap applied_of b.1) ∙ whole in
    let left : drop (length (applied_of turns)) log ≡ rest = ap (drop (length (applied_of turns))) (sym log_is) ∙ drop-append_seam (applied_of turns) rest in
    let there = drop (length (applied_of turns)) known in
    let front = subst (IsBeginningOf there) left (begins_drop (length (applied_of turns)) known log k) in
    let all : numbers_of c (done ++ jobs_in there) ++ numbers_of c (jobs_in front.0)
    ≡ numbers_of c done ++ (numbers_of c (jobs_in (applied_of more)) ++ numbers_of c (jobs_in behind)) =
    ap (λ (ns : List ℕ). ns ++ numbers_of c (jobs_in front.0)) (numbers-append c done (jobs_in there))
    ∙ append_assoc (numbers_of c done) (numbers_of c (jobs_in there)) (numbers_of c (jobs_in front.0))
    ∙ ap (λ (ns : List ℕ). numbers_of c done ++ ns) (sym (numbers_in_both c there front.0) ∙ ap (λ (es : List Entry). numbers_of c (jobs_in es)) front.1
    ∙ numbers_in_both c (applied_of more) behind) in
    rising_front (numbers_of c (done ++ jobs_in there)) (numbers_of c (jobs_in front.0)) (subst IsRising (sym all) entries)
