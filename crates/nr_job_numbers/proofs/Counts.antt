-- The numbers of the jobs that were taken of each connection.
use Rattle.std.proofs.Common.{◌≡◌, inl, inr, ℕ, ◌+◌, Bool, true, false, cond, Option, Some, None, List, [], ◌∷◌, ◌++◌, length, map, refl, ap, sym, ◌∙◌, subst, arith, append_assoc, eqb, ltb}
use Rattle.std.specs.Prelude.{◌&&◌}
use Rattle.std.specs.List.{range_with_len}
use Rattle.std.specs.Cmp.{nat_cmp_total}
use Rattle.std.specs.FinMap as finmap
use Rattle.std.proofs.lemmas.Bool.{cases_eq, and_parts, and_from, eqb-true, eq-eqb, ne_eqb}
use Rattle.std.proofs.lemmas.List.{map-append, map-id, append-nil}
use Rattle.std.proofs.lemmas.List.Elements.{filter-append}
use Rattle.std.proofs.lemmas.List.FromFn.{length-range_with_len, map-range_with_len_more}
use Rattle.nr_model.specs.Items.{Connection, same_connection, Item}
use Rattle.nr_model.specs.Entries.{Jobs}
use Rattle.nr_model.specs.Asked.{own_jobs}
use Rattle.nr_job_numbers.specs.declared.account.Account.{Account}
use Rattle.nr_job_numbers.specs.Account.{is_of, is_next, taken, most_number}
use Rattle.nr_job_numbers.specs.Stored.{Held, takes_by, takes_one, taken_one, takes_all, taken_all, ends_by, closed_one, numbers_in, CountsTo, AreCounted, AreTaken}
use Rattle.nr_job_numbers.proofs.Steps.{found, put_here}
use Rattle.nr_job_numbers.proofs.Strangers.{put_elsewhere, once_taken}

-- the connection under a serial of a node
abbrev pub conn_at : ℕ → ℕ → Connection
conn_at node serial = record { node = node; serial = serial }

-- one more number
one_more : (n : ℕ) → range_with_len 0 (n + 1) ≡ range_with_len 0 n ++ n ∷ []
one_more n =
    sym (map-id (range_with_len 0 (n + 1))) ∙ map-range_with_len_more (λ (k : ℕ). k) 0 n n (omega arith)
    ∙ ap (λ (ns : List ℕ). ns ++ n ∷ []) (map-id (range_with_len 0 n))

own-append : (c : Connection) (jobs : Jobs) (job : Item) → numbers_in c (jobs ++ job ∷ []) ≡ numbers_in c jobs ++ numbers_in c (job ∷ [])
own-append c jobs job =
    ap (map (λ (j : Item). j.number)) (filter-append (λ (j : Item). same_connection j.connection c) jobs (job ∷ []))
    ∙ map-append (λ (j : Item). j.number) (own_jobs c jobs) (own_jobs c (job ∷ []))

-- one more of its own, and of another
own_more : (c : Connection) (jobs : Jobs) (job : Item) → same_connection job.connection c ≡ true → numbers_in c (jobs ++ job ∷ []) ≡ numbers_in c jobs ++ job.number ∷ []
own_more c jobs job same =
    own-append c jobs job ∙ ap (λ (b : Bool). numbers_in c jobs ++ map (λ (j : Item). j.number) (cond b (job ∷ []) [])) same

other_more : (c : Connection) (jobs : Jobs) (job : Item) → same_connection job.connection c ≡ false → numbers_in c (jobs ++ job ∷ []) ≡ numbers_in c jobs
other_more c jobs job other =
    own-append c jobs job ∙ ap (λ (b : Bool). numbers_in c jobs ++ map (λ (j : Item). j.number) (cond b (job ∷ []) [])) other
    ∙ append-nil (numbers_in c jobs)

both_false : (a b : Bool) → b ≡ false → (a && b) ≡ false
both_false true b e = e
both_false false b e = refl

-- under other serials nothing changes
same_at : (node : ℕ) (job : Item) (serial : ℕ) → job.connection.node ≡ node → serial ≡ job.connection.serial → same_connection job.connection (conn_at node serial) ≡ true
same_at node job serial own here =
    and_from (eqb job.connection.node node) (eqb job.connection.serial serial) (eq-eqb job.connection.node node own) (eq-eqb job.connection.serial serial (sym here))

other_at : (node : ℕ) (job : Item) (serial : ℕ) → (serial ≡ job.connection.serial → ⊥) → same_connection job.connection (conn_at node serial) ≡ false
other_at node job serial apart = both_false (eqb job.connection.node node) (eqb job.connection.serial serial) (ne_eqb job.connection.serial serial (λ e. apart (sym e)))

-- a count of the account under a job's serial goes up with it
pub counted_more : (count : Account → ℕ) (node : ℕ) (held new : Held) (jobs : Jobs) (job : Item) (a b : Account) → job.connection.node ≡ node
    → finmap.get held job.connection.serial ≡ Some a → job.number ≡ count a → count b ≡ count a + 1 → new ≡ finmap.insert held job.connection.serial b
    → AreCounted count node held jobs → AreCounted count node new (jobs ++ job ∷ [])
counted_more count node held new jobs job a b own at number more is counted serial =
    subst (λ (h : Held). CountsTo count (finmap.get h serial) (numbers_in (conn_at node serial) (jobs ++ job ∷ []))) (sym is)
    (elim (cases_eq serial job.connection.serial) [
      | inl here ↦
          let old : numbers_in (conn_at node serial) jobs ≡ range_with_len 0 (count a) =
          subst (λ (o : Option Account). CountsTo count o (numbers_in (conn_at node serial) jobs)) (ap (finmap.get held) here ∙ at) (counted serial) in
          let now : numbers_in (conn_at node serial) (jobs ++ job ∷ []) ≡ range_with_len 0 (count b) =
          own_more (conn_at node serial) jobs job (same_at node job serial own here)
          ∙ (λ i. old i ++ number i ∷ []) ∙ sym (ap (range_with_len 0) more ∙ one_more (count a)) in
          let found : finmap.get (finmap.insert held job.connection.serial b) serial ≡ Some b =
          ap (finmap.get (finmap.insert held job.connection.serial b)) here ∙ put_here held job.connection.serial b in
          subst (λ (o : Option Account). CountsTo count o (numbers_in (conn_at node serial) (jobs ++ job ∷ []))) (sym found) now
      | inr apart ↦
          subst (λ (o : Option Account). CountsTo count o (numbers_in (conn_at node serial) (jobs ++ job ∷ [])))
          (sym (put_elsewhere held job.connection.serial serial b apart))
          (subst (CountsTo count (finmap.get held serial)) (sym (other_more (conn_at node serial) jobs job (other_at node job serial apart))) (counted serial))
    ])

-- an account is taken out
long : (count : Account → ℕ) (o : Option Account) (numbers : List ℕ) → CountsTo count o numbers → numbers ≡ range_with_len 0 (length numbers)
long count None numbers counts = counts
long count (Some a) numbers counts = counts ∙ ap (range_with_len 0) (sym (ap length counts ∙ length-range_with_len 0 (count a)))

removed_by : (count : Account → ℕ) (b : Bool) (o : Option Account) (numbers : List ℕ) → CountsTo count o numbers → CountsTo count (cond b None o) numbers
removed_by count true o numbers counts = long count o numbers counts
removed_by count false o numbers counts = counts

pub counted_out : (count : Account → ℕ) (node : ℕ) (held : Held) (jobs : Jobs) (s : ℕ) → AreCounted count node held jobs
    → AreCounted count node (finmap.remove held s) jobs
counted_out count node held jobs s counted serial =
    subst (λ (o : Option Account). CountsTo count o (numbers_in (conn_at node serial) jobs)) (sym (finmap.get-remove nat_cmp_total held s serial))
    (removed_by count _ (finmap.get held serial) (numbers_in (conn_at node serial) jobs) (counted serial))

-- a job that is taken
pub taken_counts : (node worker : ℕ) (held : Held) (jobs : Jobs) (job : Item) → takes_one node worker held job ≡ true → AreTaken node held jobs
    → AreTaken node (taken_one held job) (jobs ++ job ∷ [])
taken_counts node worker held jobs job e counted =
    let at = found node worker held job e in
    let a = at.0 in
    let own = eqb-true job.connection.node node (and_parts (eqb job.connection.node node) (takes_by worker job (finmap.get held job.connection.serial)) e).0 in
    let next = (and_parts (is_of worker a) (is_next job a) at.2).1 in
    let number = eqb-true job.number a.next (and_parts (eqb job.number a.next) (ltb a.next most_number) next).0 in
    counted_more (λ (account : Account). account.next) node held (taken_one held job) jobs job a (taken job a) own at.1 number refl (once_taken held job a at.1) counted

-- all of a batch
pub all_counts : (node worker : ℕ) (held : Held) (jobs batch : Jobs) → takes_all node worker held batch ≡ true → AreTaken node held jobs
    → AreTaken node (taken_all held batch) (jobs ++ batch)
all_counts node worker held jobs [] e counted = subst (AreTaken node held) (sym (append-nil jobs)) counted
all_counts node worker held jobs (job ∷ batch) e counted =
    let parts = and_parts (takes_one node worker held job) (takes_all node worker (taken_one held job) batch) e in
    let more = all_counts node worker (taken_one held job) (jobs ++ job ∷ []) batch parts.1 (taken_counts node worker held jobs job parts.0 counted) in
    subst (AreTaken node (taken_all (taken_one held job) batch)) (append_assoc jobs (job ∷ []) batch) more

-- accounts go: nothing else was taken
closed_by : (b : Bool) (node : ℕ) (held : Held) (serial : ℕ) (jobs : Jobs) → AreTaken node held jobs → AreTaken node (cond b (finmap.remove held serial) held) jobs
closed_by true node held serial jobs counted = counted_out (λ (account : Account). account.next) node held jobs serial counted
closed_by false node held serial jobs counted = counted

pub closed_counts : (node : ℕ) (held : Held) (jobs : Jobs) (job : Item) → AreTaken node held jobs → AreTaken node (closed_one node held job) jobs
closed_counts node held jobs job counted =
    closed_by (eqb job.connection.node node && ends_by job (finmap.get held job.connection.serial)) node held job.connection.serial jobs counted
