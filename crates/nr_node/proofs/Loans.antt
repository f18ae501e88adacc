-- A node stays as it is where its server is lent.
use Rattle.std.proofs.Common.{◌≡◌, ℕ, suc, ◌≤◌, Bool, true, false, List, [], ◌∷◌, ◌++◌, length, sym, ap, ◌∙◌, subst, inr, refl, arith}
use Rattle.std.specs.Prelude.{Option, Some, None, IfSome, option_to_list}
use Rattle.std.specs.List.{AllByRecursion}
use Rattle.std.proofs.lemmas.List.{append-nil, length-append}
use Rattle.nr_model.specs.Items.{Sequence}
use Rattle.nr_model.specs.Entries.{Jobs, entry_items}
use Rattle.nr_model.specs.Servers.{Server, fresh, after_all}
use Rattle.nr_model.proofs.Emitted.{after_all-append}
use Rattle.nr_model.proofs.Serving.{server_is_redis}
use Rattle.nr_entry.specs.Jobs.{item_of, items_of}
use Rattle.nr_entry.specs.declared.entry.Entry.{Entry}
use Rattle.nr_entry.specs.declared.job.Job.{Job}
use Rattle.nr_log_end.specs.declared.standing.Standing.{Standing}
use Rattle.nr_log_end.specs.declared.standing.Load.TheVariants.{Tail}
use Rattle.nr_log_end.specs.declared.standing.LogEvent.{LogEvent}
use Rattle.nr_log_end.specs.declared.standing.LogEvent.TheVariants.{Applied, Ran, Opened}
use Rattle.nr_log_end.specs.Standings.{LooksOn, StandsInLog, applied_of, known_of, passed_of, ran_from, record_of}
use Rattle.nr_oplog.specs.Plays.{AreComparable}
use Rattle.nr_oplog.specs.declared.view.LogView.{LogView}
use Rattle.nr_job_numbers.specs.Book.{Book}
use Rattle.nr_replica.specs.Lent.{AreRepliesTo}
use Rattle.nr_replica.specs.Replicas.{ReplicaState}
use Rattle.nr_node.specs.declared.next.Next.{Next}
use Rattle.nr_node.specs.Kept.{IsKept}
use Rattle.nr_node.specs.Lending.{AreReadyFor, HasLent, LooksAtTail, PreparedState}
use Rattle.nr_node.specs.Level.{NodeState, IsReadOf}
use Rattle.nr_node.specs.Next.{jobs_next}
use Rattle.nr_node.specs.Sound.{IsSound}
use Rattle.nr_node.proofs.Lists.{none_unpassed}
use Rattle.nr_node.proofs.Levels.{lent_level}
use Rattle.nr_node.proofs.Orders.{lent_order}
use Rattle.nr_node.proofs.Taking.{IsWithin, stood_within}

lent_kept : (s : Standing) (r : ReplicaState) (lent : Bool) (book : Book) (next : Option Next) (nodes : ℕ) → IsKept s r book next nodes
    → IsKept s (record r { lent = lent }) book next nodes
lent_kept s r lent book next nodes k = record {
  level = lent_level s r lent k.level;
  order = lent_order s r lent book _ k.order;
  next_is = k.next_is;
  owed = k.owed;
  owing = k.owing;
  accounts = k.accounts;
  fallen = k.fallen;
}

-- it was lent, behind a tail that was loaded
pub lent_within : (s t : Standing) (old new : ReplicaState) (book : Book) (next : Option Next) (nodes : ℕ) → LooksOn s t → new ≡ record old { lent = new.lent }
    → IsWithin s old book next nodes → IsWithin t new book next nodes
lent_within s t old new book next nodes on is w =
    let there = stood_within s t old book next nodes on w in
    (subst (λ (r : ReplicaState). IsKept t r book next nodes) (sym is) (lent_kept t old new.lent book next nodes there.0), there.1, there.2, there.3, there.4)

-- a tail that is met leaves a standing sound
pub sound_on : (s t u : Standing) → LooksOn s t → u ≡ t → IsSound s → IsSound u
sound_on s t u on same sound = subst IsSound (sym (same ∙ on.1)) record { reads = sound.reads; numbered = sound.numbered; opened = sound.opened; entries = sound.entries; idle = sound.idle }

-- what was lent, and how the node stands then
pub has_lent : (lent : Option Standing) (v w : LogView) (old new : ReplicaState) (book : Book) (next : Option Next) (nodes : ℕ) (n : NodeState)
    → record { seat = v; replica = old; book = book; next = jobs_next next } ≡ n → IfSome lent (λ loan. (loan ≡ w.standing) × IsSound loan)
    → IfSome lent (λ _. (old.down ≡ false) × (new ≡ record old { lent = true })) → IfSome lent (λ _. w.standing.seen ≤ passed_of w.standing) → StandsInLog w.standing
    → w.looks ≡ v.looks ++ Tail w.standing.seen ∷ [] → IsWithin w.standing new book next nodes → old.waiting ≡ [] → jobs_next next ≡ []
    → IfSome lent (λ loan. HasLent loan n (record { seat = w; replica = new; book = book; next = jobs_next next }))
has_lent None v w old new book next nodes n is stood gave passed stands looks keeps waiting none = tt
has_lent (Some loan) v w old new book next nodes n is stood gave passed stands looks keeps waiting none =
    subst (λ (x : NodeState). HasLent loan x (record { seat = w; replica = new; book = book; next = jobs_next next })) is record {
      stood = stood.0;
      sound = stood.1;
      up = gave.0;
      waiting = waiting;
      next = none;
      loaded = looks;
      passed = passed;
      own = none_unpassed w.standing stands keeps.1 passed keeps.0.order.met;
      replica = gave.1;
    }

-- which node it is of
pub lent_by : (lent : Option Standing) (s : Standing) (node : ℕ) → IfSome lent (λ loan. (loan ≡ s) × IsSound loan) → s.node ≡ node → IfSome lent (λ loan. loan.node ≡ node)
lent_by None s node stood is = tt
lent_by (Some loan) s node stood is = ap (λ (x : Standing). x.node) stood.0 ∙ is

-- whatever came of it
pub looked_at : (v w : LogView) (old new : ReplicaState) (book : Book) (next : List Job) (n : NodeState) → record { seat = v; replica = old; book = book; next = next } ≡ n
    → LooksOn v.standing w.standing → w.looks ≡ v.looks ++ Tail w.standing.seen ∷ [] → new ≡ record old { lent = new.lent }
    → LooksAtTail n (record { seat = w; replica = new; book = book; next = next })
looked_at v w old new book next n is on looks replica =
    subst (λ (x : NodeState). LooksAtTail x (record { seat = w; replica = new; book = book; next = next })) is
    record { standing = on; looks = inr looks; replica = replica; book = refl; next = refl }

-- the items of entries
abbrev items_in : List Entry → Sequence
items_in [] = []
items_in (e ∷ es) = entry_items (items_of e.jobs.items) ++ items_in es

-- reads leave a server as it is, so it is the one after the entries alone
by_entries : (node count : ℕ) (server : Server) (history : List LogEvent) → AllByRecursion (λ (r : Job × ℕ). IsReadOf node (item_of r.0)) (ran_from count history)
    → after_all server (record_of history) ≡ after_all server (items_in (applied_of history))
by_entries node count server [] reads = refl
by_entries node count server (Applied e ∷ turns) reads =
    let items = entry_items (items_of e.jobs.items) in
    after_all-append server items (record_of turns) ∙ by_entries node (suc count) (after_all server items) turns reads ∙ sym (after_all-append server items (items_in (applied_of turns)))
by_entries node count server (Ran job ∷ turns) reads =
    ap (λ (s : Server). after_all s (record_of turns)) (server_is_redis.reads server (item_of job) reads.0.1) ∙ by_entries node count server turns reads.1
by_entries node count server (Opened worker ∷ turns) reads = by_entries node count server turns reads

none_of_none : {A : Type 0} (xs : List A) → length xs ≡ 0 → xs ≡ []
none_of_none [] e = refl
none_of_none (x ∷ xs) e = absurd (cc e)

-- of two lists one of which begins the other, which are as long
same_lists : {A : Type 0} (xs ys : List A) → length xs ≡ length ys → AreComparable xs ys → xs ≡ ys
same_lists xs ys e c =
    let b = c.0 (omega (arith, e)) in
    let long = length-append xs b.0 in
    let whole = ap length b.1 in
    let none = none_of_none b.0 (omega (arith, e, long, whole)) in
    sym (append-nil xs) ∙ ap (λ rest. xs ++ rest) (sym none) ∙ b.1

-- what a node knows that holds no entry is what it has passed
known_passed : (s : Standing) → IsSound s → known_of s ≡ applied_of s.history
known_passed s sound = ap (λ (held : Option Entry). applied_of s.history ++ option_to_list held) sound.idle ∙ append-nil (applied_of s.history)

-- Nodes of one log that have passed as many entries have the same server, whatever reads each of them ran.
pub same_server : (s t : Standing) → IsSound s → IsSound t → length (known_of s) ≡ length (known_of t) → AreComparable (known_of s) (known_of t)
    → after_all fresh (record_of s.history) ≡ after_all fresh (record_of t.history)
same_server s t sound other many comparable =
    let passed : applied_of s.history ≡ applied_of t.history = sym (known_passed s sound) ∙ same_lists (known_of s) (known_of t) many comparable ∙ known_passed t other in
    by_entries s.node 0 fresh s.history sound.reads ∙ ap (λ (es : List Entry). after_all fresh (items_in es)) passed ∙ sym (by_entries t.node 0 fresh t.history other.reads)

-- so replies that one of them prepared are those of the other
pub ready_for : (s : Standing) (prepared : Option PreparedState) (p : PreparedState) (jobs : Jobs) → prepared ≡ Some p → IsSound s
    → length (known_of s) ≡ length (known_of p.standing) → AreComparable (known_of s) (known_of p.standing) → IfSome prepared (AreReadyFor jobs)
    → AreRepliesTo (after_all fresh (record_of s.history)) jobs p.replies
ready_for s prepared p jobs is sound many comparable ready =
    let r = subst (λ (o : Option PreparedState). IfSome o (AreReadyFor jobs)) is ready in
    subst (λ (server : Server). AreRepliesTo server jobs p.replies) (sym (same_server s p.standing sound r.sound many comparable)) r.replies
