-- How far a node went on in a call.
use Rattle.std.proofs.Common.{◌≡◌, ℕ, ◌<◌, ◌≤◌, ◌+◌, ◌-◌, inl, inr, true, false, ltb, List, [], ◌∷◌, ◌++◌, length, map, refl, ap, sym, ◌∙◌, subst, append_assoc, arith}
use Rattle.std.specs.Prelude.{◌⊎◌, Option, Some, None, is_some}
use Rattle.std.proofs.lemmas.Bool.{ltb-true, ltb-false}
use Rattle.std.proofs.lemmas.List.{append-nil}
use Rattle.nr_model.specs.Bytes.{IsBeginningOf}
use Rattle.nr_model.specs.Servers.{emitted_all}
use Rattle.nr_model.specs.Nodes.Steps.{texts_for}
use Rattle.nr_model.specs.Entries.{read_jobs, left_by_reads}
use Rattle.nr_entry.specs.Jobs.{items_of}
use Rattle.nr_entry.specs.Shares.{entry_of}
use Rattle.nr_entry.specs.declared.entry.Entry.{Entry}
use Rattle.nr_entry.specs.declared.job.Job.{Job}
use Rattle.nr_log_end.specs.declared.standing.Standing.{Standing}
use Rattle.nr_log_end.specs.declared.standing.Load.{Load}
use Rattle.nr_log_end.specs.declared.standing.Load.TheVariants.{Tail}
use Rattle.nr_log_end.specs.declared.standing.LogEvent.TheVariants.{Applied, Ran}
use Rattle.nr_log_end.specs.Standings.{LooksOn, passed_of, record_of}
use Rattle.nr_job_numbers.specs.Book.{Book, without_ended}
use Rattle.nr_oplog.specs.declared.view.LogView.{LogView}
use Rattle.nr_replica.specs.Replicas.{ReplicaState}
use Rattle.nr_replica.specs.Replicas as of_replica
use Rattle.nr_node.specs.declared.next.Next.{Next}
use Rattle.nr_node.specs.declared.next.Next.TheVariants as forms
use Rattle.nr_node.specs.Level.{NodeState, IsInOrder, unpassed, jobs_reserved}
use Rattle.nr_node.specs.Next.{jobs_shared, jobs_next, IsNextOf}
use Rattle.nr_node.specs.Owing.{awaited}
use Rattle.nr_node.specs.Advanced.{HasPassed, HasNoted, HaveGot, GoesOn, HasClosed, jobs_of_own, jobs_of_all}
use Rattle.nr_node.specs.Steps.{GoesOnBy, HasRead}
use Rattle.nr_node.proofs.Lists.{record-append}
use Rattle.nr_node.proofs.Closing.{still_closed, closed_then}
use Rattle.nr_node.proofs.Advances.{few_entries, goes_tail, same_passed}
use Rattle.nr_node.proofs.Got.{got_on, got_received}
use Rattle.nr_node.proofs.Levels.{applied_noted}
use Rattle.nr_node.proofs.Served.{still_unpassed, unpassed_noted}
use Rattle.nr_node.proofs.Taking.{shared_jobs}

next_after : (next after : Option Next) → (after ≡ None) ⊎ (after ≡ next) → (jobs_next after ≡ []) ⊎ (jobs_next after ≡ jobs_next next)
next_after next after is = elim is [ inl none ↦ inl (ap jobs_next none) | inr same ↦ inr (ap jobs_next same) ]

-- reads give their connections bytes
pub read_got : (old mid new : ReplicaState) → HaveGot old.members mid.members → of_replica.HasRead mid new → HaveGot old.members new.members
read_got old mid new got read =
    got_on old.members mid.members new.members got
    (got_received (λ c. texts_for c (emitted_all mid.server (read_jobs (items_of mid.waiting)))) mid.members new.members read.delivered)

-- by entries alone
pub caught_by : (es : List Entry) (end last : LogView) (old new : ReplicaState) (book later : Book) (next after : Option Next) (n : NodeState)
    → record { seat = end; replica = old; book = book; next = jobs_next next } ≡ n → GoesOn es end.standing last.standing old new next after book later
    → ((later : List Load) × (last.looks ≡ end.looks ++ (Tail last.standing.seen ∷ later)))
    → passed_of last.standing ≤ (passed_of end.standing + (last.standing.seen - passed_of end.standing)) + 1 → IsInOrder end.standing old book (jobs_next next)
    → GoesOnBy es [] last.standing.seen n (record { seat = last; replica = new; book = later; next = jobs_next after })
caught_by es end last old new book later next after n is g looks few order =
    let m : NodeState = record { seat = last; replica = new; book = later; next = jobs_next after } in
    subst (λ (x : NodeState). GoesOnBy es [] last.standing.seen x m) is record {
      standing = g.passed.standing ∙ (λ i. record end.standing { history = end.standing.history ++ sym (append-nil (map Applied es)) i; seen = last.standing.seen });
      own = g.own ∙ ap (λ (k : ℕ). jobs_of_own k es ++ jobs_reserved (unpassed last.standing)) (sym order.book_is);
      loaded = looks;
      from = g.passed.seen;
      closed = g.closed order;
      ended = g.ended;
      lost = g.lost;
      owed = g.owed;
      got = g.got;
      refused = g.refused;
      up = λ up. (g.up up).0;
      few = few_entries es end.standing last.standing g.passed few;
      fell = λ up down. let by = g.fell up down in (by.0, by.1, ap jobs_next by.2, by.3);
      cause = g.cause;
      still = g.still;
      dropped = λ _. next_after next after g.after_is;
    }

-- by none, where it stands by
pub stood_by : (end last : LogView) (replica : ReplicaState) (book : Book) (next : Option Next) (tail : ℕ) (n : NodeState)
    → record { seat = end; replica = replica; book = book; next = jobs_next next } ≡ n → LooksOn end.standing last.standing → tail ≡ last.standing.seen
    → last.looks ≡ end.looks ++ Tail tail ∷ [] → IsInOrder end.standing replica book (jobs_next next)
    → GoesOnBy [] [] last.standing.seen n (record { seat = last; replica = replica; book = book; next = jobs_next next })
stood_by end last replica book next tail n is on at looks order =
    let same = same_passed end.standing last.standing on in
    caught_by [] end last replica replica book book next next n is (goes_tail end.standing last.standing replica next book on)
    ([], looks ∙ ap (λ (k : ℕ). end.looks ++ Tail k ∷ []) at) (omega (arith, same)) order

pub tail_told : (passed tail : ℕ) (s : Standing) → passed ≡ passed_of s → tail ≡ s.seen
    → (ltb passed tail ≡ false → s.seen ≤ passed_of s) × (ltb passed tail ≡ true → passed_of s < s.seen)
tail_told passed tail s is at = (
  λ e. let most = ltb-false passed tail e in omega (arith, is, at, most),
  λ e. let less = ltb-true passed tail e in omega (arith, is, at, less),
)

-- reads couldn't be run, and nothing changed by them
pub failed_by : (es : List Entry) (tail : ℕ) (n : NodeState) (end last : LogView) (old new : ReplicaState) (book : Book) (next : List Job) → last ≡ end → new ≡ old
    → GoesOnBy es [] tail n (record { seat = end; replica = old; book = book; next = next })
    → GoesOnBy es [] tail n (record { seat = last; replica = new; book = book; next = next })
failed_by es tail n end last old new book next same still by =
    subst (λ (x : LogView). GoesOnBy es [] tail n (record { seat = x; replica = new; book = book; next = next })) (sym same)
    (subst (λ (r : ReplicaState). GoesOnBy es [] tail n (record { seat = end; replica = r; book = book; next = next })) (sym still) by)

noted_more : (t u : Standing) (ran : List Job) → HasNoted ran t u → IsBeginningOf (record_of t.history) (record_of u.history)
noted_more t u ran noted =
    (record_of (map Ran ran), sym (record-append t.history (map Ran ran)) ∙ ap (λ (x : Standing). record_of x.history) (sym noted.standing))

-- by entries, and reads behind them
pub read_on : (n m : NodeState) (t : Standing) (es : List Entry) (ran : List Job) (looks more : List Load) → HasPassed es n.seat.standing t
    → jobs_reserved (unpassed n.seat.standing) ≡ jobs_of_own n.seat.standing.node es ++ jobs_reserved (unpassed t) → n.book.node ≡ n.seat.standing.node → HasNoted ran t m.seat.standing
    → ((later : List Load) × (looks ≡ n.seat.looks ++ (Tail t.seen ∷ later))) → m.seat.looks ≡ looks ++ more → HasClosed (record_of t.history) n.book m.book
    → m.book ≡ without_ended (jobs_of_all es) n.book → awaited m.replica.owed ≡ awaited n.replica.owed
    → HaveGot n.replica.members m.replica.members → (m.replica.down ≡ false → m.replica.refused ≡ n.replica.refused) → n.replica.down ≡ false → m.replica.down ≡ false
    → passed_of t ≤ (passed_of n.seat.standing + (t.seen - passed_of n.seat.standing)) + 1 → GoesOnBy es ran t.seen n m
read_on n m t es ran looks more passed own same noted first last closed ended owed got refused was up few = record {
  standing = noted.standing ∙ ap (λ (s : Standing). record s { history = s.history ++ map Ran ran; seen = m.seat.standing.seen }) passed.standing
      ∙ (λ i. record n.seat.standing { history = append_assoc n.seat.standing.history (map Applied es) (map Ran ran) i; seen = m.seat.standing.seen });
  own = own ∙ (λ i. jobs_of_own (sym same i) es ++ jobs_reserved (sym (still_unpassed t m.seat.standing ran noted) i));
  loaded = (first.0 ++ more, last ∙ ap (λ (ls : List Load). ls ++ more) first.1 ∙ append_assoc n.seat.looks (Tail t.seen ∷ first.0) more);
  closed = closed_then (record_of t.history) (record_of m.seat.standing.history) n.book m.book m.book (noted_more t m.seat.standing ran noted) closed
      (still_closed (record_of m.seat.standing.history) m.book);
  ended = λ _. ended;
  lost = λ _ fell. absurd (cc (up, fell));
  owed = owed;
  got = got;
  refused = refused;
  from = passed.seen;
  up = λ _. was;
  few = few_entries es n.seat.standing t passed few;
  fell = λ _ fell. absurd (cc (up, fell));
  cause = λ _ fell. absurd (cc (up, fell));
  still = λ down. absurd (cc (was, down));
  dropped = λ down. absurd (cc (was, down));
}

-- all entries that there were are passed, and the reads that led were run
pub has_read : (n m : NodeState) (t : Standing) (r : ReplicaState) (ran : List Job) → HasNoted ran t m.seat.standing → of_replica.HasRead r m.replica → r.down ≡ false
    → (t.seen ≤ passed_of t) × (unpassed t ≡ []) → items_of ran ≡ read_jobs (items_of r.waiting) → r.waiting ≡ n.replica.waiting → n.next ≡ [] → m.next ≡ [] → HasRead ran t.seen n m
has_read n m t r ran noted read up passed ran_is waits none still =
    let same : passed_of m.seat.standing ≡ passed_of t = ap (λ (s : Standing). passed_of s) noted.standing ∙ ap length (applied_noted t.history ran) in
    let behind : t.seen ≤ passed_of m.seat.standing = omega (arith, same, passed.0) in
    record {
      up = ap (λ (x : ReplicaState). x.down) read.state ∙ up;
      passed = behind;
      own = ap jobs_reserved (unpassed_noted t m.seat.standing ran noted passed.1);
      ran_is = ran_is ∙ ap (λ (js : List Job). read_jobs (items_of js)) waits;
      left = read.left ∙ ap (λ (js : List Job). left_by_reads (items_of js)) waits;
      next = (none, still);
    }

-- a node that has a next entry has jobs in it
pub next_has : (next : Option Next) (node nodes : ℕ) → IsNextOf node nodes next → 0 < nodes → is_some next ≡ true → jobs_next next ≡ [] → ⊥
next_has None node nodes q some is none = absurd (cc is)
next_has (Some (forms.Unshared left)) node nodes q some is none =
    let long = (entry_of left).some in
    let short = ap length none in
    absurd (omega (arith, long, short))
next_has (Some (forms.Shared shares)) node nodes q some is none =
    let long = q.0.some in
    let short : length q.0.jobs.items ≡ 0 = ap length (sym (ap jobs_shared q.1 ∙ shared_jobs q.0 nodes some) ∙ none) in
    absurd (omega (arith, long, short))

pub none_of : {A : Type 0} (o : Option A) → is_some o ≡ false → o ≡ None
none_of None e = refl
none_of (Some x) e = absurd (cc e)
