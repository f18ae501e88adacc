-- Workers whose marks are of one log are answered by one sequence.
use Rattle.std.proofs.Common.{◌≡◌, ℕ, ◌≤◌, List, [], ◌∷◌, ◌++◌, length, Contains, Option, Some, None, refl, ap, sym, ◌∙◌, subst, arith}
use Rattle.std.specs.Prelude.{IfSome, option_to_list}
use Rattle.std.specs.List.{AllByRecursion, range_with_len}
use Rattle.nr_model.specs.Bytes.{IsBeginningOf}
use Rattle.nr_model.specs.Items.{Connection, Item, Sequence, same_connection}
use Rattle.nr_model.specs.Sequential.{emitted_for}
use Rattle.nr_model.specs.Asked.{own_jobs}
use Rattle.nr_model.specs.Nodes.{Taken, log_of, part_from}
use Rattle.nr_model.proofs.NodesExecutedGrows.{begins_flat_map}
use Rattle.nr_model.proofs.NodesPartsEmitted.{begins_on, more_emits, none_begins}
use Rattle.nr_log_end.specs.Numbers.{AreRising}
use Rattle.nr_log_end.specs.declared.standing.Standing.{Standing}
use Rattle.nr_log_end.specs.declared.standing.LogEvent.{LogEvent}
use Rattle.nr_log_end.specs.Standings.{items_of_turn, record_of}
use Rattle.nr_job_numbers.specs.Stored.{numbers_in}
use Rattle.nr_node.specs.Level.{IsCount, connection_at}
use Rattle.nr_node.specs.Sound.{IsSound}
use Rattle.nr_node.proofs.Lists.{counts_front, numbers-append}
use Rattle.nr_combiner.specs.Served.{ComesFrom}
use Rattle.nr_taps.specs.Sequence.{AreRun, IsExplainedBy, sequence_of}
use Rattle.nr_taps.proofs.Explains.{begins_filter, one_sequence, own_in_part}
use Rattle.nr_taps.specs.Sequence.{AreAllOfOneLog}
use Rattle.nr_worker.specs.Worker.{asked_of, ArePosted, WorkerState, IsLed, IsPosted, IsServedAt, Served, history_of}
use Rattle.nr_worker.specs.Law.{AreAnsweredBeside, IsAnswered, IsPartOf, marks_of}
use Rattle.nr_worker.proofs.Apart.{serve_apart, split}
use Rattle.nr_worker.proofs.Lists.{no_front, all_own, all_weaker, are_asked, posted_at}

-- each item of a connection in a record comes from what the connection asked for
comes_from : (d : WorkerState) (x : Served) (job : Item) (k : IsServedAt d x) → job.connection ≡ x.connection → IsPosted k.before job → ComesFrom job (asked_of x)
comes_from d x job k own p = record {
  item = p.has.item;
  there = posted_at (λ (j : Item). j.connection ≡ x.connection → Contains (asked_of x) j) k.before p.batch p.has.item k.posted p.there p.has.there
      (p.has.connection ∙ own);
  connection = p.has.connection;
  number = p.has.number;
  deed = p.has.deed;
  moment = p.has.moment;
  read = p.has.read;
}

-- the numbers of the first items count up
front_counts : (c : Connection) (front whole : Sequence) → IsBeginningOf front whole → IsCount (numbers_in c whole) → IsCount (numbers_in c front)
front_counts c front whole b counts =
    let is : numbers_in c front ++ numbers_in c b.0 ≡ numbers_in c whole = sym (numbers-append c front b.0) ∙ ap (numbers_in c) b.1 in
    counts_front (numbers_in c front) (numbers_in c b.0) (is ∙ counts ∙ ap (λ (ns : List ℕ). range_with_len 0 (length ns)) (sym is))

-- the numbers of each connection rise along what was taken
abbrev AreNumbered : List Taken → Type 0
AreNumbered taken = (node : ℕ) → AreRising node (sequence_of taken)

-- by a mark
answered_by : (taken : List Taken) (d : WorkerState) (x : Served) (s : Standing) (history : List LogEvent) → AreRun taken → AreNumbered taken
    → IsExplainedBy taken s → IsSound s → s.node ≡ d.node → (k : IsServedAt d x) → IsBeginningOf history s.history
    → IsBeginningOf x.handed (emitted_for x.connection (record_of history))
    → ArePosted k.before x.connection (record_of history) → IsAnswered taken x
answered_by taken d x s history run rising explained sound node k kept begins jobs =
    let c = x.connection in
    let done = record_of history in
    let whole = record_of s.history in
    let applied = length (log_of taken) in
    let none : applied ≤ applied = omega arith in
    let front : IsBeginningOf done whole = begins_flat_map items_of_turn history s.history kept in
    let here : s.node ≡ c.node = node ∙ sym k.node in
    let same : connection_at s.node c.serial ≡ c = λ i. record { node = here i; serial = c.serial } in
    let part : IsBeginningOf done (part_from c.node applied taken) =
    begins_on done whole (part_from c.node applied taken) front (subst (λ (n : ℕ). IsBeginningOf whole (part_from n applied taken)) here explained.part) in
    let counts = front_counts c done whole front (subst (λ (b : Connection). IsCount (numbers_in b whole)) same (sound.numbered c.serial)) in
    let own = λ (j : Item). same_connection j.connection c in
    record {
      begins = begins_on x.handed (emitted_for c done) (emitted_for c (sequence_of taken)) begins
          (begins_on (emitted_for c done) (emitted_for c whole) (emitted_for c (sequence_of taken)) (Rattle.nr_taps.proofs.Explains.begins_emitted c done whole front)
          (subst (λ (b : Connection). IsBeginningOf (emitted_for b whole) (emitted_for b (sequence_of taken))) same (explained.emitted c.serial)));
      done = done;
      part = part;
      emitted = begins;
      rising = rising c.node c.serial;
      first = subst (IsBeginningOf (own_jobs c done)) (own_in_part c applied taken run none) (begins_filter own done (part_from c.node applied taken) part);
      asked = are_asked 0 (length (numbers_in c done)) (own_jobs c done) (asked_of x) counts k.counted
          (all_own (λ (job : Item). ComesFrom job (asked_of x)) c done
          (all_weaker (λ (job : Item). job.connection ≡ c → IsPosted k.before job) (λ (job : Item). job.connection ≡ c → ComesFrom job (asked_of x))
          (λ job p is. comes_from d x job k is (p is)) done jobs));
    }

-- where there is none, nothing was handed out
answered_not : (taken : List Taken) (x : Served) (history : List LogEvent) → AreNumbered taken → history ≡ []
    → IsBeginningOf x.handed (emitted_for x.connection (record_of history)) → IsAnswered taken x
answered_not taken x history rising none begins =
    let c = x.connection in
    let at : IsBeginningOf x.handed (emitted_for c []) = subst (λ (h : List LogEvent). IsBeginningOf x.handed (emitted_for c (record_of h))) none begins in
    record {
      begins = begins_on x.handed (emitted_for c []) (emitted_for c (sequence_of taken)) at (more_emits c [] (sequence_of taken));
      done = [];
      part = none_begins (part_from c.node (length (log_of taken)) taken);
      emitted = at;
      rising = rising c.node c.serial;
      first = none_begins (own_jobs c (sequence_of taken));
      asked = tt;
    }

answered_at : (taken : List Taken) (d : WorkerState) (x : Served) (mark : Option Standing) → AreRun taken → AreNumbered taken → IfSome mark (IsExplainedBy taken)
    → IfSome mark (λ (s : Standing). IsSound s × (s.node ≡ d.node)) → d.mark ≡ mark → IsServedAt d x → IsAnswered taken x
answered_at taken d x None run rising explained sound is k =
    let kept = subst (λ (m : Option Standing). IsBeginningOf k.handed.history (history_of m)) is k.handed.kept in
    answered_not taken x k.handed.history rising (no_front k.handed.history kept.0 kept.1) k.handed.begins
answered_at taken d x (Some s) run rising explained sound is k =
    answered_by taken d x s k.handed.history run rising explained sound.0 sound.1 k
    (subst (λ (m : Option Standing). IsBeginningOf k.handed.history (history_of m)) is k.handed.kept) k.handed.begins k.handed.jobs

-- all of them
joined : (P Q : Standing → Type 0) → ((s : Standing) → Q s → P s) → (o : Option Standing) (more : List Standing) → IfSome o Q → AllByRecursion P more
    → AllByRecursion P (option_to_list o ++ more)
joined P Q f None more here all = all
joined P Q f (Some s) more here all = (f s here, all)

sound_all : (desks : List WorkerState) → AllByRecursion IsLed desks → AllByRecursion IsSound (marks_of desks)
sound_all [] all = tt
sound_all (d ∷ desks) all =
    joined IsSound (λ (s : Standing). IsSound s × (s.node ≡ d.node)) (λ s h. h.0) d.mark (marks_of desks) all.0.sound (sound_all desks all.1)

each_answered : (taken : List Taken) (desks : List WorkerState) → AreRun taken → AreNumbered taken → AllByRecursion IsLed desks
    → AllByRecursion (IsExplainedBy taken) (marks_of desks)
    → AllByRecursion (λ (d : WorkerState). AllByRecursion (IsAnswered taken) d.served) desks
each_answered taken [] run rising all explained = tt
each_answered taken (d ∷ desks) run rising all explained =
    let both = split (IsExplainedBy taken) d.mark (marks_of desks) explained in (
      all_weaker (IsServedAt d) (IsAnswered taken) (λ x k. answered_at taken d x d.mark run rising both.0 all.0.sound refl k) d.served all.0.each,
      each_answered taken desks run rising all.1 both.1,
    )

-- each mark's record is the first of its node's part
part_at : (taken : List Taken) (d : WorkerState) (mark : Option Standing) → d.mark ≡ mark → IfSome mark (IsExplainedBy taken)
    → IfSome mark (λ (s : Standing). IsSound s × (s.node ≡ d.node)) → IsPartOf taken d
part_at taken d None is explained sound =
    subst (λ (m : Option Standing). IsBeginningOf (record_of (history_of m)) (part_from d.node (length (log_of taken)) taken)) (sym is)
    (none_begins (part_from d.node (length (log_of taken)) taken))
part_at taken d (Some s) is explained sound =
    subst (λ (m : Option Standing). IsBeginningOf (record_of (history_of m)) (part_from d.node (length (log_of taken)) taken)) (sym is)
    (subst (λ (n : ℕ). IsBeginningOf (record_of s.history) (part_from n (length (log_of taken)) taken)) sound.1 explained.part)

each_part : (taken : List Taken) (desks : List WorkerState) → AllByRecursion IsLed desks → AllByRecursion (IsExplainedBy taken) (marks_of desks)
    → AllByRecursion (IsPartOf taken) desks
each_part taken [] all explained = tt
each_part taken (d ∷ desks) all explained =
    let both = split (IsExplainedBy taken) d.mark (marks_of desks) explained in
    (part_at taken d d.mark refl both.0 all.0.sound, each_part taken desks all.1 both.1)

both_sound : (ends more : List Standing) → AllByRecursion IsSound ends → AllByRecursion IsSound more → AllByRecursion IsSound (ends ++ more)
both_sound [] more sound others = others
both_sound (s ∷ ends) more sound others = (sound.0, both_sound ends more sound.1 others)

parted : (P : Standing → Type 0) (ends more : List Standing) → AllByRecursion P (ends ++ more) → AllByRecursion P ends × AllByRecursion P more
parted P [] more all = (tt, all)
parted P (s ∷ ends) more all =
    let rest = parted P ends more all.1 in
    ((all.0, rest.0), rest.1)

back_of_log : (ends more : List Standing) → AreAllOfOneLog (ends ++ more) → AreAllOfOneLog more
back_of_log [] more all = all
back_of_log (s ∷ ends) more all = back_of_log ends more all.1

pub are_answered : (ends : List Standing) (desks : List WorkerState) → AllByRecursion IsSound ends → AllByRecursion IsLed desks
    → AreAllOfOneLog (ends ++ marks_of desks) → AreAnsweredBeside ends desks
are_answered ends desks sound all one_log =
    let one = one_sequence (ends ++ marks_of desks) (both_sound ends (marks_of desks) sound (sound_all desks all)) one_log in
    let both = parted (IsExplainedBy one.0) ends (marks_of desks) one.2 in
    record {
      taken = one.0;
      run = one.1;
      each = each_answered one.0 desks one.1 one.5 all both.1;
      parts = each_part one.0 desks all both.1;
      apart = serve_apart desks all (back_of_log ends (marks_of desks) one_log);
      explained = both.0;
      log = one.3;
      reads = one.4;
    }
