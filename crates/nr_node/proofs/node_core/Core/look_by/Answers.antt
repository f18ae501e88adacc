use Rattle.std.proofs.Common.{◌≡◌, ◌≤◌, true, false, List, [], ap, sym, ◌∙◌, refl, subst}
use Rattle.std.specs.Prelude.{is_some, IfSome}
use Rattle.std.proofs.lemmas.Bool.{not-false, not-true}
use Rattle.nr_model.specs.Entries.{read_jobs}
use Rattle.nr_entry.specs.Jobs.{items_of}
use Rattle.nr_entry.specs.declared.job.Job.{Job}
use Rattle.nr_log_end.specs.Standings.{passed_of}
use Rattle.nr_oplog.specs.declared.view.LogView.{LogView}
use Rattle.nr_replica.specs.Replicas.{ReplicaState}
use Rattle.nr_node.specs.Level.{NodeState, IsInOrder}
use Rattle.nr_node.specs.Lending.{AreReadyFor}
use Rattle.nr_node.specs.Next.{jobs_next}
use Rattle.nr_node.specs.Advanced.{HasStopped}
use Rattle.nr_node.specs.Steps.{GoesOnBy, HasRead}
use Rattle.nr_node.proofs.Lists.{none_unpassed}
use Rattle.nr_node.proofs.Orders.{is_sound}
use Rattle.nr_node.proofs.Taking.{goes_within, failed_within, noted_within, read_awaited}
use Rattle.nr_node.proofs.Caught.{caught_by, failed_by, read_on, read_got, has_read, next_has, none_of}
use Rattle.nr_node.proofs.Served.{noted_rises}
use Rattle.nr_node.proofs.Shares.{went_last, ended_last, noted_last}
use Rattle.nr_node.proofs.node_core.Core.look_by.Goals as goal

pub invariant_of-self : goal.invariant_of-self
invariant_of-self g c =
    let inside = c.self.inside in
    let went = c.catch_up-reached.ensures.goes in
    let w = goes_within went.0 inside.end.standing c.catch_up-reached.new.end.standing inside.replica c.catch_up-reached.new.replica inside.accounts c.catch_up-reached.new.accounts inside.next
    c.catch_up-reached.new.next inside.nodes went.1 c.catch_up-reached.ensures.idle (c.self.invariant.0, c.self.invariant.1, c.self.invariant.2, c.self.invariant.3, c.self.invariant.4) in
    (w.0, w.1, w.2, w.3, w.4, went_last went.0 inside.kept c.catch_up-reached.new.kept inside.end c.catch_up-reached.new.end went.1.passed c.catch_up-reached.ensures.freed c.catch_up-reached.ensures.last c.catch_up-reached.ensures.looks c.self.invariant.5)

pub invariant_of-self-then-not-reached : goal.invariant_of-self-then-not-reached
invariant_of-self-then-not-reached g c =
    let inside = c.self.inside in
    let went = c.catch_up-reached.ensures.goes in
    let w = goes_within went.0 inside.end.standing c.catch_up-reached.new.end.standing inside.replica c.catch_up-reached.new.replica inside.accounts c.catch_up-reached.new.accounts inside.next
    c.catch_up-reached.new.next inside.nodes went.1 c.catch_up-reached.ensures.idle (c.self.invariant.0, c.self.invariant.1, c.self.invariant.2, c.self.invariant.3, c.self.invariant.4) in
    (w.0, w.1, w.2, w.3, w.4, went_last went.0 inside.kept c.catch_up-reached.new.kept inside.end c.catch_up-reached.new.end went.1.passed c.catch_up-reached.ensures.freed c.catch_up-reached.ensures.last c.catch_up-reached.ensures.looks c.self.invariant.5)

pub invariant_of-self-then-is_some : goal.invariant_of-self-then-is_some
invariant_of-self-then-is_some g c =
    let inside = c.self.inside in
    let went = c.catch_up-reached.ensures.goes in
    let w = goes_within went.0 inside.end.standing c.catch_up-reached.new.end.standing inside.replica c.catch_up-reached.new.replica inside.accounts c.catch_up-reached.new.accounts inside.next
    c.catch_up-reached.new.next inside.nodes went.1 c.catch_up-reached.ensures.idle (c.self.invariant.0, c.self.invariant.1, c.self.invariant.2, c.self.invariant.3, c.self.invariant.4) in
    (w.0, w.1, w.2, w.3, w.4, went_last went.0 inside.kept c.catch_up-reached.new.kept inside.end c.catch_up-reached.new.end went.1.passed c.catch_up-reached.ensures.freed c.catch_up-reached.ensures.last c.catch_up-reached.ensures.looks c.self.invariant.5)

pub returns-then-is_down-clause-goes : goal.returns-then-is_down-clause-goes
returns-then-is_down-clause-goes g c =
    let inside = c.self.inside in
    let went = c.catch_up-reached.ensures.goes in
    let tail = c.catch_up-reached.new.end.standing.seen in
    let by = caught_by went.0 inside.end c.catch_up-reached.new.end inside.replica c.catch_up-reached.new.replica inside.accounts c.catch_up-reached.new.accounts inside.next c.catch_up-reached.new.next
    c.args.self.now c.self.view_is went.1 c.catch_up-reached.ensures.looks c.catch_up-reached.ensures.few c.self.invariant.0.order in
    let reached = c.catch_up-reached.result in (
      went.0,
      (
        [],
        (
          tail,
          by,
          λ e. absurd (cc e),
          λ _. refl,
          λ e. (c.catch_up-reached.ensures.reached (not-false reached e)).0,
          λ e. c.catch_up-reached.ensures.behind (not-true reached e),
        ),
      ),
    )

pub returns-then-is_down-clause-not_yet : goal.returns-then-is_down-clause-not_yet
returns-then-is_down-clause-not_yet g c =
    let down : c.catch_up-reached.new.replica.down ≡ true = sym c.is_down.ensures ∙ c.if-is_down.true in (λ e. absurd (cc e), λ h. absurd (cc (h.1, down)))

pub returns-then-not-reached-clause-goes : goal.returns-then-not-reached-clause-goes
returns-then-not-reached-clause-goes g c =
    let inside = c.self.inside in
    let went = c.catch_up-reached.ensures.goes in
    let tail = c.catch_up-reached.new.end.standing.seen in
    let by = caught_by went.0 inside.end c.catch_up-reached.new.end inside.replica c.catch_up-reached.new.replica inside.accounts c.catch_up-reached.new.accounts inside.next c.catch_up-reached.new.next
    c.args.self.now c.self.view_is went.1 c.catch_up-reached.ensures.looks c.catch_up-reached.ensures.few c.self.invariant.0.order in
    (went.0, ([], (tail, by, λ e. absurd (cc e), λ _. refl, λ e. absurd (cc e), λ _. c.catch_up-reached.ensures.behind c.if-not-reached.true)))

pub returns-then-is_some-clause-goes : goal.returns-then-is_some-clause-goes
returns-then-is_some-clause-goes g c =
    let inside = c.self.inside in
    let went = c.catch_up-reached.ensures.goes in
    let tail = c.catch_up-reached.new.end.standing.seen in
    let by = caught_by went.0 inside.end c.catch_up-reached.new.end inside.replica c.catch_up-reached.new.replica inside.accounts c.catch_up-reached.new.accounts inside.next c.catch_up-reached.new.next
    c.args.self.now c.self.view_is went.1 c.catch_up-reached.ensures.looks c.catch_up-reached.ensures.few c.self.invariant.0.order in
    (went.0, ([], (tail, by, λ e. absurd (cc e), λ _. refl, λ _. (c.catch_up-reached.ensures.reached c.if-not-reached.false).0, λ e. absurd (cc e))))

pub returns-then-is_some-clause-again : goal.returns-then-is_some-clause-again
returns-then-is_some-clause-again g c = λ _ none.
    let keeps = c.self.invariant in
    let inside = c.self.inside in
    let went = c.catch_up-reached.ensures.goes in
    let up : c.catch_up-reached.new.replica.down ≡ false = sym c.is_down.ensures ∙ c.if-is_down.false in
    let there : is_some inside.next ≡ true = ap is_some (sym (went.1.up up).1) ∙ sym c.is_some.ensures ∙ c.if-is_some.true in
    next_has inside.next inside.end.standing.node inside.nodes keeps.0.next_is keeps.4 there (ap (λ (n : NodeState). n.next) c.self.view_is ∙ none)

pub read-requires-clause-rising : goal.read-requires-clause-rising
read-requires-clause-rising g c =
    let went = c.catch_up-reached.ensures.goes in
    let t = c.catch_up-reached.new.end.standing in
    let new = c.catch_up-reached.new.replica in
    let book = c.catch_up-reached.new.accounts in
    let next = c.catch_up-reached.new.next in
    let all = c.catch_up-reached.ensures.reached c.if-not-reached.false in
    let order = went.1.order c.self.invariant.0.order in
    let none = none_unpassed t all.1 c.catch_up-reached.ensures.idle all.0 order.met in
    let still = ap jobs_next (none_of next (sym c.is_some.ensures ∙ c.if-is_some.false)) in
    noted_rises t new book none (subst (IsInOrder t new book) still order)

pub read-requires-clause-server : goal.read-requires-clause-server
read-requires-clause-server g c =
    let up : c.catch_up-reached.new.replica.down ≡ false = sym c.is_down.ensures ∙ c.if-is_down.false in
    (c.catch_up-reached.ensures.goes.1.level c.self.invariant.0.level).server up

pub read-requires-clause-sound : goal.read-requires-clause-sound
read-requires-clause-sound g c =
    let went = c.catch_up-reached.ensures.goes in
    let keeps = c.self.invariant in
    let t = c.catch_up-reached.new.end.standing in
    is_sound t t c.catch_up-reached.new.replica c.catch_up-reached.new.accounts (jobs_next c.catch_up-reached.new.next) refl c.catch_up-reached.ensures.idle
    (went.1.level keeps.0.level).opened (went.1.order keeps.0.order)

pub read-requires-clause-ready : goal.read-requires-clause-ready
read-requires-clause-ready g c =
    let up : c.catch_up-reached.new.replica.down ≡ false = sym c.is_down.ensures ∙ c.if-is_down.false in
    let waits = (c.catch_up-reached.ensures.goes.1.up up).2 in
    subst (λ (jobs : List Job). IfSome c.args.prepared (AreReadyFor (read_jobs (items_of jobs))))
    (ap (λ (n : NodeState). n.replica.waiting) (sym c.self.view_is) ∙ sym waits) c.requires.ready

pub invariant_of-self-in-Err : goal.invariant_of-self-in-Err
invariant_of-self-in-Err g c =
    let inside = c.self.inside in
    let went = c.catch_up-reached.ensures.goes in
    let w = failed_within went.0 inside.end.standing c.catch_up-reached.new.end c.read.new.end inside.replica c.catch_up-reached.new.replica c.read.new.replica inside.accounts c.catch_up-reached.new.accounts inside.next
    c.catch_up-reached.new.next inside.nodes went.1 c.catch_up-reached.ensures.idle c.in-Err.ensures.end c.in-Err.ensures.replica (c.self.invariant.0, c.self.invariant.1, c.self.invariant.2, c.self.invariant.3, c.self.invariant.4) in
    (w.0, w.1, w.2, w.3, w.4, ended_last c.catch_up-reached.new.kept c.catch_up-reached.new.end c.read.new.end c.in-Err.ensures.end (went_last went.0 inside.kept c.catch_up-reached.new.kept inside.end c.catch_up-reached.new.end went.1.passed c.catch_up-reached.ensures.freed c.catch_up-reached.ensures.last c.catch_up-reached.ensures.looks c.self.invariant.5))

pub returns-in-Err-clause-goes : goal.returns-in-Err-clause-goes
returns-in-Err-clause-goes g c =
    let inside = c.self.inside in
    let went = c.catch_up-reached.ensures.goes in
    let tail = c.catch_up-reached.new.end.standing.seen in
    let by = caught_by went.0 inside.end c.catch_up-reached.new.end inside.replica c.catch_up-reached.new.replica inside.accounts c.catch_up-reached.new.accounts inside.next c.catch_up-reached.new.next
    c.args.self.now c.self.view_is went.1 c.catch_up-reached.ensures.looks c.catch_up-reached.ensures.few c.self.invariant.0.order in
    let failed = failed_by went.0 tail c.args.self.now c.catch_up-reached.new.end c.read.new.end c.catch_up-reached.new.replica c.read.new.replica c.catch_up-reached.new.accounts
    (jobs_next c.catch_up-reached.new.next) c.in-Err.ensures.end c.in-Err.ensures.replica by in
    let reached = (c.catch_up-reached.ensures.reached c.if-not-reached.false).0 in (
      went.0,
      (
        [],
        (
          tail,
          failed,
          λ e. absurd (cc e),
          λ _. refl,
          λ _. subst (λ (x : LogView). tail ≤ passed_of x.standing) (sym c.in-Err.ensures.end) reached,
          λ e. absurd (cc e),
        ),
      ),
    )

pub invariant_of-self-2 : goal.invariant_of-self-2
invariant_of-self-2 g c =
    let inside = c.self.inside in
    let went = c.catch_up-reached.ensures.goes in
    let next = c.catch_up-reached.new.next in
    let up : c.catch_up-reached.new.replica.down ≡ false = sym c.is_down.ensures ∙ c.if-is_down.false in
    let w = noted_within went.0 inside.end.standing c.catch_up-reached.new.end.standing c.read.new.end.standing c.in-Ok.ran.items inside.replica c.catch_up-reached.new.replica
    c.read.new.replica inside.accounts c.catch_up-reached.new.accounts inside.next next inside.nodes went.1 c.catch_up-reached.ensures.idle (c.catch_up-reached.ensures.reached c.if-not-reached.false)
    c.in-Ok.ensures.noted c.in-Ok.ensures.read c.in-Ok.ensures.ran up (none_of next (sym c.is_some.ensures ∙ c.if-is_some.false)) (c.self.invariant.0, c.self.invariant.1, c.self.invariant.2, c.self.invariant.3, c.self.invariant.4) in
    (w.0, w.1, w.2, w.3, w.4, noted_last c.catch_up-reached.new.kept c.in-Ok.ran.items c.catch_up-reached.new.end c.read.new.end c.in-Ok.ensures.noted c.in-Ok.ensures.looks (went_last went.0 inside.kept c.catch_up-reached.new.kept inside.end c.catch_up-reached.new.end went.1.passed c.catch_up-reached.ensures.freed c.catch_up-reached.ensures.last c.catch_up-reached.ensures.looks c.self.invariant.5))

pub returns-clause-goes : goal.returns-clause-goes
returns-clause-goes g c =
    let inside = c.self.inside in
    let went = c.catch_up-reached.ensures.goes in
    let t = c.catch_up-reached.new.end.standing in
    let next = c.catch_up-reached.new.next in
    let ran = c.in-Ok.ran.items in
    let v : NodeState = record { seat = inside.end; replica = inside.replica; book = inside.accounts; next = jobs_next inside.next } in
    let m : NodeState = record { seat = c.read.new.end; replica = c.read.new.replica; book = c.catch_up-reached.new.accounts; next = jobs_next next } in
    let up : c.catch_up-reached.new.replica.down ≡ false = sym c.is_down.ensures ∙ c.if-is_down.false in
    let all = c.catch_up-reached.ensures.reached c.if-not-reached.false in
    let same = went.1.up up in
    let none = none_unpassed t all.1 c.catch_up-reached.ensures.idle all.0 (went.1.order c.self.invariant.0.order).met in
    let still = ap jobs_next (none_of next (sym c.is_some.ensures ∙ c.if-is_some.false)) in
    let looks = c.in-Ok.ensures.looks in
    let by = read_on v m t went.0 ran c.catch_up-reached.new.end.looks looks.0 went.1.passed went.1.own c.self.invariant.0.order.book_is c.in-Ok.ensures.noted c.catch_up-reached.ensures.looks looks.2
    (went.1.closed c.self.invariant.0.order) (went.1.ended (up ∙ sym same.0))
    (read_awaited c.catch_up-reached.new.replica c.read.new.replica c.in-Ok.ensures.read ∙ went.1.owed)
    (read_got inside.replica c.catch_up-reached.new.replica c.read.new.replica went.1.got c.in-Ok.ensures.read)
    (λ _. ap (λ (r : ReplicaState). r.refused) c.in-Ok.ensures.read.state ∙ went.1.refused up) (went.1.up up).0 (ap (λ (r : ReplicaState). r.down) c.in-Ok.ensures.read.state ∙ up)
    c.catch_up-reached.ensures.few in
    let read = has_read v m t c.catch_up-reached.new.replica ran c.in-Ok.ensures.noted c.in-Ok.ensures.read up (all.0, none) c.in-Ok.ensures.ran same.2
    (ap jobs_next (sym same.1) ∙ still) still in (
      went.0,
      (
        ran,
        (
          t.seen,
          subst (λ (n : NodeState). GoesOnBy went.0 ran t.seen n m) c.self.view_is by,
          λ _. subst (λ (n : NodeState). HasRead ran t.seen n m) c.self.view_is read,
          λ undone. absurd (undone refl),
          λ _. read.passed,
          λ e. absurd (cc e),
        ),
      ),
    )

pub returns-then-is_down-clause-stopped : goal.returns-then-is_down-clause-stopped
returns-then-is_down-clause-stopped g c = λ e.
    subst (λ (n : NodeState). HasStopped n.seat.looks c.catch_up-reached.new.end c.catch_up-reached.new.replica) c.self.view_is
    (c.catch_up-reached.ensures.stopped (not-true c.catch_up-reached.result e))

pub returns-then-not-reached-clause-stopped : goal.returns-then-not-reached-clause-stopped
returns-then-not-reached-clause-stopped g c = λ _.
    subst (λ (n : NodeState). HasStopped n.seat.looks c.catch_up-reached.new.end c.catch_up-reached.new.replica) c.self.view_is
    (c.catch_up-reached.ensures.stopped c.if-not-reached.true)
