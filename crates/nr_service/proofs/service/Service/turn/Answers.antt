-- Its parts are steps behind one another.
use Rattle.std.proofs.Common.{inl, inr, refl, rules}
use Rattle.nr_service.proofs.Arrived.{arrives_still}
use Rattle.nr_service.proofs.Broken.{at_once, ends_by, ends_by_memory}
use Rattle.nr_service.proofs.Sending.{first_rests, looked}
use Rattle.nr_service.proofs.Turns.{took, turned}
use Rattle.nr_service.proofs.service.Service.turn.Goals as goal

pub returns-clause-turned : goal.returns-clause-turned
returns-clause-turned g c =
    let exchanged = c.in_ok-exchange_listed.ensures in
    let gone = c.in_ok-let_go_listed.ensures in
    took _ _ _ _ _ _ _ _ _ _ _ _ _ _ _ _ _ _ _ _ _ _ _ c.args.self.now _ c.in_ok-accept_each.ensures.ok
    (arrives_still _ _ _ _ _ _ _ _ _ _ _ _ _ _ exchanged.accepted exchanged.device c.in_ok-accept_each.ensures.arrives) c.in_ok-accept_each.ensures.heard exchanged.reads
    exchanged.ok exchanged.same exchanged.heard gone.gone (record { node_is = exchanged.node; worker_is = exchanged.worker; limit_is = exchanged.limit; timeout_is = exchanged.timeout }) c.wait.ensures.parted
    (at_once _ _ _ c.is_busy.ensures)
    (looked _ _ _ _ _ _ _ _ _ _ _ _ _ _ _ exchanged.looks refl (first_rests _ _) gone.calm exchanged.sent gone.go_on) c.wait.ensures.waited
    c.if-not-wait.false

pub returns-clause-ok : goal.returns-clause-ok
returns-clause-ok g c = turned _ _ _ _ _ _ _ _ _ _ _ _ _ _ _ c.args.self.now _ (returns-clause-turned g c)

pub returns-then-not-wait-clause-ended : goal.returns-then-not-wait-clause-ended
returns-then-not-wait-clause-ended g c =
    let exchanged = c.in_ok-exchange_listed.ensures in
    let gone = c.in_ok-let_go_listed.ensures in
    took _ _ _ _ _ _ _ _ _ _ _ _ _ _ _ _ _ _ _ _ _ _ _ c.args.self.now _ c.in_ok-accept_each.ensures.ok
    (arrives_still _ _ _ _ _ _ _ _ _ _ _ _ _ _ exchanged.accepted exchanged.device c.in_ok-accept_each.ensures.arrives) c.in_ok-accept_each.ensures.heard exchanged.reads
    exchanged.ok exchanged.same exchanged.heard gone.gone (record { node_is = exchanged.node; worker_is = exchanged.worker; limit_is = exchanged.limit; timeout_is = exchanged.timeout }) c.wait.ensures.parted
    (at_once _ _ _ c.is_busy.ensures)
    (looked _ _ _ _ _ _ _ _ _ _ _ _ _ _ _ exchanged.looks refl (first_rests _ _) gone.calm exchanged.sent gone.go_on) c.wait.ensures.waited
    c.if-not-wait.true

pub returns-then-not-wait-clause-err : goal.returns-then-not-wait-clause-err
returns-then-not-wait-clause-err g c = turned _ _ _ _ _ _ _ _ _ _ _ _ _ _ _ c.args.self.now _ (returns-then-not-wait-clause-ended g c)

pub returns-in_err-accept_each-clause-ended : goal.returns-in_err-accept_each-clause-ended
returns-in_err-accept_each-clause-ended g c =
    ends_by_memory _ c.from_residual.result _ _ _ (search rules) (record {
      worker = record { node_is = refl; worker_is = refl; limit_is = refl; timeout_is = refl };
      way = inl (record { until = c.in_err-accept_each.ensures.err; unread = record { clock_is = refl; moment_is = refl } });
    })

pub returns-in_err-exchange_listed-clause-ended : goal.returns-in_err-exchange_listed-clause-ended
returns-in_err-exchange_listed-clause-ended g c =
    let left = c.in_err-exchange_listed.ensures in
    let came = arrives_still _ _ _ _ _ _ _ _ _ _ _ _ _ _ left.accepted left.device c.in_ok-accept_each.ensures.arrives in
    ends_by_memory _ c.from_residual-in_err-exchange_listed.result _ _ _ (search rules) (record {
      worker = record { node_is = left.node; worker_is = left.worker; limit_is = left.limit; timeout_is = left.timeout };
      way = inr (inl (record {
        opened = _;
        taken = _;
        accepts = c.in_ok-accept_each.ensures.ok;
        arrives = came.arrives;
        few = came.few;
        reads = left.reads;
        leaves = left.err;
        same = left.same;
      }));
    })

pub returns-in_err-let_go_listed-clause-ended : goal.returns-in_err-let_go_listed-clause-ended
returns-in_err-let_go_listed-clause-ended g c =
    let exchanged = c.in_ok-exchange_listed.ensures in
    let came = arrives_still _ _ _ _ _ _ _ _ _ _ _ _ _ _ exchanged.accepted exchanged.device c.in_ok-accept_each.ensures.arrives in
    ends_by_memory _ c.from_residual-in_err-let_go_listed.result _ _ _ (search rules) (record {
      worker = record { node_is = exchanged.node; worker_is = exchanged.worker; limit_is = exchanged.limit; timeout_is = exchanged.timeout };
      way = inr (inr (record {
        opened = _;
        worked = _;
        device = _;
        taken = _;
        served = _;
        accepts = c.in_ok-accept_each.ensures.ok;
        arrives = came.arrives;
        few = came.few;
        reads = exchanged.reads;
        exchanges = exchanged.ok;
        same = exchanged.same;
        loses = c.in_err-let_go_listed.ensures.left;
      }));
    })

pub returns-in_err-accept_each-clause-err : goal.returns-in_err-accept_each-clause-err
returns-in_err-accept_each-clause-err g c =
    ends_by _ _ _ _ _ _ g.A.Backend.is_settled _ g.A.Backend.stands g.A.Backend.busy _ _ g.A.Backend.is_gone _ _ _ c.args.self.now _ _
    (returns-in_err-accept_each-clause-ended g c)

pub returns-in_err-exchange_listed-clause-err : goal.returns-in_err-exchange_listed-clause-err
returns-in_err-exchange_listed-clause-err g c =
    ends_by _ _ _ _ _ _ g.A.Backend.is_settled _ g.A.Backend.stands g.A.Backend.busy _ _ g.A.Backend.is_gone _ _ _ c.args.self.now _ _
    (returns-in_err-exchange_listed-clause-ended g c)

pub returns-in_err-let_go_listed-clause-err : goal.returns-in_err-let_go_listed-clause-err
returns-in_err-let_go_listed-clause-err g c =
    ends_by _ _ _ _ _ _ g.A.Backend.is_settled _ g.A.Backend.stands g.A.Backend.busy _ _ g.A.Backend.is_gone _ _ _ c.args.self.now _ _
    (returns-in_err-let_go_listed-clause-ended g c)
