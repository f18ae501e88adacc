use Rattle.std.proofs.Common.{sym, ◌∙◌, subst}
use Rattle.nr_worker_service.specs.Led.{size_of}
use Rattle.nr_worker_service.specs.Serving.{kept_at}
use Rattle.nr_crew.specs.Left.{IsAnswered}
use Rattle.nr_crew.proofs.Limits.{same_worker}
use Rattle.nr_crew.proofs.Remains.{is_answered, is_left}
use Rattle.nr_crew.proofs.serving.serve_lane.Goals as goal

kept : goal.returns-clause-node
kept g c =
    (same_worker _ _ _ _ _ (λ waits a b turn. turn.worker) (λ a b broken. broken.worker) c.serve-ended.result c.over-service.result c.serve-ended.new.self
    c.serve-ended.ensures.turns).node_is ∙ c.over-service.ensures.node ∙ search (c.node-node.ensures, c.shared.ensures)

kept_number : goal.returns-clause-worker
kept_number g c =
    (same_worker _ _ _ _ _ (λ waits a b turn. turn.worker) (λ a b broken. broken.worker) c.serve-ended.result c.over-service.result c.serve-ended.new.self
    c.serve-ended.ensures.turns).worker_is ∙ c.over-service.ensures.worker ∙ c.number-number.ensures

pub returns-clause-node : goal.returns-clause-node
returns-clause-node = kept

pub returns-clause-worker : goal.returns-clause-worker
returns-clause-worker = kept_number

pub returns-clause-answered : goal.returns-clause-answered
returns-clause-answered g c =
    let received = g.S.Stream.received in
    let sent = g.S.Stream.sent in
    let gives = g.M.Moments.gives in
    let parted = g.D.Poller.parted in
    let node = c.args.lane.worker.node in
    let number = c.args.lane.worker.seat.worker in
    let service = c.serve-ended.new.self in
    let mark = c.take_mark-mark.result.standing in
    let began = c.over-service.ensures.serving (size_of node number) c.new-desk.ensures.past in
    let ended = c.serve-ended.result in
    let serving = c.serve-ended.ensures.serving c.args.lane.clock (size_of node number) began in
    let left = is_left received sent g.S.Stream.course gives kept_at parted c.args.lane.clock (size_of node number) service ended serving in
    let known = c.take_mark-mark.ensures.mark in
    let answered = is_answered received sent gives parted c.args.lane.clock node number service ended mark known left.0 left.1 in
    subst (λ n. IsAnswered received sent gives (parted c.rest_of-device.result.0) n service.worker ended mark c.rest_of-device.result.2.items) (sym (kept g c))
    (subst (λ w. IsAnswered received sent gives (parted c.rest_of-device.result.0) node w ended mark c.rest_of-device.result.2.items) (sym (kept_number g c))
    (subst (λ t. IsAnswered received sent gives (parted t.0) node number ended mark t.2.items) (sym c.rest_of-device.ensures) answered))

pub returns-clause-limits : goal.returns-clause-limits
returns-clause-limits g c =
    let over = c.over-service.ensures in
    let same = same_worker _ _ _ _ _ (λ waits a b turn. turn.worker) (λ a b broken. broken.worker) c.serve-ended.result c.over-service.result c.serve-ended.new.self
    c.serve-ended.ensures.turns in
    let limit = same.limit_is ∙ over.limit in
    let timeout = same.timeout_is ∙ over.timeout in
    λ i. record { limit = limit i; timeout = timeout i }
