use Rattle.std.proofs.Common.{rules, ℕ, ◌≡◌, ◌≤◌, ◌+◌, ◌%◌, false, [], refl, sym, subst, ◌<◌}
use Rattle.std.specs.Prelude.{is_some}
use Rattle.std.specs.Option.{option_map}
use Rattle.nr_entry.specs.Jobs.{connection_of}
use Rattle.nr_world_service.specs.Moves.{Moves, Refuses}
use Rattle.nr_world_service.specs.Told.{opening}
use Rattle.nr_world_service.proofs.Steps.{moves_on, none_moves, none_is, where_none}
use Rattle.nr_world_service.proofs.Fullness.{first_there, none_refused, refused_more, turn_there, finds_full}
use Rattle.nr_world_service.specs.Placing.{worker_in_turn}
use Rattle.nr_world_service.proofs.Placed.{placed_where}
use Rattle.nr_world_service.proofs.moving.open.Goals as goal

pub loop-passed-init : goal.loop-passed-init
loop-passed-init c = (none_moves c.args.world.now, none_refused c.args.world.now (c.args.number % c.args.world.now.setup.nodes))

pub loop-passed-preserved : goal.loop-passed-preserved
loop-passed-preserved c =
    let old = c.args.world.now in
    let middle = c.loop-passed.world in
    let new = c.open_at.new.world in
    let opened = c.in_ok-opened.opened in
    let worker = c.worker_at-worker.result in
    let passed = c.loop-passed.passed in
    let first = c.args.number % old.setup.nodes in
    let so_far = c.loop-passed.invariant in
    let none : is_some opened ≡ false = search (rules, c.if-is_some.false) in
    let some : 1 ≤ old.setup.nodes = search rules in
    let within : worker < old.setup.workers = search rules in
    let at : c.node_at-node.result ≡ (first + passed) % old.setup.nodes = search rules in
    let refuses = where_none opened (Refuses middle new c.node_at-node.result worker) none c.in_ok-opened.ensures.refuses in (
      moves_on old middle new [] so_far.0 (subst (Moves middle new) (sym (none_is opened none)) c.in_ok-opened.ensures.moves),
      refused_more old middle new first passed worker so_far.0.setup so_far.1 (subst (λ (k : ℕ). Refuses middle new k worker) at refuses)
          (turn_there old.setup first passed worker (first_there old.setup c.args.number worker some within)),
    )

pub returns-then-is_some-clause-moves : goal.returns-then-is_some-clause-moves
returns-then-is_some-clause-moves c =
    moves_on c.args.world.now c.loop-passed.world c.open_at.new.world (opening (option_map connection_of c.in_ok-opened.opened))
    c.loop-passed.invariant.0 c.in_ok-opened.ensures.moves

pub returns-then-is_some-clause-placed : goal.returns-then-is_some-clause-placed
returns-then-is_some-clause-placed c =
    let old = c.args.world.now in
    let worker = c.worker_at-worker.result in
    let passed = c.loop-passed.passed in
    let first = c.args.number % old.setup.nodes in
    let is : worker ≡ worker_in_turn old.setup c.args.number = search rules in
    let at : c.node_at-node.result ≡ (first + passed) % old.setup.nodes = search rules in
    let below : passed < old.setup.nodes = search rules in
    placed_where old c.loop-passed.world c.open_at.new.world c.args.number first worker passed c.node_at-node.result
    c.in_ok-opened.opened c.loop-passed.invariant.0.setup c.loop-passed.invariant.1 c.in_ok-opened.ensures.stands refl is at below

pub returns-clause-full : goal.returns-clause-full
returns-clause-full c =
    let old = c.args.world.now in
    let worker = c.worker_at-worker.result in
    let some : 1 ≤ old.setup.nodes = search rules in
    let within : worker < old.setup.workers = search rules in
    let all : old.setup.nodes ≤ c.loop-passed.passed = search rules in
    finds_full old c.loop-passed.world (c.args.number % old.setup.nodes) worker c.loop-passed.passed (first_there old.setup c.args.number worker some within) all
    c.loop-passed.invariant.1
