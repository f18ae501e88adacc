use Rattle.std.proofs.Common.{◌≡◌, false, inl, inr, ap, subst}
use Rattle.nr_model.specs.Nodes.Steps.{Open}
use Rattle.nr_entry.specs.Jobs.{connection_of}
use Rattle.nr_world.specs.declared.step.StepOutcome.{StepOutcome}
use Rattle.nr_world.specs.Seen.{outcome_seen}
use Rattle.nr_world.specs.Taken.{Steps}
use Rattle.nr_world_service.proofs.Steps.{unopened_moves, open_moves, opens, open_refuses}
use Rattle.nr_world_service.proofs.Placed.{stands_at}
use Rattle.nr_world_service.proofs.moving.open_at.Goals as goal

pub returns-in-Opened-clause-moves : goal.returns-in-Opened-clause-moves
returns-in-Opened-clause-moves c =
    open_moves c.args.world.now c.open.new.self c.args.node c.args.worker (connection_of c.in-Opened.conn)
    (subst (λ (o : StepOutcome). Steps c.args.world.now c.open.new.self (Open c.args.node c.args.worker) (outcome_seen o))
    c.in-Opened.is c.in_ok-conn.ensures.taken)

pub returns-in-Opened-clause-stands : goal.returns-in-Opened-clause-stands
returns-in-Opened-clause-stands c =
    stands_at c.args.world.now c.open.new.self c.args.node c.args.worker (connection_of c.in-Opened.conn)
    (subst (λ (o : StepOutcome). Steps c.args.world.now c.open.new.self (Open c.args.node c.args.worker) (outcome_seen o))
    c.in-Opened.is c.in_ok-conn.ensures.taken)

pub returns-in-Done-clause-moves : goal.returns-in-Done-clause-moves
returns-in-Done-clause-moves c =
    let none : opens (outcome_seen c.in_ok-conn.field-0) ≡ false =
    elim c.in-Done.is [
      | inl e ↦ ap (λ (o : StepOutcome). opens (outcome_seen o)) e
      | inr e ↦ ap (λ (o : StepOutcome). opens (outcome_seen o)) e.1
    ] in
    unopened_moves c.args.world.now c.open.new.self c.args.node c.args.worker (outcome_seen c.in_ok-conn.field-0) none c.in_ok-conn.ensures.taken

pub returns-in-Done-clause-refuses : goal.returns-in-Done-clause-refuses
returns-in-Done-clause-refuses c =
    let none : opens (outcome_seen c.in_ok-conn.field-0) ≡ false =
    elim c.in-Done.is [
      | inl e ↦ ap (λ (o : StepOutcome). opens (outcome_seen o)) e
      | inr e ↦ ap (λ (o : StepOutcome). opens (outcome_seen o)) e.1
    ] in
    open_refuses c.args.world.now c.open.new.self c.args.node c.args.worker (outcome_seen c.in_ok-conn.field-0) none c.in_ok-conn.ensures.taken
