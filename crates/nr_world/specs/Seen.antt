-- Steps, outcomes, answers and what was handed out, as those of the definitions.
use Rattle.nr_model.specs.Connections as traffic
use Rattle.nr_model.specs.Nodes.Steps as steps
use Rattle.nr_model.specs.Nodes.Pasts.{Answering}
use Rattle.nr_entry.specs.Jobs.{connection_of}
use Rattle.nr_world.specs.declared.step.Step.{Step}
use Rattle.nr_world.specs.declared.step.Step.TheVariants.{Open, Feed, Post, Lift, Reserve, Fill, Fetch, Apply, Look, Answer, Collect, Close, Refuse, Revive}
use Rattle.nr_world.specs.declared.step.StepOutcome.{StepOutcome}
use Rattle.nr_world.specs.declared.step.StepOutcome.TheVariants.{Opened, Done, Idle}
use Rattle.nr_world.specs.declared.step.HandedBytes.{HandedBytes}
use Rattle.nr_world.specs.declared.step.Answered.{Answered}

abbrev pub step_seen : Step → steps.Step
step_seen (Open node worker) = steps.Open node worker
step_seen (Feed conn moment bytes) = steps.Feed (connection_of conn) moment bytes.items
step_seen (Post node worker) = steps.Post node worker
step_seen (Lift node worker) = steps.Lift node worker
step_seen (Reserve node) = steps.Reserve node
step_seen (Fill node other) = steps.Fill node other
step_seen (Fetch node) = steps.Fetch node
step_seen (Apply node) = steps.Apply node
step_seen (Look node) = steps.Look node
step_seen (Answer node worker) = steps.Answer node worker
step_seen (Collect node worker) = steps.Collect node worker
step_seen (Close conn moment) = steps.Close (connection_of conn) moment
step_seen (Refuse node) = steps.Refuse node
step_seen (Revive node donor) = steps.Revive node donor

abbrev pub outcome_seen : StepOutcome → steps.Outcome
outcome_seen (Opened conn) = steps.Opened (connection_of conn)
outcome_seen Done = steps.Done
outcome_seen (Idle reason) = steps.Idle reason

abbrev pub handed_seen : HandedBytes → traffic.Handed
handed_seen handed = record { connection = connection_of handed.conn; bytes = handed.bytes.items }

abbrev pub answer_seen : Answered → Answering
answer_seen answer = record { node = answer.node; worker = answer.worker; batch = answer.batch; executed = answer.executed }
