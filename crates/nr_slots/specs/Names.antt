-- Which batch an answer is for.
use Rattle.std.specs.Prelude.{◌≡◌, ◌≤◌, List, [], ◌∷◌, ◌++◌, length}
use Rattle.nr_model.specs.Bytes.{IsBeginningOf}
use Rattle.nr_entry.specs.declared.batch.Batch.{Batch}
use Rattle.nr_entry.specs.declared.batch.Answer.{Answer}
use Rattle.nr_entry.specs.declared.batch.Outcome.{Outcome}
use Rattle.nr_entry.specs.declared.batch.Outcome.TheVariants.{Executed, Down, Refused}
use Rattle.nr_entry.specs.declared.job.Job.{Job}
use Rattle.nr_slots.specs.declared.view.WorkerPast.{WorkerPast}
use Rattle.nr_slots.specs.declared.view.CombinerPast.{CombinerPast}

-- where a batch comes back it is with these jobs
abbrev pub IsBackOf : Outcome → List Job → Type 0
IsBackOf Executed jobs = Unit {0}
IsBackOf Down jobs = Unit {0}
IsBackOf (Refused why back) jobs = back.items ≡ jobs

-- an answer names a batch by its node, its worker and its number, and hands back no other jobs
abbrev pub Names : Answer → Batch → Type 0
Names answer batch = (answer.node ≡ batch.node) × (answer.worker ≡ batch.worker) × (answer.batch ≡ batch.number) × IsBackOf answer.outcome batch.jobs.items

-- the answer is for the last of these batches, and all batches before it have their answers
abbrev pub IsForLast : Answer → List Batch → List Answer → Type 0
IsForLast answer batches answers = (before : List Batch) × (batch : Batch) × (batches ≡ before ++ batch ∷ []) × (length answers ≡ length before) × Names answer batch

-- it is the last of these batches, and all batches before it have their answers
abbrev pub IsUnanswered : Batch → List Batch → List Answer → Type 0
IsUnanswered batch batches answers = (before : List Batch) × (batches ≡ before ++ batch ∷ []) × (length answers ≡ length before)

-- What a combiner had lifted is a beginning of what the worker posted. Of what it had answered and what the worker collected one is a beginning
-- of the other.
abbrev pub IsTold : CombinerPast → WorkerPast → Type 0
IsTold desk lane = IsBeginningOf desk.lifted lane.posted
    × (length desk.answered ≤ length lane.collected → IsBeginningOf desk.answered lane.collected)
    × (length lane.collected ≤ length desk.answered → IsBeginningOf lane.collected desk.answered)
