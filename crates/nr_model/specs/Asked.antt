-- The jobs that a connection's bytes and its close ask for.
use Rattle.std.specs.Prelude.{ℕ, ◌+◌, cond, List, [], ◌∷◌, ◌++◌, length, drop, filter, Option, Some, None, take}
use Rattle.nr_model.specs.Bytes.{Bytes}
use Rattle.nr_model.specs.Commands.{served}
use Rattle.nr_model.specs.Items.{Connection, same_connection, Deed, Item}
use Rattle.nr_model.specs.Entries.{Jobs}
use Rattle.nr_model.specs.Modes.{deeds_by}
use Rattle.nr_model.specs.Connections.{Feeding, Closing}

-- deeds as jobs, numbered on from a number
abbrev pub jobs_from : Connection → ℕ → ℕ → List Deed → Jobs
jobs_from c number time [] = []
jobs_from c number time (deed ∷ deeds) = record { connection = c; number = number; moment = time; deed = deed } ∷ jobs_from c (number + 1) time deeds

-- the jobs of a connection
abbrev pub own_jobs : Connection → Jobs → Jobs
own_jobs c jobs = filter (λ job. same_connection job.connection c) jobs

-- the number of a close's job: that of the first job that it drops, else the next
abbrev pub close_number : ℕ → Jobs → ℕ
close_number next [] = next
close_number next (job ∷ jobs) = job.number

-- the number of the first job, where there is one
abbrev pub first_number : Jobs → Option ℕ
first_number [] = None
first_number (job ∷ jobs) = Some job.number

-- the jobs that the bytes fed to a connection ask for, those of each feed at its moment; the bytes before these feeds were fed already
abbrev pub jobs_of_feeds : Connection → Bytes → List Feeding → Jobs
jobs_of_feeds c before [] = []
jobs_of_feeds c before (feeding ∷ feedings) =
    let own = same_connection feeding.connection c in
    let after = cond own (before ++ feeding.bytes) before in
    let known = length (deeds_by served before) in
    cond own (jobs_from c known feeding.moment (drop known (deeds_by served after))) [] ++ jobs_of_feeds c after feedings

-- the jobs of a connection, cut where its close put an end in the place of the jobs that it dropped
abbrev pub cut_by : Option Item → Jobs → Jobs
cut_by None jobs = jobs
cut_by (Some job) jobs = take job.number jobs ++ job ∷ []

abbrev pub closing_job : Connection → List Closing → Option Item
closing_job c [] = None
closing_job c (closing ∷ closings) = cond (same_connection closing.connection c) closing.job (closing_job c closings)
