-- The jobs of a worker that wait to be handed in.
use Rattle.std.specs.Prelude.{ℕ, ◌+◌, List, [], refl}
use Rattle.std.specs.Coded.{Coded, code_by, coded×, coded_ℕ, coded_list}
use Rattle.nr_entry.specs.declared.job.Job.{Job}
use Rattle.nr_entry.specs.contracts.job.Job as of_job

-- in order; how many of them, the last, found no room among the others yet; and for the last jobs of how many connections room is kept
pub record DueState : Type 0 where
  pub jobs : List Job
  pub late : ℕ
  pub room : ℕ

abbrev pub coded_due : Coded DueState
coded_due =
    code_by (List Job × (ℕ × ℕ)) (coded× (coded_list of_job.the_row.coded) (coded× coded_ℕ coded_ℕ)) (λ d. (d.jobs, (d.late, d.room)))
    (λ p. record { jobs = p.0; late = p.1.0; room = p.1.1 }) (λ _. refl)

-- at first
abbrev pub fresh_due : DueState
fresh_due = record { jobs = []; late = 0; room = 0 }

-- room is kept for one more
abbrev pub with_room : DueState → DueState
with_room d = record d { room = d.room + 1 }

-- no jobs wait any more
abbrev pub emptied : DueState → DueState
emptied d = record d { jobs = []; late = 0 }
