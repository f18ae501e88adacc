use Rattle.std.proofs.Common.{◌≡◌, ◌+◌, ◌-◌, ◌≤◌, ℕ, true, length, take, arith, subst}
use Rattle.nr_entry.specs.Jobs.{items_of}
use Rattle.nr_job_numbers.specs.Stored.{takes_all, taken_all}
use Rattle.nr_job_numbers.proofs.Steps.{one_fewer}
use Rattle.nr_job_numbers.proofs.taking.give_back.Goals as goal

pub loop-index-preserved : goal.loop-index-preserved
loop-index-preserved c = λ node worker before all was.
    let at = c.loop-index.invariant node worker before all was in
    let jobs = c.args.jobs.now in
    let index = c.loop-index.index in
    let within : index ≤ length jobs = c.loop-index.auto.index in
    let number : index ≡ (index - 1) + 1 = omega arith in
    one_fewer node worker before c.loop-index.held c.give_back.new.self jobs (index - 1) c.index-jobs-index.result (omega arith) c.index-jobs-index.is
    (subst (λ (n : ℕ). takes_all node worker before (items_of (take n jobs)) ≡ true) number at.0)
    (subst (λ (n : ℕ). c.loop-index.held ≡ taken_all before (items_of (take n jobs))) number at.1)
    c.give_back.ensures
