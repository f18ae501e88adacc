use Rattle.std.proofs.Common.{◌≡◌, List, Some, true, ap, set, sym, ◌∙◌}
use Rattle.nr_entry.specs.declared.job.Job.{Job}
use Rattle.nr_entry.specs.Jobs.{items_of}
use Rattle.nr_job_numbers.specs.Stored.{takes_all, taken_all}
use Rattle.nr_job_numbers.specs.Book.{Book}
use Rattle.nr_job_numbers.proofs.Batches.{all_of_due, put_back}
use Rattle.nr_job_numbers.proofs.job_numbers.JobNumbers.give_back.Goals as goal

pub returns : goal.returns
returns c = λ book due was before.
    let batch = c.args.batch.now in
    let lent : c.deref.result.now ≡ batch.jobs.items = c.deref.ensures.value in
    let all : takes_all book.node batch.worker book.held (items_of c.deref.result.now) ≡ true =
    ap (λ (js : List Job). takes_all book.node batch.worker book.held (items_of js)) lent
    ∙ all_of_due book batch.node batch.worker batch.number (items_of batch.jobs.items) due in
    let taken : c.self.inside.held ≡ taken_all book.held (items_of c.deref.result.now) =
    ap (λ (b : Book). b.held) (c.self.view_is ∙ was) ∙ sym (ap (λ (js : List Job). taken_all book.held (items_of js)) lent) in
    let node_is : c.self.inside.node ≡ book.node = ap (λ (b : Book). b.node) (c.self.view_is ∙ was) in
    let held_is : c.give_back.new.held ≡ book.held = c.give_back.ensures book.node batch.worker book.held all taken in
    let last_is : set c.self.inside.last.items batch.worker c.args.before ≡ book.last =
    ap (λ (b : Book). set b.last batch.worker c.args.before) (c.self.view_is ∙ was) ∙ put_back book.last batch.worker (Some batch.number) c.args.before before in
    λ i. record { node = node_is i; held = held_is i; last = last_is i }
