use Rattle.std.proofs.Common.{◌≡◌, ◌<◌, ◌++◌, Bool, List, None, cond, true, length, arith, ◌∙◌, sym, ap, subst}
use Rattle.std.proofs.lemmas.List.{get_or_read}
use Rattle.nr_entry.specs.declared.job.Job.{Job}
use Rattle.nr_entry.specs.Jobs.{items_of}
use Rattle.nr_job_numbers.specs.Stored.{Held, takes_all, taken_all, AreTaken}
use Rattle.nr_job_numbers.specs.Book.{Book, is_above, last_of, refusal_by, HasTaken}
use Rattle.nr_job_numbers.proofs.Counts.{all_counts}
use Rattle.nr_job_numbers.proofs.Batches.{due}
use Rattle.nr_job_numbers.proofs.job_numbers.JobNumbers.take.Goals as goal

pub returns-then-take_all-clause-due : goal.returns-then-take_all-clause-due
returns-then-take_all-clause-due c =
    let batch = c.args.batch.now in
    let jobs = items_of batch.jobs.items in
    let book : Book = record { node = c.self.inside.node; held = c.self.inside.held; last = c.self.inside.last.items } in
    let there : batch.worker < length book.last = omega (arith, c.len.ensures, c.if-batch-len.false) in
    let found : c.index-before.result.now ≡ last_of book batch.worker = get_or_read book.last batch.worker c.index-before.result.now there c.index-before.ensures None in
    subst (λ (b : Book). refusal_by b batch.node batch.worker batch.number jobs ≡ None) c.self.view_is
    (due book batch.node batch.worker batch.number jobs c.if-batch-self.false there
    (ap (is_above batch.number) (sym found) ∙ sym c.is_above.ensures ∙ c.if-is_above.true)
    (ap (λ (js : List Job). takes_all book.node batch.worker book.held (items_of js)) (sym c.deref.ensures.value) ∙ sym c.take_all.ensures.takes ∙ c.if-take_all.true))

pub returns-then-take_all-clause-numbered : goal.returns-then-take_all-clause-numbered
returns-then-take_all-clause-numbered c = λ jobs counted.
    let batch = c.args.batch.now in
    let node = c.self.inside.node in
    let held = c.self.inside.held in
    let before : AreTaken node held jobs = subst (λ (b : Book). HasTaken b jobs) (sym c.self.view_is) counted in
    let all : takes_all node batch.worker held (items_of batch.jobs.items) ≡ true =
    ap (λ (js : List Job). takes_all node batch.worker held (items_of js)) (sym c.deref.ensures.value) ∙ sym c.take_all.ensures.takes ∙ c.if-take_all.true in
    let now : c.take_all.new.held ≡ taken_all held (items_of batch.jobs.items) =
    c.take_all.ensures.taken ∙ ap (λ (b : Bool). cond b (taken_all held (items_of c.deref.result.now)) held) c.if-take_all.true
    ∙ ap (λ (js : List Job). taken_all held (items_of js)) c.deref.ensures.value in
    subst (λ (h : Held). AreTaken node h (jobs ++ items_of batch.jobs.items)) (sym now) (all_counts node batch.worker held jobs (items_of batch.jobs.items) all before)
