use Rattle.std.proofs.Common.{◌≡◌, ◌∙◌, ◌++◌, None, ap, sym}
use Rattle.nr_model.specs.Asked.{own_jobs, first_number}
use Rattle.nr_entry.specs.Jobs.{items_of}
use Rattle.nr_job_numbers.specs.Stored.{Held}
use Rattle.nr_job_numbers.specs.Book.{Book}
use Rattle.nr_node.specs.Level.{connection_at}
use Rattle.nr_node.specs.Next.{jobs_next}
use Rattle.nr_node.proofs.Dropped.{none_goes_back}
use Rattle.nr_node.proofs.falling.go_back_one.Goals as goal

pub returns-in_default : goal.returns-in_default
returns-in_default c =
    let book : Book = c.args.accounts.now in
    let dropped = items_of (jobs_next c.args.next.now) ++ items_of c.args.replica.now.waiting in
    let none : first_number (own_jobs (connection_at book.node c.args.serial) dropped) ≡ None =
    (λ i. first_number (own_jobs (connection_at (sym c.node.ensures i) c.args.serial) dropped)) ∙ sym c.first_lifted.ensures ∙ c.in_default.is in
    ap (λ (held : Held). record book { held = held }) (sym (none_goes_back dropped (connection_at book.node c.args.serial) c.args.serial book.held none))
