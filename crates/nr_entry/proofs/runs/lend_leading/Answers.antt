use Rattle.std.proofs.Common.{◌≡◌, ◌++◌, ℕ, zero, suc, List, [], take, refl, sym, ap, ◌∙◌}
use Rattle.nr_model.specs.Entries.{Jobs}
use Rattle.nr_entry.specs.declared.job.Job.{Job}
use Rattle.nr_entry.specs.Choice.{leads_among}
use Rattle.nr_entry.specs.Jobs.{items_of}
use Rattle.nr_entry.specs.Runs.{jobs_in, first_of, others_of, marks_of, owners_of, sum_of}
use Rattle.nr_entry.proofs.Marks.{left_where_none}
use Rattle.nr_entry.proofs.Choosing.{none_begins}
use Rattle.nr_entry.proofs.Lending.{Lent, no_owners, lent_taken, lent_left, lent_whole, lent_own, lent_length, lent_count}
use Rattle.nr_entry.proofs.runs.lend_leading.Goals as goal
use Rattle.nr_entry.proofs.runs.lend_leading.Goals.{After-lend}

take_none : (n : ℕ) → take n (let none : Jobs = [] in none) ≡ []
take_none zero = refl
take_none (suc n) = refl

pub returns-then-not-any_begins-clause-taken : goal.returns-then-not-any_begins-clause-taken
returns-then-not-any_begins-clause-taken c =
    let none = none_begins c.args.updates [] c.args.runs.now (sym c.any_begins.ensures ∙ c.if-not-any_begins.true) in
    ap items_of c.new.ensures.items ∙ sym (ap (λ (t : Jobs). take c.args.most t) none ∙ take_none c.args.most)

pub returns-then-not-any_begins-clause-left : goal.returns-then-not-any_begins-clause-left
returns-then-not-any_begins-clause-left c =
    let none = none_begins c.args.updates [] c.args.runs.now (sym c.any_begins.ensures ∙ c.if-not-any_begins.true) in
    sym (left_where_none (leads_among c.args.updates) c.args.most [] (items_of (jobs_in c.args.runs.now)) none)

pub returns-then-not-any_begins-clause-owners : goal.returns-then-not-any_begins-clause-owners
returns-then-not-any_begins-clause-owners c = rw (no_owners c.args.runs.now c.requires, c.new.ensures.items) refl

moved : (c : After-lend) → Lent (leads_among c.args.updates) c.args.most c.choose.new.counts.items c.args.runs.now c.lend.new.runs c.lend.new.taken.items
moved c =
    let counts : List ℕ = c.choose.new.counts.items in
    let ks : c.deref.result.now ≡ counts = c.deref.ensures.value in
    record {
      marks = c.in_ok-total.ensures.marks;
      within = c.in_ok-total.ensures.within;
      first = c.lend.ensures.taken ∙ ap (λ (t : List Job). t ++ first_of c.deref.result.now c.args.runs.now) c.in_ok-taken.ensures.items
          ∙ ap (λ (t : List ℕ). first_of t c.args.runs.now) ks;
      others = c.lend.ensures.left ∙ ap (λ (t : List ℕ). others_of t c.args.runs.now) ks;
      gaps = c.lend.ensures.gaps ∙ ap (λ (t : List ℕ). marks_of t c.args.runs.now) ks;
      owners = c.lend.ensures.owners ∙ ap (λ (t : List ℕ). owners_of t c.args.runs.now) ks;
      lent = c.lend.ensures.lent ∙ ap sum_of ks;
    }

pub returns-clause-taken : goal.returns-clause-taken
returns-clause-taken c = lent_taken _ _ _ _ _ _ (moved c.before.before)

pub returns-clause-left : goal.returns-clause-left
returns-clause-left c = lent_left _ _ _ _ _ _ (moved c.before.before)

pub returns-clause-whole : goal.returns-clause-whole
returns-clause-whole c = lent_whole _ _ _ _ _ _ (moved c.before.before)

pub returns-clause-count : goal.returns-clause-count
returns-clause-count c = lent_length _ _ _ _ _ _ (moved c.before.before)

pub returns-clause-lent : goal.returns-clause-lent
returns-clause-lent c = (moved c.before.before).lent ∙ sym (lent_count _ _ _ _ _ _ (moved c.before.before))

pub returns-clause-owners : goal.returns-clause-owners
returns-clause-owners c = lent_own _ _ _ _ _ _ (moved c.before.before)
