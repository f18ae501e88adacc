use Rattle.std.proofs.Common.{◌≡◌, List, length, sym, ap, ◌∙◌, arith}
use Rattle.nr_model.specs.Entries.{entry_jobs}
use Rattle.nr_entry.specs.declared.run.Run.{Run}
use Rattle.nr_entry.specs.Jobs.{items_of}
use Rattle.nr_entry.specs.Runs.{jobs_in, lent_in}
use Rattle.nr_entry.specs.Waiting.{Held}
use Rattle.nr_entry.proofs.Taking.{entry_updates, entry_length, entry_own}
use Rattle.nr_entry.proofs.Fronts.{whole_slice}
use Rattle.nr_entry.proofs.Lending.{nothing_lent}
use Rattle.nr_entry.proofs.waiting.Waiting.lend_updates.Goals as goal
use Rattle.nr_entry.proofs.waiting.Waiting.lend_updates.Goals.{After-len-self-inside}

pub lend_leading-requires : goal.lend_leading-requires
lend_leading-requires c =
    ap lent_in c.deref_mut.ensures.value ∙ c.self.invariant.1 ∙ nothing_lent c.self.inside.lent c.self.inside.runs.items c.self.invariant.1 (ap (λ (h : Held). h.gaps) c.self.view_is ∙ c.requires)

pub invariant_of-self-2 : goal.invariant_of-self-2
invariant_of-self-2 c =
    let none = nothing_lent c.self.inside.lent c.self.inside.runs.items c.self.invariant.1 (ap (λ (h : Held). h.gaps) c.self.view_is ∙ c.requires) in
    let whole = whole_slice c.lend_leading.new.runs c.self.inside.runs.items c.self.inside.runs.len
    (c.lend_leading.auto.runs ∙ ap length c.deref_mut.ensures.value) (sym c.deref_mut.ensures.len ∙ ap length c.deref_mut.ensures.value) in
    let many = c.len-self-inside.ensures ∙ c.in_ok-taken.taken.ok.0 in (
      omega (
        arith,
        none,
        many,
        ap (λ (t : List Run). length (jobs_in t)) whole,
        c.in_ok-taken.ensures.count,
        ap (λ (t : List Run). length (jobs_in t)) c.deref_mut.ensures.value,
        c.self.invariant.0,
      ),
      ap lent_in whole ∙ c.in_ok-taken.ensures.lent ∙ sym many,
    )

are_next : (c : After-len-self-inside) → items_of c.in_ok-taken.taken.items ≡ entry_jobs (items_of (jobs_in c.self.inside.runs.items))
are_next c = rw (← c.deref_mut.ensures.value) c.in_ok-taken.ensures.taken

pub returns-clause-updates : goal.returns-clause-updates
returns-clause-updates c = entry_updates (jobs_in c.self.inside.runs.items) c.in_ok-taken.taken.items (are_next c.before)

pub returns-clause-most : goal.returns-clause-most
returns-clause-most c = entry_length (jobs_in c.self.inside.runs.items) c.in_ok-taken.taken.items (are_next c.before)

pub returns-clause-own : goal.returns-clause-own
returns-clause-own c = λ node all. entry_own node (jobs_in c.self.inside.runs.items) c.in_ok-taken.taken.items (are_next c.before)
    (rw (ap (λ (h : Held). h.jobs) c.self.view_is) all)
