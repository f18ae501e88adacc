use Rattle.std.proofs.Common.{◌≡◌, ℕ, List, length, sym, ap, ◌∙◌, arith}
use Rattle.nr_model.specs.Entries.{leads_as_read}
use Rattle.nr_entry.specs.declared.run.Run.{Run}
use Rattle.nr_entry.specs.Runs.{jobs_in, lent_in, gaps_where}
use Rattle.nr_entry.specs.Waiting.{Held}
use Rattle.nr_entry.proofs.Taking.{all_taken, all_left}
use Rattle.nr_entry.proofs.Fronts.{whole_slice}
use Rattle.nr_entry.proofs.Lending.{nothing_lent, no_owners}
use Rattle.nr_entry.proofs.waiting.Waiting.take_reads.Goals as goal
use Rattle.nr_entry.proofs.waiting.Waiting.take_reads.Goals.{After-len}

pub lend_leading-requires : goal.lend_leading-requires
lend_leading-requires c =
    ap lent_in c.deref_mut.ensures.value ∙ c.self.invariant.1 ∙ nothing_lent c.self.inside.lent c.self.inside.runs.items c.self.invariant.1 (ap (λ (h : Held). h.gaps) c.self.view_is ∙ c.requires)

none : (c : After-len) → c.self.inside.lent ≡ 0
none c = nothing_lent c.self.inside.lent c.self.inside.runs.items c.self.invariant.1 (ap (λ (h : Held). h.gaps) c.self.view_is ∙ c.requires)

seen : (c : After-len) → jobs_in c.deref_mut.result.now ≡ c.args.self.now.jobs
seen c = ap jobs_in c.deref_mut.ensures.value ∙ ap (λ (h : Held). h.jobs) c.self.view_is

room : (c : After-len) → c.self.inside.count ≡ length (jobs_in c.deref_mut.result.now)
room c = omega (arith, c.self.invariant.0, none c, ap (λ (t : List Run). length (jobs_in t)) c.deref_mut.ensures.value)

left : (c : After-len) → jobs_in c.settle.new.runs.items ≡ jobs_in c.lend_leading.new.runs
left c = c.settle.ensures.jobs
    ∙ ap jobs_in (whole_slice c.lend_leading.new.runs c.self.inside.runs.items c.self.inside.runs.len
    (c.lend_leading.auto.runs ∙ ap length c.deref_mut.ensures.value) (sym c.deref_mut.ensures.len ∙ ap length c.deref_mut.ensures.value))

pub invariant_of-self-2 : goal.invariant_of-self-2
invariant_of-self-2 c = (
  omega (arith, none c.before, room c.before, c.len.ensures, c.in_ok-taken.taken.ok.0, ap length (left c.before), c.in_ok-taken.ensures.count),
  c.settle.ensures.lent ∙ sym (none c.before),
)

pub returns-clause-taken : goal.returns-clause-taken
returns-clause-taken c = rw (← seen c.before)
    (all_taken leads_as_read c.self.inside.count (jobs_in c.deref_mut.result.now) c.in_ok-taken.taken.items (room c.before) c.in_ok-taken.ensures.taken)

pub returns-clause-left : goal.returns-clause-left
returns-clause-left c = rw (left c.before, ← seen c.before)
    (all_left leads_as_read c.self.inside.count (jobs_in c.deref_mut.result.now) (jobs_in c.lend_leading.new.runs) (room c.before) c.in_ok-taken.ensures.left)

pub returns-clause-whole : goal.returns-clause-whole
returns-clause-whole c = (ap (λ (n : ℕ). gaps_where n c.settle.new.runs.items) (none c.before), no_owners c.settle.new.runs.items c.settle.ensures.lent)
