use Rattle.std.proofs.Common.{◌≡◌, ◌∙◌, None, ap, sym, cond, rules}
use Rattle.std.specs.Map.{lookup}
use Rattle.std.specs.Ordering.{nat_cmp}
use Rattle.std.specs.BTreeMap.{is_at}
use Rattle.std.specs.FinMap as finmap
use Rattle.nr_entry.specs.Jobs.{item_of}
use Rattle.nr_job_numbers.specs.Account.{taken}
use Rattle.nr_job_numbers.specs.Stored.{changed, takes_by}
use Rattle.nr_job_numbers.proofs.Seen.{get_seen, edited}
use Rattle.nr_job_numbers.proofs.stored.BySerial.take.Goals as goal

pub returns-clause-takes : goal.returns-clause-takes
returns-clause-takes c =
    c.take.ensures.takes
    ∙ ap (takes_by c.args.worker (item_of c.args.job.now))
    (c.in-Some.ensures.value ∙ sym (get_seen c.self.inside.accounts.entries c.self.invariant c.args.serial) ∙ ap (λ held. finmap.get held c.args.serial) c.self.view_is)

pub returns-clause-taken : goal.returns-clause-taken
returns-clause-taken c =
    let changes = (c.get_mut.follows.holds c.take.new.self).3 (search rules) in
    edited (taken (item_of c.args.job.now)) c.self.inside.accounts.entries (c.get_mut.follows.lender c.take.new.self).entries c.args.serial c.in-Some.account.now c.take.new.self
    c.take.result c.self.invariant (c.get_mut.follows.holds c.take.new.self).4 c.in-Some.ensures.value c.take.ensures.taken changes.0
    ∙ ap (λ held. cond c.take.result (changed (taken (item_of c.args.job.now)) c.args.serial held) held) c.self.view_is

pub returns-in_default-clause-takes : goal.returns-in_default-clause-takes
returns-in_default-clause-takes c =
    let none : None ≡ lookup (is_at (nat_cmp c.args.serial)) c.self.inside.accounts.entries = search (rules, c.in_default.ensures) in
    ap (takes_by c.args.worker (item_of c.args.job.now)) (none ∙ sym (get_seen c.self.inside.accounts.entries c.self.invariant c.args.serial) ∙ ap (λ held. finmap.get held c.args.serial) c.self.view_is)
