use Rattle.std.proofs.Common.{◌≡◌, ◌∙◌, None, not, ap, sym, cond, rules}
use Rattle.std.specs.Map.{lookup}
use Rattle.std.specs.Ordering.{nat_cmp}
use Rattle.std.specs.BTreeMap.{is_at}
use Rattle.std.specs.FinMap as finmap
use Rattle.nr_entry.specs.Jobs.{item_of}
use Rattle.nr_job_numbers.specs.Account.{noted}
use Rattle.nr_job_numbers.specs.Stored.{changed, is_strange}
use Rattle.nr_job_numbers.proofs.Seen.{get_seen, edited}
use Rattle.nr_job_numbers.proofs.stored.BySerial.note.Goals as goal

pub returns-clause-known : goal.returns-clause-known
returns-clause-known c =
    let found = c.in-Some.ensures.value ∙ sym (get_seen c.self.inside.accounts.entries c.self.invariant c.args.serial) in
    ap (is_strange c.args.worker) (sym (found ∙ ap (λ held. finmap.get held c.args.serial) c.self.view_is)) ∙ ap not (sym c.note.ensures.known)

pub returns-clause-noted : goal.returns-clause-noted
returns-clause-noted c =
    let changes = (c.get_mut.follows.holds c.note.new.self).3 (search rules) in
    edited (noted (item_of c.args.job.now)) c.self.inside.accounts.entries (c.get_mut.follows.lender c.note.new.self).entries c.args.serial
    c.in-Some.account.now c.note.new.self c.note.result c.self.invariant (c.get_mut.follows.holds c.note.new.self).4 c.in-Some.ensures.value
    c.note.ensures.noted changes.0
    ∙ ap (λ held. cond c.note.result (changed (noted (item_of c.args.job.now)) c.args.serial held) held) c.self.view_is

pub returns-in_default-clause-known : goal.returns-in_default-clause-known
returns-in_default-clause-known c =
    let none : None ≡ lookup (is_at (nat_cmp c.args.serial)) c.self.inside.accounts.entries = search (rules, c.in_default.ensures) in
    let found = none ∙ sym (get_seen c.self.inside.accounts.entries c.self.invariant c.args.serial) in
    ap (is_strange c.args.worker) (sym (found ∙ ap (λ held. finmap.get held c.args.serial) c.self.view_is))
