use Rattle.std.proofs.Common.{◌≡◌, ◌∙◌, None, ap, true, rules}
use Rattle.std.specs.Map.{lookup}
use Rattle.std.specs.Ordering.{nat_cmp}
use Rattle.std.specs.BTreeMap.{is_at}
use Rattle.nr_job_numbers.specs.Account.{untaken}
use Rattle.nr_job_numbers.specs.Stored.{changed}
use Rattle.nr_job_numbers.proofs.Seen.{seen, edited, unchanged}
use Rattle.nr_job_numbers.proofs.stored.BySerial.give_back.Goals as goal

pub returns : goal.returns
returns c =
    let changes = (c.get_mut.follows.holds c.give_back.new.self).3 (search rules) in
    edited untaken c.self.inside.accounts.entries (c.get_mut.follows.lender c.give_back.new.self).entries c.args.serial c.in-Some.account.now c.give_back.new.self
    true c.self.invariant (c.get_mut.follows.holds c.give_back.new.self).4 c.in-Some.ensures.value c.give_back.ensures changes.0
    ∙ ap (changed untaken c.args.serial) c.self.view_is

pub returns-in_default : goal.returns-in_default
returns-in_default c =
    let none : None ≡ lookup (is_at (nat_cmp c.args.serial)) c.self.inside.accounts.entries = search (rules, c.in_default.ensures) in
    let same : c.get_mut.follows.lender-at-none.entries ≡ c.self.inside.accounts.entries = search rules in
    ap seen same ∙ unchanged untaken c.self.inside.accounts.entries c.args.serial c.self.invariant none ∙ ap (changed untaken c.args.serial) c.self.view_is
