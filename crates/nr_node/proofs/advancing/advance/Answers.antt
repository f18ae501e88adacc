use Rattle.std.proofs.Common.{◌≡◌, ◌∙◌, ap, subst}
use Rattle.nr_entry.specs.Jobs.{items_of}
use Rattle.nr_job_numbers.specs.Book.{without_ended}
use Rattle.std.specs.Arc.{arc_value}
use Rattle.nr_entry.specs.declared.entry.Entry.{Entry}
use Rattle.nr_node.specs.Advanced.{IsTakenIn}
use Rattle.nr_log_end.specs.declared.standing.Standing.{Standing}
use Rattle.nr_node.proofs.Advances.{log_passed, goes_by_entry, no_looks, one_look, found_none}
use Rattle.nr_node.proofs.advancing.advance.Goals as goal

pub returns-clause-log : goal.returns-clause-log
returns-clause-log g c =
    log_passed c.args.end.now.standing c.fetch.new.self.standing c.pass.new.self.standing (arc_value c.in-Some.entry) c.in-Some.ensures.some c.pass.ensures.passed
    c.in-Some.ensures.in_log

pub returns-clause-some : goal.returns-clause-some
returns-clause-some g c = λ _.
    let taken = subst (λ (e : Entry). IsTakenIn e c.args.replica.now c.take_in.new.replica) c.deref.ensures c.take_in.ensures.replica in
    let ended = subst (λ (e : Entry). c.close_ended.new.accounts ≡ without_ended (items_of e.jobs.items) c.take_in.new.accounts) c.deref-2.ensures c.close_ended.ensures in (
      arc_value c.in-Some.entry,
      goes_by_entry c.args.end.now.standing c.fetch.new.self.standing c.pass.new.self.standing (arc_value c.in-Some.entry) c.args.replica.now c.take_in.new.replica
          c.args.next.now c.take_in.new.next c.args.accounts.now c.take_in.new.accounts c.close_ended.new.accounts c.requires.idle c.in-Some.ensures.some
          c.pass.ensures.passed c.in-Some.ensures.in_log taken c.take_in.ensures.stays c.take_in.ensures.drops ended,
    )

pub returns-clause-met : goal.returns-clause-met
returns-clause-met g c =
    no_looks c.args.end.now c.pass.new.self (ap (λ (s : Standing). s.seen) c.pass.ensures.passed ∙ ap (λ (s : Standing). s.seen) c.in-Some.ensures.some)
    (c.pass.ensures.looks ∙ c.in-Some.ensures.looks_some)

pub returns-in_default-clause-met : goal.returns-in_default-clause-met
returns-in_default-clause-met g c =
    one_look c.args.end.now c.fetch.new.self _ (ap (λ (s : Standing). s.seen) c.in_default.ensures.none) c.in_default.ensures.looks_none

pub returns-in_default-clause-stopped : goal.returns-in_default-clause-stopped
returns-in_default-clause-stopped g c = λ _.
    found_none c.args.end.now c.fetch.new.self c.args.replica.now c.in_default.ensures.none c.in_default.ensures.looks_none
