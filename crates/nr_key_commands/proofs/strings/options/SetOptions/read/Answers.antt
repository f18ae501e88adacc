use Rattle.std.proofs.Common.{rules, ◌≡◌}
use Rattle.nr_model.specs.Commands.Strings.{with_deadline}
use Rattle.nr_key_commands.proofs.Options.{set_words, flag_read, deadline_read, word_refused}
use Rattle.nr_key_commands.proofs.strings.options.SetOptions.read.Goals as goal

pub returns-in_err-deadline-in-None-clause-refused :
    goal.returns-in_err-deadline-in-None-clause-refused
returns-in_err-deadline-in-None-clause-refused c =
    word_refused (set_words c.args.now) c.args.self.now c.args.word.now c.args.others.now c.timing_of-timing.result c.from_residual.result c.in-None.ensures.flag c.timing_of-timing.ensures
    (search rules)

pub returns-in-Some-clause-read : goal.returns-in-Some-clause-read
returns-in-Some-clause-read c =
    flag_read (set_words c.args.now) c.args.self.now c.in-Some.options c.args.word.now c.args.others.now c.in-Some.ensures.flag

pub returns-in_ok-deadline-in-None-clause-read : goal.returns-in_ok-deadline-in-None-clause-read
returns-in_ok-deadline-in-None-clause-read c =
    let after : c.with_deadline.result ≡ with_deadline c.args.self.now c.in_ok-deadline-in-None.deadline = search rules in
    deadline_read (set_words c.args.now) c.args.self.now _ c.args.word.now c.args.others.now c.in_ok-deadline-in-None.behind.now c.timing_of-timing.result c.in_ok-deadline-in-None.deadline
    c.in-None.ensures.flag c.timing_of-timing.ensures c.in_ok-deadline-in-None.ensures.deadline after
