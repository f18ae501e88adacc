use Rattle.std.proofs.Common.{◌≡◌, ◌+◌, ◌-◌, ◌≤◌, ◌++◌, ◌∷◌, [], List, sym, subst, arith, rules, length, take, drop}
use Rattle.nr_entry.specs.Jobs.{item_of, items_of}
use Rattle.nr_entry.specs.declared.job.Job.{Job}
use Rattle.nr_replica.specs.Lent.{RepliesState, AreRunBy, AreRepliesTo}
use Rattle.nr_replica.proofs.Runs.{reads_upto, reads_from, drop_long, rest_whole, answered_more}
use Rattle.nr_replica.proofs.answering.answer_all.Goals as goal

pub answer_run-requires-clause-reads : goal.answer_run-requires-clause-reads
answer_run-requires-clause-reads c =
    let from = c.loop-from.from in
    reads_upto item_of (length c.args.jobs.now - from) (drop from c.args.jobs.now) (reads_from item_of from c.args.jobs.now c.requires)

pub loop-from-preserved : goal.loop-from-preserved
loop-from-preserved c =
    let s = c.args.machine.now.state in
    let jobs = c.args.jobs.now in
    let from = c.loop-from.from in
    let run = c.in-Some.replies in
    let whole = rest_whole from jobs c.loop-from.invariant.0 in
    let long = drop_long from jobs c.loop-from.invariant.0 in
    let within : run.count ≤ length (drop from jobs) = subst (λ (js : List Job). run.count ≤ length js) whole c.in-Some.ensures.within in
    let ran : AreRunBy s (items_of (take run.count (drop from jobs))) run = subst (λ (js : List Job). AreRunBy s (items_of (take run.count js)) run) whole c.in-Some.ensures.ran in
    let pushed : c.push.new.self.items ≡ c.loop-from.all.items ++ run ∷ [] = search rules in (
      omega (arith, c.count-from.ensures, within, long),
      subst (λ n. AreRepliesTo s (items_of (take (from + n) jobs)) c.push.new.self.items) (sym c.count-from.ensures)
          (subst (λ (rs : List RepliesState). AreRepliesTo s (items_of (take (from + run.count) jobs)) rs) (sym pushed)
          (answered_more item_of s from run.count jobs c.loop-from.all.items run c.loop-from.invariant.1 ran)),
    )
