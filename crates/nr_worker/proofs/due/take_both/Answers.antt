use Rattle.std.proofs.Common.{rules, ◌≡◌, ◌≤◌, ◌++◌, ◌-◌, length, take, drop, sym, ◌∙◌}
use Rattle.nr_worker.proofs.Gathered.{drop_over, take_over}
use Rattle.nr_worker.proofs.due.take_both.Goals as goal

pub returns-clause-front : goal.returns-clause-front
returns-clause-front c =
    let jobs = c.args.jobs.now.items in
    let lasts = c.args.lasts.now.items in
    let few : c.len.result ≤ c.args.most = search rules in
    let long : c.len.result ≡ length jobs = search rules in
    let all : c.replace.result.items ≡ jobs ++ take (c.args.most - c.len.result) lasts = search rules in
    all ∙ sym (take_over c.args.most c.len.result jobs lasts long few)

pub returns-clause-behind : goal.returns-clause-behind
returns-clause-behind c =
    let jobs = c.args.jobs.now.items in
    let lasts = c.args.lasts.now.items in
    let few : c.len.result ≤ c.args.most = search rules in
    let long : c.len.result ≡ length jobs = search rules in
    let left : c.replace.new.dest.items ≡ drop (c.args.most - c.len.result) lasts = search rules in
    left ∙ sym (drop_over c.args.most c.len.result jobs lasts long few)
