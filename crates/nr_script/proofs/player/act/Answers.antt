use Rattle.std.proofs.Common.{rules, ◌≡◌, ◌≤◌, length, ap, refl, subst}
use Rattle.nr_model.specs.Bytes.{Bytes}
use Rattle.nr_model.specs.Items.{Connection}
use Rattle.nr_model.specs.Nodes.Steps.{Feed, Close}
use Rattle.nr_entry.specs.Jobs.{connection_of}
use Rattle.nr_world.specs.Seen.{outcome_seen}
use Rattle.nr_world.specs.Taken.{Steps}
use Rattle.nr_script.specs.Acts.{asked_by}
use Rattle.nr_script.proofs.Acted.{took, missed, asks_step, asks_nobody}
use Rattle.nr_script.proofs.player.act.Goals as goal

pub returns-in_default-clause-acted : goal.returns-in_default-clause-acted
returns-in_default-clause-acted c =
    let all = c.args.opened.now in
    let past : length all ≤ c.in-Feed.connection = search (rules, c.in_default.ensures) in
    missed _ _ _ _ _ _ _
    (asks_nobody c.args.step.now (λ (x : Connection). Feed x c.in-Feed.moment c.in-Feed.bytes) c.in-Feed.connection all (ap (asked_by all) c.in-Feed.is) past)
    refl c.in_ok-show-in-Feed.ensures.opened c.in_ok-show-in-Feed.ensures.out

pub returns-in_default-conn_of-clause-acted : goal.returns-in_default-conn_of-clause-acted
returns-in_default-conn_of-clause-acted c =
    let all = c.args.opened.now in
    let past : length all ≤ c.in-Close.connection = search (rules, c.in_default-conn_of.ensures) in
    missed _ _ _ _ _ _ _
    (asks_nobody c.args.step.now (λ (x : Connection). Close x c.in-Close.moment) c.in-Close.connection all (ap (asked_by all) c.in-Close.is) past)
    refl c.in_ok-show-in-Close.ensures.opened c.in_ok-show-in-Close.ensures.out

pub returns-in_ok-show-in-Feed-2-clause-acted : goal.returns-in_ok-show-in-Feed-2-clause-acted
returns-in_ok-show-in-Feed-2-clause-acted c =
    let all = c.args.opened.now in
    let conn = connection_of c.in-Some.conn in
    let same : c.bytes.result.now ≡ c.in-Feed.bytes = search rules in
    let takes = subst (λ (b : Bytes). Steps c.args.world.now c.feed.new.self (Feed conn c.in-Feed.moment b) (outcome_seen c.in_ok-outcome-in-Feed.outcome)) same
    c.in_ok-outcome-in-Feed.ensures.taken in
    took _ (Feed conn c.in-Feed.moment c.in-Feed.bytes) c.in_ok-outcome-in-Feed.outcome _ _ _ _ _ _
    (asks_step c.args.step.now (λ (x : Connection). Feed x c.in-Feed.moment c.in-Feed.bytes) c.in-Feed.connection all conn (ap (asked_by all) c.in-Feed.is)
    c.in-Some.ensures.0 c.in-Some.ensures.1)
    takes c.in_ok-show-in-Feed-2.ensures.opened c.in_ok-show-in-Feed-2.ensures.out

pub returns-in_ok-show-in-Close-2-clause-acted : goal.returns-in_ok-show-in-Close-2-clause-acted
returns-in_ok-show-in-Close-2-clause-acted c =
    let all = c.args.opened.now in
    let conn = connection_of c.in-Some-conn_of.conn in
    took _ (Close conn c.in-Close.moment) c.in_ok-outcome-in-Close.outcome _ _ _ _ _ _
    (asks_step c.args.step.now (λ (x : Connection). Close x c.in-Close.moment) c.in-Close.connection all conn (ap (asked_by all) c.in-Close.is)
    c.in-Some-conn_of.ensures.0 c.in-Some-conn_of.ensures.1)
    c.in_ok-outcome-in-Close.ensures.taken c.in_ok-show-in-Close-2.ensures.opened c.in_ok-show-in-Close-2.ensures.out
