use Rattle.std.proofs.Common.{rules, ◌≡◌, min, length, take, sym, ap, ◌∙◌}
use Rattle.std.specs.Prelude.{flat_map}
use Rattle.nr_model.specs.Replies.{array}
use Rattle.nr_model.specs.SortedSets.{ranked, told_in, without}
use Rattle.nr_model.specs.Commands.SortedSets.{with_score, scored_array, rescored}
use Rattle.nr_resp.specs.Seen.{reply_of}
use Rattle.nr_ranked.proofs.Taken.{most_taken, most_counted}
use Rattle.nr_ranked.proofs.popping.taking.TakingSortedSetEdit.edit.Goals as goal

pub returns-clause-ok : goal.returns-clause-ok
returns-clause-ok c = λ keyspace key.
    let old = c.args.zset.now in
    let direction = c.args.self.direction in
    let told = told_in direction (ranked old) in
    let gone = take c.args.self.count told in
    let least : c.min-count.result ≡ min c.args.self.count c.len.result = search rules in
    let first : take c.min-count.result told ≡ gone = ap (λ n. take n told) least ∙ most_taken direction old c.args.self.count c.len.result c.len.ensures.len in
    let many : c.min-count.result ≡ length gone = least ∙ most_counted direction old c.args.self.count c.len.result c.len.ensures.len in
    let left : c.take_first.new.zset ≡ without gone old = c.in_ok-replies.ensures.left ∙ ap (λ gone. without gone old) first in
    let reply : reply_of c.array-reply.result ≡ scored_array gone = c.array-reply.ensures ∙ ap array (c.in_ok-replies.ensures.replies ∙ ap (flat_map with_score) first) in
    sym (ap (λ n. rescored keyspace key c.take_first.new.zset n (reply_of c.array-reply.result)) many
    ∙ ap (λ scores. rescored keyspace key scores (length gone) (reply_of c.array-reply.result)) left
    ∙ ap (rescored keyspace key (without gone old) (length gone)) reply)
