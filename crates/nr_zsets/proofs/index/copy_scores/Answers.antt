use Rattle.std.proofs.Common.{◌≡◌, Some, rules, ap, ◌∙◌, subst}
use Rattle.std.specs.Str.{bytes_eq}
use Rattle.std.specs.Map.{lookup}
use Rattle.std.specs.Map.Iter.{deref_pair}
use Rattle.std.specs.FinMap as finmap
use Rattle.std.proofs.lemmas.Map.Iter.{rest_more, rest_all}
use Rattle.nr_model.specs.Bytes.{Bytes}
use Rattle.nr_zsets.specs.Scores.{scores_of}
use Rattle.nr_zsets.proofs.Mapped.{IsCopied, copied_none, copied_more, copied_all, inserted}
use Rattle.nr_zsets.proofs.index.copy_scores.Goals as goal

pub loop-member-init : goal.loop-member-init
loop-member-init c = copied_none c.args.scores.now.entries _ _ c.iter-member-items.ensures.unique c.in_ok-copied.ensures.empty
    (c.into_iter-member-iterator.ensures.into_iter_gives ∙ c.iter-member-items.ensures.rest)

pub loop-member-preserved : goal.loop-member-preserved
loop-member-preserved c =
    let all = scores_of c.args.scores.now.entries in
    let copied = c.loop-member.copied.entries in
    let one = deref_pair (c.in-Some.member, c.in-Some.score) in
    let parts = rest_more deref_pair c.loop-member.member-iterator c.next.new.self c.next.result
    (c.in-Some.member, c.in-Some.score) c.in-Some.is c.next.ensures.steps in
    let changes = c.in_ok-insert.ensures.updates in
    let at : lookup (bytes_eq c.in_ok-copy.field-0) c.insert.new.self.entries ≡ Some c.in-Some.score.now = search (rules, changes.1) in
    copied_more all copied c.insert.new.self.entries one c.next.new.self
    (subst (IsCopied all copied) parts c.loop-member.invariant)
    (inserted copied c.insert.new.self.entries c.in_ok-copy.field-0 c.in-Some.score.now at changes.3
    ∙ ap (λ (m : Bytes). finmap.insert (scores_of copied) m c.in-Some.score.now) c.in_ok-copy.ensures.copied)

pub returns : goal.returns
returns c =
    let all = scores_of c.args.scores.now.entries in
    copied_all all c.loop-member.copied.entries
    (subst (IsCopied all c.loop-member.copied.entries)
    (rest_all deref_pair c.loop-member.member-iterator c.next.new.self c.next.result c.in-None.is c.next.ensures.steps) c.loop-member.invariant)
