use Rattle.std.proofs.Common.{◌≡◌, inl, inr, true, false, sym, ◌∙◌}
use Rattle.std.proofs.lemmas.Bool.{not-true, not-false}
use Rattle.nr_node.proofs.Revived.{before_place, at_place}
use Rattle.nr_node.proofs.reviving.reach.Goals as goal

pub returns-then-not-advance_by-clause-before : goal.returns-then-not-advance_by-clause-before
returns-then-not-advance_by-clause-before g c = λ _.
    let stopped : c.advance_by.result ≡ false = search (c.if-not-advance_by.true) in
    let fewer = c.advance_by.ensures.fewer stopped in
    inl (
      before_place c.args.end.now.standing c.advance_by.new.end.standing fewer.0 c.args.place c.passed.result c.passed.ensures c.requires.behind fewer.2.passed fewer.1,
      c.advance_by.ensures.stopped stopped,
    )

pub returns-clause-reached : goal.returns-clause-reached
returns-clause-reached g c = λ is.
    let went : c.advance_by.result ≡ true = search (c.if-not-advance_by.false) in
    let all = c.advance_by.ensures.all went in (
      at_place c.args.end.now.standing c.advance_by.new.end.standing all.0 c.args.place c.passed.result c.passed.ensures c.requires.behind all.2.passed all.1,
      sym c.has_from.ensures ∙ not-true c.has_from.result is,
    )

pub returns-clause-before : goal.returns-clause-before
returns-clause-before g c = λ is.
    let went : c.advance_by.result ≡ true = search (c.if-not-advance_by.false) in
    let all = c.advance_by.ensures.all went in
    inr (
      at_place c.args.end.now.standing c.advance_by.new.end.standing all.0 c.args.place c.passed.result c.passed.ensures c.requires.behind all.2.passed all.1,
      sym c.has_from.ensures ∙ not-false c.has_from.result is,
    )
