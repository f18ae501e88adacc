use Rattle.std.proofs.Common.{Some, rules, ap, sym, ◌∙◌}
use Rattle.nr_model.specs.Bytes.{Bytes}
use Rattle.nr_model.specs.SortedSets.{Scored, ranked}
use Rattle.nr_zsets.specs.Forms.{items_of}
use Rattle.nr_zsets.proofs.Ranked.{found_place, length-ranked, within, rank_there, rank_missing}
use Rattle.nr_zsets.proofs.zset.Zset.rank.Goals as goal

pub returns-in_default-clause-rank : goal.returns-in_default-clause-rank
returns-in_default-clause-rank c = rank_missing c.args.direction c.args.self.now c.args.member.now (sym c.in_default.ensures)

pub told-requires : goal.told-requires
told-requires c =
    let x : Scored = (c.args.member.now, c.in-Some.score) in
    let same = ap (λ (m : Bytes). let named : Scored = (m, c.in-Some.score) in named) c.bytes-member.ensures in
    let place = found_place (items_of c.self.inside.form) c.args.self.now x (c.bytes-member.result.now, c.in-Some.score) c.find-place.result
    (c.self.invariant.ordered ∙ ap ranked c.self.view_is) same (search (rules, c.find-place.ensures.place)) in
    rw (place, c.len.ensures.len, ← length-ranked c.args.self.now) (within c.args.self.now x (sym c.in-Some.ensures))

pub returns-clause-rank : goal.returns-clause-rank
returns-clause-rank c =
    let x : Scored = (c.args.member.now, c.in-Some.score) in
    let same = ap (λ (m : Bytes). let named : Scored = (m, c.in-Some.score) in named) c.bytes-member.ensures in
    let place = found_place (items_of c.self.inside.form) c.args.self.now x (c.bytes-member.result.now, c.in-Some.score) c.find-place.result
    (c.self.invariant.ordered ∙ ap ranked c.self.view_is) same (search (rules, c.find-place.ensures.place)) in
    ap Some c.told.ensures.place
    ∙ rank_there c.args.direction c.args.self.now x c.find-place.result c.len.result (sym c.in-Some.ensures) place
    (c.len.ensures.len ∙ sym (length-ranked c.args.self.now))
