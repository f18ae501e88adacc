use Rattle.std.proofs.Common.{◌≡◌, Some, None, cond, rules, ap, sym, ◌∙◌}
use Rattle.std.specs.List.{slice_get}
use Rattle.nr_model.specs.SortedSets.{Scored, ranked, is_between}
use Rattle.nr_zbounds.specs.Ranges.{seen_bounds}
use Rattle.nr_zsets.specs.Forms.{items_of}
use Rattle.nr_zsets.proofs.Ranges.{held_there}
use Rattle.nr_zsets.proofs.zset.Zset.held_at.Goals as goal

pub returns-then-holds : goal.returns-then-holds
returns-then-holds c =
    let bounds = seen_bounds c.args.bounds.now in
    let x : Scored = (c.in-Some.member.now, c.in-Some.score) in
    let at : Some x ≡ slice_get (items_of c.self.inside.form) c.args.place = search (rules, c.in-Some.ensures) in
    let own : c.holds.result ≡ is_between bounds x = search (rules, c.holds.ensures) in
    let is = held_there bounds (items_of c.self.inside.form) (ranked c.args.self.now) c.args.place x c.holds.result (c.self.invariant.ordered ∙ ap ranked c.self.view_is) at own in
    let found = sym (is ∙ ap (λ b. cond b (Some x) None) c.if-holds.true) in
    search (rules, found)

pub returns-else-holds : goal.returns-else-holds
returns-else-holds c =
    let bounds = seen_bounds c.args.bounds.now in
    let x : Scored = (c.in-Some.member.now, c.in-Some.score) in
    let at : Some x ≡ slice_get (items_of c.self.inside.form) c.args.place = search (rules, c.in-Some.ensures) in
    let own : c.holds.result ≡ is_between bounds x = search (rules, c.holds.ensures) in
    let is = held_there bounds (items_of c.self.inside.form) (ranked c.args.self.now) c.args.place x c.holds.result (c.self.invariant.ordered ∙ ap ranked c.self.view_is) at own in
    sym (is ∙ ap (λ b. cond b (Some x) None) c.if-holds.false)
