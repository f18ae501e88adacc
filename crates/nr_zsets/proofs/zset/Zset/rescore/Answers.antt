use Rattle.std.proofs.Common.{◌≡◌, rules, w64, to_z, of_z, ap, sym, ◌∙◌, arith, length}
use Rattle.std.specs.FinMap as finmap
use Rattle.std.specs.Option.{option_map}
use Rattle.nr_model.specs.Bytes.{Bytes}
use Rattle.nr_model.specs.SortedSets.{Scored, Scores, ranked}
use Rattle.nr_zsets.specs.Forms.{items_of}
use Rattle.nr_zsets.specs.Lists.{moved}
use Rattle.nr_zsets.specs.Scores.{scores_of}
use Rattle.nr_zsets.proofs.Ranked.{found_place, length-ranked, unchanged}
use Rattle.nr_zsets.proofs.Indexed.{seen_as, sorted_anew, written_there}
use Rattle.nr_zsets.proofs.Moves.{stands_at, moved_there}
use Rattle.nr_zsets.proofs.zset.Zset.rescore.Goals as goal

pub returns-then-score-before-clause-ok : goal.returns-then-score-before-clause-ok
returns-then-score-before-clause-ok c =
    let bits : of_z w64 c.args.score ≡ of_z w64 c.args.before = c.if-score-before.true in
    let a : to_z w64 (of_z w64 c.args.score) ≡ c.args.score = search rules in
    let b : to_z w64 (of_z w64 c.args.before) ≡ c.args.before = search rules in
    sym (ap (finmap.insert c.args.self.now c.args.member.now) (sym a ∙ ap (to_z w64) bits ∙ b)
    ∙ unchanged c.args.self.now (c.args.member.now, c.args.before) c.requires)

pub move_item-requires-clause-stands : goal.move_item-requires-clause-stands
move_item-requires-clause-stands c =
    let scores = scores_of (items_of c.self.inside.form) in
    let x : Scored = (c.args.member.now, c.args.before) in
    let there = ap (λ m. finmap.get m c.args.member.now) c.self.view_is ∙ c.requires in
    let named = ap (λ (m : Bytes). let named : Scored = (m, c.args.before) in named) c.bytes-bytes.ensures in
    let place = found_place (items_of c.self.inside.form) scores x (c.bytes-bytes.result.now, c.args.before) c.find-from.result c.self.invariant.ordered named
    (search (rules, c.find-from.ensures.place)) in
    stands_at (items_of c.self.inside.form) scores x c.find-from.result c.bytes-bytes.result.now c.self.invariant.ordered place there c.bytes-bytes.ensures

pub move_item-requires-clause-fits : goal.move_item-requires-clause-fits
move_item-requires-clause-fits c =
    let size = ap length (c.self.invariant.ordered ∙ ap ranked c.self.view_is) ∙ length-ranked c.args.self.now in
    omega (arith, size, c.len-few.ensures.len, c.len-few.ensures.small)

pub invariant_of-self-2 : goal.invariant_of-self-2
invariant_of-self-2 c =
    let scores = scores_of (items_of c.self.inside.form) in
    let member = c.args.member.now in
    let x : Scored = (member, c.args.before) in
    let y : Scored = (member, c.args.score) in
    let there = ap (λ m. finmap.get m member) c.self.view_is ∙ c.requires in
    let named = ap (λ (m : Bytes). let named : Scored = (m, c.args.before) in named) c.bytes-bytes.ensures in
    let named_anew = ap (λ (m : Bytes). let named : Scored = (m, c.args.score) in named) c.bytes-bytes.ensures in
    let from = found_place (items_of c.self.inside.form) scores x (c.bytes-bytes.result.now, c.args.before) c.find-from.result c.self.invariant.ordered named
    (search (rules, c.find-from.ensures.place)) in
    let to = found_place (items_of c.self.inside.form) scores y (c.bytes-bytes.result.now, c.args.score) c.find-to.result c.self.invariant.ordered named_anew
    (search (rules, c.find-to.ensures.place)) in
    let put : (items_of c.move_item.new.form) ≡ moved (items_of c.self.inside.form) c.find-from.result c.find-to.result (c.bytes-bytes.result.now, c.args.score) =
    search (rules, c.in_ok-move_item.ensures.moved) in
    let told : c.write.new.self ≡ option_map (λ (held : Scores). finmap.insert held member c.args.score) c.self.inside.index = search (rules, c.write.ensures) in
    sorted_anew c.self.inside.index c.write.new.self (items_of c.self.inside.form) (items_of c.move_item.new.form) c.self.invariant.ordered y c.args.before there
    c.self.invariant.indexed told
    (moved_there (items_of c.self.inside.form) (items_of c.move_item.new.form) scores member c.args.before c.args.score c.find-from.result c.find-to.result
    c.self.invariant.ordered there from to (put ∙ ap (moved (items_of c.self.inside.form) c.find-from.result c.find-to.result) named_anew))

pub write-requires : goal.write-requires
write-requires c =
    written_there c.self.inside.index (items_of c.self.inside.form) c.args.member.now c.args.before c.self.invariant.indexed
    (ap (λ m. finmap.get m c.args.member.now) c.self.view_is ∙ c.requires)

pub returns-clause-ok : goal.returns-clause-ok
returns-clause-ok c =
    let scores = scores_of (items_of c.self.inside.form) in
    let member = c.args.member.now in
    let x : Scored = (member, c.args.before) in
    let y : Scored = (member, c.args.score) in
    let there = ap (λ m. finmap.get m member) c.self.view_is ∙ c.requires in
    let named = ap (λ (m : Bytes). let named : Scored = (m, c.args.before) in named) c.bytes-bytes.ensures in
    let named_anew = ap (λ (m : Bytes). let named : Scored = (m, c.args.score) in named) c.bytes-bytes.ensures in
    let from = found_place (items_of c.self.inside.form) scores x (c.bytes-bytes.result.now, c.args.before) c.find-from.result c.self.invariant.ordered named
    (search (rules, c.find-from.ensures.place)) in
    let to = found_place (items_of c.self.inside.form) scores y (c.bytes-bytes.result.now, c.args.score) c.find-to.result c.self.invariant.ordered named_anew
    (search (rules, c.find-to.ensures.place)) in
    let put : (items_of c.move_item.new.form) ≡ moved (items_of c.self.inside.form) c.find-from.result c.find-to.result (c.bytes-bytes.result.now, c.args.score) =
    search (rules, c.in_ok-move_item.ensures.moved) in
    seen_as (items_of c.move_item.new.form) (finmap.insert scores member c.args.score)
    (moved_there (items_of c.self.inside.form) (items_of c.move_item.new.form) scores member c.args.before c.args.score c.find-from.result c.find-to.result
    c.self.invariant.ordered there from to (put ∙ ap (moved (items_of c.self.inside.form) c.find-from.result c.find-to.result) named_anew))
    ∙ ap (λ m. finmap.insert m member c.args.score) c.self.view_is
