use Rattle.std.proofs.Common.{◌≡◌, rules, ap, ◌∙◌}
use Rattle.std.specs.FinMap as finmap
use Rattle.std.specs.List as lists
use Rattle.std.specs.Option.{option_map}
use Rattle.nr_model.specs.Bytes.{Bytes}
use Rattle.nr_model.specs.SortedSets.{Scored, Scores}
use Rattle.nr_zsets.specs.Forms.{items_of}
use Rattle.nr_zsets.specs.Scores.{scores_of}
use Rattle.nr_zsets.proofs.Sorted.{removed_again}
use Rattle.nr_zsets.proofs.Ranked.{found_place, added_there}
use Rattle.nr_zsets.proofs.Indexed.{seen_as, sorted_with, sorted_still}
use Rattle.nr_zsets.proofs.zset.Zset.add.Goals as goal

pub invariant_of-self-in-Err : goal.invariant_of-self-in-Err
invariant_of-self-in-Err c =
    let xs = (items_of c.self.inside.form) in
    let x : Scored = (c.bytes-bytes.result.now, c.args.score) in
    let put : (items_of c.insert.new.self) ≡ lists.insert xs c.find-place.result x = search (rules, c.in_ok-insert.ensures.put) in
    sorted_still c.make_room.new.self c.insert-2.new.self xs (items_of c.remove.new.self) c.self.invariant.ordered c.in_ok-make_room.ensures.ok c.in-Err.ensures.err
    (c.remove.ensures.items ∙ ap (λ ys. lists.remove ys c.find-place.result) put ∙ removed_again xs c.find-place.result x c.find-place.ensures.within)

pub returns-in-Err-clause-err : goal.returns-in-Err-clause-err
returns-in-Err-clause-err c =
    let xs = (items_of c.self.inside.form) in
    let x : Scored = (c.bytes-bytes.result.now, c.args.score) in
    let put : (items_of c.insert.new.self) ≡ lists.insert xs c.find-place.result x = search (rules, c.in_ok-insert.ensures.put) in
    ap (λ es. scores_of es)
    (c.remove.ensures.items ∙ ap (λ ys. lists.remove ys c.find-place.result) put ∙ removed_again xs c.find-place.result x c.find-place.ensures.within)
    ∙ c.self.view_is

pub invariant_of-self-in_default : goal.invariant_of-self-in_default
invariant_of-self-in_default c =
    let xs = (items_of c.self.inside.form) in
    let scores = scores_of xs in
    let x : Scored = (c.args.member, c.args.score) in
    let y : Scored = (c.bytes-bytes.result.now, c.args.score) in
    let same : y ≡ x = ap (λ (m : Bytes). let named : Scored = (m, c.args.score) in named) c.bytes-bytes.ensures in
    let place = found_place xs scores x y c.find-place.result c.self.invariant.ordered same (search (rules, c.find-place.ensures.place)) in
    let put = added_there xs (items_of c.insert.new.self) scores x y c.find-place.result c.self.invariant.ordered place same
    (ap (λ m. finmap.get m c.args.member) c.self.view_is ∙ c.requires) (search (rules, c.in_ok-insert.ensures.put)) in
    let told : c.insert-2.new.self ≡ option_map (λ (held : Scores). finmap.insert held c.args.member c.args.score) c.make_room.new.self =
    search (rules, c.in_default.ensures.ok) in
    sorted_with c.make_room.new.self c.insert-2.new.self xs (items_of c.insert.new.self) c.self.invariant.ordered x c.in_ok-make_room.ensures.ok
    told put

pub returns-clause-ok : goal.returns-clause-ok
returns-clause-ok c =
    let xs = (items_of c.self.inside.form) in
    let scores = scores_of xs in
    let x : Scored = (c.args.member, c.args.score) in
    let y : Scored = (c.bytes-bytes.result.now, c.args.score) in
    let same : y ≡ x = ap (λ (m : Bytes). let named : Scored = (m, c.args.score) in named) c.bytes-bytes.ensures in
    let place = found_place xs scores x y c.find-place.result c.self.invariant.ordered same (search (rules, c.find-place.ensures.place)) in
    let put = added_there xs (items_of c.insert.new.self) scores x y c.find-place.result c.self.invariant.ordered place same
    (ap (λ m. finmap.get m c.args.member) c.self.view_is ∙ c.requires) (search (rules, c.in_ok-insert.ensures.put)) in
    seen_as (items_of c.insert.new.self) (finmap.insert scores c.args.member c.args.score) put
    ∙ ap (λ m. finmap.insert m c.args.member c.args.score) c.self.view_is
