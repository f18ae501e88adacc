use Rattle.std.proofs.Common.{◌≡◌, Some, rules, ap, sym, ◌∙◌}
use Rattle.std.specs.FinMap as finmap
use Rattle.nr_model.specs.Bytes.{Bytes}
use Rattle.nr_model.specs.SortedSets.{Scored}
use Rattle.nr_zsets.specs.Forms.{items_of}
use Rattle.nr_zsets.specs.Scores.{scores_of}
use Rattle.nr_zsets.proofs.Ranked.{found_place, low_there, taken_there}
use Rattle.nr_zsets.proofs.Indexed.{seen_as, nothing_gone, sorted_without, sorted_untaken}
use Rattle.nr_zsets.proofs.zset.Zset.remove.Goals as goal

pub invariant_of-self : goal.invariant_of-self
invariant_of-self c =
    sorted_untaken c.self.inside.index c.take.new.self (items_of c.self.inside.form) c.args.member.now c.self.invariant c.in_err-score.ensures.removed
    (sym c.in_err-score.ensures.was)

pub returns-in_err-score-clause-was : goal.returns-in_err-score-clause-was
returns-in_err-score-clause-was c =
    c.from_residual.ensures ∙ c.in_err-score.ensures.was ∙ ap (λ m. finmap.get m c.args.member.now) c.self.view_is

pub returns-in_err-score-clause-removed : goal.returns-in_err-score-clause-removed
returns-in_err-score-clause-removed c =
    sym (nothing_gone (scores_of (items_of c.self.inside.form)) c.args.member.now (sym c.in_err-score.ensures.was))
    ∙ ap (λ m. finmap.remove m c.args.member.now) c.self.view_is

pub remove-requires : goal.remove-requires
remove-requires c =
    let xs = (items_of c.self.inside.form) in
    let x : Scored = (c.args.member.now, c.in_ok-score.score) in
    let same = ap (λ (m : Bytes). let named : Scored = (m, c.in_ok-score.score) in named) c.bytes-bytes.ensures in
    let place = found_place xs (scores_of xs) x (c.bytes-bytes.result.now, c.in_ok-score.score) c.find-place.result c.self.invariant.ordered same
    (search (rules, c.find-place.ensures.place)) in
    low_there xs (scores_of xs) x c.find-place.result c.self.invariant.ordered place (sym c.in_ok-score.ensures.was)

pub invariant_of-self-2 : goal.invariant_of-self-2
invariant_of-self-2 c =
    let xs = (items_of c.self.inside.form) in
    let x : Scored = (c.args.member.now, c.in_ok-score.score) in
    let same = ap (λ (m : Bytes). let named : Scored = (m, c.in_ok-score.score) in named) c.bytes-bytes.ensures in
    let place = found_place xs (scores_of xs) x (c.bytes-bytes.result.now, c.in_ok-score.score) c.find-place.result c.self.invariant.ordered same
    (search (rules, c.find-place.ensures.place)) in
    let here = sym c.in_ok-score.ensures.was in
    sorted_without c.self.inside.index c.take.new.self xs (items_of c.remove.new.self) c.self.invariant.ordered x here c.self.invariant.indexed
    c.in_ok-score.ensures.removed
    (taken_there xs (items_of c.remove.new.self) (scores_of xs) x c.find-place.result c.self.invariant.ordered place here c.remove.ensures.items)

pub returns-clause-was : goal.returns-clause-was
returns-clause-was c =
    let is : Some c.in_ok-score.score ≡ finmap.get c.args.self.now c.args.member.now =
    c.in_ok-score.ensures.was ∙ ap (λ m. finmap.get m c.args.member.now) c.self.view_is in
    search (rules, is)

pub returns-clause-removed : goal.returns-clause-removed
returns-clause-removed c =
    let xs = (items_of c.self.inside.form) in
    let x : Scored = (c.args.member.now, c.in_ok-score.score) in
    let same = ap (λ (m : Bytes). let named : Scored = (m, c.in_ok-score.score) in named) c.bytes-bytes.ensures in
    let place = found_place xs (scores_of xs) x (c.bytes-bytes.result.now, c.in_ok-score.score) c.find-place.result c.self.invariant.ordered same
    (search (rules, c.find-place.ensures.place)) in
    seen_as (items_of c.remove.new.self) (finmap.remove (scores_of xs) c.args.member.now)
    (taken_there xs (items_of c.remove.new.self) (scores_of xs) x c.find-place.result c.self.invariant.ordered place (sym c.in_ok-score.ensures.was)
    c.remove.ensures.items)
    ∙ ap (λ m. finmap.remove m c.args.member.now) c.self.view_is
