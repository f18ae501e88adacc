use Rattle.std.proofs.Common.{◌≡◌, Some, rules, ap, sym, ◌∙◌, arith, length}
use Rattle.std.specs.FinMap as finmap
use Rattle.std.specs.List as lists
use Rattle.std.specs.Option.{option_map}
use Rattle.nr_model.specs.Bytes.{Bytes}
use Rattle.nr_model.specs.SortedSets.{Scored, Scores, ranked}
use Rattle.nr_ordered.proofs.Parts.{got}
use Rattle.nr_zsets.specs.Forms.{items_of}
use Rattle.nr_zsets.specs.Scores.{scores_of}
use Rattle.nr_zsets.proofs.Ranked.{length-ranked, taken_at, score_at, not_None}
use Rattle.nr_zsets.proofs.Indexed.{seen_as, sorted_without}
use Rattle.nr_zsets.proofs.zset.Zset.take_at.Goals as goal

pub unreachable-requires : goal.unreachable-requires
unreachable-requires c =
    let size = ap length (c.self.invariant.ordered ∙ ap ranked c.self.view_is) ∙ length-ranked c.args.self.now in
    let one = got (items_of c.self.inside.form) c.args.place (omega (arith, size, c.requires)) in
    not_None one.0 (sym one.1 ∙ sym c.in_default.ensures)

pub remove-requires-2 : goal.remove-requires-2
remove-requires-2 c =
    let size = ap length (c.self.invariant.ordered ∙ ap ranked c.self.view_is) ∙ length-ranked c.args.self.now in
    omega (arith, size, c.requires)

pub invariant_of-self : goal.invariant_of-self
invariant_of-self c =
    let xs = (items_of c.self.inside.form) in
    let x : Scored = (c.in-Some.bytes.now, c.in-Some.score) in
    let at : Some x ≡ lists.slice_get xs c.args.place = search (rules, c.in-Some.ensures) in
    let stands = ap (λ ys. lists.slice_get ys c.args.place) (sym c.self.invariant.ordered) ∙ sym at in
    let out = c.remove-2.ensures.items ∙ ap (λ ys. lists.remove ys c.args.place) c.self.invariant.ordered ∙ taken_at (scores_of xs) c.args.place x stands in
    sorted_without c.self.inside.index c.remove.new.self xs (items_of c.remove-2.new.self) c.self.invariant.ordered x (score_at (scores_of xs) c.args.place x stands)
    c.self.invariant.indexed
    (c.remove.ensures ∙ ap (λ (m : Bytes). option_map (λ (scores : Scores). finmap.remove scores m) c.self.inside.index) c.in_ok-member.ensures.copied) out

pub returns-clause-removed : goal.returns-clause-removed
returns-clause-removed c =
    let xs = (items_of c.self.inside.form) in
    let x : Scored = (c.in-Some.bytes.now, c.in-Some.score) in
    let at : Some x ≡ lists.slice_get xs c.args.place = search (rules, c.in-Some.ensures) in
    let stands = ap (λ ys. lists.slice_get ys c.args.place) (sym c.self.invariant.ordered) ∙ sym at in
    let out = c.remove-2.ensures.items ∙ ap (λ ys. lists.remove ys c.args.place) c.self.invariant.ordered ∙ taken_at (scores_of xs) c.args.place x stands in
    seen_as (items_of c.remove-2.new.self) (finmap.remove (scores_of xs) x.0) out
    ∙ ap (λ (m : Bytes). finmap.remove (scores_of xs) m) (sym c.in_ok-member.ensures.copied)
    ∙ ap (λ m. finmap.remove m c.in_ok-member.member) c.self.view_is

pub returns-clause-left : goal.returns-clause-left
returns-clause-left c =
    let x : Scored = (c.in-Some.bytes.now, c.in-Some.score) in
    let at : Some x ≡ lists.slice_get (items_of c.self.inside.form) c.args.place = search (rules, c.in-Some.ensures) in
    ap ranked (returns-clause-removed c ∙ ap (λ (m : Bytes). finmap.remove c.args.self.now m) c.in_ok-member.ensures.copied)
    ∙ sym (taken_at c.args.self.now c.args.place x (ap (λ xs. lists.slice_get xs c.args.place) (sym (c.self.invariant.ordered ∙ ap ranked c.self.view_is)) ∙ sym at))
