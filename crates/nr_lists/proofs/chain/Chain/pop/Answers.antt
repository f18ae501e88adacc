use Rattle.std.proofs.Common.{◌≡◌, ◌∙◌, ◌^◌, ap, sym, List, ◌++◌, ◌∷◌}
use Rattle.std.specs.Prelude.{Option}
use Rattle.std.specs.Option.{option_to_list}
use Rattle.nr_model.specs.Bytes.{Bytes}
use Rattle.nr_model.specs.Lists.{seen_from}
use Rattle.nr_lists.specs.Packed.{joined}
use Rattle.nr_lists.proofs.Listed.{popped_item, popped_left, popped_counted, one_less}
use Rattle.nr_lists.proofs.chain.Chain.pop.Goals as goal

pub returns-clause-item : goal.returns-clause-item
returns-clause-item c =
    let seen : seen_from c.args.end (joined c.self.inside.blocks.items) ≡ c.in-Some.item ∷ seen_from c.args.end (joined c.pop.new.blocks.items) =
    c.in_ok-item.ensures.item ∙ ap (λ (o : Option Bytes). option_to_list o ++ seen_from c.args.end (joined c.pop.new.blocks.items)) c.in-Some.is in
    popped_item c.args.end c.args.self.now (joined c.pop.new.blocks.items) c.in-Some.item
    (ap (λ (xs : List Bytes). seen_from c.args.end xs) (sym c.self.view_is) ∙ seen)

pub returns-clause-left : goal.returns-clause-left
returns-clause-left c =
    let seen : seen_from c.args.end (joined c.self.inside.blocks.items) ≡ c.in-Some.item ∷ seen_from c.args.end (joined c.pop.new.blocks.items) =
    c.in_ok-item.ensures.item ∙ ap (λ (o : Option Bytes). option_to_list o ++ seen_from c.args.end (joined c.pop.new.blocks.items)) c.in-Some.is in
    popped_left c.args.end c.args.self.now (joined c.pop.new.blocks.items) c.in-Some.item
    (ap (λ (xs : List Bytes). seen_from c.args.end xs) (sym c.self.view_is) ∙ seen)

pub invariant_of-self-2 : goal.invariant_of-self-2
invariant_of-self-2 c =
    let seen : seen_from c.args.end (joined c.self.inside.blocks.items) ≡ c.in-Some.item ∷ seen_from c.args.end (joined c.pop.new.blocks.items) =
    c.in_ok-item.ensures.item ∙ ap (λ (o : Option Bytes). option_to_list o ++ seen_from c.args.end (joined c.pop.new.blocks.items)) c.in-Some.is in
    record {
      counted = popped_counted c.args.end (joined c.self.inside.blocks.items) (joined c.pop.new.blocks.items) c.in-Some.item seen c.self.inside.len c.self.invariant.counted;
      few = one_less c.self.inside.len (2 ^ 63) c.self.invariant.few;
    }
