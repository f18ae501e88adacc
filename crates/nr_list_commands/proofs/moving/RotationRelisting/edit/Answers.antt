use Rattle.std.proofs.Common.{◌≡◌, ◌∙◌, ap, List, rules}
use Rattle.std.specs.Prelude.{Some}
use Rattle.nr_model.specs.Bytes.{Bytes}
use Rattle.nr_model.specs.Lists.{pushed, popped, item_at, index_of}
use Rattle.nr_list_commands.proofs.Moved.{rotated_item}
use Rattle.nr_list_commands.proofs.moving.RotationRelisting.edit.Goals as goal

pub returns : goal.returns
returns c =
    let old = c.args.list.now in
    let from = c.args.self.from in
    let to = c.args.self.to in
    let found : Some c.in_ok-shown.shown ≡ item_at (index_of from) old = search (rules, c.in-Some.ensures, c.in_ok-shown.ensures.copied, c.index_of.ensures) in (
      found,
      rotated_item from to old c.drop_item.new.list c.in_ok-shown.shown found (c.drop_item.ensures ∙ ap (λ (xs : List Bytes). popped from xs)
          (c.in_ok-push.ensures.ok ∙ ap (λ (y : Bytes). pushed to y old) c.in_ok-item.ensures.copied)),
      tt,
    )
