-- What was read, with what is left to read, is the whole.
use Rattle.std.proofs.Common.{◌≡◌, ◌++◌, drop, option_map}
use Rattle.toml.specs.View.{items_view}
use Rattle.nr_config.specs.Keys.{bytes_of, texts_of}
use Rattle.nr_config.proofs.addresses.texts_in.Given as goal

abbrev pub invariant-loop-item : goal.invariant-loop-item
invariant-loop-item l =
    option_map (λ more. bytes_of l.texts ++ more) (texts_of (items_view (drop l.item-index l.items.items))) ≡ texts_of (items_view l.items.items)
