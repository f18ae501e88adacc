-- What a walk over the items of a list has left.
use Rattle.std.specs.Prelude.{List}
use Rattle.nr_model.specs.Bytes.{Bytes}
use Rattle.nr_lists.specs.declared.walk.Rest.{Rest}
use Rattle.nr_lists.specs.declared.walk.Rest.TheVariants as rest

abbrev pub left : Rest → List Bytes
left (rest.Small items) = items
left (rest.Large items) = items
