-- How many items there are once some were put in.
use Rattle.std.proofs.Common.{◌≡◌, ◌+◌, ◌<◌, List, [], ◌∷◌, length, arith}
use Rattle.std.proofs.lemmas.List.{length_push}
use Rattle.nr_model.specs.Bytes.{Bytes}
use Rattle.nr_model.specs.Lists.{pushed}
use Rattle.nr_model.specs.Commands.Lists.{pushed_all}
use Rattle.nr_model.specs.declared.command.End.{End}
use Rattle.nr_model.specs.declared.command.End.TheVariants.{Left, Right}

one_more : (end : End) (item : Bytes) (list : List Bytes) → length (pushed end item list) ≡ length list + 1
one_more Left item list = omega arith
one_more Right item list = omega (arith, length_push list item)

length-pushed_all : (end : End) (items list : List Bytes) → length (pushed_all end items list) ≡ length list + length items
length-pushed_all end [] list = omega arith
length-pushed_all end (item ∷ items) list = omega (arith, length-pushed_all end items (pushed end item list), one_more end item list)

pub some_pushed : (end : End) (items : List Bytes) → 0 < length items → 0 < length (pushed_all end items [])
some_pushed end items some = omega (arith, some, length-pushed_all end items [])
