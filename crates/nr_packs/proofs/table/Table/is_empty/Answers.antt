use Rattle.std.proofs.Common.{◌∙◌, ap, sym, eq-eqb}
use Rattle.std.specs.FinMap as map
use Rattle.std.proofs.lemmas.Bool.{eqb-true}
use Rattle.nr_model.specs.Bytes.{Bytes}
use Rattle.nr_model.specs.Keyspace.{byte_cmp}
use Rattle.nr_packs.proofs.table.Table.is_empty.Goals as goal

pub returns : goal.returns
returns c = (
  λ empty. map.empty_of_len c.args.self.now (sym c.len.ensures.len ∙ eqb-true c.len.result 0 empty),
  λ none. eq-eqb c.len.result 0 (c.len.ensures.len ∙ ap map.len none ∙ map.len-empty byte_cmp Bytes),
)
