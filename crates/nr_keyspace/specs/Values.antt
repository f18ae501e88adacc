-- The values of the code as those of the definitions.
use Rattle.nr_model.specs.Keyspace as model
use Rattle.nr_keyspace.specs.declared.value.Value.{Value}
use Rattle.nr_keyspace.specs.declared.value.Value.TheVariants as kinds

-- the value that the code's value stands for
abbrev pub value_of : Value → model.Value
value_of (kinds.String text) = model.Text text
value_of (kinds.List list) = model.Items list
value_of (kinds.Hash hash) = model.Fields hash
value_of (kinds.Set members) = model.Members members
value_of (kinds.SortedSet scores) = model.Scores scores.value
