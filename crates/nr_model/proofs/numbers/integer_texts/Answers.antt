use Rattle.std.proofs.Common.{◌≡◌, Some, subst, sym}
use Rattle.nr_model.specs.Bytes.{Bytes}
use Rattle.nr_model.specs.Numbers.{int_value}
use Rattle.nr_model.proofs.IntegerTexts.{text_of_value, value_of_text}
use Rattle.nr_model.proofs.numbers.integer_texts.Goals as goal

pub returns-clause-found : goal.returns-clause-found
returns-clause-found c = text_of_value

pub returns-clause-only : goal.returns-clause-only
returns-clause-only c = λ text z h. subst (λ (t : Bytes). int_value t ≡ Some z) (sym h.1) (value_of_text z h.0)
