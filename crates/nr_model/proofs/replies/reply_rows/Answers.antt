-- Each row computes.
use Rattle.std.proofs.Common.{refl}
use Rattle.std.specs.Fmt.{digits}
use Rattle.nr_model.proofs.replies.reply_rows.Goals as goal

pub returns : goal.returns
unfolding digits
returns c = record {
  simple = refl;
  simple_empty = refl;
  error = refl;
  zero = refl;
  minus_five = refl;
  greatest = refl;
  least = refl;
  bulk = refl;
  bulk_of_two_digits = refl;
  empty_bulk = refl;
  null_bulk = refl;
  null_array = refl;
  empty_array = refl;
  subscribed = refl;
  nested = refl;
}
