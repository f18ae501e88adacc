use Rattle.std.proofs.Common.{rules, refl, length}
use Rattle.std.proofs.lemmas.Option.{slice_get_read}
use Rattle.nr_server.proofs.serve.refused_at.Goals as goal

pub returns : goal.returns
returns c = record {
  one = c.index-addresses-place.result;
  there = slice_get_read c.args.addresses.now (length c.args.addresses.now) c.args.place c.index-addresses-place.result refl c.requires c.index-addresses-place.is;
  refused = search (rules, c.in_ok-fault.ensures, c.as_str.ensures.value);
}
