use Rattle.std.proofs.Common.{◌∙◌, sym}
use Rattle.std.specs.Cmp.Lexicographic.{nat_list_cmp_total}
use Rattle.std.proofs.lemmas.Map.Lookups.{exact_bytes}
use Rattle.nr_model.specs.Keyspace.{byte_cmp}
use Rattle.nr_model.proofs.Subscribed.{names-has}
use Rattle.nr_pubsub.proofs.Sets.{put_again, rising}
use Rattle.nr_pubsub.proofs.holding.contains.Goals as goal

pub returns-clause-test : goal.returns-clause-test
returns-clause-test c = c.contains.ensures ∙ sym (names-has c.args.set.now.keys c.args.name.now)

pub returns-clause-again : goal.returns-clause-again
returns-clause-again c there =
    put_again byte_cmp nat_list_cmp_total exact_bytes c.args.name.now c.args.set.now.keys (rising byte_cmp c.args.set.now.keys c.requires)
    (sym c.contains.ensures ∙ there)
