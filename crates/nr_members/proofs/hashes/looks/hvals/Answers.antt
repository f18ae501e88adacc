use Rattle.nr_model.specs.Keyspace.{live}
use Rattle.std.specs.FinMap as finmap
use Rattle.nr_members.proofs.HashesListed.{no_values, none_listed}
use Rattle.nr_members.proofs.hashes.looks.hvals.Goals as goal

pub returns-in_default : goal.returns-in_default
returns-in_default c =
    none_listed finmap.values (λ hash. hash.now) (live c.args.keyspace.now c.args.now) c.args.database c.args.words.now c.in_ok-name.name.now c.in_ok-hash.field-0 _
    no_values c.in_ok-name.ensures.word c.in_ok-hash.ensures.hash c.in_default.is c.no_items.ensures
