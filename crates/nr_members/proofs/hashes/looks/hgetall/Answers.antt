use Rattle.nr_model.specs.Keyspace.{live}
use Rattle.nr_model.specs.Hashes.{in_turn}
use Rattle.nr_members.proofs.HashesListed.{no_turns, none_listed}
use Rattle.nr_members.proofs.hashes.looks.hgetall.Goals as goal

pub returns-in_default : goal.returns-in_default
returns-in_default c =
    none_listed in_turn (λ hash. hash.now) (live c.args.keyspace.now c.args.now) c.args.database c.args.words.now c.in_ok-name.name.now c.in_ok-hash.field-0 _
    no_turns c.in_ok-name.ensures.word c.in_ok-hash.ensures.hash c.in_default.is c.no_items.ensures
