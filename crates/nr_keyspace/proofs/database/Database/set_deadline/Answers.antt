use Rattle.std.proofs.Common.{not, ap, ◌∙◌, sym}
use Rattle.std.specs.FinMap as map
use Rattle.nr_model.specs.Keyspace.{only_live}
use Rattle.nr_keyspace.specs.Stores.{stored_of, redated, store_of, bytes_of}
use Rattle.nr_keyspace.proofs.Changes.{redated_live}
use Rattle.nr_keyspace.proofs.database.Database.set_deadline.Goals as goal

pub invariant_of-self-2 : goal.invariant_of-self-2
invariant_of-self-2 c =
    redated_live c.args.now (λ entry. stored_of entry.now) c.live.result c.self.inside.by_name.entries c.redate.new.by_name.entries c.self.inside.deadlines
    c.replace.new.self c.args.name.now c.args.deadline c.self.invariant
    (c.live.ensures ∙ ap (λ store. only_live c.args.now (map.get store c.args.name.now)) (sym c.self.view_is))
    (c.is_none.ensures ∙ ap not c.if-is_none.false)
    (c.redate.ensures ∙ ap (λ deadline. redated (store_of bytes_of c.self.inside.by_name.entries) c.args.name.now
    (map.get (store_of bytes_of c.self.inside.by_name.entries) c.args.name.now) deadline) c.in_ok-kept.ensures.kept)
    c.in_ok-replace.ensures.ok
