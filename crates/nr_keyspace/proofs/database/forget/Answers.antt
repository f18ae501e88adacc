use Rattle.std.proofs.Common.{rules, ap, ◌∙◌}
use Rattle.std.specs.FinMap as map
use Rattle.std.proofs.lemmas.Map.Made.{filter_same_pairs}
use Rattle.nr_model.specs.Bytes.{Bytes}
use Rattle.nr_keyspace.specs.Stores.{bytes_of, store_of}
use Rattle.nr_keyspace.proofs.Named.{removed, is_elsewhere, others_left}
use Rattle.nr_keyspace.proofs.database.forget.Goals as goal

pub returns-in_default : goal.returns-in_default
returns-in_default c = others_left c.args.by_name.now.entries c.retain.new.self.entries c.args.name.now
    (filter_same_pairs _ (is_elsewhere c.args.name.now) _ (λ held entry kept new f' ran. search rules) c.args.by_name.now.entries c.retain.new.self.entries
    c.retain.ensures.filtered)

pub returns : goal.returns
returns c =
    removed bytes_of c.args.by_name.now.entries c.remove.new.self.entries c.in-Ok.name c.remove.ensures.updates.1 c.remove.ensures.updates.3
    ∙ ap (λ (name : Bytes). map.remove (store_of bytes_of c.args.by_name.now.entries) name) c.in-Ok.ensures.copied
