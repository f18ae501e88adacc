use Rattle.std.proofs.Common.{length, ap, ◌∙◌}
use Rattle.std.specs.FinMap as map
use Rattle.nr_keyspace.specs.Names.{live_store}
use Rattle.nr_keyspace.specs.Stores.{bytes_of, store_of}
use Rattle.nr_keyspace.proofs.Counted.{len_entries, count_within, others}
use Rattle.nr_keyspace.proofs.database.Database.len.Goals as goal

pub overflow_sub-result : goal.overflow_sub-result
overflow_sub-result c =
    let entries = c.self.inside.by_name.entries in
    let store = store_of bytes_of entries in
    count_within (map.len (live_store store c.args.now)) c.count_expired.result (map.len store) (length entries) c.len.result
    (c.count_expired.ensures store c.self.invariant) (len_entries entries c.len.ensures.unique) c.len.ensures.len

pub returns-clause-count : goal.returns-clause-count
returns-clause-count c =
    let entries = c.self.inside.by_name.entries in
    let store = store_of bytes_of entries in
    others (map.len (live_store store c.args.now)) c.count_expired.result (map.len store) (length entries) c.len.result
    (c.count_expired.ensures store c.self.invariant) (len_entries entries c.len.ensures.unique) c.len.ensures.len
    ∙ ap (λ s. map.len (live_store s c.args.now)) c.self.view_is
