use Rattle.std.proofs.Common.{not, sym, None, ap, ◌∙◌}
use Rattle.std.specs.FinMap as map
use Rattle.nr_model.specs.Keyspace as model
use Rattle.nr_keyspace.specs.Joined.{key_of}
use Rattle.nr_keyspace.specs.Stores.{is_undated}
use Rattle.nr_keyspace.specs.Seen.{seen_after}
use Rattle.nr_keyspace.specs.Values.{value_of}
use Rattle.nr_keyspace.proofs.Changes.{none_then}
use Rattle.nr_keyspace.proofs.Seen.{seen_insert, undated_seen, seen_undated}
use Rattle.nr_keyspace.proofs.keyspace.Keyspace.rewrite.Goals as goal

pub returns-clause-written : goal.returns-clause-written
returns-clause-written c =
    let key = key_of c.args.database c.args.name.now in
    let stored : model.Stored = record { value = value_of c.args.value; deadline = None } in
    let latest = c.self.inside.sweeps.latest in
    none_then c.rewrite.result c.rewrite.ensures.written (λ is.
    ap (seen_after latest) is ∙ seen_insert latest c.self.inside.databases key stored (undated_seen latest)
    ∙ ap (λ keyspace. map.insert keyspace key stored) c.self.view_is)

pub returns-clause-exact : goal.returns-clause-exact
returns-clause-exact c =
    let key = key_of c.args.database c.args.name.now in
    c.rewrite.ensures.exact
    ∙ ap not (sym (seen_undated c.self.inside.sweeps.latest c.self.inside.databases key)
    ∙ ap (λ keyspace. is_undated (map.get keyspace key)) c.self.view_is)
