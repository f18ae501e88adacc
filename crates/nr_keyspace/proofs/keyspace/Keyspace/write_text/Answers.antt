use Rattle.std.proofs.Common.{sym, ap, ◌∙◌}
use Rattle.std.specs.FinMap as map
use Rattle.nr_keyspace.specs.Joined.{key_of}
use Rattle.nr_keyspace.specs.Stores.{is_undated, written_if}
use Rattle.nr_keyspace.specs.Seen.{seen_after}
use Rattle.nr_keyspace.proofs.Edited.{if_ok_then}
use Rattle.nr_keyspace.proofs.Seen.{seen_written, seen_undated}
use Rattle.nr_keyspace.proofs.keyspace.Keyspace.write_text.Goals as goal

pub returns-clause-exact : goal.returns-clause-exact
returns-clause-exact c =
    let key = key_of c.args.database c.args.name.now in
    if_ok_then c.write_text.result c.write_text.ensures.exact (λ written is.
    is ∙ sym (seen_undated c.self.inside.sweeps.latest c.self.inside.databases key)
    ∙ ap (λ keyspace. is_undated (map.get keyspace key)) c.self.view_is)

pub returns-clause-ok : goal.returns-clause-ok
returns-clause-ok c =
    let key = key_of c.args.database c.args.name.now in
    let latest = c.self.inside.sweeps.latest in
    if_ok_then c.write_text.result c.write_text.ensures.ok (λ written is.
    ap (seen_after latest) is ∙ seen_written latest c.self.inside.databases key c.args.text.now written
    ∙ ap (λ keyspace. written_if written keyspace key c.args.text.now) c.self.view_is)
