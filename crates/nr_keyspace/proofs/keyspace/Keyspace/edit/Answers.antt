use Rattle.std.proofs.Common.{refl, ap, ◌∙◌, sym}
use Rattle.std.specs.FinMap as map
use Rattle.nr_model.specs.Keyspace as model
use Rattle.nr_keyspace.specs.Joined.{key_of}
use Rattle.nr_keyspace.specs.Seen.{seen_after}
use Rattle.nr_keyspace.proofs.Edited.{if_ok_then, edited_seen, edited_as, found_seen}
use Rattle.nr_keyspace.proofs.keyspace.Keyspace.edit.Goals as goal

pub returns-clause-ok : goal.returns-clause-ok
returns-clause-ok g c =
    let key = key_of c.args.database c.args.name.now in
    let latest = c.self.inside.sweeps.latest in
    let old = c.self.inside.databases in
    let edits = g.E.Edit.edits c.args.edit in
    let found = map.get (model.live old c.later.result) key in
    let later = ap (λ keyspace. map.get keyspace key) (sym (c.later.ensures old)) in
    let seen = later ∙ ap (λ keyspace. map.get (model.live keyspace c.args.now) key) c.self.view_is in
    if_ok_then c.edit.result c.edit.ensures.ok (λ given edit.
    edited_as edits (seen_after latest old) c.args.self.now (seen_after latest c.edit.new.self) key key found
    (map.get (model.live c.args.self.now c.args.now) key) given c.self.view_is refl seen
    (edited_seen edits latest old c.edit.new.self key found given
    (λ stored is. found_seen latest old c.args.now key stored (sym later ∙ is)) edit))
