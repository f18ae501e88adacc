use Rattle.std.proofs.Common.{Some, None, ap, ◌∙◌, sym}
use Rattle.nr_keyspace.specs.Stores.{deadline_of, bytes_of}
use Rattle.nr_keyspace.proofs.Named.{get-found}
use Rattle.nr_keyspace.proofs.database.Database.deadline_at.Goals as goal

pub returns-in_err-entry : goal.returns-in_err-entry
returns-in_err-entry c = c.from_residual.ensures
    ∙ sym (ap deadline_of (get-found bytes_of c.self.inside.by_name.entries c.args.self.now c.args.name.now None c.self.view_is c.in_err-entry.ensures.value))

pub returns : goal.returns
returns c = c.get-2.ensures ∙ sym (ap deadline_of (get-found bytes_of c.self.inside.by_name.entries c.args.self.now c.args.name.now
    (Some c.in_ok-entry.entry.now) c.self.view_is c.in_ok-entry.ensures.value))
