use Rattle.std.proofs.Common.{cond, Some, None, ap, ◌∙◌, sym}
use Rattle.nr_model.specs.Keyspace.{only_live}
use Rattle.nr_keyspace.specs.Stores.{stored_of, bytes_of}
use Rattle.nr_keyspace.proofs.Named.{get-found}
use Rattle.nr_keyspace.proofs.Indexed.{live_here}
use Rattle.nr_keyspace.proofs.database.Database.live.Goals as goal

pub returns-in_err-entry : goal.returns-in_err-entry
returns-in_err-entry c = rw c.from_residual.ensures
    (sym (ap (only_live c.args.now)
    (get-found bytes_of c.self.inside.by_name.entries c.args.self.now c.args.name.now None c.self.view_is c.in_err-entry.ensures.value)))

pub returns-then-is_live : goal.returns-then-is_live
returns-then-is_live c =
    let entry = c.in_ok-entry.entry.now in
    let at = get-found bytes_of c.self.inside.by_name.entries c.args.self.now c.args.name.now (Some entry) c.self.view_is c.in_ok-entry.ensures.value in
    sym (live_here c.args.now _ (stored_of entry) c.is_live.result at c.is_live.ensures ∙ ap (λ b. cond b (Some (stored_of entry)) None) c.if-is_live.true)

pub returns-else-is_live : goal.returns-else-is_live
returns-else-is_live c =
    let entry = c.in_ok-entry.entry.now in
    let at = get-found bytes_of c.self.inside.by_name.entries c.args.self.now c.args.name.now (Some entry) c.self.view_is c.in_ok-entry.ensures.value in
    sym (live_here c.args.now _ (stored_of entry) c.is_live.result at c.is_live.ensures ∙ ap (λ b. cond b (Some (stored_of entry)) None) c.if-is_live.false)
