use Rattle.std.proofs.Common.{◌≡◌, ◌||◌, ap, ◌∙◌, sym, subst, None, Some, List, rules}
use Rattle.std.specs.List.{list_any}
use Rattle.std.specs.Map.{lookup}
use Rattle.std.specs.Ordering.{eq_by_cmp}
use Rattle.nr_model.specs.Bytes.{Bytes}
use Rattle.nr_model.specs.Keyspace.{byte_cmp}
use Rattle.nr_entry.specs.declared.conn.ConnId.{ConnId}
use Rattle.nr_watch.specs.Kept.{is_conn, is_name, has_one, has_somebody, IsAdded}
use Rattle.nr_watch.proofs.Standing.{on_err, either, more_conns, added, as_before, has_one-more, still_held}
use Rattle.nr_watch.proofs.names.Names.add.Goals as goal

pub returns-in_err-insert-clause-err : goal.returns-in_err-insert-clause-err
returns-in_err-insert-clause-err c =
    let conns = c.insert.new.self in
    let changes = (c.get_mut.follows.holds conns).3 (search rules) in
    on_err c.from_residual.result (as_before c.args.self.now.conns.entries
    (c.get_mut.follows.lender conns).entries c.args.name.now c.args.conn (Some c.in-Some.conns.now) (Some conns) c.in-Some.ensures.value changes.1 changes.3
    (λ d. ap (list_any (is_conn d)) c.in_err-insert.ensures.err))

pub returns-in-Some-clause-ok : goal.returns-in-Some-clause-ok
returns-in-Some-clause-ok c =
    let conns = c.insert.new.self in
    let changes = (c.get_mut.follows.holds conns).3 (search rules) in
    added c.args.self.now.conns.entries (c.get_mut.follows.lender conns).entries c.args.name.now c.args.conn
    (Some c.in-Some.conns.now) (Some conns) c.in-Some.ensures.value changes.1 changes.3
    (more_conns c.in-Some.conns.now conns c.args.conn c.in_ok-insert.ensures.updates.0)

pub returns-clause-ok : goal.returns-clause-ok
returns-clause-ok c =
    let old = c.args.self.now.conns.entries in
    let new = c.insert-3.new.self.entries in
    let name = c.in_ok-copy.field-0 in
    let changes = rw c.get_mut.follows.holds-at-none at c.in_ok-insert-3.ensures.updates in
    let none : None ≡ lookup (is_name name) old =
    c.in_default.ensures.value ∙ ap (λ (n : Bytes). lookup (is_name n) old) (sym c.in_ok-copy.ensures.copied) in
    subst (λ (n : Bytes). IsAdded (λ other. eq_by_cmp byte_cmp other n) c.args.conn old new) c.in_ok-copy.ensures.copied
    (added old new name c.args.conn None (Some c.insert-2.new.self) none changes.1 changes.3
    (λ d. more_conns c.new-conns.result c.insert-2.new.self c.args.conn c.in_ok-insert-2.ensures.updates.0 d
    ∙ ap (λ (keys : List ConnId). is_conn d c.args.conn || list_any (is_conn d) keys) c.new-conns.ensures.empty))

pub invariant_of-self : goal.invariant_of-self
invariant_of-self c =
    let conns = c.insert.new.self in
    let changes = (c.get_mut.follows.holds conns).3 (search rules) in
    record {
      held = still_held c.args.self.now.conns.entries (c.get_mut.follows.lender conns).entries c.args.name.now (Some conns) c.args.self.now.held changes.1 changes.3
          (either c.insert.result c.insert.ensures.updates c.insert.ensures.err
          (λ updates. has_one-more c.in-Some.conns.now conns c.args.conn (more_conns c.in-Some.conns.now conns c.args.conn updates.0))
          (λ same. ap has_one same ∙ ap has_somebody c.in-Some.ensures.value ∙ c.args.self.now.held c.args.name.now));
    }

pub invariant_of-self-2 : goal.invariant_of-self-2
invariant_of-self-2 c =
    let old = c.args.self.now.conns.entries in
    let new = c.insert-3.new.self.entries in
    let some = has_one-more c.new-conns.result c.insert-2.new.self c.args.conn
    (more_conns c.new-conns.result c.insert-2.new.self c.args.conn c.in_ok-insert-2.ensures.updates.0) in
    record {
      held = either c.insert-3.result c.insert-3.ensures.updates c.insert-3.ensures.err
          (λ updates. let changes = rw c.get_mut.follows.holds-at-none at updates in
          still_held old new c.in_ok-copy.field-0 (Some c.insert-2.new.self) c.args.self.now.held changes.1 changes.3 some)
          (λ same. rw (same, c.get_mut.follows.holds-at-none) c.args.self.now.held);
    }
