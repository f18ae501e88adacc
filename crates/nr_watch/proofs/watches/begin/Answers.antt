use Rattle.std.proofs.Common.{◌≡◌, Bool, true, false, not, refl, ap, ◌∙◌, sym, subst}
use Rattle.std.specs.Ordering.{eq_by_cmp}
use Rattle.nr_model.specs.Bytes.{Bytes}
use Rattle.nr_model.specs.Keyspace.{byte_cmp}
use Rattle.nr_model.specs.Servers.{Watch}
use Rattle.nr_entry.specs.Jobs.{connection_of}
use Rattle.nr_watch.specs.declared.names.Names.{Names}
use Rattle.nr_watch.specs.Kept.{stands, IsAdded, IsTakenOut, IsIndexed}
use Rattle.nr_watch.proofs.Putting.{added_indexed, it_stays, it_goes}
use Rattle.nr_watch.proofs.watches.begin.Goals as goal
use Rattle.nr_watch.proofs.watches.begin.Goals.{then-is_new, else-is_new}

flipped : (a b : Bool) → a ≡ not b → a ≡ true → b ≡ false
flipped a true is holds = sym holds ∙ is
flipped a false is holds = refl

stood : (a b : Bool) → a ≡ not b → a ≡ false → b ≡ true
stood a true is holds = refl
stood a false is holds = sym holds ∙ is

pub returns-in_default-clause-indexed : goal.returns-in_default-clause-indexed
returns-in_default-clause-indexed c =
    let before = c.args.by_name.now.conns.entries in
    let after = c.add.new.self.conns.entries in
    added_indexed c.args.by_conn.now.entries c.add-2.new.by_conn.entries before after c.args.conn c.args.watch c.requires.was_indexed c.in_default.ensures.ok
    (subst (λ (n : Bytes). IsAdded (λ other. eq_by_cmp byte_cmp other n) c.args.conn before after) c.name.ensures c.in_ok-is_new.ensures.ok)

pub returns-clause-indexed : goal.returns-clause-indexed
returns-clause-indexed c =
    let old = c.args.by_conn.now.entries in
    let new = c.add-2.new.by_conn.entries in
    let before = c.args.by_name.now.conns.entries in
    let more = c.add.new.self.conns.entries in
    let name = c.args.watch.key.name in
    let added = subst (λ (n : Bytes). IsAdded (λ other. eq_by_cmp byte_cmp other n) c.args.conn before more) c.name.ensures c.in_ok-is_new.ensures.ok in
    let is_new : c.in_ok-is_new.is_new ≡ not (stands before name (connection_of c.args.conn)) =
    c.in_ok-is_new.ensures.is_new ∙ ap (λ (n : Bytes). not (stands before n (connection_of c.args.conn))) c.name.ensures in
    elim c.if-is_new.branch [
      | then-is_new w ↦ subst (λ (names : Names). IsIndexed new names.conns.entries) (sym w.by_name-is)
          (it_goes old new before more name c.args.conn c.requires.was_indexed c.in-Err.ensures.err added w.remove.new.self.conns.entries
          (flipped c.in_ok-is_new.is_new (stands before name (connection_of c.args.conn)) is_new w.if-is_new.true)
          (subst (λ (n : Bytes). IsTakenOut (λ other. eq_by_cmp byte_cmp other n) c.args.conn more w.remove.new.self.conns.entries)
          (w.name-then-is_new.ensures ∙ ap (λ (watch : Watch). watch.key.name) c.in-Err.ensures.back) w.remove.ensures))
      | else-is_new w ↦ subst (λ (names : Names). IsIndexed new names.conns.entries) (sym w.by_name-is)
          (it_stays old new before more name c.args.conn c.requires.was_indexed c.in-Err.ensures.err added
          (stood c.in_ok-is_new.is_new (stands before name (connection_of c.args.conn)) is_new w.if-is_new.false))
    ]
