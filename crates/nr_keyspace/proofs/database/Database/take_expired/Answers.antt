use Rattle.std.proofs.Common.{suc, ap, ◌∙◌, sym, subst}
use Rattle.std.specs.FinMap as map
use Rattle.nr_model.specs.Keyspace.{only_live}
use Rattle.nr_keyspace.specs.Stores.{IsIndexed, bytes_of, store_of}
use Rattle.nr_keyspace.proofs.Indexed.{swept_step, all_live}
use Rattle.nr_keyspace.proofs.database.Database.take_expired.Goals as goal

pub returns-in_default-clause-none : goal.returns-in_default-clause-none
returns-in_default-clause-none c = λ _ name.
    ap (λ store. only_live c.args.now (map.get store name)) (sym c.self.view_is)
    ∙ all_live c.args.now (store_of bytes_of c.self.inside.by_name.entries) c.self.inside.deadlines c.self.invariant c.in_default.ensures.live name
    ∙ ap (λ store. map.get store name) c.self.view_is

pub invariant_of-self : goal.invariant_of-self
invariant_of-self c =
    let store = store_of bytes_of c.self.inside.by_name.entries in
    let step = swept_step c.args.now store c.self.inside.deadlines c.remove_first.new.self c.in-Some.name.now c.self.invariant c.in-Some.ensures.expired
    c.remove_first.ensures in
    subst (λ left. IsIndexed left c.remove_first.new.self) (sym c.forget.ensures) step.indexed

pub returns-clause-same_live : goal.returns-clause-same_live
returns-clause-same_live c = λ name.
    let store = store_of bytes_of c.self.inside.by_name.entries in
    let step = swept_step c.args.now store c.self.inside.deadlines c.remove_first.new.self c.in-Some.name.now c.self.invariant c.in-Some.ensures.expired
    c.remove_first.ensures in
    ap (λ left. only_live c.args.now (map.get left name)) c.forget.ensures ∙ step.same_live name
    ∙ ap (λ left. only_live c.args.now (map.get left name)) c.self.view_is

pub returns-clause-one : goal.returns-clause-one
returns-clause-one c = λ _.
    let store = store_of bytes_of c.self.inside.by_name.entries in
    let step = swept_step c.args.now store c.self.inside.deadlines c.remove_first.new.self c.in-Some.name.now c.self.invariant c.in-Some.ensures.expired
    c.remove_first.ensures in
    ap (λ left. suc (map.len left)) c.forget.ensures ∙ step.one ∙ ap map.len c.self.view_is
