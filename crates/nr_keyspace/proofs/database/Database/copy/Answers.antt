use Rattle.std.proofs.Common.{ap, ◌∙◌, sym, subst}
use Rattle.std.specs.Map.Iter.{deref_pair}
use Rattle.std.specs.FinMap as map
use Rattle.std.proofs.lemmas.Map.Iter.{rest_more, rest_all}
use Rattle.nr_model.specs.Bytes.{Bytes}
use Rattle.nr_model.specs.Keyspace.{Stored, Value}
use Rattle.nr_keyspace.specs.Values.{value_of}
use Rattle.nr_keyspace.proofs.Copied.{IsCopied, copied_none, copied_more, copied_all}
use Rattle.nr_keyspace.proofs.database.Database.copy.Goals as goal

pub loop-name-init : goal.loop-name-init
loop-name-init c =
    subst (λ copy. IsCopied c.args.self.now copy c.into_iter-name-iterator.result) (sym c.new-copy.ensures)
    (subst (IsCopied c.args.self.now map.empty) (sym (c.into_iter-name-iterator.ensures.into_iter_gives ∙ c.iter-name-items.ensures.rest))
    (copied_none c.args.self.now c.self.inside.by_name.entries c.self.view_is c.iter-name-items.ensures.unique))

pub loop-name-preserved : goal.loop-name-preserved
loop-name-preserved c =
    let parts = rest_more deref_pair c.loop-name.name-iterator c.next.new.self c.next.result
    (c.in-Some.name, c.in-Some.entry) c.in-Some.is c.next.ensures.steps in
    let stored : Value → Stored = λ value. record { value = value; deadline = c.in-Some.entry.now.deadline } in
    let put = c.in_ok-put.ensures.ok
    ∙ ap (λ deadline. let kept : Stored = record { value = value_of c.in_ok-copy.field-0; deadline = deadline } in
    map.insert c.loop-name.copy c.in_ok-name.name kept) c.get.ensures
    ∙ ap (λ (name : Bytes). map.insert c.loop-name.copy name (stored (value_of c.in_ok-copy.field-0))) c.in_ok-name.ensures.copied
    ∙ ap (λ value. map.insert c.loop-name.copy c.in-Some.name.now (stored value)) c.in_ok-copy.ensures in
    subst (λ copy. IsCopied c.args.self.now copy c.next.new.self) (sym put)
    (copied_more c.args.self.now c.loop-name.copy (deref_pair (c.in-Some.name, c.in-Some.entry)) c.next.new.self
    (subst (IsCopied c.args.self.now c.loop-name.copy) parts c.loop-name.invariant))

pub returns : goal.returns
returns c = copied_all c.args.self.now c.loop-name.copy
    (subst (IsCopied c.args.self.now c.loop-name.copy)
    (rest_all deref_pair c.loop-name.name-iterator c.next.new.self c.next.result c.in-None.is c.next.ensures.steps) c.loop-name.invariant)
