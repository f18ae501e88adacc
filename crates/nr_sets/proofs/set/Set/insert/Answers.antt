use Rattle.std.proofs.Common.{◌∙◌, [], ap, sym, is_some, not, subst}
use Rattle.std.specs.Map.{lookup}
use Rattle.std.specs.BTreeMap.{is_at}
use Rattle.std.specs.FinSet as set
use Rattle.nr_model.specs.Keyspace.{byte_cmp}
use Rattle.nr_sets.specs.Forms.{entries_of, AreMembers}
use Rattle.nr_sets.proofs.Bare.{members_put}
use Rattle.nr_sets.proofs.Seen.{contains_found, inserted_seen, is_new}
use Rattle.nr_sets.proofs.set.Set.insert.Goals as goal

pub invariant_of-self : goal.invariant_of-self
invariant_of-self c = subst AreMembers (sym c.in_err-is_new.ensures.err) c.self.invariant

pub invariant_of-self-2 : goal.invariant_of-self-2
invariant_of-self-2 c = members_put (entries_of c.self.inside.form) (entries_of c.insert.new.self) c.args.member.now c.self.invariant c.in_ok-is_new.ensures.put

pub returns-clause-new : goal.returns-clause-new
returns-clause-new c =
    let es = entries_of c.self.inside.form in
    let k = c.args.member.now in
    c.in_ok-is_new.ensures.new ∙ is_new (lookup (is_at (byte_cmp k)) es) ∙ ap not (sym (contains_found es k))
    ∙ ap (λ s. not (set.contains s k)) c.self.view_is

pub returns-clause-ok : goal.returns-clause-ok
returns-clause-ok c =
    inserted_seen (entries_of c.self.inside.form) (entries_of c.insert.new.self) c.args.member.now [] c.in_ok-is_new.ensures.put
    ∙ ap (λ s. set.insert s c.args.member.now) c.self.view_is
