use Rattle.std.proofs.Common.{rules, ◌∙◌, ap, sym, subst, Some}
use Rattle.nr_model.specs.Names.{put}
use Rattle.nr_model.specs.Items.{connection_cmp}
use Rattle.nr_entry.specs.Jobs.{connection_of}
use Rattle.nr_pubsub.specs.Standings.{IsPlaced, standing_of, standing_at}
use Rattle.nr_pubsub.proofs.Indexed.{joined, in_order, written_back, first_joined, ok_then, err_then, set_at}
use Rattle.nr_pubsub.proofs.index.Index.add.Goals as goal

pub invariant_of-self : goal.invariant_of-self
invariant_of-self c =
    let set = c.join.new.set in
    let written = c.get_mut.follows.holds set in
    in_order c.self.inside.by_name.entries (c.get_mut.follows.lender set).entries c.args.name.now (Some set) c.self.invariant
    written.4 (written.3 (search rules)).0 c.join.ensures.ordered

pub returns-in-Some-clause-ok : goal.returns-in-Some-clause-ok
returns-in-Some-clause-ok c =
    let set = c.join.new.set in
    let written = c.get_mut.follows.holds set in
    ok_then c.join.result c.join.ensures.ok (λ is.
    subst (λ m. IsPlaced m (standing_of (c.get_mut.follows.lender set).entries) c.args.name.now
    (put connection_cmp (connection_of c.args.conn) (standing_at m c.args.name.now)))
    c.self.view_is
    (joined c.self.inside.by_name.entries (c.get_mut.follows.lender set).entries c.args.name.now c.in-Some.set.now set (connection_of c.args.conn)
    (sym c.in-Some.ensures.value) (written.3 (search rules)).0 is))

pub returns-in-Some-clause-err : goal.returns-in-Some-clause-err
returns-in-Some-clause-err c =
    let set = c.join.new.set in
    let written = c.get_mut.follows.holds set in
    err_then c.join.result c.join.ensures.err (λ is.
    written_back c.self.inside.by_name.entries (c.get_mut.follows.lender set).entries c.args.name.now set
    (sym c.in-Some.ensures.value ∙ ap Some (sym is)) (written.3 (search rules)).0
    ∙ c.self.view_is)

pub returns-in-None-clause-ok : goal.returns-in-None-clause-ok
returns-in-None-clause-ok c =
    let same = c.get_mut.follows.holds-at-none in
    ok_then c.begin.result c.begin.ensures.ok
    (first_joined c.args.self.now c.begin.new.self c.get_mut.follows.lender-at-none.entries c.args.name.now (connection_of c.args.conn)
    (ap (λ m. standing_of m.entries) same ∙ c.self.view_is) (ap (λ m. set_at m.entries c.args.name.now) same ∙ sym c.in-None.ensures.value))
