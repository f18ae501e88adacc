use Rattle.std.proofs.Common.{rules, ◌≡◌, ◌∙◌, None, get_or, refl, sym, subst}
use Rattle.std.specs.Prelude.{IsTrue}
use Rattle.nr_entry.specs.Entry.{are_of}
use Rattle.nr_model.specs.Entries.{Jobs}
use Rattle.nr_world.proofs.Changed.{lifted_is, posted_at}
use Rattle.nr_world.proofs.Batches.{whole_owing}
use Rattle.std.proofs.lemmas.List.{length-set}
use Rattle.nr_world.proofs.node.WorldNode.lift.Goals as goal

pub lift-requires-clause-own : goal.lift-requires-clause-own
lift-requires-clause-own c =
    let at : c.index_mut.result.now ≡ get_or c.args.self.now.workers.items c.args.worker c.index_mut.result.now = search rules in
    subst (λ (jobs : Jobs). IsTrue (are_of c.args.self.now.replica.node jobs))
    (sym (c.lift-jobs.ensures.jobs (get_or c.args.self.now.replica.owed c.args.worker None)
    ∙ posted_at c.args.self.now c.args.worker c.index_mut.result.now c.requires.is_there c.requires.owed at)) c.requires.own

pub returns-clause-lifted : goal.returns-clause-lifted
returns-clause-lifted c =
    let at : c.index_mut.result.now ≡ get_or c.args.self.now.workers.items c.args.worker c.index_mut.result.now = search rules in
    lifted_is c.args.self.now c.args.worker c.lift-jobs.new.self c.index_mut.result.now c.lift-jobs.result.items c.lift.new.self c.requires.is_there
    c.requires.owed at
    (c.lift-jobs.ensures.jobs (get_or c.args.self.now.replica.owed c.args.worker None)) c.lift-jobs.ensures.slot c.lift-jobs.ensures.pending
    c.lift-jobs.ensures.batches c.in_default.ensures.lifted

pub returns-clause-whole : goal.returns-clause-whole
returns-clause-whole c = λ n whole.
    whole_owing n c.args.worker _ _ c.args.self.now _ c.in_default.ensures.lifted refl
    (length-set c.args.self.now.workers.items c.args.worker c.lift-jobs.new.self) refl whole
