use Rattle.std.proofs.Common.{List, ap, sym, subst, ◌∙◌}
use Rattle.std.proofs.lemmas.Result.{on_ok_weaker, on_err_weaker}
use Rattle.nr_model.specs.Replies.{array}
use Rattle.nr_model.specs.Sequential.{for_node}
use Rattle.nr_model.specs.Sequential.Events.{Emission}
use Rattle.nr_entry.specs.Jobs.{connection_of}
use Rattle.nr_emission.specs.Emitted.{all_after}
use Rattle.nr_emission.proofs.Sent.{IsFront, first_front, all_front, on_err, on_ok}
use Rattle.nr_machine.proofs.Behind.{emitted_run, applied_run, same_answer, both_sent}
use Rattle.nr_machine.proofs.state.State.run.Goals as goal

pub returns-in_err-replies-clause-partly : goal.returns-in_err-replies-clause-partly
returns-in_err-replies-clause-partly g c =
    let is = emitted_run c.args.self.now _ _ _ _ _ (connection_of c.args.conn) c.args.now c.args.commands.now _ c.self.view_is (sym c.is_spoiled.ensures ∙ c.if-is_spoiled.false) c.of-database.ensures in
    on_err c.from_residual.result _
    (subst (λ (es : List Emission). IsFront g.S.Sink.after c.args.out.now c.run_all.new.out (for_node c.args.node es)) (sym is)
    (first_front g.S.Sink.after c.args.node c.args.out.now c.run_all.new.out _ _ c.in_err-replies.ensures.partly))

pub returns-in_err-set-clause-partly : goal.returns-in_err-set-clause-partly
returns-in_err-set-clause-partly g c =
    let is = emitted_run c.args.self.now _ _ _ _ _ (connection_of c.args.conn) c.args.now c.args.commands.now _ c.self.view_is (sym c.is_spoiled.ensures ∙ c.if-is_spoiled.false) c.of-database.ensures in
    on_err c.from_residual-in_err-set.result _
    (subst (λ (es : List Emission). IsFront g.S.Sink.after c.args.out.now c.run_all.new.out (for_node c.args.node es)) (sym is)
    (first_front g.S.Sink.after c.args.node c.args.out.now c.run_all.new.out _ _ (all_front g.S.Sink.after c.args.out.now c.run_all.new.out _ c.in_ok-replies.ensures.ran.sent)))

pub returns-clause-applied : goal.returns-clause-applied
returns-clause-applied g c =
    on_ok c.answer-2.result _
    (applied_run g.S.Sink.after c.args.node _ c.args.self.now _ _ _ _ _ _ _ _ _ (connection_of c.args.conn) c.args.now c.args.commands.now _ _ _ _ _ c.self.view_is
    (sym c.is_spoiled.ensures ∙ c.if-is_spoiled.false) c.of-database.ensures c.in_ok-replies.ensures.ran c.in_ok-set.ensures.ok c.forget-2.ensures)

pub returns-clause-emitted : goal.returns-clause-emitted
returns-clause-emitted g c =
    let conn = connection_of c.args.conn in
    let is = emitted_run c.args.self.now _ _ _ _ _ conn c.args.now c.args.commands.now _ c.self.view_is (sym c.is_spoiled.ensures ∙ c.if-is_spoiled.false) c.of-database.ensures in
    on_ok_weaker c.answer-2.result (λ answered.
    both_sent g.S.Sink.after c.args.node c.args.out.now c.run_all.new.out c.answer-2.new.out _ _ c.in_ok-replies.ensures.ran.sent
    (same_answer g.S.Sink.after c.args.node conn c.run_all.new.out c.answer-2.new.out _ _
    (λ own. c.array.ensures ∙ ap array (c.in_ok-replies.ensures.ran.replied own)) answered)
    ∙ ap (λ (es : List Emission). all_after g.S.Sink.after c.args.out.now (for_node c.args.node es)) (sym is)) c.answer-2.ensures.emitted

pub returns-clause-partly : goal.returns-clause-partly
returns-clause-partly g c =
    let is = emitted_run c.args.self.now _ _ _ _ _ (connection_of c.args.conn) c.args.now c.args.commands.now _ c.self.view_is (sym c.is_spoiled.ensures ∙ c.if-is_spoiled.false) c.of-database.ensures in
    on_err_weaker c.answer-2.result (λ unchanged.
    subst (λ (es : List Emission). IsFront g.S.Sink.after c.args.out.now c.answer-2.new.out (for_node c.args.node es)) (sym is)
    (first_front g.S.Sink.after c.args.node c.args.out.now c.answer-2.new.out _ _
    (all_front g.S.Sink.after c.args.out.now c.answer-2.new.out _ (unchanged ∙ c.in_ok-replies.ensures.ran.sent)))) c.answer-2.ensures.unchanged
