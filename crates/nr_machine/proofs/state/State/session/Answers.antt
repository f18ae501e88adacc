use Rattle.std.proofs.Common.{List, ap, sym, subst, ◌∙◌}
use Rattle.std.specs.Prelude.{Option, option_to_list}
use Rattle.std.proofs.lemmas.Result.{on_ok_weaker, on_err_weaker}
use Rattle.nr_model.specs.Replies.{Reply}
use Rattle.nr_model.specs.Sequential.{for_node}
use Rattle.nr_model.specs.Sequential.Events.{Emission}
use Rattle.nr_entry.specs.Jobs.{connection_of}
use Rattle.nr_emission.specs.Emitted.{all_after, replies_to}
use Rattle.nr_emission.proofs.Sent.{IsFront, first_front, all_front, on_err}
use Rattle.nr_machine.proofs.Behind.{emitted_publish, both_sent}
use Rattle.nr_machine.proofs.state.State.session.Goals as goal

pub returns-in_err-reply-in-Publish-clause-partly : goal.returns-in_err-reply-in-Publish-clause-partly
returns-in_err-reply-in-Publish-clause-partly g c =
    let is = emitted_publish c.args.self.now _ _ _ _ _ (connection_of c.args.conn) c.args.now c.args.command c.args.words.now _ c.self.view_is c.in-Publish.is c.arguments-words.ensures in
    on_err c.from_residual.result _
    (subst (λ (es : List Emission). IsFront g.S.Sink.after c.args.out.now c.publish.new.out (for_node c.args.node es)) (sym is)
    (first_front g.S.Sink.after c.args.node c.args.out.now c.publish.new.out _ _ c.in_err-reply-in-Publish.ensures.partly))

pub returns-in_ok-reply-in-Publish-clause-emitted : goal.returns-in_ok-reply-in-Publish-clause-emitted
returns-in_ok-reply-in-Publish-clause-emitted g c =
    let conn = connection_of c.args.conn in
    let is = emitted_publish c.args.self.now _ _ _ _ _ conn c.args.now c.args.command c.args.words.now _ c.self.view_is c.in-Publish.is c.arguments-words.ensures in
    on_ok_weaker c.answer_some.result (λ answered.
    both_sent g.S.Sink.after c.args.node c.args.out.now c.publish.new.out c.answer_some.new.out _ _ c.in_ok-reply-in-Publish.ensures.emitted
    (answered ∙ ap (λ (reply : Option Reply). all_after g.S.Sink.after c.publish.new.out (for_node c.args.node (replies_to conn (option_to_list reply)))) c.in_ok-reply-in-Publish.ensures.reply)
    ∙ ap (λ (es : List Emission). all_after g.S.Sink.after c.args.out.now (for_node c.args.node es)) (sym is)) c.answer_some.ensures.emitted

pub returns-in_ok-reply-in-Publish-clause-partly : goal.returns-in_ok-reply-in-Publish-clause-partly
returns-in_ok-reply-in-Publish-clause-partly g c =
    let is = emitted_publish c.args.self.now _ _ _ _ _ (connection_of c.args.conn) c.args.now c.args.command c.args.words.now _ c.self.view_is c.in-Publish.is c.arguments-words.ensures in
    on_err_weaker c.answer_some.result (λ unchanged.
    subst (λ (es : List Emission). IsFront g.S.Sink.after c.args.out.now c.answer_some.new.out (for_node c.args.node es)) (sym is)
    (first_front g.S.Sink.after c.args.node c.args.out.now c.answer_some.new.out _ _
    (all_front g.S.Sink.after c.args.out.now c.answer_some.new.out _ (unchanged ∙ c.in_ok-reply-in-Publish.ensures.emitted)))) c.answer_some.ensures.unchanged
