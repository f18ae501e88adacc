use Rattle.std.specs.Prelude.{not, filter, option_to_list}
use Rattle.nr_entry.specs.Jobs.{connection_of, items_of}
use Rattle.nr_model.specs.Items.{Item, same_connection}
use Rattle.nr_model.specs.Asked.{own_jobs}
use Rattle.nr_model.specs.Nodes.Steps.{close_job}
use Rattle.nr_world.specs.Served.{client_seen}
use Rattle.std.proofs.Common.{◌≡◌, ◌++◌, true, false, Some, None, ap, sym, ◌∙◌}
use Rattle.nr_session.specs.SessionState.{SessionState}
use Rattle.nr_world.specs.BySerial.{closed_session}
use Rattle.nr_world.proofs.BySerial.{found_at, now_put}
use Rattle.nr_world.proofs.sessions.Sessions.close.Goals as goal

pub unreachable-requires : goal.unreachable-requires
unreachable-requires c =
    let at = found_at c.self.inside.count c.args.conn.serial c.self.inside.by_serial.entries c.args.self.now None closed_session c.self.view_is
    c.requires.is_there c.in_default.ensures.value in
    let no : true ≡ false = ap (λ (session : SessionState). session.ended) at ∙ c.requires.unclosed closed_session
    ∙ ap (λ (session : SessionState). session.gave_end) (sym at) in
    absurd (cc no)

pub close_session-requires : goal.close_session-requires
close_session-requires c =
    let at = found_at c.self.inside.count c.args.conn.serial c.self.inside.by_serial.entries c.args.self.now (Some c.in-Some.session) c.in-Some.session c.self.view_is
    c.requires.is_there c.in-Some.ensures.value in
    ap (λ (session : SessionState). session.connection) at ∙ c.requires.named c.in-Some.session

pub returns-clause-closed : goal.returns-clause-closed
returns-clause-closed c =
    now_put c.self.inside.count c.args.conn.serial None c.self.inside.by_serial.entries c.remove.new.self.entries c.args.self.now c.self.view_is c.requires.is_there
    c.remove.ensures.updates.0

pub returns-clause-jobs : goal.returns-clause-jobs
returns-clause-jobs c = λ d member.
    let at = found_at c.self.inside.count c.args.conn.serial c.self.inside.by_serial.entries c.args.self.now (Some c.in-Some.session) d c.self.view_is
    c.requires.is_there c.in-Some.ensures.value in
    c.in_ok-close_session.ensures.jobs member
    ∙ ap (λ (session : SessionState). filter (λ (job : Item). not (same_connection job.connection (connection_of c.args.conn))) (items_of c.args.pending.now.items)
    ++ option_to_list (close_job (client_seen session member) (connection_of c.args.conn) c.args.milliseconds (own_jobs (connection_of c.args.conn) (items_of c.args.pending.now.items)))) at
