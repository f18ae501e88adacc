use Rattle.std.proofs.Common.{◌≡◌, ◌+◌, ◌++◌, ◌∷◌, [], List, length, Bool, true, false, arith, ap, sym, ◌∙◌, length-append}
use Rattle.std.proofs.lemmas.List.{length-map}
use Rattle.std.specs.Prelude.{Option, Some}
use Rattle.nr_model.specs.Items.{End}
use Rattle.nr_model.specs.Bytes.{Bytes}
use Rattle.nr_model.specs.Commands.{served}
use Rattle.nr_model.specs.declared.fault.Fault.{Fault}
use Rattle.nr_model.specs.Modes.{Mode, Conversation, conversation}
use Rattle.nr_model.specs.Replies.{Error}
use Rattle.nr_model.specs.Requests.{Frame, fault_text}
use Rattle.nr_model.specs.Asked.{jobs_from}
use Rattle.nr_resp.specs.Frames.{frames_seen}
use Rattle.nr_resp.specs.Stream.{Stream}
use Rattle.nr_resp.specs.declared.frame.Frame as code
use Rattle.nr_entry.specs.Jobs.{connection_of, items_of}
use Rattle.nr_session.specs.SessionState.{framed, asked, requested}
use Rattle.nr_session.proofs.Fronts.{on_err}
use Rattle.nr_session.proofs.Asked.{few_deeds_and_rest, front_few, of_all, all_added, over, broken, fault_jobs}
use Rattle.nr_session.proofs.session.feed_requests.Goals as goal

pub push_jobs-requires-clause-fits : goal.push_jobs-requires-clause-fits
push_jobs-requires-clause-fits c =
    omega (arith, front_few c.args.reader.now.rest c.args.piece.now _ c.read-fed.ensures.front, length-map c.read-fed.new.frames.items (λ (frame : code.Frame). frame.words.items))

pub returns-in_err-push_jobs-clause-err : goal.returns-in_err-push_jobs-clause-err
returns-in_err-push_jobs-clause-err c = on_err c.from_residual.result _ (of_all _ _ _ _ _ _ _ _ _ c.read-fed.ensures.front c.in_err-push_jobs.ensures.err)

pub returns-in_err-fed-clause-err : goal.returns-in_err-fed-clause-err
returns-in_err-fed-clause-err c =
    on_err c.from_residual-in_err-fed.result _ (all_added _ _ _ _ _ _ _ _ _ c.read-fed.ensures.front c.in_ok-push_jobs.ensures.jobs c.in_ok-push_jobs.ensures.next)

pub returns-in_err-fault_reply-in-Some-clause-err : goal.returns-in_err-fault_reply-in-Some-clause-err
returns-in_err-fault_reply-in-Some-clause-err c =
    on_err c.from_residual-in_err-fault_reply-in-Some.result _
    (all_added _ _ _ _ _ _ _ _ _ c.read-fed.ensures.front c.in_ok-push_jobs.ensures.jobs c.in_ok-push_jobs.ensures.next)

pub returns-in_err-push_close-in-Some-clause-err : goal.returns-in_err-push_close-in-Some-clause-err
returns-in_err-push_close-in-Some-clause-err c =
    on_err _ _
    (all_added _ _ _ _ _ _ _ _ _ c.read-fed.ensures.front (ap items_of c.in_err-push_close-in-Some.ensures.err ∙ c.in_ok-push_jobs.ensures.jobs) c.in_ok-push_jobs.ensures.next)

pub overflow_add-next : goal.overflow_add-next
overflow_add-next c =
    omega (
      arith,
      front_few c.args.reader.now.rest c.args.piece.now _ c.read-fed.ensures.front,
      length-map c.read-fed.new.frames.items (λ (frame : code.Frame). frame.words.items),
      c.push_jobs.ensures.few,
    )

pub returns-then-branch-clause-jobs : goal.returns-then-branch-clause-jobs
returns-then-branch-clause-jobs c =
    let is = over c.args.mode.now c.args.reader.now.rest c.args.piece.now _ c.read-fed.ensures.front (sym c.in_ok-push_jobs.ensures.ended ∙ c.if-branch.true) in
    c.in_ok-push_jobs.ensures.jobs
    ∙ ap (λ (r : Conversation). items_of c.args.jobs.now.items ++ jobs_from (connection_of c.args.conn) c.args.next.now c.args.moment r.deeds) (sym is)

pub returns-then-branch-clause-next : goal.returns-then-branch-clause-next
returns-then-branch-clause-next c =
    let is = over c.args.mode.now c.args.reader.now.rest c.args.piece.now _ c.read-fed.ensures.front (sym c.in_ok-push_jobs.ensures.ended ∙ c.if-branch.true) in
    c.in_ok-push_jobs.ensures.next ∙ ap (λ (r : Conversation). c.args.next.now + length r.deeds) (sym is)

pub returns-then-branch-clause-mode : goal.returns-then-branch-clause-mode
returns-then-branch-clause-mode c =
    let is = over c.args.mode.now c.args.reader.now.rest c.args.piece.now _ c.read-fed.ensures.front (sym c.in_ok-push_jobs.ensures.ended ∙ c.if-branch.true) in
    c.in_ok-push_jobs.ensures.mode ∙ ap (λ (r : Conversation). r.mode) (sym is)

pub returns-then-branch-clause-ended : goal.returns-then-branch-clause-ended
returns-then-branch-clause-ended c =
    let ended = sym c.in_ok-push_jobs.ensures.ended ∙ c.if-branch.true in
    let is = over c.args.mode.now c.args.reader.now.rest c.args.piece.now _ c.read-fed.ensures.front ended in
    sym (ap (λ (r : Conversation). r.ended) is ∙ ended)

pub returns-in-None-clause-numbers : goal.returns-in-None-clause-numbers
returns-in-None-clause-numbers c going =
    let mode = c.args.mode.now in
    let rest = c.args.reader.now.rest in
    let piece = c.args.piece.now in
    let whole : asked mode rest piece ≡ requested mode (frames_seen c.read-fed.new.frames.items) =
    ap (conversation served mode (framed rest piece).frames) (c.in_ok-fed.ensures.fault ∙ c.in-None.is) ∙ ap (requested mode) (sym c.in_ok-fed.ensures.frames) in
    omega (
      arith,
      few_deeds_and_rest mode rest piece (ap (λ (r : Conversation). r.ended) whole ∙ sym c.in_ok-push_jobs.ensures.ended ∙ c.if-branch.false),
      ap (λ (r : Conversation). length r.deeds) whole,
      ap (λ (s : Stream). length s.rest) (c.in_ok-fed.ensures.rest c.in-None.is),
      c.in_ok-push_jobs.ensures.next,
    )

-- what a fault leaves, where no request ended the connection
abbrev ends_broken : (mode : Mode) (rest piece : Bytes) (fault : Fault) (seen : List Frame) (found : Option Fault) (ended : Bool) → (framed rest piece).fault ≡ found → found ≡ Some fault
    → seen ≡ (framed rest piece).frames → ended ≡ (requested mode seen).ended → ended ≡ false
    → asked mode rest piece
    ≡ record { deeds = (requested mode seen).deeds ++ End (Some (Error (fault_text fault))) ∷ []; mode = (requested mode seen).mode; ended = true }
ends_broken mode rest piece fault seen found ended is some same end on =
    broken mode rest piece fault (is ∙ some) (ap (λ (frames : List Frame). (requested mode frames).ended) (sym same) ∙ sym end ∙ on)
    ∙ ap {B = Conversation} (λ (frames : List Frame). record {
      deeds = (requested mode frames).deeds ++ End (Some (Error (fault_text fault))) ∷ [];
      mode = (requested mode frames).mode;
      ended = true;
    }) (sym same)

pub returns-in_ok-push_close-in-Some-clause-jobs : goal.returns-in_ok-push_close-in-Some-clause-jobs
returns-in_ok-push_close-in-Some-clause-jobs c =
    let is = ends_broken c.args.mode.now c.args.reader.now.rest c.args.piece.now c.in-Some.fault _ _ _ c.in_ok-fed.ensures.fault c.in-Some.is c.in_ok-fed.ensures.frames c.in_ok-push_jobs.ensures.ended c.if-branch.false in
    fault_jobs _ c.args.next.now _ c.args.moment c.args.mode.now (items_of c.args.jobs.now.items) (items_of c.push_jobs.new.jobs.items) (items_of c.push_close.new.jobs.items) (frames_seen c.read-fed.new.frames.items)
    (End (Some (Error (fault_text c.in-Some.fault))))
    c.in_ok-push_jobs.ensures.jobs c.in_ok-push_jobs.ensures.next
    (c.in_ok-push_close-in-Some.ensures.ok
    ∙ ap (λ reply. items_of c.push_jobs.new.jobs.items ++ jobs_from (connection_of c.args.conn) c.push_jobs.new.next c.args.moment (End (Some reply) ∷ [])) c.in_ok-fault_reply-in-Some.ensures)
    ∙ ap (λ (r : Conversation). items_of c.args.jobs.now.items ++ jobs_from (connection_of c.args.conn) c.args.next.now c.args.moment r.deeds) (sym is)

pub returns-in_ok-push_close-in-Some-clause-next : goal.returns-in_ok-push_close-in-Some-clause-next
returns-in_ok-push_close-in-Some-clause-next c =
    let is = ends_broken c.args.mode.now c.args.reader.now.rest c.args.piece.now c.in-Some.fault _ _ _ c.in_ok-fed.ensures.fault c.in-Some.is c.in_ok-fed.ensures.frames c.in_ok-push_jobs.ensures.ended c.if-branch.false in
    omega (
      arith,
      ap (λ (r : Conversation). length r.deeds) is,
      length-append (requested c.args.mode.now (frames_seen c.read-fed.new.frames.items)).deeds (End (Some (Error (fault_text c.in-Some.fault))) ∷ []),
      c.in_ok-push_jobs.ensures.next,
    )

pub returns-in_ok-push_close-in-Some-clause-mode : goal.returns-in_ok-push_close-in-Some-clause-mode
returns-in_ok-push_close-in-Some-clause-mode c =
    let is = ends_broken c.args.mode.now c.args.reader.now.rest c.args.piece.now c.in-Some.fault _ _ _ c.in_ok-fed.ensures.fault c.in-Some.is c.in_ok-fed.ensures.frames c.in_ok-push_jobs.ensures.ended c.if-branch.false in
    c.in_ok-push_jobs.ensures.mode ∙ ap (λ (r : Conversation). r.mode) (sym is)

pub returns-in_ok-push_close-in-Some-clause-ended : goal.returns-in_ok-push_close-in-Some-clause-ended
returns-in_ok-push_close-in-Some-clause-ended c =
    let is = ends_broken c.args.mode.now c.args.reader.now.rest c.args.piece.now c.in-Some.fault _ _ _ c.in_ok-fed.ensures.fault c.in-Some.is c.in_ok-fed.ensures.frames c.in_ok-push_jobs.ensures.ended c.if-branch.false in
    sym (ap (λ (r : Conversation). r.ended) is)
