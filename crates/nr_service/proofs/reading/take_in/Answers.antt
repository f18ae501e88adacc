-- What came was fed; else nothing was done.
use Rattle.std.proofs.Common.{inl, inr, take, refl, ◌∙◌}
use Rattle.nr_service.specs.Streams.{course_received}
use Rattle.nr_service.specs.declared.stream.Received.TheVariants as received
use Rattle.nr_service.proofs.Known.{course_still, course_then, grows_none, same_course}
use Rattle.nr_service.proofs.Heard.{more_of}
use Rattle.nr_service.proofs.Left.{leaves_fed, on_err}
use Rattle.nr_service.proofs.Feeding.{fed_one, nothing_read}
use Rattle.nr_service.proofs.reading.take_in.Goals as goal

pub returns-in_ok-feed-in-Bytes-clause-ok : goal.returns-in_ok-feed-in-Bytes-clause-ok
returns-in_ok-feed-in-Bytes-clause-ok g c =
    fed_one _ _ _ _ _ _ _ _ _ _ (take c.in-Bytes.count c.receive.new.buffer) refl c.in-Bytes.ensures.received c.in-Bytes.ensures.sent
    (course_still _ _ _ _ _ (c.in-Bytes.ensures.course ∙ same_course _)) c.in_ok-feed-in-Bytes.ensures.fed

pub returns-in-Nothing-clause-ok : goal.returns-in-Nothing-clause-ok
returns-in-Nothing-clause-ok g c =
    nothing_read _ _ _ _ _ _ _ _ _ c.receive.new.buffer refl c.in-Nothing.ensures.received c.in-Nothing.ensures.sent
    (course_still _ _ _ _ _ (c.in-Nothing.ensures.course ∙ same_course _))

pub returns-in-End-clause-ok : goal.returns-in-End-clause-ok
returns-in-End-clause-ok g c =
    nothing_read _ _ _ _ _ _ _ _ _ c.receive.new.buffer refl c.in-End.ensures.received c.in-End.ensures.sent
    (course_then _ _ (course_received received.End) _ _ _ _ _ _ c.in-End.ensures.course (λ course was. (refl, was.1, was.2)))

pub returns-in-Failed-clause-ok : goal.returns-in-Failed-clause-ok
returns-in-Failed-clause-ok g c =
    nothing_read _ _ _ _ _ _ _ _ _ c.receive.new.buffer refl c.in-Failed.ensures.received c.in-Failed.ensures.sent
    (course_then _ _ (course_received received.Failed) _ _ _ _ _ _ c.in-Failed.ensures.course (λ course was. (was.0, refl, was.2)))

pub returns-in_err-feed-in-Bytes-clause-err : goal.returns-in_err-feed-in-Bytes-clause-err
returns-in_err-feed-in-Bytes-clause-err g c =
    on_err c.from_residual.result _
    (leaves_fed _ _ _ _ _ _ _ _ _ _ _ (take c.in-Bytes.count c.receive.new.buffer) refl c.in-Bytes.ensures.received c.in-Bytes.ensures.sent c.in_err-feed-in-Bytes.ensures.left)

pub returns-in-Nothing-clause-heard : goal.returns-in-Nothing-clause-heard
returns-in-Nothing-clause-heard g c = inr (refl, grows_none c.receive.new.buffer _ _ c.in-Nothing.ensures.received)

pub returns-in-End-clause-heard : goal.returns-in-End-clause-heard
returns-in-End-clause-heard g c = inr (refl, grows_none c.receive.new.buffer _ _ c.in-End.ensures.received)

pub returns-in-Failed-clause-heard : goal.returns-in-Failed-clause-heard
returns-in-Failed-clause-heard g c = inr (refl, grows_none c.receive.new.buffer _ _ c.in-Failed.ensures.received)

pub returns-in_ok-feed-in-Bytes-clause-heard : goal.returns-in_ok-feed-in-Bytes-clause-heard
returns-in_ok-feed-in-Bytes-clause-heard g c =
    inl (refl, more_of c.in-Bytes.count c.receive.new.buffer _ _ c.in-Bytes.ensures.some c.in-Bytes.ensures.bound c.in-Bytes.ensures.received)

pub returns-in_err-feed-in-Bytes-clause-heard : goal.returns-in_err-feed-in-Bytes-clause-heard
returns-in_err-feed-in-Bytes-clause-heard g c =
    inl (refl, more_of c.in-Bytes.count c.receive.new.buffer _ _ c.in-Bytes.ensures.some c.in-Bytes.ensures.bound c.in-Bytes.ensures.received)
