-- What was taken was written; else nothing was done.
use Rattle.std.proofs.Common.{inl, inr, take, refl}
use Rattle.nr_service.specs.Streams.{course_sent}
use Rattle.nr_service.specs.declared.stream.Sent.TheVariants as sent
use Rattle.nr_service.proofs.Known.{course_then, grows_in_front, grows_none}
use Rattle.nr_service.proofs.Heard.{more_of}
use Rattle.nr_service.proofs.Feeding.{nothing_written, written_one}
use Rattle.nr_service.proofs.writing.write_some.Goals as goal

pub returns-in-Bytes-clause-served : goal.returns-in-Bytes-clause-served
returns-in-Bytes-clause-served g c =
    written_one _ _ _ _ _ _ _ _ _ _ _ c.pending-pending.result.now c.in-Bytes.taken refl c.pending-pending.ensures c.in-Bytes.ensures.received
    (grows_in_front c.in-Bytes.taken c.min.result c.pending-pending.result.now _ _ c.in-Bytes.ensures.bound c.in-Bytes.ensures.sent)
    (course_then _ _ (course_sent (sent.Bytes c.in-Bytes.taken)) _ _ _ _ _ _ c.in-Bytes.ensures.course (λ course was. (was.0, was.1, refl)))
    c.written.ensures

pub returns-in-Nothing-clause-served : goal.returns-in-Nothing-clause-served
returns-in-Nothing-clause-served g c =
    nothing_written _ _ _ _ _ _ _ _ _ (take c.min.result c.pending-pending.result.now) refl c.in-Nothing.ensures.received c.in-Nothing.ensures.sent
    (course_then _ _ (course_sent sent.Nothing) _ _ _ _ _ _ c.in-Nothing.ensures.course (λ course was. (was.0, was.1, refl)))

pub returns-in-Failed-clause-served : goal.returns-in-Failed-clause-served
returns-in-Failed-clause-served g c =
    nothing_written _ _ _ _ _ _ _ _ _ (take c.min.result c.pending-pending.result.now) refl c.in-Failed.ensures.received c.in-Failed.ensures.sent
    (course_then _ _ (course_sent sent.Failed) _ _ _ _ _ _ c.in-Failed.ensures.course (λ course was. (was.0, refl, was.2)))

pub returns-in-Nothing-clause-heard : goal.returns-in-Nothing-clause-heard
returns-in-Nothing-clause-heard g c = inr (refl, grows_none (take c.min.result c.pending-pending.result.now) _ _ c.in-Nothing.ensures.sent)

pub returns-in-Failed-clause-heard : goal.returns-in-Failed-clause-heard
returns-in-Failed-clause-heard g c = inr (refl, grows_none (take c.min.result c.pending-pending.result.now) _ _ c.in-Failed.ensures.sent)

pub returns-in-Bytes-clause-heard : goal.returns-in-Bytes-clause-heard
returns-in-Bytes-clause-heard g c =
    inl (refl, more_of c.in-Bytes.taken (take c.min.result c.pending-pending.result.now) _ _ c.in-Bytes.ensures.some c.in-Bytes.ensures.bound c.in-Bytes.ensures.sent)
