use Rattle.std.proofs.Common.{◌++◌, ap, refl}
use Rattle.nr_worker.specs.Due.{DueState}
use Rattle.nr_worker.proofs.Admitted.{opened_by, unopened_by}
use Rattle.nr_worker.proofs.worker.Worker.open.Goals as goal

pub returns-clause-goes : goal.returns-clause-goes
returns-clause-goes g c =
    let r = c.self.inside.returned.items in
    (opened_by c.args.self.now _ c.open.new.self.seat.noted c.open.new.self c.take_in.new.seats c.adopt.new.self.standing c.in-Ok.opened.0
    c.in-Ok.opened.1.standing _ (r ++ c.take_in.new.due.jobs) c.take_in.new.due.late c.self.view_is c.in-Ok.ensures.heard
    (ap (λ (d : DueState). r ++ d.jobs) c.in_default.ensures.room) (ap (λ (d : DueState). d.late) c.in_default.ensures.room) c.in_default.ensures.later
    c.in_default.ensures.absent refl c.in-Ok.ensures.opened c.in-Ok.ensures.sound c.adopt.ensures.adopted c.adopt.ensures.met c.in_default.ensures.opened).1

pub returns-in-Err-take_in-clause-stands : goal.returns-in-Err-take_in-clause-stands
returns-in-Err-take_in-clause-stands g c =
    let r = c.self.inside.returned.items in
    let same = c.in-Err-take_in.ensures.same in
    (unopened_by c.args.self.now _ c.open.new.self.seat.noted c.open.new.self c.close.new.self c.take_in.new.seats c.adopt.new.self.standing c.in-Ok.opened.1.standing
    (r ++ c.take_in.new.due.jobs) c.take_in.new.due.late c.self.view_is c.in-Ok.ensures.heard c.close.ensures.closed same.0
    (ap (λ (d : DueState). r ++ d.jobs) same.1) (ap (λ (d : DueState). d.late) same.1) c.in-Ok.ensures.opened.knows c.in-Ok.ensures.sound
    c.adopt.ensures.adopted c.adopt.ensures.met).1
