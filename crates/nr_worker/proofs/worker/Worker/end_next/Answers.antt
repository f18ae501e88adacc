use Rattle.std.proofs.Common.{rules, ◌≡◌, List, [], ◌∷◌, ◌++◌, false, ap, refl, sym, ◌∙◌}
use Rattle.nr_model.specs.Items.{Item}
use Rattle.nr_entry.specs.Jobs.{item_of, items_of}
use Rattle.nr_entry.specs.declared.job.Job.{Job}
use Rattle.nr_worker.specs.Working.{end_of}
use Rattle.nr_worker.proofs.Returned.{none_put, none_told, put_by}
use Rattle.nr_worker.proofs.worker.Worker.end_next.Goals as goal

pub returns-in_default-clause-goes : goal.returns-in_default-clause-goes
returns-in_default-clause-goes g c = ([], none_told c.args.self.now _ c.next_unended.new.self c.self.view_is c.in_default.ensures.same)

pub returns-then-is_open-clause-goes : goal.returns-then-is_open-clause-goes
returns-then-is_open-clause-goes g c = (
  [],
  none_put c.args.self.now _ c.next_unended.new.self.seat.noted c.next_unended.new.self c.adopt.new.self.standing c.in-Some.token.standing c.in-Some.unended
      (c.self.inside.returned.items ++ c.self.inside.due.jobs) c.self.inside.due.late false c.self.view_is c.in-Some.ensures.heard refl c.in-Some.ensures.unended
      c.in-Some.ensures.sound c.adopt.ensures.adopted c.adopt.ensures.met,
)

pub returns-in_err-push-clause-goes : goal.returns-in_err-push-clause-goes
returns-in_err-push-clause-goes g c = (
  [],
  none_put c.args.self.now _ c.next_unended.new.self.seat.noted c.next_unended.new.self c.adopt.new.self.standing c.in-Some.token.standing c.in-Some.unended
      (c.self.inside.returned.items ++ c.push.new.self.jobs) c.push.new.self.late c.self.inside.is_ending c.self.view_is c.in-Some.ensures.heard
      (ap (λ (jobs : List Job). c.self.inside.returned.items ++ jobs) c.in_err-push.ensures.same) c.in-Some.ensures.unended c.in-Some.ensures.sound
      c.adopt.ensures.adopted c.adopt.ensures.met,
)

pub returns-clause-ended : goal.returns-clause-ended
returns-clause-ended g c =
    let behind = c.in-Some.ensures.behind in
    let node : c.node.result ≡ c.self.inside.worker.node = search rules in
    let is : item_of c.end_of-job.result ≡ end_of c.self.inside.worker.node c.in-Some.unended =
    c.end_of-job.ensures ∙ ap (λ n. end_of n c.in-Some.unended) node in
    (put_by c.args.self.now _ c.next_unended.new.self.seat.noted c.next_unended.new.self c.adopt.new.self.standing c.in-Some.token.standing behind.0 c.in-Some.unended
    c.self.inside.returned.items c.self.inside.due.jobs c.push.new.self.jobs c.push.new.self.late c.self.view_is c.in-Some.ensures.heard refl
    (c.in_ok-push.ensures.pushed ∙ ap (λ (job : Item). items_of c.self.inside.due.jobs ++ job ∷ []) is) c.in_ok-push.ensures.late
    (sym c.is_open.ensures ∙ c.if-is_open.false)
    c.in-Some.ensures.unended behind.1 c.in-Some.ensures.sound c.adopt.ensures.adopted c.adopt.ensures.met).0

pub returns-clause-goes : goal.returns-clause-goes
returns-clause-goes g c =
    let behind = c.in-Some.ensures.behind in
    let node : c.node.result ≡ c.self.inside.worker.node = search rules in
    let is : item_of c.end_of-job.result ≡ end_of c.self.inside.worker.node c.in-Some.unended =
    c.end_of-job.ensures ∙ ap (λ n. end_of n c.in-Some.unended) node in (
      end_of c.self.inside.worker.node c.in-Some.unended ∷ [],
      (put_by c.args.self.now _ c.next_unended.new.self.seat.noted c.next_unended.new.self c.adopt.new.self.standing c.in-Some.token.standing behind.0 c.in-Some.unended
          c.self.inside.returned.items c.self.inside.due.jobs c.push.new.self.jobs c.push.new.self.late c.self.view_is c.in-Some.ensures.heard refl
          (c.in_ok-push.ensures.pushed ∙ ap (λ (job : Item). items_of c.self.inside.due.jobs ++ job ∷ []) is) c.in_ok-push.ensures.late
          (sym c.is_open.ensures ∙ c.if-is_open.false)
          c.in-Some.ensures.unended behind.1 c.in-Some.ensures.sound c.adopt.ensures.adopted c.adopt.ensures.met).1,
    )
