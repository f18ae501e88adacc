-- There was no room for it, or it is served further.
use Rattle.std.proofs.Common.{arith, [], ◌∷◌, ◌++◌, refl, ap, ◌∙◌}
use Rattle.nr_service.proofs.Arrived.{arrives_away, arrives_one, away_none, until_now}
use Rattle.nr_service.proofs.Heard.{opens_none, opens_one}
use Rattle.nr_service.proofs.Left.{on_err}
use Rattle.nr_service.proofs.Working.{opened_none, opened_behind}
use Rattle.nr_service.proofs.accepting.take_on.Goals as goal

pub returns-in_default-clause-ok : goal.returns-in_default-clause-ok
returns-in_default-clause-ok g c = rw c.open_one.ensures.items (opened_none _ _ _ _ _ _ _ _ (rw c.in_default.is at c.in_ok-conn.ensures.none))

pub returns-clause-ok : goal.returns-clause-ok
returns-clause-ok g c =
    opened_behind _ _ _ _ _ _ _ _ _ c.new.result c.in-Some.conn c.args.stream c.new.ensures.conn c.new.ensures.stream c.new.ensures.going
    c.new.ensures.sound c.new.ensures.empty (c.in_ok-push.ensures.items ∙ ap (λ l. l ++ c.new.result ∷ []) c.open_one.ensures.items) c.requires.received c.requires.sent c.requires.course (rw c.in-Some.is at c.in_ok-conn.ensures.opened)

pub returns-clause-taken : goal.returns-clause-taken
returns-clause-taken g c = record {
  client = c.new.result;
  items = c.in_ok-push.ensures.items ∙ ap (λ l. l ++ c.new.result ∷ []) c.open_one.ensures.items;
  its_stream = c.new.ensures.stream;
  placed = rw c.new.ensures.conn (rw c.in-Some.is at c.in_ok-conn.ensures.placed);
  going = c.new.ensures.going;
  sound = c.new.ensures.sound;
  empty = c.new.ensures.empty;
}

pub returns-clause-device : goal.returns-clause-device
returns-clause-device g c = away_none c.args.stream _ _ refl

pub returns-in_err-conn-clause-err : goal.returns-in_err-conn-clause-err
returns-in_err-conn-clause-err g c = on_err c.from_residual.result _ (rw c.open_one.ensures.items (until_now _ _ _ _ _ _ _ _ _ _ _ _ _ _ _ refl c.in_err-conn.ensures.left))

pub returns-in_err-push-clause-err : goal.returns-in_err-push-clause-err
returns-in_err-push-clause-err g c =
    let room = rw c.in-Some.is at c.in_ok-conn.ensures.room in absurd (omega (arith, c.in_err-push.ensures.full, room))

pub returns-in_default-clause-heard : goal.returns-in_default-clause-heard
returns-in_default-clause-heard g c = rw c.open_one.ensures.items (opens_none _ _)

pub returns-clause-heard : goal.returns-clause-heard
returns-clause-heard g c =
    opens_one _ _ _ c.new.result (c.in_ok-push.ensures.items ∙ ap (λ l. l ++ c.new.result ∷ []) c.open_one.ensures.items) c.new.ensures.heard

pub returns-in_default-clause-full : goal.returns-in_default-clause-full
returns-in_default-clause-full g c = λ none. rw c.in_default.is at c.in_ok-conn.ensures.full

pub returns-in_default-clause-arrives : goal.returns-in_default-clause-arrives
returns-in_default-clause-arrives g c =
    rw c.open_one.ensures.items
    (arrives_away _ _ _ _ _ _ _ _ _ _ c.args.stream (rw c.in_default.is at c.in_ok-conn.ensures.full) refl c.part.ensures)

pub returns-clause-arrives : goal.returns-clause-arrives
returns-clause-arrives g c =
    arrives_one _ _ _ _ _ _ _ _ _ _ c.args.stream c.new.result (c.in_ok-push.ensures.items ∙ ap (λ l. l ++ c.new.result ∷ []) c.open_one.ensures.items) refl (record {
      its_stream = c.new.ensures.stream;
      placed = rw c.new.ensures.conn (rw c.in-Some.is at c.in_ok-conn.ensures.placed);
      going = c.new.ensures.going;
      sound = c.new.ensures.sound;
      empty = c.new.ensures.empty;
    })
