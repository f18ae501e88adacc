use Rattle.nr_worker.proofs.Answered.{are_answered}
use Rattle.nr_worker.proofs.Workers.{asked_led, ended_led, fresh_led, opened_led, posted_led, turned_led}
use Rattle.nr_worker.proofs.Timed.{goes_on, in_time}
use Rattle.nr_worker.proofs.law.desk_law.Goals as goal

pub returns : goal.returns
returns c = record {
  fresh = fresh_led;
  opened = opened_led;
  asked = asked_led;
  ended = ended_led;
  posted = posted_led;
  turned = turned_led;
  goes = goes_on;
  in_time = in_time;
  answered = are_answered;
}
