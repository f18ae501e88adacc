-- What a line of a script comes to.
use Rattle.std.proofs.Common.{◌≡◌, ◌++◌, Option, Some, None, List, Result, Ok, Err, OnOk, codes, sym, subst, refl}
use Rattle.nr_model.specs.Bytes.{Bytes}
use Rattle.nr_world.specs.WorldState.{WorldState}
use Rattle.nr_script.specs.declared.line.Line.{Line}
use Rattle.nr_script.specs.Lines.{line_of}
use Rattle.nr_script.specs.Receivers.{Received}
use Rattle.nr_script.specs.Acts.{Setup, asked_by, IsDone}
use Rattle.nr_script.specs.Playing.{Played, IsSetUp, StandsAs, IsTaken, IsPlayed, IsOutOfPlace}

pub stands_new : (step : Line) (old : Option WorldState) (all : List Received) (new : Played) (world : WorldState) (before after : Bytes) → old ≡ None
    → new.world ≡ Some world → IsSetUp step world → new.opened ≡ all → after ≡ before ++ codes "ok\n" → StandsAs step old all new before after
stands_new step old all new world before after is now up same out =
    subst (λ (o : Option WorldState). StandsAs step o all new before after) (sym is) (world, now, up, same, out)

stands_still : {A E : Type 0} (r : Result A E) (step : Line) (old : Option WorldState) (first world : WorldState) (all : List Received) (new : Played)
    (before after : Bytes) → old ≡ Some first → new.world ≡ Some world → world.setup ≡ first.setup
    → OnOk r (IsDone (asked_by all step) first world all new.opened before after) → OnOk r (StandsAs step old all new before after)
stands_still (Ok a) step old first world all new before after is now same done =
    subst (λ (o : Option WorldState). StandsAs step o all new before after) (sym is) (world, now, same, done)
stands_still (Err e) step old first world all new before after is now same done = tt

set_up_again : (step : Line) (old : Option WorldState) (first : WorldState) (all : List Received) → old ≡ Some first → asked_by all step ≡ Setup
    → IsOutOfPlace step old all
set_up_again step old first all is again = subst (λ (o : Option WorldState). IsOutOfPlace step o all) (sym is) again

pub says_nothing : (line : Bytes) (old new : Played) (before : Bytes) → line_of line ≡ Some None → new ≡ old → IsPlayed line old new before before
says_nothing line old new before is same = subst (λ s. IsTaken s old new before before) (sym is) (same, refl)

pub says_step : {A E : Type 0} (r : Result A E) (line : Bytes) (step : Line) (old new : Played) (before after : Bytes) → line_of line ≡ Some (Some step)
    → OnOk r (StandsAs step old.world old.opened new before after) → OnOk r (IsPlayed line old new before after)
says_step (Ok a) line step old new before after is stands = subst (λ s. IsTaken s old new before after) (sym is) stands
says_step (Err e) line step old new before after is stands = tt

-- the same of what is seen of a script
pub stands_seen : {A E : Type 0} (r : Result A E) (step : Line) (v w : Played) (first world : WorldState) (new : Played) (before after : Bytes) → v ≡ w
    → v.world ≡ Some first → new.world ≡ Some world → world.setup ≡ first.setup
    → OnOk r (IsDone (asked_by v.opened step) first world v.opened new.opened before after) → OnOk r (StandsAs step w.world w.opened new before after)
stands_seen r step v w first world new before after same is now setup done =
    subst (λ (x : Played). OnOk r (StandsAs step x.world x.opened new before after)) same
    (stands_still r step v.world first world v.opened new before after is now setup done)

pub again_seen : (step : Line) (v w : Played) (first : WorldState) → v ≡ w → v.world ≡ Some first → asked_by v.opened step ≡ Setup
    → IsOutOfPlace step w.world w.opened
again_seen step v w first same is again =
    subst (λ (x : Played). IsOutOfPlace step x.world x.opened) same (set_up_again step v.world first v.opened is again)
