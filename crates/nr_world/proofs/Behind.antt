-- What a collect handed out, behind what was handed out before.
use Rattle.std.proofs.Common.{◌≡◌, ℕ, false, List, [], ◌++◌, length, map, append-nil, refl, ap, sym, ◌∙◌, subst, None, Option}
use Rattle.std.proofs.lemmas.List.{length-map}
use Rattle.nr_model.specs.Connections as traffic
use Rattle.nr_model.specs.Nodes.Steps as steps
use Rattle.nr_model.specs.declared.reason.Reason.TheVariants as reasons
use Rattle.nr_model.specs.Nodes.Pasts.{Answering}
use Rattle.nr_world.specs.WorldState.{WorldState}
use Rattle.nr_world.specs.Taken.{Takes}
use Rattle.nr_world.specs.Behind.{HandsOutBehind}
use Rattle.nr_world.proofs.Batches.{collect_idle}

-- behind nothing it is all
pub all_behind : (old new : WorldState) (n w : ℕ) (outcome : steps.Outcome) (before after : List traffic.Handed) (answer : Option Answering)
    → HandsOutBehind old new n w outcome before after answer → before ≡ [] → Takes old new (steps.Collect n w) outcome after answer
all_behind old new n w outcome before after answer c none =
    subst (λ (handed : List traffic.Handed). Takes old new (steps.Collect n w) outcome handed answer)
    (sym (c.behind ∙ ap (λ (front : List traffic.Handed). front ++ c.more) none)) c.taken

-- at a worker that there isn't, it is nothing
pub none_behind : (v : WorldState) (n w : ℕ) (before : List traffic.Handed) → steps.is_worker v.setup n w ≡ false
    → HandsOutBehind v v n w (steps.Idle reasons.NoSuch) before before None
none_behind v n w before e =
    record { more = []; behind = sym (append-nil before); taken = collect_idle v n w (steps.Idle reasons.NoSuch) [] None e refl refl refl }

-- where it is nothing, there are as many as before
pub as_long : {A B : Type 0} (f : A → B) (olds news : List A) (more : List B) → map f news ≡ map f olds ++ more → more ≡ [] → length news ≡ length olds
as_long {A} {B} f olds news more e none =
    let all : length (map f news) ≡ length (map f olds) = ap length (e ∙ ap (λ (back : List B). map f olds ++ back) none ∙ append-nil (map f olds)) in
    sym (length-map news f) ∙ all ∙ length-map olds f
