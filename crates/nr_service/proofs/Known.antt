-- What is known of the bytes of a stream, as they grow.
use Rattle.std.proofs.Common.{◌≡◌, ℕ, ◌≤◌, Bool, true, false, ◌++◌, take, drop, refl, sym, ap, ◌∙◌, subst, append_assoc, append-nil, arith, length}
use Rattle.std.specs.Prelude.{Option, Some, None, IfSome}
use Rattle.std.specs.Option.{option_map}
use Rattle.std.proofs.lemmas.List.{length-take, take-append-drop, take-take}
use Rattle.nr_model.specs.Bytes.{Bytes}
use Rattle.nr_model.proofs.JobLists.{take_none}
use Rattle.nr_service.specs.Streams.{Course, GrowsBy, IsCourse, fresh_course}

-- no bytes came
pub grows_none : (bytes : Bytes) (old new : Option Bytes) → GrowsBy 0 bytes old new → new ≡ old
grows_none bytes None new e = e
grows_none bytes (Some x) new e = e ∙ ap (λ (y : Bytes). Some (x ++ y)) (take_none bytes) ∙ ap (λ (y : Bytes). Some y) (append-nil x)

-- no more came than stand in front
pub grows_in_front : (count most : ℕ) (bytes : Bytes) (old new : Option Bytes) → count ≤ length (take most bytes)
    → GrowsBy count (take most bytes) old new → GrowsBy count bytes old new
grows_in_front count most bytes old new few e =
    let long = length-take most bytes in
    e ∙ ap (λ (more : Bytes). option_map (λ (front : Bytes). front ++ more) old) (take-take count most bytes (omega arith))

-- it is what was fed, and so are the bytes behind it
pub fed_more : (old new : Option Bytes) (piece fed all : Bytes) → new ≡ option_map (λ (bytes : Bytes). bytes ++ piece) old → fed ++ piece ≡ all
    → IfSome old (λ bytes. bytes ≡ fed) → IfSome new (λ bytes. bytes ≡ all)
fed_more None new piece fed all e whole was = subst (λ (o : Option Bytes). IfSome o (λ bytes. bytes ≡ all)) (sym e) tt
fed_more (Some x) new piece fed all e whole was =
    subst (λ (o : Option Bytes). IfSome o (λ bytes. bytes ≡ all)) (sym e) (ap (λ (y : Bytes). y ++ piece) was ∙ whole)

-- so many of the bytes that are kept were written
pub sent_more : (old new : Option Bytes) (count : ℕ) (pending handed : Bytes) → GrowsBy count pending old new
    → IfSome old (λ bytes. handed ≡ bytes ++ pending) → IfSome new (λ bytes. handed ≡ bytes ++ drop count pending)
sent_more None new count pending handed e was = subst (λ (o : Option Bytes). IfSome o (λ bytes. handed ≡ bytes ++ drop count pending)) (sym e) tt
sent_more (Some x) new count pending handed e was =
    subst (λ (o : Option Bytes). IfSome o (λ bytes. handed ≡ bytes ++ drop count pending)) (sym e)
    (was ∙ ap (λ (y : Bytes). x ++ y) (sym (take-append-drop count pending)) ∙ sym (append_assoc x (take count pending) (drop count pending)))

-- more was handed out, and is kept
pub handed_more : (old : Option Bytes) (pending handed more all : Bytes) → all ≡ handed ++ more → IfSome old (λ bytes. handed ≡ bytes ++ pending)
    → IfSome old (λ bytes. all ≡ bytes ++ (pending ++ more))
handed_more None pending handed more all e was = tt
handed_more (Some x) pending handed more all e was = e ∙ ap (λ (y : Bytes). y ++ more) was ∙ append_assoc x pending more

-- nothing is known, or that there is nothing
pub none_known : (known : Option Bytes) (rest : Bytes) → IfSome known (λ bytes. bytes ≡ rest) → (other : Bytes) → rest ≡ other
    → IfSome known (λ bytes. bytes ≡ other)
none_known None rest e other same = tt
none_known (Some x) rest e other same = e ∙ same

-- what is known of how a stream stands, behind a call
pub course_then : (old new : Option Course) (step : Course → Course) (ending broken full now_ending now_broken now_full : Bool) → new ≡ option_map step old
    → ((course : Course) → IsCourse ending broken full course → IsCourse now_ending now_broken now_full (step course))
    → IfSome old (IsCourse ending broken full) → IfSome new (IsCourse now_ending now_broken now_full)
course_then None new step ending broken full now_ending now_broken now_full e steps was =
    subst (λ (o : Option Course). IfSome o (IsCourse now_ending now_broken now_full)) (sym e) tt
course_then (Some course) new step ending broken full now_ending now_broken now_full e steps was =
    subst (λ (o : Option Course). IfSome o (IsCourse now_ending now_broken now_full)) (sym e) (steps course was)

-- it is as before
pub course_still : (old new : Option Course) (ending broken full : Bool) → new ≡ old → IfSome old (IsCourse ending broken full)
    → IfSome new (IsCourse ending broken full)
course_still old new ending broken full e was = subst (λ (o : Option Course). IfSome o (IsCourse ending broken full)) (sym e) was

-- at first
pub course_fresh : (known : Option Course) (ending broken full : Bool) → ending ≡ false → broken ≡ false → full ≡ false
    → IfSome known (λ course. course ≡ fresh_course) → IfSome known (IsCourse ending broken full)
course_fresh None ending broken full going sound empty fresh = tt
course_fresh (Some course) ending broken full going sound empty fresh = (
  going ∙ sym (ap (λ (c : Course). c.ended) fresh),
  sound ∙ sym (ap (λ (c : Course). c.failed) fresh),
  empty ∙ sym (ap (λ (c : Course). c.full) fresh),
)

pub same_course : (known : Option Course) → option_map (λ (course : Course). course) known ≡ known
same_course None = refl
same_course (Some course) = refl

-- what it says of one that has ended, failed, or not failed
pub course_ended : (known : Option Course) (ending broken full : Bool) → ending ≡ true → IfSome known (IsCourse ending broken full)
    → IfSome known (λ course. course.ended ≡ true)
course_ended None ending broken full is at = tt
course_ended (Some course) ending broken full is at = sym at.0 ∙ is

pub course_failed : (known : Option Course) (ending broken full : Bool) → broken ≡ true → IfSome known (IsCourse ending broken full)
    → IfSome known (λ course. course.failed ≡ true)
course_failed None ending broken full is at = tt
course_failed (Some course) ending broken full is at = sym at.1 ∙ is

pub course_sound : (known : Option Course) (ending broken full : Bool) → broken ≡ false → IfSome known (IsCourse ending broken full)
    → IfSome known (λ course. course.failed ≡ false)
course_sound None ending broken full is at = tt
course_sound (Some course) ending broken full is at = sym at.1 ∙ is
