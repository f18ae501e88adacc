-- What holds of all of some, and workers that go on.
use Rattle.std.proofs.Common.{ℕ, inl, inr, List, [], ◌∷◌, map, Contains, refl, ◌∙◌, subst, append-nil}
use Rattle.std.specs.List.{AllByRecursion}
use Rattle.nr_model.proofs.NodesExecutedLists.{in_cases, some_in}
use Rattle.nr_model.proofs.NodesPartsEmitted.{begins_on}
use Rattle.nr_worker.specs.Worker.{WorkerState, IsLed, history_of}
use Rattle.nr_worker.specs.Law.{GoesTo}
use Rattle.nr_worker.specs.Moves.{fresh_desk}

pub at_one : {A : Type 0} (P : A → Type 0) (xs : List A) (x : A) → AllByRecursion P xs → Contains xs x → P x
at_one P [] x all there = absurd (some_in [] x refl there)
at_one P (y ∷ ys) x all there = elim (in_cases x y ys there) [
  | inl same ↦ subst P same all.0
  | inr behind ↦ at_one P ys x all.1 behind
]

pub each_weaker : {A : Type 0} (P Q : A → Type 0) → ((x : A) → P x → Q x) → (xs : List A) → AllByRecursion P xs → AllByRecursion Q xs
each_weaker P Q f [] all = tt
each_weaker P Q f (x ∷ xs) all = (f x all.0, each_weaker P Q f xs all.1)

pub each_mapped : {A B : Type 0} (P : B → Type 0) (f : A → B) (xs : List A) → AllByRecursion (λ (x : A). P (f x)) xs → AllByRecursion P (map f xs)
each_mapped P f [] all = tt
each_mapped P f (x ∷ xs) all = (all.0, each_mapped P f xs all.1)

pub goes_nowhere : (d : WorkerState) → GoesTo d d
goes_nowhere d = record { node = refl; worker = refl; mark = ([], append-nil _) }

pub goes_further : (d e f : WorkerState) → GoesTo d e → GoesTo e f → GoesTo d f
goes_further d e f one two = record {
  node = two.node ∙ one.node;
  worker = two.worker ∙ one.worker;
  mark = begins_on (history_of d.mark) (history_of e.mark) (history_of f.mark) one.mark two.mark;
}

pub fresh_is_led : (node worker : ℕ) → IsLed (fresh_desk node worker)
fresh_is_led node worker = record { sound = tt; own = tt; executed = tt; known = tt; each = tt }
