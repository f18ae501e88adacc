-- Runs of steps: what they lead to, step by step.
use Rattle.std.proofs.Common.{◌≡◌, ℕ, zero, suc, ◌+◌, ◌≤◌, ◌<◌, Bool, true, false, List, [], ◌∷◌, ◌++◌, map, get_or, set, refl, ap, sym, subst, arith}
use Rattle.std.specs.Prelude.{flat_map}
use Rattle.std.specs.List.{range_with_len}
use Rattle.nr_model.specs.Connections.{Setup}
use Rattle.nr_model.specs.Nodes.{World}
use Rattle.nr_model.specs.Nodes.Steps.{Step, Outcome, Refused, idle_where, after_step}
use Rattle.nr_model.specs.declared.reason.Reason.{Reason}
use Rattle.nr_model.specs.Nodes.Pasts.{Event, is_done, after_event, AreEvents}
use Rattle.nr_model.specs.Nodes.Settling.{after_events}
use Rattle.nr_model.proofs.NodesSteps.{AreSized, step_sized, world_after-append}
use Rattle.nr_model.proofs.NodesExecutedNodes.{at_set}

-- what a step tells that isn't done, and one that is
pub idle_tells : (b : Bool) (reason : Reason) (o : Outcome) → is_done (idle_where b reason o) ≡ false → b ≡ false → is_done o ≡ false
idle_tells true reason o h e = absurd (cc e)
idle_tells false reason o h e = h

pub idle_by : (b : Bool) (reason : Reason) (o : Outcome) → (b ≡ false → is_done o ≡ false) → is_done (idle_where b reason o) ≡ false
idle_by true reason o h = refl
idle_by false reason o h = h refl

pub done_tells : (b : Bool) (reason : Reason) (o : Outcome) → is_done (idle_where b reason o) ≡ true → (b ≡ false) × (is_done o ≡ true)
done_tells true reason o h = absurd (cc h)
done_tells false reason o h = (refl, h)

-- what holds of an element goes on holding, where a write at its place keeps it
pub at_keep : {A : Type 0} (P : A → Type 0) (xs : List A) (d : A) (m n : ℕ) (x : A) → (m ≡ n → P (get_or xs n d) → P x) → P (get_or xs m d)
    → P (get_or (set xs n x) m d)
at_keep {A} P xs d m n x change p =
    at_set (λ (k : ℕ) (y : A). k ≡ m → P y) xs n x d
    (λ h e. change (sym e) (subst (λ (k : ℕ). P (get_or xs k d)) (sym e) p)) (λ h e. subst (λ (k : ℕ). P (get_or xs k d)) (sym e) p)
    (λ k other e. subst (λ (j : ℕ). P (get_or xs j d)) (sym e) p) m refl

-- these events are a run of these steps
pub record IsRun (setup : Setup) (world : World) (steps : List Step) (events : List Event) : Type 0 where
  pub are : AreEvents setup world events
  pub made : map (λ (e : Event). e.step) events ≡ steps

-- a run of some steps and then others
pub record Parted (setup : Setup) (world : World) (first second : List Step) (events : List Event) : Type 0 where
  pub front : List Event
  pub back : List Event
  pub is : events ≡ front ++ back
  pub before : IsRun setup world first front
  pub behind : IsRun setup (after_events setup world front) second back

pub cut : (setup : Setup) (first second : List Step) (world : World) (events : List Event) → IsRun setup world (first ++ second) events
    → Parted setup world first second events
cut setup [] second world events run = record { front = []; back = events; is = refl; before = record { are = tt; made = refl }; behind = run }
cut setup (step ∷ first) second world [] run = let e = run.made in absurd (cc e)
cut setup (step ∷ first) second world (e ∷ events) run =
    let all = run.made in
    let here : e.step ≡ step = cc in
    let more : map (λ (e : Event). e.step) events ≡ first ++ second = cc in
    let c = cut setup first second (after_event setup world e) events (record { are = run.are.1; made = more }) in
    record {
      front = e ∷ c.front;
      back = c.back;
      is = ap (λ (es : List Event). e ∷ es) c.is;
      before = record { are = (run.are.0, c.before.are); made = λ i. here i ∷ c.before.made i };
      behind = c.behind;
    }

-- any events keep the sizes
pub sized_run : (setup : Setup) (events : List Event) (world : World) → AreSized setup world → AreSized setup (after_events setup world events)
sized_run setup [] world sized = sized
sized_run setup (e ∷ events) world sized = sized_run setup events (after_event setup world e) (step_sized setup world e.step e.refused sized)

-- from worlds where P holds these steps lead to worlds where Q does
abbrev pub Leads : Setup → List Step → (World → Type 0) → (World → Type 0) → Type 0
Leads setup steps P Q = (world : World) (events : List Event) → IsRun setup world steps events → P world → Q (after_events setup world events)

pub leads_none : (setup : Setup) (P : World → Type 0) → Leads setup [] P P
leads_none setup P world [] run p = p
leads_none setup P world (e ∷ events) run p = let all = run.made in absurd (cc all)

pub leads_on : (setup : Setup) (first second : List Step) (P Q R : World → Type 0) → Leads setup first P Q → Leads setup second Q R
    → Leads setup (first ++ second) P R
leads_on setup first second P Q R f s world events run p =
    let c = cut setup first second world events run in
    subst (λ (es : List Event). R (after_events setup world es)) (sym c.is)
    (subst R (sym (world_after-append setup world c.front c.back))
    (s (after_events setup world c.front) c.back c.behind (f world c.front c.before p)))

pub leads_one : (setup : Setup) (step : Step) (P Q : World → Type 0)
    → ((world : World) (refused : Refused) → P world → Q (after_step setup world step refused)) → Leads setup (step ∷ []) P Q
leads_one setup step P Q one world [] run p = let all = run.made in absurd (cc all)
leads_one setup step P Q one world (e ∷ []) run p =
    let all = run.made in
    let here : e.step ≡ step = cc in
    subst (λ (s : Step). Q (after_step setup world s e.refused)) (sym here) (one world e.refused p)
leads_one setup step P Q one world (e ∷ d ∷ events) run p =
    let all = run.made in
    let more : map (λ (e : Event). e.step) (d ∷ events) ≡ [] = cc in
    absurd (cc more)

-- steps for each number
pub leads_each : (setup : Setup) (f : ℕ → List Step) (J : ℕ → World → Type 0) (a count : ℕ)
    → ((n : ℕ) → a ≤ n → n < a + count → Leads setup (f n) (J n) (J (n + 1)))
    → Leads setup (flat_map f (range_with_len a count)) (J a) (J (a + count))
leads_each setup f J a zero each =
    let e : a ≡ a + 0 = omega arith in
    subst (λ (k : ℕ). Leads setup [] (J a) (J k)) e (leads_none setup (J a))
leads_each setup f J a (suc count) each =
    let e : (a + 1) + count ≡ a + suc count = omega arith in
    leads_on setup (f a) (flat_map f (range_with_len (a + 1) count)) (J a) (J (a + 1)) (J (a + suc count)) (each a (omega arith) (omega arith))
    (subst (λ (k : ℕ). Leads setup (flat_map f (range_with_len (a + 1) count)) (J (a + 1)) (J k)) e
    (leads_each setup f J (a + 1) count (λ n h g. each n (omega arith) (omega arith))))

pub leads_map : (setup : Setup) (f : ℕ → Step) (J : ℕ → World → Type 0) (a count : ℕ)
    → ((n : ℕ) → a ≤ n → n < a + count → Leads setup (f n ∷ []) (J n) (J (n + 1)))
    → Leads setup (map f (range_with_len a count)) (J a) (J (a + count))
leads_map setup f J a zero each =
    let e : a ≡ a + 0 = omega arith in
    subst (λ (k : ℕ). Leads setup [] (J a) (J k)) e (leads_none setup (J a))
leads_map setup f J a (suc count) each =
    let e : (a + 1) + count ≡ a + suc count = omega arith in
    leads_on setup (f a ∷ []) (map f (range_with_len (a + 1) count)) (J a) (J (a + 1)) (J (a + suc count)) (each a (omega arith) (omega arith))
    (subst (λ (k : ℕ). Leads setup (map f (range_with_len (a + 1) count)) (J (a + 1)) (J k)) e
    (leads_map setup f J (a + 1) count (λ n h g. each n (omega arith) (omega arith))))

-- from 0 on
pub leads_all : (setup : Setup) (f : ℕ → List Step) (J : ℕ → World → Type 0) (count : ℕ)
    → ((n : ℕ) → n < count → Leads setup (f n) (J n) (J (n + 1))) → Leads setup (flat_map f (range_with_len 0 count)) (J 0) (J count)
leads_all setup f J count each =
    let e : 0 + count ≡ count = omega arith in
    subst (λ (k : ℕ). Leads setup (flat_map f (range_with_len 0 count)) (J 0) (J k)) e (leads_each setup f J 0 count (λ n h g. each n (omega arith)))

pub leads_mapped : (setup : Setup) (f : ℕ → Step) (J : ℕ → World → Type 0) (count : ℕ)
    → ((n : ℕ) → n < count → Leads setup (f n ∷ []) (J n) (J (n + 1))) → Leads setup (map f (range_with_len 0 count)) (J 0) (J count)
leads_mapped setup f J count each =
    let e : 0 + count ≡ count = omega arith in
    subst (λ (k : ℕ). Leads setup (map f (range_with_len 0 count)) (J 0) (J k)) e (leads_map setup f J 0 count (λ n h g. each n (omega arith)))

pub leads_weaker : (setup : Setup) (steps : List Step) (P Q R : World → Type 0) → Leads setup steps P Q → ((world : World) → Q world → R world)
    → Leads setup steps P R
leads_weaker setup steps P Q R f weaker world events run p = weaker (after_events setup world events) (f world events run p)
