-- Steps behind one another, the parts of a round, and rounds up to one in which nothing was done.
use Rattle.std.proofs.Common.{◌≡◌, ℕ, zero, suc, ◌+◌, ◌≤◌, Bool, true, false, not, ◌⊎◌, inl, inr, List, [], ◌∷◌, ◌++◌, length, map, refl, ap, sym, ◌∙◌, subst, arith, add-one, None, Option}
use Rattle.std.specs.Prelude.{◌||◌, flat_map}
use Rattle.std.specs.List.{range_with_len}
use Rattle.std.proofs.lemmas.List.{append-nil, append_assoc, map-append, length-append}
use Rattle.std.proofs.lemmas.List.Concat.{flat_map-append}
use Rattle.std.proofs.lemmas.List.Folds.{list_any-append}
use Rattle.std.proofs.lemmas.List.FromFn.{map-range_with_len_more}
use Rattle.nr_model.specs.Connections.{Setup, Handed}
use Rattle.nr_model.specs.Nodes.{World, fresh}
use Rattle.nr_model.specs.Nodes.Steps.{Step, Reserve, Fill, Fetch, Apply, Look, Collect, Outcome, after_step}
use Rattle.nr_model.specs.Nodes.Pasts.{Answering, Event, IsEvent, AreEvents, IsPast, handed_in, is_done}
use Rattle.nr_model.specs.Nodes.Settling.{for_workers, lifting, reserving, in_turn, applying, answering, round_of, is_idle, IsRound, does, after_events, AreRounds}
use Rattle.nr_model.proofs.NodesSteps.{world_after-append}
use Rattle.nr_model.proofs.NodesSettledStill.{are_both}
use Rattle.nr_model.proofs.NodesSettling.{nodes_settle}
use Rattle.nr_entry.specs.Setups.{IsAllowed}
use Rattle.nr_world.specs.declared.step.HandedBytes as out
use Rattle.nr_world.specs.Seen.{handed_seen}
use Rattle.nr_world.specs.WorldState.{WorldState, Shows}
use Rattle.nr_world.specs.Taken.{Takes, Steps}
use Rattle.nr_world.specs.Behind.{HandsOutBehind}
use Rattle.nr_world.specs.Settles.{events_of, SettlesWorld}
use Rattle.nr_world.specs.Rounds.{EndsIdle, AreLooks, IsRun, RunsSteps, RunsBy, TakesNodeTurns, Replays, ReplayEach, IsRoundTaken, TakesRound, AreBusy, TakesRounds}

-- no event stands in none
none_in : (G : Type 0) (front back : List Event) (look : Event) → ◌≡◌ {A = List Event} [] (front ++ look ∷ back) → G
none_in G [] back look is = absurd (cc is)
none_in G (e ∷ front) back look is = absurd (cc is)

looks_none : AreLooks []
looks_none = record { idle = λ n front back look is at. none_in (EndsIdle n front) front back look is }

-- one event that is no look
abbrev is_look : Step → Bool
is_look (Look n) = true
is_look _ = false

one_in : (G : Type 0) (e : Event) (n : ℕ) (front back : List Event) (look : Event) → is_look e.step ≡ false → e ∷ [] ≡ front ++ look ∷ back
    → look.step ≡ Look n → G
one_in G e n [] back look none is at =
    let same : e ≡ look = cc in
    let tells : is_look e.step ≡ true = ap (λ (x : Event). is_look x.step) same ∙ ap is_look at in
    absurd (cc (none, tells))
one_in G e n (f ∷ front) back look none is at =
    let rest : ◌≡◌ {A = List Event} [] (front ++ look ∷ back) = cc in
    none_in G front back look rest

looks_one : (e : Event) → is_look e.step ≡ false → AreLooks (e ∷ [])
looks_one e none = record { idle = λ n front back look is at. one_in (EndsIdle n front) e n front back look none is at }

-- a look stands in the first of these events, or in the others
parted : (a b front back : List Event) (look : Event) → a ++ b ≡ front ++ look ∷ back
    → ((more : List Event) × (a ≡ front ++ look ∷ more)) ⊎ ((rest : List Event) × (front ≡ a ++ rest) × (b ≡ rest ++ look ∷ back))
parted [] b front back look is = inr (front, refl, is)
parted (x ∷ a) b [] back look is =
    let same : x ≡ look = cc in
    inl (a, ap (λ (y : Event). y ∷ a) same)
parted (x ∷ a) b (f ∷ front) back look is =
    let here : x ≡ f = cc in
    let there : a ++ b ≡ front ++ look ∷ back = cc in
    elim (parted a b front back look there) [
      | inl h ↦ inl (h.0, λ i. here i ∷ h.1 i)
      | inr h ↦ let back_here = sym here in inr (h.0, λ i. back_here i ∷ h.1 i, h.2)
    ]

ends_behind : (n : ℕ) (a rest front : List Event) → EndsIdle n rest → front ≡ a ++ rest → EndsIdle n front
ends_behind n a rest front e is = record {
  before = a ++ e.before;
  apply = e.apply;
  fetch = e.fetch;
  is = is ∙ ap (λ (es : List Event). a ++ es) e.is ∙ sym (append_assoc a e.before (e.apply ∷ e.fetch ∷ []));
  applies = e.applies;
  fetches = e.fetches;
  first = e.first;
  second = e.second;
}

looks_on : (a b : List Event) → AreLooks a → AreLooks b → AreLooks (a ++ b)
looks_on a b first more = record {
  idle = λ n front back look is at. elim (parted a b front back look is) [
    | inl h ↦ first.idle n front h.0 look h.1 at
    | inr h ↦ ends_behind n a h.0 front (more.idle n h.0 back look h.2 at) h.1
  ];
}

-- an apply and a fetch, both idle, and then a look
last_in : (n : ℕ) (apply fetch look : Event) → apply.step ≡ Apply n → fetch.step ≡ Fetch n → look.step ≡ Look n → is_idle apply.outcome ≡ true
    → is_idle fetch.outcome ≡ true → (m : ℕ) (front back : List Event) (l : Event) → apply ∷ fetch ∷ look ∷ [] ≡ front ++ l ∷ back → l.step ≡ Look m
    → EndsIdle m front
last_in n apply fetch look applies fetches looks first second m [] back l is at =
    let same : apply ≡ l = cc in
    let tells : Apply n ≡ Look m = sym applies ∙ ap (λ (x : Event). x.step) same ∙ at in
    absurd (cc tells)
last_in n apply fetch look applies fetches looks first second m (x ∷ []) back l is at =
    let same : fetch ≡ l = cc in
    let tells : Fetch n ≡ Look m = sym fetches ∙ ap (λ (x : Event). x.step) same ∙ at in
    absurd (cc tells)
last_in n apply fetch look applies fetches looks first second m (x ∷ y ∷ []) back l is at =
    let here : x ≡ apply = cc in
    let there : y ≡ fetch = cc in
    let same : look ≡ l = cc in
    let tells : Look n ≡ Look m = sym looks ∙ ap (λ (x : Event). x.step) same ∙ at in
    let number : n ≡ m = cc in
    record {
      before = [];
      apply = apply;
      fetch = fetch;
      is = λ i. here i ∷ there i ∷ [];
      applies = applies ∙ ap Apply number;
      fetches = fetches ∙ ap Fetch number;
      first = first;
      second = second;
    }
last_in n apply fetch look applies fetches looks first second m (x ∷ y ∷ z ∷ front) back l is at =
    let rest : ◌≡◌ {A = List Event} [] (front ++ l ∷ back) = cc in
    none_in (EndsIdle m (x ∷ y ∷ z ∷ front)) front back l rest

neither : (a b : Bool) → (a || (b || false)) ≡ false → (not a ≡ true) × (not b ≡ true)
neither true b e = absurd (cc e)
neither false true e = absurd (cc e)
neither false false e = (refl, refl)

look_behind : (n : ℕ) (events : List Event) (look : Event) → map (λ (e : Event). e.step) events ≡ Apply n ∷ Fetch n ∷ [] → does events ≡ false
    → look.step ≡ Look n → AreLooks (events ++ look ∷ [])
look_behind n [] look made none at = absurd (cc made)
look_behind n (x ∷ []) look made none at = absurd (cc made)
look_behind n (x ∷ y ∷ []) look made none at =
    let applies : x.step ≡ Apply n = cc in
    let fetches : y.step ≡ Fetch n = cc in
    let idle = neither (is_done x.outcome) (is_done y.outcome) none in
    record { idle = λ m front back l is here. last_in n x y look applies fetches at idle.0 idle.1 m front back l is here }
look_behind n (x ∷ y ∷ z ∷ events) look made none at = absurd (cc made)

-- the last two of some events
last_two : (f b : List Event) (x y z w : Event) → f ++ x ∷ y ∷ [] ≡ b ++ z ∷ w ∷ [] → (x ≡ z) × (y ≡ w)
last_two [] [] x y z w is =
    let first : x ≡ z = cc in
    let second : y ≡ w = cc in
    (first, second)
last_two [] (e ∷ b) x y z w is = absurd (omega (arith, ap length is, length-append b (z ∷ w ∷ [])))
last_two (e ∷ f) [] x y z w is = absurd (omega (arith, ap length is, length-append f (x ∷ y ∷ [])))
last_two (d ∷ f) (e ∷ b) x y z w is =
    let rest : f ++ x ∷ y ∷ [] ≡ b ++ z ∷ w ∷ [] = cc in
    last_two f b x y z w rest

-- what a round says of them
idle_until : (events : List Event) → AreLooks events → (n : ℕ) (front back : List Event) (apply fetch look : Event)
    → events ≡ front ++ apply ∷ fetch ∷ look ∷ back → look.step ≡ Look n → (is_idle apply.outcome ≡ true) × (is_idle fetch.outcome ≡ true)
idle_until events looks n front back apply fetch look is at =
    let e = looks.idle n (front ++ apply ∷ fetch ∷ []) back look (is ∙ sym (append_assoc front (apply ∷ fetch ∷ []) (look ∷ back))) at in
    let same = last_two front e.before apply fetch e.apply e.fetch e.is in
    (ap (λ (x : Event). is_idle x.outcome) same.0 ∙ e.first, ap (λ (x : Event). is_idle x.outcome) same.1 ∙ e.second)

some_before : (events : List Event) → AreLooks events → (n : ℕ) (front back : List Event) (look : Event) → events ≡ front ++ look ∷ back → look.step ≡ Look n
    → (before : List Event) × (apply : Event) × (fetch : Event) × (front ≡ before ++ apply ∷ fetch ∷ []) × (apply.step ≡ Apply n) × (fetch.step ≡ Fetch n)
some_before events looks n front back look is at =
    let e = looks.idle n front back look is at in
    (e.before, e.apply, e.fetch, e.is, e.applies, e.fetches)

-- events behind a past
past_all : (setup : Setup) (before events : List Event) (world : World) → IsPast setup before world → AreEvents setup world events
    → IsPast setup (before ++ events) (after_events setup world events)
past_all setup before events world past are = (
  are_both setup (fresh setup) before events past.0 (subst (λ (w : World). AreEvents setup w events) past.1 are),
  ap (λ (w : World). after_events setup w events) past.1 ∙ sym (world_after-append setup (fresh setup) before events),
)

past_next : (setup next : Setup) (before events : List Event) (world : World) → next ≡ setup → IsPast setup before world → AreEvents setup world events
    → IsPast next (before ++ events) (after_events setup world events)
past_next setup next before events world same past are =
    subst (λ (u : Setup). IsPast u (before ++ events) (after_events setup world events)) (sym same) (past_all setup before events world past are)

or_false : (b : Bool) → (b || false) ≡ b
or_false true = refl
or_false false = refl

handed_more : (before : List Handed) (events more : List Event) → (before ++ handed_in events) ++ handed_in more ≡ before ++ handed_in (events ++ more)
handed_more before events more =
    append_assoc before (handed_in events) (handed_in more)
    ∙ ap (λ (h : List Handed). before ++ h) (sym (flat_map-append (λ (e : Event). e.handed) events more))

-- a run behind another
run_on : (setup : Setup) (b c : WorldState) (s t : List Step) (x y z : List Handed) (d e : Bool) (world : World) → (r : IsRun setup b s x y d world)
    → IsRun setup c t y z e (after_events setup world r.events) → IsRun setup c (s ++ t) x z (d || e) world
run_on setup b c s t x y z d e world r q = record {
  events = r.events ++ q.events;
  are = are_both setup world r.events q.events r.are q.are;
  steps_are = map-append (λ (e : Event). e.step) r.events q.events ∙ (λ i. r.steps_are i ++ q.steps_are i);
  handed = q.handed ∙ ap (λ (h : List Handed). h ++ handed_in q.events) r.handed ∙ handed_more x r.events q.events;
  done_is = list_any-append (λ (e : Event). is_done e.outcome) r.events q.events ∙ (λ i. r.done_is i || q.done_is i);
  looks = looks_on r.events q.events r.looks q.looks;
  shows = subst (Shows c) (sym (world_after-append setup world r.events q.events)) q.shows;
}

pub runs_on : (a b c : WorldState) (s t : List Step) (x y z : List Handed) (d e : Bool) → RunsSteps a b s x y d → RunsSteps b c t y z e → RunsSteps a c (s ++ t) x z (d || e)
runs_on a b c s t x y z d e p q = record {
  setup = q.setup ∙ p.setup;
  taken = λ events world past shows.
      let r = p.taken events world past shows in
      let next = after_events a.setup world r.events in
      let k = q.taken (events ++ r.events) next (past_next a.setup b.setup events r.events world p.setup past r.are) r.shows in
      run_on a.setup b c s t x y z d e world r (subst (λ (u : Setup). IsRun u c t y z e next) p.setup k);
}

pub runs_none : (a : WorldState) (x : List Handed) → RunsSteps a a [] x x false
runs_none a x = record {
  setup = refl;
  taken = λ events world past shows. record {
    events = [];
    are = tt;
    steps_are = refl;
    handed = sym (append-nil x);
    done_is = refl;
    looks = looks_none;
    shows = shows;
  };
}

-- where it hands out nothing, what was handed out before stays
pub runs_behind : (a b : WorldState) (s : List Step) (x : List Handed) (d : Bool) → RunsBy a b s d → RunsSteps a b s x x d
runs_behind a b s x d p = record {
  setup = p.setup;
  taken = λ events world past shows.
      let r = p.taken events world past shows in
      record {
        events = r.events;
        are = r.are;
        steps_are = r.steps_are;
        handed = sym (append-nil x) ∙ ap (λ (h : List Handed). x ++ h) r.handed;
        done_is = r.done_is;
        looks = r.looks;
        shows = r.shows;
      };
}

-- one step
pub runs_one : (old new : WorldState) (step : Step) (outcome : Outcome) (handed : List Handed) (answer : Option Answering) (x y : List Handed)
    → is_look step ≡ false → Takes old new step outcome handed answer → y ≡ x ++ handed → RunsSteps old new (step ∷ []) x y (is_done outcome)
runs_one old new step outcome handed answer x y none takes is = record {
  setup = takes.setup;
  taken = λ events world past shows.
      let t = takes.taken events world past shows in
      let e : Event = record { step = step; outcome = outcome; handed = handed; answer = answer; refused = t.refused } in
      record {
        events = e ∷ [];
        are = (t.event, tt);
        steps_are = refl;
        handed = is ∙ ap (λ (h : List Handed). x ++ h) (sym (append-nil handed));
        done_is = or_false (is_done outcome);
        looks = looks_one e none;
        shows = t.shows;
      };
}

pub runs_step : (old new : WorldState) (step : Step) (outcome : Outcome) (d : Bool) → is_look step ≡ false → Steps old new step outcome → d ≡ is_done outcome
    → RunsBy old new (step ∷ []) d
runs_step old new step outcome d none takes is =
    subst (λ (b : Bool). RunsBy old new (step ∷ []) b) (sym is) (runs_one old new step outcome [] None [] [] none takes refl)

-- what a collect handed out, behind what was handed out before
pub collects : (old new : WorldState) (n w : ℕ) (o : Outcome) (answer : Option Answering) (first all : List Handed) (d : Bool)
    → HandsOutBehind old new n w o first all answer → d ≡ is_done o → RunsSteps old new (Collect n w ∷ []) first all d
collects old new n w o answer first all d c done =
    subst (λ (b : Bool). RunsSteps old new (Collect n w ∷ []) first all b) (sym done)
    (runs_one old new (Collect n w) o c.more answer first all refl c.taken c.behind)

-- other words for what was done, and the same steps
runs_as : (a b : WorldState) (s t : List Step) (x y : List Handed) (d g : Bool) → s ≡ t → g ≡ d → RunsSteps a b s x y d → RunsSteps a b t x y g
runs_as a b s t x y d g same is p =
    subst (λ (q : List Step). RunsSteps a b q x y g) same (subst (λ (e : Bool). RunsSteps a b s x y e) (sym is) p)

pub steps_on : (a b c : WorldState) (s t : Step) (o p : Outcome) (d e g : Bool) → is_look s ≡ false → is_look t ≡ false → Steps a b s o → Steps b c t p
    → d ≡ is_done o → e ≡ is_done p → g ≡ (d || e) → RunsBy a c (s ∷ t ∷ []) g
steps_on a b c s t o p d e g first second h k is also both =
    runs_as a c (s ∷ t ∷ []) (s ∷ t ∷ []) [] [] (d || e) g refl both
    (runs_on a b c (s ∷ []) (t ∷ []) [] [] [] d e (runs_step a b s o d first h is) (runs_step b c t p e second k also))

-- a step and more
pub step_on : (a b c : WorldState) (s : Step) (t : List Step) (o : Outcome) (x y : List Handed) (d e g : Bool) → is_look s ≡ false → Steps a b s o
    → RunsSteps b c t x y e → d ≡ is_done o → g ≡ (d || e) → RunsSteps a c (s ∷ t) x y g
step_on a b c s t o x y d e g none h p is both =
    runs_as a c (s ∷ t) (s ∷ t) x y (d || e) g refl both
    (runs_on a b c (s ∷ []) t x x y d e (runs_behind a b (s ∷ []) x d (runs_step a b s o d none h is)) p)

-- of a range, one number more
range_more : (a n : ℕ) → range_with_len a (suc n) ≡ range_with_len a n ++ (a + n) ∷ []
range_more a zero = ap (λ (k : ℕ). k ∷ []) (let e : a ≡ a + 0 = omega arith in e)
range_more a (suc n) =
    ap (λ (ks : List ℕ). a ∷ ks)
    (range_more (a + 1) n ∙ ap (λ (k : ℕ). range_with_len (a + 1) n ++ k ∷ []) (let e : (a + 1) + n ≡ a + suc n = omega arith in e))

each_more : (f : ℕ → List Step) (n : ℕ) → flat_map f (range_with_len 0 n) ++ f n ≡ flat_map f (range_with_len 0 (n + 1))
each_more f n =
    let e : 0 + n ≡ n = omega arith in
    let last : flat_map f ((0 + n) ∷ []) ≡ f n = append-nil (f (0 + n)) ∙ ap f e in
    let whole : flat_map f (range_with_len 0 (suc n)) ≡ flat_map f (range_with_len 0 n) ++ f n =
    ap (flat_map f) (range_more 0 n) ∙ flat_map-append f (range_with_len 0 n) ((0 + n) ∷ [])
    ∙ ap (λ (s : List Step). flat_map f (range_with_len 0 n) ++ s) last in
    sym whole ∙ ap (λ (k : ℕ). flat_map f (range_with_len 0 k)) (sym (add-one n))

pub each_on : (a b c : WorldState) (f : ℕ → List Step) (n : ℕ) (x y z : List Handed) (d e g : Bool) → RunsSteps a b (flat_map f (range_with_len 0 n)) x y d
    → RunsSteps b c (f n) y z e → g ≡ (d || e) → RunsSteps a c (flat_map f (range_with_len 0 (n + 1))) x z g
each_on a b c f n x y z d e g p q is =
    runs_as a c (flat_map f (range_with_len 0 n) ++ f n) (flat_map f (range_with_len 0 (n + 1))) x z (d || e) g (each_more f n) is
    (runs_on a b c (flat_map f (range_with_len 0 n)) (f n) x y z d e p q)

pub mapped_on : (a b c : WorldState) (f : ℕ → Step) (n : ℕ) (x y z : List Handed) (d e g : Bool) → RunsSteps a b (map f (range_with_len 0 n)) x y d
    → RunsSteps b c (f n ∷ []) y z e → g ≡ (d || e) → RunsSteps a c (map f (range_with_len 0 (n + 1))) x z g
mapped_on a b c f n x y z d e g p q is =
    runs_as a c (map f (range_with_len 0 n) ++ f n ∷ []) (map f (range_with_len 0 (n + 1))) x z (d || e) g
    (sym (map-range_with_len_more f 0 n n (let e : 0 + n ≡ n = omega arith in e))) is
    (runs_on a b c (map f (range_with_len 0 n)) (f n ∷ []) x y z d e p q)

-- as many as there are
pub as_many : (P : ℕ → Type 0) (i count : ℕ) → i ≤ count → count ≤ i → P i → P count
as_many P i count h k p = subst P (let e : i ≡ count = omega arith in e) p

-- the workers of so many nodes, each so many
abbrev pub for_nodes : (ℕ → ℕ → List Step) → ℕ → ℕ → List Step
for_nodes steps workers count = flat_map (λ n. flat_map (steps n) (range_with_len 0 workers)) (range_with_len 0 count)

pub node_on : (a b c : WorldState) (steps : ℕ → ℕ → List Step) (workers n count : ℕ) (x y z : List Handed) (d e g : Bool)
    → RunsSteps a b (for_nodes steps workers n) x y d → RunsSteps b c (flat_map (steps n) (range_with_len 0 count)) y z e → count ≡ workers → g ≡ (d || e)
    → RunsSteps a c (for_nodes steps workers (n + 1)) x z g
node_on a b c steps workers n count x y z d e g p q same is =
    each_on a b c (λ n. flat_map (steps n) (range_with_len 0 workers)) n x y z d e g p
    (subst (λ (k : ℕ). RunsSteps b c (flat_map (steps n) (range_with_len 0 k)) y z e) same q) is

pub nodes_all : (a b : WorldState) (steps : ℕ → ℕ → List Step) (setup : Setup) (n count : ℕ) (x y : List Handed) (d : Bool) → n ≤ count → count ≤ n
    → count ≡ setup.nodes → RunsSteps a b (for_nodes steps setup.workers n) x y d → RunsSteps a b (for_workers setup steps) x y d
nodes_all a b steps setup n count x y d h k is p =
    as_many (λ (i : ℕ). RunsSteps a b (for_nodes steps setup.workers i) x y d) n setup.nodes (omega arith) (omega arith) p

-- entries of so many nodes, each with so many cells
abbrev pub for_entries : ℕ → ℕ → List Step
for_entries cells count = flat_map (λ n. Reserve n ∷ map (Fill n) (range_with_len 0 cells)) (range_with_len 0 count)

pub entry_on : (a b c : WorldState) (cells n count : ℕ) (d e g : Bool) → RunsBy a b (for_entries cells n) d
    → RunsBy b c (Reserve n ∷ map (Fill n) (range_with_len 0 count)) e → count ≡ cells → g ≡ (d || e) → RunsBy a c (for_entries cells (n + 1)) g
entry_on a b c cells n count d e g p q same is =
    each_on a b c (λ n. Reserve n ∷ map (Fill n) (range_with_len 0 cells)) n [] [] [] d e g p
    (subst (λ (k : ℕ). RunsBy b c (Reserve n ∷ map (Fill n) (range_with_len 0 k)) e) same q) is

pub entries_all : (a b : WorldState) (setup : Setup) (n count : ℕ) (d : Bool) → n ≤ count → count ≤ n → count ≡ setup.nodes
    → RunsBy a b (for_entries setup.nodes n) d → RunsBy a b (reserving setup) d
entries_all a b setup n count d h k is p = as_many (λ (i : ℕ). RunsBy a b (for_entries setup.nodes i) d) n setup.nodes (omega arith) (omega arith) p

-- one turn more
turns_more : (n turns : ℕ) → in_turn n turns ++ Apply n ∷ Fetch n ∷ [] ≡ in_turn n (suc turns)
turns_more n zero = refl
turns_more n (suc turns) = ap (λ (s : List Step). Apply n ∷ Fetch n ∷ s) (turns_more n turns)

pub record Turned (n : ℕ) (old new : WorldState) (done : Bool) : Type 0 where
  pub turns : ℕ
  pub runs : RunsBy old new (in_turn n turns) done

pub turned_none : (n : ℕ) (a : WorldState) → Turned n a a false
turned_none n a = record { turns = 0; runs = runs_none a [] }

or_true : (b : Bool) → (b || true) ≡ true
or_true true = refl
or_true false = refl

pub turned_on : (n : ℕ) (a b c : WorldState) (d e : Bool) → Turned n a b d → RunsBy b c (Apply n ∷ Fetch n ∷ []) e → e ≡ true → Turned n a c true
turned_on n a b c d e t q is = record {
  turns = suc t.turns;
  runs = runs_as a c (in_turn n t.turns ++ Apply n ∷ Fetch n ∷ []) (in_turn n (suc t.turns)) [] [] (d || e) true (turns_more n t.turns)
      (sym (or_true d) ∙ ap (λ (b : Bool). d || b) (sym is)) (runs_on a b c (in_turn n t.turns) (Apply n ∷ Fetch n ∷ []) [] [] [] d e t.runs q);
}

pub turned_all : (n : ℕ) (a b c : WorldState) (d e : Bool) → Turned n a b d → RunsBy b c (Apply n ∷ Fetch n ∷ []) e → e ≡ false → TakesNodeTurns n a c d
turned_all n a b c d e t q is = record {
  turns = t.turns;
  middle = b;
  first = t.runs;
  last = subst (λ (g : Bool). RunsBy b c (Apply n ∷ Fetch n ∷ []) g) is q;
}

-- an idle turn, and a look
looked : (n : ℕ) (a b c : WorldState) (o : Outcome) → RunsBy a b (Apply n ∷ Fetch n ∷ []) false → Steps b c (Look n) o
    → RunsBy a c (Apply n ∷ Fetch n ∷ Look n ∷ []) (is_done o)
looked n a b c o p q = record {
  setup = q.setup ∙ p.setup;
  taken = λ events world past shows.
      let r = p.taken events world past shows in
      let next = after_events a.setup world r.events in
      let t = q.taken (events ++ r.events) next (past_next a.setup b.setup events r.events world p.setup past r.are) r.shows in
      let e : Event = record { step = Look n; outcome = o; handed = []; answer = None; refused = t.refused } in
      let is : IsEvent a.setup next e = subst (λ (u : Setup). IsEvent u next e) p.setup t.event in
      record {
        events = r.events ++ e ∷ [];
        are = are_both a.setup world r.events (e ∷ []) r.are (is, tt);
        steps_are = map-append (λ (e : Event). e.step) r.events (e ∷ []) ∙ ap (λ (s : List Step). s ++ Look n ∷ []) r.steps_are;
        handed = ap (λ (h : List Handed). h ++ []) r.handed ∙ handed_more [] r.events (e ∷ []);
        done_is = list_any-append (λ (e : Event). is_done e.outcome) r.events (e ∷ []) ∙ (λ i. r.done_is i || or_false (is_done o) i);
        looks = look_behind n r.events e r.steps_are r.done_is refl;
        shows = subst (Shows c) (sym (world_after-append a.setup world r.events (e ∷ [])))
            (subst (λ (u : Setup). Shows c (after_step u next (Look n) t.refused)) p.setup t.shows);
      };
}

pub replays : (n : ℕ) (a b c : WorldState) (o : Outcome) (d e g : Bool) → TakesNodeTurns n a b d → Steps b c (Look n) o → e ≡ is_done o
    → g ≡ (d || e) → Replays n a c g
replays n a b c o d e g t q is both = record {
  turns = suc t.turns;
  runs = runs_as a c (in_turn n t.turns ++ Apply n ∷ Fetch n ∷ Look n ∷ []) (in_turn n (suc t.turns) ++ Look n ∷ []) [] [] (d || is_done o) g
      (sym (append_assoc (in_turn n t.turns) (Apply n ∷ Fetch n ∷ []) (Look n ∷ [])) ∙ ap (λ (s : List Step). s ++ Look n ∷ []) (turns_more n t.turns))
      (both ∙ ap (λ (b : Bool). d || b) is)
      (runs_on a t.middle c (in_turn n t.turns) (Apply n ∷ Fetch n ∷ Look n ∷ []) [] [] [] d (is_done o) t.first (looked n t.middle b c o t.last q));
}

-- one node more
applying_more : (n : ℕ) (turns : List ℕ) (t : ℕ)
    → applying n turns ++ (in_turn (n + length turns) t ++ Look (n + length turns) ∷ []) ≡ applying n (turns ++ t ∷ [])
applying_more n [] t = ap (λ (k : ℕ). in_turn k t ++ Look k ∷ []) (let e : n + 0 ≡ n = omega arith in e)
applying_more n (u ∷ turns) t =
    let e : n + suc (length turns) ≡ suc n + length turns = omega arith in
    append_assoc (in_turn n u) (Look n ∷ applying (suc n) turns) (in_turn (n + suc (length turns)) t ++ Look (n + suc (length turns)) ∷ [])
    ∙ ap (λ (k : ℕ). in_turn n u ++ Look n ∷ (applying (suc n) turns ++ (in_turn k t ++ Look k ∷ []))) e
    ∙ ap (λ (s : List Step). in_turn n u ++ Look n ∷ s) (applying_more (suc n) turns t)

pub replay_none : (a : WorldState) → ReplayEach 0 a a false
replay_none a = record { turns = []; many = refl; runs = runs_none a [] }

pub replay_on : (n : ℕ) (a b c : WorldState) (d e g : Bool) → ReplayEach n a b d → Replays n b c e → g ≡ (d || e) → ReplayEach (n + 1) a c g
replay_on n a b c d e g p q is =
    let many = p.many in
    let number : 0 + length p.turns ≡ n = omega arith in
    record {
      turns = p.turns ++ q.turns ∷ [];
      many = omega (arith, length-append p.turns (q.turns ∷ []));
      runs = runs_as a c (applying 0 p.turns ++ (in_turn n q.turns ++ Look n ∷ [])) (applying 0 (p.turns ++ q.turns ∷ [])) [] [] (d || e) g
          (ap (λ (k : ℕ). applying 0 p.turns ++ (in_turn k q.turns ++ Look k ∷ [])) (sym number) ∙ applying_more 0 p.turns q.turns) is
          (runs_on a b c (applying 0 p.turns) (in_turn n q.turns ++ Look n ∷ []) [] [] [] d e p.runs q.runs);
    }

-- a round of its parts
parts_on : (a b c d e : WorldState) (x y : List Handed) (f g h k : Bool) → RunsBy a b (lifting a.setup) f → RunsBy b c (reserving a.setup) g
    → (r : ReplayEach a.setup.nodes c d h) → RunsSteps d e (answering a.setup) x y k → RunsSteps a e (round_of a.setup r.turns) x y (((f || g) || h) || k)
parts_on a b c d e x y f g h k first second r last =
    let l = lifting a.setup in
    let s = reserving a.setup in
    let t = applying 0 r.turns in
    let v = answering a.setup in
    subst (λ (q : List Step). RunsSteps a e q x y (((f || g) || h) || k))
    (append_assoc (l ++ s) t v ∙ append_assoc l s (t ++ v))
    (runs_on a d e ((l ++ s) ++ t) v x x y ((f || g) || h) k
    (runs_on a c d (l ++ s) t x x x (f || g) h
    (runs_on a b c l s x x x f g (runs_behind a b l x f first) (runs_behind b c s x g second)) (runs_behind c d t x h r.runs)) last)

round_on : (a b c d e : WorldState) (x y : List Handed) (f g h k done : Bool) → RunsBy a b (lifting a.setup) f → RunsBy b c (reserving a.setup) g
    → ReplayEach a.setup.nodes c d h → RunsSteps d e (answering a.setup) x y k → done ≡ (((f || g) || h) || k) → TakesRound a e x y done
round_on a b c d e x y f g h k done first second r last is =
    let p = parts_on a b c d e x y f g h k first second r last in
    record {
      setup = p.setup;
      taken = λ events world past shows.
          let t = p.taken events world past shows in
          record {
            events = t.events;
            round = record {
              are = t.are;
              turns = r.turns;
              nodes = r.many;
              steps = t.steps_are;
              until = idle_until t.events t.looks;
              some = some_before t.events t.looks;
            };
            handed = t.handed;
            done_is = t.done_is ∙ sym is;
            shows = t.shows;
          };
    }

pub round_from : (a b c d e : WorldState) (setup : Setup) (nodes : ℕ) (x y : List Handed) (f g h k done : Bool) → setup ≡ a.setup → nodes ≡ setup.nodes
    → RunsBy a b (lifting setup) f → RunsBy b c (reserving setup) g → ReplayEach nodes c d h → RunsSteps d e (answering setup) x y k
    → done ≡ (((f || g) || h) || k) → TakesRound a e x y done
round_from a b c d e setup nodes x y f g h k done same many first second r last is =
    round_on a b c d e x y f g h k done
    (subst (λ (u : Setup). RunsBy a b (lifting u) f) same first)
    (subst (λ (u : Setup). RunsBy b c (reserving u) g) same second)
    (subst (λ (n : ℕ). ReplayEach n c d h) (many ∙ ap (λ (u : Setup). u.nodes) same) r)
    (subst (λ (u : Setup). RunsSteps d e (answering u) x y k) same last) is

-- a round more, in which something was done
busy_on : (setup : Setup) (rounds : List (List Event)) (last : List Event) (world : World) → AreBusy setup world rounds
    → IsRound setup (after_events setup world (events_of rounds)) last → does last ≡ true → AreBusy setup world (rounds ++ last ∷ [])
busy_on setup [] last world busy round done = (round, done, tt)
busy_on setup (events ∷ rounds) last world busy round done = (
  busy.0,
  busy.1,
  busy_on setup rounds last (after_events setup world events) busy.2
      (subst (λ (w : World). IsRound setup w last) (world_after-append setup world events (events_of rounds)) round) done,
)

-- or nothing was
rounds_end : (setup : Setup) (rounds : List (List Event)) (last : List Event) (world : World) → AreBusy setup world rounds
    → IsRound setup (after_events setup world (events_of rounds)) last → does last ≡ false → AreRounds setup world (rounds ++ last ∷ [])
rounds_end setup [] last world busy round idle = (round, idle)
rounds_end setup (events ∷ []) last world busy round idle = (
  busy.0,
  busy.1,
  rounds_end setup [] last (after_events setup world events) tt
      (subst (λ (w : World). IsRound setup w last) (world_after-append setup world events []) round) idle,
)
rounds_end setup (events ∷ next ∷ more) last world busy round idle = (
  busy.0,
  busy.1,
  rounds_end setup (next ∷ more) last (after_events setup world events) busy.2
      (subst (λ (w : World). IsRound setup w last) (world_after-append setup world events (events_of (next ∷ more))) round) idle,
)

busy_events : (setup : Setup) (rounds : List (List Event)) (world : World) → AreBusy setup world rounds → AreEvents setup world (events_of rounds)
busy_events setup [] world busy = tt
busy_events setup (events ∷ rounds) world busy =
    are_both setup world events (events_of rounds) busy.0.are (busy_events setup rounds (after_events setup world events) busy.2)

events_more : (rounds : List (List Event)) (last : List Event) → events_of rounds ++ last ≡ events_of (rounds ++ last ∷ [])
events_more rounds last =
    sym (flat_map-append (λ (events : List Event). events) rounds (last ∷ []) ∙ ap (λ (es : List Event). events_of rounds ++ es) (append-nil last))

pub rounds_none : (a : WorldState) (first : List out.HandedBytes) → first ≡ [] → TakesRounds 0 a a (map handed_seen first)
rounds_none a first none = record {
  setup = refl;
  taken = λ events world past shows. record { rounds = []; busy = tt; many = refl; handed_is = ap (map handed_seen) none; shows = shows };
}

-- what a round leads to behind others
record Led (count : ℕ) (setup : Setup) (new : WorldState) (after : List Handed) (done : Bool) (past : List Event) (world : World) : Type 0 where
  rounds : List (List Event)
  busy : AreBusy setup world rounds
  many : length rounds ≡ count
  last : List Event
  round : IsRound setup (after_events setup world (events_of rounds)) last
  done_is : does last ≡ done
  handed_is : after ≡ handed_in (events_of (rounds ++ last ∷ []))
  shows : Shows new (after_events setup world (events_of (rounds ++ last ∷ [])))

led : (count : ℕ) (a b c : WorldState) (h k : List Handed) (done : Bool) → TakesRounds count a b h
    → TakesRound b c h k done → (events : List Event) (world : World)
    → IsPast a.setup events world → Shows a world → Led count a.setup c k done events world
led count a b c h k done p q events world past shows =
    let r = p.taken events world past shows in
    let all = events_of r.rounds in
    let next = after_events a.setup world all in
    let t = subst (λ (u : Setup). IsRoundTaken u c h k done next) p.setup
    (q.taken (events ++ all) next (past_next a.setup b.setup events all world p.setup past (busy_events a.setup r.rounds world r.busy)) r.shows) in
    record {
      rounds = r.rounds;
      busy = r.busy;
      many = r.many;
      last = t.events;
      round = t.round;
      done_is = t.done_is;
      handed_is = t.handed ∙ ap (λ (g : List Handed). g ++ handed_in t.events) r.handed_is ∙ handed_more [] all t.events
          ∙ ap handed_in (events_more r.rounds t.events);
      shows = subst (Shows c) (sym (world_after-append a.setup world all t.events) ∙ ap (after_events a.setup world) (events_more r.rounds t.events)) t.shows;
    }

pub rounds_more : (count : ℕ) (a b c : WorldState) (h k : List Handed) (done : Bool) → TakesRounds count a b h
    → TakesRound b c h k done → done ≡ true → TakesRounds (count + 1) a c k
rounds_more count a b c h k done p q is = record {
  setup = q.setup ∙ p.setup;
  taken = λ events world past shows.
      let l = led count a b c h k done p q events world past shows in
      let many = l.many in
      record {
        rounds = l.rounds ++ l.last ∷ [];
        busy = busy_on a.setup l.rounds l.last world l.busy l.round (l.done_is ∙ is);
        many = omega (arith, length-append l.rounds (l.last ∷ []));
        handed_is = l.handed_is;
        shows = l.shows;
      };
}

pub rounds_all : (count : ℕ) (a b c : WorldState) (h k : List Handed) (done : Bool) → TakesRounds count a b h
    → TakesRound b c h k done → done ≡ false → IsAllowed b.setup
    → SettlesWorld a c k
rounds_all count a b c h k done p q is there = record {
  setup = q.setup ∙ p.setup;
  taken = λ events world past shows.
      let l = led count a b c h k done p q events world past shows in
      let rounds = l.rounds ++ l.last ∷ [] in
      let are = rounds_end a.setup l.rounds l.last world l.busy l.round (l.done_is ∙ is) in
      let allowed = subst IsAllowed p.setup there in
      let one = allowed.one_node in
      let some = allowed.one_worker in
      let two = allowed.two_places in
      record {
        rounds = rounds;
        are = are;
        handed_is = l.handed_is;
        shows = l.shows;
        settled = nodes_settle.settles a.setup events world rounds one some (omega arith) past are;
        few = nodes_settle.few a.setup events world rounds one some (omega arith) past are;
      };
}
