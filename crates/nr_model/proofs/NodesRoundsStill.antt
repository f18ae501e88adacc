-- Runs of steps that do nothing, where what holds behind them rules out that they did.
use Rattle.std.proofs.Common.{◌≡◌, ℕ, zero, suc, ◌+◌, ◌≤◌, ◌<◌, Bool, false, inl, inr, List, [], ◌∷◌, ◌++◌, map, refl, ap, sym, ◌∙◌, subst, arith}
use Rattle.std.specs.Prelude.{◌||◌, flat_map}
use Rattle.std.proofs.lemmas.Bool.Decides.{eqb_tells}
use Rattle.std.specs.List.{range_with_len}
use Rattle.std.proofs.lemmas.List.Folds.{list_any-append}
use Rattle.nr_model.specs.Connections.{Setup}
use Rattle.nr_model.specs.Nodes.{World}
use Rattle.nr_model.specs.Nodes.Steps.{Step, Refused, outcome, came_to, after_step}
use Rattle.nr_model.specs.Nodes.Pasts.{Event, is_done}
use Rattle.nr_model.specs.Nodes.Settling.{does, for_workers, after_events}
use Rattle.nr_model.proofs.NodesSteps.{AreSized, came_idle, step_sized, world_after-append}
use Rattle.nr_model.proofs.NodesRoundsRuns.{IsRun, cut, sized_run, Leads, leads_none, leads_on, leads_one}
use Rattle.nr_model.proofs.NodesRoundsApplied.{idle_still}

-- nothing was done, and so it is known
pub record IsStill (setup : Setup) (world : World) (events : List Event) (R : World → Type 0) : Type 0 where
  pub same : after_events setup world events ≡ world
  pub idle : does events ≡ false
  pub tells : R world

-- from worlds where P holds these steps do nothing where F holds behind them
abbrev pub Still : Setup → (World → Type 0) → (World → Type 0) → List Step → (World → Type 0) → Type 0
Still setup P F steps R = (world : World) (events : List Event) → IsRun setup world steps events → P world → F (after_events setup world events)
    → IsStill setup world events R

-- where F holds behind these steps it held before them
abbrev pub Backward : Setup → (World → Type 0) → Type 0 → World → Type 0
Backward setup F G world = AreSized setup world × (F world → G)

-- steps that do nothing where F holds behind them
pub record Stays (setup : Setup) (P F : World → Type 0) (steps : List Step) (R : World → Type 0) : Type 1 where
  pub backs : (G : Type 0) → Leads setup steps (Backward setup F G) (Backward setup F G)
  pub still : Still setup P F steps R

still_none : (setup : Setup) (P F : World → Type 0) → Still setup P F [] (λ world. Unit {0})
still_none setup P F world [] run p f = record { same = refl; idle = refl; tells = tt }
still_none setup P F world (e ∷ events) run p f = let all = run.made in absurd (cc all)

pub stays_none : (setup : Setup) (P F : World → Type 0) → Stays setup P F [] (λ world. Unit {0})
stays_none setup P F = record { backs = λ G. leads_none setup (Backward setup F G); still = still_none setup P F }

pub stays_on : (setup : Setup) (P F R S : World → Type 0) (first second : List Step) → ((world : World) → P world → AreSized setup world)
    → Stays setup P F first R → Stays setup P F second S → Stays setup P F (first ++ second) (λ world. R world × S world)
stays_on setup P F R S first second base one two = record {
  backs = λ G. leads_on setup first second (Backward setup F G) (Backward setup F G) (Backward setup F G) (one.backs G) (two.backs G);
  still = λ world events run p f.
      let c = cut setup first second world events run in
      let middle = after_events setup world c.front in
      let joined : after_events setup world events ≡ after_events setup middle c.back =
      ap (after_events setup world) c.is ∙ world_after-append setup world c.front c.back in
      let sized = sized_run setup c.front world (base world p) in
      let end = subst F joined f in
      let before = (two.backs (F middle) middle c.back c.behind (sized, λ g. g)).1 end in
      let a = one.still world c.front c.before p before in
      let z = two.still middle c.back c.behind (subst P (sym a.same) p) end in
      record {
        same = joined ∙ z.same ∙ a.same;
        idle = ap does c.is ∙ list_any-append (λ (e : Event). is_done e.outcome) c.front c.back ∙ (λ i. a.idle i || z.idle i);
        tells = (a.tells, subst S a.same z.tells);
      };
}

still_one : (setup : Setup) (P F R : World → Type 0) (step : Step)
    → ((world : World) (refused : Refused) → P world → F (after_step setup world step refused) → (is_done (outcome setup world step) ≡ false) × R world)
    → Still setup P F (step ∷ []) R
still_one setup P F R step one world [] run p f = let all = run.made in absurd (cc all)
still_one setup P F R step one world (e ∷ []) run p f =
    let all = run.made in
    let here : e.step ≡ step = cc in
    let o = one world e.refused p (subst (λ (s : Step). F (after_step setup world s e.refused)) here f) in
    let idle : is_done e.outcome ≡ false =
    ap is_done run.are.0.outcome_is ∙ ap (λ (s : Step). is_done (came_to setup world s e.refused)) here ∙ came_idle setup world step e.refused o.0 in
    record {
      same = ap (λ (s : Step). after_step setup world s e.refused) here ∙ idle_still setup world step e.refused o.0;
      idle = ap (λ (b : Bool). b || false) idle;
      tells = o.1;
    }
still_one setup P F R step one world (e ∷ d ∷ events) run p f =
    let all = run.made in
    let more : map (λ (e : Event). e.step) (d ∷ events) ≡ [] = cc in
    absurd (cc more)

pub stays_one : (setup : Setup) (P F R : World → Type 0) (step : Step)
    → ((world : World) (refused : Refused) → AreSized setup world → F (after_step setup world step refused) → F world)
    → ((world : World) (refused : Refused) → P world → F (after_step setup world step refused) → (is_done (outcome setup world step) ≡ false) × R world)
    → Stays setup P F (step ∷ []) R
stays_one setup P F R step back one = record {
  backs = λ G.
      leads_one setup step (Backward setup F G) (Backward setup F G)
      (λ world refused j. (step_sized setup world step refused j.0, λ f. j.1 (back world refused j.0 f)));
  still = still_one setup P F R step one;
}

pub stays_weaker : (setup : Setup) (P F R S : World → Type 0) (steps : List Step) → ((world : World) → R world → S world) → Stays setup P F steps R
    → Stays setup P F steps S
stays_weaker setup P F R S steps weaker s = record {
  backs = s.backs;
  still = λ world events run p f. let t = s.still world events run p f in record { same = t.same; idle = t.idle; tells = weaker world t.tells };
}

-- what is known of each number
abbrev Within : (ℕ → World → Type 0) → ℕ → ℕ → World → Type 0
Within R a count world = (n : ℕ) → a ≤ n → n < a + count → R n world

within_more : (R : ℕ → World → Type 0) (a count : ℕ) (world : World) → R a world × Within R (a + 1) count world → Within R a (suc count) world
within_more R a count world (here, more) n h g = elim (eqb_tells n a) [
  | inl e ↦ subst (λ (k : ℕ). R k world) (sym e.1) here
  | inr e ↦ let other = e.1 in more n (omega arith) (omega arith)
]

stays_from : (setup : Setup) (P F : World → Type 0) (R : ℕ → World → Type 0) (f : ℕ → List Step) → ((world : World) → P world → AreSized setup world)
    → (a count : ℕ) → ((n : ℕ) → a ≤ n → n < a + count → Stays setup P F (f n) (R n))
    → Stays setup P F (flat_map f (range_with_len a count)) (Within R a count)
stays_from setup P F R f base a zero each =
    stays_weaker setup P F (λ world. Unit {0}) (Within R a zero) [] (λ world t n h g. absurd (omega arith)) (stays_none setup P F)
stays_from setup P F R f base a (suc count) each =
    let steps = flat_map f (range_with_len (a + 1) count) in
    stays_weaker setup P F (λ world. R a world × Within R (a + 1) count world) (Within R a (suc count)) (f a ++ steps) (within_more R a count)
    (stays_on setup P F (R a) (Within R (a + 1) count) (f a) steps base (each a (omega arith) (omega arith))
    (stays_from setup P F R f base (a + 1) count (λ n h g. each n (omega arith) (omega arith))))

pub stays_all : (setup : Setup) (P F : World → Type 0) (R : ℕ → World → Type 0) (f : ℕ → List Step) (count : ℕ)
    → ((world : World) → P world → AreSized setup world) → ((n : ℕ) → n < count → Stays setup P F (f n) (R n))
    → Stays setup P F (flat_map f (range_with_len 0 count)) (λ world. (n : ℕ) → n < count → R n world)
stays_all setup P F R f count base each =
    stays_weaker setup P F (Within R 0 count) (λ world. (n : ℕ) → n < count → R n world) (flat_map f (range_with_len 0 count))
    (λ world all n h. all n (omega arith) (omega arith)) (stays_from setup P F R f base 0 count (λ n h g. each n (omega arith)))

-- a list of one step for each
as_flat : (f : ℕ → Step) (xs : List ℕ) → flat_map (λ n. f n ∷ []) xs ≡ map f xs
as_flat f [] = refl
as_flat f (x ∷ xs) = ap (λ (steps : List Step). f x ∷ steps) (as_flat f xs)

pub stays_mapped : (setup : Setup) (P F : World → Type 0) (R : ℕ → World → Type 0) (f : ℕ → Step) (count : ℕ)
    → ((world : World) → P world → AreSized setup world) → ((n : ℕ) → n < count → Stays setup P F (f n ∷ []) (R n))
    → Stays setup P F (map f (range_with_len 0 count)) (λ world. (n : ℕ) → n < count → R n world)
stays_mapped setup P F R f count base each =
    subst (λ (steps : List Step). Stays setup P F steps (λ world. (n : ℕ) → n < count → R n world)) (as_flat f (range_with_len 0 count))
    (stays_all setup P F R (λ n. f n ∷ []) count base each)

pub stays_workers : (setup : Setup) (P F : World → Type 0) (R : ℕ → ℕ → World → Type 0) (steps : ℕ → ℕ → List Step)
    → ((world : World) → P world → AreSized setup world) → ((n w : ℕ) → n < setup.nodes → w < setup.workers → Stays setup P F (steps n w) (R n w))
    → Stays setup P F (for_workers setup steps) (λ world. (n : ℕ) → n < setup.nodes → (w : ℕ) → w < setup.workers → R n w world)
stays_workers setup P F R steps base each =
    stays_all setup P F (λ n world. (w : ℕ) → w < setup.workers → R n w world) (λ n. flat_map (steps n) (range_with_len 0 setup.workers)) setup.nodes base
    (λ n below. stays_all setup P F (R n) (steps n) setup.workers base (λ w under. each n w below under))
