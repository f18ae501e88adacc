-- After any round the world is calm, and no more jobs are left than before it.
use Rattle.std.proofs.Common.{◌≡◌, ℕ, zero, suc, ◌≤◌, List, [], ◌∷◌, ◌++◌, map, ap, sym, ◌∙◌, subst, arith, append_assoc}
use Rattle.std.specs.List.{range_with_len}
use Rattle.nr_model.specs.Connections.{Setup}
use Rattle.nr_model.specs.Nodes.{World}
use Rattle.nr_model.specs.Nodes.Steps.{Step, Post, Lift, Reserve, Fill, Fetch, Apply, Look, Answer, Collect}
use Rattle.nr_model.specs.Nodes.Pasts.{Event}
use Rattle.nr_model.specs.Nodes.Settling.{IsRound, lifting, reserving, in_turn, applying, answering, left_in, after_events}
use Rattle.nr_model.proofs.NodesSteps.{AreSized, world_after-append}
use Rattle.nr_model.proofs.NodesRoundsLeft.{IsInner, step_left}
use Rattle.nr_model.proofs.NodesRoundsRuns.{IsRun, cut, sized_run, Leads, leads_none, leads_on, leads_one, leads_all, leads_mapped}
use Rattle.nr_model.proofs.NodesRoundsParts.{lifting_leads, reserving_leads, IsCalmWorld, leads_workers, answering_leads}
use Rattle.nr_model.proofs.NodesRoundsApplied.{Looks, applying_from}

-- a round in its parts, and the worlds between them
pub record Parts (setup : Setup) (world : World) (turns : List ℕ) (events : List Event) : Type 0 where
  pub lifted : List Event
  pub reserved : List Event
  pub applied : List Event
  pub answered : List Event
  pub is : events ≡ lifted ++ (reserved ++ (applied ++ answered))
  pub lifts : IsRun setup world (lifting setup) lifted
  pub reserves : IsRun setup (after_events setup world lifted) (reserving setup) reserved
  pub applies : IsRun setup (after_events setup (after_events setup world lifted) reserved) (applying 0 turns) applied
  pub answers : IsRun setup (after_events setup (after_events setup (after_events setup world lifted) reserved) applied) (answering setup) answered
  pub last : after_events setup world events ≡ after_events setup (after_events setup (after_events setup (after_events setup world lifted) reserved) applied) answered

-- what four runs behind one another lead to
after_four : (setup : Setup) (world : World) (a b c d : List Event)
    → after_events setup world (a ++ (b ++ (c ++ d))) ≡ after_events setup (after_events setup (after_events setup (after_events setup world a) b) c) d
after_four setup world a b c d =
    world_after-append setup world a (b ++ (c ++ d)) ∙ world_after-append setup (after_events setup world a) b (c ++ d)
    ∙ world_after-append setup (after_events setup (after_events setup world a) b) c d

parts_from : (setup : Setup) (world : World) (turns : List ℕ) (events a b c d : List Event) → events ≡ a ++ (b ++ (c ++ d))
    → IsRun setup world (lifting setup) a
    → IsRun setup (after_events setup world a) (reserving setup) b
    → IsRun setup (after_events setup (after_events setup world a) b) (applying 0 turns) c
    → IsRun setup (after_events setup (after_events setup (after_events setup world a) b) c) (answering setup) d
    → Parts setup world turns events
parts_from setup world turns events a b c d is lifts reserves applies answers = record {
  lifted = a;
  reserved = b;
  applied = c;
  answered = d;
  is = is;
  lifts = lifts;
  reserves = reserves;
  applies = applies;
  answers = answers;
  last = ap (after_events setup world) is ∙ after_four setup world a b c d;
}

joined : (events a more b rest c d : List Event) → events ≡ a ++ more → more ≡ b ++ rest → rest ≡ c ++ d → events ≡ a ++ (b ++ (c ++ d))
joined events a more b rest c d first second third =
    first ∙ ap (λ (es : List Event). a ++ es) (second ∙ ap (λ (es : List Event). b ++ es) third)

pub parts_of : (setup : Setup) (world : World) (events : List Event) → (round : IsRound setup world events) → Parts setup world round.turns events
parts_of setup world events round =
    let turns = round.turns in
    let run : IsRun setup world (lifting setup ++ (reserving setup ++ (applying 0 turns ++ answering setup))) events =
    record { are = round.are; made = round.steps } in
    let a = cut setup (lifting setup) (reserving setup ++ (applying 0 turns ++ answering setup)) world events run in
    let first = after_events setup world a.front in
    let b = cut setup (reserving setup) (applying 0 turns ++ answering setup) first a.back a.behind in
    let second = after_events setup first b.front in
    let c = cut setup (applying 0 turns) (answering setup) second b.back b.behind in
    parts_from setup world turns events a.front b.front c.front c.back
    (joined events a.front a.back b.front b.back c.front c.back a.is b.is c.is) a.before b.before c.before c.behind

four : (a b c d : List Event) → a ++ (b ++ (c ++ d)) ≡ (a ++ b) ++ (c ++ d)
four a b c d = simp append_assoc

-- after a round the world is calm
pub round_calm : (setup : Setup) (world : World) (events : List Event) → AreSized setup world → IsRound setup world events
    → IsCalmWorld setup (after_events setup world events)
round_calm setup world events sized round =
    let p = parts_of setup world events round in
    let first = after_events setup world p.lifted in
    let second = after_events setup first p.reserved in
    let third = after_events setup second p.applied in
    let taken = lifting_leads setup world p.lifted p.lifts tt in
    let filled = reserving_leads setup first p.reserved p.reserves (sized_run setup p.lifted world sized, taken) in
    let count = round.nodes in
    let looks : Looks setup events = record { until = round.until; some = round.some } in
    let turned = applying_from setup world events round.are looks round.turns 0 (p.lifted ++ p.reserved) p.applied p.answered second
    (p.is ∙ four p.lifted p.reserved p.applied p.answered) (sym (world_after-append setup world p.lifted p.reserved)) (omega arith) p.applies
    (record { taken = filled.0; filled = filled.1; passed = λ m none. absurd (omega arith) }) in
    subst (IsCalmWorld setup) (sym p.last)
    (answering_leads setup third p.answered p.answers (record {
      taken = turned.taken;
      filled = turned.filled;
      passed = λ m below. turned.passed m (omega arith);
    }))

-- what each step of a round keeps, its parts do
pub record Inner (setup : Setup) (J : World → Type 0) : Type 0 where
  pub keeps : (step : Step) → IsInner step → Leads setup (step ∷ []) J J

pub lifting_keeps : (setup : Setup) (J : World → Type 0) → Inner setup J → Leads setup (lifting setup) J J
lifting_keeps setup J i =
    leads_workers setup (λ n w. Post n w ∷ Lift n w ∷ []) (λ n w. J)
    (λ n w hn hw. leads_on setup (Post n w ∷ []) (Lift n w ∷ []) J J J (i.keeps (Post n w) tt) (i.keeps (Lift n w) tt)) (λ n world j. j)

pub reserving_keeps : (setup : Setup) (J : World → Type 0) → Inner setup J → Leads setup (reserving setup) J J
reserving_keeps setup J i =
    leads_all setup (λ n. Reserve n ∷ map (Fill n) (range_with_len 0 setup.nodes)) (λ n. J) setup.nodes
    (λ n below.
    leads_on setup (Reserve n ∷ []) (map (Fill n) (range_with_len 0 setup.nodes)) J J J (i.keeps (Reserve n) tt)
    (leads_mapped setup (Fill n) (λ t. J) setup.nodes (λ t under. i.keeps (Fill n t) tt)))

pub turns_keep : (setup : Setup) (J : World → Type 0) → Inner setup J → (n turns : ℕ) → Leads setup (in_turn n turns) J J
turns_keep setup J i n zero = leads_none setup J
turns_keep setup J i n (suc turns) =
    leads_on setup (Apply n ∷ []) (Fetch n ∷ in_turn n turns) J J J (i.keeps (Apply n) tt)
    (leads_on setup (Fetch n ∷ []) (in_turn n turns) J J J (i.keeps (Fetch n) tt) (turns_keep setup J i n turns))

pub applying_keeps : (setup : Setup) (J : World → Type 0) → Inner setup J → (n : ℕ) (turns : List ℕ) → Leads setup (applying n turns) J J
applying_keeps setup J i n [] = leads_none setup J
applying_keeps setup J i n (turns ∷ more) =
    leads_on setup (in_turn n turns) (Look n ∷ applying (suc n) more) J J J (turns_keep setup J i n turns)
    (leads_on setup (Look n ∷ []) (applying (suc n) more) J J J (i.keeps (Look n) tt) (applying_keeps setup J i (suc n) more))

pub answering_keeps : (setup : Setup) (J : World → Type 0) → Inner setup J → Leads setup (answering setup) J J
answering_keeps setup J i =
    leads_workers setup (λ n w. Answer n w ∷ Collect n w ∷ []) (λ n w. J)
    (λ n w hn hw. leads_on setup (Answer n w ∷ []) (Collect n w ∷ []) J J J (i.keeps (Answer n w) tt) (i.keeps (Collect n w) tt)) (λ n world j. j)

-- no more than so many jobs are left
abbrev pub AtMost : ℕ → World → Type 0
AtMost most world = left_in world.nodes ≤ most

pub at_most_inner : (setup : Setup) (most : ℕ) → Inner setup (AtMost most)
at_most_inner setup most = record {
  keeps = λ step is.
      leads_one setup step (AtMost most) (AtMost most)
      (λ world refused j. let less = step_left setup world step refused is in omega arith);
}

-- no more are left after a round than before it
pub round_left : (setup : Setup) (world : World) (events : List Event) → IsRound setup world events
    → left_in (after_events setup world events).nodes ≤ left_in world.nodes
round_left setup world events round =
    let most = left_in world.nodes in
    let p = parts_of setup world events round in
    let i = at_most_inner setup most in
    let start : AtMost most world = omega arith in
    let first = lifting_keeps setup (AtMost most) i world p.lifted p.lifts start in
    let second = reserving_keeps setup (AtMost most) i _ p.reserved p.reserves first in
    let third = applying_keeps setup (AtMost most) i 0 round.turns _ p.applied p.applies second in
    subst (AtMost most) (sym p.last) (answering_keeps setup (AtMost most) i _ p.answered p.answers third)
