-- The parts of a round that begins calm do nothing, where no fewer jobs are left behind them.
use Rattle.std.proofs.Common.{◌≡◌, ℕ, zero, suc, ◌+◌, ◌-◌, ◌≤◌, ◌<◌, Bool, true, false, not, cond, inl, inr, List, [], ◌∷◌, length, map, take, get_or, refl, ap, sym, ◌∙◌, subst, arith}
use Rattle.std.specs.Prelude.{◌&&◌, ◌||◌, ◌==◌, nat_lt}
use Rattle.std.specs.List.{list_any, list_all, range_with_len}
use Rattle.std.proofs.lemmas.Bool.{cases_Bool, lt-ltb, eq-eqb}
use Rattle.std.proofs.lemmas.Bool.Decides.{eqb_tells}
use Rattle.nr_model.specs.Items.{Item, is_update}
use Rattle.nr_model.specs.Entries.{Jobs, leading, leads_as_update, leads_as_read, most_entry_jobs, entry_jobs, read_jobs}
use Rattle.nr_model.specs.Connections.{Setup}
use Rattle.nr_model.specs.Nodes.{Node, no_node, World, node_at, tail_of}
use Rattle.nr_model.specs.Nodes.Steps.{Step, Reserve, Fill, Fetch, Apply, Look, Done, Refused, is_node, is_empty, is_true, has_place, are_filled, next_fetch, outcome, after_step}
use Rattle.nr_model.specs.declared.reason.Reason.TheVariants.{NoSuch, Down, Busy, Nothing, Full, NotYet}
use Rattle.nr_model.specs.Nodes.Pasts.{is_done}
use Rattle.nr_model.specs.Nodes.Settling.{reserving, in_turn, applying, left_in}
use Rattle.nr_model.proofs.NodesSteps.{AreSized}
use Rattle.nr_model.proofs.NodesRoundsLeft.{by_outcome, IsInner, step_left, reserve_fewer, look_fewer}
use Rattle.nr_model.proofs.NodesRoundsRuns.{idle_tells, idle_by, done_tells}
use Rattle.nr_model.proofs.NodesRoundsParts.{is_in, empty_list, cell, AreFilled, HasPassed, HavePassed}
use Rattle.nr_model.proofs.NodesRoundsStill.{Stays, stays_none, stays_on, stays_one, stays_weaker, stays_all, stays_mapped}

-- no fewer than so many jobs are left
abbrev pub AtLeast : ℕ → World → Type 0
AtLeast least world = least ≤ left_in world.nodes

-- a world in which all entries were passed, and in which so many jobs are left at most
pub record IsQuiet (setup : Setup) (most : ℕ) (world : World) : Type 0 where
  pub sized : AreSized setup world
  pub filled : AreFilled world
  pub passed : HavePassed setup world
  pub few : left_in world.nodes ≤ most

abbrev Quiets : Setup → ℕ → List Step → (World → Type 0) → Type 1
Quiets setup most steps R = Stays setup (IsQuiet setup most) (AtLeast most) steps R

quiet_one : (setup : Setup) (most : ℕ) (R : World → Type 0) (step : Step) → IsInner step
    → ((world : World) (refused : Refused) → IsQuiet setup most world → AtLeast most (after_step setup world step refused)
    → (is_done (outcome setup world step) ≡ false) × R world)
    → Quiets setup most (step ∷ []) R
quiet_one setup most R step is one =
    stays_one setup (IsQuiet setup most) (AtLeast most) R step (λ world refused sized f. let less = step_left setup world step refused is in omega arith) one

-- all cells are filled, and there is a place
none_unfilled : (cells : List Bool) → ((s : ℕ) → get_or cells s false ≡ false) → list_any is_true cells ≡ false
none_unfilled [] none = refl
none_unfilled (b ∷ cells) none =
    ap (λ (x : Bool). x || list_any is_true cells) (none 0) ∙ none_unfilled cells (λ s. none (suc s))

all_of : (test : Node → Bool) (nodes : List Node) → ((n : ℕ) → n < length nodes → test (get_or nodes n no_node) ≡ true) → list_all test nodes ≡ true
all_of test [] each = refl
all_of test (node ∷ nodes) each =
    ap (λ (x : Bool). x && list_all test nodes) (each 0 (omega arith)) ∙ all_of test nodes (λ n h. each (suc n) (omega arith))

a_place : (setup : Setup) (most : ℕ) (world : World) → 1 ≤ setup.places → IsQuiet setup most world → has_place setup world ≡ true
a_place setup most world some q =
    all_of (λ node. nat_lt (tail_of world) (node.passed + setup.places)) world.nodes
    (λ n h.
    let long = q.sized.nodes in
    let passed = (q.passed n (omega arith)).passed in
    lt-ltb (tail_of world) ((node_at n world).passed + setup.places) (omega arith))

-- an entry would leave fewer
reserve_idle : (setup : Setup) (most n : ℕ) → 1 ≤ setup.places → n < setup.nodes → (world : World) (refused : Refused) → IsQuiet setup most world
    → AtLeast most (after_step setup world (Reserve n) refused)
    → (is_done (outcome setup world (Reserve n)) ≡ false) × ((node_at n world).down ≡ false → entry_jobs (node_at n world).waiting ≡ [])
reserve_idle setup most n some hn world refused q f =
    let node = node_at n world in
    let o = outcome setup world (Reserve n) in
    let jobs = entry_jobs node.waiting in
    let idle : is_done o ≡ false =
    by_outcome (λ (x : World). AtLeast most x → is_done o ≡ false) o setup world (Reserve n) refused (λ idle g. idle)
    (λ done g.
    let a = done_tells (not (is_node setup n)) NoSuch _ done in
    let b = done_tells node.down Down _ a.1 in
    let c = done_tells (list_any is_true node.unfilled) Busy _ b.1 in
    let d = done_tells (is_empty jobs) Nothing _ c.1 in
    let fewer = reserve_fewer setup n world in
    let few = q.few in
    let none : length jobs ≡ 0 = omega arith in
    let test = eq-eqb (length jobs) 0 none in
    absurd (cc (test, d.0))) f in (
      idle,
      λ up.
          let a = idle_tells (not (is_node setup n)) NoSuch _ idle (is_in n setup.nodes hn) in
          let b = idle_tells node.down Down _ a up in
          let c = idle_tells (list_any is_true node.unfilled) Busy _ b (none_unfilled node.unfilled (q.filled n)) in
          elim (cases_Bool (is_empty jobs)) [
            | inl e ↦ empty_list jobs e
            | inr e ↦ absurd (cc (idle_tells (not (has_place setup world)) Full Done (idle_tells (is_empty jobs) Nothing _ c e) (ap not (a_place setup most world some q))))
          ],
    )

fill_idle : (setup : Setup) (n t : ℕ) (world : World) → AreFilled world → is_done (outcome setup world (Fill n t)) ≡ false
fill_idle setup n t world filled =
    idle_by (not (is_node setup n && is_node setup t)) NoSuch _
    (λ h. idle_by (not (cell (node_at n world) t)) Nothing Done (λ e. absurd (cc (ap not (filled n t), e))))

apply_still : (setup : Setup) (n : ℕ) (world : World) → HasPassed (tail_of world) (node_at n world) → is_done (outcome setup world (Apply n)) ≡ false
apply_still setup n world p =
    idle_by (not (is_node setup n)) NoSuch _ (λ h. idle_by (not (node_at n world).fetched) Nothing Done (λ e. absurd (cc (ap not p.free, e))))

fetch_still : (setup : Setup) (n : ℕ) (world : World) → HasPassed (tail_of world) (node_at n world) → is_done (outcome setup world (Fetch n)) ≡ false
fetch_still setup n world p =
    let node = node_at n world in
    idle_by (not (is_node setup n)) NoSuch _
    (λ h. idle_by node.fetched Busy _
    (λ free. idle_by (node.passed == tail_of world) Nothing _ (λ e. absurd (cc (eq-eqb node.passed (tail_of world) p.passed, e)))))

-- and so would reads
look_idle : (setup : Setup) (most n : ℕ) → n < setup.nodes → (world : World) (refused : Refused) → IsQuiet setup most world
    → AtLeast most (after_step setup world (Look n) refused)
    → (is_done (outcome setup world (Look n)) ≡ false) × ((node_at n world).down ≡ false → read_jobs (node_at n world).waiting ≡ [])
look_idle setup most n hn world refused q f =
    let node = node_at n world in
    let o = outcome setup world (Look n) in
    let jobs = read_jobs node.waiting in
    let p = q.passed n hn in
    let idle : is_done o ≡ false =
    by_outcome (λ (x : World). AtLeast most x → is_done o ≡ false) o setup world (Look n) refused (λ idle g. idle)
    (λ done g.
    let a = done_tells (not (is_node setup n)) NoSuch _ done in
    let b = done_tells node.down Down _ a.1 in
    let c = done_tells (is_empty jobs) Nothing _ b.1 in
    let fewer = look_fewer refused n world p.passed b.0 in
    let few = q.few in
    let none : length jobs ≡ 0 = omega arith in
    let test = eq-eqb (length jobs) 0 none in
    absurd (cc (test, c.0))) f in (
      idle,
      λ up.
          let a = idle_tells (not (is_node setup n)) NoSuch _ idle (is_in n setup.nodes hn) in
          let b = idle_tells node.down Down _ a up in
          let next : next_fetch node ≡ tail_of world = ap (λ (x : Bool). cond x (suc node.passed) node.passed) p.free ∙ p.passed in
          let none : tail_of world - next_fetch node ≡ 0 = omega arith in
          let filled = ap (λ (k : ℕ). not (are_filled world n (next_fetch node) k)) none in
          elim (cases_Bool (is_empty jobs)) [
            | inl e ↦ empty_list jobs e
            | inr e ↦
                absurd (cc (idle_tells (not (are_filled world n (next_fetch node) (tail_of world - next_fetch node))) NotYet Done
                (idle_tells (is_empty jobs) Nothing _ b e) filled))
          ],
    )

-- a node has no update that leads, and no read
abbrev pub NoEntry : ℕ → World → Type 0
NoEntry n world = (node_at n world).down ≡ false → entry_jobs (node_at n world).waiting ≡ []

abbrev pub NoReads : ℕ → World → Type 0
NoReads n world = (node_at n world).down ≡ false → read_jobs (node_at n world).waiting ≡ []

quiet_sized : (setup : Setup) (most : ℕ) (world : World) → IsQuiet setup most world → AreSized setup world
quiet_sized setup most world q = q.sized

pub reserving_stays : (setup : Setup) (most : ℕ) → 1 ≤ setup.places
    → Stays setup (IsQuiet setup most) (AtLeast most) (reserving setup) (λ world. (n : ℕ) → n < setup.nodes → NoEntry n world)
reserving_stays setup most some =
    let P = IsQuiet setup most in
    let F = AtLeast most in
    let Fills = λ (world : World). (t : ℕ) → t < setup.nodes → Unit {0} in
    stays_all setup P F NoEntry (λ n. Reserve n ∷ map (Fill n) (range_with_len 0 setup.nodes)) setup.nodes (quiet_sized setup most)
    (λ n below.
    stays_weaker setup P F (λ world. NoEntry n world × Fills world) (NoEntry n) (Reserve n ∷ map (Fill n) (range_with_len 0 setup.nodes)) (λ world both. both.0)
    (stays_on setup P F (NoEntry n) Fills (Reserve n ∷ []) (map (Fill n) (range_with_len 0 setup.nodes)) (quiet_sized setup most)
    (quiet_one setup most (NoEntry n) (Reserve n) tt (reserve_idle setup most n some below))
    (stays_mapped setup P F (λ t world. Unit {0}) (Fill n) setup.nodes (quiet_sized setup most)
    (λ t under. quiet_one setup most (λ world. Unit {0}) (Fill n t) tt (λ world refused q f. (fill_idle setup n t world q.filled, tt))))))

turns_stay : (setup : Setup) (most n turns : ℕ) → n < setup.nodes → Quiets setup most (in_turn n turns) (λ world. Unit {0})
turns_stay setup most n zero hn = stays_none setup (IsQuiet setup most) (AtLeast most)
turns_stay setup most n (suc turns) hn =
    let P = IsQuiet setup most in
    let F = AtLeast most in
    let U = λ (world : World). Unit {0} in
    stays_weaker setup P F (λ world. U world × (U world × U world)) U (in_turn n (suc turns)) (λ world both. tt)
    (stays_on setup P F U (λ world. U world × U world) (Apply n ∷ []) (Fetch n ∷ in_turn n turns) (quiet_sized setup most)
    (quiet_one setup most U (Apply n) tt (λ world refused q f. (apply_still setup n world (q.passed n hn), tt)))
    (stays_on setup P F U U (Fetch n ∷ []) (in_turn n turns) (quiet_sized setup most)
    (quiet_one setup most U (Fetch n) tt (λ world refused q f. (fetch_still setup n world (q.passed n hn), tt)))
    (turns_stay setup most n turns hn)))

abbrev NoneRead : ℕ → ℕ → World → Type 0
NoneRead n count world = (m : ℕ) → n ≤ m → m < n + count → NoReads m world

none_read : (n count : ℕ) (world : World) → Unit {0} × (NoReads n world × NoneRead (suc n) count world) → NoneRead n (suc count) world
none_read n count world all m h g = elim (eqb_tells m n) [
  | inl e ↦ subst (λ (k : ℕ). NoReads k world) (sym e.1) all.1.0
  | inr e ↦ let other = e.1 in all.1.1 m (omega arith) (omega arith)
]

pub applying_stays : (setup : Setup) (most : ℕ) (turns : List ℕ) (n : ℕ) → n + length turns ≤ setup.nodes
    → Stays setup (IsQuiet setup most) (AtLeast most) (applying n turns) (NoneRead n (length turns))
applying_stays setup most [] n within =
    stays_weaker setup (IsQuiet setup most) (AtLeast most) (λ world. Unit {0}) (NoneRead n 0) [] (λ world t m h g. absurd (omega arith))
    (stays_none setup (IsQuiet setup most) (AtLeast most))
applying_stays setup most (turns ∷ more) n within =
    let P = IsQuiet setup most in
    let F = AtLeast most in
    let U = λ (world : World). Unit {0} in
    let Rest = NoneRead (suc n) (length more) in
    stays_weaker setup P F (λ world. U world × (NoReads n world × Rest world)) (NoneRead n (suc (length more))) (applying n (turns ∷ more))
    (none_read n (length more))
    (stays_on setup P F U (λ world. NoReads n world × Rest world) (in_turn n turns) (Look n ∷ applying (suc n) more) (quiet_sized setup most)
    (turns_stay setup most n turns (omega arith))
    (stays_on setup P F (NoReads n) Rest (Look n ∷ []) (applying (suc n) more) (quiet_sized setup most)
    (quiet_one setup most (NoReads n) (Look n) tt (look_idle setup most n (omega arith)))
    (applying_stays setup most more (suc n) (omega arith))))

-- where nothing leads nothing waits
take_some : (k : ℕ) (job : Item) (jobs : Jobs) → take (suc k) (job ∷ jobs) ≡ [] → ⊥
take_some k job jobs e = absurd (cc e)

pub some_taken : (job : Item) (jobs : Jobs) → take most_entry_jobs (job ∷ jobs) ≡ [] → ⊥
some_taken job jobs e = take_some 1023 job jobs e

pub nothing_waits : (waiting : Jobs) → entry_jobs waiting ≡ [] → read_jobs waiting ≡ [] → waiting ≡ []
nothing_waits [] entry reads = refl
nothing_waits (job ∷ jobs) entry reads =
    let updates = leading leads_as_update (job ∷ []) jobs in
    let others = leading leads_as_read (job ∷ []) jobs in
    elim (cases_Bool (is_update job.deed)) [
      | inl e ↦
          absurd (some_taken job updates (sym (ap (λ (b : Bool). take most_entry_jobs (cond (b && true) (job ∷ updates) updates)) e) ∙ entry))
      | inr e ↦
          let some : job ∷ others ≡ [] = sym (ap (λ (b : Bool). cond (not b && true) (job ∷ others) others) e) ∙ reads in
          absurd (cc some)
    ]
