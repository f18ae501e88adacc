-- How far each node is in the operation log: a node that is up has applied what it passed, any other no more, and no node passed more than was reserved.
use Rattle.std.proofs.Common.{◌≡◌, ℕ, zero, suc, ◌+◌, ◌-◌, ◌≤◌, ◌<◌, true, false, inl, inr, List, [], ◌∷◌, ◌++◌, length, refl, ap, sym, ◌∙◌, subst, arith}
use Rattle.std.proofs.lemmas.Bool.{cases_Bool, cond_both}
use Rattle.std.proofs.lemmas.Bool.Decides.{eqb_tells}
use Rattle.std.proofs.lemmas.List.{append-nil, length-append}
use Rattle.nr_model.specs.Entries.{Jobs, entry_jobs, read_jobs}
use Rattle.nr_model.specs.Connections.{Setup}
use Rattle.nr_model.specs.Nodes.{Taken, Entry, Reads, Logged, Node, World, fresh, node_at, with_node, log_of, tail_of}
use Rattle.nr_model.specs.Nodes.Steps.{Refused, advanced, advanced_by, with_reads, next_fetch}
use Rattle.nr_model.specs.Nodes.Pasts.{Event, world_after}
use Rattle.nr_model.proofs.NodesSteps.{Keeps, each_world, each_with, by_look, fresh_at}
use Rattle.nr_model.proofs.NodesOwnAdvance.{by_advance, entry_passed, each_advance, advanced_by_passed, advanced_free, advanced_passed, advanced_resumed, next_entry}

-- how far a node is, where so many entries were reserved
pub record IsPlaced (tail : ℕ) (node : Node) : Type 0 where
  pub applied : node.down ≡ false → node.applied ≡ node.passed
  pub behind : node.applied ≤ node.passed
  pub resumed : node.resumed ≤ tail
  pub within : node.passed ≤ tail
  pub held : node.fetched ≡ true → node.passed < tail

abbrev pub ArePlaced : World → Type 0
ArePlaced world = (n : ℕ) → n < length world.nodes → IsPlaced (tail_of world) (node_at n world)

-- the number of the entry that it fetches next is within the log
pub next_within : (tail : ℕ) (node : Node) → IsPlaced tail node → next_fetch node ≤ tail
next_within tail node p = cond_both node.fetched (suc node.passed) node.passed (λ (x : ℕ). x ≤ tail) (λ e. p.held e) (λ e. p.within)

-- a node has applied no more than was reserved
pub applied_within : (tail : ℕ) (node : Node) → IsPlaced tail node → node.applied ≤ tail
applied_within tail node p =
    let e = p.behind in
    let h = p.within in
    omega arith

-- the log of what was taken, and of more
pub log_of-append : (taken more : List Taken) → log_of (taken ++ more) ≡ log_of taken ++ log_of more
log_of-append [] more = refl
log_of-append (Entry node jobs ∷ taken) more = ap (λ (log : List Logged). record { node = node; jobs = jobs } ∷ log) (log_of-append taken more)
log_of-append (Reads node count jobs ∷ taken) more = log_of-append taken more

-- where more are reserved it goes on so
placed_on : (tail more : ℕ) (node : Node) → tail ≤ more → IsPlaced tail node → IsPlaced more node
placed_on tail more node h p =
    let within = p.within in
    let resumed = p.resumed in
    record {
      applied = p.applied;
      behind = p.behind;
      resumed = omega arith;
      within = omega arith;
      held = λ e. let below = p.held e in omega arith;
    }

-- a node with the same position
placed_same : (tail : ℕ) (node after : Node) → after.down ≡ node.down → after.applied ≡ node.applied → after.passed ≡ node.passed
    → after.fetched ≡ node.fetched → after.resumed ≡ node.resumed → IsPlaced tail node → IsPlaced tail after
placed_same tail node after down applied passed fetched resumed p =
    let within = p.within in
    let behind = p.behind in
    let before = p.resumed in
    record {
      applied = λ e. applied ∙ p.applied (sym down ∙ e) ∙ sym passed;
      behind = omega arith;
      resumed = omega arith;
      within = omega arith;
      held = λ e. let below = p.held (sym fetched ∙ e) in omega arith;
    }

-- it has applied what it passed
abbrev IsEven : Node → Type 0
IsEven node = node.down ≡ false → node.applied ≡ node.passed

even_advanced : (refused : Refused) (n : ℕ) (log : List Logged) (node : Node) → IsEven node → IsEven (advanced refused n log node)
even_advanced refused n log node even =
    by_advance IsEven refused n log node (λ e f. absurd (cc (e, f))) (λ e f. absurd (cc f))
    (λ e f. ap suc (even e) ∙ ap suc (sym (entry_passed refused.cuts n (next_entry log node) node)))

-- it has applied no more
abbrev IsBehind : Node → Type 0
IsBehind node = node.applied ≤ node.passed

behind_advanced : (refused : Refused) (n : ℕ) (log : List Logged) (node : Node) → IsBehind node → IsBehind (advanced refused n log node)
behind_advanced refused n log node behind =
    by_advance IsBehind refused n log node (λ e. omega arith) (λ e. omega arith)
    (λ e. let passed = entry_passed refused.cuts n (next_entry log node) node in omega arith)

-- the next entry
pub placed_advanced : (tail : ℕ) (refused : Refused) (n : ℕ) (log : List Logged) (node : Node) → node.passed < tail → IsPlaced tail node
    → IsPlaced tail (advanced refused n log node)
placed_advanced tail refused n log node h p =
    let one = advanced_passed refused n log node in
    let free = advanced_free refused n log node in
    let same = advanced_resumed refused n log node in
    let resumed = p.resumed in
    record {
      applied = even_advanced refused n log node p.applied;
      behind = behind_advanced refused n log node p.behind;
      resumed = omega arith;
      within = omega arith;
      held = λ e. absurd (cc (e, free));
    }

-- after all of them none is left, and none is held
all_free : (count : ℕ) (refused : Refused) (n : ℕ) (log : List Logged) (node : Node) → (node.fetched ≡ true → 0 < count)
    → (advanced_by count refused n log node).fetched ≡ false
all_free zero refused n log node held =
    elim (cases_Bool node.fetched) [
      | inl e ↦ let h = held e in absurd (omega arith)
      | inr e ↦ e
    ]
all_free (suc count) refused n log node held =
    let free = advanced_free refused n log node in
    all_free count refused n log (advanced refused n log node) (λ e. absurd (cc (e, free)))

-- where it looks
pub record IsAhead (tail : ℕ) (ahead : Node) : Type 0 where
  pub passed : ahead.passed ≡ tail
  pub applied : ahead.down ≡ false → ahead.applied ≡ tail
  pub behind : ahead.applied ≤ ahead.passed
  pub resumed : ahead.resumed ≤ tail
  pub free : ahead.fetched ≡ false

pub placed_ahead : (tail : ℕ) (refused : Refused) (n : ℕ) (log : List Logged) (node : Node) → IsPlaced tail node
    → IsAhead tail (advanced_by (tail - node.passed) refused n log node)
placed_ahead tail refused n log node p =
    let within = p.within in
    let count = tail - node.passed in
    let ahead = advanced_by count refused n log node in
    let all = advanced_by_passed count refused n log node in
    let passed : ahead.passed ≡ tail = omega arith in
    record {
      passed = passed;
      applied = λ e. each_advance IsEven refused n log (even_advanced refused n log) count node p.applied e ∙ passed;
      behind = each_advance IsBehind refused n log (behind_advanced refused n log) count node p.behind;
      resumed =
          each_advance (λ x. x.resumed ≤ tail) refused n log (λ x h. let same = advanced_resumed refused n log x in omega arith) count node p.resumed;
      free = all_free count refused n log node (λ e. let below = p.held e in omega arith);
    }

-- a node that is there goes on holding
placed_with : (n : ℕ) (node : Node) (world : World) → n < length world.nodes → IsPlaced (tail_of world) node → ArePlaced world → ArePlaced (with_node n node world)
placed_with n node world there one each = each_with (λ m. IsPlaced (tail_of world)) n node world there one each

-- at first
pub fresh_placed : (setup : Setup) → ArePlaced (fresh setup)
fresh_placed setup n there =
    subst (IsPlaced 0) (sym (fresh_at setup n there)) (record {
      applied = λ e. refl;
      behind = omega arith;
      resumed = omega arith;
      within = omega arith;
      held = λ e. absurd (cc e);
    })

-- after each step
pub keeps_placed : (setup : Setup) → Keeps setup ArePlaced
keeps_placed setup = record {
  opens = λ world n w may p. placed_with n _ world may.worker.there (placed_same (tail_of world) (node_at n world) _ refl refl refl refl refl (p n may.worker.there)) p;
  feeds = λ world c time bytes may p.
      placed_with c.node _ world may.client.there (placed_same (tail_of world) (node_at c.node world) _ refl refl refl refl refl (p c.node may.client.there)) p;
  posts = λ world n w may p. placed_with n _ world may.worker.there (placed_same (tail_of world) (node_at n world) _ refl refl refl refl refl (p n may.worker.there)) p;
  lifts = λ world n w may p. placed_with n _ world may.worker.there (placed_same (tail_of world) (node_at n world) _ refl refl refl refl refl (p n may.worker.there)) p;
  reserves = λ world n may p.
      let node = node_at n world in
      let more = λ (jobs : Jobs). log_of-append world.taken (Entry n jobs ∷ []) in
      let long : length (log_of (world.taken ++ Entry n (entry_jobs node.waiting) ∷ [])) ≡ tail_of world + 1 =
      ap length (more (entry_jobs node.waiting)) ∙ length-append (log_of world.taken) _ in
      λ m at. placed_on (tail_of world) _ _ (omega arith)
      (placed_with n _ world may.there (placed_same (tail_of world) node _ refl refl refl refl refl (p n may.there)) p m at);
  fills = λ world n t may p. placed_with n _ world may.there (placed_same (tail_of world) (node_at n world) _ refl refl refl refl refl (p n may.there)) p;
  fetches = λ world n may p.
      let node = node_at n world in
      let one = p n may.there in
      let within = one.within in
      placed_with n _ world may.there (record {
        applied = one.applied;
        behind = one.behind;
        resumed = one.resumed;
        within = within;
        held = λ e. elim (eqb_tells node.passed (tail_of world)) [
          | inl e ↦ absurd (cc (e.0, may.some))
          | inr e ↦ let other = e.1 in omega arith
        ];
      }) p;
  applies = λ world n refused may p.
      let one = p n may.there in
      placed_with n _ world may.there (placed_advanced (tail_of world) refused n (log_of world.taken) (node_at n world) (one.held may.holds) one) p;
  looks = λ world n refused may p.
      let node = node_at n world in
      let tail = tail_of world in
      let one = p n may.there in
      let ahead = advanced_by (tail - node.passed) refused n (log_of world.taken) node in
      let a = placed_ahead tail refused n (log_of world.taken) node one in
      let passed = a.passed in
      let here : IsPlaced tail ahead = record {
        applied = λ e. a.applied e ∙ sym passed;
        behind = a.behind;
        resumed = a.resumed;
        within = omega arith;
        held = λ e. absurd (cc (e, a.free));
      } in
      by_look ArePlaced refused n world ahead refl (λ down. placed_with n ahead world may.there here p)
      (λ up m at.
      let same : length (log_of (world.taken ++ Reads n ahead.applied (read_jobs ahead.waiting) ∷ [])) ≡ tail =
      ap length (log_of-append world.taken _ ∙ append-nil (log_of world.taken)) in
      placed_on tail _ _ (omega arith)
      (placed_with n (with_reads refused.cuts tail ahead) world may.there (placed_same tail ahead _ refl refl refl refl refl here) p m at));
  answers = λ world n w may p. placed_with n _ world may.worker.there (placed_same (tail_of world) (node_at n world) _ refl refl refl refl refl (p n may.worker.there)) p;
  collects = λ world n w may p. placed_with n _ world may.worker.there (placed_same (tail_of world) (node_at n world) _ refl refl refl refl refl (p n may.worker.there)) p;
  closes = λ world c time may p.
      placed_with c.node _ world may.client.there (placed_same (tail_of world) (node_at c.node world) _ refl refl refl refl refl (p c.node may.client.there)) p;
  revives = λ world n f may p.
      let one = p n may.there in
      placed_with n _ world may.there (record {
        applied = λ e. refl;
        behind = omega arith;
        resumed = omega arith;
        within = one.within;
        held = λ e. absurd (cc (e, may.free));
      }) p;
  refuses = λ world n may p. placed_with n _ world may.there (placed_same (tail_of world) (node_at n world) _ refl refl refl refl refl (p n may.there)) p;
}

-- each world is so
pub each_placed : (setup : Setup) (events : List Event) → ArePlaced (world_after setup events)
each_placed setup events = each_world setup ArePlaced (fresh_placed setup) (keeps_placed setup) events
