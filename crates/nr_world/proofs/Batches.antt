-- A worker's steps at its node: what they come to, and that the node stays whole.
use Rattle.std.proofs.Common.{◌≡◌, ℕ, suc, ◌+◌, ◌-◌, ◌<◌, Bool, true, false, inl, inr, List, [], ◌∷◌, length, map, get_or, set, refl, ap, sym, ◌∙◌, subst, arith, eq-eqb, None, Some, Option}
use Rattle.std.specs.Prelude.{◌&&◌, ◌||◌, ◌==◌, not, cond, filter}
use Rattle.std.specs.Option.{option_map, is_some}
use Rattle.std.proofs.lemmas.Bool.{cases_Bool, and_parts, not-true}
use Rattle.std.proofs.lemmas.List.{length-map, length-set, set-get_or}
use Rattle.nr_model.specs.Bytes.{Bytes}
use Rattle.nr_model.specs.Connections as traffic
use Rattle.nr_model.specs.Connections.{is_some_bytes}
use Rattle.nr_model.specs.Nodes as nodes
use Rattle.nr_model.specs.Nodes.Steps as steps
use Rattle.nr_model.specs.Items.{Item}
use Rattle.nr_model.specs.Nodes.Pasts.{Answering, is_done, answer_in}
use Rattle.nr_model.proofs.NodesRoundsParts.{empty_list}
use Rattle.nr_entry.specs.declared.job.Job.{Job}
use Rattle.nr_session.specs.SessionState.{SessionState}
use Rattle.nr_replica.specs.Members.{Member}
use Rattle.nr_replica.specs.Replicas.{ReplicaState}
use Rattle.nr_model.specs.declared.reason.Reason.TheVariants as reasons
use Rattle.nr_world.specs.declared.worker.WorldWorker.{WorldWorker}
use Rattle.nr_world.specs.declared.node.WorldNode.{WorldNode}
use Rattle.nr_world.specs.declared.log.Log.{Log}
use Rattle.nr_world.specs.Workers.{worker_seen}
use Rattle.nr_world.specs.Served.{client_seen, clients_seen, node_seen, posted_node, answered_node}
use Rattle.nr_world.specs.WorldState.{WorldState, Shows}
use Rattle.nr_world.specs.Whole.{ArePaired, IsWhole, IsHeld}
use Rattle.nr_world.specs.Taken.{IsTaken, Takes}
use Rattle.nr_world.specs.Collected.{emptied, emptied_member}
use Rattle.nr_world.specs.Batches.{may_collect, executed_in, IsCollected, HasWorker}
use Rattle.nr_world.proofs.Sides.{get_or-both}
use Rattle.nr_world.proofs.Refusing.{nothing_is_refused}
use Rattle.nr_world.proofs.Shown.{nodes_many, node_is, shows_changed, takes_nothing}
use Rattle.nr_world.proofs.Standing.{shows_made, Makes, state, comes_to_no_such, has_there, held_at}

-- a worker of a node
pub worker_is : (node : WorldNode) (w : ℕ) (worker : WorldWorker) → w < length node.workers.items → length node.replica.owed ≡ length node.workers.items
    → worker ≡ get_or node.workers.items w worker
    → worker_seen worker (get_or node.replica.owed w None) ≡ nodes.worker_at w (node_seen node)
worker_is node w worker h k at =
    ap (λ (v : WorldWorker). worker_seen v (get_or node.replica.owed w None)) at
    ∙ sym (get_or-both worker_seen node.workers.items node.replica.owed w worker None nodes.fresh_worker h (omega arith))

-- a node with the same connections, and as many workers, stays whole
pub whole_kept : (n : ℕ) (old new : WorldNode) → new.replica.node ≡ old.replica.node → new.sessions ≡ old.sessions
    → new.replica.members ≡ old.replica.members
    → length new.replica.owed ≡ length old.replica.owed → length new.workers.items ≡ length old.workers.items → new.in_use ≡ old.in_use → IsWhole n old
    → IsWhole n new
whole_kept n old new node sessions members owed workers used whole = record {
  number = node ∙ whole.number;
  pairs = subst (λ (ss : List SessionState). ArePaired n 0 ss new.replica.members) (sym sessions)
      (subst (λ (ms : List Member). ArePaired n 0 old.sessions ms) (sym members) whole.pairs);
  owed = owed ∙ whole.owed ∙ sym workers;
  counted = used ∙ whole.counted
      ∙ ap (λ (clients : List nodes.Client). length (filter (λ (client : nodes.Client). not client.closed) clients))
      (sym (λ i. clients_seen (sessions i) (members i)));
}

-- and where what waits was handed out
same_closed : (w : ℕ) (m : Member) → (emptied_member w m).is_closed ≡ m.is_closed
same_closed w m =
    elim (m.worker == w) as (λ b. (cond b (emptied m) m).is_closed ≡ m.is_closed) [ true ↦ refl | false ↦ refl ]

same_cut : (w : ℕ) (m : Member) → (emptied_member w m).outbox.cut ≡ m.outbox.cut
same_cut w m =
    elim (m.worker == w) as (λ b. (cond b (emptied m) m).outbox.cut ≡ m.outbox.cut) [ true ↦ refl | false ↦ refl ]

paired_emptied : (n s w : ℕ) (sessions : List SessionState) (members : List Member) → ArePaired n s sessions members
    → ArePaired n s sessions (map (emptied_member w) members)
paired_emptied n s w [] [] h = tt
paired_emptied n s w [] (m ∷ members) h = absurd h
paired_emptied n s w (x ∷ sessions) [] h = absurd h
paired_emptied n s w (x ∷ sessions) (m ∷ members) h = (
  record {
    named = λ open_one. h.0.named (sym (same_closed w m) ∙ open_one);
    ended = h.0.ended ∙ ap (λ (b : Bool). x.gave_end || b) (sym (same_closed w m));
    shut = λ is. same_cut w m ∙ h.0.shut (sym (same_closed w m) ∙ is);
  },
  paired_emptied n (suc s) w sessions members h.1,
)

one_more : (b : Bool) (x y : nodes.Client) (xs ys : List nodes.Client) → length xs ≡ length ys → length (cond b (x ∷ xs) xs) ≡ length (cond b (y ∷ ys) ys)
one_more true x y xs ys h = ap suc h
one_more false x y xs ys h = h

in_use_emptied : (w : ℕ) (sessions : List SessionState) (members : List Member)
    → length (filter (λ (client : nodes.Client). not client.closed) (clients_seen sessions (map (emptied_member w) members)))
    ≡ length (filter (λ (client : nodes.Client). not client.closed) (clients_seen sessions members))
in_use_emptied w [] members = refl
in_use_emptied w (x ∷ sessions) [] = refl
in_use_emptied w (x ∷ sessions) (m ∷ members) =
    let more = in_use_emptied w sessions members in
    let xs = filter (λ (client : nodes.Client). not client.closed) (clients_seen sessions (map (emptied_member w) members)) in
    ap (λ (b : Bool). length (cond (not b) (client_seen x (emptied_member w m) ∷ xs) xs)) (same_closed w m)
    ∙ one_more (not m.is_closed) (client_seen x (emptied_member w m)) (client_seen x m) xs
    (filter (λ (client : nodes.Client). not client.closed) (clients_seen sessions members)) more

pub whole_collected : (n w : ℕ) (old new : WorldNode) → new.replica ≡ record old.replica { members = map (emptied_member w) old.replica.members }
    → new.sessions ≡ old.sessions
    → length new.workers.items ≡ length old.workers.items → new.in_use ≡ old.in_use → IsWhole n old → IsWhole n new
whole_collected n w old new replica sessions workers used whole =
    let members = ap (λ (r : ReplicaState). r.members) replica in
    record {
      number = ap (λ (r : ReplicaState). r.node) replica ∙ whole.number;
      pairs = subst (λ (ss : List SessionState). ArePaired n 0 ss new.replica.members) (sym sessions)
          (subst (λ (ms : List Member). ArePaired n 0 old.sessions ms) (sym members)
          (paired_emptied n 0 w old.sessions old.replica.members whole.pairs));
      owed = ap (λ (r : ReplicaState). length r.owed) replica ∙ whole.owed ∙ sym workers;
      counted = used ∙ whole.counted ∙ sym (in_use_emptied w old.sessions old.replica.members)
          ∙ ap (λ (clients : List nodes.Client). length (filter (λ (client : nodes.Client). not client.closed) clients))
          (sym (λ i. clients_seen (sessions i) (members i)));
    }

-- a collect that hands out nothing and takes no answer changes nothing
none_left : (client : nodes.Client) (bytes : Bytes) → bytes ≡ client.queue.waiting → is_some_bytes bytes ≡ false
    → record client { queue = record client.queue { waiting = []; handed = client.queue.handed + length client.queue.waiting } } ≡ client
none_left client [] e none =
    let same : client.queue.handed + length client.queue.waiting ≡ client.queue.handed = omega (arith, ap length e) in
    λ i. record client { queue = record client.queue { waiting = e i; handed = same i } }
none_left client (b ∷ bytes) e none = absurd (cc none)

one_left : (served : Bool) (client : nodes.Client) (more : List traffic.Handed)
    → cond (served && is_some_bytes client.queue.waiting) (record { connection = client.queue.connection; bytes = client.queue.waiting } ∷ more) more ≡ []
    → (cond served (record client { queue = record client.queue { waiting = []; handed = client.queue.handed + length client.queue.waiting } }) client ≡ client)
    × (more ≡ [])
one_left false client more h = (refl, h)
one_left true client more h =
    elim (cases_Bool (is_some_bytes client.queue.waiting)) [
      | inl e ↦
          let no : record { connection = client.queue.connection; bytes = client.queue.waiting } ∷ more ≡ [] =
          sym (ap (λ (b : Bool). cond b (record { connection = client.queue.connection; bytes = client.queue.waiting } ∷ more) more) e) ∙ h in
          absurd (cc no)
      | inr e ↦
          let rest : more ≡ [] =
          sym (ap (λ (b : Bool). cond b (record { connection = client.queue.connection; bytes = client.queue.waiting } ∷ more) more) e) ∙ h in
          (none_left client client.queue.waiting refl e, rest)
    ]

all_left : (w : ℕ) (clients : List nodes.Client) → steps.collected w clients ≡ [] → map (steps.emptied w) clients ≡ clients
all_left w [] h = refl
all_left w (client ∷ clients) h =
    let here = one_left (client.worker == w) client (steps.collected w clients) h in
    let first = here.0 in
    let more = all_left w clients here.1 in
    λ i. first i ∷ more i

slot_left : (slot : nodes.Slot) → steps.is_answered slot ≡ false → steps.cleared slot ≡ slot
slot_left nodes.Empty h = refl
slot_left (nodes.Posted jobs) h = refl
slot_left (nodes.Lifted owed) h = refl
slot_left (nodes.Answered executed) h = absurd (cc h)

pub collected_nothing : (w : ℕ) (node : nodes.Node) → steps.is_answered (nodes.worker_at w node).slot ≡ false → steps.collected w node.clients ≡ []
    → steps.collected_node w node ≡ node
collected_nothing w node unanswered none =
    let worker = nodes.worker_at w node in
    let slot = slot_left worker.slot unanswered in
    let workers : set node.workers w (record worker { slot = steps.cleared worker.slot }) ≡ node.workers =
    ap (λ (s : nodes.Slot). set node.workers w (record worker { slot = s })) slot ∙ set-get_or node.workers w nodes.fresh_worker in
    let clients = all_left w node.clients none in
    λ i. record node { workers = workers i; clients = clients i }

-- the answer to the last of so many batches
abbrev pub answering : ℕ → ℕ → ℕ → Bool → Answering
answering n w batches executed = record { node = n; worker = w; batch = batches - 1; executed = executed }

pub answer_is : (n w : ℕ) (worker : nodes.Worker) → option_map (answering n w worker.batches) (executed_in worker.slot) ≡ answer_in n w worker
answer_is n w worker = by_slot n w worker.pending worker.batches worker.slot where
  by_slot : (n w : ℕ) (pending : List Item) (batches : ℕ) (slot : nodes.Slot)
      → option_map (answering n w batches) (executed_in slot) ≡ answer_in n w (record { pending = pending; batches = batches; slot = slot })
  by_slot n w pending batches nodes.Empty = refl
  by_slot n w pending batches (nodes.Posted jobs) = refl
  by_slot n w pending batches (nodes.Lifted owed) = refl
  by_slot n w pending batches (nodes.Answered executed) = refl

no_answer : (n w : ℕ) (worker : nodes.Worker) → steps.is_answered worker.slot ≡ false → answer_in n w worker ≡ None
no_answer n w worker h = by_slot n w worker.pending worker.batches worker.slot h where
  by_slot : (n w : ℕ) (pending : List Item) (batches : ℕ) (slot : nodes.Slot) → steps.is_answered slot ≡ false
      → answer_in n w (record { pending = pending; batches = batches; slot = slot }) ≡ None
  by_slot n w pending batches nodes.Empty h = refl
  by_slot n w pending batches (nodes.Posted jobs) h = refl
  by_slot n w pending batches (nodes.Lifted owed) h = refl
  by_slot n w pending batches (nodes.Answered executed) h = absurd (cc h)

-- a collect as a step of the world, by whether there was anything to collect
idle_collect : (n w : ℕ) (node new : nodes.Node) (outcome : steps.Outcome) (handed : List traffic.Handed) (answer : Option Answering)
    → IsCollected n w node new outcome handed answer
    → (not (steps.is_answered (nodes.worker_at w node).slot) && length (steps.collected w node.clients) == 0) ≡ true
    → (outcome ≡ steps.Idle reasons.Nothing) × (handed ≡ []) × (answer ≡ None) × (new ≡ node)
idle_collect n w node new outcome handed answer c e =
    let both = and_parts (not (steps.is_answered (nodes.worker_at w node).slot)) (length (steps.collected w node.clients) == 0) e in
    let unanswered = not-true (steps.is_answered (nodes.worker_at w node).slot) both.0 in
    let none = empty_list (steps.collected w node.clients) both.1 in (
      c.comes_to ∙ ap (λ (b : Bool). steps.idle_where b reasons.Nothing steps.Done) e,
      c.handed_out ∙ none,
      c.taken ∙ no_answer n w (nodes.worker_at w node) unanswered,
      c.node ∙ collected_nothing w node unanswered none,
    )

makes_collect : (setup : traffic.Setup) (n w : ℕ) → Makes setup (steps.Collect n w) n (steps.collected_node w)
makes_collect setup n w = record { nodes_are = λ world. refl; taken_is = λ world. refl; passed_is = λ node. refl }

is_taken : (v new : WorldState) (world : nodes.World) (n w : ℕ) (outcome : steps.Outcome) (handed : List traffic.Handed) (answer : Option Answering)
    → outcome ≡ steps.outcome v.setup world (steps.Collect n w)
    → handed ≡ cond (is_done outcome) (steps.collected w (nodes.node_at n world).clients) []
    → answer ≡ cond (is_done outcome) (answer_in n w (nodes.worker_at w (nodes.node_at n world))) None
    → Shows new (steps.effect_by outcome v.setup world (steps.Collect n w) steps.nothing_refused)
    → IsTaken v new (steps.Collect n w) outcome handed answer world
is_taken v new world n w outcome handed answer is h a s = record {
  refused = steps.nothing_refused;
  event = record { outcome_is = is; handed_is = h; answer_is = a; refused_are = nothing_is_refused world (steps.Collect n w) outcome };
  shows = subst (λ (o : steps.Outcome). Shows new (steps.effect_by o v.setup world (steps.Collect n w) steps.nothing_refused)) is s;
}

pub collect_takes : (v : WorldState) (n w : ℕ) (x old : WorldNode) (outcome : steps.Outcome) (handed : List traffic.Handed) (answer : Option Answering)
    → steps.is_worker v.setup n w ≡ true → n < length v.nodes → old ≡ get_or v.nodes n old → IsCollected n w (node_seen old) (node_seen x) outcome handed answer
    → Takes v (record v { nodes = set v.nodes n x }) (steps.Collect n w) outcome handed answer
collect_takes v n w x old outcome handed answer e there at collected = record {
  setup = refl;
  taken = λ events world past s.
      let new : WorldState = record v { nodes = set v.nodes n x } in
      let node = nodes.node_at n world in
      let is : node ≡ node_seen old = node_is v world n old s there ∙ ap node_seen (sym at) in
      let c = subst (λ (m : nodes.Node). IsCollected n w m (node_seen x) outcome handed answer) (sym is) collected in
      let none = not (steps.is_answered (nodes.worker_at w node).slot) && length (steps.collected w node.clients) == 0 in
      let comes : outcome ≡ steps.outcome v.setup world (steps.Collect n w) =
      c.comes_to ∙ sym (ap (λ (b : Bool). steps.idle_where (not b) reasons.NoSuch (may_collect w node)) e) in
      elim (cases_Bool none) [
        | inl nothing ↦
            let idle = idle_collect n w node (node_seen x) outcome handed answer c nothing in
            let many = nodes_many v world s in
            let passed = s.passed n (omega arith) in
            is_taken v new world n w outcome handed answer comes
            (idle.1 ∙ sym (ap (λ (o : steps.Outcome). cond (is_done o) (steps.collected w node.clients) []) idle.0))
            (idle.2 ∙ sym (ap (λ (o : steps.Outcome). cond (is_done o) (answer_in n w (nodes.worker_at w node)) None) idle.0))
            (subst (λ (o : steps.Outcome). Shows new (steps.effect_by o v.setup world (steps.Collect n w) steps.nothing_refused)) (sym idle.0)
            (shows_changed v world world n x node s there idle.3 (sym (set-get_or world.nodes n nodes.no_node)) refl passed))
        | inr some ↦
            let done : outcome ≡ steps.Done = c.comes_to ∙ ap (λ (b : Bool). steps.idle_where b reasons.Nothing steps.Done) some in
            is_taken v new world n w outcome handed answer comes
            (c.handed_out ∙ sym (ap (λ (o : steps.Outcome). cond (is_done o) (steps.collected w node.clients) []) done))
            (c.taken ∙ sym (ap (λ (o : steps.Outcome). cond (is_done o) (answer_in n w (nodes.worker_at w node)) None) done))
            (subst (λ (o : steps.Outcome). Shows new (steps.effect_by o v.setup world (steps.Collect n w) steps.nothing_refused)) (sym done)
            (shows_made v world (steps.Collect n w) n (steps.collected_node w) x old (makes_collect v.setup n w) there at (collected.node) s))
      ];
}

-- what a step of a worker comes to at a node that is up
pub by_worker : (node : WorldNode) (w : ℕ) (worker : WorldWorker) (f : nodes.Worker → steps.Outcome) (outcome : steps.Outcome) → w < length node.workers.items
    → length node.replica.owed ≡ length node.workers.items → worker ≡ get_or node.workers.items w worker → node.replica.down ≡ false
    → outcome ≡ f (worker_seen worker (get_or node.replica.owed w None))
    → outcome ≡ steps.idle_where node.replica.down reasons.Down (f (nodes.worker_at w (node_seen node)))
by_worker node w worker f outcome h k at up is =
    is ∙ ap f (worker_is node w worker h k at) ∙ sym (ap (λ (b : Bool). steps.idle_where b reasons.Down (f (nodes.worker_at w (node_seen node)))) up)

-- a node of whose batches more or fewer jobs are owed
pub whole_owing : (n w : ℕ) (owed : Option ℕ) (waiting : List Job) (old new : WorldNode)
    → new.replica ≡ record old.replica { waiting = waiting; owed = set old.replica.owed w owed }
    → new.sessions ≡ old.sessions → length new.workers.items ≡ length old.workers.items → new.in_use ≡ old.in_use → IsWhole n old
    → IsWhole n new
whole_owing n w owed waiting old new replica sessions workers used whole =
    whole_kept n old new (ap (λ (r : ReplicaState). r.node) replica) sessions (ap (λ (r : ReplicaState). r.members) replica)
    (ap (λ (r : ReplicaState). length r.owed) replica ∙ length-set old.replica.owed w owed) workers used whole

-- a collect, and that the world behind it is held
pub collected_at : (v : WorldState) (setup : traffic.Setup) (all : List WorldNode) (log : Log) (failed after : Bool) (n w : ℕ) (x old : WorldNode)
    (outcome : steps.Outcome) (handed : List traffic.Handed) (answer : Option Answering)
    → state setup all log failed ≡ v → failed ≡ false → after ≡ false → (failed ≡ false → IsHeld (state setup all log failed))
    → steps.is_worker v.setup n w ≡ true → HasWorker v n w → old ≡ get_or all n old
    → IsCollected n w (node_seen old) (node_seen x) outcome handed answer → IsWhole n x
    → Takes v (state setup (set all n x) log after) (steps.Collect n w) outcome handed answer × IsHeld (state setup (set all n x) log after)
collected_at v setup all log failed after n w x old outcome handed answer is up still held e has at collected whole =
    let step = steps.Collect n w in
    let there = has_there v setup all log failed n w is has in
    let worker = subst (λ (o : WorldState). steps.is_worker o.setup n w ≡ true) (sym is) e in
    let takes = collect_takes (state setup all log failed) n w x old outcome handed answer worker there at collected in
    let taken = subst (λ (o : WorldState). Takes o (state setup (set all n x) log after) step outcome handed answer) is
    (subst (λ (b : Bool). Takes (state setup all log failed) (state setup (set all n x) log b) step outcome handed answer) (up ∙ sym still) takes) in
    (taken, held_at v setup all log failed after step outcome handed answer n x is up still held taken whole)

-- what a post, a lift and an answer make of their node
pub makes_post : (setup : traffic.Setup) (n w : ℕ) → Makes setup (steps.Post n w) n (posted_node w)
makes_post setup n w = record { nodes_are = λ world. refl; taken_is = λ world. refl; passed_is = λ node. refl }

pub makes_lift : (setup : traffic.Setup) (n w : ℕ) → Makes setup (steps.Lift n w) n (steps.lifted_node w)
makes_lift setup n w = record { nodes_are = λ world. refl; taken_is = λ world. refl; passed_is = λ node. refl }

pub makes_answer : (setup : traffic.Setup) (n w : ℕ) → Makes setup (steps.Answer n w) n (answered_node w)
makes_answer setup n w = record { nodes_are = λ world. refl; taken_is = λ world. refl; passed_is = λ node. refl }

-- a collect at a worker that there isn't
pub collect_idle : (v : WorldState) (n w : ℕ) (outcome : steps.Outcome) (handed : List traffic.Handed) (answer : Option Answering)
    → steps.is_worker v.setup n w ≡ false
    → outcome ≡ steps.Idle reasons.NoSuch → handed ≡ [] → answer ≡ None → Takes v v (steps.Collect n w) outcome handed answer
collect_idle v n w outcome handed answer e is none unanswered =
    let step = steps.Collect n w in
    let comes = comes_to_no_such v step n w (may_collect w) (λ world. refl) e in
    subst (λ (o : steps.Outcome). Takes v v step o handed answer) (sym is)
    (subst (λ (hs : List traffic.Handed). Takes v v step (steps.Idle reasons.NoSuch) hs answer) (sym none)
    (subst (λ (a : Option Answering). Takes v v step (steps.Idle reasons.NoSuch) [] a) (sym unanswered) (takes_nothing v step reasons.NoSuch comes.is)))

-- one that took an answer, or handed something out
none_executed : (slot : nodes.Slot) → steps.is_answered slot ≡ false → executed_in slot ≡ None
none_executed nodes.Empty h = refl
none_executed (nodes.Posted jobs) h = refl
none_executed (nodes.Lifted owed) h = refl
none_executed (nodes.Answered executed) h = absurd (cc h)

pub collect_done : (w : ℕ) (node : nodes.Node) (executed : Option Bool) (handed : List traffic.Handed) → executed ≡ executed_in (nodes.worker_at w node).slot
    → handed ≡ steps.collected w node.clients → (executed ≡ None → handed ≡ [] → ⊥) → steps.Done ≡ may_collect w node
collect_done w node executed handed is out some =
    let slot = (nodes.worker_at w node).slot in
    elim (cases_Bool (not (steps.is_answered slot) && length (steps.collected w node.clients) == 0)) [
      | inl e ↦
          let both = and_parts (not (steps.is_answered slot)) (length (steps.collected w node.clients) == 0) e in
          absurd (some (is ∙ none_executed slot (not-true (steps.is_answered slot) both.0)) (out ∙ empty_list (steps.collected w node.clients) both.1))
      | inr e ↦ sym (ap (λ (b : Bool). steps.idle_where b reasons.Nothing steps.Done) e)
    ]

-- where the answer isn't none, or something was handed out
pub mapped_some : {A B : Type 0} (f : A → B) (o : Option A) → is_some o ≡ true → option_map f o ≡ None → ⊥
mapped_some f None h e = cc h
mapped_some f (Some x) h e = cc e

pub some_handed : {A B : Type 0} (f : A → B) (xs : List A) (long : ℕ) (b : Bool) → long ≡ length xs → b ≡ (long == 0) → b ≡ false → map f xs ≡ [] → ⊥
some_handed f xs long b h e none empty =
    let no_length : length (map f xs) ≡ 0 = ap length empty in
    let same : length (map f xs) ≡ length xs = length-map xs f in
    let is : (long == 0) ≡ true = eq-eqb long 0 (omega arith) in
    cc (sym is ∙ sym e ∙ none)
