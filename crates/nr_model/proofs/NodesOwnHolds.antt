-- The sequence of what was taken holds every connection's jobs in their order, numbered on, its updates by entry and its reads where looks ran them.
use Rattle.std.proofs.Common.{◌≡◌, ℕ, ◌<◌, ◌≤◌, true, false, inl, inr, List, [], ◌++◌, length, map, ap, sym, ◌∙◌, subst, ltb}
use Rattle.std.specs.List.{range_with_len}
use Rattle.std.proofs.lemmas.Bool.{cases_Bool, and_from, lt-ltb, le-ltb}
use Rattle.std.proofs.lemmas.List.{append-nil, length-map}
use Rattle.nr_model.specs.Items.{Connection, Item}
use Rattle.nr_model.specs.Connections.{Setup, fed_to}
use Rattle.nr_model.specs.Asked.{own_jobs}
use Rattle.nr_model.specs.Bytes.{IsBeginningOf}
use Rattle.nr_model.specs.Nodes.{World, node_at, worker_at, client_of, sequence_of}
use Rattle.nr_model.specs.Nodes.Steps.{is_client, posted_jobs}
use Rattle.nr_model.specs.Nodes.Pasts.{Event, world_after}
use Rattle.nr_model.specs.Nodes.Explained.{jobs_executed, asked_jobs, Holds}
use Rattle.nr_model.proofs.JobLists.{CountsFrom, CountsFrom-front, numbers_of}
use Rattle.nr_model.proofs.NodesSteps.{IsClient, a_client}
use Rattle.nr_model.proofs.NodesOwnShape.{of_at}
use Rattle.nr_model.proofs.NodesOwnShaped.{IsShapedWorld, each_shaped}
use Rattle.nr_model.proofs.NodesOwnTaken.{each_taken, logged_are, reads_are, taken_numbers}
use Rattle.nr_model.proofs.NodesOwnSessions.{IsSession}
use Rattle.nr_model.proofs.NodesOwnLeft.{at_worker}
use Rattle.nr_model.proofs.NodesOwnOwned.{IsThere, is_shut, Owned, each_owned, none_absent, asked_open}

-- How it stands with a connection that is there: its executed jobs, and those that wait at its node and at its worker, are those that were asked for;
-- where its node is down, or came back since, its executed jobs are the first of them. They count up from 0. Until its close its session is what all its
-- bytes left.
pub record IsOwn (world : World) (c : Connection) : Type 0 where
  pub whole : (node_at c.node world).down ≡ false → (node_at c.node world).since ≤ c.serial
      → own_jobs c (jobs_executed world) ++ (own_jobs c (node_at c.node world).waiting
      ++ (own_jobs c (posted_jobs (worker_at (client_of c world).worker (node_at c.node world)).slot)
      ++ own_jobs c (worker_at (client_of c world).worker (node_at c.node world)).pending)) ≡ asked_jobs world c
  pub begun : IsBeginningOf (own_jobs c (jobs_executed world)) (asked_jobs world c)
  pub numbers : CountsFrom 0 (asked_jobs world c)
  pub shut : is_shut c world.closed ≡ (client_of c world).closed
  pub counted : (client_of c world).closed ≡ false → length (asked_jobs world c) ≡ (client_of c world).next
  pub session : (client_of c world).closed ≡ false → IsSession (client_of c world) (fed_to c world.fed)

is_own : (world : World) (c : Connection) → Owned world → IsClient world c → IsOwn world c
is_own world c p is =
    let s = p.stands c.node is.there c.serial is.stands in
    record {
      whole = λ up recent. s.own up (le-ltb c.serial (node_at c.node world).since recent);
      begun = s.begun;
      numbers = s.numbers;
      shut = s.shut_is;
      counted = s.counted;
      session = λ on. let session = s.session on in
          record { mode = session.mode; ended = session.ended; next = session.next; rest = session.rest };
    }

pub each_own : (setup : Setup) (events : List Event) (c : Connection) → IsClient (world_after setup events) c → IsOwn (world_after setup events) c
each_own setup events c is = is_own (world_after setup events) c (each_owned setup events) is

-- A connection that isn't there has nothing: no executed jobs, no bytes, none asked for, no close, and no jobs at any node.
pub record IsNone (world : World) (c : Connection) : Type 0 where
  pub executed : own_jobs c (jobs_executed world) ≡ []
  pub text : fed_to c world.fed ≡ []
  pub asked : asked_jobs world c ≡ []
  pub shut : is_shut c world.closed ≡ false
  pub waiting : (n : ℕ) → n < length world.nodes → own_jobs c (node_at n world).waiting ≡ []
  pub at : (n w : ℕ) → n < length world.nodes → at_worker c (worker_at w (node_at n world)) ≡ []

not_there : (world : World) (c : Connection) → is_client world c ≡ false → IsThere world.nodes c → ⊥
not_there world c none is =
    let here : is_client world c ≡ true =
    and_from (ltb c.node (length world.nodes)) (ltb c.serial (length (node_at c.node world).clients))
    (lt-ltb c.node (length world.nodes) is.node) (lt-ltb c.serial (length (node_at c.node world).clients) is.stands) in
    absurd (cc (here, none))

is_none : (setup : Setup) (world : World) (c : Connection) → IsShapedWorld setup world → Owned world → is_client world c ≡ false → IsNone world c
is_none setup world c b p none =
    let absent = not_there world c none in
    let u = p.untouched c absent in
    record {
      executed = u.done;
      text = u.text;
      asked = asked_open c world.fed world.closed u.shut ∙ u.asked;
      shut = u.shut;
      waiting = λ n there. none_absent world.nodes n (node_at n world).waiting c (record { there = there; of = (b.shaped n there).waiting }) absent;
      at = λ n w there.
          let worker = worker_at w (node_at n world) in
          let each = (b.shaped n there).each w in
          let clients = (node_at n world).clients in
          let posted = none_absent world.nodes n (posted_jobs worker.slot) c
          (record { there = there; of = of_at n w clients (posted_jobs worker.slot) each.posted }) absent in
          let pending = none_absent world.nodes n worker.pending c (record { there = there; of = of_at n w clients worker.pending each.pending }) absent in
          λ i. posted i ++ pending i;
    }

pub each_none : (setup : Setup) (events : List Event) (c : Connection) → is_client (world_after setup events) c ≡ false → IsNone (world_after setup events) c
each_none setup events c none = is_none setup (world_after setup events) c (each_shaped setup events) (each_owned setup events) none

-- the executed jobs of any connection are the first of those that were asked for, and count up from 0
pub record IsFirst (world : World) (c : Connection) : Type 0 where
  pub begun : IsBeginningOf (own_jobs c (jobs_executed world)) (asked_jobs world c)
  pub numbers : CountsFrom 0 (asked_jobs world c)

pub each_first : (setup : Setup) (events : List Event) (c : Connection) → IsFirst (world_after setup events) c
each_first setup events c =
    let world = world_after setup events in
    elim (cases_Bool (is_client world c)) [
      | inl e ↦ let is = each_own setup events c (a_client world c e) in
          record { begun = is.begun; numbers = is.numbers }
      | inr e ↦ let is = each_none setup events c e in
          record {
            begun = ([], append-nil (own_jobs c (jobs_executed world)) ∙ is.executed ∙ sym is.asked);
            numbers = subst (CountsFrom 0) (sym is.asked) tt;
          }
    ]

-- and so do the numbers of its items
numbered : (world : World) (c : Connection) → IsFirst world c
    → map (λ (item : Item). item.number) (own_jobs c (sequence_of world)) ≡ range_with_len 0 (length (own_jobs c (sequence_of world)))
numbered world c first =
    let number = λ (item : Item). item.number in
    let jobs = own_jobs c (jobs_executed world) in
    let items = own_jobs c (sequence_of world) in
    let begun = first.begun in
    let same : map number items ≡ map number jobs = taken_numbers c world.taken in
    let long : length jobs ≡ length items = sym (length-map jobs number) ∙ sym (ap length same) ∙ length-map items number in
    let counts : CountsFrom 0 jobs = CountsFrom-front 0 jobs begun.0 (subst (CountsFrom 0) (sym begun.1) first.numbers) in
    same ∙ numbers_of 0 jobs counts ∙ ap (range_with_len 0) long

-- so the sequence holds in each world
pub each_holds : (setup : Setup) (events : List Event) → Holds (sequence_of (world_after setup events)) (world_after setup events)
each_holds setup events =
    let world = world_after setup events in
    let taken = each_taken setup events in
    record {
      numbered = λ c. numbered world c (each_first setup events c);
      own = λ c. (each_first setup events c).begun;
      logged = logged_are world.taken taken;
      reads = reads_are world.taken taken;
    }
