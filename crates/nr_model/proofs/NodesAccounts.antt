-- Each connection of a server of several nodes received a beginning of what the sequential Redis emits for it, and all of it along its node's part.
use Rattle.std.proofs.Common.{◌≡◌, ℕ, Bool, true, false, cond, inl, inr, List, [], ◌∷◌, ◌++◌, length, refl, ap, sym, ◌∙◌, subst, arith, append_assoc, ltb}
use Rattle.std.proofs.lemmas.Bool.{cases_Bool, and_cases, ltb-true, ltb-false, not-true}
use Rattle.std.proofs.lemmas.List.{append-nil}
use Rattle.std.proofs.lemmas.List.Concat.{flat_map-append}
use Rattle.nr_model.specs.Bytes.{Bytes, IsBeginningOf}
use Rattle.nr_model.specs.Items.{Connection}
use Rattle.nr_model.specs.Sequential.{emitted_for}
use Rattle.nr_model.specs.Connections.{Setup, Handed, handed_to}
use Rattle.nr_model.specs.Nodes.{World, fresh, fresh_node, node_at, client_of, sequence_of, part_of}
use Rattle.nr_model.specs.Nodes.Steps.{Outcome, is_client, came_to}
use Rattle.nr_model.specs.Nodes.Pasts.{Event, IsEvent, is_done, handed_by, after_event, world_after, AreEvents, handed_in}
use Rattle.nr_model.specs.Nodes.Explained.{IsWhole, waiting_for, account_of, IsAccounted}
use Rattle.nr_model.proofs.NodesSteps.{a_client, each_step, each_sized, fresh_at, are_first, are_last, world_after-append}
use Rattle.nr_model.proofs.NodesPartsEmitted.{begins_on, none_begins, part_emits}
use Rattle.nr_model.proofs.NodesAccountsKept.{IsKept}
use Rattle.nr_model.proofs.NodesAccountsMoves.{IsKnown, AreKept, Gives, moves_kept}

-- a node at first
fresh_kept : (setup : Setup) (r : ℕ) → IsKept r [] [] (fresh_node setup)
fresh_kept setup r = record {
  up = λ up. record { within = tt; server_is = refl; accounts = λ s below. absurd (omega arith) };
  fallen = λ down. absurd (cc down);
  absent = λ s past. refl;
}

-- a world at first
fresh_world : (setup : Setup) → AreKept [] [] (fresh setup)
fresh_world setup = record {
  each = λ r there. subst (IsKept r [] []) (sym (fresh_at setup r there)) (fresh_kept setup r);
  beyond = λ c past. refl;
}

-- what one more event handed out
handed_more : (events : List Event) (e : Event) → handed_in (events ++ e ∷ []) ≡ handed_in events ++ e.handed
handed_more events e =
    flat_map-append (λ (x : Event). x.handed) events (e ∷ []) ∙ ap (λ (hs : List Handed). handed_in events ++ hs) (append-nil e.handed)

-- what is kept behind some events
abbrev pub KeptAfter : Setup → List Event → Type 0
KeptAfter setup events = AreKept (handed_in events) (world_after setup events).taken (world_after setup events)

-- one more event
kept_more : (setup : Setup) (events : List Event) (e : Event) → IsKnown (world_after setup events) → IsEvent setup (world_after setup events) e
    → KeptAfter setup events → KeptAfter setup (events ++ e ∷ [])
kept_more setup events e known is k =
    let world = world_after setup events in
    let next = after_event setup world e in
    let given = cond (is_done (came_to setup world e.step e.refused)) (handed_by world e.step) [] in
    let now : AreKept (handed_in events ++ given) next.taken next =
    each_step setup Gives (moves_kept setup) world e.step e.refused (each_sized setup events) known (handed_in events) k in
    let handed : handed_in events ++ given ≡ handed_in (events ++ e ∷ []) =
    sym (handed_more events e ∙ ap (λ (hs : List Handed). handed_in events ++ hs)
    (is.handed_is ∙ ap (λ (o : Outcome). cond (is_done o) (handed_by world e.step) []) is.outcome_is)) in
    subst (λ (hs : List Handed). AreKept hs (world_after setup (events ++ e ∷ [])).taken (world_after setup (events ++ e ∷ []))) handed
    (subst (λ (w : World). AreKept (handed_in events ++ given) w.taken w) (sym (world_after-append setup (fresh setup) events (e ∷ []))) now)

-- what is known of the world behind every past
abbrev pub AreKnown : Setup → Type 0
AreKnown setup = (events : List Event) → AreEvents setup (fresh setup) events → IsKnown (world_after setup events)

-- any events more
kept_from : (setup : Setup) → AreKnown setup → (before events : List Event) → AreEvents setup (fresh setup) (before ++ events) → KeptAfter setup before
    → KeptAfter setup (before ++ events)
kept_from setup known before [] are k = subst (KeptAfter setup) (sym (append-nil before)) k
kept_from setup known before (e ∷ events) are k =
    let first = are_first setup (fresh setup) before (e ∷ events) are in
    let last = are_last setup (fresh setup) before (e ∷ events) are in
    let next : AreEvents setup (fresh setup) ((before ++ e ∷ []) ++ events) =
    subst (AreEvents setup (fresh setup)) (sym (append_assoc before (e ∷ []) events)) are in
    subst (KeptAfter setup) (append_assoc before (e ∷ []) events)
    (kept_from setup known (before ++ e ∷ []) events next (kept_more setup before e (known before first) last.0 k))

-- what is kept behind every past
pub each_kept : (setup : Setup) → AreKnown setup → (events : List Event) → AreEvents setup (fresh setup) events → KeptAfter setup events
each_kept setup known events are = kept_from setup known [] events are (fresh_world setup)

-- a connection that there isn't was handed nothing
absent_handed : (handed : List Handed) (world : World) (c : Connection) → is_client world c ≡ false
    → AreKept handed world.taken world → handed_to c handed ≡ []
absent_handed handed world c absent k =
    let clients = (node_at c.node world).clients in
    elim (cases_Bool (ltb c.node (length world.nodes))) [
      | inl there ↦ elim (and_cases (ltb c.node (length world.nodes)) (ltb c.serial (length clients)) absent) [
        | inl beyond ↦ absurd (cc (there, beyond))
        | inr past ↦ (k.each c.node (ltb-true c.node (length world.nodes) there)).absent c.serial (ltb-false c.serial (length clients) past)
      ]
      | inr beyond ↦ k.beyond c (ltb-false c.node (length world.nodes) beyond)
    ]

-- what waits for a connection that there is
waits : (world : World) (c : Connection) → is_client world c ≡ true → waiting_for world c ≡ (client_of c world).queue.waiting
waits world c here = ap (λ (b : Bool). cond b (client_of c world).queue.waiting []) here

-- a connection's account begins what is emitted for it
account_begins : (events : List Event) (world : World) (c : Connection) → IsKnown world → AreKept (handed_in events) world.taken world
    → IsBeginningOf (account_of events world c) (emitted_for c (sequence_of world))
account_begins events world c known k =
    let given = handed_to c (handed_in events) in
    let all = emitted_for c (sequence_of world) in
    elim (cases_Bool (is_client world c)) [
      | inl here ↦
          let at = a_client world c here in
          let kept = k.each c.node at.there in
          let node = node_at c.node world in
          let part = emitted_for c (part_of c.node world) in
          let waiting = (client_of c world).queue.waiting in
          subst (λ (w : Bytes). IsBeginningOf (given ++ w) all) (sym (waits world c here))
          (elim (cases_Bool node.down) [
            | inl down ↦
                let f = kept.fallen down in
                begins_on (given ++ waiting) part all (f.accounts c.serial at.stands).begins (part_emits c node.applied world.taken f.within known.run)
            | inr up ↦
                let u = kept.up up in
                begins_on (given ++ waiting) part all (u.accounts c.serial at.stands).begun.begins (part_emits c node.applied world.taken u.within known.run)
          ])
      | inr absent ↦
          let none : account_of events world c ≡ [] =
          λ i. absent_handed (handed_in events) world c absent k i ++ cond (absent i) (client_of c world).queue.waiting [] in
          subst (λ (bs : Bytes). IsBeginningOf bs all) (sym none) (none_begins all)
    ]

-- it is all that is emitted for it along its node's part, where its node is up and its queue isn't cut
account_whole : (events : List Event) (world : World) (c : Connection) → AreKept (handed_in events) world.taken world → IsWhole c world
    → account_of events world c ≡ emitted_for c (part_of c.node world)
account_whole events world c k whole =
    let at = a_client world c whole.0 in
    let u = (k.each c.node at.there).up (not-true (node_at c.node world).down whole.1) in
    ap (λ (w : Bytes). handed_to c (handed_in events) ++ w) (waits world c whole.0) ∙ (u.accounts c.serial at.stands).whole whole.2

-- so it is with each connection
pub accounted : (events : List Event) (world : World) → IsKnown world → AreKept (handed_in events) world.taken world
    → IsAccounted (sequence_of world) events world
accounted events world known k =
    record { beginning = λ c. account_begins events world c known k; whole = λ c whole. account_whole events world c k whole }

-- so what was handed out begins it
pub handed_begins : (events : List Event) (world : World) → IsAccounted (sequence_of world) events world → (c : Connection)
    → IsBeginningOf (handed_to c (handed_in events)) (emitted_for c (sequence_of world))
handed_begins events world a c =
    let b = a.beginning c in
    (waiting_for world c ++ b.0, sym (append_assoc (handed_to c (handed_in events)) (waiting_for world c) b.0) ∙ b.1)

-- every past is accounted for
pub each_accounted : (setup : Setup) → AreKnown setup → (events : List Event) → AreEvents setup (fresh setup) events
    → IsAccounted (sequence_of (world_after setup events)) events (world_after setup events)
each_accounted setup known events are = accounted events (world_after setup events) (known events are) (each_kept setup known events are)
