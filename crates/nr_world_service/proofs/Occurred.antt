-- What happened by a step, beside what the step did to its world.
use Rattle.std.proofs.Common.{◌≡◌, ℕ, ◌<◌, Bool, true, false, not, cond, List, [], ◌∷◌, ◌++◌, length, map, refl, ap, sym, ◌∙◌, arith, append-nil, ltb}
use Rattle.std.specs.Prelude.{◌||◌, nat_le}
use Rattle.std.proofs.lemmas.Bool.{and_parts, ltb-true, not-false}
use Rattle.std.proofs.lemmas.List.{map-append}
use Rattle.nr_model.specs.Keyspace.{moment}
use Rattle.nr_model.specs.Items.{Connection}
use Rattle.nr_model.specs.Connections.{Setup, Feeding, Closing}
use Rattle.nr_model.specs.Nodes.{World, node_at}
use Rattle.nr_model.specs.Nodes.Steps.{Step, Open, Feed, Post, Lift, Reserve, Fill, Fetch, Apply, Look, Answer, Collect, Close, Refuse, Revive, Outcome, Opened, Done, Idle, Refused, idle_where, is_worker, is_client, in_use, outcome, came_to, opened, effect_by, after_step}
use Rattle.nr_model.specs.declared.reason.Reason.TheVariants.{NoSuch, TooMany, Down}
use Rattle.nr_model.specs.Nodes.Pasts.{Event, is_done, handed_in}
use Rattle.nr_service.specs.Stories as stories
use Rattle.nr_service.specs.Stories.{Occurrence, HandedOut, opened_in, fed_in, closed_in}
use Rattle.nr_service.proofs.Occurrences.{opened_both, fed_both, handed_both, closed_both, pieces_opened, pieces_fed, pieces_handed, pieces_closed}
use Rattle.nr_world_service.specs.Told.{told_by, told_of, told_in}
use Rattle.nr_world_service.proofs.Names.{by_outcome}
use Rattle.nr_world_service.proofs.Apart.{connection_at, is_there, is_feed, effect_fed, is_close, effect_closed, opened_count, other_client}

-- what a step that was done adds
told_cases : (P : List Occurrence → Type 0) → P [] → ((c : Connection) → P (stories.Opened c ∷ [])) → ((f : Feeding) → P (stories.Fed f ∷ []))
    → ((closing : stories.Closing) → P (stories.Closed closing ∷ [])) → (step : Step) (o : Outcome) → P (told_by step o)
told_cases P none opens feeds closes (Open n w) (Opened c) = opens c
told_cases P none opens feeds closes (Open n w) Done = none
told_cases P none opens feeds closes (Open n w) (Idle reason) = none
told_cases P none opens feeds closes (Feed c time bytes) o =
    let f : Feeding = record { connection = c; moment = moment time; bytes = bytes } in
    elim (is_done o) as (λ b. P (cond b (stories.Fed f ∷ []) [])) [ true ↦ feeds f | false ↦ none ]
told_cases P none opens feeds closes (Close c time) o =
    let closing : stories.Closing = record { connection = c; moment = moment time } in
    elim (is_done o) as (λ b. P (cond b (stories.Closed closing ∷ []) [])) [ true ↦ closes closing | false ↦ none ]
told_cases P none opens feeds closes (Post n w) o = none
told_cases P none opens feeds closes (Lift n w) o = none
told_cases P none opens feeds closes (Reserve n) o = none
told_cases P none opens feeds closes (Fill n t) o = none
told_cases P none opens feeds closes (Fetch n) o = none
told_cases P none opens feeds closes (Apply n) o = none
told_cases P none opens feeds closes (Look n) o = none
told_cases P none opens feeds closes (Answer n w) o = none
told_cases P none opens feeds closes (Collect n w) o = none
told_cases P none opens feeds closes (Refuse n) o = none
told_cases P none opens feeds closes (Revive n f) o = none

-- what was handed out is what happened so
handed_none : (step : Step) (o : Outcome) → stories.handed_in (told_by step o) ≡ []
handed_none step o = told_cases (λ (os : List Occurrence). stories.handed_in os ≡ []) refl (λ c. refl) (λ f. refl) (λ closing. refl) step o

pub one_handed : (e : Event) → stories.handed_in (told_of e) ≡ e.handed
one_handed e =
    handed_both (told_by e.step e.outcome) (map HandedOut e.handed)
    ∙ (λ i. handed_none e.step e.outcome i ++ pieces_handed e.handed i)

pub told_handed : (events : List Event) → stories.handed_in (told_in events) ≡ handed_in events
told_handed [] = refl
told_handed (e ∷ events) = handed_both (told_of e) (told_in events) ∙ (λ i. one_handed e i ++ told_handed events i)

-- what is handed out beside it opens, feeds and closes nothing
one_opened : (e : Event) → opened_in (told_of e) ≡ opened_in (told_by e.step e.outcome)
one_opened e =
    opened_both (told_by e.step e.outcome) (map HandedOut e.handed)
    ∙ ap (λ (l : List Connection). opened_in (told_by e.step e.outcome) ++ l) (pieces_opened e.handed) ∙ append-nil (opened_in (told_by e.step e.outcome))

one_fed : (e : Event) → fed_in (told_of e) ≡ fed_in (told_by e.step e.outcome)
one_fed e =
    fed_both (told_by e.step e.outcome) (map HandedOut e.handed)
    ∙ ap (λ (l : List Feeding). fed_in (told_by e.step e.outcome) ++ l) (pieces_fed e.handed) ∙ append-nil (fed_in (told_by e.step e.outcome))

one_closed : (e : Event) → closed_in (told_of e) ≡ closed_in (told_by e.step e.outcome)
one_closed e =
    closed_both (told_by e.step e.outcome) (map HandedOut e.handed)
    ∙ ap (λ (l : List Connection). closed_in (told_by e.step e.outcome) ++ l) (pieces_closed e.handed) ∙ append-nil (closed_in (told_by e.step e.outcome))

-- a world's feeds are those that happened
fed_none : (step : Step) (o : Outcome) → is_feed step ≡ false → fed_in (told_by step o) ≡ []
fed_none (Open n w) (Opened c) is = refl
fed_none (Open n w) Done is = refl
fed_none (Open n w) (Idle reason) is = refl
fed_none (Feed c time bytes) o is = absurd (cc is)
fed_none (Close c time) o is = elim (is_done o) as (λ b. fed_in (cond b (stories.closed_at c time ∷ []) []) ≡ []) [ true ↦ refl | false ↦ refl ]
fed_none (Post n w) o is = refl
fed_none (Lift n w) o is = refl
fed_none (Reserve n) o is = refl
fed_none (Fill n t) o is = refl
fed_none (Fetch n) o is = refl
fed_none (Apply n) o is = refl
fed_none (Look n) o is = refl
fed_none (Answer n w) o is = refl
fed_none (Collect n w) o is = refl
fed_none (Refuse n) o is = refl
fed_none (Revive n f) o is = refl

plain_fed : (setup : Setup) (world : World) (step : Step) (refused : Refused) (o : Outcome) → is_feed step ≡ false
    → (effect_by o setup world step refused).fed ≡ world.fed ++ fed_in (told_by step o)
plain_fed setup world step refused o is =
    by_outcome (λ (w : World). w.fed ≡ world.fed) o setup world step refused refl (effect_fed setup world step refused is)
    ∙ sym (append-nil world.fed) ∙ ap (λ (l : List Feeding). world.fed ++ l) (sym (fed_none step o is))

fed_told : (setup : Setup) (world : World) (step : Step) (refused : Refused) (o : Outcome)
    → (effect_by o setup world step refused).fed ≡ world.fed ++ fed_in (told_by step o)
fed_told setup world (Feed c time bytes) refused (Opened d) = refl
fed_told setup world (Feed c time bytes) refused Done = refl
fed_told setup world (Feed c time bytes) refused (Idle reason) = sym (append-nil world.fed)
fed_told setup world (Open n w) refused o = plain_fed setup world (Open n w) refused o refl
fed_told setup world (Post n w) refused o = plain_fed setup world (Post n w) refused o refl
fed_told setup world (Lift n w) refused o = plain_fed setup world (Lift n w) refused o refl
fed_told setup world (Reserve n) refused o = plain_fed setup world (Reserve n) refused o refl
fed_told setup world (Fill n t) refused o = plain_fed setup world (Fill n t) refused o refl
fed_told setup world (Fetch n) refused o = plain_fed setup world (Fetch n) refused o refl
fed_told setup world (Apply n) refused o = plain_fed setup world (Apply n) refused o refl
fed_told setup world (Look n) refused o = plain_fed setup world (Look n) refused o refl
fed_told setup world (Answer n w) refused o = plain_fed setup world (Answer n w) refused o refl
fed_told setup world (Collect n w) refused o = plain_fed setup world (Collect n w) refused o refl
fed_told setup world (Close c time) refused o = plain_fed setup world (Close c time) refused o refl
fed_told setup world (Refuse n) refused o = plain_fed setup world (Refuse n) refused o refl
fed_told setup world (Revive n f) refused o = plain_fed setup world (Revive n f) refused o refl

pub event_fed : (setup : Setup) (world : World) (e : Event) → e.outcome ≡ came_to setup world e.step e.refused
    → (after_step setup world e.step e.refused).fed ≡ world.fed ++ fed_in (told_of e)
event_fed setup world e is =
    ap (λ (o : Outcome). (effect_by o setup world e.step e.refused).fed) (sym is) ∙ fed_told setup world e.step e.refused e.outcome
    ∙ ap (λ (l : List Feeding). world.fed ++ l) (sym (one_fed e))

-- and so are the connections that were closed
abbrev pub closings : World → List Connection
closings world = map (λ (closing : Closing). closing.connection) world.closed

closed_none : (step : Step) (o : Outcome) → is_close step ≡ false → closed_in (told_by step o) ≡ []
closed_none (Open n w) (Opened c) is = refl
closed_none (Open n w) Done is = refl
closed_none (Open n w) (Idle reason) is = refl
closed_none (Feed c time bytes) o is =
    elim (is_done o) as (λ b. closed_in (cond b (stories.Fed (record { connection = c; moment = moment time; bytes = bytes }) ∷ []) []) ≡ [])
    [ true ↦ refl | false ↦ refl ]
closed_none (Close c time) o is = absurd (cc is)
closed_none (Post n w) o is = refl
closed_none (Lift n w) o is = refl
closed_none (Reserve n) o is = refl
closed_none (Fill n t) o is = refl
closed_none (Fetch n) o is = refl
closed_none (Apply n) o is = refl
closed_none (Look n) o is = refl
closed_none (Answer n w) o is = refl
closed_none (Collect n w) o is = refl
closed_none (Refuse n) o is = refl
closed_none (Revive n f) o is = refl

plain_closed : (setup : Setup) (world : World) (step : Step) (refused : Refused) (o : Outcome) → is_close step ≡ false
    → closings (effect_by o setup world step refused) ≡ closings world ++ closed_in (told_by step o)
plain_closed setup world step refused o is =
    by_outcome (λ (w : World). closings w ≡ closings world) o setup world step refused refl
    (ap (λ (closed : List Closing). map (λ (closing : Closing). closing.connection) closed) (effect_closed setup world step refused is))
    ∙ sym (append-nil (closings world)) ∙ ap (λ (l : List Connection). closings world ++ l) (sym (closed_none step o is))

closed_told : (setup : Setup) (world : World) (step : Step) (refused : Refused) (o : Outcome)
    → closings (effect_by o setup world step refused) ≡ closings world ++ closed_in (told_by step o)
closed_told setup world (Close c time) refused (Opened d) = map-append (λ (closing : Closing). closing.connection) world.closed _
closed_told setup world (Close c time) refused Done = map-append (λ (closing : Closing). closing.connection) world.closed _
closed_told setup world (Close c time) refused (Idle reason) = sym (append-nil (closings world))
closed_told setup world (Open n w) refused o = plain_closed setup world (Open n w) refused o refl
closed_told setup world (Feed c time bytes) refused o = plain_closed setup world (Feed c time bytes) refused o refl
closed_told setup world (Post n w) refused o = plain_closed setup world (Post n w) refused o refl
closed_told setup world (Lift n w) refused o = plain_closed setup world (Lift n w) refused o refl
closed_told setup world (Reserve n) refused o = plain_closed setup world (Reserve n) refused o refl
closed_told setup world (Fill n t) refused o = plain_closed setup world (Fill n t) refused o refl
closed_told setup world (Fetch n) refused o = plain_closed setup world (Fetch n) refused o refl
closed_told setup world (Apply n) refused o = plain_closed setup world (Apply n) refused o refl
closed_told setup world (Look n) refused o = plain_closed setup world (Look n) refused o refl
closed_told setup world (Answer n w) refused o = plain_closed setup world (Answer n w) refused o refl
closed_told setup world (Collect n w) refused o = plain_closed setup world (Collect n w) refused o refl
closed_told setup world (Refuse n) refused o = plain_closed setup world (Refuse n) refused o refl
closed_told setup world (Revive n f) refused o = plain_closed setup world (Revive n f) refused o refl

pub event_closed : (setup : Setup) (world : World) (e : Event) → e.outcome ≡ came_to setup world e.step e.refused
    → closings (after_step setup world e.step e.refused) ≡ closings world ++ closed_in (told_of e)
event_closed setup world e is =
    ap (λ (o : Outcome). closings (effect_by o setup world e.step e.refused)) (sym is) ∙ closed_told setup world e.step e.refused e.outcome
    ∙ ap (λ (l : List Connection). closings world ++ l) (sym (one_closed e))

-- a connection that was opened is there from then on
opened_by_open : (a b d : Bool) (x c : Connection) → Opened c ≡ idle_where a NoSuch (idle_where b TooMany (idle_where d Down (Opened x)))
    → (a ≡ false) × (c ≡ x)
opened_by_open true b d x c e = absurd (cc e)
opened_by_open false true d x c e = absurd (cc e)
opened_by_open false false true x c e = absurd (cc e)
opened_by_open false false false x c e =
    (refl, ap (λ (o : Outcome). elim o [ Opened y ↦ y | Done ↦ c | Idle reason ↦ c ]) e)

-- its node is there
pub open_within : (setup : Setup) (world : World) (n w : ℕ) (c : Connection) → length world.nodes ≡ setup.nodes → Opened c ≡ outcome setup world (Open n w)
    → n < length world.nodes
open_within setup world n w c many e =
    let node = node_at n world in
    let is = opened_by_open (not (is_worker setup n w)) (nat_le setup.connections (in_use node)) node.down (connection_at n (length node.clients)) c e in
    let below : n < setup.nodes = ltb-true n setup.nodes (and_parts (ltb n setup.nodes) (ltb w setup.workers) (not-false (is_worker setup n w) is.0)).0 in
    omega arith

pub open_there : (setup : Setup) (world : World) (n w : ℕ) (c : Connection) (refused : Refused) → length world.nodes ≡ setup.nodes
    → Opened c ≡ outcome setup world (Open n w)
    → (c ≡ connection_at n (length (node_at n world).clients)) × (is_client (after_step setup world (Open n w) refused) c ≡ true)
open_there setup world n w c refused many e =
    let node = node_at n world in
    let is = opened_by_open (not (is_worker setup n w)) (nat_le setup.connections (in_use node)) node.down (connection_at n (length node.clients)) c e in
    let moved : after_step setup world (Open n w) refused ≡ opened setup n w world =
    ap (λ (d : Outcome). effect_by d setup world (Open n w) refused) (sym e) in
    let there : n < length world.nodes = open_within setup world n w c many e in
    let count = opened_count setup n w world there in
    let after : is_client (opened setup n w world) (connection_at n (length node.clients)) ≡ true =
    is_there (opened setup n w world) n (length node.clients) (omega arith) in (
      is.1,
      ap (λ (x : World). is_client x c) moved ∙ ap (is_client (opened setup n w world)) is.1 ∙ after,
    )

abbrev AreThere : World → List Connection → Type 0
AreThere world [] = Unit {0}
AreThere world (c ∷ connections) = (is_client world c ≡ true) × AreThere world connections

there_told : (setup : Setup) (world : World) (step : Step) (refused : Refused) (o : Outcome) → length world.nodes ≡ setup.nodes
    → o ≡ came_to setup world step refused → AreThere (after_step setup world step refused) (opened_in (told_by step o))
there_told setup world (Open n w) refused (Opened c) many is = ((open_there setup world n w c refused many is).1, tt)
there_told setup world (Open n w) refused Done many is = tt
there_told setup world (Open n w) refused (Idle reason) many is = tt
there_told setup world (Feed c time bytes) refused o many is =
    elim (is_done o) as (λ b. AreThere (after_step setup world (Feed c time bytes) refused)
    (opened_in (cond b (stories.Fed (record { connection = c; moment = moment time; bytes = bytes }) ∷ []) []))) [ true ↦ tt | false ↦ tt ]
there_told setup world (Close c time) refused o many is =
    elim (is_done o) as (λ b. AreThere (after_step setup world (Close c time) refused) (opened_in (cond b (stories.closed_at c time ∷ []) [])))
    [ true ↦ tt | false ↦ tt ]
there_told setup world (Post n w) refused o many is = tt
there_told setup world (Lift n w) refused o many is = tt
there_told setup world (Reserve n) refused o many is = tt
there_told setup world (Fill n t) refused o many is = tt
there_told setup world (Fetch n) refused o many is = tt
there_told setup world (Apply n) refused o many is = tt
there_told setup world (Look n) refused o many is = tt
there_told setup world (Answer n w) refused o many is = tt
there_told setup world (Collect n w) refused o many is = tt
there_told setup world (Refuse n) refused o many is = tt
there_told setup world (Revive n f) refused o many is = tt

absent_among : (world : World) (c : Connection) (connections : List Connection) → is_client world c ≡ false → AreThere world connections
    → stories.is_among c connections ≡ false
absent_among world c [] absent there = refl
absent_among world c (d ∷ connections) absent there =
    (λ i. other_client world d c there.0 absent i || stories.is_among c connections) ∙ absent_among world c connections absent there.1

-- so one that isn't there was not opened
pub event_opened : (setup : Setup) (world : World) (e : Event) (c : Connection) → length world.nodes ≡ setup.nodes
    → e.outcome ≡ came_to setup world e.step e.refused → is_client (after_step setup world e.step e.refused) c ≡ false
    → stories.is_among c (opened_in (told_of e)) ≡ false
event_opened setup world e c many is absent =
    ap (stories.is_among c) (one_opened e)
    ∙ absent_among (after_step setup world e.step e.refused) c (opened_in (told_by e.step e.outcome)) absent
    (there_told setup world e.step e.refused e.outcome many is)

-- steps that open, feed and close nothing
abbrev pub is_outer : Step → Bool
is_outer (Open n w) = true
is_outer (Feed c time bytes) = true
is_outer (Close c time) = true
is_outer _ = false

pub inner_told : (step : Step) (o : Outcome) → is_outer step ≡ false → told_by step o ≡ []
inner_told (Open n w) o is = absurd (cc is)
inner_told (Feed c time bytes) o is = absurd (cc is)
inner_told (Close c time) o is = absurd (cc is)
inner_told (Post n w) o is = refl
inner_told (Lift n w) o is = refl
inner_told (Reserve n) o is = refl
inner_told (Fill n t) o is = refl
inner_told (Fetch n) o is = refl
inner_told (Apply n) o is = refl
inner_told (Look n) o is = refl
inner_told (Answer n w) o is = refl
inner_told (Collect n w) o is = refl
inner_told (Refuse n) o is = refl
inner_told (Revive n f) o is = refl
