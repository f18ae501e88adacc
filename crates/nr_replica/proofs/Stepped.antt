-- What the calls of what a node keeps of its connections do to its members.
use Rattle.std.proofs.Common.{◌≡◌, ℕ, zero, suc, ◌+◌, ◌<◌, true, false, List, [], ◌∷◌, ◌++◌, length, take, get_or, set, refl, ap, sym, ◌∙◌, subst, arith}
use Rattle.std.specs.Prelude.{Option, Some, None, Result, Ok, Err, IfOk, IfSome, IfNone, OnOk, OnErr}
use Rattle.std.proofs.lemmas.List.{set-get_or}
use Rattle.nr_model.specs.Items.{Connection}
use Rattle.nr_model.specs.Queues.{Queue, handing, closed_queue}
use Rattle.nr_blob.specs.declared.memory.Memory.{Memory}
use Rattle.nr_entry.specs.Jobs.{connection_of}
use Rattle.nr_replica.specs.declared.outbox.Piece.{Piece}
use Rattle.nr_replica.specs.Members.{Member, Queues, queue_at, member_with, members_of, AreNumbered, fresh_queue, fresh_member, closed_member, handed_member}
use Rattle.nr_replica.proofs.Kept.{numbered_at}
use Rattle.nr_replica.proofs.Marked.{on_err}
use Rattle.nr_replica.proofs.Listed.{IsPut, members_length, members_put, members_unseen, members_more, open_at, closed_at, worker_at}
use Rattle.nr_replica.proofs.Told.{piece_taken}

-- one more
pub opened_is : (c : Connection) (worker limit : ℕ) (workers all : List ℕ) (queue : Queue) (old new : Queues) → c.serial ≡ length workers
    → all ≡ workers ++ worker ∷ [] → queue ≡ fresh_queue c limit → IsPut c.serial (Some queue) old new
    → members_of c.node all new ≡ members_of c.node workers old ++ fresh_member c worker limit ∷ []
opened_is c worker limit workers all queue old new next more fresh put =
    ap (λ (ws : List ℕ). members_of c.node ws new) more
    ∙ members_more c.node worker workers queue old new (subst (λ (s : ℕ). IsPut s (Some queue) old new) next put)
    ∙ ap (λ (q : Queue). members_of c.node workers old ++ record { worker = worker; outbox = q; is_closed = false } ∷ []) fresh

pub unopened : (c : Connection) (workers all : List ℕ) (queue : Queue) (old new : Queues) → c.serial ≡ length workers → all ≡ workers
    → IsPut c.serial (Some queue) old new → members_of c.node all new ≡ members_of c.node workers old
unopened c workers all queue old new next same put =
    ap (λ (ws : List ℕ). members_of c.node ws new) same
    ∙ members_unseen c.node c.serial workers (Some queue) old new put (omega (arith, next))

pub unopened_is : {T E : Type 0} (result : Result T E) (c : Connection) (workers all : List ℕ) (queue : Queue) (old new : Queues) → c.serial ≡ length workers
    → all ≡ workers → IsPut c.serial (Some queue) old new
    → OnErr result (members_of c.node all new ≡ members_of c.node workers old)
unopened_is result c workers all queue old new next same put = on_err result (unopened c workers all queue old new next same put)

-- one fewer
pub closed_is : (node s : ℕ) (workers : List ℕ) (old new : Queues) (d : Member) → s < length workers → IsPut s None old new
    → AreNumbered node 0 (members_of node workers old)
    → members_of node workers new ≡ set (members_of node workers old) s (closed_member (get_or (members_of node workers old) s d))
closed_is node s workers old new d within put numbered =
    let olds = members_of node workers old in
    let long = members_length node workers old in
    let number : 0 + s ≡ s = omega arith in
    let worker = worker_at node workers old s d within in
    let own : record { node = node; serial = s } ≡ (get_or olds s d).outbox.connection =
    sym (numbered_at node 0 s olds d numbered (omega arith) ∙ ap (λ (n : ℕ). record { node = node; serial = n }) number) in
    members_put node s workers None old new put
    ∙ ap (set olds s) (λ i. record { worker = worker i; outbox = closed_queue (own i); is_closed = true })

-- a piece of what waits for one that is open
abbrev Taken : Type 0
Taken = Result (Option Piece) Memory

pub piece_of_open : (node s most : ℕ) (workers : List ℕ) (old : Queues) (at : Queue) (d : Member) (result : Taken) → s < length workers → Some at ≡ queue_at s old
    → IfOk result (λ piece. IfSome piece (λ piece.
    (connection_of piece.conn ≡ at.connection) × (piece.from ≡ at.handed) × (piece.bytes.items ≡ take most at.waiting)))
    → AreNumbered node 0 (members_of node workers old)
    → IfOk result (λ piece. IfSome piece (λ piece.
    (connection_of piece.conn ≡ record { node = node; serial = s }) × (piece.from ≡ (get_or (members_of node workers old) s d).outbox.handed)
    × (piece.bytes.items ≡ take most (get_or (members_of node workers old) s d).outbox.waiting)))
piece_of_open node s most workers old at d result within is taken numbered =
    let here : Member = record { worker = get_or workers s 0; outbox = at; is_closed = false } in
    let long = members_length node workers old in
    piece_taken node s most (members_of node workers old) here d result numbered (omega arith) (sym (open_at node workers old s here at within is)) taken

pub none_of_open : (node s : ℕ) (workers : List ℕ) (old : Queues) (at : Queue) (d : Member) (result : Taken) → s < length workers → Some at ≡ queue_at s old
    → IfOk result (λ piece. IfNone piece (at.waiting ≡ []))
    → IfOk result (λ piece. IfNone piece ((get_or (members_of node workers old) s d).outbox.waiting ≡ []))
none_of_open node s workers old at d result within is none =
    subst (λ (m : Member). IfOk result (λ piece. IfNone piece (m.outbox.waiting ≡ []))) (sym (open_at node workers old s d at within is)) none

pub left_of_open : (node s most : ℕ) (workers : List ℕ) (old new : Queues) (at queue : Queue) (d : Member) (result : Taken) → s < length workers
    → Some at ≡ queue_at s old → IsPut s (Some queue) old new → OnOk result (queue ≡ handing most at)
    → OnOk result (members_of node workers new ≡ set (members_of node workers old) s (handed_member most (get_or (members_of node workers old) s d)))
left_of_open node s most workers old new at queue d (Err e) within is put left = tt
left_of_open node s most workers old new at queue d (Ok x) within is put left =
    members_put node s workers (Some queue) old new put
    ∙ ap (set (members_of node workers old) s)
    (ap (λ (q : Queue). member_with node s (get_or workers s 0) (Some q)) left
    ∙ ap (handed_member most) (sym (open_at node workers old s d at within is)))

pub kept_of_open : (node s : ℕ) (workers : List ℕ) (old new : Queues) (at queue : Queue) (result : Taken) → s < length workers
    → Some at ≡ queue_at s old → IsPut s (Some queue) old new → OnErr result (queue ≡ at)
    → OnErr result (members_of node workers new ≡ members_of node workers old)
kept_of_open node s workers old new at queue (Ok x) within is put same = tt
kept_of_open node s workers old new at queue (Err e) within is put same =
    let here : Member = record { worker = get_or workers s 0; outbox = at; is_closed = false } in
    members_put node s workers (Some queue) old new put
    ∙ ap (set (members_of node workers old) s)
    (ap (λ (q : Queue). member_with node s (get_or workers s 0) (Some q)) same ∙ sym (open_at node workers old s here at within is))
    ∙ set-get_or (members_of node workers old) s here

-- and of one that was closed
handed_nothing : (most : ℕ) (c : Connection) → handing most (closed_queue c) ≡ closed_queue c
handed_nothing zero c = refl
handed_nothing (suc most) c = refl

pub none_of_closed : (node s : ℕ) (workers : List ℕ) (old : Queues) (d : Member) → s < length workers → None ≡ queue_at s old
    → (get_or (members_of node workers old) s d).outbox.waiting ≡ []
none_of_closed node s workers old d within none = ap (λ (m : Member). m.outbox.waiting) (closed_at node workers old s d within none)

pub left_of_closed : (node s most : ℕ) (workers : List ℕ) (old new : Queues) (d : Member) → s < length workers → None ≡ queue_at s old → new ≡ old
    → members_of node workers new ≡ set (members_of node workers old) s (handed_member most (get_or (members_of node workers old) s d))
left_of_closed node s most workers old new d within none same =
    let olds = members_of node workers old in
    let e = closed_at node workers old s d within none in
    ap (members_of node workers) same ∙ sym (set-get_or olds s d)
    ∙ ap (set olds s)
    (e
    ∙ ap (λ (q : Queue). record { worker = get_or workers s 0; outbox = q; is_closed = true }) (sym (handed_nothing most (record { node = node; serial = s })))
    ∙ ap (handed_member most) (sym e))
