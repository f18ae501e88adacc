-- What the workers and the queues that a node keeps are as its members.
use Rattle.std.proofs.Common.{◌≡◌, ℕ, zero, suc, ◌+◌, ◌<◌, ◌≤◌, true, false, cond, List, [], ◌∷◌, ◌++◌, length, get_or, set, refl, ap, sym, ◌∙◌, arith}
use Rattle.std.specs.Prelude.{Option, Some, None}
use Rattle.std.specs.Ordering.{eq_by_cmp, nat_cmp}
use Rattle.std.specs.Cmp.{unsigned_ties, nat_cmp_total, eq_by_cmp_equiv}
use Rattle.std.proofs.lemmas.Bool.{ne_eqb}
use Rattle.std.proofs.lemmas.List.{length-append, get_or_past}
use Rattle.nr_model.specs.Queues.{Queue, closed_queue}
use Rattle.nr_replica.specs.Members.{Member, Queues, queue_at, member_with, member_at, members_of}
use Rattle.nr_replica.proofs.Serials.{listed, listed_length, listed_at, listed_set, listed_same, listed_more}

pub members_length : (node : ℕ) (workers : List ℕ) (queues : Queues) → length (members_of node workers queues) ≡ length workers
members_length node workers queues = listed_length (member_at node workers queues) (length workers)

pub members_at : (node : ℕ) (workers : List ℕ) (queues : Queues) (s : ℕ) (d : Member) → s < length workers
    → get_or (members_of node workers queues) s d ≡ member_at node workers queues s
members_at node workers queues s d within = listed_at (member_at node workers queues) (length workers) s d within

-- a queue is there, or is there no more, at one serial
abbrev pub IsPut : ℕ → Option Queue → Queues → Queues → Type 0
IsPut s found old new = (q : ℕ) → queue_at q new ≡ cond (eq_by_cmp nat_cmp s q) found (queue_at q old)

put_here : (s : ℕ) (found : Option Queue) (old new : Queues) → IsPut s found old new → queue_at s new ≡ found
put_here s found old new put = put s ∙ ap (λ b. cond b found (queue_at s old)) ((eq_by_cmp_equiv nat_cmp_total).refl s)

put_apart : (s k : ℕ) (found : Option Queue) (old new : Queues) → IsPut s found old new → (k ≡ s → ⊥) → queue_at k new ≡ queue_at k old
put_apart s k found old new put apart =
    put k ∙ ap (λ b. cond b found (queue_at k old)) (sym (unsigned_ties s k) ∙ ne_eqb s k (λ e. apart (sym e)))

pub members_put : (node s : ℕ) (workers : List ℕ) (found : Option Queue) (old new : Queues) → IsPut s found old new
    → members_of node workers new ≡ set (members_of node workers old) s (member_with node s (get_or workers s 0) found)
members_put node s workers found old new put =
    listed_set (member_at node workers old) (member_at node workers new) (length workers) s
    (λ k apart. ap (member_with node k (get_or workers k 0)) (put_apart s k found old new put apart))
    ∙ ap (λ (o : Option Queue). set (members_of node workers old) s (member_with node s (get_or workers s 0) o)) (put_here s found old new put)

-- past the workers it isn't seen
pub members_unseen : (node s : ℕ) (workers : List ℕ) (found : Option Queue) (old new : Queues) → IsPut s found old new → length workers ≤ s
    → members_of node workers new ≡ members_of node workers old
members_unseen node s workers found old new put past =
    listed_same (member_at node workers old) (member_at node workers new) (length workers)
    (λ k below. ap (member_with node k (get_or workers k 0)) (put_apart s k found old new put (λ e. absurd (omega arith))))

get_front : (xs : List ℕ) (x k : ℕ) → k < length xs → get_or (xs ++ x ∷ []) k 0 ≡ get_or xs k 0
get_front [] x k below = absurd (omega arith)
get_front (y ∷ xs) x zero below = refl
get_front (y ∷ xs) x (suc k) below = get_front xs x k (omega arith)

get_last : (xs : List ℕ) (x : ℕ) → get_or (xs ++ x ∷ []) (length xs) 0 ≡ x
get_last [] x = refl
get_last (y ∷ xs) x = get_last xs x

-- one more
pub members_more : (node worker : ℕ) (workers : List ℕ) (queue : Queue) (old new : Queues) → IsPut (length workers) (Some queue) old new
    → members_of node (workers ++ worker ∷ []) new ≡ members_of node workers old ++ record { worker = worker; outbox = queue; is_closed = false } ∷ []
members_more node worker workers queue old new put =
    let n = length workers in
    let all = workers ++ worker ∷ [] in
    let f = member_at node workers old in
    let g = member_at node all new in
    let longer : length all ≡ n + 1 = length-append workers (worker ∷ []) in
    ap (λ (m : ℕ). listed g m) longer
    ∙ listed_more f g n
    (λ k below.
    ap (λ (w : ℕ). member_with node k w (queue_at k new)) (get_front workers worker k below)
    ∙ ap (member_with node k (get_or workers k 0)) (put_apart n k (Some queue) old new put (λ e. absurd (omega arith))))
    ∙ ap (λ (m : Member). members_of node workers old ++ m ∷ [])
    (ap (λ (w : ℕ). member_with node n w (queue_at n new)) (get_last workers worker)
    ∙ ap (member_with node n worker) (put_here n (Some queue) old new put))

worker_with : (node s worker : ℕ) (found : Option Queue) → (member_with node s worker found).worker ≡ worker
worker_with node s worker None = refl
worker_with node s worker (Some queue) = refl

-- what stands for one that is open, and for one that is closed
pub open_at : (node : ℕ) (workers : List ℕ) (queues : Queues) (s : ℕ) (d : Member) (queue : Queue) → s < length workers → Some queue ≡ queue_at s queues
    → get_or (members_of node workers queues) s d ≡ record { worker = get_or workers s 0; outbox = queue; is_closed = false }
open_at node workers queues s d queue within is =
    members_at node workers queues s d within ∙ ap (member_with node s (get_or workers s 0)) (sym is)

pub closed_at : (node : ℕ) (workers : List ℕ) (queues : Queues) (s : ℕ) (d : Member) → s < length workers → None ≡ queue_at s queues
    → get_or (members_of node workers queues) s d
    ≡ record { worker = get_or workers s 0; outbox = closed_queue (record { node = node; serial = s }); is_closed = true }
closed_at node workers queues s d within is =
    members_at node workers queues s d within ∙ ap (member_with node s (get_or workers s 0)) (sym is)

pub worker_at : (node : ℕ) (workers : List ℕ) (queues : Queues) (s : ℕ) (d : Member) → s < length workers
    → get_or workers s 0 ≡ (get_or (members_of node workers queues) s d).worker
worker_at node workers queues s d within =
    sym (worker_with node s (get_or workers s 0) (queue_at s queues)) ∙ ap (λ (m : Member). m.worker) (sym (members_at node workers queues s d within))

pub worker_past : (node : ℕ) (workers : List ℕ) (queues : Queues) (s : ℕ) (d : Member) → length workers ≤ s
    → d.worker ≡ (get_or (members_of node workers queues) s d).worker
worker_past node workers queues s d past =
    let long = members_length node workers queues in
    ap (λ (m : Member). m.worker) (sym (get_or_past (members_of node workers queues) s d (omega arith)))

-- a serial of one of the members is one of a worker
pub within_seen : (node s : ℕ) (workers : List ℕ) (queues : Queues) (members : List Member) → members_of node workers queues ≡ members → s < length members
    → s < length workers
within_seen node s workers queues members is within =
    let long = members_length node workers queues in
    let same = ap (λ (ms : List Member). length ms) is in
    omega (arith, long, same)
