-- The members of a node once the queues of all that are open were cut.
use Rattle.std.proofs.Common.{◌≡◌, ℕ, zero, suc, List, [], ◌∷◌, map, length, get_or, refl, ap, sym, ◌∙◌, subst}
use Rattle.std.specs.Prelude.{Option, Some, None}
use Rattle.std.specs.List.{range_with_len}
use Rattle.std.specs.Option.{option_map}
use Rattle.std.specs.BTreeSet.{BTreeSet}
use Rattle.std.specs.Ordering.{eq_by_cmp, nat_cmp}
use Rattle.std.proofs.lemmas.Map.Made.{lookup-map_values}
use Rattle.nr_model.specs.Queues.{Queue, cut_off}
use Rattle.nr_replica.specs.Members.{Member, Queues, AreNumbered, cut_member, member_with, member_at, members_of, nobody, queue_at, is_ready}
use Rattle.nr_replica.specs.Ready.{AreReady}

-- the queues that are kept, each cut
abbrev pub cut_queues : Queues → Queues
cut_queues queues = map (λ (e : ℕ × Queue). (e.0, cut_off e.1)) queues

cut_with : (node serial worker : ℕ) (found : Option Queue) → member_with node serial worker (option_map cut_off found) ≡ cut_member (member_with node serial worker found)
cut_with node serial worker None = refl
cut_with node serial worker (Some queue) = refl

each_cut : (f g : ℕ → Member) → ((k : ℕ) → g k ≡ cut_member (f k)) → (serials : List ℕ) → map g serials ≡ map cut_member (map f serials)
each_cut f g same [] = refl
each_cut f g same (k ∷ serials) =
    let here = same k in
    let rest = each_cut f g same serials in
    λ i. here i ∷ rest i

pub members_cut : (node : ℕ) (workers : List ℕ) (old new : Queues) → new ≡ cut_queues old
    → members_of node workers new ≡ map cut_member (members_of node workers old)
members_cut node workers old new is =
    each_cut (member_at node workers old) (member_at node workers new)
    (λ k.
    let found : queue_at k new ≡ option_map cut_off (queue_at k old) = ap (queue_at k) is ∙ lookup-map_values cut_off (eq_by_cmp nat_cmp k) old in
    ap (member_with node k (get_or workers k 0)) found ∙ cut_with node k (get_or workers k 0) (queue_at k old))
    (range_with_len 0 (length workers))

-- what waits still waits
ready_cut : (worker serial : ℕ) (members : List Member) → is_ready worker (get_or (map cut_member members) serial nobody) ≡ is_ready worker (get_or members serial nobody)
ready_cut worker serial [] = refl
ready_cut worker zero (member ∷ members) = refl
ready_cut worker (suc serial) (member ∷ members) = ready_cut worker serial members

pub all_ready : (sets : List (BTreeSet ℕ)) (olds news : List Member) → news ≡ map cut_member olds → AreReady sets olds → AreReady sets news
all_ready sets olds news is ready = λ worker serial.
    ready worker serial ∙ sym (ready_cut worker serial olds) ∙ ap (λ (members : List Member). is_ready worker (get_or members serial nobody)) (sym is)

-- and they stay numbered
numbered_cut : (node n : ℕ) (members : List Member) → AreNumbered node n members → AreNumbered node n (map cut_member members)
numbered_cut node n [] numbered = tt
numbered_cut node n (member ∷ members) numbered = (numbered.0, numbered_cut node (suc n) members numbered.1)

pub all_numbered : (node : ℕ) (olds news : List Member) → news ≡ map cut_member olds → AreNumbered node 0 olds → AreNumbered node 0 news
all_numbered node olds news is numbered = subst (AreNumbered node 0) (sym is) (numbered_cut node 0 olds numbered)
