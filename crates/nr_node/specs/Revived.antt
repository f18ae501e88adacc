-- What a node offers another one that is down, and how that one comes back with it.
use Rattle.std.specs.Prelude.{◌≡◌, ◌⊎◌, ℕ, ◌<◌, ◌≤◌, Bool, false, not, nat_lt, cond, List, [], ◌∷◌, ◌++◌, map, Option, Some, None, is_some, slice_index_or, refl}
use Rattle.std.specs.List.{list_any}
use Rattle.std.specs.Coded.{Coded, code_by, coded×}
use Rattle.nr_model.specs.Servers.{Server, fresh, after_all}
use Rattle.nr_entry.specs.declared.entry.Entry.{Entry}
use Rattle.nr_log_end.specs.declared.standing.Standing.{Standing}
use Rattle.nr_log_end.specs.declared.standing.Load.{Load}
use Rattle.nr_log_end.specs.declared.standing.Load.TheVariants.{Unfilled}
use Rattle.nr_log_end.specs.contracts.standing.Standing as of_standing
use Rattle.nr_log_end.specs.Standings.{passed_of, record_of}
use Rattle.nr_job_numbers.specs.Book.{without_ended}
use Rattle.nr_replica.specs.contracts.offer.Offer as of_offer
use Rattle.nr_replica.specs.Members.{cut_member}
use Rattle.nr_replica.specs.Replicas.{ReplicaState}
use Rattle.nr_node.specs.declared.reviving.ReviveError.{ReviveError}
use Rattle.nr_node.specs.declared.reviving.ReviveError.TheVariants.{NotDown, Behind, Busy}
use Rattle.nr_node.specs.Level.{NodeState, unpassed, jobs_reserved}
use Rattle.nr_node.specs.Advanced.{HasPassed, jobs_of_own, jobs_of_all}
use Rattle.nr_node.specs.Sound.{IsSound}

-- a copy of a node's server, and how its end of the log stood then
pub record OfferState : Type 0 where
  pub server : Server
  pub standing : Standing

abbrev pub coded_offer : Coded OfferState
coded_offer =
    code_by (Server × Standing) (coded× of_offer.the_row.coded of_standing.the_row.coded) (λ o. (o.server, o.standing))
    (λ p. record { server = p.0; standing = p.1 }) (λ _. refl)

-- its place: the server is the one after so many entries of the log
abbrev pub place_of : OfferState → ℕ
place_of offer = passed_of offer.standing

-- the server is the one after the record of its node, which is sound, and holds no entry that it hasn't passed
pub record IsOffered (offer : OfferState) : Type 0 where
  pub server : offer.server ≡ after_all fresh (record_of offer.standing.history)
  pub sound : IsSound offer.standing

-- whether a batch that was taken isn't answered
abbrev pub is_busy : List (Option ℕ) → Bool
is_busy owed = list_any is_some owed

-- why a node doesn't come back with an offer, whatever its end of the log finds: the first of these that holds
abbrev pub revive_refusal : NodeState → OfferState → Option ReviveError
revive_refusal n offer =
    cond (not n.replica.down) (Some NotDown)
    (cond (nat_lt (place_of offer) (passed_of n.seat.standing)) (Some Behind) (cond (is_busy n.replica.owed) (Some Busy) None))

-- the replica with the server of an offer: nothing more comes to wait for the connections that it has
abbrev pub revived_replica : OfferState → ReplicaState → ReplicaState
revived_replica offer r =
    record r { members = map cut_member r.members; applied = place_of offer; server = offer.server; down = false; fell = None }

-- The entries up to the offer's place were passed, and no further, and all that the node had reserved are among them. The accounts that ended went. It is up, with
-- the server of the offer. It has lifted nothing, owes no worker an answer, and no entry is to be refused.
pub record HasRevived (offer : OfferState) (n m : NodeState) : Type 0 where
  pub entries : List Entry
  pub passed : HasPassed entries n.seat.standing m.seat.standing
  pub seen : m.seat.standing.seen ≡ n.seat.standing.seen
  pub looks : (more : List Load) × (m.seat.looks ≡ n.seat.looks ++ more)
  pub place : passed_of m.seat.standing ≡ place_of offer
  pub own : jobs_reserved (unpassed n.seat.standing) ≡ jobs_of_own n.book.node entries
  pub none : unpassed m.seat.standing ≡ []
  pub replica : m.replica ≡ revived_replica offer n.replica
  pub book : m.book ≡ without_ended (jobs_of_all entries) n.book
  pub waiting : m.replica.waiting ≡ []
  pub refused : m.replica.refused ≡ false
  pub next : m.next ≡ []
  pub owed : (worker : ℕ) → slice_index_or m.replica.owed worker None ≡ None

-- The entries that were there were passed, up to the offer's place; those of the node's own among them are the first that it had reserved. Before that place one wasn't
-- filled, as the stamp of its cell said that was loaded last, or the last entry that the node has reserved lies there or behind.
pub record IsNotYet (offer : OfferState) (n m : NodeState) : Type 0 where
  pub entries : List Entry
  pub passed : HasPassed entries n.seat.standing m.seat.standing
  pub seen : m.seat.standing.seen ≡ n.seat.standing.seen
  pub own : jobs_reserved (unpassed n.seat.standing) ≡ jobs_of_own n.book.node entries ++ jobs_reserved (unpassed m.seat.standing)
  pub few : passed_of m.seat.standing ≤ place_of offer
  pub same : m ≡ record n { seat = m.seat; book = m.book }
  pub book : m.book ≡ without_ended (jobs_of_all entries) n.book
  pub why : ((passed_of m.seat.standing < place_of offer)
      × ((more : List Load) × (m.seat.looks ≡ n.seat.looks ++ (more ++ Unfilled (passed_of m.seat.standing) ∷ []))))
      ⊎ ((front : List (ℕ × Entry)) × ((last : ℕ × Entry) × (m.seat.standing.reservations ≡ front ++ last ∷ []) × (place_of offer ≤ last.0)))
