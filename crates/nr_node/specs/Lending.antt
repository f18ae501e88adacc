-- A node's server, lent to be read from beside the node's lock.
use Rattle.std.specs.Prelude.{◌≡◌, ◌⊎◌, ◌≤◌, true, false, List, [], ◌∷◌, ◌++◌, refl}
use Rattle.std.specs.Coded.{Coded, code_by, coded×, coded_list}
use Rattle.nr_model.specs.Entries.{Jobs}
use Rattle.nr_model.specs.Servers.{fresh, after_all}
use Rattle.nr_log_end.specs.declared.standing.Standing.{Standing}
use Rattle.nr_log_end.specs.declared.standing.Load.TheVariants.{Tail}
use Rattle.nr_log_end.specs.contracts.standing.Standing as of_standing
use Rattle.nr_log_end.specs.Standings.{LooksOn, passed_of, record_of}
use Rattle.nr_replica.specs.Lent.{RepliesState, coded_replies, AreRepliesTo}
use Rattle.nr_node.specs.Level.{NodeState, unpassed}
use Rattle.nr_node.specs.Sound.{IsSound}

-- A loan was given, and keeps how the node stood: all entries below the tail that the call loaded were passed, and all that the node had reserved; no job waited, and none was to
-- be reserved.
pub record HasLent (loan : Standing) (n m : NodeState) : Type 0 where
  pub stood : loan ≡ m.seat.standing
  pub sound : IsSound loan
  pub up : n.replica.down ≡ false
  pub waiting : n.replica.waiting ≡ []
  pub next : n.next ≡ []
  pub loaded : m.seat.looks ≡ n.seat.looks ++ Tail m.seat.standing.seen ∷ []
  pub passed : m.seat.standing.seen ≤ passed_of m.seat.standing
  pub own : unpassed m.seat.standing ≡ []
  pub replica : m.replica ≡ record n.replica { lent = true }

-- The tail was loaded once, or not at all, and nothing else changed but whether the server may be lent.
pub record LooksAtTail (n m : NodeState) : Type 0 where
  pub standing : LooksOn n.seat.standing m.seat.standing
  pub looks : (m.seat.looks ≡ n.seat.looks) ⊎ (m.seat.looks ≡ n.seat.looks ++ Tail m.seat.standing.seen ∷ [])
  pub replica : m.replica ≡ record n.replica { lent = m.replica.lent }
  pub book : m.book ≡ n.book
  pub next : m.next ≡ n.next

-- replies that a node's server prepared, and how the node stood then
pub record PreparedState : Type 0 where
  pub replies : List RepliesState
  pub standing : Standing

abbrev pub coded_prepared : Coded PreparedState
coded_prepared =
    code_by (List RepliesState × Standing) (coded× (coded_list coded_replies) of_standing.the_row.coded) (λ p. (p.replies, p.standing))
    (λ p. record { replies = p.0; standing = p.1 }) (λ _. refl)

-- These jobs are reads, and what the server after the record replies to them is prepared; what the node had done is sound.
pub record AreReadyFor (jobs : Jobs) (p : PreparedState) : Type 0 where
  pub replies : AreRepliesTo (after_all fresh (record_of p.standing.history)) jobs p.replies
  pub sound : IsSound p.standing
