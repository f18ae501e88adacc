-- What a collect hands out, by the members of a replica.
use Rattle.std.specs.Prelude.{ℕ, ◌+◌, ◌&&◌, ◌==◌, cond, List, [], ◌∷◌, length}
use Rattle.nr_model.specs.Connections.{Handed, is_some_bytes}
use Rattle.nr_replica.specs.Members.{Member}

-- what waits for one was handed out
abbrev pub emptied : Member → Member
emptied member = record member { outbox = record member.outbox { waiting = []; handed = member.outbox.handed + length member.outbox.waiting } }

-- and what that is
abbrev pub waiting_of : Member → List Handed
waiting_of member = cond (is_some_bytes member.outbox.waiting) (record { connection = member.outbox.connection; bytes = member.outbox.waiting } ∷ []) []

-- of those that a worker serves
abbrev pub emptied_member : ℕ → Member → Member
emptied_member w member = cond (member.worker == w) (emptied member) member

abbrev pub collected_members : ℕ → List Member → List Handed
collected_members w [] = []
collected_members w (member ∷ members) =
    let more = collected_members w members in
    cond (member.worker == w && is_some_bytes member.outbox.waiting)
    (record { connection = member.outbox.connection; bytes = member.outbox.waiting } ∷ more) more
