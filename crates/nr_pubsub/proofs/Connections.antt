-- The sets of connections that stand at a name.
use Rattle.std.proofs.Common.{◌≡◌, false, cond, not, List, refl, ap, sym, ◌∙◌, Bool}
use Rattle.std.specs.List.{list_any}
use Rattle.std.specs.List.Sorted.{IsStrictlySortedBy}
use Rattle.std.specs.Ordering.{eq_by_cmp}
use Rattle.nr_model.specs.Items.{Connection, connection_cmp}
use Rattle.nr_model.proofs.Subscribed.{connection_total, connection_exact}
use Rattle.nr_entry.specs.Jobs.{connection_of}
use Rattle.nr_entry.specs.declared.conn.ConnId.{ConnId}
use Rattle.nr_pubsub.specs.Standings.{connections, without}
use Rattle.nr_pubsub.proofs.Sets.{removed_is, has-seen}

-- a connection as the code names it
abbrev pub conn_of : Connection → ConnId
conn_of c = record { node = c.node; serial = c.serial }

-- whether a stored connection is this
abbrev pub is_conn : Connection → ConnId → Bool
is_conn c k = eq_by_cmp connection_cmp c (connection_of k)

pub left_is : (conn : ConnId) (old new : List ConnId) → IsStrictlySortedBy connection_cmp (connections old)
    → IsStrictlySortedBy connection_cmp (connections new)
    → ((q : ConnId) → list_any (is_conn (connection_of q)) new ≡ cond (is_conn (connection_of conn) q) false (list_any (is_conn (connection_of q)) old))
    → connections new ≡ without (connection_of conn) (connections old)
left_is conn old new rises too at =
    removed_is connection_cmp connection_total connection_exact (connection_of conn) (λ d. not (eq_by_cmp connection_cmp (connection_of conn) d)) (λ q. refl)
    (connections old) (connections new) rises too
    (λ q. has-seen connection_cmp connection_of q new ∙ at (conn_of q)
    ∙ ap (cond (eq_by_cmp connection_cmp (connection_of conn) q) false) (sym (has-seen connection_cmp connection_of q old)))
