-- A connection's queue: the bytes that wait for it, up to a limit (own).
use Rattle.std.specs.Prelude.{ℕ, ◌+◌, ◌^◌, Bool, true, not, ◌&&◌, nat_le, nat_lt, cond, List, [], ◌∷◌, ◌++◌, length, take, drop, slice_index_or, Option, Some, None, refl}
use Rattle.std.specs.Coded.{Coded, code_by, coded×, coded_ℕ, coded_bool}
use Rattle.nr_model.specs.Bytes.{Bytes}
use Rattle.nr_model.specs.Keyspace.{coded_bytes}
use Rattle.nr_model.specs.Items.{Connection}

-- the bytes that wait, how many were handed out before them, how many may wait, and whether it takes no more
pub record Queue : Type 0 where
  pub connection : Connection
  pub waiting : Bytes
  pub handed : ℕ
  pub limit : ℕ
  pub cut : Bool

abbrev pub coded_queue : Coded Queue
coded_queue =
    code_by ((ℕ × ℕ) × (List ℕ × (ℕ × (ℕ × Bool)))) (coded× (coded× coded_ℕ coded_ℕ) (coded× coded_bytes (coded× coded_ℕ (coded× coded_ℕ coded_bool))))
    (λ q. ((q.connection.node, q.connection.serial), (q.waiting, (q.handed, (q.limit, q.cut)))))
    (λ p. record { connection = record { node = p.0.0; serial = p.0.1 }; waiting = p.1.0; handed = p.1.1.0; limit = p.1.1.1.0; cut = p.1.1.1.1 }) (λ _. refl)

abbrev pub most_bytes : ℕ
most_bytes = 2 ^ 63

-- bytes may come behind those that wait: they are within the limit, and all that ever came are at most 2^63
abbrev pub takes : Queue → Bytes → Bool
takes q text = not q.cut && (nat_le (length q.waiting + length text) q.limit && nat_le (q.handed + (length q.waiting + length text)) most_bytes)

abbrev pub with_bytes : Queue → Bytes → Queue
with_bytes q text = record q { waiting = q.waiting ++ text }

abbrev pub cut_off : Queue → Queue
cut_off q = record q { cut = true }

-- that of a connection that was closed: nothing waits in it, and nothing comes
abbrev pub closed_queue : Connection → Queue
closed_queue c = record { connection = c; waiting = []; handed = 0; limit = 0; cut = true }

-- a reply or a message comes: it waits whole behind the others, or else the queue is cut
abbrev pub put : Queue → Bytes → Queue
put q text = cond (takes q text) (with_bytes q text) (cut_off q)

abbrev pub puts : Queue → List Bytes → Queue
puts q [] = q
puts q (text ∷ texts) = puts (put q text) texts

-- this one of them finds room behind those before it: the queue grows by it
abbrev pub grows : Queue → List Bytes → ℕ → Bool
grows q texts n = nat_lt n (length texts) && takes (puts q (take n texts)) (slice_index_or texts n [])

-- and where memory is refused for one of them, the queue is cut before it
abbrev pub received : Option ℕ → Queue → List Bytes → Queue
received None q texts = puts q texts
received (Some n) q texts = cond (nat_lt n (length texts)) (cut_off (puts q (take n texts))) (puts q texts)

-- without the first bytes, which were handed out
abbrev pub handing : ℕ → Queue → Queue
handing n q = record q { waiting = drop n q.waiting; handed = q.handed + length (take n q.waiting) }
