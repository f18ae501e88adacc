-- What is kept for a connection behind each change of the taps.
use Rattle.std.proofs.Common.{◌≡◌, ℕ, Bool, true, false, cond, Option, Some, None, List, [], ◌∷◌, ◌++◌, refl, ap, sym, ◌∙◌, subst, append_assoc, append-nil}
use Rattle.std.specs.Prelude.{◌&&◌}
use Rattle.std.specs.Option.{option_map}
use Rattle.std.specs.declared.cmp.Ordering.{Ordering}
use Rattle.std.specs.declared.cmp.Ordering.TheVariants.{Less, Equal, Greater}
use Rattle.std.specs.Ordering.{eq_by_cmp, nat_cmp, ordering_then, is_eq}
use Rattle.std.specs.Cmp.{IsTotalOrder, Equal-is, nat_cmp_total, unsigned_ties, eq_by_cmp_equiv}
use Rattle.std.specs.FinMap.{IsAntisymmetric}
use Rattle.std.proofs.lemmas.Cmp.{on_total, then_total}
use Rattle.std.proofs.lemmas.Map.Lookups.{exact_unsigned, exact_pairs}
use Rattle.nr_model.specs.Bytes.{Bytes}
use Rattle.nr_model.specs.Items.{Connection, connection_cmp, same_connection}
use Rattle.nr_model.specs.Connections.{Handed, handed_to}
use Rattle.nr_entry.specs.declared.conn.ConnId.{ConnId}
use Rattle.nr_entry.specs.Jobs.{connection_of}
use Rattle.nr_world_service.specs.Kept.{Taps, is_conn, kept_at, IsPut, AreKept}

-- connections in order
connection_total : IsTotalOrder connection_cmp
connection_total = then_total (on_total (λ (c : Connection). c.node) nat_cmp_total) (on_total (λ (c : Connection). c.serial) nat_cmp_total)

connection_exact : IsAntisymmetric connection_cmp
connection_exact a b h =
    ap (λ (p : ℕ × ℕ). let c : Connection = record { node = p.0; serial = p.1 } in c)
    (exact_pairs nat_cmp nat_cmp exact_unsigned exact_unsigned (a.node, a.serial) (b.node, b.serial) h)

then_equal : (r s : Ordering) → is_eq (ordering_then r s) ≡ (is_eq r && is_eq s)
then_equal Less s = refl
then_equal Equal s = refl
then_equal Greater s = refl

same_tied : (a b : Connection) → same_connection a b ≡ eq_by_cmp connection_cmp a b
same_tied a b =
    (λ i. unsigned_ties a.node b.node i && unsigned_ties a.serial b.serial i)
    ∙ sym (then_equal (nat_cmp a.node b.node) (nat_cmp a.serial b.serial))

pub same_conn : (c : Connection) (conn : ConnId) → same_connection c (connection_of conn) ≡ is_conn c conn
same_conn c conn = same_tied c (connection_of conn)

pub conn_same : (c : Connection) (conn : ConnId) → same_connection (connection_of conn) c ≡ is_conn c conn
conn_same c conn = same_tied (connection_of conn) c ∙ (eq_by_cmp_equiv connection_total).symm (connection_of conn) c

pub is_conn_itself : (conn : ConnId) → is_conn (connection_of conn) conn ≡ true
is_conn_itself conn = (eq_by_cmp_equiv connection_total).refl (connection_of conn)

pub is_the_conn : (c : Connection) (conn : ConnId) → is_conn c conn ≡ true → c ≡ connection_of conn
is_the_conn c conn here = connection_exact c (connection_of conn) ((Equal-is (connection_cmp c (connection_of conn))).0 here)

-- a change at one key of the map
pub put_by : (old new : Taps) (conn : ConnId) (w : Option Bytes)
    → ((q : ConnId) → kept_at (connection_of q) new ≡ cond (eq_by_cmp connection_cmp (connection_of conn) (connection_of q)) w (kept_at (connection_of q) old))
    → IsPut conn w old new
put_by old new conn w changes = record {
  at = λ c.
      changes (record { node = c.node; serial = c.serial })
      ∙ ap (λ b. cond b w (kept_at c old)) ((eq_by_cmp_equiv connection_total).symm (connection_of conn) c);
}

pub put_then : (old new : Taps) (conn : ConnId) (v w : Option Bytes) → IsPut conn v old new → v ≡ w → IsPut conn w old new
put_then old new conn v w put same = subst (λ (o : Option Bytes). IsPut conn o old new) same put

-- what was handed out, behind what was kept
abbrev pub added : Connection → List Handed → Option Bytes → Option Bytes
added c handed kept = option_map (λ (bytes : Bytes). bytes ++ handed_to c handed) kept

pub added_none : (o : Option Bytes) → option_map (λ (bytes : Bytes). bytes ++ []) o ≡ o
added_none None = refl
added_none (Some bytes) = ap (λ (b : Bytes). Some b) (append-nil bytes)

pub handed_both : (c : Connection) (xs ys : List Handed) → handed_to c (xs ++ ys) ≡ handed_to c xs ++ handed_to c ys
handed_both c [] ys = refl
handed_both c (x ∷ xs) ys =
    let more = handed_both c xs ys in
    elim (same_connection x.connection c) as
    (λ own. cond own (x.bytes ++ handed_to c (xs ++ ys)) (handed_to c (xs ++ ys)) ≡ cond own (x.bytes ++ handed_to c xs) (handed_to c xs) ++ handed_to c ys) [
      | true ↦ ap (λ (b : Bytes). x.bytes ++ b) more ∙ sym (append_assoc x.bytes (handed_to c xs) (handed_to c ys))
      | false ↦ more
    ]

added_both : (c : Connection) (xs ys : List Handed) (o : Option Bytes) → added c ys (added c xs o) ≡ added c (xs ++ ys) o
added_both c xs ys None = refl
added_both c xs ys (Some bytes) =
    ap (λ (b : Bytes). Some b) (append_assoc bytes (handed_to c xs) (handed_to c ys) ∙ ap (λ (b : Bytes). bytes ++ b) (sym (handed_both c xs ys)))

-- bytes of one connection
own_bytes : (c : Connection) (h : Handed) → same_connection h.connection c ≡ true → handed_to c (h ∷ []) ≡ h.bytes
own_bytes c h own = ap (λ (b : Bool). cond b (h.bytes ++ []) []) own ∙ append-nil h.bytes

other_bytes : (c : Connection) (h : Handed) → same_connection h.connection c ≡ false → handed_to c (h ∷ []) ≡ []
other_bytes c h other = ap (λ (b : Bool). cond b (h.bytes ++ []) []) other

-- a piece went behind the others of its connection
pub piece_kept : (old new : Taps) (conn : ConnId) (bytes found : Bytes) → Some found ≡ kept_at (connection_of conn) old
    → IsPut conn (Some (found ++ bytes)) old new → AreKept (record { connection = connection_of conn; bytes = bytes } ∷ []) old new
piece_kept old new conn bytes found was put =
    let h : Handed = record { connection = connection_of conn; bytes = bytes } in
    record {
      at = λ c. put.at c ∙ elim (is_conn c conn) as
          (λ b. is_conn c conn ≡ b → cond b (Some (found ++ bytes)) (kept_at c old) ≡ added c (h ∷ []) (kept_at c old)) [
            | true ↦ λ here.
                ap (λ (b : Bytes). Some (found ++ b)) (sym (own_bytes c h (conn_same c conn ∙ here)))
                ∙ ap (added c (h ∷ [])) (was ∙ ap (λ d. kept_at d old) (sym (is_the_conn c conn here)))
            | false ↦ λ apart.
                sym (added_none (kept_at c old))
                ∙ ap (λ (b : Bytes). option_map (λ (bytes : Bytes). bytes ++ b) (kept_at c old)) (sym (other_bytes c h (conn_same c conn ∙ apart)))
          ] refl;
    }

-- or was lost, where that has none
pub piece_lost : (old : Taps) (conn : ConnId) (bytes : Bytes) → None ≡ kept_at (connection_of conn) old
    → AreKept (record { connection = connection_of conn; bytes = bytes } ∷ []) old old
piece_lost old conn bytes none =
    let h : Handed = record { connection = connection_of conn; bytes = bytes } in
    record {
      at = λ c. elim (is_conn c conn) as (λ b. is_conn c conn ≡ b → kept_at c old ≡ added c (h ∷ []) (kept_at c old)) [
        | true ↦ λ here.
            let at = none ∙ ap (λ d. kept_at d old) (sym (is_the_conn c conn here)) in
            sym at ∙ ap (added c (h ∷ [])) at
        | false ↦ λ apart.
            sym (added_none (kept_at c old))
            ∙ ap (λ (b : Bytes). option_map (λ (bytes : Bytes). bytes ++ b) (kept_at c old)) (sym (other_bytes c h (conn_same c conn ∙ apart)))
      ] refl;
    }

-- piece by piece: what was put, and what is left to put, is all
pub record IsKeeping (all left : List Handed) (old now : Taps) : Type 0 where
  pub at : (c : Connection) → added c left (kept_at c now) ≡ added c all (kept_at c old)

pub keeping_none : (all : List Handed) (old : Taps) → IsKeeping all all old old
keeping_none all old = record { at = λ c. refl }

pub keeping_more : (all left : List Handed) (old now new : Taps) (h : Handed) → IsKeeping all (h ∷ left) old now → AreKept (h ∷ []) now new
    → IsKeeping all left old new
keeping_more all left old now new h so_far put = record {
  at = λ c. ap (added c left) (put.at c) ∙ added_both c (h ∷ []) left (kept_at c now) ∙ so_far.at c;
}

pub keeping_all : (all : List Handed) (old now : Taps) → IsKeeping all [] old now → AreKept all old now
keeping_all all old now whole = record { at = λ c. sym (added_none (kept_at c now)) ∙ whole.at c }
