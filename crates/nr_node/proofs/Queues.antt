-- What waits for a connection begins what was emitted for it behind what was handed out, and is all of that where its queue isn't cut.
use Rattle.std.proofs.Common.{◌≡◌, ℕ, zero, suc, ◌+◌, ◌<◌, ◌≤◌, true, false, cond, not, List, [], ◌∷◌, ◌++◌, length, take, drop, Option, None, Some, refl, ap, sym, ◌∙◌, subst, append_assoc, arith}
use Rattle.std.specs.Prelude.{nat_lt}
use Rattle.std.proofs.Math.Seq.{drop-append_seam}
use Rattle.std.proofs.lemmas.Bool.{and_parts, not-true, cond_both}
use Rattle.std.proofs.lemmas.List.{append-nil, drop-append-le, drop-drop, length-append, length-take-le, take-append-drop}
use Rattle.nr_model.specs.Bytes.{Bytes, IsBeginningOf}
use Rattle.nr_model.specs.Replies.{reply_text}
use Rattle.nr_model.specs.Items.{Connection, same_connection, Sequence}
use Rattle.nr_model.specs.Sequential.Events.{Emission}
use Rattle.nr_model.specs.Sequential.{bytes_for, emitted_for}
use Rattle.nr_model.specs.Servers.{fresh, after_all, emitted_all}
use Rattle.nr_model.specs.Queues.{Queue, takes, with_bytes, cut_off, closed_queue, put, puts, received, handing}
use Rattle.nr_model.specs.Nodes.Steps.{texts_for}
use Rattle.nr_model.proofs.Emitted.{emitted_for-more}
use Rattle.nr_model.proofs.NodesAccountsQueues.{texts_joined}
use Rattle.nr_replica.specs.Members.{Member, fresh_queue, AreNumbered, AreDelivered}
use Rattle.nr_node.specs.Level.{connection_at, queue_at, IsBehind, IsWhole}

-- both
abbrev Keeps : Queue → Bytes → Type 0
Keeps q emitted = IsBehind q emitted × IsWhole q emitted

-- more was emitted
pub behind_more : (q : Queue) (emitted more : Bytes) → IsBehind q emitted → IsBehind q (emitted ++ more)
behind_more q emitted more b =
    let long = length-append emitted more in
    let here = b.handed in
    record {
      handed = omega (arith, long, here);
      begins = (
        b.begins.0 ++ more,
        sym (append_assoc q.waiting b.begins.0 more) ∙ ap (λ (bs : Bytes). bs ++ more) b.begins.1 ∙ sym (drop-append-le q.handed emitted more b.handed),
      );
    }

-- the queue is cut
cut_keeps : (q : Queue) (emitted : Bytes) → IsBehind q emitted → Keeps (cut_off q) emitted
cut_keeps q emitted b = (record { handed = b.handed; begins = b.begins }, λ e. absurd (cc e))

-- all of it waits
all_keeps : (q : Queue) (emitted : Bytes) → q.handed ≤ length emitted → q.waiting ≡ drop q.handed emitted → Keeps q emitted
all_keeps q emitted handed e = (record { handed = handed; begins = ([], append-nil q.waiting ∙ e) }, λ uncut. e)

-- a text comes
put_keeps : (q : Queue) (emitted text : Bytes) → Keeps q emitted → Keeps (put q text) (emitted ++ text)
put_keeps q emitted text k =
    cond_both (takes q text) (with_bytes q text) (cut_off q) (λ (now : Queue). Keeps now (emitted ++ text))
    (λ fits.
    let uncut = not-true q.cut (and_parts (not q.cut) _ fits).0 in
    all_keeps (with_bytes q text) (emitted ++ text) (behind_more q emitted text k.0).handed
    (ap (λ (bs : Bytes). bs ++ text) (k.1 uncut) ∙ sym (drop-append-le q.handed emitted text k.0.handed)))
    (λ full. cut_keeps q (emitted ++ text) (behind_more q emitted text k.0))

-- texts come
puts_keep : (q : Queue) (emitted : Bytes) (texts : List Bytes) → Keeps q emitted → Keeps (puts q texts) (emitted ++ texts_joined texts)
puts_keep q emitted [] k = subst (Keeps q) (sym (append-nil emitted)) k
puts_keep q emitted (text ∷ texts) k =
    subst (Keeps (puts (put q text) texts)) (append_assoc emitted text (texts_joined texts))
    (puts_keep (put q text) (emitted ++ text) texts (put_keeps q emitted text k))

joined-append : (texts more : List Bytes) → texts_joined (texts ++ more) ≡ texts_joined texts ++ texts_joined more
joined-append [] more = refl
joined-append (text ∷ texts) more =
    ap (λ (bs : Bytes). text ++ bs) (joined-append texts more) ∙ sym (append_assoc text (texts_joined texts) (texts_joined more))

-- they come until memory is refused
pub behind_received : (q : Queue) (emitted : Bytes) (refused : Option ℕ) (texts : List Bytes) → IsBehind q emitted → IsWhole q emitted
    → IsBehind (received refused q texts) (emitted ++ texts_joined texts) × IsWhole (received refused q texts) (emitted ++ texts_joined texts)
behind_received q emitted None texts behind whole = puts_keep q emitted texts (behind, whole)
behind_received q emitted (Some n) texts behind whole =
    let front = texts_joined (take n texts) in
    let back = texts_joined (drop n texts) in
    let few_put = puts q (take n texts) in
    let all : (emitted ++ front) ++ back ≡ emitted ++ texts_joined texts =
    append_assoc emitted front back ∙ ap (λ (bs : Bytes). emitted ++ bs)
    (sym (joined-append (take n texts) (drop n texts)) ∙ ap texts_joined (take-append-drop n texts)) in
    let some = puts_keep q emitted (take n texts) (behind, whole) in
    cond_both (nat_lt n (length texts)) (cut_off few_put) (puts q texts) (λ (now : Queue). Keeps now (emitted ++ texts_joined texts))
    (λ few. subst (Keeps (cut_off few_put)) all (cut_keeps few_put ((emitted ++ front) ++ back) (behind_more few_put (emitted ++ front) back some.0)))
    (λ many. puts_keep q emitted texts (behind, whole))

-- the bytes for a connection are its texts
bytes_are : (c : Connection) (es : List Emission) → texts_joined (texts_for c es) ≡ bytes_for c es
bytes_are c [] = refl
bytes_are c (e ∷ es) =
    let text = reply_text e.reply in
    let ih = bytes_are c es in
    elim (same_connection e.connection c) as
    (λ own. texts_joined (cond own (text ∷ texts_for c es) (texts_for c es)) ≡ cond own (text ++ bytes_for c es) (bytes_for c es)) [
      | true ↦ ap (λ (bs : Bytes). text ++ bs) ih
      | false ↦ ih
    ]

-- what more items emit comes
pub behind_emitted : (q : Queue) (items more : Sequence) (refused : Option ℕ) → IsBehind q (emitted_for q.connection items) → IsWhole q (emitted_for q.connection items)
    → IsBehind (received refused q (texts_for q.connection (emitted_all (after_all fresh items) more))) (emitted_for q.connection (items ++ more))
    × IsWhole (received refused q (texts_for q.connection (emitted_all (after_all fresh items) more))) (emitted_for q.connection (items ++ more))
behind_emitted q items more refused behind whole =
    let c = q.connection in
    let es = emitted_all (after_all fresh items) more in
    let all : emitted_for c items ++ texts_joined (texts_for c es) ≡ emitted_for c (items ++ more) =
    ap (λ (bs : Bytes). emitted_for c items ++ bs) (bytes_are c es) ∙ sym (emitted_for-more c items more) in
    subst (Keeps (received refused q (texts_for c es))) all (behind_received q (emitted_for c items) refused (texts_for c es) behind whole)

-- a beginning without its front
front_out : (n : ℕ) (waiting rest : Bytes) → drop (length (take n waiting)) (waiting ++ rest) ≡ drop n waiting ++ rest
front_out n waiting rest =
    ap (λ (bs : Bytes). drop (length (take n waiting)) (bs ++ rest)) (sym (take-append-drop n waiting))
    ∙ ap (drop (length (take n waiting))) (append_assoc (take n waiting) (drop n waiting) rest)
    ∙ drop-append_seam (take n waiting) (drop n waiting ++ rest)

-- bytes are handed out
handed_out : (n : ℕ) (q : Queue) (emitted rest : Bytes) → q.waiting ++ rest ≡ drop q.handed emitted
    → drop n q.waiting ++ rest ≡ drop (handing n q).handed emitted
handed_out n q emitted rest e =
    sym (front_out n q.waiting rest) ∙ ap (drop (length (take n q.waiting))) e ∙ drop-drop (length (take n q.waiting)) q.handed emitted

-- so many are there
within : (n handed : ℕ) (waiting rest emitted : Bytes) → handed ≤ length emitted → waiting ++ rest ≡ drop handed emitted
    → handed + length (take n waiting) ≤ length emitted
within n handed waiting rest emitted there e =
    let parts = ap length (take-append-drop n waiting) in
    let cut = length-append (take n waiting) (drop n waiting) in
    let long = length-append waiting rest in
    let same = ap length e in
    let whole = ap length (take-append-drop handed emitted) in
    let both = length-append (take handed emitted) (drop handed emitted) in
    let front = length-take-le handed emitted there in
    omega (arith, parts, cut, long, same, whole, both, front, there)

pub behind_handing : (n : ℕ) (q : Queue) (emitted : Bytes) → IsBehind q emitted → IsBehind (handing n q) emitted
behind_handing n q emitted b = record {
  handed = within n q.handed q.waiting b.begins.0 emitted b.handed b.begins.1;
  begins = (b.begins.0, handed_out n q emitted b.begins.0 b.begins.1);
}

pub whole_handing : (n : ℕ) (q : Queue) (emitted : Bytes) → IsBehind q emitted → IsWhole q emitted → IsWhole (handing n q) emitted
whole_handing n q emitted behind whole uncut =
    sym (append-nil (drop n q.waiting)) ∙ handed_out n q emitted [] (append-nil q.waiting ∙ whole uncut)

-- a queue in which nothing waits, nor was handed out
pub behind_closed : (c : Connection) (emitted : Bytes) → IsBehind (closed_queue c) emitted × IsWhole (closed_queue c) emitted
behind_closed c emitted = (record { handed = omega arith; begins = (drop 0 emitted, refl) }, λ e. absurd (cc e))

pub behind_fresh : (c : Connection) (limit : ℕ) → IsBehind (fresh_queue c limit) [] × IsWhole (fresh_queue c limit) []
behind_fresh c limit = (record { handed = omega arith; begins = ([], refl) }, λ uncut. refl)

-- what was emitted comes to each of the node's connections
pub delivered_length : (es : List Emission) (olds news : List Member) → AreDelivered es olds news → length news ≡ length olds
delivered_length es [] [] d = refl
delivered_length es [] (new ∷ news) d = absurd d
delivered_length es (old ∷ olds) [] d = absurd d
delivered_length es (old ∷ olds) (new ∷ news) d = ap suc (delivered_length es olds news d.1)

pub delivered_at : (es : List Emission) (olds news : List Member) → AreDelivered es olds news → (serial : ℕ) → serial < length olds
    → (refused : Option ℕ) × (queue_at serial news ≡ received refused (queue_at serial olds) (texts_for (queue_at serial olds).connection es))
delivered_at es [] [] d serial there = absurd (omega (arith, there))
delivered_at es [] (new ∷ news) d serial there = absurd d
delivered_at es (old ∷ olds) [] d serial there = absurd d
delivered_at es (old ∷ olds) (new ∷ news) d zero there = (d.0.0, ap (λ (m : Member). m.outbox) d.0.1)
delivered_at es (old ∷ olds) (new ∷ news) d (suc serial) there = delivered_at es olds news d.1 serial (omega (arith, there))

-- each is under its serial
numbered_from : (node n : ℕ) (members : List Member) → AreNumbered node n members → (serial : ℕ) → serial < length members
    → (queue_at serial members).connection ≡ connection_at node (n + serial)
numbered_from node n [] are serial there = absurd (omega (arith, there))
numbered_from node n (member ∷ members) are zero there =
    let same : n ≡ n + 0 = omega arith in
    are.0 ∙ ap (connection_at node) same
numbered_from node n (member ∷ members) are (suc serial) there =
    let same : suc n + serial ≡ n + suc serial = omega arith in
    numbered_from node (suc n) members are.1 serial (omega (arith, there)) ∙ ap (connection_at node) same

pub connection_of_queue : (node : ℕ) (members : List Member) → AreNumbered node 0 members → (serial : ℕ) → serial < length members
    → (queue_at serial members).connection ≡ connection_at node serial
connection_of_queue node members are serial there =
    let same : 0 + serial ≡ serial = omega arith in
    numbered_from node 0 members are serial there ∙ ap (connection_at node) same

-- what is handed out next
pub piece_behind : (q : Queue) (emitted : Bytes) (n : ℕ) → IsBehind q emitted → IsBeginningOf (take n q.waiting) (drop q.handed emitted)
piece_behind q emitted n b = (
  drop n q.waiting ++ b.begins.0,
  sym (append_assoc (take n q.waiting) (drop n q.waiting) b.begins.0) ∙ ap (λ (bs : Bytes). bs ++ b.begins.0) (take-append-drop n q.waiting) ∙ b.begins.1,
)
