-- What an emission gives to the members of its node.
use Rattle.std.proofs.Common.{◌≡◌, ℕ, ◌+◌, ◌<◌, ◌≤◌, Bool, true, false, cond, inl, inr, List, [], ◌∷◌, ◌++◌, length, take, get_or, refl, ap, sym, ◌∙◌, subst, arith, append_assoc, add-one}
use Rattle.std.specs.Prelude.{Option, Some, None, ◌==◌}
use Rattle.std.proofs.lemmas.Bool.{cases_Bool}
use Rattle.std.proofs.lemmas.Bool.Decides.{nat_tests}
use Rattle.std.proofs.lemmas.List.{append-nil}
use Rattle.std.proofs.Math.Seq.{take-suc}
use Rattle.nr_blob.specs.declared.memory.Memory.{Memory}
use Rattle.nr_model.specs.Bytes.{Bytes}
use Rattle.nr_model.specs.Items.{Connection, same_connection}
use Rattle.nr_model.specs.Queues.{Queue, takes, with_bytes, cut_off, received}
use Rattle.nr_model.specs.Replies.{reply_text}
use Rattle.nr_model.specs.Nodes.Steps.{texts_for}
use Rattle.nr_model.specs.Sequential.{for_node}
use Rattle.nr_model.specs.Sequential.Events.{Emission}
use Rattle.nr_emission.specs.Emitted.{Written, written_after, all_after}
use Rattle.nr_replica.specs.declared.outbox.Put.{Put}
use Rattle.nr_replica.specs.declared.outbox.Put.TheVariants as outcomes
use Rattle.nr_replica.specs.Members.{Member, Queues, queue_at, members_of, AreNumbered, AreReceived, AreDelivered, AreGiven, texts_of}
use Rattle.nr_replica.proofs.Listed.{IsPut}
use Rattle.nr_replica.proofs.Reached.{unreached, reached_open, reached_closed, reached_elsewhere}
use Rattle.nr_replica.proofs.Received.{both_received, same_received, alike, one_text, of_another}

-- what became of a text is that it was received
abbrev pub WasPut : Put → Queue → Bytes → Queue → Type 0
WasPut result old text new =
    (result ≡ outcomes.In → (takes old text ≡ true) × (new ≡ with_bytes old text)) × (result ≡ outcomes.Full → (takes old text ≡ false) × (new ≡ cut_off old))
    × ((memory : Memory) → result ≡ outcomes.Memory memory → (takes old text ≡ true) × (new ≡ cut_off old))

pub put_received : (result : Put) (old new : Queue) (text : Bytes) → WasPut result old text new → (n : Option ℕ) × (new ≡ received n old (text ∷ []))
put_received outcomes.In old new text was =
    let taken = was.0 refl in (None, taken.1 ∙ sym (ap (λ b. cond b (with_bytes old text) (cut_off old)) taken.0))
put_received outcomes.Full old new text was =
    let full = was.1 refl in (None, full.1 ∙ sym (ap (λ b. cond b (with_bytes old text) (cut_off old)) full.0))
put_received (outcomes.Memory memory) old new text was = (Some 0, (was.2 memory refl).1)

-- a reply or a message to one of them that is open
pub given_open : (node : ℕ) (to : Connection) (text : Bytes) (workers : List ℕ) (old new : Queues) (at queue : Queue) → AreNumbered node 0 (members_of node workers old)
    → to.node ≡ node → Some at ≡ queue_at to.serial old → IsPut to.serial (Some queue) old new
    → ((refused : Option ℕ) × (queue ≡ received refused at (text ∷ [])))
    → AreGiven (record { connection = to; bytes = text } ∷ []) (members_of node workers old) (members_of node workers new)
given_open node to text workers old new at queue numbered own found put got =
    reached_open node to text workers old new at queue got.0 numbered own found put got.1

-- to one of them that was closed, and to none of them
pub given_closed : (node : ℕ) (to : Connection) (text : Bytes) (workers : List ℕ) (old new : Queues) → AreNumbered node 0 (members_of node workers old)
    → to.node ≡ node → None ≡ queue_at to.serial old → new ≡ old
    → AreGiven (record { connection = to; bytes = text } ∷ []) (members_of node workers old) (members_of node workers new)
given_closed node to text workers old new numbered own none same =
    subst (λ (queues : Queues). AreReceived (one_text to text) (members_of node workers old) (members_of node workers queues)) (sym same)
    (reached_closed node to text workers old numbered own none)

pub given_past : (node : ℕ) (to : Connection) (text : Bytes) (workers : List ℕ) (queues : Queues) → AreNumbered node 0 (members_of node workers queues)
    → length workers ≤ to.serial → AreGiven (record { connection = to; bytes = text } ∷ []) (members_of node workers queues) (members_of node workers queues)
given_past node to text workers queues numbered past = unreached node to text workers queues numbered past

pub given_elsewhere : (node : ℕ) (to : Connection) (text : Bytes) (workers : List ℕ) (queues : Queues) → AreNumbered node 0 (members_of node workers queues)
    → (to.node ≡ node → ⊥) → AreGiven (record { connection = to; bytes = text } ∷ []) (members_of node workers queues) (members_of node workers queues)
given_elsewhere node to text workers queues numbered other = reached_elsewhere node to text workers queues numbered other

-- one after the other
join_if : {A : Type 0} (b : Bool) (x : A) (xs ys : List A) → cond b (x ∷ (xs ++ ys)) (xs ++ ys) ≡ cond b (x ∷ xs) xs ++ ys
join_if true x xs ys = refl
join_if false x xs ys = refl

texts_of-append : (c : Connection) (ws vs : List Written) → texts_of c (ws ++ vs) ≡ texts_of c ws ++ texts_of c vs
texts_of-append c [] vs = refl
texts_of-append c (w ∷ ws) vs =
    let b = same_connection w.connection c in
    ap (λ (ts : List Bytes). cond b (w.bytes ∷ ts) ts) (texts_of-append c ws vs) ∙ join_if b w.bytes (texts_of c ws) (texts_of c vs)

pub texts_for-append : (c : Connection) (es fs : List Emission) → texts_for c (es ++ fs) ≡ texts_for c es ++ texts_for c fs
texts_for-append c [] fs = refl
texts_for-append c (e ∷ es) fs =
    let b = same_connection e.connection c in
    ap (λ (ts : List Bytes). cond b (reply_text e.reply ∷ ts) ts) (texts_for-append c es fs)
    ∙ join_if b (reply_text e.reply) (texts_for c es) (texts_for c fs)

pub given_more : (ws vs : List Written) (olds mids news : List Member) → AreGiven ws olds mids → AreGiven vs mids news → AreGiven (ws ++ vs) olds news
given_more ws vs olds mids news first second =
    alike (λ c. texts_of c ws ++ texts_of c vs) (λ c. texts_of c (ws ++ vs)) olds news (λ c. sym (texts_of-append c ws vs))
    (both_received (λ c. texts_of c ws) (λ c. texts_of c vs) olds mids news first second)

pub delivered_more : (es fs : List Emission) (olds mids news : List Member) → AreDelivered es olds mids → AreDelivered fs mids news
    → AreDelivered (es ++ fs) olds news
delivered_more es fs olds mids news first second =
    alike (λ c. texts_for c es ++ texts_for c fs) (λ c. texts_for c (es ++ fs)) olds news (λ c. sym (texts_for-append c es fs))
    (both_received (λ c. texts_for c es) (λ c. texts_for c fs) olds mids news first second)

-- all that is held back, one by one
pub given_next : (staging : List Written) (i : ℕ) (d one : Written) (olds mids news : List Member) → i < length staging → one ≡ get_or staging i d
    → AreGiven (take i staging) olds mids → AreGiven (one ∷ []) mids news → AreGiven (take (i + 1) staging) olds news
given_next staging i d one olds mids news within is first second =
    subst (λ (ws : List Written). AreGiven ws olds news)
    (ap (λ (w : Written). take i staging ++ w ∷ []) is ∙ sym (take-suc staging i d within) ∙ ap (λ (n : ℕ). take n staging) (sym (add-one i))) (given_more (take i staging) (one ∷ []) olds mids news first second)

-- The bytes of what was emitted for the node are the texts of its connections.
abbrev written : List Emission → List Written
written [] = []
written (e ∷ es) = record { connection = e.connection; bytes = reply_text e.reply } ∷ written es

written_all : (list : List Written) (es : List Emission) → all_after written_after list es ≡ list ++ written es
written_all list [] = sym (append-nil list)
written_all list (e ∷ es) =
    let one : Written = record { connection = e.connection; bytes = reply_text e.reply } in
    written_all (list ++ one ∷ []) es ∙ append_assoc list (one ∷ []) (written es)

texts_written : (c : Connection) (es : List Emission) → texts_of c (written es) ≡ texts_for c es
texts_written c [] = refl
texts_written c (e ∷ es) = ap (λ (ts : List Bytes). cond (same_connection e.connection c) (reply_text e.reply ∷ ts) ts) (texts_written c es)

elsewhere : (a b : ℕ) → (a == b) ≡ false → a ≡ b → ⊥
elsewhere a b h e = grind (arith, nat_tests)

texts_for_node : (node : ℕ) (c : Connection) (es : List Emission) → c.node ≡ node → texts_for c (for_node node es) ≡ texts_for c es
texts_for_node node c [] own = refl
texts_for_node node c (e ∷ es) own = elim (cases_Bool (e.connection.node == node)) [
  | inl h ↦ ap (λ b. texts_for c (cond b (e ∷ for_node node es) (for_node node es))) h
      ∙ ap (λ (ts : List Bytes). cond (same_connection e.connection c) (reply_text e.reply ∷ ts) ts) (texts_for_node node c es own)
  | inr h ↦ ap (λ b. texts_for c (cond b (e ∷ for_node node es) (for_node node es))) h ∙ texts_for_node node c es own
      ∙ ap (λ b. cond b (reply_text e.reply ∷ texts_for c es) (texts_for c es))
      (sym (of_another e.connection c (λ same. elsewhere e.connection.node node h (same ∙ own))))
]

pub given_delivered : (node : ℕ) (staging : List Written) (es : List Emission) (olds news : List Member) → AreNumbered node 0 olds
    → staging ≡ all_after written_after [] (for_node node es) → AreGiven staging olds news → AreDelivered es olds news
given_delivered node staging es olds news numbered is given =
    same_received node 0 (λ c. texts_of c staging) (λ c. texts_for c es) olds news numbered
    (λ c own. ap (texts_of c) (is ∙ written_all [] (for_node node es)) ∙ texts_written c (for_node node es) ∙ texts_for_node node c es own) given
