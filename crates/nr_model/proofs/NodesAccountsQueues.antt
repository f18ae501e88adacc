-- What a connection's queue received: what was handed out and what waits begins what was emitted for it, and is all of it where the queue isn't cut.
use Rattle.std.proofs.Common.{◌≡◌, ℕ, ◌+◌, true, false, not, cond, List, [], ◌∷◌, ◌++◌, length, take, drop, refl, ap, sym, ◌∙◌, subst, append_assoc}
use Rattle.std.specs.Prelude.{◌==◌, nat_lt, Option, Some, None}
use Rattle.std.proofs.lemmas.Bool.{and_parts, not-true, cond_both}
use Rattle.std.proofs.lemmas.List.{append-nil, take-append-drop}
use Rattle.nr_model.specs.Bytes.{Bytes, IsBeginningOf}
use Rattle.nr_model.specs.Replies.{reply_text}
use Rattle.nr_model.specs.Items.{Connection, same_connection}
use Rattle.nr_model.specs.Sequential.Events.{Emission}
use Rattle.nr_model.specs.Sequential.{bytes_for}
use Rattle.nr_model.specs.Queues.{Queue, takes, with_bytes, cut_off, put, puts, received}
use Rattle.nr_model.specs.Nodes.{Client}
use Rattle.nr_model.specs.Nodes.Steps.{Cut, cut_of, texts_for, delivered_to, emptied, closed_client}

-- what was given begins with what waits what was emitted
pub record IsBegun (given : Bytes) (q : Queue) (emitted : Bytes) : Type 0 where
  pub begins : IsBeginningOf (given ++ q.waiting) emitted

-- it is all where the queue isn't cut
pub record IsReceived (given : Bytes) (q : Queue) (emitted : Bytes) : Type 0 where
  pub begun : IsBegun given q emitted
  pub whole : q.cut ≡ false → given ++ q.waiting ≡ emitted

-- a beginning of more
pub begun_more : (given : Bytes) (q : Queue) (emitted more : Bytes) → IsBegun given q emitted → IsBegun given q (emitted ++ more)
begun_more given q emitted more b = record {
  begins = (b.begins.0 ++ more, sym (append_assoc (given ++ q.waiting) b.begins.0 more) ∙ ap (λ (bs : Bytes). bs ++ more) b.begins.1);
}

-- one that is cut
pub cut_received : (given : Bytes) (q : Queue) (emitted : Bytes) → IsBegun given q emitted → IsReceived given (cut_off q) emitted
cut_received given q emitted b = record {
  begun = record { begins = b.begins };
  whole = λ e. absurd (cc e);
}

-- all of it
pub all_begun : (given : Bytes) (q : Queue) (emitted : Bytes) → given ++ q.waiting ≡ emitted → IsReceived given q emitted
all_begun given q emitted e = record {
  begun = record { begins = ([], append-nil (given ++ q.waiting) ∙ e) };
  whole = λ uncut. e;
}

-- a text comes
put_received : (given : Bytes) (q : Queue) (emitted text : Bytes) → IsReceived given q emitted → IsReceived given (put q text) (emitted ++ text)
put_received given q emitted text r =
    cond_both (takes q text) (with_bytes q text) (cut_off q) (λ (now : Queue). IsReceived given now (emitted ++ text))
    (λ fits.
    let uncut = not-true q.cut (and_parts (not q.cut) _ fits).0 in
    all_begun given (with_bytes q text) (emitted ++ text)
    (sym (append_assoc given q.waiting text) ∙ ap (λ (bs : Bytes). bs ++ text) (r.whole uncut)))
    (λ full. cut_received given q (emitted ++ text) (begun_more given q emitted text r.begun))

-- texts behind one another
abbrev pub texts_joined : List Bytes → Bytes
texts_joined [] = []
texts_joined (text ∷ texts) = text ++ texts_joined texts

texts_joined-append : (texts more : List Bytes) → texts_joined (texts ++ more) ≡ texts_joined texts ++ texts_joined more
texts_joined-append [] more = refl
texts_joined-append (text ∷ texts) more =
    ap (λ (bs : Bytes). text ++ bs) (texts_joined-append texts more) ∙ sym (append_assoc text (texts_joined texts) (texts_joined more))

-- texts come
puts_received : (given : Bytes) (q : Queue) (emitted : Bytes) (texts : List Bytes) → IsReceived given q emitted
    → IsReceived given (puts q texts) (emitted ++ texts_joined texts)
puts_received given q emitted [] r = subst (IsReceived given q) (sym (append-nil emitted)) r
puts_received given q emitted (text ∷ texts) r =
    subst (IsReceived given (puts (put q text) texts)) (append_assoc emitted text (texts_joined texts))
    (puts_received given (put q text) (emitted ++ text) texts (put_received given q emitted text r))

-- they come until memory is refused
received_texts : (given : Bytes) (q : Queue) (emitted : Bytes) (refused : Option ℕ) (texts : List Bytes) → IsReceived given q emitted
    → IsReceived given (received refused q texts) (emitted ++ texts_joined texts)
received_texts given q emitted None texts r = puts_received given q emitted texts r
received_texts given q emitted (Some n) texts r =
    let front = texts_joined (take n texts) in
    let back = texts_joined (drop n texts) in
    let all : (emitted ++ front) ++ back ≡ emitted ++ texts_joined texts =
    append_assoc emitted front back ∙ ap (λ (bs : Bytes). emitted ++ bs)
    (sym (texts_joined-append (take n texts) (drop n texts)) ∙ ap texts_joined (take-append-drop n texts)) in
    let some = puts_received given q emitted (take n texts) r in
    cond_both (nat_lt n (length texts)) (cut_off (puts q (take n texts))) (puts q texts)
    (λ (now : Queue). IsReceived given now (emitted ++ texts_joined texts))
    (λ few. subst (IsReceived given (cut_off (puts q (take n texts)))) all
    (cut_received given (puts q (take n texts)) ((emitted ++ front) ++ back) (begun_more given (puts q (take n texts)) (emitted ++ front) back some.begun)))
    (λ many. puts_received given q emitted texts r)

-- the bytes for a connection are its texts
bytes_are : (c : Connection) (es : List Emission) → texts_joined (texts_for c es) ≡ bytes_for c es
bytes_are c [] = refl
bytes_are c (e ∷ es) =
    let text = reply_text e.reply in
    let ih = bytes_are c es in
    elim (same_connection e.connection c) as
    (λ own. texts_joined (cond own (text ∷ texts_for c es) (texts_for c es)) ≡ cond own (text ++ bytes_for c es) (bytes_for c es)) [
      | true ↦ ap (λ (bs : Bytes). text ++ bs) ih
      | false ↦ ih
    ]

-- what is emitted comes to a client
pub delivered_received : (given emitted : Bytes) (cuts : List Cut) (entry : ℕ) (es : List Emission) (client : Client) (c : Connection)
    → client.queue.connection ≡ c → IsReceived given client.queue emitted
    → IsReceived given (delivered_to cuts entry es client).queue (emitted ++ bytes_for c es)
delivered_received given emitted cuts entry es client c is r =
    let own = client.queue.connection in
    let now = (delivered_to cuts entry es client).queue in
    subst (λ (d : Connection). IsReceived given now (emitted ++ bytes_for d es)) is
    (subst (λ (bs : Bytes). IsReceived given now (emitted ++ bs)) (bytes_are own es)
    (received_texts given client.queue emitted (cut_of cuts entry own) (texts_for own es) r))

-- a queue stays its connection's
puts_connection : (q : Queue) (texts : List Bytes) → (puts q texts).connection ≡ q.connection
puts_connection q [] = refl
puts_connection q (text ∷ texts) =
    puts_connection (put q text) texts
    ∙ cond_both (takes q text) (with_bytes q text) (cut_off q) (λ (now : Queue). now.connection ≡ q.connection) (λ fits. refl) (λ full. refl)

received_connection : (refused : Option ℕ) (q : Queue) (texts : List Bytes) → (received refused q texts).connection ≡ q.connection
received_connection None q texts = puts_connection q texts
received_connection (Some n) q texts =
    cond_both (nat_lt n (length texts)) (cut_off (puts q (take n texts))) (puts q texts) (λ (now : Queue). now.connection ≡ q.connection)
    (λ few. puts_connection q (take n texts)) (λ many. puts_connection q texts)

pub delivered_connection : (cuts : List Cut) (entry : ℕ) (es : List Emission) (client : Client)
    → (delivered_to cuts entry es client).queue.connection ≡ client.queue.connection
delivered_connection cuts entry es client =
    received_connection (cut_of cuts entry client.queue.connection) client.queue (texts_for client.queue.connection es)

-- what a collect takes from a client
abbrev pub taken_from : ℕ → Client → Bytes
taken_from w client = cond (client.worker == w) client.queue.waiting []

emptied_begun : (given emitted : Bytes) (q : Queue) → IsBegun given q emitted
    → IsBegun (given ++ q.waiting) (record q { waiting = []; handed = q.handed + length q.waiting }) emitted
emptied_begun given emitted q b = record {
  begins = (b.begins.0, ap (λ (bs : Bytes). bs ++ b.begins.0) (append-nil (given ++ q.waiting)) ∙ b.begins.1);
}

same_begun : (given emitted : Bytes) (q : Queue) → IsBegun given q emitted → IsBegun (given ++ []) q emitted
same_begun given emitted q b = subst (λ (bs : Bytes). IsBegun bs q emitted) (sym (append-nil given)) b

pub emptied_is_begun : (given emitted : Bytes) (w : ℕ) (client : Client) → IsBegun given client.queue emitted
    → IsBegun (given ++ taken_from w client) (emptied w client).queue emitted
emptied_is_begun given emitted w client b =
    let q = client.queue in
    elim (client.worker == w) as (λ own. IsBegun (given ++ cond own q.waiting [])
    (cond own (record client { queue = record q { waiting = []; handed = q.handed + length q.waiting } }) client).queue emitted) [
      | true ↦ emptied_begun given emitted q b
      | false ↦ same_begun given emitted q b
    ]

pub emptied_received : (given emitted : Bytes) (w : ℕ) (client : Client) → IsReceived given client.queue emitted
    → IsReceived (given ++ taken_from w client) (emptied w client).queue emitted
emptied_received given emitted w client r =
    let q = client.queue in
    elim (client.worker == w) as (λ own. IsReceived (given ++ cond own q.waiting [])
    (cond own (record client { queue = record q { waiting = []; handed = q.handed + length q.waiting } }) client).queue emitted) [
      | true ↦ record { begun = emptied_begun given emitted q r.begun; whole = λ uncut. append-nil (given ++ q.waiting) ∙ r.whole uncut }
      | false ↦ subst (λ (bs : Bytes). IsReceived bs q emitted) (sym (append-nil given)) r
    ]

-- a close drops what waits
pub closed_received : (given emitted : Bytes) (client : Client) → IsReceived given client.queue emitted
    → IsReceived given (closed_client client).queue emitted
closed_received given emitted client r =
    let q = client.queue in
    let b = r.begun.begins in
    record {
      begun = record {
        begins = (
          q.waiting ++ b.0,
          ap (λ (bs : Bytes). bs ++ (q.waiting ++ b.0)) (append-nil given) ∙ sym (append_assoc given q.waiting b.0) ∙ b.1,
        );
      };
      whole = λ e. absurd (cc e);
    }
