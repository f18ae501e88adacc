-- What an entry emitted was delivered: the queues that want of memory cut, as cuts.
use Rattle.std.proofs.Common.{◌≡◌, ℕ, zero, suc, ◌-◌, ◌<◌, ◌≤◌, Bool, true, false, cond, inl, inr, List, [], ◌∷◌, length, get_or, refl, ap, sym, ◌∙◌, subst, arith, Option, Some, None, ne_eqb, eq-eqb}
use Rattle.std.specs.Prelude.{map, take, nat_lt, All, ◌&&◌, ◌==◌}
use Rattle.std.proofs.lemmas.Bool.{cases_Bool, ltb-true}
use Rattle.std.proofs.lemmas.List.Elements.{All-nil, All-cons}
use Rattle.nr_model.specs.Bytes.{Bytes}
use Rattle.nr_model.specs.Items.{Connection, same_connection}
use Rattle.nr_model.specs.Sequential.Events.{Emission}
use Rattle.nr_model.specs.Queues.{Queue, takes, with_bytes, cut_off, put, puts, grows, received}
use Rattle.nr_model.specs.Nodes.{Client, Node, fresh_client}
use Rattle.nr_model.specs.Nodes.Steps.{Cut, cut_of, texts_for, delivered_to}
use Rattle.nr_session.specs.SessionState.{SessionState}
use Rattle.nr_replica.specs.Members.{Member, AreNumbered, AreDelivered}
use Rattle.nr_world.specs.Served.{client_seen, clients_seen}
use Rattle.nr_world.specs.Advanced.{IsGrown}

-- a queue that is cut takes nothing more
stays_cut : (q : Queue) (texts : List Bytes) → puts (cut_off q) texts ≡ cut_off q
stays_cut q [] = refl
stays_cut q (text ∷ texts) = stays_cut q texts

-- and one that finds no room for a text is cut there
stops_at : (n : ℕ) (q : Queue) (texts : List Bytes) → n < length texts → takes (puts q (take n texts)) (get_or texts n []) ≡ false
    → cut_off (puts q (take n texts)) ≡ puts q texts
stops_at n q [] h e = absurd (omega (arith, h))
stops_at zero q (text ∷ texts) h e = sym (stays_cut q texts) ∙ ap (λ (b : Bool). puts (cond b (with_bytes q text) (cut_off q)) texts) (sym e)
stops_at (suc n) q (text ∷ texts) h e = stops_at n (put q text) texts (omega (arith, h)) e

-- so the growth of a queue is refused only where it would grow
refused_grows : (n : ℕ) (q : Queue) (texts : List Bytes) → grows q texts n ≡ false → received (Some n) q texts ≡ received None q texts
refused_grows n q texts e =
    elim (cases_Bool (nat_lt n (length texts))) [
      | inl below ↦
          let stops : takes (puts q (take n texts)) (get_or texts n []) ≡ false =
          ap (λ (b : Bool). b && takes (puts q (take n texts)) (get_or texts n [])) (sym below) ∙ e in
          ap (λ (b : Bool). cond b (cut_off (puts q (take n texts))) (puts q texts)) below ∙ stops_at n q texts (ltb-true n (length texts) below) stops
      | inr past ↦ ap (λ (b : Bool). cond b (cut_off (puts q (take n texts))) (puts q texts)) past
    ]

-- a cut of this entry, of a connection of this number or a later one: the first of these clients has this number
pub record IsFrom (es : List Emission) (entry node n : ℕ) (clients : List Client) (cut : Cut) : Type 0 where
  pub from : n ≤ cut.connection.serial
  pub of_entry : cut.entry ≡ entry
  pub own : cut.connection.node ≡ node
  pub there : cut.connection.serial - n < length clients
  pub growing : grows (get_or clients (cut.connection.serial - n) (fresh_client 0 0 (record { node = 0; serial = 0 }))).queue
      (texts_for cut.connection es) cut.after ≡ true

abbrev pub AreFrom : List Emission → ℕ → ℕ → ℕ → List Client → List Cut → Type 0
AreFrom es entry node n clients [] = Unit {0}
AreFrom es entry node n clients (cut ∷ cuts) = IsFrom es entry node n clients cut × AreFrom es entry node n clients cuts

earlier : (es : List Emission) (entry node n : ℕ) (client : Client) (clients : List Client) (cuts : List Cut) → AreFrom es entry node (suc n) clients cuts
    → AreFrom es entry node n (client ∷ clients) cuts
earlier es entry node n client clients [] h = tt
earlier es entry node n client clients (cut ∷ cuts) h =
    let from = h.0.from in
    let there = h.0.there in
    let further : suc (cut.connection.serial - suc n) ≡ cut.connection.serial - n = omega (arith, from) in (
      record {
        from = omega (arith, from);
        of_entry = h.0.of_entry;
        own = h.0.own;
        there = omega (arith, from, there);
        growing = subst (λ (k : ℕ). grows (get_or (client ∷ clients) k (fresh_client 0 0 (record { node = 0; serial = 0 }))).queue
            (texts_for cut.connection es) cut.after ≡ true) further h.0.growing;
      },
      earlier es entry node n client clients cuts h.1,
    )

other : (a b : Connection) → (a.serial ≡ b.serial → ⊥) → same_connection a b ≡ false
other a b h = elim (a.node == b.node) as (λ v. (v && a.serial == b.serial) ≡ false) [ true ↦ ne_eqb a.serial b.serial h | false ↦ refl ]

same : (c : Connection) → same_connection c c ≡ true
same c = (λ i. eq-eqb c.node c.node refl i && eq-eqb c.serial c.serial refl i)

cut_none : (es : List Emission) (entry node n : ℕ) (clients : List Client) (cuts : List Cut) → AreFrom es entry node (suc n) clients cuts
    → cut_of cuts entry (record { node = node; serial = n }) ≡ None
cut_none es entry node n clients [] h = refl
cut_none es entry node n clients (cut ∷ cuts) h =
    let from = h.0.from in
    ap (λ (b : Bool). cond (b && cut.entry == entry) (Some cut.after) (cut_of cuts entry (record { node = node; serial = n })))
    (other cut.connection (record { node = node; serial = n }) (λ e. omega (arith, from, e)))
    ∙ cut_none es entry node n clients cuts h.1

-- a cut of an earlier connection changes nothing
skipped : (entry node n : ℕ) (cut : Cut) (cuts : List Cut) (es : List Emission) (sessions : List SessionState) (olds : List Member) → cut.connection.serial < n → AreNumbered node n olds
    → map (delivered_to (cut ∷ cuts) entry es) (clients_seen sessions olds) ≡ map (delivered_to cuts entry es) (clients_seen sessions olds)
skipped entry node n cut cuts es [] olds h k = refl
skipped entry node n cut cuts es (s ∷ sessions) [] h k = refl
skipped entry node n cut cuts es (s ∷ sessions) (old ∷ olds) h k =
    let serial : old.outbox.connection.serial ≡ n = ap (λ (c : Connection). c.serial) k.0 in
    let head : delivered_to (cut ∷ cuts) entry es (client_seen s old) ≡ delivered_to cuts entry es (client_seen s old) =
    ap (λ (b : Bool). record (client_seen s old) { queue = received (cond (b && cut.entry == entry) (Some cut.after) (cut_of cuts entry old.outbox.connection)) old.outbox (texts_for old.outbox.connection es) })
    (other cut.connection old.outbox.connection (λ e. omega (arith, e, h, serial))) in
    let more = skipped entry node (suc n) cut cuts es sessions olds (omega arith) k.1 in
    λ i. head i ∷ more i

-- what holds of each
pub each_from : (P : Cut → Type 0) (es : List Emission) (entry node n : ℕ) (clients : List Client) (cuts : List Cut)
    → ((cut : Cut) → IsFrom es entry node n clients cut → P cut) → AreFrom es entry node n clients cuts → All P cuts
each_from P es entry node n clients [] f h = All-nil P
each_from P es entry node n clients (cut ∷ cuts) f h = All-cons P cut cuts (f cut h.0) (each_from P es entry node n clients cuts f h.1)

pub grown_from : (es : List Emission) (entry n : ℕ) (node : Node) (cut : Cut) → IsFrom es entry n 0 node.clients cut → IsGrown es n node cut
grown_from es entry n node cut h =
    let there = h.there in
    let same : cut.connection.serial - 0 ≡ cut.connection.serial = omega arith in
    record {
      own = h.own;
      there = omega (arith, there);
      growing = subst (λ (k : ℕ). grows (get_or node.clients k (fresh_client 0 0 (record { node = 0; serial = 0 }))).queue
          (texts_for cut.connection es) cut.after ≡ true) same h.growing;
    }

pub record HasCuts (es : List Emission) (entry node n : ℕ) (sessions : List SessionState) (olds news : List Member) : Type 0 where
  pub cuts : List Cut
  pub from : AreFrom es entry node n (clients_seen sessions olds) cuts
  pub clients : clients_seen sessions news ≡ map (delivered_to cuts entry es) (clients_seen sessions olds)

-- a connection whose queue got all that it takes, one whose growth was refused, and either
module _ (es : List Emission) (entry node n : ℕ) (s : SessionState) (sessions : List SessionState) (old : Member) (olds : List Member) (new : Member)
    (news : List Member) (k : AreNumbered node n (old ∷ olds)) (more : HasCuts es entry node (suc n) sessions olds news) where
  one_whole : new ≡ record old { outbox = received None old.outbox (texts_for old.outbox.connection es) }
      → HasCuts es entry node n (s ∷ sessions) (old ∷ olds) (new ∷ news)
  one_whole e =
      let here : cut_of more.cuts entry old.outbox.connection ≡ None =
      ap (cut_of more.cuts entry) k.0 ∙ cut_none es entry node n (clients_seen sessions olds) more.cuts more.from in
      let first : client_seen s new ≡ delivered_to more.cuts entry es (client_seen s old) =
      ap (client_seen s) e
      ∙ ap (λ (r : Option ℕ). record (client_seen s old) { queue = received r old.outbox (texts_for old.outbox.connection es) }) (sym here) in
      let behind = more.clients in
      record {
        cuts = more.cuts;
        from = earlier es entry node n (client_seen s old) (clients_seen sessions olds) more.cuts more.from;
        clients = λ i. first i ∷ behind i;
      }

  one_cut : (after : ℕ) → new ≡ record old { outbox = received (Some after) old.outbox (texts_for old.outbox.connection es) }
      → grows old.outbox (texts_for old.outbox.connection es) after ≡ true → HasCuts es entry node n (s ∷ sessions) (old ∷ olds) (new ∷ news)
  one_cut after e growing =
      let cut : Cut = record { connection = old.outbox.connection; entry = entry; after = after } in
      let serial : old.outbox.connection.serial ≡ n = ap (λ (c : Connection). c.serial) k.0 in
      let none : 0 ≡ old.outbox.connection.serial - n = omega (arith, serial) in
      let here : cut_of (cut ∷ more.cuts) entry old.outbox.connection ≡ Some after =
      (λ i. cond (same old.outbox.connection i && eq-eqb entry entry refl i) (Some after) (cut_of more.cuts entry old.outbox.connection)) in
      let first : client_seen s new ≡ delivered_to (cut ∷ more.cuts) entry es (client_seen s old) =
      ap (client_seen s) e
      ∙ ap (λ (r : Option ℕ). record (client_seen s old) { queue = received r old.outbox (texts_for old.outbox.connection es) }) (sym here) in
      let behind : clients_seen sessions news ≡ map (delivered_to (cut ∷ more.cuts) entry es) (clients_seen sessions olds) =
      more.clients ∙ sym (skipped entry node (suc n) cut more.cuts es sessions olds (omega (arith, serial)) k.1) in
      record {
        cuts = cut ∷ more.cuts;
        from = (
          record {
            from = omega (arith, serial);
            of_entry = refl;
            own = ap (λ (c : Connection). c.node) k.0;
            there = omega (arith, serial);
            growing = subst (λ (i : ℕ). grows (get_or (client_seen s old ∷ clients_seen sessions olds) i
                (fresh_client 0 0 (record { node = 0; serial = 0 }))).queue (texts_for old.outbox.connection es) after ≡ true) none growing;
          },
          earlier es entry node n (client_seen s old) (clients_seen sessions olds) more.cuts more.from,
        );
        clients = λ i. first i ∷ behind i;
      }

  one_more : (refused : Option ℕ) → new ≡ record old { outbox = received refused old.outbox (texts_for old.outbox.connection es) }
      → HasCuts es entry node n (s ∷ sessions) (old ∷ olds) (new ∷ news)
  one_more None e = one_whole e
  one_more (Some after) e =
      elim (cases_Bool (grows old.outbox (texts_for old.outbox.connection es) after)) [
        | inl growing ↦ one_cut after e growing
        | inr full ↦ one_whole (e ∙ ap (λ (q : Queue). record old { outbox = q }) (refused_grows after old.outbox (texts_for old.outbox.connection es) full))
      ]

pub has_cuts : (es : List Emission) (entry node n : ℕ) (sessions : List SessionState) (olds news : List Member) → AreNumbered node n olds
    → AreDelivered es olds news → HasCuts es entry node n sessions olds news
has_cuts es entry node n [] olds news k d = record { cuts = []; from = tt; clients = refl }
has_cuts es entry node n (s ∷ sessions) [] [] k d = record { cuts = []; from = tt; clients = refl }
has_cuts es entry node n (s ∷ sessions) [] (new ∷ news) k d = absurd d
has_cuts es entry node n (s ∷ sessions) (old ∷ olds) [] k d = absurd d
has_cuts es entry node n (s ∷ sessions) (old ∷ olds) (new ∷ news) k d =
    one_more es entry node n s sessions old olds new news k (has_cuts es entry node (suc n) sessions olds news k.1 d.1) d.0.0 d.0.1
