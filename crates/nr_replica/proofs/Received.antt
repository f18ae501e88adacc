-- What members receive: one thing after the other, and one of them alone.
use Rattle.std.proofs.Common.{◌≡◌, ℕ, zero, suc, ◌+◌, ◌<◌, ◌≤◌, Bool, true, false, cond, ltb, inl, inr, List, [], ◌∷◌, ◌++◌, length, take, get_or, set, refl, ap, sym, ◌∙◌, subst, arith}
use Rattle.std.specs.Prelude.{Option, Some, None, ◌==◌, ◌&&◌}
use Rattle.std.proofs.lemmas.Bool.{cases_Bool, ne_eqb, and_left}
use Rattle.std.proofs.lemmas.Bool.Decides.{nat_tests}
use Rattle.std.proofs.lemmas.List.{take-append-le, length-append}
use Rattle.std.proofs.Math.Seq.{take-append-add}
use Rattle.nr_model.specs.Bytes.{Bytes}
use Rattle.nr_model.specs.Items.{Connection, same_connection}
use Rattle.nr_model.specs.Queues.{Queue, takes, put, puts, with_bytes, cut_off, received}
use Rattle.nr_replica.specs.Members.{Member, AreNumbered, AreReceived}

-- a queue that is cut stays as it is
pub puts_cut : (q : Queue) (ts : List Bytes) → puts (cut_off q) ts ≡ cut_off q
puts_cut q [] = refl
puts_cut q (t ∷ ts) = puts_cut q ts

either : {A : Type 0} (b : Bool) (x y z : A) → x ≡ z → y ≡ z → cond b x y ≡ z
either true x y z p q = p
either false x y z p q = q

received_cut : (n : Option ℕ) (q : Queue) (ts : List Bytes) → received n (cut_off q) ts ≡ cut_off q
received_cut None q ts = puts_cut q ts
received_cut (Some n) q ts =
    either (ltb n (length ts)) (cut_off (puts (cut_off q) (take n ts))) (puts (cut_off q) ts) (cut_off q) (ap cut_off (puts_cut q (take n ts))) (puts_cut q ts)

pub puts-append : (q : Queue) (ts us : List Bytes) → puts q (ts ++ us) ≡ puts (puts q ts) us
puts-append q [] us = refl
puts-append q (t ∷ ts) us = puts-append (put q t) ts us

-- a queue keeps its connection
put_connection : (q : Queue) (t : Bytes) → (put q t).connection ≡ q.connection
put_connection q t = elim (takes q t) as (λ b. (cond b (with_bytes q t) (cut_off q)).connection ≡ q.connection) [
  | true ↦ refl
  | false ↦ refl
]

pub puts_connection : (q : Queue) (ts : List Bytes) → (puts q ts).connection ≡ q.connection
puts_connection q [] = refl
puts_connection q (t ∷ ts) = puts_connection (put q t) ts ∙ put_connection q t

put_limit : (q : Queue) (t : Bytes) → (put q t).limit ≡ q.limit
put_limit q t = elim (takes q t) as (λ b. (cond b (with_bytes q t) (cut_off q)).limit ≡ q.limit) [
  | true ↦ refl
  | false ↦ refl
]

pub puts_limit : (q : Queue) (ts : List Bytes) → (puts q ts).limit ≡ q.limit
puts_limit q [] = refl
puts_limit q (t ∷ ts) = puts_limit (put q t) ts ∙ put_limit q t

pub received_connection : (n : Option ℕ) (q : Queue) (ts : List Bytes) → (received n q ts).connection ≡ q.connection
received_connection None q ts = puts_connection q ts
received_connection (Some n) q ts = elim (ltb n (length ts)) as (λ b. (cond b (cut_off (puts q (take n ts))) (puts q ts)).connection ≡ q.connection) [
  | true ↦ puts_connection q (take n ts)
  | false ↦ puts_connection q ts
]

-- where memory was refused, and where it wasn't
pub refused_at : (n : ℕ) (q : Queue) (ts : List Bytes) → ltb n (length ts) ≡ true → received (Some n) q ts ≡ cut_off (puts q (take n ts))
refused_at n q ts h = ap (λ b. cond b (cut_off (puts q (take n ts))) (puts q ts)) h

pub refused_past : (n : ℕ) (q : Queue) (ts : List Bytes) → ltb n (length ts) ≡ false → received (Some n) q ts ≡ puts q ts
refused_past n q ts h = ap (λ b. cond b (cut_off (puts q (take n ts))) (puts q ts)) h

-- texts, and then texts more
abbrev Both : Queue → List Bytes → List Bytes → Queue → Type 0
Both q ts us new = (n : Option ℕ) × (new ≡ received n q (ts ++ us))

first_refused : (n : ℕ) (s : Option ℕ) (q : Queue) (ts us : List Bytes) → ltb n (length ts) ≡ true → Both q ts us (received s (received (Some n) q ts) us)
first_refused n s q ts us h =
    let long : length (ts ++ us) ≡ length ts + length us = length-append ts us in
    let within : n < length ts = grind (arith, nat_tests) in
    let here : ltb n (length (ts ++ us)) ≡ true = grind (arith, nat_tests) in (
      Some n,
      ap (λ r. received s r us) (refused_at n q ts h) ∙ received_cut s (puts q (take n ts)) us
          ∙ ap (λ xs. cut_off (puts q xs)) (sym (take-append-le n ts us (omega arith))) ∙ sym (refused_at n q (ts ++ us) here),
    )

second_refused : (k : ℕ) (q : Queue) (ts us : List Bytes) → ltb k (length us) ≡ true → Both q ts us (received (Some k) (puts q ts) us)
second_refused k q ts us h =
    let long : length (ts ++ us) ≡ length ts + length us = length-append ts us in
    let within : k < length us = grind (arith, nat_tests) in
    let here : ltb (length ts + k) (length (ts ++ us)) ≡ true = grind (arith, nat_tests) in (
      Some (length ts + k),
      refused_at k (puts q ts) us h ∙ ap cut_off (sym (puts-append q ts (take k us)))
          ∙ ap (λ xs. cut_off (puts q xs)) (sym (take-append-add ts us k)) ∙ sym (refused_at (length ts + k) q (ts ++ us) here),
    )

first_whole : (s : Option ℕ) (q : Queue) (ts us : List Bytes) → Both q ts us (received s (puts q ts) us)
first_whole None q ts us = (None, sym (puts-append q ts us))
first_whole (Some k) q ts us = elim (cases_Bool (ltb k (length us))) [
  | inl h ↦ second_refused k q ts us h
  | inr h ↦ (None, refused_past k (puts q ts) us h ∙ sym (puts-append q ts us))
]

pub received_both : (r s : Option ℕ) (q : Queue) (ts us : List Bytes) → Both q ts us (received s (received r q ts) us)
received_both None s q ts us = first_whole s q ts us
received_both (Some n) s q ts us = elim (cases_Bool (ltb n (length ts))) [
  | inl h ↦ first_refused n s q ts us h
  | inr h ↦ subst (λ (p : Queue). Both q ts us (received s p us)) (sym (refused_past n q ts h)) (first_whole s q ts us)
]

-- the same of a member
abbrev Got : Member → List Bytes → Member → Type 0
Got old ts new = (n : Option ℕ) × (new ≡ record old { outbox = received n old.outbox ts })

got_both : (f g : Connection → List Bytes) (old mid new : Member) → Got old (f old.outbox.connection) mid → Got mid (g mid.outbox.connection) new
    → Got old (f old.outbox.connection ++ g old.outbox.connection) new
got_both f g old mid new first second =
    let ts = f old.outbox.connection in
    let same : mid.outbox.connection ≡ old.outbox.connection =
    ap (λ (m : Member). m.outbox.connection) first.1 ∙ received_connection first.0 old.outbox ts in
    let all = received_both first.0 second.0 old.outbox ts (g old.outbox.connection) in (
      all.0,
      second.1 ∙ ap (λ (c : Connection). record mid { outbox = received second.0 mid.outbox (g c) }) same
          ∙ ap (λ (m : Member). record m { outbox = received second.0 m.outbox (g old.outbox.connection) }) first.1
          ∙ ap (λ (q : Queue). record old { outbox = q }) all.1,
    )

-- members that received this, and then that
pub both_received : (f g : Connection → List Bytes) (olds mids news : List Member) → AreReceived f olds mids → AreReceived g mids news
    → AreReceived (λ c. f c ++ g c) olds news
both_received f g [] [] [] first second = tt
both_received f g [] [] (new ∷ news) first second = second
both_received f g [] (mid ∷ mids) news first second = absurd first
both_received f g (old ∷ olds) [] news first second = absurd first
both_received f g (old ∷ olds) (mid ∷ mids) [] first second = second
both_received f g (old ∷ olds) (mid ∷ mids) (new ∷ news) first second =
    (got_both f g old mid new first.0 second.0, both_received f g olds mids news first.1 second.1)

-- they stay numbered
pub received_numbered : (node n : ℕ) (f : Connection → List Bytes) (olds news : List Member) → AreNumbered node n olds → AreReceived f olds news
    → AreNumbered node n news
received_numbered node n f [] [] numbered h = tt
received_numbered node n f [] (new ∷ news) numbered h = absurd h
received_numbered node n f (old ∷ olds) [] numbered h = absurd h
received_numbered node n f (old ∷ olds) (new ∷ news) numbered h = (
  ap (λ (m : Member). m.outbox.connection) h.0.1 ∙ received_connection h.0.0 old.outbox (f old.outbox.connection) ∙ numbered.0,
  received_numbered node (suc n) f olds news numbered.1 h.1,
)

-- the same texts for the node's connections
pub same_received : (node n : ℕ) (f g : Connection → List Bytes) (olds news : List Member) → AreNumbered node n olds
    → ((c : Connection) → c.node ≡ node → f c ≡ g c) → AreReceived f olds news → AreReceived g olds news
same_received node n f g [] [] numbered same h = tt
same_received node n f g [] (new ∷ news) numbered same h = h
same_received node n f g (old ∷ olds) [] numbered same h = h
same_received node n f g (old ∷ olds) (new ∷ news) numbered same h =
    let own : old.outbox.connection.node ≡ node = ap (λ (c : Connection). c.node) numbered.0 in (
      (h.0.0, h.0.1 ∙ ap (λ (ts : List Bytes). record old { outbox = received h.0.0 old.outbox ts }) (same old.outbox.connection own)),
      same_received node (suc n) f g olds news numbered.1 same h.1,
    )

pub alike : (f g : Connection → List Bytes) (olds news : List Member) → ((c : Connection) → f c ≡ g c) → AreReceived f olds news → AreReceived g olds news
alike f g [] [] same h = tt
alike f g [] (new ∷ news) same h = h
alike f g (old ∷ olds) [] same h = h
alike f g (old ∷ olds) (new ∷ news) same h = (
  (h.0.0, h.0.1 ∙ ap (λ (ts : List Bytes). record old { outbox = received h.0.0 old.outbox ts }) (same old.outbox.connection)),
  alike f g olds news same h.1,
)

-- nobody receives anything
pub nothing_received : (members : List Member) → AreReceived (λ c. []) members members
nothing_received [] = tt
nothing_received (member ∷ members) = ((None, refl), nothing_received members)

pub none_received : (node n : ℕ) (f : Connection → List Bytes) (members : List Member) → AreNumbered node n members
    → ((serial : ℕ) → n ≤ serial → serial < n + length members → f (record { node = node; serial = serial }) ≡ []) → AreReceived f members members
none_received node n f [] numbered none = tt
none_received node n f (member ∷ members) numbered none =
    let nothing : f member.outbox.connection ≡ [] = ap f numbered.0 ∙ none n (omega arith) (omega arith) in (
      (None, ap (λ (ts : List Bytes). record member { outbox = puts member.outbox ts }) (sym nothing)),
      none_received node (suc n) f members numbered.1 (λ serial from below. none serial (omega arith) (omega arith)),
    )

-- one of them does
pub one_received : (node n i : ℕ) (f : Connection → List Bytes) (members : List Member) (d new : Member) (refused : Option ℕ) → AreNumbered node n members
    → i < length members
    → new ≡ record (get_or members i d) { outbox = received refused (get_or members i d).outbox (f (record { node = node; serial = n + i })) }
    → ((serial : ℕ) → (serial ≡ n + i → ⊥) → f (record { node = node; serial = serial }) ≡ []) → AreReceived f members (set members i new)
one_received node n i f [] d new refused numbered within is others = absurd (omega arith)
one_received node n zero f (member ∷ members) d new refused numbered within is others =
    let number : n + 0 ≡ n = omega arith in
    let own : record { node = node; serial = n + 0 } ≡ member.outbox.connection =
    ap (λ (s : ℕ). record { node = node; serial = s }) number ∙ sym numbered.0 in (
      (refused, is ∙ ap (λ (c : Connection). record member { outbox = received refused member.outbox (f c) }) own),
      none_received node (suc n) f members numbered.1 (λ serial from below. others serial (λ e. omega arith)),
    )
one_received node n (suc i) f (member ∷ members) d new refused numbered within is others =
    let nothing : f member.outbox.connection ≡ [] = ap f numbered.0 ∙ others n (λ e. omega arith) in
    let same : n + suc i ≡ suc n + i = omega arith in (
      (None, ap (λ (ts : List Bytes). record member { outbox = puts member.outbox ts }) (sym nothing)),
      one_received node (suc n) i f members d new refused numbered.1 (omega arith)
          (is
          ∙ ap (λ (s : ℕ). record (get_or members i d) { outbox = received refused (get_or members i d).outbox (f (record { node = node; serial = s })) }) same)
          (λ serial other. others serial (λ e. other (e ∙ same))),
    )

-- connections of one serial are the same, and others aren't
pub same_serial : (node m n : ℕ) → m ≡ n → same_connection (record { node = node; serial = m }) (record { node = node; serial = n }) ≡ true
same_serial node m n e = grind (arith, nat_tests)

pub other_serial : (node m n : ℕ) → (m ≡ n → ⊥) → same_connection (record { node = node; serial = m }) (record { node = node; serial = n }) ≡ false
other_serial node m n e = grind (arith, nat_tests)

pub of_another : (c d : Connection) → (c.node ≡ d.node → ⊥) → same_connection c d ≡ false
of_another c d apart = and_left (c.node == d.node) (c.serial == d.serial) (ne_eqb c.node d.node apart)

pub eqb_is : (a b : ℕ) → (a == b) ≡ true → a ≡ b
eqb_is a b h = grind (arith, nat_tests)

pub joined : (node n : ℕ) (c : Connection) → c.node ≡ node → c.serial ≡ n → c ≡ record { node = node; serial = n }
joined node n c e f = λ i. record { node = e i; serial = f i }

pub apart : (node n : ℕ) (c : Connection) → (c ≡ record { node = node; serial = n } → ⊥) → same_connection c (record { node = node; serial = n }) ≡ false
apart node n c other = elim (cases_Bool (c.node == node)) [
  | inr h ↦ and_left (c.node == node) (c.serial == n) h
  | inl h ↦ elim (cases_Bool (c.serial == n)) [
    | inl k ↦ absurd (other (joined node n c (eqb_is c.node node h) (eqb_is c.serial n k)))
    | inr k ↦ ap (λ b. b && (c.serial == n)) h ∙ k
  ]
]

-- one text to one of them: what is received for it is the text, and for others nothing
abbrev pub one_text : Connection → Bytes → Connection → List Bytes
one_text to text c = cond (same_connection to c) (text ∷ []) []

pub one_given : (node i : ℕ) (to : Connection) (text : Bytes) (members : List Member) (d new : Member) (refused : Option ℕ) → AreNumbered node 0 members
    → i < length members → to ≡ record { node = node; serial = i }
    → new ≡ record (get_or members i d) { outbox = received refused (get_or members i d).outbox (text ∷ []) }
    → AreReceived (one_text to text) members (set members i new)
one_given node i to text members d new refused numbered within own is =
    let at : Connection = record { node = node; serial = 0 + i } in
    let number : i ≡ 0 + i = omega arith in
    let here : one_text to text at ≡ text ∷ [] =
    ap (λ (c : Connection). one_text c text at) own ∙ ap (λ b. cond b (text ∷ []) []) (same_serial node i (0 + i) number) in
    one_received node 0 i (one_text to text) members d new refused numbered within
    (is ∙ ap (λ (ts : List Bytes). record (get_or members i d) { outbox = received refused (get_or members i d).outbox ts }) (sym here))
    (λ serial other.
    ap (λ (c : Connection). one_text c text (record { node = node; serial = serial })) own
    ∙ ap (λ b. cond b (text ∷ []) []) (other_serial node i serial (λ e. other (sym e ∙ number))))

-- to none of them: it is of another node, or past them
pub none_given : (node : ℕ) (to : Connection) (text : Bytes) (members : List Member) → AreNumbered node 0 members
    → ((serial : ℕ) → serial < length members → to ≡ record { node = node; serial = serial } → ⊥)
    → AreReceived (one_text to text) members members
none_given node to text members numbered others =
    none_received node 0 (one_text to text) members numbered
    (λ serial from below. ap (λ b. cond b (text ∷ []) []) (apart node serial to (others serial (omega arith))))

-- texts to one of them
abbrev pub some_texts : Connection → List Bytes → Connection → List Bytes
some_texts to texts c = cond (same_connection to c) texts []

pub some_given : (node i : ℕ) (to : Connection) (texts : List Bytes) (members : List Member) (d new : Member) (refused : Option ℕ) → AreNumbered node 0 members
    → i < length members → to ≡ record { node = node; serial = i }
    → new ≡ record (get_or members i d) { outbox = received refused (get_or members i d).outbox texts }
    → AreReceived (some_texts to texts) members (set members i new)
some_given node i to texts members d new refused numbered within own is =
    let at : Connection = record { node = node; serial = 0 + i } in
    let number : i ≡ 0 + i = omega arith in
    let here : some_texts to texts at ≡ texts =
    ap (λ (c : Connection). some_texts c texts at) own ∙ ap (λ b. cond b texts []) (same_serial node i (0 + i) number) in
    one_received node 0 i (some_texts to texts) members d new refused numbered within
    (is ∙ ap (λ (ts : List Bytes). record (get_or members i d) { outbox = received refused (get_or members i d).outbox ts }) (sym here))
    (λ serial other.
    ap (λ (c : Connection). some_texts c texts (record { node = node; serial = serial })) own
    ∙ ap (λ b. cond b texts []) (other_serial node i serial (λ e. other (sym e ∙ number))))
