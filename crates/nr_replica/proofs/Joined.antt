-- Texts that come to a queue one by one, and all at once.
use Rattle.std.proofs.Common.{◌≡◌, ℕ, ◌+◌, ◌≤◌, Bool, true, false, cond, ltb, inl, inr, List, [], ◌∷◌, ◌++◌, length, refl, ap, sym, ◌∙◌, arith, append_assoc}
use Rattle.std.specs.Prelude.{Option, Some, None, not, ◌&&◌, nat_le}
use Rattle.std.proofs.lemmas.Bool.{cases_Bool, and_parts, and_from}
use Rattle.std.proofs.lemmas.Bool.Decides.{nat_tests}
use Rattle.std.proofs.lemmas.List.{append-nil, length-append}
use Rattle.nr_model.specs.Bytes.{Bytes}
use Rattle.nr_model.specs.Connections.{is_some_bytes}
use Rattle.nr_model.specs.Items.{Connection}
use Rattle.nr_model.specs.Queues.{Queue, most_bytes, takes, put, puts, with_bytes, cut_off, received}
use Rattle.nr_replica.specs.Lent.{IsJoined}
use Rattle.nr_replica.specs.Members.{fresh_queue}
use Rattle.nr_replica.proofs.Received.{puts_cut, refused_at, refused_past}

-- texts as one
abbrev pub in_one : List Bytes → Bytes
in_one [] = []
in_one (text ∷ texts) = text ++ in_one texts

-- so many bytes may wait
abbrev has_room : Bool → ℕ → ℕ → ℕ → ℕ → Bool
has_room cut count limit handed most = not cut && (nat_le count limit && nat_le (handed + count) most)

below : (a b limit : ℕ) → a ≤ b → nat_le b limit ≡ true → nat_le a limit ≡ true
below a b limit less is = grind (arith, nat_tests)

has_room_for_fewer : (cut : Bool) (a b limit handed most : ℕ) → a ≤ b → has_room cut b limit handed most ≡ true → has_room cut a limit handed most ≡ true
has_room_for_fewer cut a b limit handed most less is =
    let open_and = and_parts (not cut) (nat_le b limit && nat_le (handed + b) most) is in
    let both = and_parts (nat_le b limit) (nat_le (handed + b) most) open_and.1 in
    and_from (not cut) (nat_le a limit && nat_le (handed + a) most) open_and.0
    (and_from (nat_le a limit) (nat_le (handed + a) most) (below a b limit less both.0) (below (handed + a) (handed + b) most (omega arith) both.1))

-- what takes two at once takes the first, and then the second
takes_first : (q : Queue) (a b : Bytes) → takes q (a ++ b) ≡ true → takes q a ≡ true
takes_first q a b is =
    let long : length (a ++ b) ≡ length a + length b = length-append a b in
    has_room_for_fewer q.cut (length q.waiting + length a) (length q.waiting + length (a ++ b)) q.limit q.handed most_bytes (omega arith) is

takes_second : (q : Queue) (a b : Bytes) → takes q (a ++ b) ≡ true → takes (with_bytes q a) b ≡ true
takes_second q a b is =
    let long : length (a ++ b) ≡ length a + length b = length-append a b in
    let more : length (q.waiting ++ a) ≡ length q.waiting + length a = length-append q.waiting a in
    let same : length (q.waiting ++ a) + length b ≡ length q.waiting + length (a ++ b) = omega arith in
    ap (λ (n : ℕ). has_room q.cut n q.limit q.handed most_bytes) same ∙ is

put_is : (q : Queue) (text : Bytes) → takes q text ≡ true → put q text ≡ with_bytes q text
put_is q text is = ap (λ (b : Bool). cond b (with_bytes q text) (cut_off q)) is

put_cuts : (q : Queue) (text : Bytes) → takes q text ≡ false → put q text ≡ cut_off q
put_cuts q text is = ap (λ (b : Bool). cond b (with_bytes q text) (cut_off q)) is

-- what takes texts as one takes them one by one, and comes to the same
pub puts_whole : (q : Queue) (texts : List Bytes) → takes q (in_one texts) ≡ true → puts q texts ≡ with_bytes q (in_one texts)
puts_whole q [] is = ap (λ (bytes : Bytes). record q { waiting = bytes }) (sym (append-nil q.waiting))
puts_whole q (text ∷ texts) is =
    ap (λ (p : Queue). puts p texts) (put_is q text (takes_first q text (in_one texts) is))
    ∙ puts_whole (with_bytes q text) texts (takes_second q text (in_one texts) is)
    ∙ ap (λ (bytes : Bytes). record q { waiting = bytes }) (append_assoc q.waiting text (in_one texts))

-- what waits in a queue that took all texts
pub waits_whole : (q : Queue) (texts : List Bytes) → (puts q texts).cut ≡ false → (puts q texts).waiting ≡ q.waiting ++ in_one texts
waits_whole q [] uncut = sym (append-nil q.waiting)
waits_whole q (text ∷ texts) uncut = elim (cases_Bool (takes q text)) [
  | inl h ↦
      let is = put_is q text h in
      ap (λ (p : Queue). (puts p texts).waiting) is
      ∙ waits_whole (with_bytes q text) texts (sym (ap (λ (p : Queue). (puts p texts).cut) is) ∙ uncut)
      ∙ append_assoc q.waiting text (in_one texts)
  | inr h ↦
      let no : true ≡ false = sym (ap (λ (p : Queue). p.cut) (ap (λ (p : Queue). puts p texts) (put_cuts q text h) ∙ puts_cut q texts)) ∙ uncut in
      absurd (cc)
]

-- texts that wait in a queue of their own, alone, come as a whole to another one
pub joined_received : (c : Connection) (limit : ℕ) (own old new : Queue) (texts : List Bytes) → own ≡ puts (fresh_queue c limit) texts → own.cut ≡ false
    → is_some_bytes own.waiting ≡ true → IsJoined own.waiting old new → (n : Option ℕ) × (new ≡ received n old texts)
joined_received c limit own old new texts came uncut some joins =
    let all : own.waiting ≡ in_one texts =
    ap (λ (q : Queue). q.waiting) came ∙ waits_whole (fresh_queue c limit) texts (sym (ap (λ (q : Queue). q.cut) came) ∙ uncut) in
    elim joins [
      | inl whole ↦ (None, whole.1 ∙ ap (with_bytes old) all ∙ sym (puts_whole old texts (sym (ap (takes old) all) ∙ whole.0)))
      | inr cuts ↦ (Some 0, cuts ∙ sym (cut_first old texts (sym (ap is_some_bytes all) ∙ some)))
    ]
  where
    cut_first : (q : Queue) (texts : List Bytes) → is_some_bytes (in_one texts) ≡ true → received (Some 0) q texts ≡ cut_off q
    cut_first q [] is = absurd (cc)
    cut_first q (text ∷ texts) is = refused_at 0 q (text ∷ texts) (grind (arith, nat_tests))

-- what came to a queue that isn't cut came whole
pub uncut_received : (refused : Option ℕ) (q : Queue) (texts : List Bytes) → (received refused q texts).cut ≡ false → received refused q texts ≡ puts q texts
uncut_received None q texts uncut = refl
uncut_received (Some n) q texts uncut = elim (cases_Bool (ltb n (length texts))) [
  | inl h ↦
      let no : true ≡ false = sym (ap (λ (p : Queue). p.cut) (refused_at n q texts h)) ∙ uncut in
      absurd (cc)
  | inr h ↦ refused_past n q texts h
]
