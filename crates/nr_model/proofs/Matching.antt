-- The test of a pattern's parts is the relation of the same name.
use Rattle.std.proofs.Common.{◌≡◌, ℕ, Bool, true, not, eqb, List, [], ◌∷◌, ◌++◌, refl, sym, ap, subst, ◌∙◌, inl, inr}
use Rattle.std.proofs.lemmas.Bool.{false≢true, and_parts, and_from, or_cases, or_left, or_right, eqb-true, eq-eqb, not-true, not_from_false}
use Rattle.nr_model.specs.Patterns.{Part, Star, AnyByte, Byte, Class, NotClass, in_class, PartsMatch, some_rest, one_byte, parts_match}

-- some rest passes
record PassesAt (test : List ℕ → Bool) (text : List ℕ) : Type 0 where
  front : List ℕ
  rest : List ℕ
  whole : text ≡ front ++ rest
  passes : test rest ≡ true

some_rest_finds : (test : List ℕ → Bool) (text : List ℕ) → some_rest test text ≡ true → PassesAt test text
some_rest_finds test [] h = record { front = []; rest = []; whole = refl; passes = h }
some_rest_finds test (c ∷ cs) h =
    elim (or_cases (test (c ∷ cs)) (some_rest test cs) h) [
      | inl here ↦ record { front = []; rest = c ∷ cs; whole = refl; passes = here }
      | inr later ↦
          let found = some_rest_finds test cs later in
          record { front = c ∷ found.front; rest = found.rest; whole = ap (λ (t : List ℕ). c ∷ t) found.whole; passes = found.passes }
    ]

some_rest_from : (test : List ℕ → Bool) (front rest : List ℕ) → test rest ≡ true → some_rest test (front ++ rest) ≡ true
some_rest_from test [] [] h = h
some_rest_from test [] (c ∷ cs) h = or_left (test (c ∷ cs)) (some_rest test cs) h
some_rest_from test (c ∷ front) rest h = or_right (test (c ∷ front ++ rest)) (some_rest test (front ++ rest)) (some_rest_from test front rest h)

-- the first byte passes, and the rest
record PassesByte (test : ℕ → Bool) (others : List ℕ → Bool) (text : List ℕ) : Type 0 where
  byte : ℕ
  rest : List ℕ
  whole : text ≡ byte ∷ rest
  byte_passes : test byte ≡ true
  rest_passes : others rest ≡ true

one_byte_finds : (test : ℕ → Bool) (others : List ℕ → Bool) (text : List ℕ) → one_byte test others text ≡ true → PassesByte test others text
one_byte_finds test others [] h = absurd (false≢true h)
one_byte_finds test others (c ∷ cs) h =
    let both = and_parts (test c) (others cs) h in
    record { byte = c; rest = cs; whole = refl; byte_passes = both.0; rest_passes = both.1 }

-- a front of one byte, and the rest
one_byte_from : (test : ℕ → Bool) (others : List ℕ → Bool) (text front rest : List ℕ) (c : ℕ) → text ≡ front ++ rest → front ≡ c ∷ [] → test c ≡ true
    → others rest ≡ true → one_byte test others text ≡ true
one_byte_from test others text front rest c whole one byte_passes rest_passes =
    let is : text ≡ c ∷ rest = whole ∙ ap (λ (t : List ℕ). t ++ rest) one in
    subst (λ (t : List ℕ). one_byte test others t ≡ true) (sym is) (and_from (test c) (others rest) byte_passes rest_passes)

pub PartsMatch-from_test : (ps : List Part) (text : List ℕ) → parts_match ps text ≡ true → PartsMatch ps text
PartsMatch-from_test [] [] h = refl
PartsMatch-from_test [] (c ∷ cs) h = absurd (false≢true h)
PartsMatch-from_test (Star ∷ others) text h =
    let at = some_rest_finds (parts_match others) text h in
    (at.front, at.rest, at.whole, tt, PartsMatch-from_test others at.rest at.passes)
PartsMatch-from_test (AnyByte ∷ others) text h =
    let at = one_byte_finds (λ c. true) (parts_match others) text h in
    (at.byte ∷ [], at.rest, at.whole, (at.byte, refl), PartsMatch-from_test others at.rest at.rest_passes)
PartsMatch-from_test (Byte b ∷ others) text h =
    let at = one_byte_finds (λ c. eqb c b) (parts_match others) text h in
    (at.byte ∷ [], at.rest, at.whole, ap (λ (c : ℕ). c ∷ []) (eqb-true at.byte b at.byte_passes), PartsMatch-from_test others at.rest at.rest_passes)
PartsMatch-from_test (Class marks ∷ others) text h =
    let at = one_byte_finds (in_class marks) (parts_match others) text h in
    (at.byte ∷ [], at.rest, at.whole, (at.byte, refl, at.byte_passes), PartsMatch-from_test others at.rest at.rest_passes)
PartsMatch-from_test (NotClass marks ∷ others) text h =
    let at = one_byte_finds (λ c. not (in_class marks c)) (parts_match others) text h in
    (at.byte ∷ [], at.rest, at.whole, (at.byte, refl, not-true (in_class marks at.byte) at.byte_passes), PartsMatch-from_test others at.rest at.rest_passes)

pub parts_match-from_relation : (ps : List Part) (text : List ℕ) → PartsMatch ps text → parts_match ps text ≡ true
parts_match-from_relation [] text h = subst (λ (t : List ℕ). parts_match [] t ≡ true) (sym h) refl
parts_match-from_relation (Star ∷ others) text h =
    subst (λ (t : List ℕ). some_rest (parts_match others) t ≡ true) (sym h.2)
    (some_rest_from (parts_match others) h.0 h.1 (parts_match-from_relation others h.1 h.4))
parts_match-from_relation (AnyByte ∷ others) text h =
    one_byte_from (λ c. true) (parts_match others) text h.0 h.1 h.3.0 h.2 h.3.1 refl (parts_match-from_relation others h.1 h.4)
parts_match-from_relation (Byte b ∷ others) text h =
    one_byte_from (λ c. eqb c b) (parts_match others) text h.0 h.1 b h.2 h.3 (eq-eqb b b refl) (parts_match-from_relation others h.1 h.4)
parts_match-from_relation (Class marks ∷ others) text h =
    one_byte_from (in_class marks) (parts_match others) text h.0 h.1 h.3.0 h.2 h.3.1 h.3.2 (parts_match-from_relation others h.1 h.4)
parts_match-from_relation (NotClass marks ∷ others) text h =
    one_byte_from (λ c. not (in_class marks c)) (parts_match others) text h.0 h.1 h.3.0 h.2 h.3.1 (not_from_false (in_class marks h.3.0) h.3.2)
    (parts_match-from_relation others h.1 h.4)
