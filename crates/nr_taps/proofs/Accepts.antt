-- What a tap has accepted goes on by a piece that was handed out behind it, whichever of two records of its node is the longer.
use Rattle.std.proofs.Common.{◌≡◌, ℕ, ◌+◌, ◌<◌, ◌≤◌, inl, inr, List, [], ◌∷◌, ◌++◌, length, take, drop, ap, sym, ◌∙◌, subst, append_assoc, arith}
use Rattle.std.specs.Prelude.{◌⊎◌}
use Rattle.std.proofs.Math.Seq.{drop-append_seam}
use Rattle.std.proofs.lemmas.List.{length-append, length-drop, length-take-le, take-append-drop}
use Rattle.nr_model.specs.Bytes.{IsBeginningOf}
use Rattle.nr_model.proofs.JobLists.{take_none}
use Rattle.nr_model.proofs.NodesPartsEmitted.{begins_on}
use Rattle.nr_oplog.proofs.Fronts.{begins_both}

module _ {A : Type 0} where
  -- one of two lists is a beginning of the other
  abbrev pub OneBegins : List A → List A → Type 0
  OneBegins xs ys = IsBeginningOf xs ys ⊎ IsBeginningOf ys xs

  -- what is written and what is pending begin what was emitted
  pub front_of : (written : ℕ) (pending all : List A) → written + length pending ≤ length all → IsBeginningOf pending (drop written all)
      → IsBeginningOf (take written all ++ pending) all
  front_of written pending all within b =
      (b.0, append_assoc (take written all) pending b.0 ∙ ap (λ (xs : List A). take written all ++ xs) b.1 ∙ take-append-drop written all)

  -- and the other way
  pub of_front : (front pending all : List A) → IsBeginningOf (front ++ pending) all
      → (length front + length pending ≤ length all) × IsBeginningOf pending (drop (length front) all)
  of_front front pending all b =
      let whole : front ++ (pending ++ b.0) ≡ all = sym (append_assoc front pending b.0) ∙ b.1 in
      let long = ap length whole in
      let first = length-append front (pending ++ b.0) in
      let second = length-append pending b.0 in (
        omega (arith, long, first, second),
        (b.0, sym (drop-append_seam front (pending ++ b.0)) ∙ ap (drop (length front)) whole),
      )

  -- a front of one record that is no longer than the other is a front of that one too
  front_of_other : (front old new : List A) → IsBeginningOf front old → OneBegins old new → length front ≤ length new → IsBeginningOf front new
  front_of_other front old new b (inl c) h = begins_on front old new b c
  front_of_other front old new b (inr c) h = begins_both front new old b c h

  front_taken : (xs ys : List A) → take (length xs) (xs ++ ys) ≡ xs
  front_taken [] ys = take_none ys
  front_taken (x ∷ xs) ys = ap (λ (zs : List A). x ∷ zs) (front_taken xs ys)

  -- a beginning of so many elements
  taken_of : (front all : List A) (count : ℕ) → IsBeginningOf front all → length front ≡ count → take count all ≡ front
  taken_of front all count b long = ap (λ (n : ℕ). take n all) (sym long) ∙ sym (ap (take (length front)) b.1) ∙ front_taken front b.0

  -- a piece that isn't empty, handed out behind what was accepted: then that and the piece are the first of what is emitted
  pub piece_accepted : (written : ℕ) (pending piece old new : List A) → written + length pending ≤ length old → IsBeginningOf pending (drop written old)
      → OneBegins old new → IsBeginningOf piece (drop (written + length pending) new) → 0 < length piece
      → (written + length (pending ++ piece) ≤ length new) × IsBeginningOf (pending ++ piece) (drop written new)
      × (take (written + length (pending ++ piece)) new ≡ take (written + length pending) old ++ piece)
  piece_accepted written pending piece old new within b one from some =
      let front = take written old ++ pending in
      let short : written ≤ length old = omega (arith, within) in
      let count : length (take written old) ≡ written = length-take-le written old short in
      let long : length front ≡ written + length pending = length-append (take written old) pending ∙ ap (λ (n : ℕ). n + length pending) count in
      let left = length-drop (written + length pending) new in
      let piece_long = length-append piece from.0 in
      let piece_is = ap length from.1 in
      let near : length front ≤ length new = omega (arith, long, left, piece_long, piece_is, some) in
      let was = front_of written pending old within b in
      let begins = front_of_other front old new was one near in
      let behind : piece ++ from.0 ≡ begins.0 =
      from.1 ∙ ap (λ (n : ℕ). drop n new) (sym long) ∙ ap (drop (length front)) (sym begins.1) ∙ drop-append_seam front begins.0 in
      let whole : IsBeginningOf (take written old ++ (pending ++ piece)) new = (
        from.0,
        ap (λ (xs : List A). xs ++ from.0) (sym (append_assoc (take written old) pending piece)) ∙ append_assoc front piece from.0
            ∙ ap (λ (xs : List A). front ++ xs) behind ∙ begins.1,
      ) in
      let parts = of_front (take written old) (pending ++ piece) new whole in
      let more : length (take written old ++ (pending ++ piece)) ≡ written + length (pending ++ piece) =
      length-append (take written old) (pending ++ piece) ∙ ap (λ (n : ℕ). n + length (pending ++ piece)) count in (
        subst (λ (n : ℕ). n + length (pending ++ piece) ≤ length new) count parts.0,
        subst (λ (n : ℕ). IsBeginningOf (pending ++ piece) (drop n new)) count parts.1,
        taken_of (take written old ++ (pending ++ piece)) new (written + length (pending ++ piece)) whole more ∙ sym (append_assoc (take written old) pending piece)
            ∙ ap (λ (xs : List A). xs ++ piece) (sym (taken_of front old (written + length pending) was long)),
      )
