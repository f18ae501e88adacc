-- The bytes that were fed to a connection and handed out for it, in parts.
use Rattle.std.proofs.Common.{◌≡◌, Bool, true, false, cond, List, [], ◌∷◌, ◌++◌, refl, ap, sym, ◌∙◌, append_assoc}
use Rattle.std.proofs.lemmas.List.{append-nil}
use Rattle.nr_model.specs.Bytes.{Bytes}
use Rattle.nr_model.specs.Items.{Connection, same_connection}
use Rattle.nr_model.specs.Connections.{Handed, handed_to, Feeding, fed_to}

-- handed out in two parts
pub handed_to-append : (c : Connection) (handed more : List Handed) → handed_to c (handed ++ more) ≡ handed_to c handed ++ handed_to c more
handed_to-append c [] more = refl
handed_to-append c (h ∷ handed) more =
    let ih = handed_to-append c handed more in
    elim (same_connection h.connection c) as
    (λ own. cond own (h.bytes ++ handed_to c (handed ++ more)) (handed_to c (handed ++ more))
    ≡ cond own (h.bytes ++ handed_to c handed) (handed_to c handed) ++ handed_to c more) [
      | true ↦ ap (λ (b : Bytes). h.bytes ++ b) ih ∙ sym (append_assoc h.bytes (handed_to c handed) (handed_to c more))
      | false ↦ ih
    ]

-- the bytes of more feeds
pub fed_to-append : (c : Connection) (fed more : List Feeding) → fed_to c (fed ++ more) ≡ fed_to c fed ++ fed_to c more
fed_to-append c [] more = refl
fed_to-append c (f ∷ fed) more =
    let ih = fed_to-append c fed more in
    elim (same_connection f.connection c) as
    (λ own. cond own (f.bytes ++ fed_to c (fed ++ more)) (fed_to c (fed ++ more)) ≡ cond own (f.bytes ++ fed_to c fed) (fed_to c fed) ++ fed_to c more) [
      | true ↦ ap (λ (b : Bytes). f.bytes ++ b) ih ∙ sym (append_assoc f.bytes (fed_to c fed) (fed_to c more))
      | false ↦ ih
    ]

-- the bytes of one feed
pub own_bytes : (c : Connection) (f : Feeding) → same_connection f.connection c ≡ true → fed_to c (f ∷ []) ≡ f.bytes
own_bytes c f e = ap (λ (own : Bool). cond own (f.bytes ++ []) []) e ∙ append-nil f.bytes

-- those of another connection
pub other_bytes : (c : Connection) (f : Feeding) → same_connection f.connection c ≡ false → fed_to c (f ∷ []) ≡ []
other_bytes c f e = ap (λ (own : Bool). cond own (f.bytes ++ []) []) e
