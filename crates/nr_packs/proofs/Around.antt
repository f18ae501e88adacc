-- What is read at the place of a field.
use Rattle.std.proofs.Common.{◌≡◌, Bool, true, false, cond, Option, Some, None, [], ◌∷◌, refl, ap, sym, ◌∙◌}
use Rattle.std.specs.Ordering.{is_eq}
use Rattle.nr_model.specs.Bytes.{Bytes}
use Rattle.nr_model.specs.Keyspace.{byte_cmp}
use Rattle.nr_packs.specs.Packed.{Entries, packed, first_pair}
use Rattle.nr_packs.specs.Placed.{past, value_first}
use Rattle.nr_packs.proofs.Reading.{pair_read}

abbrev head_of : Entries → Option (Bytes × Bytes × Bytes)
head_of [] = None
head_of (e ∷ es) = Some (e.0, e.1, packed es)

head_read : (es : Entries) → first_pair (packed es) ≡ head_of es
head_read [] = refl
head_read (e ∷ es) = pair_read e.0 e.1 (packed es)

read_head : (rest : Bytes) (es : Entries) (o : Option (Bytes × Bytes × Bytes)) → rest ≡ packed es → first_pair rest ≡ o → head_of es ≡ o
read_head rest es o left is = sym (head_read es) ∙ ap first_pair (sym left) ∙ is

no_past : (k rest : Bytes) (es : Entries) → head_of es ≡ None → rest ≡ packed es → rest ≡ packed (past k es)
no_past k rest [] is left = left
no_past k rest (e ∷ es) is left = cc

no_value : (k : Bytes) (es : Entries) → head_of es ≡ None → None ≡ value_first k es
no_value k [] is = refl
no_value k (e ∷ es) is = cc

part : (Bytes × Bytes × Bytes → Bytes) → Option (Bytes × Bytes × Bytes) → Bytes
part f None = []
part f (Some pair) = f pair

parts : (f : Bytes × Bytes × Bytes → Bytes) (pair other : Bytes × Bytes × Bytes) → Some pair ≡ Some other → f pair ≡ f other
unfolding part
parts f pair other is = ap (part f) is

tested : (k : Bytes) (e : Bytes × Bytes) (es : Entries) (pair : Bytes × Bytes × Bytes) (b : Bool) → head_of (e ∷ es) ≡ Some pair → is_eq (byte_cmp k pair.0) ≡ b → is_eq (byte_cmp k e.0) ≡ b
tested k e es pair b is test = ap (λ (field : Bytes). is_eq (byte_cmp k field)) (parts (λ pair. pair.0) (e.0, e.1, packed es) pair is) ∙ test

its_past : (k : Bytes) (es : Entries) (pair : Bytes × Bytes × Bytes) → head_of es ≡ Some pair → is_eq (byte_cmp k pair.0) ≡ true → pair.2 ≡ packed (past k es)
its_past k [] pair is test = cc
its_past k (e ∷ es) pair is test =
    sym (parts (λ pair. pair.2) (e.0, e.1, packed es) pair is) ∙ ap (λ b. packed (cond b es (e ∷ es))) (sym (tested k e es pair true is test))

its_value : (k : Bytes) (es : Entries) (pair : Bytes × Bytes × Bytes) → head_of es ≡ Some pair → is_eq (byte_cmp k pair.0) ≡ true → Some pair.1 ≡ value_first k es
its_value k [] pair is test = cc
its_value k (e ∷ es) pair is test =
    ap Some (sym (parts (λ pair. pair.1) (e.0, e.1, packed es) pair is)) ∙ ap (λ b. cond b (Some e.1) None) (sym (tested k e es pair true is test))

other_past : (k rest : Bytes) (es : Entries) (pair : Bytes × Bytes × Bytes) → head_of es ≡ Some pair → is_eq (byte_cmp k pair.0) ≡ false → rest ≡ packed es → rest ≡ packed (past k es)
other_past k rest [] pair is test left = cc
other_past k rest (e ∷ es) pair is test left = left ∙ ap (λ b. packed (cond b es (e ∷ es))) (sym (tested k e es pair false is test))

other_value : (k : Bytes) (es : Entries) (pair : Bytes × Bytes × Bytes) → head_of es ≡ Some pair → is_eq (byte_cmp k pair.0) ≡ false → None ≡ value_first k es
other_value k [] pair is test = cc
other_value k (e ∷ es) pair is test = ap (λ b. cond b (Some e.1) None) (sym (tested k e es pair false is test))

-- nothing stands there
pub past_none : (k rest : Bytes) (es : Entries) → rest ≡ packed es → first_pair rest ≡ None → rest ≡ packed (past k es)
past_none k rest es left is = no_past k rest es (read_head rest es None left is) left

pub value_none : (k rest : Bytes) (es : Entries) → rest ≡ packed es → first_pair rest ≡ None → None ≡ value_first k es
value_none k rest es left is = no_value k es (read_head rest es None left is)

-- the field stands there
pub past_it : (k rest : Bytes) (es : Entries) (pair : Bytes × Bytes × Bytes) → rest ≡ packed es → first_pair rest ≡ Some pair → is_eq (byte_cmp k pair.0) ≡ true → pair.2 ≡ packed (past k es)
past_it k rest es pair left is test = its_past k es pair (read_head rest es (Some pair) left is) test

pub value_it : (k rest : Bytes) (es : Entries) (pair : Bytes × Bytes × Bytes) → rest ≡ packed es → first_pair rest ≡ Some pair → is_eq (byte_cmp k pair.0) ≡ true → Some pair.1 ≡ value_first k es
value_it k rest es pair left is test = its_value k es pair (read_head rest es (Some pair) left is) test

-- another stands there
pub past_other : (k rest : Bytes) (es : Entries) (pair : Bytes × Bytes × Bytes) → rest ≡ packed es → first_pair rest ≡ Some pair → is_eq (byte_cmp k pair.0) ≡ false
    → rest ≡ packed (past k es)
past_other k rest es pair left is test = other_past k rest es pair (read_head rest es (Some pair) left is) test left

pub value_other : (k rest : Bytes) (es : Entries) (pair : Bytes × Bytes × Bytes) → rest ≡ packed es → first_pair rest ≡ Some pair → is_eq (byte_cmp k pair.0) ≡ false
    → None ≡ value_first k es
value_other k rest es pair left is test = other_value k es pair (read_head rest es (Some pair) left is) test
