-- The addresses that a value gives, by whether it is a list, how long that is, and each of its items.
use Rattle.std.proofs.Common.{◌≡◌, ◌∙◌, ◌&&◌, ℕ, suc, Bool, true, false, List, [], ◌∷◌, length, Option, Some, None, is_some, option_map, option_and_then, if◌then◌else◌, nat_le, refl, sym, ap}
use Rattle.std.proofs.lemmas.Option.{same_Some}
use Rattle.std.specs.List.{list_all}
use Rattle.toml.specs.Data.{Data, string, integer, float, boolean, datetime, array, table, Items, as_array}
use Rattle.toml.specs.View.{items_view, view}
use Rattle.toml.specs.declared.value.Value.{Value}
use Rattle.nr_config.specs.Keys.{address_of, addresses_of, few, list_of, texts_of}

-- a text and those behind it
abbrev in_front : Option (List ℕ) → Option (List (List ℕ)) → Option (List (List ℕ))
in_front text rest = option_and_then (λ first. option_map (λ texts. first ∷ texts) rest) text

both_there : (text : Option (List ℕ)) (rest : Option (List (List ℕ))) → is_some (in_front text rest) ≡ (is_some text && is_some rest)
both_there None rest = refl
both_there (Some first) None = refl
both_there (Some first) (Some texts) = refl

texts_there : (vs : List Value) → is_some (texts_of (items_view vs)) ≡ list_all (λ v. is_some (address_of (view v))) vs
texts_there [] = refl
texts_there (v ∷ vs) = both_there (address_of (view v)) (texts_of (items_view vs)) ∙ ap (λ b. is_some (address_of (view v)) && b) (texts_there vs)

one_longer : (text : Option (List ℕ)) (rest : Option (List (List ℕ))) (texts : List (List ℕ)) (n : ℕ) → ((others : List (List ℕ)) → rest ≡ Some others → length others ≡ n)
    → in_front text rest ≡ Some texts → length texts ≡ suc n
one_longer None rest texts n others e = absurd (cc)
one_longer (Some first) None texts n others e = absurd (cc)
one_longer (Some first) (Some behind) texts n others e = sym (ap length (same_Some _ _ e)) ∙ ap suc (others behind refl)

as_many : (vs : List Value) (texts : List (List ℕ)) → texts_of (items_view vs) ≡ Some texts → length texts ≡ length vs
as_many [] texts e = sym (ap length (same_Some _ _ e))
as_many (v ∷ vs) texts e = one_longer (address_of (view v)) (texts_of (items_view vs)) texts (length vs) (as_many vs) e

and_false : (b : Bool) → (b && false) ≡ false
and_false true = refl
and_false false = refl

kept : (b : Bool) (texts : List (List ℕ)) → is_some (if b then Some texts else None) ≡ (b && true)
kept true texts = refl
kept false texts = refl

few_there : (n : ℕ) (found : Option (List (List ℕ))) → ((texts : List (List ℕ)) → found ≡ Some texts → length texts ≡ n)
    → is_some (option_and_then few found) ≡ ((nat_le 1 n && nat_le n 16) && is_some found)
few_there n None same = sym (and_false (nat_le 1 n && nat_le n 16))
few_there n (Some texts) same = kept (nat_le 1 (length texts) && nat_le (length texts) 16) texts ∙ ap (λ m. (nat_le 1 m && nat_le m 16) && true) (same texts refl)

given_by_list : (vs : List Value) → ((nat_le 1 (length vs) && nat_le (length vs) 16) && list_all (λ v. is_some (address_of (view v))) vs) ≡ is_some (list_of (items_view vs))
given_by_list vs =
    sym (few_there (length vs) (texts_of (items_view vs)) (as_many vs) ∙ ap (λ b. (nat_le 1 (length vs) && nat_le (length vs) 16) && b) (texts_there vs))

pub listed : (vs : List Value) (small all : Bool) → small ≡ (nat_le 1 (length vs) && nat_le (length vs) 16) → small ≡ true → all ≡ list_all (λ v. is_some (address_of (view v))) vs
    → all ≡ is_some (list_of (items_view vs))
listed vs small all counted so given = given ∙ ap (λ b. b && list_all (λ v. is_some (address_of (view v))) vs) (sym so ∙ counted) ∙ given_by_list vs

pub unlisted : (vs : List Value) (small : Bool) → small ≡ (nat_le 1 (length vs) && nat_le (length vs) 16) → small ≡ false → small ≡ is_some (list_of (items_view vs))
unlisted vs small counted so = so ∙ ap (λ b. b && list_all (λ v. is_some (address_of (view v))) vs) (sym so ∙ counted) ∙ given_by_list vs

pub same_by_array : (value : Data) (items : Items) → as_array value ≡ Some items → list_of items ≡ addresses_of value
same_by_array (array ds) items e = sym (ap list_of (same_Some _ _ e))
same_by_array (string text) items e = absurd (cc)
same_by_array (integer n) items e = absurd (cc)
same_by_array (float x) items e = absurd (cc)
same_by_array (boolean b) items e = absurd (cc)
same_by_array (datetime moment) items e = absurd (cc)
same_by_array (table entries) items e = absurd (cc)

pub same_alone : (value : Data) → as_array value ≡ None → option_map (λ text. text ∷ []) (address_of value) ≡ addresses_of value
same_alone (array ds) e = absurd (cc)
same_alone (string text) e = refl
same_alone (integer n) e = refl
same_alone (float x) e = refl
same_alone (boolean b) e = refl
same_alone (datetime moment) e = refl
same_alone (table entries) e = refl

one_there : (text : Option (List ℕ)) → is_some text ≡ is_some (option_map (λ first. first ∷ []) text)
one_there None = refl
one_there (Some first) = refl

pub given_by_array : (value : Data) (items : Items) → as_array value ≡ Some items → is_some (list_of items) ≡ is_some (addresses_of value)
given_by_array value items e = ap is_some (same_by_array value items e)

pub given_alone : (value : Data) → as_array value ≡ None → is_some (address_of value) ≡ is_some (addresses_of value)
given_alone value e = one_there (address_of value) ∙ ap is_some (same_alone value e)
