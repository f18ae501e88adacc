-- Connections that are dealt out one behind the other.
use Rattle.std.proofs.Common.{◌≡◌, ℕ, Bool, List, [], ◌∷◌, ◌++◌, Option, Some, None, refl, ap, sym, ◌∙◌, subst, append-nil, append_assoc}
use Rattle.std.specs.Option.{option_map}
use Rattle.nr_service.specs.Dealt.{Deals}
use Rattle.nr_service.specs.Steps.{next_number}
use Rattle.nr_crew.specs.Dealing.{AreDealt, DealsFrom, DealsOne, IsAdmitted, IsDealt}

both_dealt : (nodes workers a b c : ℕ) (xs ys : List (Option ℕ)) → AreDealt nodes workers a xs b → AreDealt nodes workers b ys c
    → AreDealt nodes workers a (xs ++ ys) c
both_dealt nodes workers a b c [] ys one two = subst (λ (n : ℕ). AreDealt nodes workers n ys c) one two
both_dealt nodes workers a b c (x ∷ xs) ys one two = (one.0, both_dealt nodes workers (next_number a) b c xs ys one.1 two)

deals_then : (xs ys : List (Option ℕ)) (old middle new : Option (List (Option ℕ))) → Deals xs old middle → Deals ys middle new → Deals (xs ++ ys) old new
deals_then xs ys None middle new one two = two ∙ ap (option_map (λ (before : List (Option ℕ)). before ++ ys)) one
deals_then xs ys (Some were) middle new one two =
    two ∙ ap (option_map (λ (before : List (Option ℕ)). before ++ ys)) one ∙ ap (λ (l : List (Option ℕ)). Some l) (append_assoc were xs ys)

deals_nothing : (old : Option (List (Option ℕ))) → Deals [] old old
deals_nothing None = refl
deals_nothing (Some were) = ap (λ (l : List (Option ℕ)). Some l) (sym (append-nil were))

pub deals_on : (nodes workers a b c : ℕ) (old middle new : Option (List (Option ℕ))) → DealsFrom nodes workers a b old middle
    → DealsFrom nodes workers b c middle new → DealsFrom nodes workers a c old new
deals_on nodes workers a b c old middle new one two = record {
  more = one.more ++ two.more;
  are = both_dealt nodes workers a b c one.more two.more one.are two.are;
  deals = deals_then one.more two.more old middle new one.deals two.deals;
}

pub deals_none : (nodes workers a : ℕ) (old : Option (List (Option ℕ))) → DealsFrom nodes workers a a old old
deals_none nodes workers a old = record { more = []; are = refl; deals = deals_nothing old }

-- nothing was dealt out meanwhile
pub deals_behind : (nodes workers a b : ℕ) (old same new : Option (List (Option ℕ))) → same ≡ old → DealsFrom nodes workers a b same new
    → DealsFrom nodes workers a b old new
deals_behind nodes workers a b old same new is d = subst (λ (o : Option (List (Option ℕ))). DealsFrom nodes workers a b o new) is d

pub deals_before : (nodes workers a b : ℕ) (old new same : Option (List (Option ℕ))) → same ≡ new → DealsFrom nodes workers a b old new
    → DealsFrom nodes workers a b old same
deals_before nodes workers a b old new same is d = subst (DealsFrom nodes workers a b old) (sym is) d

pub dealt_one : (nodes workers a : ℕ) (one : Option ℕ) (old new : Option (List (Option ℕ))) → IsDealt nodes workers a one → Deals (one ∷ []) old new
    → DealsFrom nodes workers a (next_number a) old new
dealt_one nodes workers a one old new is deals = record { more = one ∷ []; are = (is, refl); deals = deals }

is_dealt : (nodes workers a : ℕ) (admits : ℕ → Bool → Type 0) (one : Option ℕ) → IsAdmitted nodes workers a admits one → IsDealt nodes workers a one
is_dealt nodes workers a admits (Some lane) is = (is.0, is.1, is.2)
is_dealt nodes workers a admits None is = tt

pub deals_one : (nodes workers a : ℕ) (admits : ℕ → Bool → Type 0) (old new : Option (List (Option ℕ))) → DealsOne nodes workers a admits old new
    → DealsFrom nodes workers a (next_number a) old new
deals_one nodes workers a admits old new d = dealt_one nodes workers a d.one old new (is_dealt nodes workers a admits d.one d.is) d.deals
