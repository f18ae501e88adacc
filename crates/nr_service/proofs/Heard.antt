-- When a client was heard last, over some steps, and who was opened.
use Rattle.std.proofs.Common.{◌≡◌, ℕ, zero, suc, ◌<◌, ◌≤◌, Bool, ◌⊎◌, inl, inr, List, [], ◌∷◌, ◌++◌, length, take, get_or, set, refl, ◌∙◌, ap, append-nil, append_assoc, sym, subst, arith}
use Rattle.std.specs.Prelude.{Option, Some, None}
use Rattle.std.proofs.lemmas.List.{length-append, length-take}
use Rattle.std.proofs.lemmas.List.Elements.{All-nil, All-cons, All-append}
use Rattle.nr_model.specs.Bytes.{Bytes}
use Rattle.nr_service.specs.Silence.{AreHeard, IsHeard, IsHeardBefore, IsHeardBehind, IsMore, OpensAt}
use Rattle.nr_service.specs.Streams.{GrowsBy}
use Rattle.nr_service.specs.declared.client.Client.{Client}

-- bytes came, or were taken
pub more_of : (count : ℕ) (bytes : Bytes) (old new : Option Bytes) → 0 < count → count ≤ length bytes → GrowsBy count bytes old new → IsMore old new
more_of count bytes None new some few grows = tt
more_of count bytes (Some before) new some few grows = (take count bytes, omega (arith, some, few, length-take count bytes), grows)

-- at least one and more
more_then : (x y z : Option Bytes) → IsMore x y → IsMore y z → IsMore x z
more_then None y z first next = tt
more_then (Some before) y z first next =
    let behind : IsMore (Some (before ++ first.0)) z = subst (λ (o : Option Bytes). IsMore o z) first.2 next in (
      first.0 ++ behind.0,
      omega (arith, first.1, length-append first.0 behind.0),
      behind.2 ∙ ap (λ (bytes : Bytes). Some bytes) (append_assoc before first.0 behind.0),
    )

-- one step behind another
pub heard_then : (now a b c : ℕ) (x y z : Option Bytes) → IsHeard now a b x y → IsHeard now b c y z → IsHeard now a c x z
heard_then now a b c x y z (inl was) (inl here) = inl (here.0, more_then x y z was.1 here.1)
heard_then now a b c x y z (inl was) (inr same) = inl (same.0 ∙ was.0, subst (λ (o : Option Bytes). IsMore x o) (sym same.1) was.1)
heard_then now a b c x y z (inr was) (inl here) = inl (here.0, subst (λ (o : Option Bytes). IsMore o z) was.1 here.1)
heard_then now a b c x y z (inr was) (inr same) = inr (same.0 ∙ was.0, same.1 ∙ was.1)

-- it wasn't read, or it was
pub heard_unread : (listens : Bool → Type 0) (now : ℕ) (is_new : Bool) (before after : ℕ) (known : Option Bytes) → IsHeardBefore listens now is_new before after
    → IsHeardBehind listens now is_new before after known known
heard_unread listens now is_new before after known (inl (is, inl new)) = inl (is, inl new)
heard_unread listens now is_new before after known (inl (is, inr listening)) = inl (is, inr (inl listening))
heard_unread listens now is_new before after known (inr same) = inr (same.0, refl, same.1, same.2)

pub heard_read : (listens : Bool → Type 0) (now : ℕ) (is_new : Bool) (a b c : ℕ) (x y : Option Bytes) → IsHeardBefore listens now is_new a b
    → IsHeard now b c x y → IsHeardBehind listens now is_new a c x y
heard_read listens now is_new a b c x y first (inl here) = inl (here.0, inr (inr here.1))
heard_read listens now is_new a b c x y (inl (is, inl new)) (inr same) = inl (same.0 ∙ is, inl new)
heard_read listens now is_new a b c x y (inl (is, inr listening)) (inr same) = inl (same.0 ∙ is, inr (inl listening))
heard_read listens now is_new a b c x y (inr was) (inr same) = inr (same.0 ∙ was.0, same.1, was.1, was.2)

-- at this moment, or as before
pub at_or_before : (now before after : ℕ) (x y : Option Bytes) → IsHeard now before after x y → (after ≡ now) ⊎ (after ≡ before)
at_or_before now before after x y (inl here) = inl here.0
at_or_before now before after x y (inr same) = inr same.0

pub read_or_before : (listens : Bool → Type 0) (now : ℕ) (is_new : Bool) (before after : ℕ) (x y : Option Bytes)
    → IsHeardBehind listens now is_new before after x y → (after ≡ now) ⊎ (after ≡ before)
read_or_before listens now is_new before after x y (inl here) = inl here.0
read_or_before listens now is_new before after x y (inr same) = inr same.0

-- each is as it was, one is at its place, and one step behind another
pub all_as_before : {S : Type 0} (now : ℕ) (clients : List (Client S)) → AreHeard now clients clients
all_as_before now [] = tt
all_as_before now (client ∷ clients) = (inr refl, all_as_before now clients)

pub one_heard : {S : Type 0} (now : ℕ) (clients : List (Client S)) (place : ℕ) (item new : Client S) → place < length clients
    → (new.heard ≡ now) ⊎ (new.heard ≡ (get_or clients place item).heard) → AreHeard now clients (set clients place new)
one_heard now [] place item new within is = absurd (omega arith)
one_heard now (client ∷ clients) zero item new within is = (is, all_as_before now clients)
one_heard now (client ∷ clients) (suc place) item new within is = (inr refl, one_heard now clients place item new (omega arith) is)

at_now : (now a b c : ℕ) → (b ≡ now) ⊎ (b ≡ a) → (c ≡ now) ⊎ (c ≡ b) → (c ≡ now) ⊎ (c ≡ a)
at_now now a b c was (inl here) = inl here
at_now now a b c (inl here) (inr same) = inl (same ∙ here)
at_now now a b c (inr was) (inr same) = inr (same ∙ was)

pub all_then : {S : Type 0} (now : ℕ) (xs ys zs : List (Client S)) → AreHeard now xs ys → AreHeard now ys zs → AreHeard now xs zs
all_then now [] [] zs first next = next
all_then now [] (y ∷ ys) zs first next = absurd first
all_then now (x ∷ xs) [] zs first next = absurd first
all_then now (x ∷ xs) (y ∷ ys) [] first next = absurd next
all_then now (x ∷ xs) (y ∷ ys) (z ∷ zs) first next = (at_now now x.heard y.heard z.heard first.0 next.0, all_then now xs ys zs first.1 next.1)

-- none was opened, or one was, and some behind others
pub opens_none : {S : Type 0} (now : ℕ) (clients : List (Client S)) → OpensAt now clients clients
opens_none now clients = record { opened = []; items = sym (append-nil clients); heard = All-nil (λ client. client.heard ≡ now) }

pub opens_one : {S : Type 0} (now : ℕ) (old new : List (Client S)) (client : Client S) → new ≡ old ++ client ∷ [] → client.heard ≡ now → OpensAt now old new
opens_one {S} now old new client items heard = record {
  opened = client ∷ [];
  items = items;
  heard = All-cons (λ (one : Client S). one.heard ≡ now) client [] heard (All-nil (λ (one : Client S). one.heard ≡ now));
}

pub opens_then : {S : Type 0} (now : ℕ) (xs ys zs : List (Client S)) → OpensAt now xs ys → OpensAt now ys zs → OpensAt now xs zs
opens_then {S} now xs ys zs first next = record {
  opened = first.opened ++ next.opened;
  items = next.items ∙ ap (λ (clients : List (Client S)). clients ++ next.opened) first.items ∙ append_assoc xs first.opened next.opened;
  heard = All-append (λ (one : Client S). one.heard ≡ now) first.opened next.opened first.heard next.heard;
}
