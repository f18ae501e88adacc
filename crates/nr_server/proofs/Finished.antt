-- Lists of which one member after another changes, and who is let go of by that.
use Rattle.std.proofs.Common.{◌≡◌, ℕ, zero, suc, ◌+◌, ◌<◌, ◌≤◌, List, [], ◌∷◌, map, length, get_or, set, refl, sym, subst, arith, Option, ◌∙◌}
use Rattle.nr_crew.specs.Together.{AllPairs}
use Rattle.nr_crew.specs.declared.lane.WorkerEnd.{WorkerEnd}
use Rattle.nr_service.specs.Pollers.{Parting, Finished, PartsWith}
use Rattle.nr_service.specs.declared.client.Client.{Client}
use Rattle.nr_service.proofs.Closing.{parts_none, parts_then}
use Rattle.nr_server.specs.Parting.{HasParted, PartsFrom, PartsWithNone}

-- the first so many of these are so with those in their places, and the others are as they were
abbrev pub FirstPairs : {X : Type 0} → (X → X → Type 0) → ℕ → List X → List X → Type 0
FirstPairs R zero olds news = olds ≡ news
FirstPairs R (suc n) [] [] = Unit {0}
FirstPairs R (suc n) [] (new ∷ news) = ⊥
FirstPairs R (suc n) (old ∷ olds) [] = ⊥
FirstPairs R (suc n) (old ∷ olds) (new ∷ news) = R old new × FirstPairs R n olds news

module _ {X : Type 0} (R : X → X → Type 0) where
  first_one : (xs : List X) (x d : X) → 0 < length xs → R (get_or xs 0 d) x → FirstPairs R 1 xs (set xs 0 x)
  first_one [] x d k f = absurd (omega arith)
  first_one (y ∷ ys) x d k f = (f, refl)

  further : (n : ℕ) (olds news : List X) (x d : X) → FirstPairs R n olds news → n < length news → R (get_or news n d) x → FirstPairs R (suc n) olds (set news n x)
  further zero olds news x d h k f = subst (λ (xs : List X). FirstPairs R 1 xs (set news 0 x)) (sym h) (first_one news x d k f)
  further (suc n) [] [] x d h k f = absurd (omega arith)
  further (suc n) [] (new ∷ news) x d h k f = absurd h
  further (suc n) (old ∷ olds) [] x d h k f = absurd h
  further (suc n) (old ∷ olds) (new ∷ news) x d h k f = (h.0, further n olds news x d h.1 (omega arith) f)

  pub one_more : (n : ℕ) (olds news : List X) (x d : X) → FirstPairs R n olds news → n < length news → R (get_or news n d) x
      → FirstPairs R (n + 1) olds (set news n x)
  one_more n olds news x d h k f =
      let e : suc n ≡ n + 1 = omega arith in
      subst (λ m. FirstPairs R m olds (set news n x)) e (further n olds news x d h k f)

  pub all_of : (n : ℕ) (olds news : List X) → length news ≤ n → FirstPairs R n olds news → AllPairs R olds news
  all_of zero [] [] k h = tt
  all_of zero [] (new ∷ news) k h = absurd (omega arith)
  all_of zero (old ∷ olds) [] k h = absurd (cc h)
  all_of zero (old ∷ olds) (new ∷ news) k h = absurd (omega arith)
  all_of (suc n) [] [] k h = tt
  all_of (suc n) [] (new ∷ news) k h = absurd h
  all_of (suc n) (old ∷ olds) [] k h = absurd h
  all_of (suc n) (old ∷ olds) (new ∷ news) k h = (h.0, all_of n olds news (omega arith) h.1)

module _ {S D M : Type 0} (parted : D → Option (List (Parting S))) where
  none_beside : (a b c : WorkerEnd S D M) → HasParted parted a b → PartsWithNone parted b c → HasParted parted a c
  none_beside a b c h w = record {
    none = w.same ∙ h.none;
    parts = subst (λ (known : Option (List (Parting S))). PartsFrom a.clients.items (parted a.device) known) (sym w.parts_none) h.parts;
  }

  -- what waits parts with nobody more
  pub still_parted : (xs ys zs : List (WorkerEnd S D M)) → AllPairs (HasParted parted) xs ys → AllPairs (PartsWithNone parted) ys zs → AllPairs (HasParted parted) xs zs
  still_parted [] [] [] h w = tt
  still_parted [] [] (z ∷ zs) h w = absurd w
  still_parted [] (y ∷ ys) zs h w = absurd h
  still_parted (x ∷ xs) [] zs h w = absurd h
  still_parted (x ∷ xs) (y ∷ ys) [] h w = absurd w
  still_parted (x ∷ xs) (y ∷ ys) (z ∷ zs) h w = (none_beside x y z h.0 w.0, still_parted xs ys zs h.1 w.1)

-- what is to be let go of yet is so behind the one that was just let go of
pub parts_one_more : {S : Type 0} (client : Client S) (left rest : List (Client S)) (a b c : Option (List (Parting S))) → left ≡ client ∷ rest
    → PartsWith (Finished client.stream ∷ []) a b → PartsFrom rest b c → PartsFrom left a c
parts_one_more {S} client left rest a b c is one more =
    subst (λ (clients : List (Client S)). PartsFrom clients a c) (sym is)
    (parts_then (Finished client.stream ∷ []) (map Finished (map (λ (one : Client S). one.stream) rest)) a b c one more)

-- and none are to be yet
pub parts_no_more : {S : Type 0} (left : List (Client S)) (known : Option (List (Parting S))) → length left ≡ 0 → PartsFrom left known known
parts_no_more [] known none = parts_none known
parts_no_more (client ∷ left) known none = absurd (omega arith)
