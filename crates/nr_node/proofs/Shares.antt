-- What a node's end keeps of its own entries.
use Rattle.std.proofs.Common.{◌≡◌, ℕ, zero, suc, ◌<◌, ◌≤◌, inl, inr, drop, List, [], ◌∷◌, ◌++◌, length, Option, Some, None, refl, ap, sym, ◌∙◌, subst, arith, append_assoc}
use Rattle.std.proofs.lemmas.List.{append-nil}
use Rattle.std.specs.Prelude.{slice_index_or, option_to_list, map, IfSome}
use Rattle.std.specs.List.{AllByRecursion, slice_get}
use Rattle.nr_entry.specs.declared.entry.Entry.{Entry}
use Rattle.nr_entry.specs.Shares.{shares_of}
use Rattle.nr_log_end.specs.declared.standing.Standing.{Standing}
use Rattle.nr_log_end.specs.Standings.{reservation, IsSharesFor, LooksOn}
use Rattle.nr_log_end.specs.declared.standing.Load.{Load}
use Rattle.nr_log_end.specs.declared.standing.Load.TheVariants.{Tail}
use Rattle.nr_oplog.specs.Calls.{LoadsCounts, IsLeastOf, loads_from}
use Rattle.nr_oplog.specs.declared.view.LogView.{LogView}
use Rattle.nr_entry.specs.declared.job.Job.{Job}
use Rattle.nr_node.specs.Advanced.{HasNoted, HasPassed, MeetsNoTail}
use Rattle.nr_node.specs.Reserved.{HasMet, IsReserved}
use Rattle.nr_node.specs.OwnEntries.{OwnState, last_number, AreLast, AreBelow, Frees, IsFirst, IsFromOn, IsSeenPassed, LetsGo}

-- what was seen is seen on
seen_on : (nodes number : ℕ) (looks more after : List Load) → after ≡ looks ++ more → IsSeenPassed nodes looks number → IsSeenPassed nodes after number
seen_on nodes number looks more after is p = record {
  before = p.before;
  counts = p.counts;
  behind = p.behind ++ more;
  loaded = is ∙ ap (λ (ls : List Load). ls ++ more) p.loaded ∙ append_assoc p.before (loads_from 0 p.counts ++ p.behind) more
      ∙ ap (λ (ls : List Load). p.before ++ ls) (append_assoc (loads_from 0 p.counts) p.behind more);
  all = p.all;
  above = p.above;
}

all_seen_on : (nodes : ℕ) (looks more after : List Load) (gone : List (ℕ × Entry)) → after ≡ looks ++ more
    → AllByRecursion (λ (one : ℕ × Entry). IsSeenPassed nodes looks one.0) gone → AllByRecursion (λ (one : ℕ × Entry). IsSeenPassed nodes after one.0) gone
all_seen_on nodes looks more after [] is all = tt
all_seen_on nodes looks more after (one ∷ gone) is all = (seen_on nodes one.0 looks more after is all.0, all_seen_on nodes looks more after gone is all.1)

all_both : {A : Type 0} (P : A → Type 0) (xs ys : List A) → AllByRecursion P xs → AllByRecursion P ys → AllByRecursion P (xs ++ ys)
all_both P [] ys all more = more
all_both P (x ∷ xs) ys all more = (all.0, all_both P xs ys all.1 more)

-- they are so of whoever has the same reservations, and made more loads
pub still_last : (own : OwnState) (v w : LogView) → w.standing.reservations ≡ v.standing.reservations → w.standing.nodes ≡ v.standing.nodes
    → (more : List Load) × (w.looks ≡ v.looks ++ more) → AreLast own v → AreLast own w
still_last own v w same nodes more last = (
  last.0,
  last.1 ∙ sym same,
  subst (λ (n : ℕ). AllByRecursion (λ (one : ℕ × Entry). IsSeenPassed n w.looks one.0) last.0) (sym nodes)
      (all_seen_on v.standing.nodes v.looks more.0 w.looks last.0 more.1 last.2),
  last.3 ∙ ap last_number (sym same),
)

pub none_last : (own : OwnState) (v : LogView) → own ≡ record { kept = []; last = None } → v.standing.reservations ≡ [] → AreLast own v
none_last own v none nothing = ([], ap (λ (o : OwnState). o.kept) none ∙ sym nothing, tt, ap (λ (o : OwnState). o.last) none ∙ ap last_number (sym nothing))

-- one was reserved, and a share of it is kept
pub first_of : (at : ℕ) (shares : List (Option Entry)) (e : Entry) → slice_index_or shares 0 None ≡ Some e → reservation at shares ≡ (at, e) ∷ []
first_of at [] e is = absurd (cc is)
first_of at (share ∷ shares) e is = ap (λ (o : Option Entry). map (λ (entry : Entry). (at, entry)) (option_to_list o)) is

last_behind : (rs : List (ℕ × Entry)) (r : ℕ × Entry) → last_number (rs ++ r ∷ []) ≡ Some r.0
last_behind [] r = refl
last_behind (q ∷ []) r = refl
last_behind (q ∷ (next ∷ rs)) r = last_behind (next ∷ rs) r

pub kept_more : (own new : OwnState) (at : ℕ) (shares : List (Option Entry)) (e : Entry) (v w : LogView) → slice_index_or shares 0 None ≡ Some e
    → new ≡ record { kept = own.kept ++ reservation at shares; last = Some at }
    → w.standing.reservations ≡ v.standing.reservations ++ reservation at shares → w.standing.nodes ≡ v.standing.nodes → (more : List Load) × (w.looks ≡ v.looks ++ more)
    → AreLast own v → AreLast new w
kept_more own new at shares e v w first is longer nodes more last = (
  last.0,
  ap (λ (o : OwnState). last.0 ++ o.kept) is ∙ sym (append_assoc last.0 own.kept (reservation at shares))
      ∙ ap (λ (rs : List (ℕ × Entry)). rs ++ reservation at shares) last.1 ∙ sym longer,
  subst (λ (n : ℕ). AllByRecursion (λ (one : ℕ × Entry). IsSeenPassed n w.looks one.0) last.0) (sym nodes)
      (all_seen_on v.standing.nodes v.looks more.0 w.looks last.0 more.1 last.2),
  ap (λ (o : OwnState). o.last) is ∙ sym (ap last_number (longer ∙ ap (λ (rs : List (ℕ × Entry)). v.standing.reservations ++ rs) (first_of at shares e first))
      ∙ last_behind v.standing.reservations (at, e)),
)

-- some of the first are let go of, which were seen to be passed
seen_below : (nodes least number : ℕ) (looks before behind after : List Load) (counts : List ℕ) → after ≡ looks ++ (before ++ (loads_from 0 counts ++ behind))
    → length counts ≡ nodes → IsLeastOf least counts → number < least → IsSeenPassed nodes after number
seen_below nodes least number looks before behind after counts loaded every is under = record {
  before = looks ++ before;
  counts = counts;
  behind = behind;
  loaded = loaded ∙ sym (append_assoc looks before (loads_from 0 counts ++ behind));
  all = every;
  above = λ node near. let most = is.0 node near in omega (arith, under, most);
}

all_seen_below : (nodes least : ℕ) (looks before behind after : List Load) (counts : List ℕ) (gone : List (ℕ × Entry)) → after ≡ looks ++ (before ++ (loads_from 0 counts ++ behind))
    → length counts ≡ nodes → IsLeastOf least counts → AreBelow least gone → AllByRecursion (λ (one : ℕ × Entry). IsSeenPassed nodes after one.0) gone
all_seen_below nodes least looks before behind after counts [] loaded every is below = tt
all_seen_below nodes least looks before behind after counts (one ∷ gone) loaded every is below = (
  seen_below nodes least one.0 looks before behind after counts loaded every is below.0,
  all_seen_below nodes least looks before behind after counts gone loaded every is below.1,
)

pub freed_last : (old new : OwnState) (v w : LogView) → Frees old.kept new.kept v.standing.nodes v.looks w.looks → new.last ≡ old.last
    → w.standing.reservations ≡ v.standing.reservations → w.standing.nodes ≡ v.standing.nodes → (more : List Load) × (w.looks ≡ v.looks ++ more) → AreLast old v → AreLast new w
freed_last old new v w (inl none) still same nodes more last =
    let here = still_last old v w same nodes more last in
    (here.0, ap (λ (xs : List (ℕ × Entry)). here.0 ++ xs) (none.1 ∙ sym none.0) ∙ here.1, here.2, still ∙ here.3)
freed_last old new v w (inr by) still same nodes more last = (
  last.0 ++ by.gone,
  append_assoc last.0 by.gone new.kept ∙ ap (λ (rs : List (ℕ × Entry)). last.0 ++ rs) by.all ∙ last.1 ∙ sym same,
  subst (λ (n : ℕ). AllByRecursion (λ (one : ℕ × Entry). IsSeenPassed n w.looks one.0) (last.0 ++ by.gone)) (sym nodes)
      (all_both (λ (one : ℕ × Entry). IsSeenPassed v.standing.nodes w.looks one.0) last.0 by.gone
      (all_seen_on v.standing.nodes v.looks more.0 w.looks last.0 more.1 last.2)
      (all_seen_below v.standing.nodes by.least v.looks by.before by.behind w.looks by.counts by.gone by.loaded by.every by.is_least by.below)),
  still ∙ last.3 ∙ ap last_number (sym same),
)

-- the steps of a node
pub went_last : (es : List Entry) (old new : OwnState) (v w : LogView) → HasPassed es v.standing w.standing → Frees old.kept new.kept v.standing.nodes v.looks w.looks
    → new.last ≡ old.last → (more : List Load) × (w.looks ≡ v.looks ++ (Tail w.standing.seen ∷ more)) → AreLast old v → AreLast new w
went_last es old new v w passed freed still more last =
    freed_last old new v w freed still (ap (λ (s : Standing). s.reservations) passed.standing) (ap (λ (s : Standing). s.nodes) passed.standing)
    (Tail w.standing.seen ∷ more.0, more.1) last

pub reached_last : (es : List Entry) (own : OwnState) (v w : LogView) → HasPassed es v.standing w.standing → MeetsNoTail v w → AreLast own v → AreLast own w
reached_last es own v w passed met last =
    still_last own v w (ap (λ (s : Standing). s.reservations) passed.standing) (ap (λ (s : Standing). s.nodes) passed.standing) met.1 last

pub ended_last : (kept : OwnState) (v w : LogView) → w ≡ v → AreLast kept v → AreLast kept w
ended_last kept v w same last = subst (AreLast kept) (sym same) last

pub noted_last : (kept : OwnState) (ran : List Job) (v w : LogView) → HasNoted ran v.standing w.standing
    → (more : List Load) × (length more ≤ 1) × (w.looks ≡ v.looks ++ more) → AreLast kept v → AreLast kept w
noted_last kept ran v w noted more last =
    still_last kept v w (ap (λ (s : Standing). s.reservations) noted.standing) (ap (λ (s : Standing). s.nodes) noted.standing) (more.0, more.2) last

pub stood_last : (kept : OwnState) (v w : LogView) → w.standing ≡ v.standing → w.looks ≡ v.looks → AreLast kept v → AreLast kept w
stood_last kept v w same looks last =
    still_last kept v w (ap (λ (s : Standing). s.reservations) same) (ap (λ (s : Standing). s.nodes) same) ([], looks ∙ sym (append-nil v.looks)) last

pub looked_last : (kept : OwnState) (v w : LogView) (tail : ℕ) → LooksOn v.standing w.standing → w.looks ≡ v.looks ++ Tail tail ∷ [] → AreLast kept v → AreLast kept w
looked_last kept v w tail on looks last =
    still_last kept v w (ap (λ (s : Standing). s.reservations) on.1) (ap (λ (s : Standing). s.nodes) on.1) (Tail tail ∷ [], looks) last

pub met_last : (kept new : OwnState) (v w : LogView) → new ≡ kept → HasMet v.standing w.standing → (more : List Load) × (w.looks ≡ v.looks ++ more)
    → AreLast kept v → AreLast new w
met_last kept new v w same met more last =
    subst (λ (o : OwnState). AreLast o w) (sym same)
    (still_last kept v w (ap (λ (s : Standing). s.reservations) met.standing) (ap (λ (s : Standing). s.nodes) met.standing) more last)

pub reserved_more : (v w : LogView) (at : ℕ) (shares : List (Option Entry)) → IsReserved at shares v.standing w.standing
    → w.standing.reservations ≡ v.standing.reservations ++ reservation at shares
reserved_more v w at shares r = ap (λ (s : Standing). s.reservations) r.standing

pub reserved_nodes : (v w : LogView) (at : ℕ) (shares : List (Option Entry)) → IsReserved at shares v.standing w.standing → w.standing.nodes ≡ v.standing.nodes
reserved_nodes v w at shares r = ap (λ (s : Standing). s.nodes) r.standing

-- a call that lets go, between a load of the tail and others
pub lets_free : (old new : List (ℕ × Entry)) (u v w x : LogView) (tail : ℕ) → v.looks ≡ u.looks ++ Tail tail ∷ [] → v.standing.nodes ≡ u.standing.nodes
    → LetsGo old new v w → (more : List Load) × (x.looks ≡ w.looks ++ more) → Frees old new u.standing.nodes u.looks x.looks
lets_free old new u v w x tail loaded nodes (inl none) met = inl (none.0, none.1)
lets_free old new u v w x tail loaded nodes (inr by) met = inr record {
  before = Tail tail ∷ [];
  counts = w.met;
  behind = met.0;
  loaded = met.1 ∙ ap (λ (ls : List Load). ls ++ met.0) (ap (λ (y : LogView). y.looks) by.loads.loads ∙ ap (λ (ls : List Load). ls ++ loads_from 0 w.met) loaded)
      ∙ append_assoc (u.looks ++ Tail tail ∷ []) (loads_from 0 w.met) met.0 ∙ append_assoc u.looks (Tail tail ∷ []) (loads_from 0 w.met ++ met.0);
  every = by.loads.counts ∙ nodes;
  least = by.least;
  is_least = by.is_least;
  gone = by.gone;
  all = by.all;
  below = by.below;
  left = by.left;
}

pub lets_stand : (old new : List (ℕ × Entry)) (v w : LogView) → LetsGo old new v w → w.standing ≡ v.standing
lets_stand old new v w (inl none) = ap (λ (x : LogView). x.standing) none.2
lets_stand old new v w (inr by) = ap (λ (x : LogView). x.standing) by.loads.loads

pub lets_look : (old new : List (ℕ × Entry)) (v w : LogView) → LetsGo old new v w → (more : List Load) × (w.looks ≡ v.looks ++ more)
lets_look old new v w (inl none) = ([], ap (λ (x : LogView). x.looks) none.2 ∙ sym (append-nil v.looks))
lets_look old new v w (inr by) = (loads_from 0 w.met, ap (λ (x : LogView). x.looks) by.loads.loads)

pub none_go : (old new : List (ℕ × Entry)) (v w : LogView) → old ≡ [] → new ≡ old → w ≡ v → LetsGo old new v w
none_go old new v w none same still = inl (none, same ∙ none, still)

pub some_go : (old new : List (ℕ × Entry)) (v w : LogView) (least : ℕ) → LoadsCounts v w → IsLeastOf least w.met
    → (gone : List (ℕ × Entry)) × (gone ++ new ≡ old) × AreBelow least gone → IfSome (slice_get new 0) (IsFromOn least) → LetsGo old new v w
some_go old new v w least loads is (gone, all, below) left =
    inr record { least = least; loads = loads; is_least = is; gone = gone; all = all; below = below; left = left }

-- the first one
pub first_is : (items : List (ℕ × Entry)) (x : ℕ × Entry) → 0 < length items → x ≡ slice_index_or items 0 x → slice_get items 0 ≡ Some x
first_is [] x some is = absurd (omega (arith, some))
first_is (y ∷ items) x some is = ap Some (sym is)

pub first_taken : (items rest : List (ℕ × Entry)) (x : ℕ × Entry) → slice_get items 0 ≡ Some x → rest ≡ drop 1 items → x ∷ rest ≡ items
first_taken [] rest x is left = absurd (cc is)
first_taken (y ∷ items) rest x is left =
    let same : y ≡ x = cc is in
    λ i. sym same i ∷ left i

-- those taken out so far
pub record HasTakenOut (least : ℕ) (old now : List (ℕ × Entry)) : Type 0 where
  pub gone : List (ℕ × Entry)
  pub all : gone ++ now ≡ old
  pub below : AreBelow least gone

pub none_out : (least : ℕ) (old : List (ℕ × Entry)) → HasTakenOut least old old
none_out least old = record { gone = []; all = refl; below = tt }

below_more : (least : ℕ) (gone : List (ℕ × Entry)) (one : ℕ × Entry) → AreBelow least gone → one.0 < least → AreBelow least (gone ++ one ∷ [])
below_more least [] one all near = (near, tt)
below_more least (x ∷ gone) one all near = (all.0, below_more least gone one all.1 near)

pub one_out : (least : ℕ) (old now new : List (ℕ × Entry)) → HasTakenOut least old now → (one : ℕ × Entry) × (one ∷ new ≡ now) × (one.0 < least) → HasTakenOut least old new
one_out least old now new so (one, is, near) = record {
  gone = so.gone ++ one ∷ [];
  all = append_assoc so.gone (one ∷ []) new ∙ ap (λ (xs : List (ℕ × Entry)). so.gone ++ xs) is ∙ so.all;
  below = below_more least so.gone one so.below near;
}

-- there is a share of an entry for the first of its nodes
pub one_of_all : (e : Entry) (nodes : ℕ) → 0 < nodes → IsFirst (shares_of e nodes)
one_of_all e zero some = absurd (omega (arith, some))
one_of_all e (suc nodes) some = (omega arith, (e, refl))

pub first_there : (s : Standing) (shares : List (Option Entry)) → 0 < s.nodes → IsSharesFor s shares → IsFirst shares
first_there s shares some are = subst IsFirst (sym are.1) (one_of_all are.0 s.nodes some)
