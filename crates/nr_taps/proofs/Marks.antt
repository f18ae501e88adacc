-- Marks that have all met are of one log, and each keeps the later of two standings.
use Rattle.std.proofs.Common.{◌≡◌, ℕ, zero, suc, ◌+◌, ◌<◌, ◌≤◌, List, [], ◌∷◌, ◌++◌, length, inl, inr, Bool, true, false, cond, Option, None, Some, refl, ap, sym, ◌∙◌, subst, arith}
use Rattle.std.specs.Prelude.{◌==◌, ◌≢◌, IfSome, nat_le, option_to_list, slice_index_or, slice_set}
use Rattle.std.specs.List.{AllByRecursion}
use Rattle.std.proofs.lemmas.Bool.{cases_Bool, eqb-false, eqb-true, leb-false, leb-true}
use Rattle.std.proofs.lemmas.List.{get_or-set_other, get_or_default, length-set, set-get_or, set-set}
use Rattle.nr_model.specs.Bytes.{IsBeginningOf}
use Rattle.nr_model.proofs.NodesPartsEmitted.{begins_itself, none_begins}
use Rattle.nr_log_end.specs.declared.standing.Standing.{Standing}
use Rattle.nr_log_end.specs.declared.standing.LogEvent.{LogEvent}
use Rattle.nr_oplog.specs.declared.view.LogView.{LogView}
use Rattle.nr_oplog.specs.Plays.{AreComparable, AreOfOneLog, later_of}
use Rattle.nr_node.specs.Sound.{IsSound}
use Rattle.nr_taps.specs.Marks.{Adopts, HasMetFrom, IsMarked, MarkState, MeetsOthers, later_with, standings_of}
use Rattle.nr_taps.specs.Sequence.{AreAllOfOneLog}
use Rattle.nr_taps.specs.Taps.{HaveMet, standing_of}

-- each of these meets those behind it
abbrev pub AreMet : List MarkState → Type 0
AreMet marks = (place : ℕ) → place < length marks → MeetsOthers place marks

met_behind : (t : MarkState) (marks : List MarkState) → AreMet (t ∷ marks) → AreMet marks
met_behind t marks are = λ place below.
    let here : suc place < suc (length marks) = omega (arith, below) in
    let m = are (suc place) here in record {
      marked = λ d. m.marked d;
      met = λ d other e less there.
          let less' : suc place + 1 ≤ suc other = omega (arith, less) in
          let there' : suc other < suc (length marks) = omega (arith, there) in
          m.met d (suc other) e less' there';
    }

first_marked : (t : MarkState) (marks : List MarkState) → AreMet (t ∷ marks) → IsMarked t
first_marked t marks are =
    let some : 0 < suc (length marks) = omega arith in
    (are zero some).marked t

first_met : (t : MarkState) (marks : List MarkState) → AreMet (t ∷ marks) → (other : ℕ) (d : MarkState) → other < length marks
    → HaveMet t.standing (slice_index_or marks other d).standing
first_met t marks are other d below =
    let some : 0 < suc (length marks) = omega arith in
    let behind : 0 + 1 ≤ suc other = omega arith in
    let there : suc other < suc (length marks) = omega (arith, below) in
    (are zero some).met t (suc other) d behind there

-- the standings are sound
sound_first : (o : Option Standing) (more : List Standing) → IfSome o IsSound → AllByRecursion IsSound more → AllByRecursion IsSound (option_to_list o ++ more)
sound_first None more sound all = all
sound_first (Some s) more sound all = (sound, all)

pub sound_all : (marks : List MarkState) → AreMet marks → AllByRecursion IsSound (standings_of marks)
sound_all [] are = tt
sound_all (t ∷ marks) are =
    sound_first t.standing (standings_of marks) (first_marked t marks are) (sound_all marks (met_behind t marks are))

-- each two are of one log
one_log_with : (s : Standing) (o : Option Standing) (more : List Standing) → HaveMet (Some s) o → AllByRecursion (AreOfOneLog s) more
    → AllByRecursion (AreOfOneLog s) (option_to_list o ++ more)
one_log_with s None more met all = all
one_log_with s (Some t) more met all = (met, all)

one_log_behind : (s : Standing) (marks : List MarkState)
    → ((other : ℕ) (d : MarkState) → other < length marks → HaveMet (Some s) (slice_index_or marks other d).standing)
    → AllByRecursion (AreOfOneLog s) (standings_of marks)
one_log_behind s [] met = tt
one_log_behind s (t ∷ marks) met =
    let some : 0 < suc (length marks) = omega arith in
    one_log_with s t.standing (standings_of marks) (met zero t some)
    (one_log_behind s marks (λ other d below.
    let there : suc other < suc (length marks) = omega (arith, below) in
    met (suc other) d there))

one_log_first : (o : Option Standing) (marks : List MarkState) → ((other : ℕ) (d : MarkState) → other < length marks → HaveMet o (slice_index_or marks other d).standing)
    → AreAllOfOneLog (standings_of marks) → AreAllOfOneLog (option_to_list o ++ standings_of marks)
one_log_first None marks met all = all
one_log_first (Some s) marks met all = (one_log_behind s marks met, all)

pub one_log_all : (marks : List MarkState) → AreMet marks → AreAllOfOneLog (standings_of marks)
one_log_all [] are = tt
one_log_all (t ∷ marks) are = one_log_first t.standing marks (first_met t marks are) (one_log_all marks (met_behind t marks are))

-- what was taken out of a place is put back
pub put_back : {A : Type 0} (xs : List A) (place : ℕ) (d x y : A) → x ≡ slice_index_or xs place d → slice_set (slice_set xs place y) place x ≡ xs
put_back xs place d x y e = set-set xs place y x ∙ ap (slice_set xs place) e ∙ set-get_or xs place d

-- what stands in a place is written there
pub set_same : {A : Type 0} (xs : List A) (place : ℕ) (d x : A) → x ≡ slice_index_or xs place d → slice_set xs place x ≡ xs
set_same xs place d x e = ap (slice_set xs place) e ∙ set-get_or xs place d

-- one more was met
pub one_more_met : (from index : ℕ) (one now item : MarkState) (marks seen : List MarkState) → now ≡ one → seen ≡ marks → index < length marks
    → HasMetFrom from index one marks → HaveMet now.standing (slice_index_or seen index item).standing → HasMetFrom from (index + 1) one marks
one_more_met from index one now item marks seen now_is seen_is there met here = λ place d behind below.
    let own : HaveMet one.standing (slice_index_or marks index item).standing =
    subst (λ (t : MarkState). HaveMet t.standing (slice_index_or marks index item).standing) now_is
    (subst (λ (ts : List MarkState). HaveMet now.standing (slice_index_or ts index item).standing) seen_is here) in
    elim (cases_Bool (place == index)) [
      | inl same ↦
          let is : place ≡ index = eqb-true place index same in
          let at : slice_index_or marks index item ≡ slice_index_or marks place d =
          get_or_default marks index item d there ∙ ap (λ (n : ℕ). slice_index_or marks n d) (sym is) in
          subst (λ (t : MarkState). HaveMet one.standing t.standing) at own
      | inr other ↦
          let apart = eqb-false place index other in
          let less : place < index = omega (arith, below, apart) in
          met place d behind less
    ]

-- a mark that was taken out of its place met those behind it
pub meets_others : (place : ℕ) (marks : List MarkState) (one item other : MarkState) → place < length marks → one ≡ slice_index_or marks place item → IsMarked one
    → HasMetFrom (place + 1) (length (slice_set marks place other)) one (slice_set marks place other) → MeetsOthers place marks
meets_others place marks one item other there is marked met =
    let at = λ (d : MarkState). is ∙ get_or_default marks place item d there in
    let long : length (slice_set marks place other) ≡ length marks = length-set marks place other in record {
      marked = λ d. subst IsMarked (at d) marked;
      met = λ d k e behind below.
          let near : k < length (slice_set marks place other) = omega (arith, below, long) in
          let apart : k ≢ place = λ same. omega (arith, behind, same) in
          subst (λ (t : MarkState). HaveMet t.standing (slice_index_or marks k e).standing) (at d)
          (subst (λ (t : MarkState). HaveMet one.standing t.standing) (get_or-set_other marks place k other e apart) (met k e behind near));
    }

-- and one more place did
pub one_more_place : (marks now : List MarkState) (n : ℕ) → now ≡ marks → ((place : ℕ) → place < n → MeetsOthers place marks) → MeetsOthers n now
    → (place : ℕ) → place < n + 1 → MeetsOthers place marks
one_more_place marks now n now_is met here place below =
    elim (cases_Bool (place == n)) [
      | inl same ↦ subst (λ (k : ℕ). MeetsOthers k marks) (sym (eqb-true place n same)) (subst (MeetsOthers n) now_is here)
      | inr other ↦
          let apart = eqb-false place n other in
          let less : place < n = omega (arith, below, apart) in
          met place less
    ]

-- what holds of both holds of the later one, where it doesn't speak of tails
later_has : (P : Standing → Type 0) → ((x : Standing) (n : ℕ) → P x → P (record x { seen = n })) → (s t : Standing) (n : ℕ) (b : Bool) → P s → P t
    → P (record (cond b t s) { seen = n })
later_has P on s t n true p q = on t n q
later_has P on s t n false p q = on s n p

adopted_has : (P : Standing → Type 0) → ((x : Standing) (n : ℕ) → P x → P (record x { seen = n })) → (old : Option Standing) (t : Standing) (n : ℕ) → IfSome old P → P t
    → P (record (later_with old t) { seen = n })
adopted_has P on None t n kept here = on t n here
adopted_has P on (Some s) t n kept here = later_has P on s t n (nat_le (length s.history) (length t.history)) kept here

pub adopts_has : (P : Standing → Type 0) → ((x : Standing) (n : ℕ) → P x → P (record x { seen = n })) → (old new : Option Standing) (t : Standing) → IfSome old P → P t
    → Adopts old t new → IfSome new P
adopts_has P on old new t kept here a = subst (λ (o : Option Standing). IfSome o P) (sym a.1) (adopted_has P on old t a.0 kept here)

pub still_sound : (s : Standing) (n : ℕ) → IsSound s → IsSound (record s { seen = n })
still_sound s n sound = record { reads = sound.reads; numbered = sound.numbered; opened = sound.opened; entries = sound.entries; idle = sound.idle }

-- what was done by either was done by the later one
abbrev pub history_in : Option Standing → List LogEvent
history_in None = []
history_in (Some s) = s.history

abbrev Both : List LogEvent → List LogEvent → List LogEvent → Type 0
Both xs ys zs = IsBeginningOf xs zs × IsBeginningOf ys zs

later_begins : (s t : Standing) (b : Bool) (n : ℕ) → nat_le (length s.history) (length t.history) ≡ b → AreComparable s.history t.history
    → Both s.history t.history (record (cond b t s) { seen = n }).history
later_begins s t true n longer c = (c.0 (leb-true (length s.history) (length t.history) longer), begins_itself t.history)
later_begins s t false n shorter c =
    let more = leb-false (length s.history) (length t.history) shorter in
    (begins_itself s.history, c.1 (omega (arith, more)))

adopted_begins : (old : Option Standing) (t : Standing) (n : ℕ) → IfSome old (λ (s : Standing). s.node ≡ t.node) → HaveMet old (Some t)
    → Both (history_in old) t.history (record (later_with old t) { seen = n }).history
adopted_begins None t n node met = (none_begins t.history, begins_itself t.history)
adopted_begins (Some s) t n node met = later_begins s t (nat_le (length s.history) (length t.history)) n refl (met.1 node)

pub adopts_begins : (old new : Option Standing) (t : Standing) → IfSome old (λ (s : Standing). s.node ≡ t.node) → HaveMet old (Some t) → Adopts old t new
    → Both (history_in old) t.history (history_in new)
adopts_begins old new t node met a = subst (λ (o : Option Standing). Both (history_in old) t.history (history_in o)) (sym a.1) (adopted_begins old t a.0 node met)

-- the token that is held takes over what another one keeps
pub adopts_held : (held new : Option LogView) (last token now : LogView) → held ≡ Some last → new ≡ Some now
    → now.standing ≡ record (later_of last.standing token.standing) { seen = now.standing.seen } → Adopts (standing_of held) token.standing (standing_of new)
adopts_held held new last token now is new_is later = (
  now.standing.seen,
  ap standing_of new_is ∙ ap Some later ∙ ap (λ (o : Option LogView). Some (record (later_with (standing_of o) token.standing) { seen = now.standing.seen })) (sym is),
)

pub adopts_first : (held : Option LogView) (t : Standing) → held ≡ None → Adopts (standing_of held) t (Some t)
adopts_first held t is = subst (λ (o : Option LogView). Adopts (standing_of o) t (Some t)) (sym is) (t.seen, refl)

pub met_none : (held : Option LogView) (t : Standing) → held ≡ None → HaveMet (standing_of held) (Some t)
met_none held t is = subst (λ (o : Option LogView). HaveMet (standing_of o) (Some t)) (sym is) tt

pub met_held : (held : Option LogView) (last : LogView) (t : Standing) → held ≡ Some last → AreOfOneLog last.standing t → HaveMet (standing_of held) (Some t)
met_held held last t is met = subst (λ (o : Option LogView). HaveMet (standing_of o) (Some t)) (sym is) met

pub held_has : (P : Standing → Type 0) (held : Option LogView) (last : LogView) → held ≡ Some last → IfSome (standing_of held) P → P last.standing
held_has P held last is h = subst (λ (o : Option LogView). IfSome (standing_of o) P) is h

-- marks that met by their tokens
pub tokens_met : (t u : MarkState) (o p : Option LogView) (v w : LogView) → standing_of o ≡ t.standing → standing_of p ≡ u.standing → o ≡ Some v → p ≡ Some w
    → AreOfOneLog v.standing w.standing → HaveMet t.standing u.standing
tokens_met t u o p v w of_t of_u has_v has_w met =
    let first : t.standing ≡ Some v.standing = sym of_t ∙ ap standing_of has_v in
    let second : u.standing ≡ Some w.standing = sym of_u ∙ ap standing_of has_w in
    subst (λ (s : Option Standing). HaveMet s u.standing) (sym first) (subst (HaveMet (Some v.standing)) (sym second) met)
