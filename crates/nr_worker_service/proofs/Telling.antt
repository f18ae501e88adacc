-- A story that goes on tells of what a worker's connections have become.
use Rattle.std.proofs.Common.{◌≡◌, ℕ, ◌≤◌, ◌<◌, inl, inr, Bool, true, false, cond, List, [], ◌∷◌, ◌++◌, map, Contains, None, Some, refl, ap, sym, ◌∙◌, subst, append-nil, arith, true≢false}
use Rattle.std.specs.Prelude.{◌⊎◌, ◌==◌, ◌&&◌, ◌||◌}
use Rattle.std.specs.List.{AllByRecursion}
use Rattle.std.proofs.lemmas.Bool.{eqb-true}
use Rattle.std.proofs.lemmas.List.{map-append}
use Rattle.std.proofs.lemmas.List.Elements.{Contains-append_left, Contains-append_right, filter-append}
use Rattle.std.proofs.lemmas.List.Folds.{list_any-append}
use Rattle.nr_model.specs.Bytes.{Bytes}
use Rattle.nr_model.specs.Items.{Connection, Item, same_connection}
use Rattle.nr_model.specs.Connections.{Feeding, fed_to, handed_to}
use Rattle.nr_model.proofs.Exchanged.{handed_to-append}
use Rattle.nr_model.proofs.JobLists.{All-append}
use Rattle.nr_service.specs.Stories.{Closing, Occurrence, Opened, Fed, opened_in, fed_in, handed_in, closings_in, is_among}
use Rattle.nr_service.proofs.Occurrences.{opened_both, fed_both, handed_both, closings_both}
use Rattle.nr_worker.specs.Worker.{WorkerState, Served}
use Rattle.nr_worker.specs.Law.{GoesTo}
use Rattle.nr_worker.specs.Working.{all_ended, connections_of, ended_more}
use Rattle.nr_worker_service.specs.Told.{close_by, closings_of, feeds_to, IsTold, IsUntold, Tells, Was, WasAtFeeds}
use Rattle.nr_worker_service.proofs.Lists.{each_mapped, each_weaker, goes_further}

-- ---- Bools
pub front_false : (a b : Bool) → (a || b) ≡ false → a ≡ false
front_false true b is = absurd (true≢false is)
front_false false b is = refl

pub back_false : (a b : Bool) → (a || b) ≡ false → b ≡ false
back_false true b is = absurd (true≢false is)
back_false false b is = is

never : (a : Bool) → (a && false) ≡ false
never true = refl
never false = refl

-- ---- who is among connections
pub among_front : (c : Connection) (xs ys : List Connection) → is_among c (xs ++ ys) ≡ false → is_among c xs ≡ false
among_front c xs ys absent =
    front_false (is_among c xs) (is_among c ys) (sym (list_any-append (λ (other : Connection). same_connection other c) xs ys) ∙ absent)

pub among_back : (c : Connection) (xs ys : List Connection) → is_among c (xs ++ ys) ≡ false → is_among c ys ≡ false
among_back c xs ys absent =
    back_false (is_among c xs) (is_among c ys) (sym (list_any-append (λ (other : Connection). same_connection other c) xs ys) ∙ absent)

-- none of these is one that isn't among them
pub none_among : (served : List Served) (c : Connection) → is_among c (connections_of served) ≡ false
    → AllByRecursion (λ (x : Served). same_connection x.connection c ≡ false) served
none_among [] c absent = tt
none_among (x ∷ served) c absent = (
  front_false (same_connection x.connection c) (is_among c (connections_of served)) absent,
  none_among served c (back_false (same_connection x.connection c) (is_among c (connections_of served)) absent),
)

serials_differ : (a b : ℕ) → a < b → (a == b) ≡ false
serials_differ a b below = elim (a == b) as (λ t. (a == b) ≡ t → t ≡ false) [
  | true ↦ λ same. absurd (let e = eqb-true a b same in omega (arith, below, e))
  | false ↦ λ other. refl
] refl

-- one with a later serial than all of these isn't among them
pub absent_above : (served : List Served) (c : Connection) (next : ℕ) → next ≤ c.serial → AllByRecursion (λ (x : Served). x.connection.serial < next) served
    → is_among c (connections_of served) ≡ false
absent_above [] c next later below = refl
absent_above (x ∷ served) c next later below =
    (λ i. ((x.connection.node == c.node) && serials_differ x.connection.serial c.serial (omega (arith, later, below.0)) i) || is_among c (connections_of served))
    ∙ (λ i. never (x.connection.node == c.node) i || is_among c (connections_of served)) ∙ absent_above served c next later below.1

-- ---- what is told of one
-- its last job is the one that it had, or a close at that job's moment is among these
abbrev pub IsClosedBy : List Occurrence → Served → Served → Type 0
IsClosedBy more x y = (job : Item) → y.closing ≡ Some job → (x.closing ≡ Some job) ⊎ Contains (closings_in more) (close_by x.connection job)

told_on : (occurrences more : List Occurrence) (x y : Served) → y.connection ≡ x.connection → y.fed ≡ x.fed ++ feeds_to x.connection (fed_in more)
    → y.handed ≡ x.handed ++ handed_to x.connection (handed_in more) → IsClosedBy more x y → IsTold occurrences x → IsTold (occurrences ++ more) y
told_on occurrences more x y same fed handed closed t =
    let c = x.connection in
    let test = λ (feeding : Feeding). same_connection feeding.connection c in
    let was = fed_in occurrences in
    let had = handed_in occurrences in
    record {
      fed = subst (λ (d : Connection). y.fed ≡ feeds_to d (fed_in (occurrences ++ more))) (sym same)
          (fed ∙ ap (λ (l : List Feeding). l ++ feeds_to c (fed_in more)) t.fed ∙ sym (filter-append test was (fed_in more))
          ∙ ap (feeds_to c) (sym (fed_both occurrences more)));
      handed = subst (λ (d : Connection). y.handed ≡ handed_to d (handed_in (occurrences ++ more))) (sym same)
          (handed ∙ ap (λ (b : Bytes). b ++ handed_to c (handed_in more)) t.handed ∙ sym (handed_to-append c had (handed_in more))
          ∙ ap (handed_to c) (sym (handed_both occurrences more)));
      closed = λ job is.
          let were = closings_in occurrences in
          let here = closings_in more in
          subst (λ (d : Connection). Contains (closings_in (occurrences ++ more)) (close_by d job)) (sym same)
          (subst (λ (l : List Closing). Contains l (close_by c job)) (sym (closings_both occurrences more))
          (elim (closed job is) [
            | inl was ↦ Contains-append_left were here (close_by c job) (t.closed job was)
            | inr now ↦ Contains-append_right were here (close_by c job) now
          ]));
    }

untold_on : (occurrences more : List Occurrence) (c : Connection) → feeds_to c (fed_in more) ≡ [] → handed_to c (handed_in more) ≡ []
    → closings_of c (closings_in more) ≡ [] → IsUntold occurrences c → IsUntold (occurrences ++ more) c
untold_on occurrences more c fed handed closed u =
    let test = λ (feeding : Feeding). same_connection feeding.connection c in
    let closes = λ (closing : Closing). same_connection closing.connection c in
    record {
      fed = ap (feeds_to c) (fed_both occurrences more) ∙ filter-append test (fed_in occurrences) (fed_in more)
          ∙ (λ i. u.fed i ++ fed i);
      handed = ap (handed_to c) (handed_both occurrences more) ∙ handed_to-append c (handed_in occurrences) (handed_in more)
          ∙ (λ i. u.handed i ++ handed i);
      closed = ap (closings_of c) (closings_both occurrences more) ∙ filter-append closes (closings_in occurrences) (closings_in more)
          ∙ (λ i. u.closed i ++ closed i);
    }

-- no bytes were fed where nothing was
pub nothing_fed : (c : Connection) (feeds : List Feeding) → feeds_to c feeds ≡ [] → fed_to c feeds ≡ []
nothing_fed c [] none = refl
nothing_fed c (feeding ∷ feeds) none = elim (same_connection feeding.connection c) as
    (λ b. cond b (feeding ∷ feeds_to c feeds) (feeds_to c feeds) ≡ [] → cond b (feeding.bytes ++ fed_to c feeds) (fed_to c feeds) ≡ []) [
      | true ↦ λ is. absurd (cc is)
      | false ↦ λ is. nothing_fed c feeds is
    ] none

-- ---- what is told of all
same_connections : (f : Served → Served) (xs : List Served) → ((x : Served) → (f x).connection ≡ x.connection) → connections_of (map f xs) ≡ connections_of xs
same_connections f [] same = refl
same_connections f (x ∷ xs) same = λ i. same x i ∷ same_connections f xs same i

-- nothing more is told of others
abbrev pub NoneElse : List Occurrence → List Occurrence → Type 0
NoneElse occurrences more = (c : Connection) → is_among c (opened_in occurrences) ≡ false
    → (feeds_to c (fed_in more) ≡ []) × (handed_to c (handed_in more) ≡ []) × (closings_of c (closings_in more) ≡ [])

pub tells_map : (occurrences more : List Occurrence) (f : Served → Served) (xs : List Served) → opened_in more ≡ []
    → ((x : Served) → (f x).connection ≡ x.connection) → ((x : Served) → (f x).fed ≡ x.fed ++ feeds_to x.connection (fed_in more))
    → ((x : Served) → (f x).handed ≡ x.handed ++ handed_to x.connection (handed_in more)) → ((x : Served) → IsClosedBy more x (f x))
    → NoneElse occurrences more → Tells occurrences xs → Tells (occurrences ++ more) (map f xs)
tells_map occurrences more f xs none same fed handed closed else t =
    let still : opened_in (occurrences ++ more) ≡ opened_in occurrences =
    opened_both occurrences more ∙ ap (λ (l : List Connection). opened_in occurrences ++ l) none ∙ append-nil (opened_in occurrences) in
    record {
      opened = still ∙ t.opened ∙ sym (same_connections f xs same);
      each = each_mapped (IsTold (occurrences ++ more)) f xs
          (each_weaker (IsTold occurrences) (λ (x : Served). IsTold (occurrences ++ more) (f x))
          (λ x is. told_on occurrences more x (f x) (same x) (fed x) (handed x) (closed x) is) xs t.each);
      others = λ c absent.
          let was : is_among c (opened_in occurrences) ≡ false = ap (is_among c) (sym still) ∙ absent in
          untold_on occurrences more c (else c was).0 (else c was).1 (else c was).2 (t.others c was);
    }

-- ends that came as their node came back aren't told
pub tells_ended : (occurrences : List Occurrence) (ends : List Item) (xs : List Served) → Tells occurrences xs → Tells occurrences (all_ended ends xs)
tells_ended occurrences ends xs t = record {
  opened = t.opened ∙ sym (same_connections (ended_more ends) xs (λ x. refl));
  each = each_mapped (IsTold occurrences) (ended_more ends) xs
      (each_weaker (IsTold occurrences) (λ (x : Served). IsTold occurrences (ended_more ends x))
      (λ x is. record { fed = is.fed; handed = is.handed; closed = is.closed }) xs t.each);
  others = t.others;
}

abbrev new_one : Connection → Served
new_one c = record { connection = c; fed = []; closing = None; handed = []; ends = [] }

told_still : (occurrences : List Occurrence) (c : Connection) (x : Served) → IsTold occurrences x → IsTold (occurrences ++ Opened c ∷ []) x
told_still occurrences c x t = told_on occurrences (Opened c ∷ []) x x refl (sym (append-nil x.fed)) (sym (append-nil x.handed)) (λ job is. inl is) t

pub tells_opened : (occurrences : List Occurrence) (c : Connection) (xs : List Served) → is_among c (opened_in occurrences) ≡ false → Tells occurrences xs
    → Tells (occurrences ++ Opened c ∷ []) (xs ++ new_one c ∷ [])
tells_opened occurrences c xs absent t =
    let more = Opened c ∷ [] in
    let u = untold_on occurrences more c refl refl refl (t.others c absent) in
    record {
      opened = opened_both occurrences more ∙ ap (λ (l : List Connection). l ++ c ∷ []) t.opened
          ∙ sym (map-append (λ (x : Served). x.connection) xs (new_one c ∷ []));
      each = All-append (IsTold (occurrences ++ more)) xs (new_one c ∷ [])
          (each_weaker (IsTold occurrences) (IsTold (occurrences ++ more)) (told_still occurrences c) xs t.each)
          (record { fed = sym u.fed; handed = sym u.handed; closed = λ job is. absurd (cc is) }, tt);
      others = λ d other.
          untold_on occurrences more d refl refl refl
          (t.others d (among_front d (opened_in occurrences) (c ∷ []) (ap (is_among d) (sym (opened_both occurrences more)) ∙ other)));
    }

-- ---- what was told in front of a feed
first_of : Occurrence → List Occurrence → Occurrence
first_of d [] = d
first_of d (x ∷ xs) = x

rest_of : List Occurrence → List Occurrence
rest_of [] = []
rest_of (x ∷ xs) = xs

same_first : (x y : Occurrence) (xs ys : List Occurrence) → x ∷ xs ≡ y ∷ ys → x ≡ y
unfolding first_of
same_first x y xs ys is = ap (first_of x) is

same_rest : (x y : Occurrence) (xs ys : List Occurrence) → x ∷ xs ≡ y ∷ ys → xs ≡ ys
unfolding rest_of
same_rest x y xs ys is = ap rest_of is

pub some_there : {A : Type 0} (xs ys : List A) (y : A) → xs ++ y ∷ ys ≡ [] → ⊥
some_there [] ys y is = cc is
some_there (x ∷ xs) ys y is = cc is

none_fed : (front back : List Occurrence) (feeding : Feeding) → fed_in (front ++ Fed feeding ∷ back) ≡ [] → ⊥
none_fed front back feeding none =
    some_there (fed_in front) (fed_in back) feeding (sym (fed_both front (Fed feeding ∷ back)) ∙ none)

abbrev IsFront : List Occurrence → List Occurrence → Feeding → Type 0
IsFront occurrences front feeding = (rest : List Occurrence) × (occurrences ≡ front ++ Fed feeding ∷ rest)

splits : (occurrences more front back : List Occurrence) (feeding : Feeding) → fed_in more ≡ [] → occurrences ++ more ≡ front ++ Fed feeding ∷ back
    → IsFront occurrences front feeding
splits [] more front back feeding none is = absurd (none_fed front back feeding (ap fed_in (sym is) ∙ none))
splits (x ∷ occurrences) more [] back feeding none is =
    (occurrences, λ i. same_first x (Fed feeding) (occurrences ++ more) back is i ∷ occurrences)
splits (x ∷ occurrences) more (y ∷ front) back feeding none is =
    let on = splits occurrences more front back feeding none (same_rest x y (occurrences ++ more) (front ++ Fed feeding ∷ back) is) in
    (on.0, λ i. same_first x y (occurrences ++ more) (front ++ Fed feeding ∷ back) is i ∷ on.1 i)

splits_fed : (occurrences front back : List Occurrence) (last feeding : Feeding) → occurrences ++ Fed last ∷ [] ≡ front ++ Fed feeding ∷ back
    → IsFront occurrences front feeding ⊎ (front ≡ occurrences)
splits_fed [] [] back last feeding is = inr refl
splits_fed [] (y ∷ front) back last feeding is =
    absurd (some_there front back (Fed feeding) (sym (same_rest (Fed last) y [] (front ++ Fed feeding ∷ back) is)))
splits_fed (x ∷ occurrences) [] back last feeding is =
    inl (occurrences, λ i. same_first x (Fed feeding) (occurrences ++ Fed last ∷ []) back is i ∷ occurrences)
splits_fed (x ∷ occurrences) (y ∷ front) back last feeding is =
    let first = same_first x y (occurrences ++ Fed last ∷ []) (front ++ Fed feeding ∷ back) is in
    elim (splits_fed occurrences front back last feeding (same_rest x y (occurrences ++ Fed last ∷ []) (front ++ Fed feeding ∷ back) is)) [
      | inl (rest, on) ↦ inl (rest, λ i. first i ∷ on i)
      | inr same ↦ inr (λ i. sym first i ∷ same i)
    ]

was_further : (occurrences : List Occurrence) (d e : WorkerState) → GoesTo d e → Was occurrences d → Was occurrences e
was_further occurrences d e on w = record {
  earlier = w.earlier;
  led = w.led;
  tells = w.tells;
  goes = goes_further w.earlier d e w.goes on;
}

-- where nothing more is fed
pub was_on : (occurrences more : List Occurrence) (d e : WorkerState) → fed_in more ≡ [] → GoesTo d e → WasAtFeeds occurrences d
    → WasAtFeeds (occurrences ++ more) e
was_on occurrences more d e none on was = λ front back feeding is.
    let s = splits occurrences more front back feeding none is in was_further front d e on (was front s.0 feeding s.1)

-- where bytes are fed, a worker went on from what is told in front of that
pub was_fed : (occurrences : List Occurrence) (last : Feeding) (d e : WorkerState) → Was occurrences d → GoesTo d e → WasAtFeeds occurrences d
    → WasAtFeeds (occurrences ++ Fed last ∷ []) e
was_fed occurrences last d e now on was = λ front back feeding is.
    elim (splits_fed occurrences front back last feeding is) [
      | inl (rest, s) ↦ was_further front d e on (was front rest feeding s)
      | inr same ↦ was_further front d e on (subst (λ (o : List Occurrence). Was o d) (sym same) now)
    ]
