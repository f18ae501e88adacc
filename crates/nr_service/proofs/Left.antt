-- What holds of clients that left, or where memory ran out.
use Rattle.std.proofs.Common.{◌≡◌, ℕ, ◌<◌, Bool, false, List, [], ◌∷◌, ◌++◌, length, get_or, refl, sym, ap, ◌∙◌, subst, append_assoc, append-nil}
use Rattle.std.specs.Prelude.{map, Option, Some, None, Result, Ok, Err, OnErr, IfSome, All}
use Rattle.std.specs.Option.{option_map}
use Rattle.std.proofs.Math.ListN.{set}
use Rattle.std.specs.List.{AllByRecursion, Contains, IsDistinct, remove, swap_remove}
use Rattle.std.specs.List.Sorted.{IsPermutation}
use Rattle.std.proofs.lemmas.List.{map-append}
use Rattle.std.proofs.lemmas.List.Elements.{All-nil, All-cons, All-append, All-contains, All-from_recursion, All-head, All-tail, All-weaker}
use Rattle.std.proofs.lemmas.List.Sorted.{All-permutation, IsPermutation-append_right, IsPermutation-remove, IsPermutation-swap_remove, IsPermutation-sym, IsPermutation-trans}
use Rattle.std.proofs.lemmas.Map.Keys.{IsDistinct-head, IsDistinct-tail}
use Rattle.nr_model.specs.Bytes.{Bytes, IsBeginningOf}
use Rattle.nr_model.specs.Items.{Connection, same_connection}
use Rattle.nr_model.specs.Connections.{Feeding, fed_to, handed_to}
use Rattle.nr_model.proofs.Exchanged.{fed_to-append, other_bytes}
use Rattle.nr_service.specs.Readings.{Feedings, IsClosedAt, IsFedAmong, IsFedAtRest}
use Rattle.nr_service.specs.Serving.{connection, streams_of, IsLeft, IsServed}
use Rattle.nr_service.specs.Leaving.{Gone, LetsGo, Loses, client_of, parting, parting_of, shut_by}
use Rattle.nr_service.specs.Steps.{Serves, ServesOne, Exchanges, AreLeft, Leaves, LeavesOne}
use Rattle.nr_service.specs.Pollers.{Parting, PartsWith, stream_of}
use Rattle.nr_service.specs.declared.backend.ConnectionState.{ConnectionState}
use Rattle.nr_service.specs.declared.client.Client.{Client}
use Rattle.nr_service.specs.declared.client.Ending.{Ending}
use Rattle.nr_service.specs.declared.client.Ending.TheVariants as endings
use Rattle.nr_service.specs.declared.leaving.LeavingBounds.{LeavingBounds}
use Rattle.nr_service.specs.Stories.{Closing, Occurrence, Story, Past, Kept, IsLeftOf, closings_in, fed_in, handed_in, bytes_fed, bytes_handed, going_on}
use Rattle.nr_service.proofs.Apart.{flips}
use Rattle.nr_service.proofs.Closing.{closes_fed, closes_opened, closes_timed, parts_then}
use Rattle.nr_service.proofs.Occurrences.{closed_both, closings_both, fed_behind, fed_both, going_none, going_both, handed_behind, opened_both}
use Rattle.nr_service.proofs.Served.{has_weaker, served_moved}
use Rattle.nr_service.proofs.Working.{get_or_within, set_moved}
use Rattle.nr_service.specs.Streams.{Course}

-- what was fed is a beginning of what was received
fed_begins : (old new : Option Bytes) (piece fed : Bytes) → new ≡ option_map (λ (bytes : Bytes). bytes ++ piece) old → IfSome old (λ bytes. bytes ≡ fed)
    → IfSome new (λ bytes. IsBeginningOf fed bytes)
fed_begins None new piece fed e was = subst (λ (o : Option Bytes). IfSome o (λ bytes. IsBeginningOf fed bytes)) (sym e) tt
fed_begins (Some x) new piece fed e was =
    subst (λ (o : Option Bytes). IfSome o (λ bytes. IsBeginningOf fed bytes)) (sym e) (piece, ap (λ (y : Bytes). y ++ piece) (sym was))

-- what was sent is a beginning of what was handed out
sent_begins : (known : Option Bytes) (pending handed : Bytes) → IfSome known (λ bytes. handed ≡ bytes ++ pending)
    → IfSome known (λ bytes. IsBeginningOf bytes handed)
sent_begins None pending handed was = tt
sent_begins (Some x) pending handed was = (pending, sym was)

-- it holds of one that is served, also where more was received since
served_left : {S : Type 0} (was_received was_sent : S → Option Bytes) (course : S → Option Course) (kept : Kept) (story : Story) (old new : Client S)
    (piece : Bytes) → new.conn ≡ old.conn → was_received new.stream ≡ option_map (λ (bytes : Bytes). bytes ++ piece) (was_received old.stream)
    → was_sent new.stream ≡ was_sent old.stream → IsServed was_received was_sent course kept story old → IsLeft was_received was_sent story new
served_left was_received was_sent course kept story old new piece same grows sent s =
    let one : connection new ≡ connection old = ap (λ conn. record { node = conn.node; serial = conn.serial }) same in
    record {
      received = fed_begins (was_received old.stream) (was_received new.stream) piece (bytes_fed (connection new) story) grows
          (subst (λ (d : Connection). IfSome (was_received old.stream) (λ bytes. bytes ≡ bytes_fed d story)) (sym one) s.received);
      sent = subst (λ (o : Option Bytes). IfSome o (λ bytes. IsBeginningOf bytes (bytes_handed (connection new) story))) (sym sent)
          (subst (λ (d : Connection). IfSome (was_sent old.stream) (λ bytes. IsBeginningOf bytes (bytes_handed d story))) (sym one)
          (sent_begins (was_sent old.stream) s.pending (bytes_handed (connection old) story) s.sent));
    }

grows_by_none : (known : Option Bytes) → known ≡ option_map (λ (bytes : Bytes). bytes ++ []) known
grows_by_none None = refl
grows_by_none (Some x) = ap (λ (y : Bytes). Some y) (sym (append-nil x))

pub still_left : {S : Type 0} (was_received was_sent : S → Option Bytes) (course : S → Option Course) (kept : Kept) (story : Story) (client : Client S)
    → IsServed was_received was_sent course kept story client → IsLeft was_received was_sent story client
still_left was_received was_sent course kept story client s =
    served_left was_received was_sent course kept story client client [] refl (grows_by_none (was_received client.stream)) refl s

-- it holds further where nothing more was fed to it
on_and_on : (known : Option Bytes) (handed more all : Bytes) → all ≡ handed ++ more → IfSome known (λ bytes. IsBeginningOf bytes handed)
    → IfSome known (λ bytes. IsBeginningOf bytes all)
on_and_on None handed more all e begins = tt
on_and_on (Some bytes) handed more all e begins =
    (begins.0 ++ more, sym (append_assoc bytes begins.0 more) ∙ ap (λ (l : Bytes). l ++ more) begins.1 ∙ sym e)

left_further : {S : Type 0} (was_received was_sent : S → Option Bytes) (story : Story) (more : List Occurrence) (client : Client S)
    → fed_to (connection client) (fed_in more) ≡ [] → IsLeft was_received was_sent story client
    → IsLeft was_received was_sent (going_on story more) client
left_further was_received was_sent story more client none l =
    let c = connection client in
    record {
      received = subst (λ (fed : Bytes). IfSome (was_received client.stream) (λ bytes. IsBeginningOf fed bytes))
          (sym (fed_behind c story more ∙ ap (λ (fed : Bytes). bytes_fed c story ++ fed) none ∙ append-nil (bytes_fed c story))) l.received;
      sent = on_and_on (was_sent client.stream) (bytes_handed c story) (handed_to c (handed_in more)) (bytes_handed c (going_on story more))
          (handed_behind c story more) l.sent;
    }

-- so it does of all of them where nothing was fed
pub left_on : {S : Type 0} (was_received was_sent : S → Option Bytes) (story : Story) (more : List Occurrence) (clients : List (Client S)) → fed_in more ≡ []
    → All (IsLeft was_received was_sent story) clients → All (IsLeft was_received was_sent (going_on story more)) clients
left_on was_received was_sent story more clients none all =
    All-weaker (IsLeft was_received was_sent story) (IsLeft was_received was_sent (going_on story more))
    (λ client l. left_further was_received was_sent story more client (ap (fed_to (connection client)) none) l) clients all

-- nothing is fed to one by bytes that are fed to others
none_fed_to : (c : Connection) (others : List Connection) (feeds : List Feeding) → AllByRecursion (λ d. same_connection c d ≡ false) others
    → All (λ (feeding : Feeding). Contains others feeding.connection) feeds → fed_to c feeds ≡ []
none_fed_to c others [] apart all = refl
none_fed_to c others (feeding ∷ feeds) apart all =
    let among : Contains others feeding.connection = All-head (λ (f : Feeding). Contains others f.connection) feeding feeds all in
    let differs : same_connection c feeding.connection ≡ false =
    All-contains (λ (d : Connection). same_connection c d ≡ false) others feeding.connection
    (All-from_recursion (λ (d : Connection). same_connection c d ≡ false) others apart) among in
    fed_to-append c (feeding ∷ []) feeds
    ∙ (λ i. other_bytes c feeding (flips feeding.connection c ∙ differs) i
    ++ none_fed_to c others feeds apart (All-tail (λ (f : Feeding). Contains others f.connection) feeding feeds all) i)

-- and of those that left, where bytes were fed to those that are there alone
behind_clients : {S : Type 0} (P : Connection → Type 0) (gone clients : List (Client S)) → AllByRecursion P (map connection (gone ++ clients))
    → AllByRecursion P (map connection clients)
behind_clients P [] clients all = all
behind_clients P (client ∷ gone) clients all = behind_clients P gone clients all.1

pub left_beside : {S : Type 0} (was_received was_sent : S → Option Bytes) (story : Story) (more : List Occurrence) (gone clients : List (Client S))
    → IsDistinct same_connection (map connection (gone ++ clients))
    → All (λ (feeding : Feeding). Contains (map connection clients) feeding.connection) (fed_in more)
    → All (IsLeft was_received was_sent story) gone → All (IsLeft was_received was_sent (going_on story more)) gone
left_beside was_received was_sent story more [] clients apart among all = All-nil (IsLeft was_received was_sent (going_on story more))
left_beside was_received was_sent story more (client ∷ gone) clients apart among all =
    let c = connection client in
    All-cons (IsLeft was_received was_sent (going_on story more)) client gone
    (left_further was_received was_sent story more client
    (none_fed_to c (map connection clients) (fed_in more)
    (behind_clients (λ d. same_connection c d ≡ false) gone clients (IsDistinct-head same_connection c (map connection (gone ++ clients)) apart)) among)
    (All-head (IsLeft was_received was_sent story) client gone all))
    (left_beside was_received was_sent story more gone clients (IsDistinct-tail same_connection c (map connection (gone ++ clients)) apart) among
    (All-tail (IsLeft was_received was_sent story) client gone all))

-- what holds of all of two parts holds of the first
pub all_front : {A : Type 0} (P : A → Type 0) (xs ys : List A) → All P (xs ++ ys) → All P xs
all_front P [] ys all = All-nil P
all_front P (x ∷ xs) ys all = All-cons P x xs (All-head P x (xs ++ ys) all) (all_front P xs ys (All-tail P x (xs ++ ys) all))

-- those that are served are left
pub all_left : {S : Type 0} (was_received was_sent : S → Option Bytes) (course : S → Option Course) (kept : Kept) (story : Story) (clients : List (Client S))
    → All (IsServed was_received was_sent course kept story) clients → All (IsLeft was_received was_sent story) clients
all_left was_received was_sent course kept story clients all =
    All-weaker (IsServed was_received was_sent course kept story) (IsLeft was_received was_sent story)
    (λ client s. still_left was_received was_sent course kept story client s) clients all

-- these are left by the story by which they were served
left_by : {A S : Type 0} (was_received was_sent : S → Option Bytes) (is_left : A → Past) (allowed : Feedings) (after : A) (story : Story)
    (clients : List (Client S)) → is_left after story → All (IsLeft was_received was_sent story) clients
    → AreLeft was_received was_sent is_left allowed story after clients
left_by was_received was_sent is_left allowed after story clients left each = record {
  next = story;
  more = [];
  is = sym (going_none story);
  opens = refl;
  closed = refl;
  feeds = All-nil allowed;
  left = left;
  each = each;
}

-- all of them are left as they are
pub leaves_all : {A S : Type 0} (was_received was_sent : S → Option Bytes) (course : S → Option Course) (is_past is_left : A → Past) (keeps : A → Kept)
    (allowed : Feedings) (before after : A) (clients : List (Client S)) → IsLeftOf (is_past before) (is_left after)
    → Leaves was_received was_sent course is_past is_left keeps allowed before after clients clients
leaves_all was_received was_sent course is_past is_left keeps allowed before after clients left = record {
  further = λ story a.
      left_by was_received was_sent is_left allowed after story clients (left story a.past)
      (all_left was_received was_sent course (keeps before) story clients a.each);
}

-- more was received from one of them than was fed
pub leaves_fed : {A S : Type 0} (was_received was_sent : S → Option Bytes) (course : S → Option Course) (is_past is_left : A → Past) (keeps : A → Kept)
    (allowed : Feedings) (before after : A)
    (old new : Client S) (piece : Bytes) → new.conn ≡ old.conn
    → was_received new.stream ≡ option_map (λ (bytes : Bytes). bytes ++ piece) (was_received old.stream)
    → was_sent new.stream ≡ was_sent old.stream → IsLeftOf (is_past before) (is_left after)
    → LeavesOne was_received was_sent course is_past is_left keeps allowed before after old new
leaves_fed was_received was_sent course is_past is_left keeps allowed before after old new piece same grows sent left = record {
  beside = λ others. record {
    further = λ story a.
        left_by was_received was_sent is_left allowed after story (new ∷ others) (left story a.past)
        (All-cons (IsLeft was_received was_sent story) new others
        (served_left was_received was_sent course (keeps before) story old new piece same grows sent
        (All-head (IsServed was_received was_sent course (keeps before) story) old others a.each))
        (all_left was_received was_sent course (keeps before) story others
        (All-tail (IsServed was_received was_sent course (keeps before) story) old others a.each)));
  };
}

-- served further, and then left
pub leaves_then : {A S : Type 0} (was_received was_sent : S → Option Bytes) (course : S → Option Course) (is_past is_left : A → Past) (keeps : A → Kept)
    (allowed : Feedings) (a b c : A) (xs ys zs : List (Client S)) → Serves was_received was_sent course is_past keeps allowed [] a b xs ys
    → Leaves was_received was_sent course is_past is_left keeps allowed b c ys zs
    → Leaves was_received was_sent course is_past is_left keeps allowed a c xs zs
leaves_then was_received was_sent course is_past is_left keeps allowed a b c xs ys zs p q = record {
  further = λ story s.
      let first = p.further story s in
      let left = q.further first.next first.served in
      record {
        next = left.next;
        more = first.more ++ left.more;
        is = left.is ∙ ap (λ (s : Story). going_on s left.more) first.is ∙ going_both story first.more left.more;
        opens = opened_both first.more left.more ∙ (λ i. first.opens i ++ left.opens i);
        closed = closed_both first.more left.more ∙ (λ i. first.closed i ++ left.closed i);
        feeds = subst (λ (fed : List Feeding). All allowed fed) (sym (fed_both first.more left.more))
            (All-append allowed (fed_in first.more) (fed_in left.more) first.feeds left.feeds);
        left = left.left;
        each = left.each;
      };
}

pub leaves_one_then : {A S : Type 0} (was_received was_sent : S → Option Bytes) (course : S → Option Course) (is_past is_left : A → Past) (keeps : A → Kept)
    (allowed : Feedings)
    (a b c : A) (x y z : Client S) → ServesOne was_received was_sent course is_past keeps allowed a b x y
    → LeavesOne was_received was_sent course is_past is_left keeps allowed b c y z
    → LeavesOne was_received was_sent course is_past is_left keeps allowed a c x z
leaves_one_then was_received was_sent course is_past is_left keeps allowed a b c x y z p q = record {
  beside = λ others.
      leaves_then was_received was_sent course is_past is_left keeps allowed a b c (x ∷ others) (y ∷ others) (z ∷ others) (p.beside others)
      (q.beside others);
}

-- one of them was left, and so the others are
pub leaves_at : {A S : Type 0} (was_received was_sent : S → Option Bytes) (course : S → Option Course) (is_past is_left : A → Past) (keeps : A → Kept)
    (allowed : Feedings) (before after : A)
    (clients : List (Client S)) (index : ℕ) (item new : Client S) → index < length clients
    → LeavesOne was_received was_sent course is_past is_left keeps allowed before after (get_or clients index item) new
    → Leaves was_received was_sent course is_past is_left keeps allowed before after clients (set clients index new)
leaves_at was_received was_sent course is_past is_left keeps allowed before after clients index item new within one =
    let old = get_or clients index item in
    let is : old ≡ get_or clients index old = get_or_within clients index item old within in
    record {
      further = λ story a.
          let left = (one.beside (remove clients index)).further story
          (served_moved was_received was_sent course (is_past before) (keeps before) story clients (old ∷ remove clients index)
          (IsPermutation-remove clients index old within is) a) in
          record {
            next = left.next;
            more = left.more;
            is = left.is;
            opens = left.opens;
            closed = left.closed;
            feeds = left.feeds;
            left = left.left;
            each = All-permutation (IsLeft was_received was_sent left.next) (new ∷ remove clients index) (set clients index new)
                (IsPermutation-sym _ _ (set_moved clients index new within)) left.each;
          };
    }

-- where more may be fed
pub leaves_weaker : {A S : Type 0} (was_received was_sent : S → Option Bytes) (course : S → Option Course) (is_past is_left : A → Past) (keeps : A → Kept)
    (few many : Feedings) (a b : A) (xs ys : List (Client S)) → ((feeding : Feeding) → few feeding → many feeding)
    → Leaves was_received was_sent course is_past is_left keeps few a b xs ys → Leaves was_received was_sent course is_past is_left keeps many a b xs ys
leaves_weaker was_received was_sent course is_past is_left keeps few many a b xs ys more p = record {
  further = λ story s.
      let l = p.further story s in
      record {
        next = l.next;
        more = l.more;
        is = l.is;
        opens = l.opens;
        closed = l.closed;
        feeds = All-weaker few many more (fed_in l.more) l.feeds;
        left = l.left;
        each = l.each;
      };
}

-- one was taken from the list, its stream was given back, and it couldn't be closed
stream_parting : {S : Type 0} (ending : Ending) (stream : S) → stream_of (parting ending stream) ≡ stream
stream_parting endings.Finished stream = refl
stream_parting endings.Silent stream = refl
stream_parting endings.Lost stream = refl

pub loses_one : {A S D : Type 0} (was_received was_sent : S → Option Bytes) (course : S → Option Course) (is_past is_left : A → Past) (keeps : A → Kept)
    (parted : D → Option (List (Parting S))) (now : ℕ) (before after : A) (device_before device_after : D) (ending : Ending) (client : Client S)
    (clients others : List (Client S)) (index : ℕ) → index < length clients → client ≡ get_or clients index client
    → others ≡ swap_remove clients index client
    → PartsWith (parting ending client.stream ∷ []) (parted device_before) (parted device_after) → IsLeftOf (is_past before) (is_left after)
    → Loses was_received was_sent course is_past is_left keeps parted now before after device_before device_after clients others
loses_one {A} {S} {D} was_received was_sent course is_past is_left keeps parted now before after device_before device_after ending client clients others index
    within is rest parts left =
    let moved : IsPermutation clients (client ∷ others) =
    subst (λ (ys : List (Client S)). IsPermutation clients (client ∷ ys)) (sym rest) (IsPermutation-swap_remove clients index client within is) in
    record {
      missing = client ∷ [];
      all = moved;
      parts = record {
        more = parting ending client.stream ∷ [];
        are = ap (λ (stream : S). stream ∷ []) (stream_parting ending client.stream);
        parts = parts;
      };
      further = λ story s. record {
        next = story;
        more = [];
        is = sym (going_none story);
        opens = refl;
        fed = refl;
        closes = All-nil (IsClosedAt now);
        left = left story s.past;
        each = All-permutation (IsLeft was_received was_sent story) clients (client ∷ others) moved
            (all_left was_received was_sent course (keeps before) story clients s.each);
      };
    }

-- the streams of those that are gone
pub gone_streams : {A S : Type 0} (gone : List (Gone A S)) → map stream_of (map parting_of gone) ≡ streams_of (map client_of gone)
gone_streams [] = refl
gone_streams {A} {S} (one ∷ gone) = λ i. stream_parting one.ending one.client.stream i ∷ gone_streams gone i

-- some were let go, and then others went
pub loses_then : {A S D : Type 0} (was_received was_sent : S → Option Bytes) (course : S → Option Course) (is_past is_left : A → Past) (keeps : A → Kept)
    (stands : A → Connection → ConnectionState → Type 0) (busy : A → Bool) (is_gone : A → Connection → Type 0) (parted : D → Option (List (Parting S)))
    (bounds : LeavingBounds) (a b c : A) (d e f : D) (xs ys zs : List (Client S))
    → LetsGo was_received was_sent course is_past keeps stands busy is_gone parted bounds a b d e xs ys
    → Loses was_received was_sent course is_past is_left keeps parted bounds.now b c e f ys zs
    → Loses was_received was_sent course is_past is_left keeps parted bounds.now a c d f xs zs
loses_then {A} {S} {D} was_received was_sent course is_past is_left keeps stands busy is_gone parted bounds a b c d e f xs ys zs p q =
    let went = map client_of p.gone in
    let moved : IsPermutation xs ((went ++ q.missing) ++ zs) =
    IsPermutation-trans xs (went ++ ys) ((went ++ q.missing) ++ zs) p.all
    (subst (IsPermutation (went ++ ys)) (sym (append_assoc went q.missing zs)) (IsPermutation-append_right went ys (q.missing ++ zs) q.all)) in
    record {
      missing = went ++ q.missing;
      all = moved;
      parts = record {
        more = map parting_of p.gone ++ q.parts.more;
        are = map-append stream_of (map parting_of p.gone) q.parts.more ∙ (λ i. gone_streams p.gone i ++ q.parts.are i)
            ∙ sym (map-append (λ (client : Client S). client.stream) went q.missing);
        parts = parts_then (map parting_of p.gone) q.parts.more (parted d) (parted e) (parted f) p.parts q.parts.parts;
      };
      further = λ story s.
          let shut = shut_by bounds.now p.gone in
          let middle = going_on story shut in
          let second = q.further middle (p.further story s) in
          let were = left_on was_received was_sent story shut xs (closes_fed bounds.now p.gone)
          (all_left was_received was_sent course (keeps a) story xs s.each) in
          let gone = all_front (IsLeft was_received was_sent middle) went ys
          (All-permutation (IsLeft was_received was_sent middle) xs (went ++ ys) p.all were) in
          record {
            next = second.next;
            more = shut ++ second.more;
            is = second.is ∙ going_both story shut second.more;
            opens = opened_both shut second.more ∙ (λ i. closes_opened bounds.now p.gone i ++ second.opens i);
            fed = fed_both shut second.more ∙ (λ i. closes_fed bounds.now p.gone i ++ second.fed i);
            closes = subst (λ (closings : List Closing). All (IsClosedAt bounds.now) closings) (sym (closings_both shut second.more))
                (All-append (IsClosedAt bounds.now) (closings_in shut) (closings_in second.more) (closes_timed bounds.now p.gone) second.closes);
            left = second.left;
            each = subst (λ (l : List (Client S)). All (IsLeft was_received was_sent second.next) l) (sym (append_assoc went q.missing zs))
                (All-append (IsLeft was_received was_sent second.next) went (q.missing ++ zs)
                (subst (λ (next : Story). All (IsLeft was_received was_sent next) went) (sym second.is)
                (left_on was_received was_sent middle second.more went second.fed gone)) second.each);
          };
    }

-- what was exchanged served them further
pub exchange_serves : {A S : Type 0} (was_received was_sent : S → Option Bytes) (course : S → Option Course) (is_past is_settled : A → Past)
    (keeps : A → Kept) (busy : A → Bool) (now : ℕ) (a b : A) (xs ys : List (Client S))
    → Exchanges was_received was_sent course is_past is_settled keeps busy now a b xs ys
    → Serves was_received was_sent course is_past keeps (IsFedAmong now (map connection xs)) [] a b xs ys
exchange_serves was_received was_sent course is_past is_settled keeps busy now a b xs ys exchanged = record {
  further = λ story s.
      has_weaker was_received was_sent course (IsFedAtRest (busy exchanged.ready) now (map connection xs)) (IsFedAmong now (map connection xs)) []
      (is_past b) (keeps b) story ys (λ feeding fed. fed.1) (exchanged.further story s).has;
}

-- whatever the error is
pub on_err : {T E : Type 0} (result : Result T E) (P : Type 0) → P → OnErr result P
on_err (Ok _) P p = tt
on_err (Err _) P p = p
