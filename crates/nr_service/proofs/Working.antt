-- What is done for all clients, and how the list of them changes.
use Rattle.std.proofs.Common.{◌≡◌, ℕ, zero, suc, ◌<◌, Bool, false, ◌||◌, inl, inr, List, [], ◌∷◌, ◌++◌, length, get_or, refl, sym, ap, ◌∙◌, subst, arith, append-nil, get_or-set_same}
use Rattle.std.proofs.Math.ListN.{set, length-set}
use Rattle.std.specs.Prelude.{Option, Some, None, IfSome, map}
use Rattle.std.specs.List.{AllByRecursion, Contains, IsDistinct, remove}
use Rattle.std.specs.List.Sorted.{IsPermutation}
use Rattle.std.specs.Option.{option_map}
use Rattle.std.proofs.lemmas.Bool.{cases_Bool, true≢false}
use Rattle.std.proofs.lemmas.List.{take-set, drop-set-lt, get_or-map, length-map}
use Rattle.std.proofs.lemmas.List.Elements.{All-cons, All-weaker, Contains-get_or}
use Rattle.std.proofs.lemmas.List.Sorted.{IsPermutation-remove, IsPermutation-sym, IsPermutation-to_front}
use Rattle.std.proofs.lemmas.Map.Keys.{IsDistinct-cons, IsDistinct-IsPermutation}
use Rattle.nr_entry.specs.Jobs.{connection_of}
use Rattle.nr_entry.specs.declared.conn.ConnId.{ConnId}
use Rattle.nr_model.specs.Bytes.{Bytes}
use Rattle.nr_model.specs.Items.{Connection, same_connection}
use Rattle.nr_model.specs.Connections.{Feeding, handed_to}
use Rattle.nr_model.proofs.JobLists.{same_is}
use Rattle.nr_service.specs.Readings.{Feedings, IsFedAmong, IsFedAtRest, IsFedTo, IsNeverFed}
use Rattle.nr_service.specs.Serving.{connection, IsApart, IsServed, AreServed}
use Rattle.nr_service.specs.Steps.{Serves, ServesOne, Accepts, IsSettledPast, settled_past, HasServed, HasSettled, Exchanges}
use Rattle.nr_service.specs.declared.client.Client.{Client}
use Rattle.nr_service.specs.Stories.{Opened, HandedOut, Story, Past, Kept, Keeps, IsOpened, HasWorked, bytes_fed, bytes_handed, going_on, is_among, opened_in}
use Rattle.nr_service.proofs.Occurrences.{opened_both, still_apart, pieces_opened, pieces_fed, pieces_handed, pieces_closed, fed_still, handed_still, handed_behind}
use Rattle.nr_service.proofs.Apart.{flips, from_others}
use Rattle.nr_service.proofs.Known.{course_fresh, handed_more, none_known}
use Rattle.nr_service.proofs.Served.{served_still, others_served, served_moved, serves_then, serves_weaker, has_moved, has_then, has_weaker, nothing_fed, nothing_done}
use Rattle.nr_service.specs.Streams.{Course, fresh_course}

-- bytes were handed out, and nothing is left to be done
pub worked_all : {S : Type 0} (was_received was_sent : S → Option Bytes) (course : S → Option Course) (allowed : Feedings) (before after settled : Past)
    (old_kept new_kept : Kept) (clients : List (Client S)) → HasWorked before after settled old_kept new_kept
    → (story : Story) → AreServed was_received was_sent course before old_kept story clients
    → HasServed was_received was_sent course allowed [] (IsSettledPast after settled) new_kept story clients
worked_all was_received was_sent course allowed before after settled old_kept new_kept clients w story a =
    let more = map HandedOut w.handed in
    let next = going_on story more in
    nothing_fed was_received was_sent course allowed [] (IsSettledPast after settled) new_kept story more clients (pieces_opened w.handed)
    (pieces_fed w.handed) (pieces_closed w.handed) (still_apart story more (pieces_opened w.handed))
    (record {
      past = record { past = w.past story a.past; rest = w.rest story a.past };
      each = All-weaker (IsServed was_received was_sent course old_kept story) (IsServed was_received was_sent course new_kept next)
          (λ client s. record {
            pending = s.pending ++ handed_to (connection client) w.handed;
            kept = w.kept (connection client)
                ∙ ap (λ (o : Option Bytes). option_map (λ (bytes : Bytes). bytes ++ handed_to (connection client) w.handed) o) s.kept;
            received = subst (λ (b : Bytes). IfSome (was_received client.stream) (λ bytes. bytes ≡ b))
                (sym (fed_still (connection client) story more (pieces_fed w.handed))) s.received;
            sent = handed_more (was_sent client.stream) s.pending (bytes_handed (connection client) story) (handed_to (connection client) w.handed)
                (bytes_handed (connection client) next)
                (handed_behind (connection client) story more
                ∙ ap (λ l. bytes_handed (connection client) story ++ handed_to (connection client) l) (pieces_handed w.handed)) s.sent;
            course_is = s.course_is;
          })
          clients a.each;
      apart = a.apart;
    })

-- a past that is settled is one
has_settled : {S : Type 0} (was_received was_sent : S → Option Bytes) (course : S → Option Course) (allowed : Feedings) (is_past is_settled : Past)
    (kept : Kept)
    (story : Story) (clients : List (Client S)) → HasServed was_received was_sent course allowed [] (IsSettledPast is_past is_settled) kept story clients
    → HasSettled was_received was_sent course allowed is_past is_settled kept story clients
has_settled was_received was_sent course allowed is_past is_settled kept story clients h = record {
  has = record {
    next = h.next;
    more = h.more;
    is = h.is;
    opens = h.opens;
    apart = h.apart;
    closed = h.closed;
    feeds = h.feeds;
    served = record { past = h.served.past.past; each = h.served.each; apart = h.served.apart };
  };
  rest = h.served.past.rest;
}

pub worked : {A S : Type 0} (was_received was_sent : S → Option Bytes) (course : S → Option Course) (is_past is_settled : A → Past) (keeps : A → Kept)
    (allowed : Feedings)
    (before after : A) (clients : List (Client S)) → HasWorked (is_past before) (is_past after) (is_settled after) (keeps before) (keeps after)
    → Serves was_received was_sent course is_past keeps allowed [] before after clients clients
worked was_received was_sent course is_past is_settled keeps allowed before after clients w = record {
  further = λ story a.
      (has_settled was_received was_sent course allowed (is_past after) (is_settled after) (keeps after) story clients
      (worked_all was_received was_sent course allowed (is_past before) (is_past after) (is_settled after) (keeps before) (keeps after) clients w story a)).has;
}

-- the clients were served, all work was done, and what is kept was written
pub exchanged : {A S : Type 0} (was_received was_sent : S → Option Bytes) (course : S → Option Course) (is_past is_settled : A → Past) (keeps : A → Kept)
    (busy : A → Bool) (now : ℕ) (a r b c d : A) (xs ys zs : List (Client S))
    → Serves was_received was_sent course is_past keeps IsNeverFed [] a r xs xs
    → Serves was_received was_sent course is_past keeps (IsFedAtRest (busy r) now (map connection xs)) [] r b xs ys
    → HasWorked (is_past b) (is_past c) (is_settled c) (keeps b) (keeps c)
    → Serves was_received was_sent course (settled_past is_past is_settled) keeps IsNeverFed [] c d ys zs
    → Exchanges was_received was_sent course is_past is_settled keeps busy now a d xs zs
exchanged was_received was_sent course is_past is_settled keeps busy now a r b c d xs ys zs before p w q =
    let allowed = IsFedAtRest (busy r) now (map connection xs) in
    let none : (feeding : Feeding) → IsNeverFed feeding → allowed feeding = λ feeding never. absurd never in
    let read = serves_then was_received was_sent course is_past keeps allowed a r b xs xs ys
    (serves_weaker was_received was_sent course is_past keeps IsNeverFed allowed a r xs xs none before) p in
    record {
      ready = r;
      readied = before;
      further = λ story s.
          let first = read.further story s in
          let second = worked_all was_received was_sent course allowed (is_past b) (is_past c) (is_settled c) (keeps b) (keeps c) ys w first.next
          first.served in
          let third = has_weaker was_received was_sent course IsNeverFed allowed [] (settled_past is_past is_settled d) (keeps d) second.next zs none
          (q.further second.next second.served) in
          has_settled was_received was_sent course allowed (is_past d) (is_settled d) (keeps d) story zs
          (has_then was_received was_sent course allowed (is_past b) (settled_past is_past is_settled d) (keeps b) (keeps d) story ys zs first
          (has_then was_received was_sent course allowed (settled_past is_past is_settled c) (settled_past is_past is_settled d) (keeps c) (keeps d)
          first.next ys zs second third));
    }

-- nothing was fed or handed out
pub kept_all : {A S : Type 0} (was_received was_sent : S → Option Bytes) (course : S → Option Course) (is_past : A → Past) (keeps : A → Kept)
    (allowed : Feedings)
    (before after : A) (clients : List (Client S)) → Keeps (is_past before) (is_past after) (keeps before) (keeps after)
    → Serves was_received was_sent course is_past keeps allowed [] before after clients clients
kept_all was_received was_sent course is_past keeps allowed before after clients k = record {
  further = λ story a.
      nothing_done was_received was_sent course allowed (is_past after) (keeps after) story clients
      (record {
        past = k.past story a.past;
        each = All-weaker (IsServed was_received was_sent course (keeps before) story) (IsServed was_received was_sent course (keeps after) story)
            (λ client s. served_still was_received was_sent course (keeps before) (keeps after) story story client refl refl (k.kept (connection client)) s)
            clients a.each;
        apart = a.apart;
      });
}

-- one for which bytes are kept isn't one for which none are
kept_apart : (keeps : Kept) (c d : Connection) (bytes : Bytes) → keeps c ≡ None → keeps d ≡ Some bytes → same_connection c d ≡ false
kept_apart keeps c d bytes closed kept =
    elim (cases_Bool (same_connection c d)) [
      | inl same ↦ let e = ap keeps (same_is c d same) in absurd (cc (closed, kept, e))
      | inr apart ↦ apart
    ]

-- one that isn't among others differs from each
not_among : (c : Connection) (others : List Connection) → is_among c others ≡ false → AllByRecursion (λ d. same_connection c d ≡ false) others
not_among c [] absent = tt
not_among c (d ∷ others) absent =
    elim (cases_Bool (same_connection d c)) [
      | inl one ↦ absurd (true≢false (sym (ap (λ (b : Bool). b || is_among c others) one) ∙ absent))
      | inr differs ↦ (flips c d ∙ differs, not_among c others (sym (ap (λ (b : Bool). b || is_among c others) differs) ∙ absent))
    ]

-- a connection more that was opened
opened_apart : (story : Story) (c : Connection) → is_among c (opened_in story.occurrences) ≡ false → IsApart story
    → IsApart (going_on story (Opened c ∷ []))
opened_apart story c absent apart =
    let was = opened_in story.occurrences in
    subst (λ (l : List Connection). IsDistinct same_connection l) (sym (opened_both story.occurrences (Opened c ∷ [])))
    (IsDistinct-IsPermutation same_connection flips (c ∷ was) (was ++ c ∷ []) (IsPermutation-sym _ _ (IsPermutation-to_front was c))
    (IsDistinct-cons same_connection c was (not_among c was absent) apart))

-- a client more, of a connection that was opened
pub opened_one : {A S : Type 0} (was_received was_sent : S → Option Bytes) (course : S → Option Course) (is_past : A → Past) (keeps : A → Kept)
    (allowed : Feedings)
    (before after : A) (clients : List (Client S)) (client : Client S)
    → client.is_ending ≡ false → client.is_broken ≡ false → client.is_full ≡ false → IfSome (was_received client.stream) (λ bytes. bytes ≡ [])
    → IfSome (was_sent client.stream) (λ bytes. bytes ≡ []) → IfSome (course client.stream) (λ at. at ≡ fresh_course)
    → IsOpened (connection client) (is_past before) (is_past after) (keeps before) (keeps after)
    → Serves was_received was_sent course is_past keeps allowed (connection client ∷ []) before after clients (clients ++ client ∷ [])
opened_one was_received was_sent course is_past keeps allowed before after clients client going sound empty received sent fresh o = record {
  further = λ story a.
      let c = connection client in
      let apart = from_others (IsServed was_received was_sent course (keeps before) story) c
      (λ other s. kept_apart (keeps before) c (connection other) s.pending o.closed s.kept) clients
      a.each in
      let distinct = IsDistinct-cons same_connection c (map connection clients) apart a.apart in
      let more = Opened c ∷ [] in
      let next = going_on story more in
      nothing_fed was_received was_sent course allowed (c ∷ []) (is_past after) (keeps after) story more (clients ++ client ∷ []) refl refl refl
      (opened_apart story c (o.first story a.past))
      (served_moved was_received was_sent course (is_past after) (keeps after) next (client ∷ clients) (clients ++ client ∷ [])
      (IsPermutation-sym _ _ (IsPermutation-to_front clients client))
      (record {
        past = o.past story a.past;
        each = All-cons (IsServed was_received was_sent course (keeps after) next) client clients
            (record {
              pending = [];
              kept = o.kept;
              received = none_known (was_received client.stream) [] received (bytes_fed c next) (sym (fed_still c story more refl ∙ o.fed story a.past));
              sent = handed_none (was_sent client.stream) (bytes_handed c next) (handed_still c story more refl ∙ o.handed story a.past) sent;
              course_is = course_fresh (course client.stream) client.is_ending client.is_broken client.is_full going sound empty fresh;
            })
            (others_served was_received was_sent course (keeps before) (keeps after) story next client clients
            (record {
              fed = λ other differs. fed_still other story more refl;
              handed = λ other differs. handed_still other story more refl;
              kept = λ other differs. o.others other differs;
            })
            distinct a.each);
        apart = distinct;
      }));
}
  where
    handed_none : (known : Option Bytes) (handed : Bytes) → handed ≡ [] → IfSome known (λ bytes. bytes ≡ []) → IfSome known (λ bytes. handed ≡ bytes ++ [])
    handed_none None handed e none = tt
    handed_none (Some bytes) handed e none = e ∙ sym (ap (λ (b : Bytes). b ++ []) none)

-- it stands behind the others
pub opened_behind : {A S : Type 0} (was_received was_sent : S → Option Bytes) (course : S → Option Course) (is_past : A → Past) (keeps : A → Kept)
    (before after : A)
    (clients all : List (Client S)) (client : Client S) (conn : ConnId) (stream : S) → client.conn ≡ conn → client.stream ≡ stream → client.is_ending ≡ false
    → client.is_broken ≡ false → client.is_full ≡ false
    → all ≡ clients ++ client ∷ []
    → IfSome (was_received stream) (λ bytes. bytes ≡ []) → IfSome (was_sent stream) (λ bytes. bytes ≡ [])
    → IfSome (course stream) (λ at. at ≡ fresh_course) → IsOpened (connection_of conn) (is_past before) (is_past after) (keeps before) (keeps after)
    → Accepts was_received was_sent course is_past keeps before after clients all
opened_behind {A} {S} was_received was_sent course is_past keeps before after clients all client conn stream same_conn same_stream going sound empty is received sent
    fresh o =
    record {
      accepted = client ∷ [];
      items = is;
      serves = subst (λ (ys : List (Client S)). Serves was_received was_sent course is_past keeps IsNeverFed (connection client ∷ []) before after clients ys)
          (sym is)
          (opened_one was_received was_sent course is_past keeps IsNeverFed before after clients client going sound empty
          (subst (λ (t : S). IfSome (was_received t) (λ bytes. bytes ≡ [])) (sym same_stream) received)
          (subst (λ (t : S). IfSome (was_sent t) (λ bytes. bytes ≡ [])) (sym same_stream) sent)
          (subst (λ (t : S). IfSome (course t) (λ at. at ≡ fresh_course)) (sym same_stream) fresh)
          (subst (λ (d : ConnId). IsOpened (connection_of d) (is_past before) (is_past after) (keeps before) (keeps after)) (sym same_conn) o));
    }

-- or there was no room for one
pub opened_none : {A S : Type 0} (was_received was_sent : S → Option Bytes) (course : S → Option Course) (is_past : A → Past) (keeps : A → Kept)
    (before after : A) (clients : List (Client S)) → Keeps (is_past before) (is_past after) (keeps before) (keeps after)
    → Accepts was_received was_sent course is_past keeps before after clients clients
opened_none was_received was_sent course is_past keeps before after clients k = record {
  accepted = [];
  items = sym (append-nil clients);
  serves = kept_all was_received was_sent course is_past keeps IsNeverFed before after clients k;
}

-- another element in its place
pub set_moved : {A : Type 0} (xs : List A) (i : ℕ) (y : A) → i < length xs → IsPermutation (set xs i y) (y ∷ remove xs i)
set_moved xs i y within =
    let inside : i < length (set xs i y) = subst (λ (n : ℕ). i < n) (sym (length-set xs i y)) within in
    let rest : remove (set xs i y) i ≡ remove xs i = (λ k. take-set xs i y k ++ drop-set-lt (suc i) xs i y (omega arith) k) in
    subst (λ (ys : List _). IsPermutation (set xs i y) (y ∷ ys)) rest (IsPermutation-remove (set xs i y) i y inside (sym (get_or-set_same xs i y y within)))

-- an element within, whatever is read behind the end
pub get_or_within : {A : Type 0} (xs : List A) (i : ℕ) (a b : A) → i < length xs → get_or xs i a ≡ get_or xs i b
get_or_within [] i a b within = absurd (omega arith)
get_or_within (x ∷ xs) zero a b within = refl
get_or_within (x ∷ xs) (suc i) a b within = get_or_within xs i a b (omega arith)

-- another element of the same value in its place
pub map_set_same : {A B : Type 0} (f : A → B) (xs : List A) (i : ℕ) (item new : A) → i < length xs → f new ≡ f (get_or xs i item)
    → map f (set xs i new) ≡ map f xs
map_set_same f [] i item new within same = absurd (omega arith)
map_set_same f (x ∷ xs) zero item new within same = ap (λ y. y ∷ map f xs) same
map_set_same f (x ∷ xs) (suc i) item new within same = ap (λ ys. f x ∷ ys) (map_set_same f xs i item new (omega arith) same)

-- one of them was served
pub served_at : {A S : Type 0} (was_received was_sent : S → Option Bytes) (course : S → Option Course) (is_past : A → Past) (keeps : A → Kept)
    (allowed : Feedings)
    (before after : A) (clients : List (Client S)) (index : ℕ) (item new : Client S) → index < length clients
    → ServesOne was_received was_sent course is_past keeps allowed before after (get_or clients index item) new
    → Serves was_received was_sent course is_past keeps allowed [] before after clients (set clients index new)
served_at was_received was_sent course is_past keeps allowed before after clients index item new within one =
    let old = get_or clients index item in
    let is : old ≡ get_or clients index old = get_or_within clients index item old within in
    record {
      further = λ story a.
          has_moved was_received was_sent course allowed [] (is_past after) (keeps after) story (new ∷ remove clients index) (set clients index new)
          (IsPermutation-sym _ _ (set_moved clients index new within))
          ((one.beside (remove clients index)).further story
          (served_moved was_received was_sent course (is_past before) (keeps before) story clients (old ∷ remove clients index)
          (IsPermutation-remove clients index old within is) a));
    }

-- bytes that are fed to one of them are fed to one of those at first
pub to_one : {S : Type 0} (now : ℕ) (clients old : List (Client S)) (index : ℕ) (item : Client S) → index < length clients
    → map connection clients ≡ map connection old
    → (feeding : Feeding) → IsFedTo now (connection (get_or clients index item)) feeding → IsFedAmong now (map connection old) feeding
to_one {S} now clients old index item within same feeding is =
    let here : get_or (map connection clients) index (connection item) ≡ feeding.connection =
    get_or-map (connection {S = S}) clients index item (connection item) within ∙ sym is.1 in
    let inside : index < length (map connection clients) = subst (λ (n : ℕ). index < n) (sym (length-map clients (connection {S = S}))) within in (
      is.0,
      subst (λ (cs : List Connection). Contains cs feeding.connection) same
          (subst (Contains (map connection clients)) here (Contains-get_or (map connection clients) index (connection item) inside)),
    )
