-- What is read and written for one client.
use Rattle.std.proofs.Common.{◌≡◌, ℕ, ◌+◌, ◌-◌, ◌≤◌, [], ◌∷◌, ◌++◌, length, take, drop, refl, sym, ap, ◌∙◌, subst, append-nil, arith}
use Rattle.std.specs.Prelude.{Option, None, Some, IfSome}
use Rattle.std.proofs.lemmas.List.{length-drop}
use Rattle.std.specs.Option.{option_map}
use Rattle.std.proofs.lemmas.List.Elements.{All-nil, All-cons}
use Rattle.nr_model.specs.Bytes.{Bytes}
use Rattle.nr_model.specs.Items.{Connection, same_connection}
use Rattle.nr_model.specs.Keyspace.{moment}
use Rattle.nr_model.specs.Connections.{Feeding}
use Rattle.nr_model.proofs.JobLists.{same_self}
use Rattle.nr_model.proofs.Exchanged.{own_bytes, other_bytes}
use Rattle.nr_service.specs.Readings.{Feedings, IsFedTo}
use Rattle.nr_service.specs.Serving.{connection}
use Rattle.nr_service.specs.Steps.{ServesOne, settled_past}
use Rattle.nr_service.specs.declared.client.Client.{Client}
use Rattle.nr_service.specs.Stories.{Fed, Story, Past, Kept, KeepsOthers, kept_bytes, IsFed, IsWritten, bytes_fed, bytes_handed, going_on}
use Rattle.nr_service.proofs.Occurrences.{fed_behind, handed_still, still_apart}
use Rattle.nr_service.specs.Streams.{Course, GrowsBy, IsCourse}
use Rattle.nr_service.proofs.Apart.{flips}
use Rattle.nr_service.proofs.Known.{grows_none, fed_more, sent_more}
use Rattle.nr_service.proofs.Served.{one_served, nothing_done, serves_then}

abbrev feeding_of : Connection → ℕ → Bytes → Feeding
feeding_of c now bytes = record { connection = c; moment = moment now; bytes = bytes }

abbrev with_feeding : Story → Connection → ℕ → Bytes → Story
with_feeding story c now bytes = going_on story (Fed (feeding_of c now bytes) ∷ [])

-- bytes were read and fed
pub fed_one : {A S : Type 0} (was_received was_sent : S → Option Bytes) (course : S → Option Course) (is_past : A → Past) (keeps : A → Kept) (now : ℕ)
    (before after : A) (old new : Client S) (bytes : Bytes) → new.conn ≡ old.conn
    → was_received new.stream ≡ option_map (λ (front : Bytes). front ++ bytes) (was_received old.stream)
    → was_sent new.stream ≡ was_sent old.stream
    → (IfSome (course old.stream) (IsCourse old.is_ending old.is_broken old.is_full) → IfSome (course new.stream) (IsCourse new.is_ending new.is_broken new.is_full))
    → IsFed (connection old) now bytes (is_past before) (is_past after) (keeps before) (keeps after)
    → ServesOne was_received was_sent course is_past keeps (IsFedTo now (connection old)) before after old new
fed_one {A} {S} was_received was_sent course is_past keeps now before after old new bytes same grows sent goes fed =
    let c = connection old in
    let one : connection new ≡ c = ap (λ conn. record { node = conn.node; serial = conn.serial }) same in
    let own : (story : Story) → bytes_fed c (with_feeding story c now bytes) ≡ bytes_fed c story ++ bytes = λ story.
    fed_behind c story (Fed (feeding_of c now bytes) ∷ []) ∙ ap (λ (b : Bytes). bytes_fed c story ++ b)
    (own_bytes c (feeding_of c now bytes) (same_self c)) in
    record {
      beside = λ others. record {
        further = λ story a.
            let next = with_feeding story c now bytes in
            record {
              next = next;
              more = Fed (feeding_of c now bytes) ∷ [];
              is = refl;
              opens = refl;
              apart = still_apart story (Fed (feeding_of c now bytes) ∷ []) refl;
              closed = refl;
              feeds = All-cons (IsFedTo now c) (feeding_of c now bytes) [] (refl, refl) (All-nil _);
              served = one_served was_received was_sent course (is_past before) (is_past after) (keeps before) (keeps after) story next old new others one
                  (fed.past story a.past)
                  (record {
                    fed = λ other differs.
                        fed_behind other story (Fed (feeding_of c now bytes) ∷ [])
                        ∙ ap (λ (b : Bytes). bytes_fed other story ++ b) (other_bytes other (feeding_of c now bytes) (flips c other ∙ differs))
                        ∙ append-nil (bytes_fed other story);
                    handed = λ other differs. handed_still other story (Fed (feeding_of c now bytes) ∷ []) refl;
                    kept = λ other differs. fed.kept other;
                  })
                  (λ s. record {
                    pending = s.pending;
                    kept = ap (keeps after) one ∙ fed.kept c ∙ s.kept;
                    received = fed_more (was_received old.stream) (was_received new.stream) bytes (bytes_fed c story) (bytes_fed (connection new) next) grows
                        (sym (ap (λ (d : Connection). bytes_fed d next) one ∙ own story)) s.received;
                    sent = subst (λ (o : Option Bytes). IfSome o (λ front. bytes_handed (connection new) next ≡ front ++ s.pending)) (sym sent)
                        (subst (λ (d : Connection). IfSome (was_sent old.stream) (λ front. bytes_handed d next ≡ front ++ s.pending)) (sym one)
                        (subst (λ (b : Bytes). IfSome (was_sent old.stream) (λ front. b ≡ front ++ s.pending))
                        (sym (handed_still c story (Fed (feeding_of c now bytes) ∷ []) refl)) s.sent));
                    course_is = goes s.course_is;
                  })
                  a;
            };
      };
    }

-- nothing was done
pub still_one : {A S : Type 0} (was_received was_sent : S → Option Bytes) (course : S → Option Course) (is_past : A → Past) (keeps : A → Kept)
    (allowed : Feedings) (state : A)
    (old new : Client S) → new.conn ≡ old.conn → was_received new.stream ≡ was_received old.stream → was_sent new.stream ≡ was_sent old.stream
    → (IfSome (course old.stream) (IsCourse old.is_ending old.is_broken old.is_full) → IfSome (course new.stream) (IsCourse new.is_ending new.is_broken new.is_full))
    → ServesOne was_received was_sent course is_past keeps allowed state state old new
still_one was_received was_sent course is_past keeps allowed state old new same received sent goes =
    let one : connection new ≡ connection old = ap (λ conn. record { node = conn.node; serial = conn.serial }) same in
    record {
      beside = λ others. record {
        further = λ story a.
            nothing_done was_received was_sent course allowed (is_past state) (keeps state) story (new ∷ others)
            (one_served was_received was_sent course (is_past state) (is_past state) (keeps state) (keeps state) story story old new others one a.past
            (record { fed = λ other differs. refl; handed = λ other differs. refl; kept = λ other differs. refl })
            (λ s. record {
              pending = s.pending;
              kept = ap (keeps state) one ∙ s.kept;
              received = subst (λ (o : Option Bytes). IfSome o (λ bytes. bytes ≡ bytes_fed (connection new) story)) (sym received)
                  (subst (λ (d : Connection). IfSome (was_received old.stream) (λ bytes. bytes ≡ bytes_fed d story)) (sym one) s.received);
              sent = subst (λ (o : Option Bytes). IfSome o (λ bytes. bytes_handed (connection new) story ≡ bytes ++ s.pending)) (sym sent)
                  (subst (λ (d : Connection). IfSome (was_sent old.stream) (λ bytes. bytes_handed d story ≡ bytes ++ s.pending)) (sym one) s.sent);
              course_is = goes s.course_is;
            })
            a);
      };
    }

-- it was tried to read, and no bytes came
pub nothing_read : {A S : Type 0} (was_received was_sent : S → Option Bytes) (course : S → Option Course) (is_past : A → Past) (keeps : A → Kept)
    (allowed : Feedings)
    (state : A) (old new : Client S) (bytes : Bytes)
    → new.conn ≡ old.conn → GrowsBy 0 bytes (was_received old.stream) (was_received new.stream) → was_sent new.stream ≡ was_sent old.stream
    → (IfSome (course old.stream) (IsCourse old.is_ending old.is_broken old.is_full) → IfSome (course new.stream) (IsCourse new.is_ending new.is_broken new.is_full))
    → ServesOne was_received was_sent course is_past keeps allowed state state old new
nothing_read was_received was_sent course is_past keeps allowed state old new bytes same received sent goes =
    still_one was_received was_sent course is_past keeps allowed state old new same (grows_none bytes _ _ received) sent goes

-- it was tried to write, and no bytes were taken
pub nothing_written : {A S : Type 0} (was_received was_sent : S → Option Bytes) (course : S → Option Course) (is_past : A → Past) (keeps : A → Kept)
    (allowed : Feedings)
    (state : A) (old new : Client S) (bytes : Bytes)
    → new.conn ≡ old.conn → was_received new.stream ≡ was_received old.stream → GrowsBy 0 bytes (was_sent old.stream) (was_sent new.stream)
    → (IfSome (course old.stream) (IsCourse old.is_ending old.is_broken old.is_full) → IfSome (course new.stream) (IsCourse new.is_ending new.is_broken new.is_full))
    → ServesOne was_received was_sent course is_past keeps allowed state state old new
nothing_written was_received was_sent course is_past keeps allowed state old new bytes same received sent goes =
    still_one was_received was_sent course is_past keeps allowed state old new same received (grows_none bytes _ _ sent) goes

-- bytes that are kept were written
pub written_one : {A S : Type 0} (was_received was_sent : S → Option Bytes) (course : S → Option Course) (is_past is_settled : A → Past) (keeps : A → Kept)
    (allowed : Feedings) (before after : A) (old new : Client S) (bytes : Bytes) (count : ℕ) → new.conn ≡ old.conn
    → bytes ≡ kept_bytes ((keeps before) (connection old))
    → was_received new.stream ≡ was_received old.stream → GrowsBy count bytes (was_sent old.stream) (was_sent new.stream)
    → (IfSome (course old.stream) (IsCourse old.is_ending old.is_broken old.is_full) → IfSome (course new.stream) (IsCourse new.is_ending new.is_broken new.is_full))
    → IsWritten (connection old) count (is_past before) (is_past after) (is_settled before) (is_settled after) (keeps before) (keeps after)
    → ServesOne was_received was_sent course (settled_past is_past is_settled) keeps allowed before after old new
written_one was_received was_sent course is_past is_settled keeps allowed before after old new bytes count same all received grows goes written =
    let one : connection new ≡ connection old = ap (λ conn. record { node = conn.node; serial = conn.serial }) same in
    record {
      beside = λ others. record {
        further = λ story a.
            nothing_done was_received was_sent course allowed (settled_past is_past is_settled after) (keeps after) story (new ∷ others)
            (one_served was_received was_sent course (settled_past is_past is_settled before) (settled_past is_past is_settled after) (keeps before)
            (keeps after) story story old new others one
            (record { past = written.past story a.past.past; rest = written.rest story a.past.rest })
            (record { fed = λ other differs. refl; handed = λ other differs. refl; kept = λ other differs. written.others other differs })
            (λ s.
            let kept : bytes ≡ s.pending = all ∙ ap kept_bytes s.kept in
            record {
              pending = drop count s.pending;
              kept = ap (keeps after) one ∙ written.kept ∙ ap (λ (o : Option Bytes). option_map (λ (b : Bytes). drop count b) o) s.kept;
              received = subst (λ (o : Option Bytes). IfSome o (λ bytes. bytes ≡ bytes_fed (connection new) story)) (sym received)
                  (subst (λ (d : Connection). IfSome (was_received old.stream) (λ bytes. bytes ≡ bytes_fed d story)) (sym one) s.received);
              sent = sent_more (was_sent old.stream) (was_sent new.stream) count s.pending (bytes_handed (connection new) story)
                  (grows ∙ ap (λ (b : Bytes). option_map (λ (front : Bytes). front ++ take count b) (was_sent old.stream)) kept)
                  (subst (λ (d : Connection). IfSome (was_sent old.stream) (λ bytes. bytes_handed d story ≡ bytes ++ s.pending)) (sym one) s.sent);
              course_is = goes s.course_is;
            })
            a);
      };
    }

-- how many bytes are left of those that are kept
pub left_kept : (count : ℕ) (old new : Option Bytes) → new ≡ option_map (λ (bytes : Bytes). drop count bytes) old → count ≤ length (kept_bytes old)
    → length (kept_bytes new) + count ≡ length (kept_bytes old)
left_kept count None new is few = let none = ap (λ (o : Option Bytes). length (kept_bytes o)) is in omega arith
left_kept count (Some bytes) new is few =
    let left = ap (λ (o : Option Bytes). length (kept_bytes o)) is in
    let long = length-drop count bytes in
    omega arith

-- one step on it behind another
pub one_then : {A S : Type 0} (was_received was_sent : S → Option Bytes) (course : S → Option Course) (is_past : A → Past) (keeps : A → Kept)
    (allowed : Feedings) (a b c : A)
    (x y z : Client S)
    → ServesOne was_received was_sent course is_past keeps allowed a b x y → ServesOne was_received was_sent course is_past keeps allowed b c y z
    → ServesOne was_received was_sent course is_past keeps allowed a c x z
one_then was_received was_sent course is_past keeps allowed a b c x y z p q = record {
  beside = λ others. serves_then was_received was_sent course is_past keeps allowed a b c (x ∷ others) (y ∷ others) (z ∷ others) (p.beside others)
      (q.beside others);
}

-- how many bytes are left behind one more step, and what is kept for the others
pub left_then : (before after : Kept) (c d : Connection) (left taken kept : ℕ) → d ≡ c → left ≡ length (kept_bytes (before c))
    → kept ≡ length (kept_bytes (before d)) → length (kept_bytes (after d)) + taken ≡ kept → left - taken ≡ length (kept_bytes (after c))
left_then before after c d left taken kept same was were is =
    let first = ap (λ (e : Connection). length (kept_bytes (before e))) same in
    let then = ap (λ (e : Connection). length (kept_bytes (after e))) same in
    omega arith

pub others_then : (first before after : Kept) (c d : Connection) → d ≡ c → KeepsOthers c first before → KeepsOthers d before after
    → KeepsOthers c first after
others_then first before after c d same so_far more = λ other differs.
    more other (ap (λ (e : Connection). same_connection other e) same ∙ differs) ∙ so_far other differs

-- no more were taken than were left, and those that may be taken are fewer by them
pub left_first : (before after : Kept) (c d : Connection) (left taken kept : ℕ) → d ≡ c → left ≡ length (kept_bytes (before c))
    → kept ≡ length (kept_bytes (before d)) → length (kept_bytes (after d)) + taken ≡ kept → taken ≤ left
left_first before after c d left taken kept same was were is =
    let first = ap (λ (e : Connection). length (kept_bytes (before e))) same in omega arith

pub taken_then : (left most taken first_most all : ℕ) → taken ≤ left → taken ≤ most → left + first_most ≡ all + most
    → (left - taken) + first_most ≡ all + (most - taken)
taken_then left most taken first_most all within few is = omega arith
