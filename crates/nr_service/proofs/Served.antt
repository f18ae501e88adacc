-- How a step on one client leaves the others, and steps behind one another.
use Rattle.std.proofs.Common.{◌≡◌, false, List, [], ◌∷◌, ◌++◌, map, refl, sym, ap, ◌∙◌, subst, append_assoc, append-nil}
use Rattle.std.specs.Prelude.{Option, IfSome, All}
use Rattle.std.proofs.lemmas.List.{map-append}
use Rattle.std.specs.List.Sorted.{IsPermutation}
use Rattle.std.proofs.lemmas.List.Elements.{All-nil, All-cons, All-head, All-tail, All-append, All-weaker}
use Rattle.std.proofs.lemmas.List.Sorted.{All-permutation, IsPermutation-map}
use Rattle.std.proofs.lemmas.Map.Keys.{IsDistinct-head, IsDistinct-IsPermutation}
use Rattle.std.specs.List.{IsDistinct}
use Rattle.nr_model.specs.Bytes.{Bytes}
use Rattle.nr_model.specs.Items.{Connection, same_connection}
use Rattle.nr_model.specs.Connections.{Feeding}
use Rattle.nr_service.specs.Readings.{Feedings, IsNeverFed}
use Rattle.nr_service.specs.Serving.{connection, IsApart, IsServed, AreServed}
use Rattle.nr_service.specs.Steps.{HasServed, Serves, ServesOne, Accepts}
use Rattle.nr_service.specs.declared.client.Client.{Client}
use Rattle.nr_service.specs.Stories.{Occurrence, Story, Past, Kept, KeepsOthers, opened_in, fed_in, closed_in, bytes_fed, bytes_handed, going_on}
use Rattle.nr_service.proofs.Occurrences.{opened_both, fed_both, closed_both, going_none, going_both}
use Rattle.nr_service.proofs.Apart.{flips, of_others}
use Rattle.nr_service.specs.Streams.{Course}

-- one for which nothing was fed, handed out or written
pub served_still : {S : Type 0} (was_received was_sent : S → Option Bytes) (course : S → Option Course) (old_kept new_kept : Kept) (story next : Story)
    (client : Client S) → bytes_fed (connection client) next ≡ bytes_fed (connection client) story
    → bytes_handed (connection client) next ≡ bytes_handed (connection client) story
    → new_kept (connection client) ≡ old_kept (connection client)
    → IsServed was_received was_sent course old_kept story client → IsServed was_received was_sent course new_kept next client
served_still was_received was_sent course old_kept new_kept story next client fed handed kept s = record {
  pending = s.pending;
  kept = kept ∙ s.kept;
  received = subst (λ (b : Bytes). IfSome (was_received client.stream) (λ bytes. bytes ≡ b)) (sym fed) s.received;
  sent = subst (λ (b : Bytes). IfSome (was_sent client.stream) (λ bytes. b ≡ bytes ++ s.pending)) (sym handed) s.sent;
  course_is = s.course_is;
}

-- what a step on one connection leaves of the others
pub record LeavesOthers (c : Connection) (old_kept new_kept : Kept) (story next : Story) : Type 0 where
  pub fed : (other : Connection) → same_connection other c ≡ false → bytes_fed other next ≡ bytes_fed other story
  pub handed : (other : Connection) → same_connection other c ≡ false → bytes_handed other next ≡ bytes_handed other story
  pub kept : KeepsOthers c old_kept new_kept

-- the other clients, behind a step on one
pub others_served : {S : Type 0} (was_received was_sent : S → Option Bytes) (course : S → Option Course) (old_kept new_kept : Kept) (story next : Story)
    (client : Client S) (others : List (Client S)) → LeavesOthers (connection client) old_kept new_kept story next
    → IsDistinct same_connection (map connection (client ∷ others))
    → All (IsServed was_received was_sent course old_kept story) others → All (IsServed was_received was_sent course new_kept next) others
others_served was_received was_sent course old_kept new_kept story next client others leaves apart all =
    of_others (IsServed was_received was_sent course old_kept story) (IsServed was_received was_sent course new_kept next) (connection client)
    (λ other differs s.
    served_still was_received was_sent course old_kept new_kept story next other (leaves.fed (connection other) differs)
    (leaves.handed (connection other) differs)
    (leaves.kept (connection other) differs) s)
    others (IsDistinct-head same_connection (connection client) (map connection others) apart) all

-- all of them, where one was served
pub one_served : {S : Type 0} (was_received was_sent : S → Option Bytes) (course : S → Option Course) (before after : Past) (old_kept new_kept : Kept)
    (story next : Story) (old new : Client S) (others : List (Client S)) → connection new ≡ connection old → after next
    → LeavesOthers (connection old) old_kept new_kept story next
    → (IsServed was_received was_sent course old_kept story old → IsServed was_received was_sent course new_kept next new)
    → AreServed was_received was_sent course before old_kept story (old ∷ others) → AreServed was_received was_sent course after new_kept next
    (new ∷ others)
one_served was_received was_sent course before after old_kept new_kept story next old new others same past leaves step a = record {
  past = past;
  each = All-cons (IsServed was_received was_sent course new_kept next) new others
      (step (All-head (IsServed was_received was_sent course old_kept story) old others a.each))
      (others_served was_received was_sent course old_kept new_kept story next old others leaves a.apart
      (All-tail (IsServed was_received was_sent course old_kept story) old others a.each));
  apart = subst (λ (c : Connection). IsDistinct same_connection (c ∷ map connection others)) (sym same) a.apart;
}

-- the order of the clients makes no difference
pub served_moved : {S : Type 0} (was_received was_sent : S → Option Bytes) (course : S → Option Course) (is_past : Past) (kept : Kept) (story : Story)
    (xs ys : List (Client S))
    → IsPermutation xs ys → AreServed was_received was_sent course is_past kept story xs → AreServed was_received was_sent course is_past kept story ys
served_moved was_received was_sent course is_past kept story xs ys moved a = record {
  past = a.past;
  each = All-permutation (IsServed was_received was_sent course kept story) xs ys moved a.each;
  apart = IsDistinct-IsPermutation same_connection flips (map connection xs) (map connection ys) (IsPermutation-map connection xs ys moved) a.apart;
}

pub has_moved : {S : Type 0} (was_received was_sent : S → Option Bytes) (course : S → Option Course) (allowed : Feedings) (opened : List Connection)
    (is_past : Past)
    (kept : Kept) (story : Story) (xs ys : List (Client S)) → IsPermutation xs ys
    → HasServed was_received was_sent course allowed opened is_past kept story xs → HasServed was_received was_sent course allowed opened is_past kept story ys
has_moved was_received was_sent course allowed opened is_past kept story xs ys moved h = record {
  next = h.next;
  more = h.more;
  is = h.is;
  opens = h.opens;
  apart = h.apart;
  closed = h.closed;
  feeds = h.feeds;
  served = served_moved was_received was_sent course is_past kept h.next xs ys moved h.served;
}

-- nothing was fed
pub nothing_fed : {S : Type 0} (was_received was_sent : S → Option Bytes) (course : S → Option Course) (allowed : Feedings) (opened : List Connection)
    (is_past : Past)
    (kept : Kept) (story : Story) (more : List Occurrence) (clients : List (Client S)) → opened_in more ≡ opened → fed_in more ≡ [] → closed_in more ≡ []
    → (IsApart story → IsApart (going_on story more))
    → AreServed was_received was_sent course is_past kept (going_on story more) clients
    → HasServed was_received was_sent course allowed opened is_past kept story clients
nothing_fed was_received was_sent course allowed opened is_past kept story more clients opens none shut apart a = record {
  next = going_on story more;
  more = more;
  is = refl;
  opens = opens;
  apart = apart;
  closed = shut;
  feeds = subst (λ (fed : List Feeding). All allowed fed) (sym none)
      (All-nil allowed);
  served = a;
}

-- nothing happened
pub nothing_done : {S : Type 0} (was_received was_sent : S → Option Bytes) (course : S → Option Course) (allowed : Feedings) (is_past : Past) (kept : Kept)
    (story : Story)
    (clients : List (Client S)) → AreServed was_received was_sent course is_past kept story clients
    → HasServed was_received was_sent course allowed [] is_past kept story clients
nothing_done was_received was_sent course allowed is_past kept story clients a = record {
  next = story;
  more = [];
  is = sym (going_none story);
  opens = refl;
  apart = λ apart. apart;
  closed = refl;
  feeds = All-nil allowed;
  served = a;
}

-- nothing was done
pub serves_none : {A S : Type 0} (was_received was_sent : S → Option Bytes) (course : S → Option Course) (is_past : A → Past) (keeps : A → Kept)
    (allowed : Feedings)
    (state : A) (clients : List (Client S)) → Serves was_received was_sent course is_past keeps allowed [] state state clients clients
serves_none was_received was_sent course is_past keeps allowed state clients = record {
  further = λ story a. nothing_done was_received was_sent course allowed (is_past state) (keeps state) story clients a;
}

-- served further by a story, and further by the one that goes on from it
pub has_then : {S : Type 0} (was_received was_sent : S → Option Bytes) (course : S → Option Course) (allowed : Feedings) {first_opened opened : List Connection}
    (between after : Past) (between_kept kept : Kept)
    (story : Story) (xs ys : List (Client S)) (first : HasServed was_received was_sent course allowed first_opened between between_kept story xs)
    → HasServed was_received was_sent course allowed opened after kept first.next ys
    → HasServed was_received was_sent course allowed (first_opened ++ opened) after kept story ys
has_then was_received was_sent course allowed between after between_kept kept story xs ys first second = record {
  next = second.next;
  more = first.more ++ second.more;
  is = second.is ∙ ap (λ (s : Story). going_on s second.more) first.is ∙ going_both story first.more second.more;
  opens = opened_both first.more second.more ∙ (λ i. first.opens i ++ second.opens i);
  apart = λ apart. second.apart (first.apart apart);
  closed = closed_both first.more second.more ∙ (λ i. first.closed i ++ second.closed i);
  feeds = subst (λ (fed : List Feeding). All allowed fed) (sym (fed_both first.more second.more))
      (All-append allowed (fed_in first.more) (fed_in second.more) first.feeds second.feeds);
  served = second.served;
}

-- one step behind another
pub serves_then : {A S : Type 0} (was_received was_sent : S → Option Bytes) (course : S → Option Course) (is_past : A → Past) (keeps : A → Kept)
    (allowed : Feedings)
    {first_opened opened : List Connection} (a b c : A) (xs ys zs : List (Client S))
    → Serves was_received was_sent course is_past keeps allowed first_opened a b xs ys
    → Serves was_received was_sent course is_past keeps allowed opened b c ys zs
    → Serves was_received was_sent course is_past keeps allowed (first_opened ++ opened) a c xs zs
serves_then was_received was_sent course is_past keeps allowed a b c xs ys zs p q = record {
  further = λ story s.
      let first = p.further story s in
      has_then was_received was_sent course allowed (is_past b) (is_past c) (keeps b) (keeps c) story ys zs first (q.further first.next first.served);
}

-- where more may be fed
pub has_weaker : {S : Type 0} (was_received was_sent : S → Option Bytes) (course : S → Option Course) (few many : Feedings) (opened : List Connection)
    (is_past : Past) (kept : Kept) (story : Story) (clients : List (Client S)) → ((feeding : Feeding) → few feeding → many feeding)
    → HasServed was_received was_sent course few opened is_past kept story clients
    → HasServed was_received was_sent course many opened is_past kept story clients
has_weaker was_received was_sent course few many opened is_past kept story clients more h = record {
  next = h.next;
  more = h.more;
  is = h.is;
  opens = h.opens;
  apart = h.apart;
  closed = h.closed;
  feeds = All-weaker few many more (fed_in h.more) h.feeds;
  served = h.served;
}

pub serves_weaker : {A S : Type 0} (was_received was_sent : S → Option Bytes) (course : S → Option Course) (is_past : A → Past) (keeps : A → Kept)
    (few many : Feedings) {opened : List Connection} (a b : A) (xs ys : List (Client S)) → ((feeding : Feeding) → few feeding → many feeding)
    → Serves was_received was_sent course is_past keeps few opened a b xs ys → Serves was_received was_sent course is_past keeps many opened a b xs ys
serves_weaker was_received was_sent course is_past keeps few many {opened = opened} a b xs ys more p = record {
  further = λ story s.
      has_weaker was_received was_sent course few many opened (is_past b) (keeps b) story ys more (p.further story s);
}

pub one_weaker : {A S : Type 0} (was_received was_sent : S → Option Bytes) (course : S → Option Course) (is_past : A → Past) (keeps : A → Kept)
    (few many : Feedings) (a b : A) (x y : Client S) → ((feeding : Feeding) → few feeding → many feeding)
    → ServesOne was_received was_sent course is_past keeps few a b x y → ServesOne was_received was_sent course is_past keeps many a b x y
one_weaker was_received was_sent course is_past keeps few many a b x y more p = record {
  beside = λ others. serves_weaker was_received was_sent course is_past keeps few many a b (x ∷ others) (y ∷ others) more (p.beside others);
}

-- some were taken on behind others
pub accepts_none : {A S : Type 0} (was_received was_sent : S → Option Bytes) (course : S → Option Course) (is_past : A → Past) (keeps : A → Kept)
    (state : A) (clients : List (Client S)) → Accepts was_received was_sent course is_past keeps state state clients clients
accepts_none was_received was_sent course is_past keeps state clients = record {
  accepted = [];
  items = sym (append-nil clients);
  serves = serves_none was_received was_sent course is_past keeps IsNeverFed state clients;
}

pub accepts_then : {A S : Type 0} (was_received was_sent : S → Option Bytes) (course : S → Option Course) (is_past : A → Past) (keeps : A → Kept)
    (a b c : A) (xs ys zs : List (Client S)) → Accepts was_received was_sent course is_past keeps a b xs ys
    → Accepts was_received was_sent course is_past keeps b c ys zs → Accepts was_received was_sent course is_past keeps a c xs zs
accepts_then {A} {S} was_received was_sent course is_past keeps a b c xs ys zs p q = record {
  accepted = p.accepted ++ q.accepted;
  items = q.items ∙ ap (λ (l : List (Client S)). l ++ q.accepted) p.items ∙ append_assoc xs p.accepted q.accepted;
  serves = subst (λ (opened : List Connection). Serves was_received was_sent course is_past keeps IsNeverFed opened a c xs zs)
      (sym (map-append connection p.accepted q.accepted))
      (serves_then was_received was_sent course is_past keeps IsNeverFed a b c xs ys zs p.serves q.serves);
}
