-- Who was ever there, and which streams were given back.
use Rattle.std.proofs.Common.{◌≡◌, inl, inr, List, [], ◌∷◌, ◌++◌, map, refl, sym, ap, subst, append_assoc, append-nil}
use Rattle.std.specs.Prelude.{Option, Some, None, All}
use Rattle.std.specs.List.{Contains}
use Rattle.std.specs.List.Sorted.{IsPermutation}
use Rattle.std.proofs.lemmas.List.{map-append}
use Rattle.std.proofs.lemmas.List.Sorted.{IsPermutation-append_left, IsPermutation-append_right, IsPermutation-map, IsPermutation-trans}
use Rattle.std.proofs.lemmas.Map.Keys.{IsDistinct-IsPermutation}
use Rattle.nr_model.specs.Bytes.{Bytes}
use Rattle.nr_model.specs.Items.{Connection, same_connection}
use Rattle.nr_model.specs.Connections.{Feeding}
use Rattle.nr_service.specs.Pollers.{AreAmong, AreGivenBack, Parting, PartsWith, stream_of}
use Rattle.nr_service.specs.Serving.{connection, AreOpened, IsApart, IsLeft}
use Rattle.nr_service.specs.Stories.{Occurrence, Story, fed_in, going_on, opened_in}
use Rattle.nr_service.specs.declared.client.Client.{Client}
use Rattle.nr_service.proofs.Apart.{flips}
use Rattle.nr_service.proofs.Left.{left_beside}

-- none are among any, all are among themselves, and more are among more behind others that are
pub none_among : {S : Type 0} (all : List S) → AreAmong [] all
none_among [] = refl
none_among (one ∷ all) = inr (none_among all)

all_among : {S : Type 0} (all : List S) → AreAmong all all
all_among [] = refl
all_among (one ∷ all) = inl (all, refl, all_among all)

both_among : {S : Type 0} (xs all ys more : List S) → AreAmong xs all → AreAmong ys more → AreAmong (xs ++ ys) (all ++ more)
both_among {S} xs [] ys more p q = subst (λ (l : List S). AreAmong (l ++ ys) more) (sym p) q
both_among {S} xs (one ∷ all) ys more p q =
    elim p [
      | inl here ↦ inl (here.0 ++ ys, ap (λ (l : List S). l ++ ys) here.1, both_among here.0 all ys more here.2 q)
      | inr behind ↦ inr (both_among xs all ys more behind q)
    ]

-- others were given back
pub others_back : {S : Type 0} (streams : List S) (more : List (Parting S)) (old new : Option (List (Parting S))) → PartsWith more old new
    → AreGivenBack streams old → AreGivenBack streams new
others_back {S} streams more None new parts given = subst (λ (known : Option (List (Parting S))). AreGivenBack streams known) (sym parts) tt
others_back {S} streams more (Some were) new parts given =
    subst (λ (known : Option (List (Parting S))). AreGivenBack streams known) (sym parts)
    (subst (AreAmong streams) (sym (map-append stream_of were more))
    (subst (λ (all : List S). AreAmong all (map stream_of were ++ map stream_of more)) (append-nil streams)
    (both_among streams (map stream_of were) [] (map stream_of more) given (none_among (map stream_of more)))))

-- more of these were
pub more_back : {S : Type 0} (streams : List S) (more : List (Parting S)) (old new : Option (List (Parting S))) → PartsWith more old new
    → AreGivenBack streams old → AreGivenBack (streams ++ map stream_of more) new
more_back {S} streams more None new parts given =
    subst (λ (known : Option (List (Parting S))). AreGivenBack (streams ++ map stream_of more) known) (sym parts) tt
more_back {S} streams more (Some were) new parts given =
    let added = map stream_of more in
    subst (λ (known : Option (List (Parting S))). AreGivenBack (streams ++ added) known) (sym parts)
    (subst (AreAmong (streams ++ added)) (sym (map-append stream_of were more))
    (both_among streams (map stream_of were) added added given (all_among added)))

-- some were opened behind the others
pub opened_more : {S : Type 0} (were opened : List Connection) (gone old accepted new : List (Client S)) → IsPermutation were (map connection (gone ++ old))
    → opened ≡ were ++ map connection accepted → new ≡ old ++ accepted → IsPermutation opened (map connection (gone ++ new))
opened_more {S} were opened gone old accepted new all more items =
    subst (λ (l : List Connection). IsPermutation l (map connection (gone ++ new))) (sym more)
    (subst (λ (clients : List (Client S)). IsPermutation (were ++ map connection accepted) (map connection (gone ++ clients))) (sym items)
    (subst (λ (clients : List (Client S)). IsPermutation (were ++ map connection accepted) (map connection clients)) (append_assoc gone old accepted)
    (subst (λ (l : List Connection). IsPermutation (were ++ map connection accepted) l) (sym (map-append connection (gone ++ old) accepted))
    (IsPermutation-append_left (map connection accepted) were (map connection (gone ++ old)) all))))

-- the same connections
pub opened_same : {S : Type 0} (opened : List Connection) (gone old new : List (Client S)) → IsPermutation opened (map connection (gone ++ old))
    → map connection new ≡ map connection old → IsPermutation opened (map connection (gone ++ new))
opened_same {S} opened gone old new all same =
    subst (λ (l : List Connection). IsPermutation opened l) (sym (map-append connection gone new))
    (subst (λ (l : List Connection). IsPermutation opened (map connection gone ++ l)) (sym same)
    (subst (λ (l : List Connection). IsPermutation opened l) (map-append connection gone old) all))

-- more are gone
pub opened_gone : {S : Type 0} (opened : List Connection) (gone old went new : List (Client S)) → IsPermutation opened (map connection (gone ++ old))
    → IsPermutation old (went ++ new) → IsPermutation opened (map connection ((gone ++ went) ++ new))
opened_gone {S} opened gone old went new all moved =
    subst (λ (clients : List (Client S)). IsPermutation opened (map connection clients)) (sym (append_assoc gone went new))
    (IsPermutation-trans opened (map connection (gone ++ old)) (map connection (gone ++ (went ++ new))) all
    (IsPermutation-map connection (gone ++ old) (gone ++ (went ++ new)) (IsPermutation-append_right gone old (went ++ new) moved)))

-- those that left are left further by a story in which bytes were fed to those that are there alone
pub left_through : {S : Type 0} (was_received was_sent : S → Option Bytes) (story next : Story) (more : List Occurrence) (gone clients : List (Client S))
    → next ≡ going_on story more → AreOpened next gone clients → IsApart next
    → All (λ (feeding : Feeding). Contains (map connection clients) feeding.connection) (fed_in more)
    → All (IsLeft was_received was_sent story) gone → All (IsLeft was_received was_sent next) gone
left_through was_received was_sent story next more gone clients is opened apart among all =
    subst (λ (s : Story). All (IsLeft was_received was_sent s) gone) (sym is)
    (left_beside was_received was_sent story more gone clients
    (IsDistinct-IsPermutation same_connection flips (opened_in next.occurrences) (map connection (gone ++ clients)) opened apart) among all)
