-- What happened, and more behind it.
use Rattle.std.proofs.Common.{◌≡◌, List, [], ◌∷◌, ◌++◌, map, refl, sym, ap, ◌∙◌, subst, append_assoc, append-nil}
use Rattle.std.proofs.lemmas.List.{map-append}
use Rattle.std.specs.List.{IsDistinct}
use Rattle.nr_model.specs.Items.{Connection, same_connection}
use Rattle.nr_service.specs.Serving.{IsApart}
use Rattle.nr_model.specs.Connections.{Feeding, Handed, fed_to, handed_to}
use Rattle.nr_model.proofs.Exchanged.{fed_to-append, handed_to-append}
use Rattle.nr_service.specs.Stories.{Closing, Occurrence, Opened, Fed, HandedOut, Closed, Story, opened_in, fed_in, handed_in, closings_in, closed_in, bytes_fed, bytes_handed, going_on}

pub opened_both : (xs ys : List Occurrence) → opened_in (xs ++ ys) ≡ opened_in xs ++ opened_in ys
opened_both [] ys = refl
opened_both (Opened c ∷ xs) ys = ap (λ (l : List Connection). c ∷ l) (opened_both xs ys)
opened_both (Fed feeding ∷ xs) ys = opened_both xs ys
opened_both (HandedOut handed ∷ xs) ys = opened_both xs ys
opened_both (Closed closing ∷ xs) ys = opened_both xs ys

pub fed_both : (xs ys : List Occurrence) → fed_in (xs ++ ys) ≡ fed_in xs ++ fed_in ys
fed_both [] ys = refl
fed_both (Opened c ∷ xs) ys = fed_both xs ys
fed_both (Fed feeding ∷ xs) ys = ap (λ (l : List Feeding). feeding ∷ l) (fed_both xs ys)
fed_both (HandedOut handed ∷ xs) ys = fed_both xs ys
fed_both (Closed closing ∷ xs) ys = fed_both xs ys

pub handed_both : (xs ys : List Occurrence) → handed_in (xs ++ ys) ≡ handed_in xs ++ handed_in ys
handed_both [] ys = refl
handed_both (Opened c ∷ xs) ys = handed_both xs ys
handed_both (Fed feeding ∷ xs) ys = handed_both xs ys
handed_both (HandedOut handed ∷ xs) ys = ap (λ (l : List Handed). handed ∷ l) (handed_both xs ys)
handed_both (Closed closing ∷ xs) ys = handed_both xs ys

pub closings_both : (xs ys : List Occurrence) → closings_in (xs ++ ys) ≡ closings_in xs ++ closings_in ys
closings_both [] ys = refl
closings_both (Opened c ∷ xs) ys = closings_both xs ys
closings_both (Fed feeding ∷ xs) ys = closings_both xs ys
closings_both (HandedOut handed ∷ xs) ys = closings_both xs ys
closings_both (Closed closing ∷ xs) ys = ap (λ (l : List Closing). closing ∷ l) (closings_both xs ys)

pub closed_both : (xs ys : List Occurrence) → closed_in (xs ++ ys) ≡ closed_in xs ++ closed_in ys
closed_both xs ys =
    ap (map (λ (closing : Closing). closing.connection)) (closings_both xs ys)
    ∙ map-append (λ (closing : Closing). closing.connection) (closings_in xs) (closings_in ys)

-- where no connection was closed there was no close
none_closing : (closings : List Closing) → map (λ (closing : Closing). closing.connection) closings ≡ [] → closings ≡ []
none_closing [] none = refl
none_closing (closing ∷ closings) none = absurd (cc none)

pub no_closings : (occurrences : List Occurrence) → closed_in occurrences ≡ [] → closings_in occurrences ≡ []
no_closings occurrences none = none_closing (closings_in occurrences) none

-- pieces that were handed out
pub pieces_opened : (handed : List Handed) → opened_in (map HandedOut handed) ≡ []
pieces_opened [] = refl
pieces_opened (h ∷ handed) = pieces_opened handed

pub pieces_fed : (handed : List Handed) → fed_in (map HandedOut handed) ≡ []
pieces_fed [] = refl
pieces_fed (h ∷ handed) = pieces_fed handed

pub pieces_handed : (handed : List Handed) → handed_in (map HandedOut handed) ≡ handed
pieces_handed [] = refl
pieces_handed (h ∷ handed) = ap (λ (l : List Handed). h ∷ l) (pieces_handed handed)

pub pieces_closings : (handed : List Handed) → closings_in (map HandedOut handed) ≡ []
pieces_closings [] = refl
pieces_closings (h ∷ handed) = pieces_closings handed

pub pieces_closed : (handed : List Handed) → closed_in (map HandedOut handed) ≡ []
pieces_closed handed = ap (map (λ (closing : Closing). closing.connection)) (pieces_closings handed)

-- a story that goes on
pub going_none : (story : Story) → going_on story [] ≡ story
going_none story = λ i. record story { occurrences = append-nil story.occurrences i }

pub going_both : (story : Story) (first second : List Occurrence) → going_on (going_on story first) second ≡ going_on story (first ++ second)
going_both story first second = λ i. record story { occurrences = append_assoc story.occurrences first second i }

pub fed_behind : (c : Connection) (story : Story) (more : List Occurrence) → bytes_fed c (going_on story more) ≡ bytes_fed c story ++ fed_to c (fed_in more)
fed_behind c story more = ap (fed_to c) (fed_both story.occurrences more) ∙ fed_to-append c (fed_in story.occurrences) (fed_in more)

pub handed_behind : (c : Connection) (story : Story) (more : List Occurrence)
    → bytes_handed c (going_on story more) ≡ bytes_handed c story ++ handed_to c (handed_in more)
handed_behind c story more = ap (handed_to c) (handed_both story.occurrences more) ∙ handed_to-append c (handed_in story.occurrences) (handed_in more)

-- where nothing more was fed, or handed out
pub fed_still : (c : Connection) (story : Story) (more : List Occurrence) → fed_in more ≡ [] → bytes_fed c (going_on story more) ≡ bytes_fed c story
fed_still c story more none = fed_behind c story more ∙ ap (λ l. bytes_fed c story ++ fed_to c l) none ∙ append-nil (bytes_fed c story)

pub handed_still : (c : Connection) (story : Story) (more : List Occurrence) → handed_in more ≡ []
    → bytes_handed c (going_on story more) ≡ bytes_handed c story
handed_still c story more none = handed_behind c story more ∙ ap (λ l. bytes_handed c story ++ handed_to c l) none ∙ append-nil (bytes_handed c story)

-- what was fed in a story that goes on
pub fed_on : (story next : Story) (more : List Occurrence) → next ≡ going_on story more → fed_in next.occurrences ≡ fed_in story.occurrences ++ fed_in more
fed_on story next more is = ap (λ (s : Story). fed_in s.occurrences) is ∙ fed_both story.occurrences more

-- what was closed in it
pub closings_on : (story next : Story) (more : List Occurrence) → next ≡ going_on story more
    → closings_in next.occurrences ≡ closings_in story.occurrences ++ closings_in more
closings_on story next more is = ap (λ (s : Story). closings_in s.occurrences) is ∙ closings_both story.occurrences more

-- and where no connection was
pub closings_still : (story next : Story) (more : List Occurrence) → next ≡ going_on story more → closed_in more ≡ []
    → closings_in next.occurrences ≡ closings_in story.occurrences
closings_still story next more is none =
    closings_on story next more is ∙ ap (λ (l : List Closing). closings_in story.occurrences ++ l) (no_closings more none)
    ∙ append-nil (closings_in story.occurrences)

-- where no more was opened
pub still_apart : (story : Story) (more : List Occurrence) → opened_in more ≡ [] → IsApart story → IsApart (going_on story more)
still_apart story more none apart =
    subst (λ (l : List Connection). IsDistinct same_connection l)
    (sym (opened_both story.occurrences more ∙ ap (λ (l : List Connection). opened_in story.occurrences ++ l) none
    ∙ append-nil (opened_in story.occurrences))) apart

-- what was opened in a story that goes on
pub opened_on : (story next : Story) (more : List Occurrence) → next ≡ going_on story more
    → opened_in next.occurrences ≡ opened_in story.occurrences ++ opened_in more
opened_on story next more is = ap (λ (s : Story). opened_in s.occurrences) is ∙ opened_both story.occurrences more
