-- What a piece asks for, by the frames before a refusal, and by the fault that it ends with.
use Rattle.std.proofs.Common.{◌≡◌, ℕ, zero, suc, ◌+◌, ◌≤◌, true, false, List, [], ◌∷◌, ◌++◌, length, take, drop, refl, ap, sym, ◌∙◌, append-nil, append_assoc, arith, length-append}
use Rattle.std.specs.Prelude.{None, Some}
use Rattle.std.proofs.lemmas.List.{take_at}
use Rattle.nr_model.specs.Bytes.{Bytes}
use Rattle.nr_model.specs.declared.fault.Fault.{Fault}
use Rattle.nr_model.specs.Commands.{served}
use Rattle.nr_model.specs.Requests.{Frame, framing_of, fault_text}
use Rattle.nr_model.specs.Replies.{Error}
use Rattle.nr_model.specs.Items.{Connection, Item, Deed, End}
use Rattle.nr_model.specs.Modes.{Mode, conversation}
use Rattle.nr_model.specs.Asked.{jobs_from}
use Rattle.nr_model.proofs.Conversing.{deeds_begin, joined_on, joined_over}
use Rattle.nr_model.proofs.Counts.{frames_le_bytes, deeds_and_rest_le_bytes}
use Rattle.nr_resp.specs.Stream.{RanOut}
use Rattle.nr_session.proofs.Fronts.{adds_all}
use Rattle.nr_session.specs.SessionState.{framed, asked, requested, request_jobs, IsFrontOf, AddsFront}

-- no more frames than bytes
few_frames : (rest piece : Bytes) → length (framed rest piece).frames ≤ length rest + length piece
few_frames rest piece = omega (arith, frames_le_bytes (rest ++ piece), length-append rest piece)

-- nor more deeds and bytes of the rest, while the connection goes on
pub few_deeds_and_rest : (mode : Mode) (rest piece : Bytes) → (asked mode rest piece).ended ≡ false
    → length (asked mode rest piece).deeds + length (framed rest piece).rest ≤ length rest + length piece
few_deeds_and_rest mode rest piece on = omega (arith, deeds_and_rest_le_bytes served mode (rest ++ piece) on, length-append rest piece)

-- jobs of deeds behind others
jobs_append : (c : Connection) (number moment : ℕ) (ds es : List Deed)
    → jobs_from c number moment (ds ++ es) ≡ jobs_from c number moment ds ++ jobs_from c (number + length ds) moment es
jobs_append c number moment [] es = ap (λ n. jobs_from c n moment es) (omega arith)
jobs_append c number moment (d ∷ ds) es =
    ap (λ js. record { connection = c; number = number; moment = moment; deed = d } ∷ js)
    (jobs_append c (number + 1) moment ds es ∙ ap (λ n. jobs_from c (number + 1) moment ds ++ jobs_from c n moment es) (omega arith))

length-jobs : (c : Connection) (number moment : ℕ) (ds : List Deed) → length (jobs_from c number moment ds) ≡ length ds
length-jobs c number moment [] = refl
length-jobs c number moment (d ∷ ds) = ap suc (length-jobs c (number + 1) moment ds)

-- a front, and what is behind it
take_whole : {A : Type 0} (xs : List A) → xs ≡ take (length xs) xs
take_whole [] = refl
take_whole (x ∷ xs) = ap (λ ys. x ∷ ys) (take_whole xs)

pub front_whole : (xs ys : List Frame) → xs ≡ ys → IsFrontOf xs ys
front_whole xs ys e = (length ys, e ∙ take_whole ys)

both_parts : {A : Type 0} (n : ℕ) (xs : List A) → take n xs ++ drop n xs ≡ xs
both_parts zero xs = refl
both_parts (suc n) [] = refl
both_parts (suc n) (x ∷ xs) = ap (λ ys. x ∷ ys) (both_parts n xs)

parted : (some all : List Frame) (f : IsFrontOf some all) → some ++ drop f.0 all ≡ all
parted some all f = ap (λ s. s ++ drop f.0 all) f.1 ∙ both_parts f.0 all

length-take-le-any : {A : Type 0} (n : ℕ) (xs : List A) → length (take n xs) ≤ length xs
length-take-le-any zero xs = omega arith
length-take-le-any (suc n) [] = omega arith
length-take-le-any (suc n) (x ∷ xs) = omega (arith, length-take-le-any n xs)

pub front_few : (rest piece : Bytes) (frames : List Frame) → IsFrontOf frames (framed rest piece).frames → length frames ≤ length rest + length piece
front_few rest piece frames f = omega (arith, few_frames rest piece, ap length f.1, length-take-le-any f.0 (framed rest piece).frames)

-- the frames before a refusal are the first of all
pub ran_out_front : (bytes held : Bytes) (frames frames' : List Frame) → frames ≡ [] → RanOut bytes held frames frames'
    → IsFrontOf frames' (framing_of bytes).frames
ran_out_front bytes held frames frames' none ran = (
  length ran.1.added,
  ran.1.pushed ∙ ap (λ fs. fs ++ ran.1.added) none
      ∙ sym (ap (λ f. take (length ran.1.added) f.frames) ran.1.same ∙ take_at ran.1.added (framing_of (held ++ ran.0)).frames (length ran.1.added) refl),
)

-- what the first of the frames ask for is the first of what all ask for
jobs_begin : (c : Connection) (number moment : ℕ) (mode : Mode) (some all : List Frame) → IsFrontOf some all
    → (left : List Item) × (request_jobs c number moment mode some ++ left ≡ request_jobs c number moment mode all)
jobs_begin c number moment mode some all f =
    let begin = deeds_begin served mode some (drop f.0 all) None in
    let whole : (requested mode some).deeds ++ begin.0 ≡ (requested mode all).deeds = begin.1 ∙ ap (λ frames. (requested mode frames).deeds) (parted some all f) in
    (jobs_from c (number + length (requested mode some).deeds) moment begin.0, sym (jobs_append c number moment (requested mode some).deeds begin.0) ∙ ap (jobs_from c number moment) whole)

take_begin : {A : Type 0} (m : ℕ) (some left : List A) → m ≤ length some → take m (some ++ left) ≡ take m some
take_begin zero some left h = refl
take_begin (suc m) [] left h = absurd (omega arith)
take_begin (suc m) (x ∷ some) left h = ap (λ ys. x ∷ ys) (take_begin m some left (omega arith))

-- so the jobs that were added for them are the first of those for all
pub of_all : (c : Connection) (number number' moment : ℕ) (mode : Mode) (old now : List Item) (some all : List Frame) → IsFrontOf some all
    → AddsFront old now number number' (request_jobs c number moment mode some) → AddsFront old now number number' (request_jobs c number moment mode all)
of_all c number number' moment mode old now some all f h =
    let jobs = request_jobs c number moment mode some in
    let begin = jobs_begin c number moment mode some all f in record {
      count = h.count;
      few = omega (arith, h.few, ap length begin.1, length-append jobs begin.0);
      added = h.added ∙ ap (λ js. old ++ js) (sym (take_begin h.count jobs begin.0 h.few) ∙ ap (take h.count) begin.1);
      numbered = h.numbered;
    }

pub all_added : (c : Connection) (number number' moment : ℕ) (mode : Mode) (old now : List Item) (some all : List Frame) → IsFrontOf some all
    → now ≡ old ++ request_jobs c number moment mode some → number' ≡ number + length (requested mode some).deeds
    → AddsFront old now number number' (request_jobs c number moment mode all)
all_added c number number' moment mode old now some all f added numbered =
    of_all c number number' moment mode old now some all f
    (adds_all old now (request_jobs c number moment mode some) number number' added (omega (arith, numbered, length-jobs c number moment (requested mode some).deeds)))

-- where one of the first frames ends the connection, the others and a fault ask for nothing
pub over : (mode : Mode) (rest piece : Bytes) (some : List Frame) → IsFrontOf some (framed rest piece).frames → (requested mode some).ended ≡ true → asked mode rest piece ≡ requested mode some
over mode rest piece some f ended =
    ap (λ frames. conversation served mode frames (framed rest piece).fault) (sym (parted some (framed rest piece).frames f))
    ∙ joined_over served mode some (drop f.0 (framed rest piece).frames) (framed rest piece).fault ended

-- where none does, a fault ends it
pub broken : (mode : Mode) (rest piece : Bytes) (fault : Fault) → (framed rest piece).fault ≡ Some fault → (requested mode (framed rest piece).frames).ended ≡ false
    → asked mode rest piece
    ≡ record { deeds = (requested mode (framed rest piece).frames).deeds ++ End (Some (Error (fault_text fault))) ∷ []; mode = (requested mode (framed rest piece).frames).mode; ended = true }
broken mode rest piece fault is on =
    let frames = (framed rest piece).frames in
    ap (conversation served mode frames) is
    ∙ ap (λ fs. conversation served mode fs (Some fault)) (sym (append-nil frames))
    ∙ joined_on served mode frames [] (Some fault) on

-- its job stands behind theirs
pub fault_jobs : (c : Connection) (next next' moment : ℕ) (mode : Mode) (old mid new : List Item) (frames : List Frame) (last : Deed)
    → mid ≡ old ++ request_jobs c next moment mode frames → next' ≡ next + length (requested mode frames).deeds → new ≡ mid ++ jobs_from c next' moment (last ∷ [])
    → new ≡ old ++ jobs_from c next moment ((requested mode frames).deeds ++ last ∷ [])
fault_jobs c next next' moment mode old mid new frames last requests numbered end =
    end ∙ ap (λ (js : List Item). js ++ jobs_from c next' moment (last ∷ [])) requests
    ∙ append_assoc old (request_jobs c next moment mode frames) _
    ∙ ap (λ (n : ℕ). old ++ (request_jobs c next moment mode frames ++ jobs_from c n moment (last ∷ []))) numbered
    ∙ ap (λ (js : List Item). old ++ js) (sym (jobs_append c next moment (requested mode frames).deeds (last ∷ [])))
