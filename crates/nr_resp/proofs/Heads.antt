-- What stands behind the headers of arrays and bulks.
use Rattle.std.proofs.Common.{◌≡◌, ℕ, suc, ◌+◌, ◌-◌, ◌<◌, ◌≤◌, false, cond, ltb, List, [], ◌∷◌, ◌++◌, length, take, drop, pos, refl, sym, ap, ◌∙◌, arith, append_assoc, length-append, zero-add, decimal}
use Rattle.std.specs.Prelude.{flat_map}
use Rattle.std.specs.List.{AllByRecursion}
use Rattle.std.proofs.lemmas.List.{take_at, drop_at}
use Rattle.std.proofs.lemmas.Bool.{lt-ltb, le-ltb, le-leb}
use Rattle.nr_model.specs.declared.fault.Fault.{Fault}
use Rattle.nr_model.specs.declared.fault.Fault.TheVariants.{Count, Length}
use Rattle.nr_model.specs.Bytes.{Bytes, crlf}
use Rattle.nr_model.specs.Requests.{Front, Whole, Faulty, Partial, front_then, most_words, most_word_bytes, is_count, is_length, how_many, ending_at, word_at, bulk_at, bulks_at, request_at, framing_of, unfinished, broken, bulk_text}
use Rattle.nr_model.specs.Requests.Laws.{framing_by}
use Rattle.nr_model.proofs.Cuts.{step_law}
use Rattle.nr_model.proofs.Spellings.{header_only, fits_low, bulk_only}
use Rattle.nr_model.proofs.Words.{with_front}
use Rattle.nr_resp.specs.PartialRequest.{array_head, bulk_head, array_front, LacksWords}

array_reads : (count : ℕ) (left : Bytes) → count ≤ most_words → request_at (array_head count ++ left) ≡ bulks_at count left
array_reads count left few =
    ap (λ bs. request_at (42 ∷ bs)) (append_assoc (decimal count) crlf left)
    ∙ ap (λ front. front_then front (λ n rest. bulks_at (how_many n) rest)) (header_only Count is_count 42 (pos count) left refl (fits_low count (omega arith)) (le-leb count most_words few))

pub bulk_reads : (len : ℕ) (left : Bytes) → len ≤ most_word_bytes → bulk_at (bulk_head len ++ left) ≡ word_at len left
bulk_reads len left short =
    ap (λ bs. bulk_at (36 ∷ bs)) (append_assoc (decimal len) crlf left)
    ∙ ap (λ front. front_then front (λ n rest. word_at (how_many n) rest)) (header_only Length is_length 36 (pos len) left refl (fits_low len (omega arith)) (le-leb len most_word_bytes short))

-- the bytes of a word are not all there
pub word_unfinished : (len : ℕ) (part : Bytes) → length part < len → word_at len part ≡ Partial
word_unfinished len part less = ap (λ b. cond b Partial (ending_at (take len part) (drop len part))) (lt-ltb (length part) len less)

-- what follows a word is its ending
pub word_ends : (word left : Bytes) → word_at (length word) (word ++ left) ≡ ending_at word left
word_ends word left =
    let bytes : Bytes = word ++ left in
    let enough : ltb (length bytes) (length word) ≡ false = le-ltb (length bytes) (length word) (omega (arith, length-append word left)) in
    ap (λ b. cond b Partial (ending_at (take (length word) bytes) (drop (length word) bytes))) enough
    ∙ ap (λ w. ending_at w (drop (length word) bytes)) (take_at word left (length word) refl)
    ∙ ap (ending_at word) (drop_at word left (length word) refl)

-- a bulk's text, and the same by its header
pub bulk_by_head : (word left : Bytes) → bulk_text word ++ left ≡ bulk_head (length word) ++ (word ++ 13 ∷ 10 ∷ left)
bulk_by_head word left = append_assoc (bulk_head (length word) ++ word) crlf left ∙ append_assoc (bulk_head (length word)) word (crlf ++ left)

abbrev AreShort : List Bytes → Type 0
AreShort words = AllByRecursion (λ word. length word ≤ most_word_bytes) words

bulks_behind : (words : List Bytes) (n : ℕ) (left : Bytes) → AreShort words → bulks_at (length words + n) (flat_map bulk_text words ++ left) ≡ with_front words (bulks_at n left)
bulks_behind [] n left short = ap (λ m. bulks_at m left) (zero-add n) ∙ sym (no_front (bulks_at n left))
  where
    no_front : (read : Front (List Bytes)) → with_front [] read ≡ read
    no_front (Whole words rest) = refl
    no_front (Faulty fault) = refl
    no_front Partial = refl
bulks_behind (word ∷ words) n left short =
    let size : suc (length words) + n ≡ suc (length words + n) = omega arith in
    ap (λ m. bulks_at m (flat_map bulk_text (word ∷ words) ++ left)) size
    ∙ ap (bulks_at (suc (length words + n))) (append_assoc (bulk_text word) (flat_map bulk_text words) left)
    ∙ ap (λ front. front_then front (behind (length words + n))) (bulk_only word (flat_map bulk_text words ++ left) short.0)
    ∙ ap (λ front. front_then front (λ words' rest'. Whole (word ∷ words') rest')) (bulks_behind words n left short.1)
    ∙ one_more (bulks_at n left)
  where
    behind : ℕ → Bytes → Bytes → Front (List Bytes)
    behind m word' rest = front_then (bulks_at m rest) (λ words' rest'. Whole (word' ∷ words') rest')

    one_more : (read : Front (List Bytes)) → front_then (with_front words read) (λ words' rest'. Whole (word ∷ words') rest') ≡ with_front (word ∷ words) read
    one_more (Whole others rest) = refl
    one_more (Faulty fault) = refl
    one_more Partial = refl

-- behind the first words of an array stand the others
request_behind : (count : ℕ) (words : List Bytes) (left : Bytes) → LacksWords count words
    → request_at (array_front count words ++ left) ≡ with_front words (front_then (bulk_at left) (λ word rest. front_then (bulks_at (count - length words - 1) rest) (λ others rest'. Whole (word ∷ others) rest')))
request_behind count words left lacks =
    let less = lacks.lacks in
    let all : count ≡ length words + suc (count - length words - 1) = omega arith in
    ap request_at (append_assoc (array_head count) (flat_map bulk_text words) left)
    ∙ array_reads count (flat_map bulk_text words ++ left) lacks.few
    ∙ ap (λ n. bulks_at n (flat_map bulk_text words ++ left)) all
    ∙ bulks_behind words (suc (count - length words - 1)) left lacks.short

pub framing_partial : (bytes : Bytes) → request_at bytes ≡ Partial → framing_of bytes ≡ unfinished bytes
framing_partial bytes e = step_law bytes ∙ ap (framing_by bytes) e

pub framing_faulty : (bytes : Bytes) (fault : Fault) → request_at bytes ≡ Faulty fault → framing_of bytes ≡ broken fault
framing_faulty bytes fault e = step_law bytes ∙ ap (framing_by bytes) e

abbrev others_of : ℕ → List Bytes → Front Bytes → Front (List Bytes)
others_of n words front = with_front words (front_then front (λ word rest. front_then (bulks_at n rest) (λ others rest'. Whole (word ∷ others) rest')))

pub partial_behind : (count : ℕ) (words : List Bytes) (left : Bytes) → LacksWords count words → bulk_at left ≡ Partial → framing_of (array_front count words ++ left) ≡ unfinished (array_front count words ++ left)
partial_behind count words left lacks e =
    framing_partial (array_front count words ++ left) (request_behind count words left lacks ∙ ap (others_of (count - length words - 1) words) e)

pub faulty_behind : (count : ℕ) (words : List Bytes) (left : Bytes) (fault : Fault) → LacksWords count words → bulk_at left ≡ Faulty fault → framing_of (array_front count words ++ left) ≡ broken fault
faulty_behind count words left fault lacks e =
    framing_faulty (array_front count words ++ left) fault (request_behind count words left lacks ∙ ap (others_of (count - length words - 1) words) e)
