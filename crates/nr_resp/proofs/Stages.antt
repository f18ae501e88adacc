-- What each stage of an unfinished request does with the next bytes.
use Rattle.std.proofs.Common.{◌≡◌, ℕ, ◌+◌, ◌-◌, ◌<◌, ◌≤◌, ◌≢◌, Bool, true, false, ◌&&◌, cond, eqb, List, [], ◌∷◌, ◌++◌, length, take, drop, get_or, Some, None, ℤ, pos, negsuc, inl, inr, refl, sym, ap, ◌∙◌, subst, arith, append_assoc, length-append}
use Rattle.std.specs.Prelude.{FitsSigned, ◌≤ℤ◌, Result, Ok, Err, OnErr}
use Rattle.std.specs.Int.{w64}
use Rattle.std.specs.Fmt.{signed_decimal}
use Rattle.std.specs.List.{list_any, AllByRecursion}
use Rattle.std.proofs.lemmas.List.{append-nil, flat_map_more, map_push, nil_from_length}
use Rattle.std.proofs.lemmas.Bool.{leb-true, eqb-true, ne_eqb, cases_lt}
use Rattle.std.proofs.lemmas.Int.{ints}
use Rattle.nr_model.specs.declared.fault.Fault.{Fault}
use Rattle.nr_model.specs.declared.fault.Fault.TheVariants.{Count, Length, Dollar, Inline, LineEnd, Quotes}
use Rattle.nr_model.specs.Bytes.{Bytes, crlf}
use Rattle.nr_model.specs.Requests.{Frame, Front, Whole, Faulty, Partial, front_then, most_words, most_word_bytes, most_header_bytes, most_inline_bytes, line_at, is_count, is_length, how_many, ending_at, word_at, bulk_at, bulks_at, array_at, inline_at, request_at, Framing, unfinished, broken, framing_of, words_of, without_cr, is_quote, bulk_text, array_text, Spells, array, empty_array}
use Rattle.nr_model.specs.Requests.Laws.{with_frames, framing_by}
use Rattle.nr_model.proofs.Cuts.{step_law}
use Rattle.nr_model.proofs.Spellings.{each_is_found}
use Rattle.nr_resp.specs.declared.reader.FeedError.{FeedError}
use Rattle.nr_resp.specs.declared.reader.FeedError.TheVariants as errors
use Rattle.nr_resp.specs.declared.reader.partial.Stage.{Stage}
use Rattle.nr_resp.specs.declared.reader.partial.Stage.TheVariants.{Line, Header, Body, Ending}
use Rattle.nr_resp.specs.declared.frame.Frame as code
use Rattle.nr_resp.specs.Frames.{frames_seen}
use Rattle.nr_resp.specs.Lines.{begins, may_begin, most_line, long_line, IsLineFront, IsFirstLf, IsTooLong, Says, Misses, HasQuotes, said}
use Rattle.nr_resp.specs.Stream.{Reads, RanOut}
use Rattle.nr_resp.specs.PartialRequest.{array_head, bulk_head, array_front, bytes_at, Fits, Breaks}
use Rattle.nr_resp.proofs.Lines.{text_said, line_too_long, line_unfinished, line_whole, now_long, now_whole, split_at_lf, begins_line}
use Rattle.nr_resp.proofs.Heads.{bulk_reads, word_unfinished, word_ends, bulk_by_head, framing_partial, framing_faulty, partial_behind, faulty_behind}

-- the same bytes
pub same_bytes : (before after : Bytes) (frames : List Frame) → before ≡ after → Reads before after frames frames
same_bytes before after frames e = record { added = []; pushed = sym (append-nil frames); same = ap framing_of e }

-- a request with words, or with none
pub one_frame : (before after : Bytes) (words : List Bytes) (frames : List Frame) → request_at before ≡ Whole words after → 0 < length words → Reads before after frames (frames ++ words ∷ [])
one_frame before after [] frames e some = absurd (omega arith)
one_frame before after (word ∷ words) frames e some = record { added = (word ∷ words) ∷ []; pushed = refl; same = step_law before ∙ ap (framing_by before) e }

pub no_frame : (before after : Bytes) (words : List Bytes) (frames : List Frame) → request_at before ≡ Whole words after → length words ≡ 0 → Reads before after frames frames
no_frame before after [] frames e none = record { added = []; pushed = sym (append-nil frames); same = step_law before ∙ ap (framing_by before) e }
no_frame before after (word ∷ words) frames e none = absurd (omega arith)

-- a request and a bulk by their first lines
abbrev array_next : Front Bytes → Front (List Bytes)
array_next front = front_then (front_then front (said Count is_count)) (λ count rest. bulks_at (how_many count) rest)

abbrev inline_next : Front Bytes → Front (List Bytes)
inline_next front = front_then front (λ line rest. cond (list_any is_quote line) (Faulty Quotes) (Whole (words_of (without_cr line)) rest))

abbrev bulk_next : Front Bytes → Front Bytes
bulk_next front = front_then (front_then front (said Length is_length)) (λ len rest. word_at (how_many len) rest)

request_by_mark : (bytes : Bytes) → 0 < length bytes → request_at bytes ≡ cond (begins 42 bytes) (array_at bytes) (inline_at bytes)
request_by_mark [] some = absurd (omega arith)
request_by_mark (c ∷ bytes) some = refl

by_mark : (bytes : Bytes) (starred : Bool) → 0 < length bytes → starred ≡ begins 42 bytes → request_at bytes ≡ cond starred (array_at bytes) (inline_at bytes)
by_mark bytes starred some e = request_by_mark bytes some ∙ ap (λ b. cond b (array_at bytes) (inline_at bytes)) (sym e)

-- a first line that is too long
pub first_too_long : (bytes : Bytes) (starred : Bool) → 0 < length bytes → starred ≡ begins 42 bytes → IsTooLong (most_line starred) bytes → framing_of bytes ≡ broken (long_line starred)
first_too_long bytes true some e long =
    framing_faulty bytes Count (by_mark bytes true some e ∙ ap array_next (line_too_long most_header_bytes Count bytes long))
first_too_long bytes false some e long =
    framing_faulty bytes Inline (by_mark bytes false some e ∙ ap inline_next (line_too_long most_inline_bytes Inline bytes long))

first_partial : (bytes : Bytes) (starred : Bool) → 0 < length bytes → starred ≡ begins 42 bytes → IsLineFront (most_line starred) bytes → request_at bytes ≡ Partial
first_partial bytes true some e short = by_mark bytes true some e ∙ ap array_next (line_unfinished most_header_bytes Count bytes short)
first_partial bytes false some e short = by_mark bytes false some e ∙ ap inline_next (line_unfinished most_inline_bytes Inline bytes short)

pub line_partial : (part : Bytes) → IsLineFront (most_line (begins 42 part)) part → framing_of part ≡ unfinished part
line_partial [] short = framing_partial [] refl
line_partial (c ∷ part) short = framing_partial (c ∷ part) (first_partial (c ∷ part) (begins 42 (c ∷ part)) (omega arith) refl short)

-- a whole first line, with its LF and what is behind
whole_by_mark : (line left : Bytes) (starred : Bool) → starred ≡ begins 42 line → request_at (line ++ 10 ∷ left) ≡ cond starred (array_at (line ++ 10 ∷ left)) (inline_at (line ++ 10 ∷ left))
whole_by_mark line left starred e = by_mark (line ++ 10 ∷ left) starred (omega (arith, length-append line (10 ∷ left))) (e ∙ sym (begins_line 42 line left refl))

array_by_line : (line left : Bytes) → true ≡ begins 42 line → IsLineFront most_header_bytes line
    → request_at (line ++ 10 ∷ left) ≡ front_then (said Count is_count line left) (λ count rest. bulks_at (how_many count) rest)
array_by_line line left e short =
    whole_by_mark line left true e
    ∙ ap array_next (line_whole most_header_bytes Count line left short)

inline_by_line : (line left : Bytes) → false ≡ begins 42 line → IsLineFront most_inline_bytes line
    → request_at (line ++ 10 ∷ left) ≡ cond (list_any is_quote line) (Faulty Quotes) (Whole (words_of (without_cr line)) left)
inline_by_line line left e short =
    whole_by_mark line left false e
    ∙ ap inline_next (line_whole most_inline_bytes Inline line left short)

pub count_misses : (line : Bytes) (error : FeedError) → true ≡ begins 42 line → IsLineFront most_header_bytes line → Misses Count is_count line error → (left : Bytes) → Breaks (line ++ 10 ∷ left) error
count_misses line (errors.Fault fault) e short misses left =
    framing_faulty (line ++ 10 ∷ left) fault (array_by_line line left e short ∙ ap (λ front. front_then front (λ count rest. bulks_at (how_many count) rest)) (misses left))
count_misses line (errors.Memory _) e short misses left = tt

pub inline_misses : (line : Bytes) (error : FeedError) → false ≡ begins 42 line → IsLineFront most_inline_bytes line → HasQuotes line error → (left : Bytes) → Breaks (line ++ 10 ∷ left) error
inline_misses line (errors.Fault fault) e short has left =
    framing_faulty (line ++ 10 ∷ left) Quotes (inline_by_line line left e short ∙ ap (λ b. cond b (Faulty Quotes) (Whole (words_of (without_cr line)) left)) has.0) ∙ ap broken (sym has.1)
inline_misses line (errors.Memory _) e short has left = tt

pub inline_whole : (line left : Bytes) (words : List Bytes) → false ≡ begins 42 line → IsLineFront most_inline_bytes line → list_any is_quote line ≡ false → words ≡ words_of (without_cr line)
    → request_at (line ++ 10 ∷ left) ≡ Whole words left
inline_whole line left words e short unquoted same =
    inline_by_line line left e short ∙ ap (λ b. cond b (Faulty Quotes) (Whole (words_of (without_cr line)) left)) unquoted ∙ ap (λ ws. Whole ws left) (sym same)

-- the line of a header, and its LF
header_line : (fits : ℤ → Bool) (mark : ℕ) (line left : Bytes) (n : ℕ) → eqb mark 13 ≡ false → true ≡ begins mark line → (says : Says fits line n)
    → FitsSigned w64 says.number × (line ++ 10 ∷ left ≡ (mark ∷ signed_decimal says.number ++ crlf) ++ left)
header_line fits mark [] left n other e says = absurd (true_false e)
  where
    true_false : true ≡ false → ⊥
    true_false e = cc
header_line fits mark (c ∷ line) left n other e says =
    let same : c ≡ mark = eqb-true c mark (sym e) in
    let text = text_said fits c line n (ap (λ d. eqb d 13) same ∙ other) says in (
      text.0,
      ap (λ l. l ++ 10 ∷ left) text.1
          ∙ ap (λ d. d ∷ ((signed_decimal says.number ++ 13 ∷ []) ++ 10 ∷ left)) same
          ∙ ap (λ bs. mark ∷ bs) (append_assoc (signed_decimal says.number) (13 ∷ []) (10 ∷ left) ∙ sym (append_assoc (signed_decimal says.number) crlf left)),
    )

many_pos : (number : ℤ) (n : ℕ) → n ≡ how_many number → 0 < n → number ≡ pos n
many_pos (pos m) n e some = ap pos (sym e)
many_pos (negsuc m) n e some = absurd (omega arith)

none_pos : (number : ℤ) (n : ℕ) → n ≡ how_many number → n ≡ 0 → number ≤ℤ pos 0
none_pos (pos m) n e none = omega (arith, ints)
none_pos (negsuc m) n e none = omega (arith, ints)

pub some_words : (line left : Bytes) (count : ℕ) → true ≡ begins 42 line → Says is_count line count → 0 < count → (count ≤ most_words) × (line ++ 10 ∷ left ≡ array_head count ++ left)
some_words line left count e says some =
    let is = many_pos says.number count says.many some in
    let line_is = header_line is_count 42 line left count refl e says in
    (leb-true count most_words (ap is_count (sym is) ∙ says.fit), line_is.1 ∙ ap (λ z. (42 ∷ signed_decimal z ++ crlf) ++ left) is)

pub no_words : (line left : Bytes) (count : ℕ) → true ≡ begins 42 line → Says is_count line count → count ≡ 0 → request_at (line ++ 10 ∷ left) ≡ Whole [] left
no_words line left count e says none =
    let line_is = header_line is_count 42 line left count refl e says in
    ap request_at line_is.1 ∙ each_is_found [] (42 ∷ signed_decimal says.number ++ crlf) (empty_array says.number line_is.0 (none_pos says.number count says.many none)) left

is_length_pos : (number : ℤ) (n : ℕ) → n ≡ how_many number → is_length number ≡ true → (number ≡ pos n) × (n ≤ most_word_bytes)
is_length_pos (pos m) n e fit = (ap pos (sym e), let le : m ≤ most_word_bytes = leb-true m most_word_bytes fit in omega arith)
is_length_pos (negsuc m) n e fit = cc

pub some_bytes : (line left : Bytes) (len : ℕ) → true ≡ begins 36 line → Says is_length line len → (len ≤ most_word_bytes) × (line ++ 10 ∷ left ≡ bulk_head len ++ left)
some_bytes line left len e says =
    let is = is_length_pos says.number len says.many says.fit in
    let line_is = header_line is_length 36 line left len refl e says in
    (is.1, line_is.1 ∙ ap (λ z. (36 ∷ signed_decimal z ++ crlf) ++ left) is.0)

-- a bulk's header
bulk_by_mark : (bytes : Bytes) → true ≡ begins 36 bytes → bulk_at bytes ≡ bulk_next (line_at most_header_bytes Length bytes)
bulk_by_mark [] e = cc
bulk_by_mark (c ∷ bytes) e = ap (λ b. cond b (bulk_next (line_at most_header_bytes Length (c ∷ bytes))) (Faulty (Dollar c))) (sym e)

bulk_too_long : (bytes : Bytes) → true ≡ begins 36 bytes → IsTooLong most_header_bytes bytes → bulk_at bytes ≡ Faulty Length
bulk_too_long bytes e long =
    bulk_by_mark bytes e ∙ ap bulk_next (line_too_long most_header_bytes Length bytes long)

bulk_partial : (bytes : Bytes) → may_begin 36 bytes ≡ true → IsLineFront most_header_bytes bytes → bulk_at bytes ≡ Partial
bulk_partial [] e short = refl
bulk_partial (c ∷ bytes) e short =
    bulk_by_mark (c ∷ bytes) (sym e) ∙ ap bulk_next (line_unfinished most_header_bytes Length (c ∷ bytes) short)

bulk_misses : (line left : Bytes) (fault : Fault) → true ≡ begins 36 line → IsLineFront most_header_bytes line → said Length is_length line left ≡ Faulty fault → bulk_at (line ++ 10 ∷ left) ≡ Faulty fault
bulk_misses line left fault e short misses =
    bulk_by_mark (line ++ 10 ∷ left) (e ∙ sym (begins_line 36 line left refl))
    ∙ ap bulk_next (line_whole most_header_bytes Length line left short)
    ∙ ap (λ front. front_then front (λ len rest. word_at (how_many len) rest)) misses

-- the next bytes of an array, in the header of a bulk
pub no_dollar : (stage : Stage) (count : ℕ) (words : List Bytes) (part piece : Bytes) → stage ≡ Header count → Fits stage words part → 0 < length piece → false ≡ begins 36 (part ++ piece)
    → framing_of (bytes_at stage words part ++ piece) ≡ broken (Dollar (get_or piece 0 0))
no_dollar stage count words part piece e fits some other =
    subst (λ s. Fits s words part → framing_of (bytes_at s words part ++ piece) ≡ broken (Dollar (get_or piece 0 0))) (sym e) (λ h. by_part part piece h some other) fits
  where
    true_false : true ≡ false → ⊥
    true_false e = cc

    by_part : (part piece : Bytes) → Fits (Header count) words part → 0 < length piece → false ≡ begins 36 (part ++ piece) → framing_of (bytes_at (Header count) words part ++ piece) ≡ broken (Dollar (get_or piece 0 0))
    by_part [] [] h some none = absurd (omega arith)
    by_part [] (c ∷ piece) h some none =
        ap framing_of (append_assoc (array_front count words) [] (c ∷ piece))
        ∙ faulty_behind count words (c ∷ piece) (Dollar c) h.0 (ap (λ b. cond b (bulk_next (line_at most_header_bytes Length (c ∷ piece))) (Faulty (Dollar c))) (sym none))
    by_part (d ∷ part) piece h some none = absurd (true_false (sym h.2 ∙ sym none))

pub header_breaks : (stage : Stage) (count : ℕ) (words : List Bytes) (part piece : Bytes) (room : ℕ) (error : FeedError) → stage ≡ Header count → Fits stage words part → true ≡ begins 36 (part ++ piece)
    → room ≡ most_header_bytes - length part → error ≡ errors.Fault Length → IsTooLong room piece → Breaks (bytes_at stage words part ++ piece) error
header_breaks stage count words part piece room error e fits mark is_room is long =
    let held : Fits (Header count) words part = subst (λ s. Fits s words part) e fits in
    let all : IsTooLong most_header_bytes (part ++ piece) = now_long most_header_bytes part piece held.1 (subst (λ n. IsTooLong n piece) is_room long) in
    let breaks : framing_of (bytes_at (Header count) words part ++ piece) ≡ broken Length =
    ap framing_of (append_assoc (array_front count words) part piece) ∙ faulty_behind count words (part ++ piece) Length held.0 (bulk_too_long (part ++ piece) mark all) in
    subst (λ s. Breaks (bytes_at s words part ++ piece) error) (sym e) (subst (λ err. Breaks (bytes_at (Header count) words part ++ piece) err) (sym is) breaks)

-- a header's whole line begins as the bytes that it came from
begins_whole : (mark end : ℕ) (part piece line : Bytes) → eqb 10 mark ≡ false → IsFirstLf end piece → line ≡ part ++ take end piece → begins mark (part ++ piece) ≡ begins mark line
begins_whole mark end part piece line other lf is =
    ap (begins mark) (split_at_lf end part piece lf) ∙ begins_line mark (part ++ take end piece) (drop (end + 1) piece) other ∙ ap (begins mark) (sym is)

header_split : (count end : ℕ) (words : List Bytes) (part piece line : Bytes) → IsFirstLf end piece → line ≡ part ++ take end piece
    → bytes_at (Header count) words part ++ piece ≡ array_front count words ++ (line ++ 10 ∷ drop (end + 1) piece)
header_split count end words part piece line lf is =
    append_assoc (array_front count words) part piece
    ∙ ap (λ bs. array_front count words ++ bs) (split_at_lf end part piece lf ∙ ap (λ l. l ++ 10 ∷ drop (end + 1) piece) (sym is))

pub header_misses : (stage : Stage) (count end room : ℕ) (words : List Bytes) (part piece line : Bytes) (error : FeedError) → stage ≡ Header count → Fits stage words part → true ≡ begins 36 (part ++ piece)
    → room ≡ most_header_bytes - length part → IsFirstLf end piece × (end ≤ room) → line ≡ part ++ take end piece → Misses Length is_length line error → Breaks (bytes_at stage words part ++ piece) error
header_misses stage count end room words part piece line (errors.Memory _) e fits mark is_room lf is misses = tt
header_misses stage count end room words part piece line (errors.Fault fault) e fits mark is_room lf is misses =
    subst (λ s. Fits s words part → framing_of (bytes_at s words part ++ piece) ≡ broken fault) (sym e)
    (λ h.
    let inside : end ≤ most_header_bytes - length part = subst (λ n. end ≤ n) is_room lf.1 in
    let short : IsLineFront most_header_bytes line = subst (IsLineFront most_header_bytes) (sym is) (now_whole most_header_bytes end part piece h.1 lf.0 inside) in
    ap framing_of (header_split count end words part piece line lf.0 is)
    ∙ faulty_behind count words (line ++ 10 ∷ drop (end + 1) piece) fault h.0
    (bulk_misses line (drop (end + 1) piece) fault (mark ∙ begins_whole 36 end part piece line refl lf.0 is) short (misses (drop (end + 1) piece)))) fits

pub header_moves : (stage : Stage) (count end len : ℕ) (words : List Bytes) (part piece line part' left : Bytes) → stage ≡ Header count → true ≡ begins 36 (part ++ piece)
    → IsFirstLf end piece → line ≡ part ++ take end piece → Says is_length line len → part' ≡ [] → left ≡ drop (end + 1) piece
    → bytes_at (Body count len) words part' ++ left ≡ bytes_at stage words part ++ piece
header_moves stage count end len words part piece line part' left e mark lf is says no_part is_left =
    let said_len = some_bytes line (drop (end + 1) piece) len (mark ∙ begins_whole 36 end part piece line refl lf is) says in
    ap (λ p. bytes_at (Body count len) words p ++ left) no_part
    ∙ ap (λ bs. (array_front count words ++ bs) ++ left) (append-nil (bulk_head len))
    ∙ append_assoc (array_front count words) (bulk_head len) left
    ∙ ap (λ bs. array_front count words ++ (bulk_head len ++ bs)) is_left
    ∙ ap (λ bs. array_front count words ++ bs) (sym said_len.1)
    ∙ sym (header_split count end words part piece line lf is)
    ∙ ap (λ s. bytes_at s words part ++ piece) (sym e)

-- nothing is held of a request
pub nothing_held : (stage : Stage) (words : List Bytes) (part left : Bytes) → stage ≡ Line → part ≡ [] → bytes_at stage words part ++ left ≡ left
nothing_held stage words part left e none = ap (λ s. bytes_at s words part ++ left) e ∙ ap (λ p. p ++ left) none

pub count_moves : (line left : Bytes) (count : ℕ) (words : List Bytes) (part : Bytes) (frames : List Frame) → words ≡ [] → part ≡ [] → true ≡ begins 42 line → Says is_count line count → 0 < count
    → Reads (line ++ 10 ∷ left) (bytes_at (Header count) words part ++ left) frames frames
count_moves line left count words part frames no_word no_part e says some =
    let start : bytes_at (Header count) words part ≡ array_head count =
    ap (λ ws. array_front count ws ++ part) no_word ∙ ap (λ p. array_front count [] ++ p) no_part ∙ append-nil (array_front count []) ∙ append-nil (array_head count) in
    same_bytes (line ++ 10 ∷ left) (bytes_at (Header count) words part ++ left) frames ((some_words line left count e says some).1 ∙ ap (λ bs. bs ++ left) (sym start))

pub empty_moves : (stage : Stage) (line left : Bytes) (count : ℕ) (words : List Bytes) (part : Bytes) (frames : List Frame) → stage ≡ Line → part ≡ [] → true ≡ begins 42 line → Says is_count line count → count ≤ 0
    → Reads (line ++ 10 ∷ left) (bytes_at stage words part ++ left) frames frames
empty_moves stage line left count words part frames e no_part starred says none =
    no_frame (line ++ 10 ∷ left) (bytes_at stage words part ++ left) [] frames
    (no_words line left count starred says (omega arith) ∙ ap (λ bs. Whole [] bs) (sym (nothing_held stage words part left e no_part))) refl

pub inline_moves : (stage : Stage) (line left : Bytes) (read words : List Bytes) (part : Bytes) (frames : List Frame) → stage ≡ Line → part ≡ [] → false ≡ begins 42 line → IsLineFront most_inline_bytes line
    → list_any is_quote line ≡ false → read ≡ words_of (without_cr line) → 0 < length read → Reads (line ++ 10 ∷ left) (bytes_at stage words part ++ left) frames (frames ++ read ∷ [])
inline_moves stage line left read words part frames e no_part starred short unquoted same some =
    one_frame (line ++ 10 ∷ left) (bytes_at stage words part ++ left) read frames
    (inline_whole line left read starred short unquoted same ∙ ap (λ bs. Whole read bs) (sym (nothing_held stage words part left e no_part))) some

pub blank_moves : (stage : Stage) (line left : Bytes) (read words : List Bytes) (part : Bytes) (frames : List Frame) → stage ≡ Line → part ≡ [] → false ≡ begins 42 line → IsLineFront most_inline_bytes line
    → list_any is_quote line ≡ false → read ≡ words_of (without_cr line) → length read ≡ 0 → Reads (line ++ 10 ∷ left) (bytes_at stage words part ++ left) frames frames
blank_moves stage line left read words part frames e no_part starred short unquoted same none =
    no_frame (line ++ 10 ∷ left) (bytes_at stage words part ++ left) read frames
    (inline_whole line left read starred short unquoted same ∙ ap (λ bs. Whole read bs) (sym (nothing_held stage words part left e no_part))) none

-- what is held of a first line is short, by the mark that the next bytes may bring
pub still_short : (part piece : Bytes) (starred : Bool) → starred ≡ begins 42 (part ++ piece) → IsLineFront (most_line (begins 42 part)) part → IsLineFront (most_line starred) part
still_short [] piece true e short = record { one_line = refl; short = omega arith }
still_short [] piece false e short = record { one_line = refl; short = omega arith }
still_short (c ∷ part) piece starred e short = subst (λ b. IsLineFront (most_line b) (c ∷ part)) (sym e) short

pub first_breaks : (stage : Stage) (words : List Bytes) (part piece : Bytes) (starred : Bool) (room : ℕ) (error : FeedError) → stage ≡ Line → Fits stage words part → 0 < length piece
    → starred ≡ begins 42 (part ++ piece) → room ≡ most_line starred - length part → error ≡ errors.Fault (long_line starred) → IsTooLong room piece → Breaks (bytes_at stage words part ++ piece) error
first_breaks stage words part piece starred room error e fits some mark is_room is long =
    let held : IsLineFront (most_line (begins 42 part)) part = (subst (λ s. Fits s words part) e fits).1 in
    let all : IsTooLong (most_line starred) (part ++ piece) = now_long (most_line starred) part piece (still_short part piece starred mark held) (subst (λ n. IsTooLong n piece) is_room long) in
    let broken_by : framing_of (part ++ piece) ≡ broken (long_line starred) = first_too_long (part ++ piece) starred (omega (arith, length-append part piece)) mark all in
    subst (λ s. Breaks (bytes_at s words part ++ piece) error) (sym e) (subst (λ err. Breaks (part ++ piece) err) (sym is) broken_by)

pub first_stops : (stage : Stage) (words : List Bytes) (part piece line : Bytes) (end : ℕ) (error : FeedError) → stage ≡ Line → IsFirstLf end piece → line ≡ part ++ take end piece
    → ((left : Bytes) → Breaks (line ++ 10 ∷ left) error) → Breaks (bytes_at stage words part ++ piece) error
first_stops stage words part piece line end error e lf is breaks =
    let split : line ++ 10 ∷ drop (end + 1) piece ≡ part ++ piece = ap (λ l. l ++ 10 ∷ drop (end + 1) piece) is ∙ sym (split_at_lf end part piece lf) in
    subst (λ s. Breaks (bytes_at s words part ++ piece) error) (sym e) (subst (λ bs. Breaks bs error) split (breaks (drop (end + 1) piece)))

not_ended : (word piece : Bytes) → 0 < length piece → get_or piece 0 0 ≢ 13 → ending_at word piece ≡ Faulty LineEnd
not_ended word [] some other = absurd (omega arith)
not_ended word (c ∷ []) some other = ap (λ b. cond b Partial (Faulty LineEnd)) (ne_eqb c 13 other)
not_ended word (c ∷ d ∷ piece) some other = ap (λ b. cond (b && eqb d 10) (Whole word piece) (Faulty LineEnd)) (ne_eqb c 13 other)

not_ended_by_lf : (word piece : Bytes) → 0 < length piece → get_or piece 0 0 ≢ 10 → ending_at word (13 ∷ piece) ≡ Faulty LineEnd
not_ended_by_lf word [] some other = absurd (omega arith)
not_ended_by_lf word (d ∷ piece) some other = ap (λ b. cond b (Whole word piece) (Faulty LineEnd)) (ne_eqb d 10 other)

-- behind a body and its CR
pub behind_cr : (count : ℕ) (words : List Bytes) (part piece : Bytes) → bytes_at (Ending count) words part ++ piece ≡ array_front count words ++ (bulk_head (length part) ++ (part ++ 13 ∷ piece))
behind_cr count words part piece =
    append_assoc (array_front count words) (bulk_head (length part) ++ (part ++ 13 ∷ [])) piece
    ∙ ap (λ bs. array_front count words ++ bs) (append_assoc (bulk_head (length part)) (part ++ 13 ∷ []) piece ∙ ap (λ bs. bulk_head (length part) ++ bs) (append_assoc part (13 ∷ []) piece))

-- in a body, and behind it
pub no_cr : (stage : Stage) (count len : ℕ) (words : List Bytes) (part piece : Bytes) → stage ≡ Body count len → Fits stage words part → len ≤ length part → 0 < length piece → get_or piece 0 0 ≢ 13
    → framing_of (bytes_at stage words part ++ piece) ≡ broken LineEnd
no_cr stage count len words part piece e fits full some other =
    subst (λ s. Fits s words part → framing_of (bytes_at s words part ++ piece) ≡ broken LineEnd) (sym e)
    (λ h.
    let size : len ≡ length part = omega (arith, h.1) in
    ap framing_of (append_assoc (array_front count words) (bulk_head len ++ part) piece ∙ ap (λ bs. array_front count words ++ bs) (append_assoc (bulk_head len) part piece))
    ∙ faulty_behind count words (bulk_head len ++ (part ++ piece)) LineEnd h.0
    (bulk_reads len (part ++ piece) h.2 ∙ ap (λ n. word_at n (part ++ piece)) size ∙ word_ends part piece ∙ not_ended part piece some other)) fits

pub no_lf : (stage : Stage) (count : ℕ) (words : List Bytes) (part piece : Bytes) → stage ≡ Ending count → Fits stage words part → 0 < length piece → get_or piece 0 0 ≢ 10
    → framing_of (bytes_at stage words part ++ piece) ≡ broken LineEnd
no_lf stage count words part piece e fits some other =
    subst (λ s. Fits s words part → framing_of (bytes_at s words part ++ piece) ≡ broken LineEnd) (sym e)
    (λ h.
    ap framing_of (behind_cr count words part piece)
    ∙ faulty_behind count words (bulk_head (length part) ++ (part ++ 13 ∷ piece)) LineEnd h.0
    (bulk_reads (length part) (part ++ 13 ∷ piece) h.1 ∙ word_ends part (13 ∷ piece) ∙ not_ended_by_lf part piece some other)) fits

-- one more frame, as it is pushed
pub frame_seen : (frames frames' : List code.Frame) (frame : code.Frame) (words : List Bytes) → frames' ≡ frames ++ frame ∷ [] → frame.words.items ≡ words → frames_seen frames' ≡ frames_seen frames ++ words ∷ []
frame_seen frames frames' frame words pushed is = ap frames_seen pushed ∙ map_push _ frames frame ∙ ap (λ words. frames_seen frames ++ words ∷ []) is

-- one more word
front_more : (count : ℕ) (words : List Bytes) (part left : Bytes) → array_front count words ++ (bulk_head (length part) ++ (part ++ 13 ∷ 10 ∷ left)) ≡ array_front count (words ++ part ∷ []) ++ left
front_more count words part left =
    ap (λ bs. array_front count words ++ bs) (sym (bulk_by_head part left))
    ∙ sym (append_assoc (array_front count words) (bulk_text part) left)
    ∙ ap (λ bs. bs ++ left) (flat_map_more bulk_text (array_head count) words part)

by_lf : (piece : Bytes) → 0 < length piece → get_or piece 0 0 ≡ 10 → piece ≡ 10 ∷ drop 1 piece
by_lf [] some e = absurd (omega arith)
by_lf (c ∷ piece) some e = ap (λ d. d ∷ piece) e

ending_split : (stage : Stage) (count : ℕ) (words : List Bytes) (part piece left : Bytes) → stage ≡ Ending count → 0 < length piece → get_or piece 0 0 ≡ 10 → left ≡ drop 1 piece
    → bytes_at stage words part ++ piece ≡ array_front count (words ++ part ∷ []) ++ left
ending_split stage count words part piece left e some lf is_left =
    ap (λ s. bytes_at s words part ++ piece) e
    ∙ behind_cr count words part piece
    ∙ ap (λ bs. array_front count words ++ (bulk_head (length part) ++ (part ++ 13 ∷ bs))) (by_lf piece some lf ∙ ap (λ bs. 10 ∷ bs) (sym is_left))
    ∙ front_more count words part left

pub word_moves : (stage : Stage) (count : ℕ) (words words' : List Bytes) (part piece part' left : Bytes) (frames : List Frame) → stage ≡ Ending count → 0 < length piece → get_or piece 0 0 ≡ 10
    → left ≡ drop 1 piece → words' ≡ words ++ part ∷ [] → part' ≡ [] → Reads (bytes_at stage words part ++ piece) (bytes_at (Header count) words' part' ++ left) frames frames
word_moves stage count words words' part piece part' left frames e some lf is_left more no_part =
    same_bytes (bytes_at stage words part ++ piece) (bytes_at (Header count) words' part' ++ left) frames
    (ending_split stage count words part piece left e some lf is_left
    ∙ ap (λ ws. array_front count ws ++ left) (sym more)
    ∙ ap (λ bs. bs ++ left) (sym (append-nil (array_front count words')))
    ∙ ap (λ p. (array_front count words' ++ p) ++ left) (sym no_part))

abbrev AreShort : List Bytes → Type 0
AreShort words = AllByRecursion (λ word. length word ≤ most_word_bytes) words

short_push : (words : List Bytes) (word : Bytes) → AreShort words → length word ≤ most_word_bytes → AreShort (words ++ word ∷ [])
short_push [] word short le = (le, tt)
short_push (first ∷ words) word short le = (short.0, short_push words word short.1 le)

pub frame_moves : (stage stage' : Stage) (count : ℕ) (words words' words'' : List Bytes) (part piece part' left : Bytes) (frames : List Frame) → stage ≡ Ending count → Fits stage words part → 0 < length piece
    → get_or piece 0 0 ≡ 10 → left ≡ drop 1 piece → words' ≡ words ++ part ∷ [] → count ≤ length words' → stage' ≡ Line → part' ≡ []
    → Reads (bytes_at stage words part ++ piece) (bytes_at stage' words'' part' ++ left) frames (frames ++ words' ∷ [])
frame_moves stage stage' count words words' words'' part piece part' left frames e fits some lf is_left more all start no_part =
    let held : Fits (Ending count) words part = subst (λ s. Fits s words part) e fits in
    let few = held.0.few in
    let lacks = held.0.lacks in
    let size : length words' ≡ length words + 1 = ap length more ∙ length-append words (part ∷ []) in
    let whole : count ≡ length words' = omega arith in
    let short : AreShort words' = subst AreShort (sym more) (short_push words part held.0.short held.1) in
    let spelled : Spells words' (array_text words') = array words' (omega arith) (omega arith) short in
    let split : bytes_at stage words part ++ piece ≡ array_text words' ++ left =
    ending_split stage count words part piece left e some lf is_left ∙ ap (λ ws. array_front count ws ++ left) (sym more) ∙ ap (λ n. array_front n words' ++ left) whole in
    one_frame (bytes_at stage words part ++ piece) (bytes_at stage' words'' part' ++ left) words' frames
    (ap request_at split ∙ each_is_found words' (array_text words') spelled left ∙ ap (λ bs. Whole words' bs) (sym (nothing_held stage' words'' part' left start no_part)))
    (omega arith)

-- what is held is less than a request
body_partial : (len : ℕ) (part : Bytes) → len ≤ most_word_bytes → length part ≤ len → bulk_at (bulk_head len ++ part) ≡ Partial
body_partial len part short le =
    elim (cases_lt (length part) len) [
      | inl less ↦ bulk_reads len part short ∙ word_unfinished len part less
      | inr full ↦
          let size : len ≡ length part = omega arith in
          bulk_reads len part short ∙ ap (λ n. word_at n part) size ∙ ap (word_at (length part)) (sym (append-nil part)) ∙ word_ends part []
    ]

pub held_unfinished : (stage : Stage) (words : List Bytes) (part : Bytes) → Fits stage words part → framing_of (bytes_at stage words part) ≡ unfinished (bytes_at stage words part)
held_unfinished Line words part fits = line_partial part fits.1
held_unfinished (Header count) words part fits = partial_behind count words part fits.0 (bulk_partial part fits.2 fits.1)
held_unfinished (Body count len) words part fits = partial_behind count words (bulk_head len ++ part) fits.0 (body_partial len part fits.2 fits.1)
held_unfinished (Ending count) words part fits =
    partial_behind count words (bulk_head (length part) ++ (part ++ 13 ∷ [])) fits.0 (bulk_reads (length part) (part ++ 13 ∷ []) fits.1 ∙ word_ends part (13 ∷ []))

-- steps one after another, and where they end
pub reads_on : (first second third : Bytes) (frames frames' frames'' : List Frame) → Reads first second frames frames' → Reads second third frames' frames'' → Reads first third frames frames''
reads_on first second third frames frames' frames'' a b =
    let F = framing_of third in
    record {
      added = a.added ++ b.added;
      pushed = b.pushed ∙ ap (λ fs. fs ++ b.added) a.pushed ∙ append_assoc frames a.added b.added;
      same = a.same ∙ ap (with_frames a.added) b.same ∙ ap (λ fs. record F { frames = fs }) (sym (append_assoc a.added b.added F.frames));
    }

abbrev AtEnd : Framing → Bytes → List Frame → List Frame → Type 0
AtEnd framing rest frames frames' = (rest ≡ framing.rest) × (frames' ≡ frames ++ framing.frames) × (framing.fault ≡ None)

pub at_end : (before left rest : Bytes) (frames frames' : List Frame) → Reads before (rest ++ left) frames frames' → framing_of rest ≡ unfinished rest → length left ≡ 0 → AtEnd (framing_of before) rest frames frames'
at_end before left rest frames frames' reads partial none =
    let same : framing_of before ≡ with_frames reads.added (unfinished rest) =
    reads.same ∙ ap (λ l. with_frames reads.added (framing_of (rest ++ l))) (nil_from_length left none) ∙ ap (λ bs. with_frames reads.added (framing_of bs)) (append-nil rest) ∙ ap (with_frames reads.added) partial in (
      sym (ap (λ f. f.rest) same),
      reads.pushed ∙ ap (λ fs. frames ++ fs) (sym (append-nil reads.added) ∙ sym (ap (λ f. f.frames) same)),
      ap (λ f. f.fault) same,
    )

abbrev Stopped : Framing → Fault → List Frame → List Frame → Type 0
Stopped framing fault frames frames' = (framing.fault ≡ Some fault) × (frames' ≡ frames ++ framing.frames)

pub at_fault : (before after : Bytes) (frames frames' frames'' : List Frame) (fault : Fault) → Reads before after frames frames' → framing_of after ≡ broken fault → frames'' ≡ frames' → Stopped (framing_of before) fault frames frames''
at_fault before after frames frames' frames'' fault reads breaks kept =
    let same : framing_of before ≡ with_frames reads.added (broken fault) = reads.same ∙ ap (with_frames reads.added) breaks in
    (ap (λ f. f.fault) same, kept ∙ reads.pushed ∙ ap (λ fs. frames ++ fs) (sym (append-nil reads.added) ∙ sym (ap (λ f. f.frames) same)))

pub at_memory : (before after held : Bytes) (frames frames' frames'' : List Frame) → Reads before after frames frames' → frames'' ≡ frames' → ((left : Bytes) × (held ++ left ≡ after)) → RanOut before held frames frames''
at_memory before after held frames frames' frames'' reads kept begun = (
  begun.0,
  record { added = reads.added; pushed = kept ∙ reads.pushed; same = reads.same ∙ ap (λ bs. with_frames reads.added (framing_of bs)) (sym begun.1) },
)

-- what an error leaves is a front of the request
pub on_err : {T E : Type 0} (r : Result T E) (P : Type 0) → P → OnErr r P
on_err (Ok x) P p = tt
on_err (Err e) P p = p

abbrev Begun : Bytes → Bytes → Type 0
Begun held all = (left : Bytes) × (held ++ left ≡ all)

pub same_part : (stage : Stage) (words : List Bytes) (part part' piece : Bytes) → part' ≡ part → Begun (bytes_at stage words part') (bytes_at stage words part ++ piece)
same_part stage words part part' piece e = (piece, ap (λ p. bytes_at stage words p ++ piece) e)

pub line_lost : (stage : Stage) (words : List Bytes) (part all : Bytes) → stage ≡ Line → part ≡ [] → Begun (bytes_at stage words part) all
line_lost stage words part all e none = (all, ap (λ s. bytes_at s words part ++ all) e ∙ ap (λ p. p ++ all) none)

part_lost : (front rest piece : Bytes) → (front ++ []) ++ (rest ++ piece) ≡ (front ++ rest) ++ piece
part_lost front rest piece = ap (λ f. f ++ (rest ++ piece)) (append-nil front) ∙ sym (append_assoc front rest piece)

pub header_lost : (stage : Stage) (count : ℕ) (words : List Bytes) (part part' piece : Bytes) → stage ≡ Header count → part' ≡ [] → Begun (bytes_at stage words part') (bytes_at stage words part ++ piece)
header_lost stage count words part part' piece e none = (
  part ++ piece,
  ap (λ p. bytes_at stage words p ++ (part ++ piece)) none
      ∙ ap (λ s. bytes_at s words [] ++ (part ++ piece)) e
      ∙ part_lost (array_front count words) part piece
      ∙ ap (λ s. bytes_at s words part ++ piece) (sym e),
)

-- a front of what is before a word is a front of what comes with it
begun_before : (held front rest piece : Bytes) → Begun held front → Begun held ((front ++ rest) ++ piece)
begun_before held front rest piece begun = (
  begun.0 ++ (rest ++ piece),
  sym (append_assoc held begun.0 (rest ++ piece)) ∙ ap (λ bs. bs ++ (rest ++ piece)) begun.1 ∙ sym (append_assoc front rest piece),
)

pub body_begun : (stage : Stage) (count len : ℕ) (words : List Bytes) (part piece held : Bytes) → stage ≡ Body count len → Begun held (array_front count words) → Begun held (bytes_at stage words part ++ piece)
body_begun stage count len words part piece held e begun =
    subst (λ s. Begun held (bytes_at s words part ++ piece)) (sym e) (begun_before held (array_front count words) (bulk_head len ++ part) piece begun)

pub ending_begun : (stage : Stage) (count : ℕ) (words : List Bytes) (part piece held : Bytes) → stage ≡ Ending count → Begun held (array_front count words) → Begun held (bytes_at stage words part ++ piece)
ending_begun stage count words part piece held e begun =
    subst (λ s. Begun held (bytes_at s words part ++ piece)) (sym e) (begun_before held (array_front count words) (bulk_head (length part) ++ (part ++ 13 ∷ [])) piece begun)
