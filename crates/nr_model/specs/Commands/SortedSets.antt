-- Sorted sets (Redis command reference, sorted set; whole scores, the order of faults and byte bounds over unequal scores own).
use Rattle.std.specs.Prelude.{ℕ, zero, suc, ◌+◌, ◌-◌, Bool, true, false, not, ◌&&◌, ◌||◌, if◌then◌else◌, List, [], ◌∷◌, ◌++◌, length, map, take, drop, fold, Option, Some, None, Ok, Err, ℤ, pos, negsuc, ◌+ℤ◌, int_lt, ◌==◌, nat_lt, flat_map, codes}
use Rattle.std.specs.Ordering.{int_eq}
use Rattle.std.specs.Fmt.{signed_decimal}
use Rattle.std.specs.FinMap as finmap
use Rattle.nr_model.specs.Bytes.{Bytes}
use Rattle.nr_model.specs.Replies.{Reply, Int, Bulk, NullBulk, array}
use Rattle.nr_model.specs.SortedSets.{Scores, Scored, ranked, rank_of, as_score, score_value, score_bound, byte_bound, Bound, Bounds, ByScore, ByBytes, told_in, without, Limit, Ends, Places, Within, told_range, of_members, weighted, joined, are_scores}
use Rattle.nr_model.specs.Keyspace as keyspaces
use Rattle.nr_model.specs.Keyspace.{Key, key_of, Keyspace, Stored, Value, Text, Items, Fields}
use Rattle.nr_model.specs.Commands.Shape.{Effect, refusal, refused, answered, performed}
use Rattle.nr_model.specs.Commands.Reading.{Read, fault, read_then, one_word, two_words, three_words, integer, integer_or, is_word}
use Rattle.nr_model.specs.Commands.Held.{held_as, scores_at, kept_under}
use Rattle.nr_model.specs.Commands.Keys.{Conditions, condition, unconditional, compatible}
use Rattle.nr_model.specs.Commands.Lists.{natural}
use Rattle.nr_model.specs.Commands.Sets.{touched_by, cleared}
use Rattle.nr_model.specs.declared.refused.Refused.{Refused}
use Rattle.nr_model.specs.declared.refused.Refused.TheVariants.{Syntax, WrongType, OptionsConflict, NotPositive, KeyCount, NotAFloat, ScoreRange, ScoreBound, MemberBound, LimitByPlaces, ScoresByMembers}
use Rattle.nr_model.specs.declared.command.Direction.{Direction}
use Rattle.nr_model.specs.declared.command.Direction.TheVariants.{Ascending, Descending}
use Rattle.nr_model.specs.declared.command.RangeBy.{RangeBy}
use Rattle.nr_model.specs.declared.command.RangeBy.TheVariants as ranges
use Rattle.nr_model.specs.declared.command.RangeForm.{RangeForm}
use Rattle.nr_model.specs.declared.command.RangeForm.TheVariants.{Any, Reversed, ByScores, ByMembers}
use Rattle.nr_model.specs.declared.command.Joining.{Joining}
use Rattle.nr_model.specs.declared.command.Aggregate.{Aggregate}
use Rattle.nr_model.specs.declared.command.Aggregate.TheVariants.{Sum, Min, Max}
use Rattle.nr_model.specs.declared.command.SortedSetsLook.{SortedSetsLook}
use Rattle.nr_model.specs.declared.command.SortedSetsLook.TheVariants as looks
use Rattle.nr_model.specs.declared.command.SortedSetsChange.{SortedSetsChange}
use Rattle.nr_model.specs.declared.command.SortedSetsChange.TheVariants as changes

-- a missing key reads as the sorted set without members
abbrev pub or_none : Option Scores → Scores
or_none None = finmap.empty
or_none (Some scores) = scores

-- what a key holds as a sorted set
abbrev pub sorted_at : Keyspace → ℕ → Bytes → Read Scores
sorted_at keyspace database name = read_then (scores_at keyspace database name) (λ held. Ok (or_none held))

-- the score that a word spells
abbrev pub score : Bytes → Read ℤ
score word = integer_or NotAFloat (score_value word)

-- a score as a bulk, and the null bulk where there is none
abbrev pub score_bulk : ℤ → Reply
score_bulk score = Bulk (signed_decimal score)

abbrev pub score_or_null : Option ℤ → Reply
score_or_null None = NullBulk
score_or_null (Some score) = score_bulk score

-- ZSCORE key member: its score, or the null bulk
abbrev pub zscore : Keyspace → ℕ → List Bytes → Reply
zscore keyspace database words =
    answered (two_words words) (λ pair. answered (sorted_at keyspace database pair.0) (λ scores. score_or_null (finmap.get scores pair.1)))

-- ZMSCORE key member [member ..]: each one's score, or the null bulk
abbrev pub zmscore : Keyspace → ℕ → List Bytes → Reply
zmscore keyspace database [] = refusal Syntax
zmscore keyspace database (name ∷ members) =
    answered (sorted_at keyspace database name) (λ scores. array (map (λ member. score_or_null (finmap.get scores member)) members))

-- ZCARD key: how many members
abbrev pub zcard : Keyspace → ℕ → List Bytes → Reply
zcard keyspace database words =
    answered (one_word words) (λ name. answered (sorted_at keyspace database name) (λ scores. Int (pos (finmap.len scores))))

-- ZRANK key member, ZREVRANK key member: its place, or the null bulk
abbrev pub place_or_null : Option ℕ → Reply
place_or_null None = NullBulk
place_or_null (Some place) = Int (pos place)

abbrev pub rank : Direction → Keyspace → ℕ → List Bytes → Reply
rank direction keyspace database words =
    answered (two_words words) (λ pair. answered (sorted_at keyspace database pair.0) (λ scores. place_or_null (rank_of direction scores pair.1)))

-- a bound that a word spells, or a fault
abbrev pub bound_or : {A : Type 0} → Refused → Option (Bound A) → Read (Bound A)
bound_or why None = fault why
bound_or why (Some bound) = Ok bound

-- the two ends of a range, the first being the lower end unless the range is reversed; places are told from the end where it is
abbrev pub score_ends : Bool → Bound ℤ → Bound ℤ → Bounds
score_ends reversed a b = if reversed then ByScore b a else ByScore a b

abbrev pub member_ends : Bool → Bound Bytes → Bound Bytes → Bounds
member_ends reversed a b = if reversed then ByBytes b a else ByBytes a b

abbrev pub ends_of : RangeBy → Bool → Bytes → Bytes → Read Ends
ends_of ranges.Places reversed a b = read_then (integer a) (λ first. read_then (integer b) (λ last. Ok (Places first last)))
ends_of ranges.Scores reversed a b =
    read_then (bound_or ScoreBound (score_bound a)) (λ a. read_then (bound_or ScoreBound (score_bound b)) (λ b. Ok (Within (score_ends reversed a b))))
ends_of ranges.Members reversed a b =
    read_then (bound_or MemberBound (byte_bound a)) (λ a. read_then (bound_or MemberBound (byte_bound b)) (λ b. Ok (Within (member_ends reversed a b))))

-- a key and the ends of a range of it
pub record EndsRequest : Type 0 where
  pub name : Bytes
  pub ends : Ends

abbrev pub ends_request : RangeBy → List Bytes → Read EndsRequest
ends_request by words =
    read_then (three_words words) (λ word. read_then (ends_of by false word.1 word.2) (λ ends. Ok (record { name = word.0; ends = ends })))

-- ZCOUNT key min max, ZLEXCOUNT key min max: how many members stand between two bounds
abbrev pub count : RangeBy → Keyspace → ℕ → List Bytes → Reply
count by keyspace database words =
    answered (ends_request by words) (λ request.
    answered (sorted_at keyspace database request.name) (λ scores. Int (pos (length (told_range request.ends Ascending None scores)))))

-- ZRANGE key start end [BYSCORE | BYLEX] [REV] [LIMIT offset count] [WITHSCORES], and its older names, each with options of its own
pub record RangeOptions : Type 0 where
  pub by : RangeBy
  pub reversed : Bool
  pub limit : Option Limit
  pub with_scores : Bool

abbrev pub is_reversed : Direction → Bool
is_reversed Ascending = false
is_reversed Descending = true

abbrev pub direction_of : Bool → Direction
direction_of false = Ascending
direction_of true = Descending

-- what a name says by itself
abbrev pub said_by : RangeForm → RangeOptions
said_by Any = record { by = ranges.Places; reversed = false; limit = None; with_scores = false }
said_by Reversed = record { by = ranges.Places; reversed = true; limit = None; with_scores = false }
said_by (ByScores direction) = record { by = ranges.Scores; reversed = is_reversed direction; limit = None; with_scores = false }
said_by (ByMembers direction) = record { by = ranges.Members; reversed = is_reversed direction; limit = None; with_scores = false }

-- which options it takes: BYSCORE, BYLEX and REV; LIMIT; WITHSCORES
abbrev pub takes_ways : RangeForm → Bool
takes_ways Any = true
takes_ways Reversed = false
takes_ways (ByScores direction) = false
takes_ways (ByMembers direction) = false

abbrev pub takes_limit : RangeForm → Bool
takes_limit Any = true
takes_limit Reversed = false
takes_limit (ByScores direction) = true
takes_limit (ByMembers direction) = true

abbrev pub takes_scores : RangeForm → Bool
takes_scores Any = true
takes_scores Reversed = true
takes_scores (ByScores direction) = true
takes_scores (ByMembers direction) = false

-- what a word is among the options: none, one by itself, or LIMIT, behind which two numbers stand
pub data RangeWord : Type 0 where
  Surplus : RangeWord
  Alone : RangeOptions → RangeWord
  Limiting : RangeWord

-- BYSCORE and BYLEX exclude one another
abbrev pub by_scores : RangeOptions → RangeWord
by_scores options =
    elim options.by [
      | ranges.Places ↦ Alone (record options { by = ranges.Scores })
      | ranges.Scores ↦ Alone options
      | ranges.Members ↦ Surplus
    ]

abbrev pub by_members : RangeOptions → RangeWord
by_members options =
    elim options.by [
      | ranges.Places ↦ Alone (record options { by = ranges.Members })
      | ranges.Scores ↦ Surplus
      | ranges.Members ↦ Alone options
    ]

abbrev pub range_word : RangeForm → RangeOptions → Bytes → RangeWord
range_word form options word =
    if takes_scores form && is_word (codes "withscores") word then Alone (record options { with_scores = true })
    else if takes_limit form && is_word (codes "limit") word then Limiting
    else if not (takes_ways form) then Surplus
    else if is_word (codes "rev") word then Alone (record options { reversed = true })
    else if is_word (codes "byscore") word then by_scores options
    else if is_word (codes "bylex") word then by_members options
    else Surplus

-- the options in front of the first fault, and that fault
pub record Options : Type 0 where
  pub options : RangeOptions
  pub fault : Option Reply

abbrev pub all_read : RangeOptions → Options
all_read options = record { options = options; fault = None }

abbrev pub stopped : RangeOptions → Reply → Options
stopped options reply = record { options = options; fault = Some reply }

abbrev pub limit_of : Bytes → Bytes → Read Limit
limit_of offset count = read_then (integer offset) (λ offset. read_then (integer count) (λ count. Ok (record { offset = offset; count = count })))

-- a LIMIT whose count is missing
abbrev pub half_limit : Bytes → Reply
half_limit offset = elim (integer offset) [ Err reply ↦ reply | Ok offset ↦ refusal Syntax ]

abbrev pub range_options : RangeForm → RangeOptions → List Bytes → Options
range_options form options [] = all_read options
range_options form options (word ∷ []) =
    elim (range_word form options word) [ Surplus ↦ stopped options (refusal Syntax) | Alone next ↦ all_read next | Limiting ↦ stopped options (refusal Syntax) ]
range_options form options (word ∷ offset ∷ []) =
    elim (range_word form options word) [
      | Surplus ↦ stopped options (refusal Syntax)
      | Alone next ↦ range_options form next (offset ∷ [])
      | Limiting ↦ stopped options (half_limit offset)
    ]
range_options form options (word ∷ offset ∷ count ∷ words) =
    elim (range_word form options word) [
      | Surplus ↦ stopped options (refusal Syntax)
      | Alone next ↦ range_options form next (offset ∷ count ∷ words)
      | Limiting ↦ elim (limit_of offset count) [ Err reply ↦ stopped options reply | Ok limit ↦ range_options form (record options { limit = Some limit }) words ]
    ]

-- LIMIT goes with bounds, and WITHSCORES not with those of members
abbrev pub is_limited : Option Limit → Bool
is_limited None = false
is_limited (Some limit) = true

abbrev pub fitting : RangeOptions → Read RangeOptions
fitting options =
    elim options.by [
      | ranges.Places ↦ if is_limited options.limit then fault LimitByPlaces else Ok options
      | ranges.Scores ↦ Ok options
      | ranges.Members ↦ if options.with_scores then fault ScoresByMembers else Ok options
    ]

abbrev pub without_fault : Options → Read RangeOptions
without_fault read = elim read.fault [ None ↦ fitting read.options | Some reply ↦ Err reply ]

-- the ends are read by what the options say of them, and in front of the options' own faults (own)
pub record RangeRequest : Type 0 where
  pub name : Bytes
  pub ends : Ends
  pub options : RangeOptions

abbrev pub range_request : RangeForm → List Bytes → Read RangeRequest
range_request form [] = fault Syntax
range_request form (name ∷ []) = fault Syntax
range_request form (name ∷ a ∷ []) = fault Syntax
range_request form (name ∷ a ∷ b ∷ words) =
    let read = range_options form (said_by form) words in
    read_then (ends_of read.options.by read.options.reversed a b) (λ ends.
    read_then (without_fault read) (λ options. Ok (record { name = name; ends = ends; options = options })))

-- members as an array, each with its score behind it where they are asked for
abbrev pub with_score : Scored → List Reply
with_score scored = Bulk scored.0 ∷ score_bulk scored.1 ∷ []

abbrev pub scored_array : List Scored → Reply
scored_array members = array (flat_map with_score members)

abbrev pub members_array : Bool → List Scored → Reply
members_array false members = array (map (λ scored. Bulk scored.0) members)
members_array true members = scored_array members

abbrev pub range : RangeForm → Keyspace → ℕ → List Bytes → Reply
range form keyspace database words =
    answered (range_request form words) (λ request.
    answered (sorted_at keyspace database request.name) (λ scores.
    members_array request.options.with_scores (told_range request.ends (direction_of request.options.reversed) request.options.limit scores)))

-- what becomes of a key that has these scores from now on, so many of them new, others or gone: its deadline stays, and with none left it is no key
abbrev pub rescored : Keyspace → Key → Scores → ℕ → Reply → Effect
rescored keyspace key scores count reply =
    record { reply = reply; keyspace = kept_under keyspace key (keyspaces.Scores scores); touched = touched_by key count }

-- ZADD key [NX | XX] [GT | LT] [CH] [INCR] score member [score member ..]: the options stand in front of the pairs
pub record AddOptions : Type 0 where
  pub conditions : Conditions
  pub changed : Bool
  pub increment : Bool

abbrev pub no_options : AddOptions
no_options = record { conditions = unconditional; changed = false; increment = false }

abbrev pub add_option : AddOptions → Bytes → Option AddOptions
add_option options word =
    if is_word (codes "ch") word then Some (record options { changed = true })
    else if is_word (codes "incr") word then Some (record options { increment = true })
    else elim (condition options.conditions word) [ None ↦ None | Some conditions ↦ Some (record options { conditions = conditions }) ]

abbrev pub add_options : AddOptions → List Bytes → AddOptions × List Bytes
add_options options [] = (options, [])
add_options options (word ∷ words) = elim (add_option options word) [ None ↦ (options, word ∷ words) | Some next ↦ add_options next words ]

-- scores, each in front of its member
abbrev pub score_pairs : List Bytes → Read (List Scored)
score_pairs [] = Ok []
score_pairs (word ∷ []) = read_then (score word) (λ score. fault Syntax)
score_pairs (word ∷ member ∷ words) = read_then (score word) (λ score. read_then (score_pairs words) (λ pairs. Ok ((member, score) ∷ pairs)))

-- one pair at least
abbrev pub some_pairs : List Bytes → Read (List Scored)
some_pairs [] = fault Syntax
some_pairs (word ∷ words) = score_pairs (word ∷ words)

-- INCR goes with one pair
abbrev pub fitting_add : AddOptions → List Scored → Read AddOptions
fitting_add options pairs =
    read_then (compatible options.conditions) (λ conditions.
    if options.increment && nat_lt 1 (length pairs) then fault OptionsConflict else Ok options)

pub record AddRequest : Type 0 where
  pub name : Bytes
  pub options : AddOptions
  pub pairs : List Scored

abbrev pub add_request : List Bytes → Read AddRequest
add_request [] = fault Syntax
add_request (name ∷ words) =
    let read = add_options no_options words in
    read_then (some_pairs read.1) (λ pairs.
    read_then (fitting_add read.0 pairs) (λ options. Ok (record { name = name; options = options; pairs = pairs })))

-- whether conditions stop a member from having a score: NX one that is there, XX a new one, GT and LT a score that isn't greater or less
abbrev pub stops : Conditions → Option ℤ → ℤ → Bool
stops conditions None score = conditions.xx
stops conditions (Some before) score =
    conditions.nx || ((conditions.gt && not (int_lt before score)) || (conditions.lt && not (int_lt score before)))

-- scores with more of them, and how many members are new, and how many have another score
pub record Scoring : Type 0 where
  pub scores : Scores
  pub added : ℕ
  pub changed : ℕ

abbrev pub scoring_of : Scores → Scoring
scoring_of scores = record { scores = scores; added = 0; changed = 0 }

abbrev pub scored : Scoring → Option ℤ → Scored → Scoring
scored scoring None pair = record { scores = finmap.insert scoring.scores pair.0 pair.1; added = scoring.added + 1; changed = scoring.changed }
scored scoring (Some before) pair = record {
  scores = finmap.insert scoring.scores pair.0 pair.1;
  added = scoring.added;
  changed = scoring.changed + (if int_eq before pair.1 then 0 else 1);
}

abbrev pub add_one : Conditions → Scoring → Scored → Scoring
add_one conditions scoring pair =
    let held = finmap.get scoring.scores pair.0 in
    if stops conditions held pair.1 then scoring else scored scoring held pair

abbrev pub add_all : Conditions → Scores → List Scored → Scoring
add_all conditions scores pairs = fold (add_one conditions) (scoring_of scores) pairs

-- how many are new, and with CH how many are new or have another score
abbrev pub how_many : Bool → Scoring → ℕ
how_many false scoring = scoring.added
how_many true scoring = scoring.added + scoring.changed

abbrev pub added : Keyspace → Key → Bool → Scoring → Effect
added keyspace key changed scoring = rescored keyspace key scoring.scores (scoring.added + scoring.changed) (Int (pos (how_many changed scoring)))

-- the score that a member has with this added to it, none where conditions stop it; the sum is judged in front of GT and LT (Redis)
abbrev pub sum_of : ℤ → ℤ → Read ℤ
sum_of before by = integer_or ScoreRange (as_score (before +ℤ by))

abbrev pub unless_stopped : Conditions → Option ℤ → ℤ → Option ℤ
unless_stopped conditions held score = if stops conditions held score then None else Some score

abbrev pub raised : Conditions → Option ℤ → ℤ → Read (Option ℤ)
raised conditions None by = Ok (unless_stopped conditions None by)
raised conditions (Some before) by =
    if conditions.nx then Ok None else read_then (sum_of before by) (λ sum. Ok (unless_stopped conditions (Some before) sum))

abbrev pub raised_to : Keyspace → Key → Scores → Bytes → Option ℤ → Effect
raised_to keyspace key scores member None = rescored keyspace key scores 0 NullBulk
raised_to keyspace key scores member (Some score) =
    let scoring = scored (scoring_of scores) (finmap.get scores member) (member, score) in
    rescored keyspace key scoring.scores (scoring.added + scoring.changed) (score_bulk score)

abbrev pub raise : Keyspace → Key → Conditions → Scores → Scored → Effect
raise keyspace key conditions scores pair =
    performed keyspace (raised conditions (finmap.get scores pair.0) pair.1) (raised_to keyspace key scores pair.0)

abbrev pub raise_first : Keyspace → Key → Conditions → Scores → List Scored → Effect
raise_first keyspace key conditions scores [] = rescored keyspace key scores 0 NullBulk
raise_first keyspace key conditions scores (pair ∷ pairs) = raise keyspace key conditions scores pair

-- of one pair with INCR, of all without
abbrev pub add_pairs : Keyspace → Key → AddOptions → Scores → List Scored → Effect
add_pairs keyspace key options scores pairs =
    if options.increment then raise_first keyspace key options.conditions scores pairs
    else added keyspace key options.changed (add_all options.conditions scores pairs)

abbrev pub zadd : Keyspace → ℕ → List Bytes → Effect
zadd keyspace database words =
    performed keyspace (add_request words) (λ request.
    performed keyspace (sorted_at keyspace database request.name) (λ scores.
    add_pairs keyspace (key_of database request.name) request.options scores request.pairs))

-- ZINCRBY key increment member: the score then, a missing member having counted as 0
pub record RaiseRequest : Type 0 where
  pub name : Bytes
  pub by : ℤ
  pub member : Bytes

abbrev pub raise_request : List Bytes → Read RaiseRequest
raise_request words = read_then (three_words words) (λ word. read_then (score word.1) (λ by. Ok (record { name = word.0; by = by; member = word.2 })))

abbrev pub zincr_by : Keyspace → ℕ → List Bytes → Effect
zincr_by keyspace database words =
    performed keyspace (raise_request words) (λ request.
    performed keyspace (sorted_at keyspace database request.name) (λ scores.
    raise keyspace (key_of database request.name) unconditional scores (request.member, request.by)))

-- a key that loses members: how many it loses
abbrev pub left_with : Keyspace → Key → Scores → Scores → Effect
left_with keyspace key scores left =
    let gone = finmap.len scores - finmap.len left in rescored keyspace key left gone (Int (pos gone))

-- ZREM key member [member ..]: how many were there
abbrev pub zrem : Keyspace → ℕ → List Bytes → Effect
zrem keyspace database [] = refused keyspace Syntax
zrem keyspace database (name ∷ members) =
    performed keyspace (sorted_at keyspace database name) (λ scores.
    left_with keyspace (key_of database name) scores (fold finmap.remove scores members))

-- ZREMRANGEBYRANK key start end, ZREMRANGEBYSCORE key min max, ZREMRANGEBYLEX key min max: how many are gone
abbrev pub remove_range : RangeBy → Keyspace → ℕ → List Bytes → Effect
remove_range by keyspace database words =
    performed keyspace (ends_request by words) (λ request.
    performed keyspace (sorted_at keyspace database request.name) (λ scores.
    left_with keyspace (key_of database request.name) scores (without (told_range request.ends Ascending None scores) scores)))

-- ZPOPMIN key [count], ZPOPMAX key [count]: the members of the least or the greatest scores, with these, one where no count is given
pub record PopRequest : Type 0 where
  pub name : Bytes
  pub count : ℕ

abbrev pub pop_request : List Bytes → Read PopRequest
pop_request [] = fault Syntax
pop_request (name ∷ []) = Ok (record { name = name; count = 1 })
pop_request (name ∷ count ∷ []) = read_then (natural NotPositive count) (λ count. Ok (record { name = name; count = count }))
pop_request (name ∷ count ∷ more ∷ words) = read_then (natural NotPositive count) (λ count. fault Syntax)

abbrev pub popped : Keyspace → Key → Scores → List Scored → Effect
popped keyspace key scores gone = rescored keyspace key (without gone scores) (length gone) (scored_array gone)

abbrev pub pop : Direction → Keyspace → ℕ → List Bytes → Effect
pop direction keyspace database words =
    performed keyspace (pop_request words) (λ request.
    performed keyspace (sorted_at keyspace database request.name) (λ scores.
    popped keyspace (key_of database request.name) scores (take request.count (told_in direction (ranked scores)))))

-- ZUNIONSTORE destination numkeys key [key ..] [WEIGHTS weight ..] [AGGREGATE SUM | MIN | MAX], ZINTERSTORE alike
pub record StoreOptions : Type 0 where
  pub weights : List ℤ
  pub aggregate : Aggregate

abbrev pub plain_store : StoreOptions
plain_store = record { weights = []; aggregate = Sum }

abbrev pub aggregate_of : Bytes → Read Aggregate
aggregate_of word =
    if is_word (codes "sum") word then Ok Sum
    else if is_word (codes "min") word then Ok Min
    else if is_word (codes "max") word then Ok Max
    else fault Syntax

-- of so many weights that are to come, one for each key, and then the next option
abbrev pub store_options : ℕ → StoreOptions → ℕ → List Bytes → Read StoreOptions
store_options keys options zero [] = Ok options
store_options keys options zero (word ∷ []) = fault Syntax
store_options keys options zero (word ∷ value ∷ words) =
    if is_word (codes "weights") word then store_options keys (record options { weights = [] }) keys (value ∷ words)
    else if is_word (codes "aggregate") word then read_then (aggregate_of value) (λ aggregate. store_options keys (record options { aggregate = aggregate }) zero words)
    else fault Syntax
store_options keys options (suc left) [] = fault Syntax
store_options keys options (suc left) (word ∷ words) =
    read_then (score word) (λ weight. store_options keys (record options { weights = options.weights ++ weight ∷ [] }) left words)

-- how many keys follow: at least one, and no more than there are words
abbrev pub key_count_of : ℕ → ℤ → Read ℕ
key_count_of words (negsuc n) = fault KeyCount
key_count_of words (pos n) = if n == 0 then fault KeyCount else if nat_lt words n then fault Syntax else Ok n

abbrev pub key_count : ℕ → Bytes → Read ℕ
key_count words word = read_then (integer word) (key_count_of words)

pub record StoreRequest : Type 0 where
  pub target : Bytes
  pub names : List Bytes
  pub options : StoreOptions

abbrev pub store_request : List Bytes → Read StoreRequest
store_request [] = fault Syntax
store_request (target ∷ []) = fault Syntax
store_request (target ∷ number ∷ words) =
    read_then (key_count (length words) number) (λ count.
    read_then (store_options count plain_store 0 (drop count words)) (λ options.
    Ok (record { target = target; names = take count words; options = options })))

-- the scores of a value, the members of a set having 1 each
abbrev pub source_of : Value → Read Scores
source_of (Text text) = fault WrongType
source_of (Items items) = fault WrongType
source_of (Fields fields) = fault WrongType
source_of (keyspaces.Members members) = Ok (of_members members)
source_of (keyspaces.Scores scores) = Ok scores

-- what several keys hold so, the kinds of all being looked at
abbrev pub source_at : Keyspace → ℕ → Bytes → Read Scores
source_at keyspace database name = read_then (held_as source_of (finmap.get keyspace (key_of database name))) (λ held. Ok (or_none held))

abbrev pub sources_at : Keyspace → ℕ → List Bytes → Read (List Scores)
sources_at keyspace database [] = Ok []
sources_at keyspace database (name ∷ names) =
    read_then (source_at keyspace database name) (λ scores. read_then (sources_at keyspace database names) (λ others. Ok (scores ∷ others)))

-- a key that holds these scores alone from now on, with no deadline, whatever it held; with none it is no key
abbrev pub stored : Keyspace → Key → Scores → Effect
stored keyspace key scores =
    if finmap.len scores == 0 then cleared keyspace key
    else record {
      reply = Int (pos (finmap.len scores));
      keyspace = finmap.insert keyspace key (record { value = keyspaces.Scores scores; deadline = None });
      touched = key ∷ [];
    }

-- only what the scores are in the end is judged (own)
abbrev pub join_store : Joining → Keyspace → ℕ → List Bytes → Effect
join_store joining keyspace database words =
    performed keyspace (store_request words) (λ request.
    performed keyspace (sources_at keyspace database request.names) (λ sources.
    let scores = joined joining request.options.aggregate (weighted sources request.options.weights) in
    if are_scores scores then stored keyspace (key_of database request.target) scores else refused keyspace ScoreRange))

-- a command that only looks; the arguments are the words behind the name
abbrev pub look : SortedSetsLook → ℕ → Keyspace → ℕ → List Bytes → Reply
look looks.ZScore now keyspace database arguments = zscore keyspace database arguments
look looks.ZMScore now keyspace database arguments = zmscore keyspace database arguments
look looks.ZCard now keyspace database arguments = zcard keyspace database arguments
look (looks.Rank direction) now keyspace database arguments = rank direction keyspace database arguments
look looks.ZCount now keyspace database arguments = count ranges.Scores keyspace database arguments
look looks.ZLexCount now keyspace database arguments = count ranges.Members keyspace database arguments
look (looks.Range form) now keyspace database arguments = range form keyspace database arguments

-- a command that may change the keyspace
abbrev pub change : SortedSetsChange → ℕ → Keyspace → ℕ → List Bytes → Effect
change changes.ZAdd now keyspace database arguments = zadd keyspace database arguments
change changes.ZIncrBy now keyspace database arguments = zincr_by keyspace database arguments
change changes.ZRem now keyspace database arguments = zrem keyspace database arguments
change (changes.RemRange by) now keyspace database arguments = remove_range by keyspace database arguments
change (changes.Pop direction) now keyspace database arguments = pop direction keyspace database arguments
change (changes.JoinStore joining) now keyspace database arguments = join_store joining keyspace database arguments
