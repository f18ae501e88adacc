-- Lists (Redis command reference, list).
use Rattle.std.specs.Prelude.{ℕ, zero, suc, ◌-◌, nat_lt, List, [], ◌∷◌, length, map, take, drop, fold, find, Option, Some, None, Ok, ℤ, pos, negsuc, bytes_eq, codes, if◌then◌else◌}
use Rattle.std.specs.Option.{unwrap_or}
use Rattle.std.specs.FinMap as finmap
use Rattle.nr_model.specs.Bytes.{Bytes}
use Rattle.nr_model.specs.Numbers.{int_value}
use Rattle.nr_model.specs.Replies.{Reply, Int, Bulk, NullBulk, NullArray, array}
use Rattle.nr_model.specs.Strings.{range}
use Rattle.nr_model.specs.Lists.{pushed, popped, item_at, with_item_at, index_of, pivot_of, inserted, seen_from, removed, places_of}
use Rattle.nr_model.specs.Keyspace.{Key, key_of, Keyspace, Items}
use Rattle.nr_model.specs.Commands.Shape.{Effect, unchanged, refused, answered, performed}
use Rattle.nr_model.specs.Commands.Reading.{Read, fault, read_then, one_word, two_words, three_words, integer_or, integer, OptionWord, Unknown, Valued, read_options, is_word}
use Rattle.nr_model.specs.Commands.Strings.{range_request, bulk_or_null}
use Rattle.nr_model.specs.Commands.Held.{items_at, kept_under}
use Rattle.nr_model.specs.Commands.Texts.{ok}
use Rattle.nr_model.specs.declared.refused.Refused.{Refused}
use Rattle.nr_model.specs.declared.refused.Refused.TheVariants.{Syntax, NoSuchKey, IndexOutOfRange, NotPositive, PopArity, KeyCount, CountNotPositive, RankZero, Negative}
use Rattle.nr_model.specs.declared.command.End.{End}
use Rattle.nr_model.specs.declared.command.End.TheVariants.{Left, Right}
use Rattle.nr_model.specs.declared.command.Side.{Side}
use Rattle.nr_model.specs.declared.command.Side.TheVariants.{Before, After}
use Rattle.nr_model.specs.declared.command.ListsLook.{ListsLook}
use Rattle.nr_model.specs.declared.command.ListsLook.TheVariants as looks
use Rattle.nr_model.specs.declared.command.ListsChange.{ListsChange}
use Rattle.nr_model.specs.declared.command.ListsChange.TheVariants as changes

-- a missing key reads as the empty list
abbrev pub or_no_items : Option (List Bytes) → List Bytes
or_no_items None = []
or_no_items (Some items) = items

-- items as an array
abbrev pub bulks : List Bytes → Reply
bulks items = array (map Bulk items)

-- a key that holds these items from now on, under the deadline that it had; without any it is no key
abbrev pub relisted : Keyspace → Key → List Bytes → Reply → Effect
relisted keyspace key items reply = record { reply = reply; keyspace = kept_under keyspace key (Items items); touched = key ∷ [] }

-- the same, and how many they are
abbrev pub lengthened : Keyspace → Key → List Bytes → Effect
lengthened keyspace key items = relisted keyspace key items (Int (pos (length items)))

-- a key that holds what it held, of which nothing is told
abbrev pub left_as_is : Keyspace → Key → List Bytes → Reply → Effect
left_as_is keyspace key items reply = record { reply = reply; keyspace = kept_under keyspace key (Items items); touched = [] }

-- LLEN key
abbrev pub llen : Keyspace → ℕ → List Bytes → Reply
llen keyspace database words =
    answered (one_word words) (λ name. answered (items_at keyspace database name) (λ held. Int (pos (length (or_no_items held)))))

-- LRANGE key start end: the items from one index to another, both counted
abbrev pub lrange : Keyspace → ℕ → List Bytes → Reply
lrange keyspace database words =
    answered (range_request words) (λ request.
    answered (items_at keyspace database request.name) (λ held. bulks (range request.first request.last (or_no_items held))))

-- LINDEX key index: the item there, or the null bulk
abbrev pub index_request : List Bytes → Read (Bytes × ℤ)
index_request words = read_then (two_words words) (λ pair. read_then (integer pair.1) (λ index. Ok (pair.0, index)))

abbrev pub lindex : Keyspace → ℕ → List Bytes → Reply
lindex keyspace database words =
    answered (index_request words) (λ request.
    answered (items_at keyspace database request.0) (λ held. bulk_or_null (item_at request.1 (or_no_items held))))

-- a rank, which is not 0
abbrev pub rank_of : ℤ → Read ℤ
rank_of (pos zero) = fault RankZero
rank_of (pos (suc n)) = Ok (pos (suc n))
rank_of (negsuc n) = Ok (negsuc n)

abbrev pub rank : Bytes → Read ℤ
rank word = read_then (integer word) rank_of

-- a number of 0 or more, or another fault
abbrev pub natural_of : Refused → ℤ → Read ℕ
natural_of why (negsuc n) = fault why
natural_of why (pos n) = Ok n

abbrev pub natural : Refused → Bytes → Read ℕ
natural why word = read_then (integer_or why (int_value word)) (natural_of why)

-- and of 1 or more
abbrev pub positive_of : Refused → ℤ → Read ℕ
positive_of why (negsuc n) = fault why
positive_of why (pos zero) = fault why
positive_of why (pos (suc n)) = Ok (suc n)

abbrev pub positive : Refused → Bytes → Read ℕ
positive why word = read_then (integer_or why (int_value word)) (positive_of why)

-- LPOS key item [RANK rank] [COUNT count] [MAXLEN len]: where the item stands, beginning with the match of the rank, among so many items looked at
pub record PlaceOptions : Type 0 where
  pub rank : ℤ
  pub count : Option ℕ
  pub most : ℕ

-- the first match, and among all items
abbrev pub first_place : PlaceOptions
first_place = record { rank = pos 1; count = None; most = 0 }

abbrev pub place_option : PlaceOptions → Bytes → OptionWord PlaceOptions
place_option options word =
    if is_word (codes "rank") word then Valued (λ value. read_then (rank value) (λ rank. Ok (record options { rank = rank })))
    else if is_word (codes "count") word then Valued (λ value. read_then (natural Negative value) (λ count. Ok (record options { count = Some count })))
    else if is_word (codes "maxlen") word then Valued (λ value. read_then (natural Negative value) (λ most. Ok (record options { most = most })))
    else Unknown

pub record PlaceRequest : Type 0 where
  pub name : Bytes
  pub item : Bytes
  pub options : PlaceOptions

abbrev pub place_request : List Bytes → Read PlaceRequest
place_request [] = fault Syntax
place_request (name ∷ []) = fault Syntax
place_request (name ∷ item ∷ words) =
    read_then (read_options place_option first_place words) (λ options. Ok (record { name = name; item = item; options = options }))

-- one place or the null bulk, and with COUNT an array
abbrev pub place_or_null : List ℕ → Reply
place_or_null [] = NullBulk
place_or_null (place ∷ places) = Int (pos place)

abbrev pub places_reply : Option ℕ → List ℕ → Reply
places_reply None places = place_or_null places
places_reply (Some count) places = array (map (λ place. Int (pos place)) places)

abbrev pub places_in : PlaceOptions → Bytes → List Bytes → List ℕ
places_in options item items = places_of options.rank (unwrap_or options.count 1) options.most item items

abbrev pub lpos : Keyspace → ℕ → List Bytes → Reply
lpos keyspace database words =
    answered (place_request words) (λ request.
    answered (items_at keyspace database request.name) (λ held.
    places_reply request.options.count (places_in request.options request.item (or_no_items held))))

-- LPUSH key item [item ..], RPUSH key item [item ..]: the items go to an end one by one; the length then
abbrev pub push_request : List Bytes → Read (Bytes × List Bytes)
push_request [] = fault Syntax
push_request (name ∷ []) = fault Syntax
push_request (name ∷ item ∷ items) = Ok (name, item ∷ items)

abbrev pub pushed_all : End → List Bytes → List Bytes → List Bytes
pushed_all end items list = fold (λ list item. pushed end item list) list items

abbrev pub push : End → Keyspace → ℕ → List Bytes → Effect
push end keyspace database words =
    performed keyspace (push_request words) (λ request.
    performed keyspace (items_at keyspace database request.0) (λ held.
    lengthened keyspace (key_of database request.0) (pushed_all end request.1 (or_no_items held))))

-- LPUSHX key item [item ..], RPUSHX key item [item ..]: unless the key is missing
abbrev pub push_x_at : Keyspace → Key → End → List Bytes → Option (List Bytes) → Effect
push_x_at keyspace key end items None = unchanged keyspace (Int (pos 0))
push_x_at keyspace key end items (Some list) = lengthened keyspace key (pushed_all end items list)

abbrev pub push_x : End → Keyspace → ℕ → List Bytes → Effect
push_x end keyspace database words =
    performed keyspace (push_request words) (λ request.
    performed keyspace (items_at keyspace database request.0) (push_x_at keyspace (key_of database request.0) end request.1))

-- the first so many items from an end, and the list without them
abbrev pub first_items : End → ℕ → List Bytes → List Bytes
first_items end n items = take n (seen_from end items)

abbrev pub without_items : End → ℕ → List Bytes → List Bytes
without_items end n items = seen_from end (drop n (seen_from end items))

-- a key without the first so many items from an end
abbrev pub taken : Keyspace → Key → End → ℕ → List Bytes → Reply → Effect
taken keyspace key end n items reply = relisted keyspace key (without_items end n items) reply

-- LPOP key [count], RPOP key [count]: an item or the null bulk, and with a count an array of up to so many or the null array
abbrev pub nothing_behind : {A : Type 0} → Refused → A → List Bytes → Read A
nothing_behind why read [] = Ok read
nothing_behind why read (word ∷ words) = fault why

abbrev pub pop_count : End → List Bytes → Read (Option ℕ)
pop_count end [] = Ok None
pop_count end (count ∷ words) = read_then (natural NotPositive count) (λ n. nothing_behind (PopArity end) (Some n) words)

abbrev pub pop_request : End → List Bytes → Read (Bytes × Option ℕ)
pop_request end [] = fault Syntax
pop_request end (name ∷ words) = read_then (pop_count end words) (λ count. Ok (name, count))

abbrev pub nothing_popped : Option ℕ → Reply
nothing_popped None = NullBulk
nothing_popped (Some count) = NullArray

-- a count of 0 leaves all, and touches nothing
abbrev pub pop_items : Keyspace → Key → End → ℕ → List Bytes → Effect
pop_items keyspace key end zero items = unchanged keyspace (bulks [])
pop_items keyspace key end (suc n) items = taken keyspace key end (suc n) items (bulks (first_items end (suc n) items))

abbrev pub pop_at : Keyspace → Key → End → Option ℕ → Option (List Bytes) → Effect
pop_at keyspace key end count None = unchanged keyspace (nothing_popped count)
pop_at keyspace key end None (Some items) = relisted keyspace key (popped end items) (bulk_or_null (item_at (index_of end) items))
pop_at keyspace key end (Some count) (Some items) = pop_items keyspace key end count items

abbrev pub pop : End → Keyspace → ℕ → List Bytes → Effect
pop end keyspace database words =
    performed keyspace (pop_request end words) (λ request.
    performed keyspace (items_at keyspace database request.0) (pop_at keyspace (key_of database request.0) end request.1))

-- LSET key index item: another item in the place of one that is there
pub record SetRequest : Type 0 where
  pub name : Bytes
  pub index : ℤ
  pub item : Bytes

abbrev pub set_request : List Bytes → Read SetRequest
set_request words =
    read_then (three_words words) (λ word. read_then (integer word.1) (λ index. Ok (record { name = word.0; index = index; item = word.2 })))

abbrev pub set_at : Keyspace → Key → ℤ → Bytes → Option (List Bytes) → Effect
set_at keyspace key index item None = refused keyspace NoSuchKey
set_at keyspace key index item (Some items) =
    elim (item_at index items) [ None ↦ refused keyspace IndexOutOfRange | Some old ↦ relisted keyspace key (with_item_at index item items) ok ]

abbrev pub lset : Keyspace → ℕ → List Bytes → Effect
lset keyspace database words =
    performed keyspace (set_request words) (λ request.
    performed keyspace (items_at keyspace database request.name) (set_at keyspace (key_of database request.name) request.index request.item))

-- LTRIM key start end: only the items from one index to another stay
abbrev pub trim_at : Keyspace → Key → ℤ → ℤ → Option (List Bytes) → Effect
trim_at keyspace key first last None = unchanged keyspace ok
trim_at keyspace key first last (Some items) = relisted keyspace key (range first last items) ok

abbrev pub ltrim : Keyspace → ℕ → List Bytes → Effect
ltrim keyspace database words =
    performed keyspace (range_request words) (λ request.
    performed keyspace (items_at keyspace database request.name) (trim_at keyspace (key_of database request.name) request.first request.last))

-- LINSERT key BEFORE | AFTER pivot item: beside the first pivot; the length then, -1 without a pivot
abbrev pub side_of : Bytes → Read Side
side_of word = if is_word (codes "before") word then Ok Before else if is_word (codes "after") word then Ok After else fault Syntax

pub record InsertRequest : Type 0 where
  pub name : Bytes
  pub side : Side
  pub pivot : Bytes
  pub item : Bytes

abbrev pub insert_request : List Bytes → Read InsertRequest
insert_request [] = fault Syntax
insert_request (name ∷ []) = fault Syntax
insert_request (name ∷ side ∷ words) =
    read_then (side_of side) (λ side. read_then (two_words words) (λ pair. Ok (record { name = name; side = side; pivot = pair.0; item = pair.1 })))

abbrev pub insert_at : Keyspace → Key → Side → Bytes → Bytes → Option (List Bytes) → Effect
insert_at keyspace key side pivot item None = unchanged keyspace (Int (pos 0))
insert_at keyspace key side pivot item (Some items) =
    elim (pivot_of pivot items) [
      | None ↦ left_as_is keyspace key items (Int (negsuc 0))
      | Some place ↦ lengthened keyspace key (inserted side pivot item items)
    ]

abbrev pub linsert : Keyspace → ℕ → List Bytes → Effect
linsert keyspace database words =
    performed keyspace (insert_request words) (λ request.
    performed keyspace (items_at keyspace database request.name) (insert_at keyspace (key_of database request.name) request.side request.pivot request.item))

-- LREM key count item: as many of this one go as the count takes; how many there were
pub record RemoveRequest : Type 0 where
  pub name : Bytes
  pub count : ℤ
  pub item : Bytes

abbrev pub remove_request : List Bytes → Read RemoveRequest
remove_request words =
    read_then (three_words words) (λ word. read_then (integer word.1) (λ count. Ok (record { name = word.0; count = count; item = word.2 })))

abbrev pub shortened : Keyspace → Key → ℕ → List Bytes → Effect
shortened keyspace key zero items = left_as_is keyspace key items (Int (pos 0))
shortened keyspace key (suc n) items = relisted keyspace key items (Int (pos (suc n)))

abbrev pub remove_at : Keyspace → Key → ℤ → Bytes → Option (List Bytes) → Effect
remove_at keyspace key count item None = unchanged keyspace (Int (pos 0))
remove_at keyspace key count item (Some items) = let left = removed count item items in shortened keyspace key (length items - length left) left

abbrev pub lrem : Keyspace → ℕ → List Bytes → Effect
lrem keyspace database words =
    performed keyspace (remove_request words) (λ request.
    performed keyspace (items_at keyspace database request.name) (remove_at keyspace (key_of database request.name) request.count request.item))

-- LMOVE source destination LEFT | RIGHT LEFT | RIGHT: an item goes from an end of one list to an end of another, or of the same
abbrev pub end_of_word : Bytes → Read End
end_of_word word = if is_word (codes "left") word then Ok Left else if is_word (codes "right") word then Ok Right else fault Syntax

pub record MoveRequest : Type 0 where
  pub source : Bytes
  pub target : Bytes
  pub from : End
  pub to : End

abbrev pub move_request : List Bytes → Read MoveRequest
move_request [] = fault Syntax
move_request (source ∷ []) = fault Syntax
move_request (source ∷ target ∷ words) =
    read_then (two_words words) (λ pair.
    read_then (end_of_word pair.0) (λ from. read_then (end_of_word pair.1) (λ to. Ok (record { source = source; target = target; from = from; to = to }))))

-- of one list, the item goes from one end to the other, or back
abbrev pub rotated : Keyspace → Key → End → End → Option (List Bytes) → Effect
rotated keyspace key from to None = unchanged keyspace NullBulk
rotated keyspace key from to (Some items) =
    elim (item_at (index_of from) items) [
      | None ↦ left_as_is keyspace key items NullBulk
      | Some item ↦ relisted keyspace key (pushed to item (popped from items)) (Bulk item)
    ]

-- of two, it leaves one and is put where the other is
abbrev pub carried_to : Keyspace → ℕ → MoveRequest → List Bytes → Bytes → List Bytes → Effect
carried_to keyspace database request items item others =
    let source = key_of database request.source in
    let target = key_of database request.target in
    record {
      reply = Bulk item;
      keyspace = kept_under (kept_under keyspace source (Items (popped request.from items))) target (Items (pushed request.to item others));
      touched = source ∷ target ∷ [];
    }

abbrev pub carried : Keyspace → ℕ → MoveRequest → Option (List Bytes) → Effect
carried keyspace database request None = unchanged keyspace NullBulk
carried keyspace database request (Some items) =
    elim (item_at (index_of request.from) items) [
      | None ↦ unchanged keyspace NullBulk
      | Some item ↦ performed keyspace (items_at keyspace database request.target) (λ others. carried_to keyspace database request items item (or_no_items others))
    ]

abbrev pub moved_item : Keyspace → ℕ → MoveRequest → Effect
moved_item keyspace database request =
    let held = items_at keyspace database request.source in
    if bytes_eq request.source request.target then performed keyspace held (rotated keyspace (key_of database request.source) request.from request.to)
    else performed keyspace held (carried keyspace database request)

abbrev pub lmove : Keyspace → ℕ → List Bytes → Effect
lmove keyspace database words = performed keyspace (move_request words) (moved_item keyspace database)

-- RPOPLPUSH source destination: from the right of one to the left of the other
abbrev pub rpoplpush : Keyspace → ℕ → List Bytes → Effect
rpoplpush keyspace database words =
    performed keyspace (two_words words) (λ pair. moved_item keyspace database (record { source = pair.0; target = pair.1; from = Right; to = Left }))

-- LMPOP numkeys key [key ..] LEFT | RIGHT [COUNT count]: items of the first key that is there, with its name
abbrev pub count_option : ℕ → Bytes → OptionWord ℕ
count_option count word = if is_word (codes "count") word then Valued (positive CountNotPositive) else Unknown

pub record MPopRequest : Type 0 where
  pub names : List Bytes
  pub end : End
  pub count : ℕ

abbrev pub mpop_from : List Bytes → List Bytes → Read MPopRequest
mpop_from names [] = fault Syntax
mpop_from names (word ∷ words) =
    read_then (end_of_word word) (λ end. read_then (read_options count_option 1 words) (λ count. Ok (record { names = names; end = end; count = count })))

abbrev pub mpop_names : List Bytes → ℕ → Read MPopRequest
mpop_names words n = if nat_lt (length words) n then fault Syntax else mpop_from (take n words) (drop n words)

abbrev pub mpop_request : List Bytes → Read MPopRequest
mpop_request [] = fault Syntax
mpop_request (number ∷ words) = read_then (positive KeyCount number) (mpop_names words)

abbrev pub mpop_at : Keyspace → Key → MPopRequest → Bytes → Option (List Bytes) → Effect
mpop_at keyspace key request name None = unchanged keyspace NullArray
mpop_at keyspace key request name (Some items) =
    taken keyspace key request.end request.count items (array (Bulk name ∷ bulks (first_items request.end request.count items) ∷ []))

abbrev pub first_there : Keyspace → ℕ → List Bytes → Option Bytes
first_there keyspace database names = find (λ name. finmap.contains_key keyspace (key_of database name)) names

abbrev pub mpop_first : Keyspace → ℕ → MPopRequest → Option Bytes → Effect
mpop_first keyspace database request None = unchanged keyspace NullArray
mpop_first keyspace database request (Some name) =
    performed keyspace (items_at keyspace database name) (mpop_at keyspace (key_of database name) request name)

abbrev pub lmpop : Keyspace → ℕ → List Bytes → Effect
lmpop keyspace database words =
    performed keyspace (mpop_request words) (λ request. mpop_first keyspace database request (first_there keyspace database request.names))

-- a command that only looks; the arguments are the words behind the name
abbrev pub look : ListsLook → ℕ → Keyspace → ℕ → List Bytes → Reply
look looks.LLen now keyspace database arguments = llen keyspace database arguments
look looks.LRange now keyspace database arguments = lrange keyspace database arguments
look looks.LIndex now keyspace database arguments = lindex keyspace database arguments
look looks.LPos now keyspace database arguments = lpos keyspace database arguments

-- a command that may change the keyspace
abbrev pub change : ListsChange → ℕ → Keyspace → ℕ → List Bytes → Effect
change (changes.Push end) now keyspace database arguments = push end keyspace database arguments
change (changes.PushX end) now keyspace database arguments = push_x end keyspace database arguments
change (changes.Pop end) now keyspace database arguments = pop end keyspace database arguments
change changes.LSet now keyspace database arguments = lset keyspace database arguments
change changes.LTrim now keyspace database arguments = ltrim keyspace database arguments
change changes.LInsert now keyspace database arguments = linsert keyspace database arguments
change changes.LRem now keyspace database arguments = lrem keyspace database arguments
change changes.LMove now keyspace database arguments = lmove keyspace database arguments
change changes.RPopLPush now keyspace database arguments = rpoplpush keyspace database arguments
change changes.LMPop now keyspace database arguments = lmpop keyspace database arguments
