-- Sets (Redis command reference, set; the order of members and of faults own).
use Rattle.std.specs.Prelude.{ℕ, zero, suc, ◌-◌, ◌==◌, nat_lt, Bool, true, false, not, if◌then◌else◌, List, [], ◌∷◌, length, map, take, drop, fold, Option, Some, None, Ok, ℤ, pos, negsuc, bytes_eq, codes}
use Rattle.std.specs.FinMap as finmap
use Rattle.std.specs.FinSet as set
use Rattle.nr_model.specs.Bytes.{Bytes}
use Rattle.nr_model.specs.Numbers.{int_value}
use Rattle.nr_model.specs.Replies.{Reply, Int, Bulk, array}
use Rattle.nr_model.specs.Lists.{limited}
use Rattle.nr_model.specs.Sets.{Members, listed, intersection_of, union_of, difference_of}
use Rattle.nr_model.specs.Keyspace as keyspaces
use Rattle.nr_model.specs.Keyspace.{Key, key_of, Keyspace}
use Rattle.nr_model.specs.Commands.Shape.{Effect, unchanged, refusal, refused, answered, performed}
use Rattle.nr_model.specs.Commands.Reading.{Read, fault, read_then, one_word, two_words, three_words, integer_or, OptionWord, Unknown, Valued, read_options, is_word}
use Rattle.nr_model.specs.Commands.Held.{members_at, kept_under}
use Rattle.nr_model.specs.declared.command.Combination.{Combination}
use Rattle.nr_model.specs.declared.command.Combination.TheVariants.{Intersection, Union, Difference}
use Rattle.nr_model.specs.declared.refused.Refused.TheVariants.{Syntax, KeyCount, TooManyKeys, Negative}
use Rattle.nr_model.specs.declared.command.SetsLook.{SetsLook}
use Rattle.nr_model.specs.declared.command.SetsLook.TheVariants as looks
use Rattle.nr_model.specs.declared.command.SetsChange.{SetsChange}
use Rattle.nr_model.specs.declared.command.SetsChange.TheVariants as changes

-- A missing key reads as the empty set
abbrev pub or_none : Option Members → Members
or_none None = set.empty
or_none (Some members) = members

-- 1 for a member
abbrev pub membership : Bool → Reply
membership true = Int (pos 1)
membership false = Int (pos 0)

-- SISMEMBER key member
abbrev pub is_member : Keyspace → ℕ → List Bytes → Reply
is_member keyspace database words =
    answered (two_words words) (λ pair.
    answered (members_at keyspace database pair.0) (λ held. membership (set.contains (or_none held) pair.1)))

-- SMISMEMBER key member [member ..]: each by itself
abbrev pub are_members : Keyspace → ℕ → List Bytes → Reply
are_members keyspace database [] = refusal Syntax
are_members keyspace database (name ∷ words) =
    answered (members_at keyspace database name) (λ held. array (map (λ word. membership (set.contains (or_none held) word)) words))

-- SCARD key: how many members it has
abbrev pub card : Keyspace → ℕ → List Bytes → Reply
card keyspace database words =
    answered (one_word words) (λ name. answered (members_at keyspace database name) (λ held. Int (pos (set.len (or_none held)))))

-- members as an array, in byte order
abbrev pub listing : Members → Reply
listing members = array (map Bulk (listed members))

-- SMEMBERS key
abbrev pub members : Keyspace → ℕ → List Bytes → Reply
members keyspace database words =
    answered (one_word words) (λ name. answered (members_at keyspace database name) (λ held. listing (or_none held)))

-- what several keys hold as sets, the kinds of all being looked at
abbrev pub sets_at : Keyspace → ℕ → List Bytes → Read (List Members)
sets_at keyspace database [] = Ok []
sets_at keyspace database (name ∷ names) =
    read_then (members_at keyspace database name) (λ held. read_then (sets_at keyspace database names) (λ sets. Ok (or_none held ∷ sets)))

-- several sets as one
abbrev pub combined : Combination → List Members → Members
combined Intersection sets = intersection_of sets
combined Union sets = union_of sets
combined Difference sets = difference_of sets

-- SINTER key [key ..], SUNION key [key ..], SDIFF key [key ..]
abbrev pub combine : Combination → Keyspace → ℕ → List Bytes → Reply
combine combination keyspace database names = answered (sets_at keyspace database names) (λ sets. listing (combined combination sets))

-- how many keys follow: at least one, and no more than there are words
abbrev pub key_count_of : ℕ → ℤ → Read ℕ
key_count_of words (negsuc n) = fault KeyCount
key_count_of words (pos n) = if n == 0 then fault KeyCount else if nat_lt words n then fault TooManyKeys else Ok n

abbrev pub key_count : ℕ → Bytes → Read ℕ
key_count words word = read_then (integer_or KeyCount (int_value word)) (key_count_of words)

-- LIMIT, 0 being none
abbrev pub limit_of : ℤ → Read ℕ
limit_of (negsuc n) = fault Negative
limit_of (pos n) = Ok n

abbrev pub limit_option : ℕ → Bytes → OptionWord ℕ
limit_option limit word =
    if is_word (codes "limit") word then Valued (λ value. read_then (integer_or Negative (int_value value)) limit_of) else Unknown

-- SINTERCARD numkeys key [key ..] [LIMIT limit]: how many members all have
pub record InterCardRequest : Type 0 where
  pub names : List Bytes
  pub limit : ℕ

abbrev pub inter_card_request : List Bytes → Read InterCardRequest
inter_card_request [] = fault Syntax
inter_card_request (number ∷ words) =
    read_then (key_count (length words) number) (λ count.
    read_then (read_options limit_option 0 (drop count words)) (λ limit.
    Ok (record { names = take count words; limit = limit })))

abbrev pub inter_card : Keyspace → ℕ → List Bytes → Reply
inter_card keyspace database words =
    answered (inter_card_request words) (λ request.
    answered (sets_at keyspace database request.names) (λ sets. Int (pos (length (limited request.limit (listed (intersection_of sets)))))))

-- a key is touched where so many of its members are new or gone
abbrev pub touched_by : Key → ℕ → List Key
touched_by key zero = []
touched_by key (suc n) = key ∷ []

-- what becomes of a key whose members are these from now on, so many of them new or gone: its deadline stays, and with none left it is no key
abbrev pub changed : Keyspace → Key → Members → ℕ → Effect
changed keyspace key members count =
    record { reply = Int (pos count); keyspace = kept_under keyspace key (keyspaces.Members members); touched = touched_by key count }

-- with more members, and without some
abbrev pub with_each : Members → List Bytes → Members
with_each members words = fold set.insert members words

abbrev pub without_each : Members → List Bytes → Members
without_each members words = fold set.remove members words

-- SADD key member [member ..]: how many are new
abbrev pub added : Keyspace → Key → List Bytes → Option Members → Effect
added keyspace key words held =
    let more = with_each (or_none held) words in changed keyspace key more (set.len more - set.len (or_none held))

abbrev pub add : Keyspace → ℕ → List Bytes → Effect
add keyspace database [] = refused keyspace Syntax
add keyspace database (name ∷ words) = performed keyspace (members_at keyspace database name) (added keyspace (key_of database name) words)

-- SREM key member [member ..]: how many were there
abbrev pub removed : Keyspace → Key → List Bytes → Option Members → Effect
removed keyspace key words None = unchanged keyspace (Int (pos 0))
removed keyspace key words (Some members) =
    let left = without_each members words in changed keyspace key left (set.len members - set.len left)

abbrev pub remove : Keyspace → ℕ → List Bytes → Effect
remove keyspace database [] = refused keyspace Syntax
remove keyspace database (name ∷ words) = performed keyspace (members_at keyspace database name) (removed keyspace (key_of database name) words)

-- SMOVE source destination member: 1 where source had it; destination is touched where it is new there
abbrev pub carried : Keyspace → Key → Key → Members → Members → Bytes → Effect
carried keyspace source target members others member = record {
  reply = Int (pos 1);
  keyspace = kept_under (kept_under keyspace source (keyspaces.Members (set.remove members member))) target (keyspaces.Members (set.insert others member));
  touched = source ∷ (if set.contains others member then [] else target ∷ []);
}

-- to itself nothing moves
abbrev pub moved : Keyspace → Key → Key → Bool → Members → Members → Bytes → Effect
moved keyspace source target same members others member =
    if not (set.contains members member) then unchanged keyspace (Int (pos 0))
    else if same then unchanged keyspace (Int (pos 1))
    else carried keyspace source target members others member

-- where source is missing, what destination holds isn't looked at
abbrev pub moved_from : Keyspace → ℕ → Bytes → Bytes → Bytes → Option Members → Effect
moved_from keyspace database source target member None = unchanged keyspace (Int (pos 0))
moved_from keyspace database source target member (Some members) =
    performed keyspace (members_at keyspace database target) (λ held.
    moved keyspace (key_of database source) (key_of database target) (bytes_eq source target) members (or_none held) member)

abbrev pub move : Keyspace → ℕ → List Bytes → Effect
move keyspace database words =
    performed keyspace (three_words words) (λ word.
    performed keyspace (members_at keyspace database word.0) (moved_from keyspace database word.0 word.1 word.2))

-- a key that is gone from now on
abbrev pub cleared : Keyspace → Key → Effect
cleared keyspace key =
    if finmap.contains_key keyspace key then record { reply = Int (pos 0); keyspace = finmap.remove keyspace key; touched = key ∷ [] }
    else unchanged keyspace (Int (pos 0))

-- a key that holds these members alone from now on, with no deadline, whatever it held; with none it is no key
abbrev pub replaced_by : Keyspace → Key → Members → Effect
replaced_by keyspace key members =
    if set.len members == 0 then cleared keyspace key
    else record {
      reply = Int (pos (set.len members));
      keyspace = finmap.insert keyspace key (record { value = keyspaces.Members members; deadline = None });
      touched = key ∷ [];
    }

-- SINTERSTORE destination key [key ..], SUNIONSTORE destination key [key ..], SDIFFSTORE destination key [key ..]
abbrev pub combine_store : Combination → Keyspace → ℕ → List Bytes → Effect
combine_store combination keyspace database [] = refused keyspace Syntax
combine_store combination keyspace database (target ∷ names) =
    performed keyspace (sets_at keyspace database names) (λ sets. replaced_by keyspace (key_of database target) (combined combination sets))

-- a command that only looks; the arguments are the words behind the name
abbrev pub look : SetsLook → ℕ → Keyspace → ℕ → List Bytes → Reply
look looks.SIsMember now keyspace database arguments = is_member keyspace database arguments
look looks.SMIsMember now keyspace database arguments = are_members keyspace database arguments
look looks.SCard now keyspace database arguments = card keyspace database arguments
look looks.SMembers now keyspace database arguments = members keyspace database arguments
look (looks.Combine combination) now keyspace database arguments = combine combination keyspace database arguments
look looks.SInterCard now keyspace database arguments = inter_card keyspace database arguments

-- a command that may change the keyspace
abbrev pub change : SetsChange → ℕ → Keyspace → ℕ → List Bytes → Effect
change changes.SAdd now keyspace database arguments = add keyspace database arguments
change changes.SRem now keyspace database arguments = remove keyspace database arguments
change changes.SMove now keyspace database arguments = move keyspace database arguments
change (changes.CombineStore combination) now keyspace database arguments = combine_store combination keyspace database arguments
