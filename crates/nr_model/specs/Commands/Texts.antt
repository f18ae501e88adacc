-- Texts of replies that several commands share.
use Rattle.std.specs.Prelude.{◌++◌, codes}
use Rattle.nr_model.specs.Bytes.{Bytes, quoted}
use Rattle.nr_model.specs.Replies.{Reply, Simple}
use Rattle.nr_model.specs.declared.refused.Refused.{Refused}
use Rattle.nr_model.specs.declared.refused.Refused.TheVariants as refusals
use Rattle.nr_model.specs.declared.command.End.{End}
use Rattle.nr_model.specs.declared.command.End.TheVariants.{Left, Right}
use Rattle.nr_model.specs.declared.refused.Expiring.{Expiring}
use Rattle.nr_model.specs.declared.refused.Expiring.TheVariants as expiring

-- `+OK`
abbrev pub ok : Reply
ok = Simple (codes "OK")

-- a key holds a value of another kind (Redis)
abbrev pub wrong_type : Bytes
wrong_type = codes "WRONGTYPE Operation against a key holding the wrong kind of value"

-- surplus, unknown or missing words (Redis)
abbrev pub syntax_error : Bytes
syntax_error = codes "ERR syntax error"

-- a word that is no integer's text (Redis)
abbrev pub not_an_integer : Bytes
not_an_integer = codes "ERR value is not an integer or out of range"

-- a number that is no database's (Redis)
abbrev pub no_such_database : Bytes
no_such_database = codes "ERR DB index is out of range"

-- too few or too many words; the name is in lower case (Redis)
abbrev pub wrong_arity : Bytes → Bytes
wrong_arity name = codes "ERR wrong number of arguments for '" ++ name ++ codes "' command"

-- a name of no command (own wording)
abbrev pub unknown_command : Bytes → Bytes
unknown_command word = codes "ERR unknown command '" ++ quoted word ++ codes "'"

-- an option of no meaning to EXPIRE and its like (Redis; quoted as unknown commands are)
abbrev pub unsupported_option : Bytes → Bytes
unsupported_option word = codes "ERR Unsupported option " ++ quoted word

-- a deadline that the command doesn't take (Redis)
abbrev pub invalid_expire_time : Bytes → Bytes
invalid_expire_time name = codes "ERR invalid expire time in '" ++ name ++ codes "' command"

abbrev pub expiring_name : Expiring → Bytes
expiring_name expiring.Set = codes "set"
expiring_name expiring.SetEx = codes "setex"
expiring_name expiring.PSetEx = codes "psetex"
expiring_name expiring.GetEx = codes "getex"
expiring_name expiring.Expire = codes "expire"
expiring_name expiring.PExpire = codes "pexpire"
expiring_name expiring.ExpireAt = codes "expireat"
expiring_name expiring.PExpireAt = codes "pexpireat"

abbrev pub pop_name : End → Bytes
pop_name Left = codes "lpop"
pop_name Right = codes "rpop"

-- the text of each refusal (Redis, but for OptionsConflict and TooLong, which are shorter, and CountNotPositive, RankZero, Negative and ScoreRange; which one a fault has is own)
abbrev pub refusal_text : Refused → Bytes
refusal_text refusals.Syntax = syntax_error
refusal_text refusals.NotAnInteger = not_an_integer
refusal_text refusals.NoSuchDatabase = no_such_database
refusal_text refusals.FirstDatabase = codes "ERR invalid first DB index"
refusal_text refusals.SecondDatabase = codes "ERR invalid second DB index"
refusal_text refusals.PingArity = wrong_arity (codes "ping")
refusal_text refusals.MSetArity = wrong_arity (codes "mset")
refusal_text refusals.MSetNxArity = wrong_arity (codes "msetnx")
refusal_text refusals.WrongType = wrong_type
refusal_text refusals.NoSuchKey = codes "ERR no such key"
refusal_text refusals.SameObject = codes "ERR source and destination objects are the same"
refusal_text refusals.OptionsConflict = codes "ERR options are not compatible"
refusal_text (refusals.ExpireTime name) = invalid_expire_time (expiring_name name)
refusal_text refusals.Overflow = codes "ERR increment or decrement would overflow"
refusal_text refusals.DecrementOverflow = codes "ERR decrement would overflow"
refusal_text refusals.OffsetOutOfRange = codes "ERR offset is out of range"
refusal_text refusals.TooLong = codes "ERR string exceeds maximum allowed size"
refusal_text refusals.BitOffset = codes "ERR bit offset is not an integer or out of range"
refusal_text refusals.BitValue = codes "ERR bit is not an integer or out of range"
refusal_text refusals.NotOfSeveral = codes "ERR BITOP NOT must be called with a single source key."
refusal_text refusals.IndexOutOfRange = codes "ERR index out of range"
refusal_text refusals.NotPositive = codes "ERR value is out of range, must be positive"
refusal_text (refusals.PopArity end) = wrong_arity (pop_name end)
refusal_text refusals.KeyCount = codes "ERR numkeys should be greater than 0"
refusal_text refusals.TooManyKeys = codes "ERR Number of keys can't be greater than number of args"
refusal_text refusals.CountNotPositive = codes "ERR count should be greater than 0"
refusal_text refusals.RankZero = codes "ERR RANK can't be zero"
refusal_text refusals.Negative = codes "ERR negative value not allowed"
refusal_text refusals.HashNotAnInteger = codes "ERR hash value is not an integer"
refusal_text refusals.HSetArity = wrong_arity (codes "hset")
refusal_text refusals.HMSetArity = wrong_arity (codes "hmset")
refusal_text refusals.NotAFloat = codes "ERR value is not a valid float"
refusal_text refusals.ScoreRange = codes "ERR resulting score is out of range"
refusal_text refusals.ScoreBound = codes "ERR min or max is not a float"
refusal_text refusals.MemberBound = codes "ERR min or max not valid string range item"
refusal_text refusals.LimitByPlaces = codes "ERR syntax error, LIMIT is only supported in combination with either BYSCORE or BYLEX"
refusal_text refusals.ScoresByMembers = codes "ERR syntax error, WITHSCORES not supported in combination with BYLEX"
