-- What HSET and HMSET differ in.
use Rattle.std.specs.Prelude.{ℤ}
use Rattle.nr_model.specs.Replies.{Reply, Int}
use Rattle.nr_model.specs.Commands.Texts.{ok}
use Rattle.nr_model.specs.declared.refused.Refused.{Refused}
use Rattle.nr_model.specs.declared.refused.Refused.TheVariants.{HSetArity, HMSetArity}
use Rattle.nr_members.specs.declared.hashes.setting.Setting.{Setting}
use Rattle.nr_members.specs.declared.hashes.setting.Setting.TheVariants.{Counted, Plain}

-- why an odd number of words is refused
abbrev pub odd_words : Setting → Refused
odd_words Counted = HSetArity
odd_words Plain = HMSetArity

-- the reply where so many fields are new
abbrev pub set_reply : Setting → ℤ → Reply
set_reply Counted added = Int added
set_reply Plain added = ok
