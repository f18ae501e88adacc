-- A key that is given another deadline.
use Rattle.std.proofs.Common.{◌≡◌, ℕ, ℤ, Bool, true, false, cond, ◌&&◌, [], ◌∷◌, refl, ap, ◌∙◌}
use Rattle.std.specs.Prelude.{Option, Some, None, Result, Ok, is_some}
use Rattle.std.specs.FinMap as map
use Rattle.nr_model.specs.Bytes.{Bytes}
use Rattle.nr_model.specs.Replies.{Reply, Bulk}
use Rattle.nr_model.specs.Keyspace.{Key, Keyspace, Stored, Value, Text, Items, Fields, Members, Scores}
use Rattle.nr_model.specs.Commands.Shape.{Effect, unchanged}
use Rattle.nr_model.specs.Commands.Strings.{GetExOptions, text_held, bulk_or_null, re_expired, get_ex_at, plain}
use Rattle.nr_key_commands.specs.Expired.{deadline_given, given_to, re_expired_at, touched_by}

-- GETEX of a key in these words
abbrev pub told_and_given : ℕ → Keyspace → Key → Option Stored → Option Bytes → Option (Option ℤ) → Effect
told_and_given now m key held text given = record { reply = bulk_or_null text; keyspace = re_expired_at now m key held given; touched = touched_by key given }

persisted : (now : ℕ) (m : Keyspace) (key : Key) (text : Bytes) (deadline : Option ℤ) (b : Bool)
    → cond b (record { reply = Bulk text; keyspace = map.insert m key (plain text); touched = key ∷ [] }) (unchanged m (Bulk text))
    ≡ told_and_given now m key (Some (record { value = Text text; deadline = deadline })) (Some text) (cond b (Some None) None)
persisted now m key text deadline true = refl
persisted now m key text deadline false = refl

given_text : (now : ℕ) (m : Keyspace) (key : Key) (persist : Bool) (times : ℕ) (given : Option ℤ) (text : Bytes) (deadline : Option ℤ)
    → let options : GetExOptions = record { persist = persist; times = times; deadline = given } in
    re_expired now m key options text deadline ≡ told_and_given now m key (Some (record { value = Text text; deadline = deadline })) (Some text) (deadline_given options deadline)
given_text now m key persist times (Some given) text deadline = refl
given_text now m key persist times None text deadline = persisted now m key text deadline (persist && is_some deadline)

ok_same : {x y : Option Bytes} → ◌≡◌ {A = Result (Option Bytes) Reply} (Ok x) (Ok y) → x ≡ y
ok_same is = cc is

given_value : (now : ℕ) (m : Keyspace) (key : Key) (options : GetExOptions) (value : Value) (deadline : Option ℤ) (text : Option Bytes)
    → text_held (Some (record { value = value; deadline = deadline })) ≡ Ok text
    → get_ex_at now m key options (Some (record { value = value; deadline = deadline }))
    ≡ told_and_given now m key (Some (record { value = value; deadline = deadline })) text (deadline_given options deadline)
given_value now m key options (Text held) deadline text is =
    given_text now m key options.persist options.times options.deadline held deadline
    ∙ ap (λ t. told_and_given now m key (Some (record { value = Text held; deadline = deadline })) t (deadline_given options deadline)) (ok_same is)
given_value now m key options (Items items) deadline text is = absurd (cc is)
given_value now m key options (Fields fields) deadline text is = absurd (cc is)
given_value now m key options (Members members) deadline text is = absurd (cc is)
given_value now m key options (Scores scores) deadline text is = absurd (cc is)

-- where it holds a string, or isn't there
pub get_ex_given : (now : ℕ) (m : Keyspace) (key : Key) (options : GetExOptions) (held : Option Stored) (text : Option Bytes) → text_held held ≡ Ok text
    → get_ex_at now m key options held ≡ told_and_given now m key held text (given_to options held)
get_ex_given now m key options None text is = ap (λ t. told_and_given now m key None t None) (ok_same is)
get_ex_given now m key options (Some stored) text is = given_value now m key options stored.value stored.deadline text is
