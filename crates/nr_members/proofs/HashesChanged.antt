-- Commands on hashes that are refused once their words were read.
use Rattle.std.proofs.Common.{◌≡◌, ℕ, ℤ, List, ap, sym, subst}
use Rattle.std.specs.Prelude.{Result, Ok, Err, IfOk, IfErr, pos, ◌-ℤ◌}
use Rattle.std.specs.FinMap as map
use Rattle.std.specs.Fmt.{signed_decimal}
use Rattle.std.specs.Result.{IsErr, IsErrAnd}
use Rattle.nr_model.specs.Bytes.{Bytes}
use Rattle.nr_model.specs.Hashes.{Hash}
use Rattle.nr_model.specs.Replies.{Reply, Int}
use Rattle.nr_model.specs.Keyspace.{Key, key_of, Keyspace}
use Rattle.nr_model.specs.Commands.Shape.{Effect, performed, staying}
use Rattle.nr_model.specs.Commands.Reading.{Read, fault}
use Rattle.nr_model.specs.Commands.Hashes.{hash_at, holding, with_fields, SetRequest, set_request, set_fields, IncrementRequest, increment_request, sum_in, hincr_by}
use Rattle.nr_model.specs.declared.refused.Refused.{Refused}
use Rattle.nr_resp.specs.declared.reply.Reply as code
use Rattle.nr_resp.specs.declared.failure.Failure.{Failure}
use Rattle.nr_resp.specs.Failures.{IfRefused}
use Rattle.nr_resp.specs.Done.{Performs}
use Rattle.nr_members.specs.HashesEdited.{IsRefusedBy}
use Rattle.nr_members.proofs.HashesEdited.{ended}

-- fields that are set, and how many are new
abbrev pub sets : List Bytes → Hash → Hash → Result ℤ Refused → Type 0
sets pairs old new given = (given ≡ Ok (pos (map.len new) -ℤ pos (map.len old))) × (new ≡ with_fields old pairs)

abbrev set_by : (ℤ → Reply) → Keyspace → ℕ → SetRequest → Hash → Effect
set_by reply old database request fields =
    let set = with_fields fields request.pairs in
    holding old (key_of database request.name) set (reply (pos (map.len set) -ℤ pos (map.len fields)))

pub set_refused : {T : Type 0} (after : T → Key → T) (r : Result code.Reply Failure) (old new : Keyspace) (database : ℕ) (told : T) (odd : Refused) (reply : ℤ → Reply)
    (words : List Bytes) (name : Bytes) (pairs : List Bytes) (failure : Failure) → set_request odd words ≡ Ok (record { name = name; pairs = pairs })
    → IsErr r × IsErrAnd r (λ error. error ≡ failure) → IfRefused failure (λ error. (new ≡ old) × IsRefusedBy (sets pairs) (hash_at old database name) error)
    → Performs after r new database told told (staying database (set_fields odd reply old database words))
set_refused after r old new database told odd reply words name pairs failure read fails is =
    let request : SetRequest = record { name = name; pairs = pairs } in
    subst (λ (read : Read SetRequest).
    Performs after r new database told told
    (staying database (performed old read (λ request. performed old (hash_at old database request.name) (set_by reply old database request)))))
    (sym read)
    (ended (sets pairs) after r old new database told (set_by reply old database request) (hash_at old database name) failure
    (λ fields why refuses. absurd (let never : ◌≡◌ {A = Result ℤ Refused} (Err why) (Ok (pos (map.len fields) -ℤ pos (map.len fields))) = refuses.0 in cc never))
    fails is)

-- what is added to the number of a field
abbrev pub adds : Bytes → ℤ → Hash → Hash → Result ℤ Refused → Type 0
adds field by old new given =
    let sum = sum_in old field by in
    IfOk given (λ n. (sum ≡ Ok n) × (new ≡ map.insert old field (signed_decimal n))) × IfErr given (λ why. sum ≡ fault why)

abbrev add_by : Keyspace → ℕ → IncrementRequest → Hash → Effect
add_by old database request fields =
    performed old (sum_in fields request.field request.by) (λ sum.
    holding old (key_of database request.name) (map.insert fields request.field (signed_decimal sum)) (Int sum))

pub add_refused : {T : Type 0} (after : T → Key → T) (r : Result code.Reply Failure) (old new : Keyspace) (database : ℕ) (told : T)
    (words : List Bytes) (name field : Bytes) (by by' : ℤ) (failure : Failure) → by' ≡ by → increment_request words ≡ Ok (record { name = name; field = field; by = by })
    → IsErr r × IsErrAnd r (λ error. error ≡ failure) → IfRefused failure (λ error. (new ≡ old) × IsRefusedBy (adds field by') (hash_at old database name) error)
    → Performs after r new database told told (staying database (hincr_by old database words))
add_refused after r old new database told words name field by by' failure same read fails is =
    let request : IncrementRequest = record { name = name; field = field; by = by } in
    subst (λ (read : Read IncrementRequest).
    Performs after r new database told told
    (staying database (performed old read (λ request. performed old (hash_at old database request.name) (add_by old database request)))))
    (sym read)
    (ended (adds field by) after r old new database told (add_by old database request) (hash_at old database name) failure
    (λ fields why refuses.
    ap (λ (sum : Read ℤ). performed old sum (λ sum. holding old (key_of database name) (map.insert fields field (signed_decimal sum)) (Int sum))) refuses.1)
    fails (subst (λ (by : ℤ). IfRefused failure (λ error. (new ≡ old) × IsRefusedBy (adds field by) (hash_at old database name) error)) same is))
