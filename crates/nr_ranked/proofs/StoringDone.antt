-- What a command does that joins keys and stores what comes out.
use Rattle.std.proofs.Common.{◌≡◌, ℕ, ℤ, Bool, true, false, List, refl, ap, sym, ◌∙◌, subst}
use Rattle.std.specs.Prelude.{Result, Ok, Err, IfOk, IfErr, if◌then◌else◌, fold}
use Rattle.std.specs.FinMap as finmap
use Rattle.std.specs.Result.{IsErr}
use Rattle.std.proofs.lemmas.Option.{IfSome_then}
use Rattle.nr_model.specs.Bytes.{Bytes}
use Rattle.nr_model.specs.Replies.{Reply}
use Rattle.nr_model.specs.Keyspace.{Key, key_of, Keyspace}
use Rattle.nr_model.specs.SortedSets.{Scores, weighted, joined, gathered, are_scores}
use Rattle.nr_model.specs.Commands.Shape.{Effect, refusal, refused, unchanged, performed, staying}
use Rattle.nr_model.specs.Commands.Reading.{Read, fault, read_then}
use Rattle.nr_model.specs.Commands.SortedSets.{StoreRequest, store_request, sources_at, stored, join_store}
use Rattle.nr_model.specs.declared.refused.Refused.TheVariants.{ScoreRange}
use Rattle.nr_model.specs.declared.command.Aggregate.{Aggregate}
use Rattle.nr_model.specs.declared.command.Joining.{Joining}
use Rattle.nr_resp.specs.declared.reply.Reply as code
use Rattle.nr_resp.specs.declared.failure.Failure.{Failure}
use Rattle.nr_resp.specs.Failures.{answer_to, IfRefused}
use Rattle.nr_resp.specs.Done.{IsDone, Performs}
use Rattle.nr_ranked.specs.Storing.{judged, joined_at}
use Rattle.nr_ranked.specs.Sums.{kept_in}
use Rattle.nr_ranked.proofs.StoringSums.{joined_is}

-- what comes out, by the sums

module _ (joining : Joining) (aggregate : Aggregate) (read : Read (List Scores)) (sources : List Scores) (weights : List ℤ) (sums : Scores)
    (at : read ≡ Ok sources) (summed : sums ≡ fold (gathered aggregate) finmap.empty (weighted sources weights)) where
  by_sums : (b : Bool) → are_scores (kept_in joining sources sums) ≡ b
      → read_then read (λ sources. judged (joined joining aggregate (weighted sources weights))) ≡ (if b then Ok (kept_in joining sources sums) else fault ScoreRange)
  by_sums b is =
      let from : Read (List Scores) → Read Scores = λ read. read_then read (λ sources. judged (joined joining aggregate (weighted sources weights))) in
      ap from at
      ∙ ap judged (joined_is joining aggregate sources weights ∙ ap (kept_in joining sources) (sym summed))
      ∙ ap (λ (b : Bool). let r : Read Scores = if b then Ok (kept_in joining sources sums) else fault ScoreRange in r) is

  pub read_joined : (zset : Scores) → zset ≡ kept_in joining sources sums → are_scores zset ≡ true
      → read_then read (λ sources. judged (joined joining aggregate (weighted sources weights))) ≡ Ok zset
  read_joined zset is right = by_sums true (ap are_scores (sym is) ∙ right) ∙ ap (λ (scores : Scores). Ok scores) (sym is)

  pub read_refused : (error : Reply) → error ≡ refusal ScoreRange → are_scores (kept_in joining sources sums) ≡ false
      → read_then read (λ sources. judged (joined joining aggregate (weighted sources weights))) ≡ Err error
  read_refused error is wrong = by_sums false wrong ∙ ap (λ (error : Reply). Err error) (sym is)

pub both_ok : {A E : Type 0} (P Q R : A → Type 0) (r : Result A E) → ((a : A) → P a → Q a → R a) → IfOk r P → IfOk r Q → IfOk r R
both_ok P Q R (Ok a) all p q = all a p q
both_ok P Q R (Err e) all p q = tt

-- and what is done with it

judged_first : (keyspace : Keyspace) (key : Key) (scores : Scores) (b : Bool)
    → (if b then stored keyspace key scores else refused keyspace ScoreRange)
    ≡ performed keyspace (let r : Read Scores = if b then Ok scores else fault ScoreRange in r) (stored keyspace key)
judged_first keyspace key scores true = refl
judged_first keyspace key scores false = refl

abbrev stored_from : Joining → Aggregate → List ℤ → Keyspace → Key → Read (List Scores) → Effect
stored_from joining aggregate weights keyspace key read = performed keyspace read (λ sources.
    let scores = joined joining aggregate (weighted sources weights) in
    if are_scores scores then stored keyspace key scores else refused keyspace ScoreRange)

from_joined : (joining : Joining) (aggregate : Aggregate) (weights : List ℤ) (keyspace : Keyspace) (key : Key) (read : Read (List Scores))
    → stored_from joining aggregate weights keyspace key read
    ≡ performed keyspace (read_then read (λ sources. judged (joined joining aggregate (weighted sources weights)))) (stored keyspace key)
from_joined joining aggregate weights keyspace key (Ok sources) =
    let scores = joined joining aggregate (weighted sources weights) in judged_first keyspace key scores (are_scores scores)
from_joined joining aggregate weights keyspace key (Err error) = refl

stored_as : (joining : Joining) (keyspace : Keyspace) (database : ℕ) (words : List Bytes) (request : StoreRequest) → store_request words ≡ Ok request
    → join_store joining keyspace database words ≡ performed keyspace (joined_at joining keyspace database request) (stored keyspace (key_of database request.target))
stored_as joining keyspace database words request read =
    ap (λ (read : Read StoreRequest). performed keyspace read (λ request.
    stored_from joining request.options.aggregate request.options.weights keyspace (key_of database request.target) (sources_at keyspace database request.names))) read
    ∙ from_joined joining request.options.aggregate request.options.weights keyspace (key_of database request.target) (sources_at keyspace database request.names)

-- with a sorted set that came out
pub joined_stored : {T : Type 0} (after : T → Key → T) (joining : Joining) (old new seen : Keyspace) (database : ℕ) (words : List Bytes) (request : StoreRequest) (zset : Scores)
    (told told' : T) (reply : Reply) → seen ≡ old → store_request words ≡ Ok request → joined_at joining seen database request ≡ Ok zset
    → IsDone after reply new database told told' (staying database (stored old (key_of database request.target) zset))
    → IsDone after reply new database told told' (staying database (join_store joining old database words))
joined_stored after joining old new seen database words request zset told told' reply swept read is done =
    let whole : join_store joining old database words ≡ stored old (key_of database request.target) zset =
    stored_as joining old database words request read
    ∙ ap (λ (r : Read Scores). performed old r (stored old (key_of database request.target))) (ap (λ (m : Keyspace). joined_at joining m database request) (sym swept) ∙ is) in
    subst (λ (e : Effect). IsDone after reply new database told told' (staying database e)) (sym whole) done

-- and where it is refused
pub not_joined : {T : Type 0} (after : T → Key → T) (joining : Joining) (old seen : Keyspace) (database : ℕ) (words : List Bytes) (request : StoreRequest) (told : T)
    (r : Result code.Reply Failure) → seen ≡ old → store_request words ≡ Ok request → IsErr r
    → IfErr r (λ failure. IfRefused failure (λ error. joined_at joining seen database request ≡ Err error))
    → Performs after r old database told told (staying database (join_store joining old database words))
not_joined after joining old seen database words request told (Ok reply) swept read fails refuses = absurd (cc fails)
not_joined after joining old seen database words request told (Err failure) swept read fails refuses =
    IfSome_then (answer_to failure) refuses (λ error is.
    let whole : join_store joining old database words ≡ unchanged old error =
    stored_as joining old database words request read
    ∙ ap (λ (r : Read Scores). performed old r (stored old (key_of database request.target))) (ap (λ (m : Keyspace). joined_at joining m database request) (sym swept) ∙ is) in
    subst (λ (e : Effect). IsDone after error old database told told (staying database e)) (sym whole)
    (record { replied = refl; left = refl; selected = refl; touched = refl }))
