-- Databases emptied, and who is told of it.
use Rattle.std.proofs.Common.{◌≡◌, ℕ, ◌+◌, Bool, true, false, not, cond, eqb, List, ap, sym, refl, ◌∙◌, subst, add-one}
use Rattle.std.specs.Prelude.{fold, Option, None, Ok, ⊤}
use Rattle.std.specs.FinMap as map
use Rattle.nr_model.specs.Bytes.{Bytes}
use Rattle.nr_model.specs.Keyspace.{Key, Keyspace, live}
use Rattle.nr_model.specs.Commands.Shape.{staying, performed}
use Rattle.nr_model.specs.Commands.Reading.{Read}
use Rattle.nr_model.specs.Commands.Server.{named_in, named_below, flush_words, flush_db}
use Rattle.nr_model.specs.Commands.Texts.{ok}
use Rattle.nr_model.proofs.Live.{key_total}
use Rattle.nr_keyspace.proofs.Orders.{key_exact}
use Rattle.nr_resp.specs.Done.{IsDone}
use Rattle.std.proofs.lemmas.List.Sums.{fold-append}

kept : {A : Type 0} (b : Bool) (o : Option A) → cond b None o ≡ cond (not b) o None
kept true o = refl
kept false o = refl

-- nothing is left at a database's keys, and every other key stays
pub cleared : (old new : Keyspace) (database : ℕ) → ((key : Key) → map.get new key ≡ cond (eqb key.database database) None (map.get old key))
    → new ≡ map.retain_keys old (λ key. not (eqb key.database database))
cleared old new database is = map.same_map key_total key_exact _ _ (λ key.
    let stays : Key → Bool = λ k. not (eqb k.database database) in
    is key ∙ kept (eqb key.database database) (map.get old key)
    ∙ sym (map.get-retain_keys old stays key (λ x tied. ap stays (sym (key_exact key x tied)))))

pub flushed : {T : Type 0} (after : T → Key → T) (old new : Keyspace) (now database : ℕ) (told told' : T) (words : List Bytes)
    → live old now ≡ old → flush_words words ≡ Ok tt
    → told' ≡ fold after told (named_in (live old now) database database)
    → ((key : Key) → map.get new key ≡ cond (eqb key.database database) None (map.get old key))
    → IsDone after ok new database told told' (staying database (flush_db old database words))
flushed after old new now database told told' words all read touched empty =
    subst (λ (r : Read ⊤). IsDone after ok new database told told' (staying database (performed old r (λ _. record {
      reply = ok;
      keyspace = map.retain_keys old (λ key. not (eqb key.database database));
      touched = named_in old database database;
    })))) (sym read) (record {
      replied = refl;
      left = cleared old new database empty;
      selected = refl;
      touched = touched ∙ ap (λ keyspace. fold after told (named_in keyspace database database)) all;
    })

-- one database more
pub told_below : {T : Type 0} (after : T → Key → T) (told told' told'' : T) (keyspace : Keyspace) (database next : ℕ)
    → told' ≡ fold after told (named_below keyspace database) → next ≡ database → told'' ≡ fold after told' (named_in keyspace next next)
    → told'' ≡ fold after told (named_below keyspace (database + 1))
told_below after told told' told'' keyspace database next so_far is more =
    more ∙ ap (λ (d : ℕ). fold after told' (named_in keyspace d d)) is
    ∙ ap (λ t. fold after t (named_in keyspace database database)) so_far
    ∙ sym (fold-append after told (named_below keyspace database) (named_in keyspace database database))
    ∙ ap (λ n. fold after told (named_below keyspace n)) (sym (add-one database))
