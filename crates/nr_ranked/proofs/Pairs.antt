-- Scores in front of their members, pair by pair.
use Rattle.std.proofs.Common.{◌≡◌, ℕ, ℤ, List, [], ◌∷◌, ◌++◌, refl, ap, sym, ◌∙◌}
use Rattle.std.proofs.lemmas.List.{append_assoc, append-nil}
use Rattle.std.specs.Prelude.{Ok, Err}
use Rattle.nr_model.specs.Bytes.{Bytes}
use Rattle.nr_model.specs.Replies.{Reply}
use Rattle.nr_model.specs.SortedSets.{Scored}
use Rattle.nr_model.specs.Commands.Reading.{Read, fault, read_then}
use Rattle.nr_model.specs.Commands.Lists.{natural}
use Rattle.nr_model.specs.declared.refused.Refused.TheVariants.{NotPositive, Syntax}
use Rattle.nr_model.specs.Commands.SortedSets.{score, score_pairs, PopRequest, pop_request}
use Rattle.nr_ranked.specs.Reading.{with_first, with_front}

pub pair_read : (word member : Bytes) (behind : List Bytes) (s : ℤ) → score word ≡ Ok s → score_pairs (word ∷ member ∷ behind) ≡ with_first (member, s) (score_pairs behind)
pair_read word member behind s is = ap (λ (read : Read ℤ). read_then read (λ score. read_then (score_pairs behind) (λ pairs. Ok ((member, score) ∷ pairs)))) is

pub pair_refused : (word member : Bytes) (behind : List Bytes) (reply : Reply) → score word ≡ Err reply → score_pairs (word ∷ member ∷ behind) ≡ Err reply
pair_refused word member behind reply is = ap (λ (read : Read ℤ). read_then read (λ score. read_then (score_pairs behind) (λ pairs. Ok ((member, score) ∷ pairs)))) is

-- one pair more in front
pub front_grows : (front : List Scored) (x : Scored) (read : Read (List Scored)) → with_front front (with_first x read) ≡ with_front (front ++ x ∷ []) read
front_grows front x (Ok xs) = ap Ok (sym (append_assoc front (x ∷ []) xs))
front_grows front x (Err reply) = refl

pub all_read : (front : List Scored) (words : List Bytes) → words ≡ [] → with_front front (score_pairs words) ≡ Ok front
all_read front words none = ap (λ ws. with_front front (score_pairs ws)) none ∙ ap Ok (append-nil front)

-- the members of ZPOPMIN, counted by a word that is no number, whatever stands behind it
pub no_count : (name count : Bytes) (behind : List Bytes) (reply : Reply) → natural NotPositive count ≡ Err reply → pop_request (name ∷ count ∷ behind) ≡ Err reply
no_count name count [] reply is = ap (λ (read : Read ℕ). read_then read (λ count. Ok (record { name = name; count = count }))) is
no_count name count (more ∷ words) reply is = ap (λ (read : Read ℕ). read_then {B = PopRequest} read (λ count. fault Syntax)) is
