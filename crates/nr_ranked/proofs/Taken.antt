-- Members taken out from an end, one by one.
use Rattle.std.proofs.Common.{◌≡◌, ℕ, ◌+◌, ◌<◌, ◌≤◌, min, ℤ, List, [], ◌∷◌, ◌++◌, length, take, refl, ap, sym, ◌∙◌, arith}
use Rattle.std.proofs.lemmas.List.{length-append, append_assoc, length-take, take_min}
use Rattle.std.proofs.lemmas.Grind.{flat_map-append}
use Rattle.std.proofs.lemmas.List.Sums.{fold-append}
use Rattle.std.proofs.Math.Seq.{take-append_seam}
use Rattle.std.specs.Prelude.{flat_map}
use Rattle.std.specs.FinMap as finmap
use Rattle.nr_model.specs.Keyspace.{byte_cmp}
use Rattle.nr_model.specs.Replies.{Reply}
use Rattle.nr_model.specs.SortedSets.{Scores, Scored, ranked, told_in, without}
use Rattle.nr_model.specs.Commands.SortedSets.{with_score}
use Rattle.nr_model.specs.declared.command.Direction.{Direction}
use Rattle.nr_ranked.proofs.Told.{length_told}

-- so many members were taken
pub record IsTaken (turns : ℕ) (direction : Direction) (old new : Scores) (replies : List Reply) : Type 0 where
  pub gone : List Scored
  pub parts : told_in direction (ranked old) ≡ gone ++ told_in direction (ranked new)
  pub many : length gone ≡ turns
  pub took : replies ≡ flat_map with_score gone
  pub left : new ≡ without gone old

pub none_taken : (direction : Direction) (old : Scores) → IsTaken 0 direction old old []
none_taken direction old = record { gone = []; parts = refl; many = refl; took = refl; left = refl }

pub one_taken : (turns : ℕ) (direction : Direction) (old before new : Scores) (replies : List Reply) (x : Scored)
    → told_in direction (ranked before) ≡ x ∷ told_in direction (ranked new) → new ≡ finmap.remove before x.0
    → IsTaken turns direction old before replies → IsTaken (turns + 1) direction old new (replies ++ with_score x)
one_taken turns direction old before new replies x told removed so_far = record {
  gone = so_far.gone ++ x ∷ [];
  parts = so_far.parts ∙ ap (λ xs. so_far.gone ++ xs) told ∙ sym (append_assoc so_far.gone (x ∷ []) (told_in direction (ranked new)));
  many = length-append so_far.gone (x ∷ []) ∙ ap (λ n. n + 1) so_far.many;
  took = ap (λ rs. rs ++ with_score x) so_far.took ∙ sym (flat_map-append with_score so_far.gone (x ∷ []));
  left = removed ∙ ap (λ scores. finmap.remove scores x.0) so_far.left ∙ sym (fold-append (λ left scored. finmap.remove left scored.0) old so_far.gone (x ∷ []));
}

-- those that were taken are the first ones
pub are_first : (turns count : ℕ) (direction : Direction) (old new : Scores) (replies : List Reply) (taken : IsTaken turns direction old new replies) → turns ≡ count
    → taken.gone ≡ take count (told_in direction (ranked old))
are_first turns count direction old new replies taken is =
    sym (ap (take count) taken.parts
    ∙ ap (λ n. take n (taken.gone ++ told_in direction (ranked new))) (sym (taken.many ∙ is))
    ∙ take-append_seam taken.gone (told_in direction (ranked new)))

-- until so many were taken there is one
pub one_is_left : (turns count : ℕ) (direction : Direction) (old new : Scores) (replies : List Reply) → turns < count → count ≤ finmap.len old
    → IsTaken turns direction old new replies → 0 < finmap.len new
one_is_left turns count direction old new replies more few taken =
    omega (
      arith,
      more,
      few,
      taken.many,
      length_told direction old,
      length_told direction new,
      ap length taken.parts,
      length-append taken.gone (told_in direction (ranked new)),
    )

pub emptied : (scores : Scores) → scores ≡ finmap.empty → finmap.len scores ≡ 0
emptied scores is = ap finmap.len is ∙ finmap.len-empty byte_cmp ℤ

-- no more are taken than there are
pub most_taken : (direction : Direction) (scores : Scores) (count len : ℕ) → len ≡ finmap.len scores
    → take (min count len) (told_in direction (ranked scores)) ≡ take count (told_in direction (ranked scores))
most_taken direction scores count len is =
    ap (λ n. take (min count n) (told_in direction (ranked scores))) (is ∙ sym (length_told direction scores)) ∙ take_min count (told_in direction (ranked scores))

pub most_counted : (direction : Direction) (scores : Scores) (count len : ℕ) → len ≡ finmap.len scores
    → min count len ≡ length (take count (told_in direction (ranked scores)))
most_counted direction scores count len is =
    ap (min count) (is ∙ sym (length_told direction scores)) ∙ sym (length-take count (told_in direction (ranked scores)))
