-- A place, one byte further.
use Rattle.std.proofs.Common.{◌≡◌, ◌∙◌, ◌<◌, ◌≤◌, ◌+◌, ℕ, List, ◌∷◌, length, drop, get_or, add-one, drop-cons, sym, ap}
use Rattle.std.proofs.lemmas.List.{drop_all}
use Rattle.nr_config.specs.Places.{next, place_from, start}
use Rattle.nr_config.specs.declared.place.TextPlace.{TextPlace}

pub one_further : (text : List ℕ) (i : ℕ) (place stepped : TextPlace) → i < length text → stepped ≡ next place (get_or text i 0)
    → place_from place (drop i text) ≡ place_from start text → place_from stepped (drop (i + 1) text) ≡ place_from start text
one_further text i place stepped below step along =
    let cut : drop i text ≡ get_or text i 0 ∷ drop (i + 1) text = rw add-one (drop-cons text i 0 below) in
    ap (λ (p : TextPlace). place_from p (drop (i + 1) text)) step ∙ sym (ap (place_from place) cut) ∙ along

pub at_end : (text : List ℕ) (i : ℕ) (place : TextPlace) → length text ≤ i → place_from place (drop i text) ≡ place_from start text → place ≡ place_from start text
at_end text i place past along = sym (ap (place_from place) (drop_all i text past)) ∙ along
