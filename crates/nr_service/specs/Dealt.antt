-- To which lanes connections were dealt.
use Rattle.std.specs.Prelude.{◌≡◌, ℕ, ◌++◌, List, Option}
use Rattle.std.specs.Option.{option_map}

-- where it is known what became of the connections that were taken, this became of more of them
abbrev pub Deals : List (Option ℕ) → Option (List (Option ℕ)) → Option (List (Option ℕ)) → Type 0
Deals more old new = new ≡ option_map (λ (before : List (Option ℕ)). before ++ more) old
