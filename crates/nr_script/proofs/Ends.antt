-- The first line of a script, and the others.
use Rattle.std.proofs.Common.{◌≡◌, ℕ, ◌<◌, Bool, true, false, cond, List, [], ◌∷◌, length, Option, Some, None, refl, ap, ◌∙◌, arith}
use Rattle.std.specs.Prelude.{◌==◌, option_map}
use Rattle.nr_model.specs.Bytes.{Bytes}
use Rattle.nr_model.specs.Requests.{onto_first}
use Rattle.nr_script.specs.Lines.{parted, lines_of}

-- the lines, by the first of them
abbrev by_first : Bytes → Option (Bytes × Bytes) → List Bytes
by_first script None = script ∷ []
by_first script (Some x) = x.0 ∷ lines_of x.1

onto_first-by_first : (c : ℕ) (script : Bytes) (parts : Option (Bytes × Bytes))
    → onto_first c (by_first script parts) ≡ by_first (c ∷ script) (option_map (λ (x : Bytes × Bytes). (c ∷ x.0, x.1)) parts)
onto_first-by_first c script None = refl
onto_first-by_first c script (Some x) = refl

lines_of-parted : (c : ℕ) (rest : Bytes) → lines_of (c ∷ rest) ≡ by_first (c ∷ rest) (parted 10 (c ∷ rest))
lines_of-parted c [] =
    let at = λ (b : Bool). cond b ([] ∷ []) ((c ∷ []) ∷ []) ≡ by_first (c ∷ []) (cond b (Some ([], [])) None) in
    elim (c == 10) as at [ true ↦ refl | false ↦ refl ]
lines_of-parted c (d ∷ rest) =
    let more : lines_of (d ∷ rest) ≡ by_first (d ∷ rest) (parted 10 (d ∷ rest)) = lines_of-parted d rest in
    let at = λ (b : Bool). cond b ([] ∷ lines_of (d ∷ rest)) (onto_first c (lines_of (d ∷ rest)))
    ≡ by_first (c ∷ d ∷ rest) (cond b (Some ([], d ∷ rest)) (option_map (λ (x : Bytes × Bytes). (c ∷ x.0, x.1)) (parted 10 (d ∷ rest)))) in
    elim (c == 10) as at [ true ↦ refl | false ↦ ap (onto_first c) more ∙ onto_first-by_first c (d ∷ rest) (parted 10 (d ∷ rest)) ]

pub no_line : (script : Bytes) → length script ≡ 0 → lines_of script ≡ []
no_line [] none = refl
no_line (c ∷ rest) none = absurd (omega arith)

pub ended_line : (script line rest : Bytes) → parted 10 script ≡ Some (line, rest) → lines_of script ≡ line ∷ lines_of rest
ended_line [] line rest is = absurd (cc is)
ended_line (c ∷ more) line rest is = lines_of-parted c more ∙ ap (by_first (c ∷ more)) is

pub last_line : (script behind : Bytes) → 0 < length script → parted 10 script ≡ None → length behind ≡ 0 → lines_of script ≡ script ∷ lines_of behind
last_line [] behind some is none = absurd (omega arith)
last_line (c ∷ more) [] some is none = lines_of-parted c more ∙ ap (by_first (c ∷ more)) is
last_line (c ∷ more) (d ∷ rest) some is none = absurd (omega arith)
