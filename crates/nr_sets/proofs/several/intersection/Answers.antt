use Rattle.std.proofs.Common.{◌≡◌, ◌+◌, ◌-◌, ◌<◌, ◌&&◌, ℕ, suc, Bool, Option, List, length, get_or, take, drop, ◌∙◌, ap, sym, map, arith}
use Rattle.std.specs.Prelude.{filter}
use Rattle.std.specs.List.{list_all}
use Rattle.std.specs.FinSet as set
use denote.Ref.{Bor}
use Rattle.std.proofs.lemmas.List.{take_rest}
use Rattle.std.proofs.lemmas.Result.{IfOk-weaker}
use Rattle.std.specs.Map.Iter.{deref}
use Rattle.nr_model.specs.Lists.{limited}
use Rattle.nr_model.specs.Bytes.{Bytes}
use Rattle.nr_model.specs.Sets.{Members, listed, intersection_of}
use Rattle.nr_sets.specs.Lent.{lent}
use Rattle.nr_sets.proofs.Common.{common_is, none_limited, none_listed}
use Rattle.nr_sets.proofs.several.intersection.Goals as goal

pub returns-in_default : goal.returns-in_default
returns-in_default c =
    ap (map deref) c.new.ensures.items ∙ sym (none_limited c.args.most)
    ∙ ap (limited c.args.most) (none_listed ∙ sym (ap (λ s. listed s) c.in_default.ensures.none))

-- whether all of some sets have a member
abbrev all : List (Option (Bor Members)) → Bytes → Bool
all sets m = list_all (λ s. set.contains (lent s) m) sets

-- what those before one and those behind it have of the one
whole : (sets : List (Option (Bor Members))) (place : ℕ) (walked : Members) → place < length sets → get_or (map lent sets) place set.empty ≡ walked
    → filter (λ m. all (take place sets) m && all (take (length sets - (place + 1)) (drop (place + 1) sets)) m) (listed walked) ≡ listed (intersection_of (map lent sets))
whole sets place walked within at =
    let next : place + 1 ≡ suc place = omega arith in
    common_is lent sets place (take (length sets - (place + 1)) (drop (place + 1) sets)) walked within (take_rest sets (place + 1) ∙ ap (λ (n : ℕ). drop n sets) next) at

pub returns : goal.returns
returns c =
    IfOk-weaker c.common.result _ _
    (λ members are. are ∙ ap (limited c.args.most) (whole c.args.sets.now c.in-Some.place c.in-Some.walked.now c.in-Some.ensures.within c.in-Some.ensures.at))
    c.common.ensures
