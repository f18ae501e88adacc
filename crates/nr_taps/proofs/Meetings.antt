-- Tokens that met are those of the taps.
use Rattle.std.proofs.Common.{◌≡◌, Option, Some, ap, sym, ◌∙◌, subst}
use Rattle.nr_log_end.specs.declared.standing.Standing.{Standing}
use Rattle.nr_oplog.specs.declared.view.LogView.{LogView}
use Rattle.nr_oplog.specs.Plays.{AreOfOneLog}
use Rattle.nr_taps.specs.Taps.{TapState, HaveMet, standing_of}

pub tokens_met : (t u : TapState) (o p : Option LogView) (v w : LogView) → standing_of o ≡ t.standing → standing_of p ≡ u.standing → o ≡ Some v → p ≡ Some w
    → AreOfOneLog v.standing w.standing → HaveMet t.standing u.standing
tokens_met t u o p v w of_t of_u has_v has_w met =
    let first : t.standing ≡ Some v.standing = sym of_t ∙ ap standing_of has_v in
    let second : u.standing ≡ Some w.standing = sym of_u ∙ ap standing_of has_w in
    subst (λ (s : Option Standing). HaveMet s u.standing) (sym first) (subst (HaveMet (Some v.standing)) (sym second) met)
