-- A value of no bytes, which owns nothing, at the empty list.
use mathlib.Core.Path.{refl}
use mathlib.Core.List.{[], ◌∷◌}
use seplogic.Ra.Ura.{Ura}
use mir.Syntax.{Fn, Args, a_type}
use mir.Val.{Val, vstruct, vcons, vnil}
use mir.MapTy.{inst_fn}
use base.Logic.{SProp}
use prog.Memory.{Memory}
use prog.Routine.{Routine}
use prog.Wp.{WpFn, Tables}
use types.Logic.{Logic}
use contract.Monad.{Fun}
use contract.Running.{tables, tables_of}
use sound.WpLaws.{WpFn-mono}
use types.Kit.{‵, raw, ◌⊛◌, ◌$◌, ◌∵◌, !, qed, keep, move, split, suffices, done}
use types.Run.{no_more, and_then, returns, enter}
use types.Part.{agg}
use types.ByLocal.{alloc_all, pass_all, free_all, look_at, get, sets}
use denote.RattleType.{RattleType, owns}
use denote.Param.{param, layouts}
use denote.Shadow.{pure_i}
use denote.Steps.{nothing}
use denote.Triple.Clauses.{closing}
use denote.Triple.Entry.{Res, alive}
use denote.Triple.Spec.{Meets, triple_of}
use denote.Triple.Table.{entered}
use denote.Triple.Walked.{says, ends_at, walked, walk_Meets}
use Rattle.nr_transcript.specs.contracts.noted.Noted as made
use Rattle.nr_transcript.specs.contracts.noted.Noted.new as f
use Rattle.nr_transcript.specs.contracts.noted.Noted.new.Key.{name as key}
use Rattle.nr_transcript.proofs.noted.Noted.new.Statement as stated
use Rattle.nr_transcript.proofs.noted.Noted.new.Code as code

module _ (T : RattleType) where
  abbrev args : Args
  args = layouts (a_type ∷ []) (T, tt)

  abbrev function : Fn
  function = inst_fn args code.function

  abbrev value : Val
  value = vstruct (vcons (vstruct vnil) vnil)

  meets : {M : Type 1} {𝓤 : Ura M} (𝓛 : Logic 𝓤) (mem : Memory → SProp 𝓤) (run : Routine → Fun 𝓤) (𝓣 : Tables 𝓤 𝓛.H)
      → Meets 𝓛 (f.ended T).signature (WpFn 𝓤 𝓛.H 𝓣.C 𝓣.Λ function) (closing 𝓛 (f.ended T) (f.clauses T 𝓛 mem run))
  meets {𝓤 = 𝓤} 𝓛 mem run 𝓣 =
      let clauses = f.clauses T 𝓛 mem run in
      let post = WpFn 𝓤 𝓛.H 𝓣.C 𝓣.Λ function in
      walk_Meets 𝓛 (f.ended T) tt tt clauses post (WpFn-mono 𝓤 𝓛.H 𝓛.laws 𝓣 function)
      (walked 𝓛 (f.ended T) tt clauses post (λ κs. tt) (λ κs. tt) (λ κs qs bounds a g _.
      let none : Res (f.ended T).signature κs = record { of = record {}; items = [] } in
      qed 𝓛 ((raw (alive 𝓛 (f.ended T).signature κs qs) ⊛ ‵ (owns [] tt tt)) ∷ raw ((clauses κs a).requires g) ∷ []) ∵ split ! $ keep ! (0 ∷ []) $
      enter ! 𝓣.C 𝓣.Λ function [] _ $ alloc_all ! (λ l. pass_all ! refl tt $
      sets ! (agg ! (no_more !)) refl (tt, tt) $ sets ! (agg ! (and_then ! (get ! refl) (no_more !))) refl (tt, (tt, tt)) $
      returns ! (look_at ! 0 refl) $ free_all ! refl $
      pure_i ! ((made.the_row (param 0 T)).own_val none (value ∷ [])) ((λ vss. (tt, ((λ uss. (tt, tt)), tt))), tt) (((vstruct vnil ∷ [], tt), (refl, ((tt, (refl, tt)), tt))), tt) $
      suffices ! _ (ends_at 𝓛 (f.ended T) tt clauses ((κs, qs, bounds, a, tt), g) value none tt tt) $ says ! refl $
      nothing ! $ move ! (2 ∷ 0 ∷ 1 ∷ []) $ done !)))

pub new_spec : {M : Type 1} → stated.statement M
unfolding tables_of
new_spec 𝓤 𝓛 𝓜 𝓡 wired T laws =
    let 𝓣 : Tables 𝓤 𝓛.H = tables_of 𝓤 𝓛.H 𝓜 (tables 𝓤 𝓛.H 𝓜 𝓡 𝓡.env) in
    entered 𝓤 𝓛.H (triple_of 𝓛 (f.ended T).signature (closing 𝓛 (f.ended T) (f.clauses T 𝓛 𝓜.mem 𝓡.returns))) 𝓣.C 𝓣.Λ (key (args T)) (function T)
    (code.unfolded 𝓤 𝓛.H 𝓜 𝓡 wired (T, tt)) (meets T 𝓛 𝓜.mem 𝓡.returns 𝓣)
