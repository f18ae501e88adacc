-- What a tap has accepted stays what one sequential Redis emits along the record of its last token.
use Rattle.std.proofs.Common.{◌≡◌, ℕ, Bool, true, false, cond, ◌+◌, ◌<◌, ◌≤◌, ◌^◌, inl, inr, [], ◌++◌, length, drop, Option, None, Some, refl, ap, sym, ◌∙◌, subst, arith}
use Rattle.std.specs.Prelude.{◌==◌}
use Rattle.std.proofs.lemmas.Bool.{and_parts, eqb-true}
use Rattle.std.proofs.lemmas.Bool.Decides.{leb_tells}
use Rattle.std.proofs.lemmas.List.{drop-append-le, drop-drop, length-append, length-drop}
use Rattle.nr_model.specs.Bytes.{Bytes, IsBeginningOf}
use Rattle.nr_model.specs.Items.{Connection, same_connection}
use Rattle.nr_model.specs.Sequential.{emitted_for}
use Rattle.nr_model.proofs.NodesExecutedGrows.{begins_flat_map}
use Rattle.nr_model.proofs.NodesPartsEmitted.{more_emits, none_begins}
use Rattle.nr_log_end.specs.declared.standing.Standing.{Standing}
use Rattle.nr_log_end.specs.Standings.{items_of_turn, record_of}
use Rattle.nr_oplog.specs.Plays.{AreComparable, AreOfOneLog}
use Rattle.nr_oplog.specs.declared.view.LogView.{LogView}
use Rattle.nr_node.specs.Sound.{IsSound}
use Rattle.nr_taps.specs.Taps.{TapState, IsTapped, IsSoundAt, HaveMet, accepted, bytes_accepted, emitted_by, fresh_tap, record_in, refusal, standing_of, with_piece, with_written}
use Rattle.nr_taps.specs.declared.tap.Refused.TheVariants as refusals
use Rattle.nr_taps.proofs.Explains.{begins_emitted}
use Rattle.nr_taps.proofs.Accepts.{OneBegins, piece_accepted}

pub fresh_tapped : (c : Connection) → IsTapped (fresh_tap c)
fresh_tapped c = record { within = omega arith; begins = none_begins (emitted_for c []); sound = tt; counted = omega arith }

pub written_tapped : (count : ℕ) (t : TapState) → count ≤ length t.pending → IsTapped t → IsTapped (with_written count t)
written_tapped count t h k =
    let left = length-drop count t.pending in
    let within = k.within in
    let counted = k.counted in record {
      within = omega (arith, h, left, within);
      begins = (
        k.begins.0,
        sym (drop-append-le count t.pending k.begins.0 h) ∙ ap (drop count) k.begins.1 ∙ drop-drop count t.written (emitted_by t),
      );
      sound = k.sound;
      counted = omega (arith, h, left, counted);
    }

-- of two standings of its node, whichever is the later, the emissions of one begin those of the other
one_emits : (c : Connection) (held : Option Standing) (s : Standing) → IsSoundAt c.node held → HaveMet held (Some s) → c.node ≡ s.node
    → OneBegins (emitted_for c (record_in held)) (emitted_for c (record_of s.history))
one_emits c None s sound met node = inl (more_emits c [] (record_of s.history))
one_emits c (Some t) s sound met node =
    let comparable : AreComparable t.history s.history = met.1 (sym sound.1 ∙ node) in
    elim (leb_tells (length t.history) (length s.history)) [
      | inl less ↦ inl (begins_emitted c (record_of t.history) (record_of s.history) (begins_flat_map items_of_turn t.history s.history (comparable.0 less.1)))
      | inr more ↦
          let fewer = more.1 in
          let below : length s.history ≤ length t.history = omega (arith, fewer) in
          inr (begins_emitted c (record_of s.history) (record_of t.history) (begins_flat_map items_of_turn s.history t.history (comparable.1 below)))
    ]

-- a piece is taken in: the bytes that were accepted before stay as they were, in front of it
abbrev pub TakesIn : Bytes → TapState → TapState → Type 0
TakesIn bytes t u = IsTapped u × (bytes_accepted u ≡ bytes_accepted t ++ bytes)

piece_tapped : (t : TapState) (bytes : Bytes) (s : Standing) → IsTapped t → HaveMet t.standing (Some s) → IsSound s → t.connection.node ≡ s.node
    → IsBeginningOf bytes (drop (accepted t) (emitted_for t.connection (record_of s.history))) → 0 < length bytes → accepted t + length bytes < 2 ^ 64
    → TakesIn bytes t (with_piece bytes s t)
piece_tapped t bytes s k met sound node from some few =
    let c = t.connection in
    let one = one_emits c t.standing s k.sound met node in
    let both = piece_accepted t.written t.pending bytes (emitted_by t) (emitted_for c (record_of s.history)) k.within k.begins one from some in
    let long = length-append t.pending bytes in
    let tapped : IsTapped (with_piece bytes s t) = record { within = both.0; begins = both.1; sound = (sound, node); counted = omega (arith, few, long) } in
    (tapped, both.2)

-- a piece that isn't refused is of the tap's connection, and begins behind the last byte that was accepted
not_refused : (same next : Bool) → cond same (cond next None (Some refusals.Gap)) (Some refusals.OtherConnection) ≡ None → (same ≡ true) × (next ≡ true)
not_refused true true e = (refl, refl)
not_refused true false e = absurd (cc e)
not_refused false next e = absurd (cc e)

same_one : (c d : Connection) → same_connection c d ≡ true → c ≡ d
same_one c d e =
    let both = and_parts (c.node == d.node) (c.serial == d.serial) e in
    let nodes = eqb-true c.node d.node both.0 in
    let serials = eqb-true c.serial d.serial both.1 in
    λ i. record { node = nodes i; serial = serials i }

pub accepted_tapped : (t : TapState) (c : Connection) (from : ℕ) (bytes now : Bytes) (s : Standing) (after : Option Standing) → IsTapped t → refusal t c from ≡ None
    → HaveMet t.standing (Some s) → IsSound s → c.node ≡ s.node → IsBeginningOf bytes (drop from (emitted_for c (record_of s.history))) → 0 < length bytes
    → from + length bytes < 2 ^ 64 → now ≡ t.pending ++ bytes → after ≡ Some s
    → TakesIn bytes t (record { connection = t.connection; pending = now; written = t.written; standing = after })
accepted_tapped t c from bytes now s after k due met sound node begins some few now_is after_is =
    let both = not_refused (same_connection c t.connection) (from == accepted t) due in
    let own : c ≡ t.connection = same_one c t.connection both.0 in
    let next : from ≡ accepted t = eqb-true from (accepted t) both.1 in
    let here : IsBeginningOf bytes (drop (accepted t) (emitted_for t.connection (record_of s.history))) =
    subst (λ (n : ℕ). IsBeginningOf bytes (drop n (emitted_for t.connection (record_of s.history)))) next
    (subst (λ (d : Connection). IsBeginningOf bytes (drop from (emitted_for d (record_of s.history)))) own begins) in
    let own_node : t.connection.node ≡ s.node = sym (ap (λ (d : Connection). d.node) own) ∙ node in
    let fits : accepted t + length bytes < 2 ^ 64 = subst (λ (n : ℕ). n + length bytes < 2 ^ 64) next few in
    let tapped = piece_tapped t bytes s k met sound own_node here some fits in
    subst (λ (o : Option Standing). TakesIn bytes t (record { connection = t.connection; pending = now; written = t.written; standing = o })) (sym after_is)
    (subst (λ (p : Bytes). TakesIn bytes t (record { connection = t.connection; pending = p; written = t.written; standing = Some s })) (sym now_is) tapped)

-- a token that met the last one
pub met_with : (held : Option LogView) (last : LogView) (s : Standing) → held ≡ Some last → AreOfOneLog last.standing s → HaveMet (standing_of held) (Some s)
met_with held last s is met = subst (λ (o : Option LogView). HaveMet (standing_of o) (Some s)) (sym is) met
