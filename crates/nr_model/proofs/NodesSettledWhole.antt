-- A node that has applied every entry: what is emitted for its connections along its part is what is emitted along the whole sequence.
use Rattle.std.proofs.Common.{◌≡◌, ℕ, zero, suc, ◌≤◌, Bool, cond, inl, inr, List, [], ◌∷◌, ◌++◌, length, refl, ap, sym, ◌∙◌, subst, arith}
use Rattle.std.specs.Prelude.{◌==◌, flat_map}
use Rattle.std.proofs.lemmas.Bool.{cases_Bool, eqb-false}
use Rattle.nr_model.specs.Bytes.{Bytes}
use Rattle.nr_model.specs.Items.{Connection, Sequence}
use Rattle.nr_model.specs.Sequential.{bytes_for, emitted_for}
use Rattle.nr_model.specs.Servers as servers
use Rattle.nr_model.specs.Servers.{Server, after_all, emitted_all}
use Rattle.nr_model.specs.Entries.{entry_items}
use Rattle.nr_model.specs.Nodes.{Taken, Entry, Reads, log_of, items_taken, part_from}
use Rattle.nr_model.proofs.Logged.{AreReads}
use Rattle.nr_model.proofs.Emitted.{emitted_for-is}
use Rattle.nr_model.proofs.NodesPartsEmitted.{AreOfNode, AreRun, after_reads, others_emit, two_parts}

-- as many bytes behind the same items
both_emit : (c : Connection) (s : Server) (items x y : Sequence)
    → bytes_for c (emitted_all (after_all s items) x) ≡ bytes_for c (emitted_all (after_all s items) y)
    → bytes_for c (emitted_all s (items ++ x)) ≡ bytes_for c (emitted_all s (items ++ y))
both_emit c s items x y e =
    two_parts c s items x ∙ ap (λ (bs : Bytes). bytes_for c (emitted_all s items) ++ bs) e ∙ sym (two_parts c s items y)

-- and behind another node's reads
reads_emit : (c : Connection) (n : ℕ) (s : Server) (jobs x : Sequence) → (n ≡ c.node → ⊥) → AreReads jobs → AreOfNode n jobs
    → bytes_for c (emitted_all s x) ≡ bytes_for c (emitted_all s (jobs ++ x))
reads_emit c n s jobs x apart reads of =
    let none = others_emit c n s jobs apart reads of in
    let same = after_reads s jobs reads in
    sym (two_parts c s jobs x ∙ (λ i. none i ++ bytes_for c (emitted_all (same i) x)))

-- reads in front, of its own node or another
either_emits : (c : Connection) (n : ℕ) (s : Server) (jobs x y : Sequence) → AreReads jobs × AreOfNode n jobs
    → ((t : Server) → bytes_for c (emitted_all t x) ≡ bytes_for c (emitted_all t y))
    → bytes_for c (emitted_all s (cond (n == c.node) (jobs ++ x) x)) ≡ bytes_for c (emitted_all s (jobs ++ y))
either_emits c n s jobs x y run e =
    let at = λ (own : Bool). bytes_for c (emitted_all s (cond own (jobs ++ x) x)) ≡ bytes_for c (emitted_all s (jobs ++ y)) in
    elim (cases_Bool (n == c.node)) [
      | inl own ↦ subst at (sym own) (both_emit c s jobs x y (e (after_all s jobs)))
      | inr other ↦ subst at (sym other) (e s ∙ reads_emit c n s jobs y (eqb-false n c.node other) run.0 run.1)
    ]

-- the part of a connection's node, from any server on
part_emits_all : (c : Connection) (applied : ℕ) (taken : List Taken) (s : Server) → length (log_of taken) ≤ applied → AreRun taken
    → bytes_for c (emitted_all s (part_from c.node applied taken)) ≡ bytes_for c (emitted_all s (flat_map items_taken taken))
part_emits_all c zero [] s all run = refl
part_emits_all c (suc applied) [] s all run = refl
part_emits_all c zero (Entry n jobs ∷ taken) s all run = absurd (omega arith)
part_emits_all c (suc applied) (Entry n jobs ∷ taken) s all run =
    let fewer : length (log_of taken) ≤ applied = omega arith in
    both_emit c s (entry_items jobs) (part_from c.node applied taken) (flat_map items_taken taken)
    (part_emits_all c applied taken (after_all s (entry_items jobs)) fewer run.1)
part_emits_all c zero (Reads n count jobs ∷ taken) s all run =
    either_emits c n s jobs (part_from c.node zero taken) (flat_map items_taken taken) run.0 (λ t. part_emits_all c zero taken t all run.1)
part_emits_all c (suc applied) (Reads n count jobs ∷ taken) s all run =
    either_emits c n s jobs (part_from c.node (suc applied) taken) (flat_map items_taken taken) run.0
    (λ t. part_emits_all c (suc applied) taken t all run.1)

-- from the first server on
pub part_is_whole : (c : Connection) (applied : ℕ) (taken : List Taken) → length (log_of taken) ≤ applied → AreRun taken
    → emitted_for c (part_from c.node applied taken) ≡ emitted_for c (flat_map items_taken taken)
part_is_whole c applied taken all run =
    emitted_for-is c (part_from c.node applied taken) ∙ part_emits_all c applied taken servers.fresh all run
    ∙ sym (emitted_for-is c (flat_map items_taken taken))
