use Rattle.std.proofs.Common.{◌≡◌, ◌-◌, ℕ, ap, sym, ◌∙◌, subst, length, take, drop, ◌++◌, is_some, arith}
use Rattle.std.specs.Map.{remove_entry}
use Rattle.std.specs.BTreeMap.{is_at}
use Rattle.nr_model.specs.Bytes.{Bytes}
use Rattle.nr_model.specs.Keyspace.{byte_cmp}
use Rattle.nr_packs.specs.Packed.{Entries, packed, entries_in, IsPacked}
use Rattle.nr_packs.specs.Placed.{below, from, past, value_first}
use Rattle.nr_packs.specs.Orders.{AreInOrder}
use Rattle.nr_packs.proofs.Placed.{found, nothing_removed}
use Rattle.nr_packs.proofs.Kept.{is_new, lacking, there, room_around, cut_out, cut_kept, read_back}
use Rattle.nr_packs.proofs.packed.Packed.remove.Goals as goal

pub returns-then-is_none : goal.returns-then-is_none
returns-then-is_none c =
    let k = c.args.field.now in
    let new = is_new (λ value. value.now) c.place_of-place.result.value k c.args.self.now c.is_none.result c.is_none.ensures
    (c.place_of-place.ensures.value ∙ ap (λ (es : Entries). value_first k (from k es)) (ap entries_in c.pairs.ensures.pairs ∙ c.self.view_is)) in
    let none = lacking k c.args.self.now c.requires (sym new ∙ c.if-is_none.true) in
    record {
      there = sym (ap is_some none);
      removed = sym (nothing_removed k c.args.self.now none);
    }

pub overflow_sub-end : goal.overflow_sub-end
overflow_sub-end c =
    let bytes = c.self.inside.block.1 in
    let k = c.args.field.now in
    let room = room_around bytes c.place_of-place.result.before.now c.place_of-place.result.after.now k c.self.invariant.stored
    (c.place_of-place.ensures.before ∙ ap (λ (bytes : Bytes). packed (below k (entries_in bytes))) c.pairs.ensures.pairs)
    (c.place_of-place.ensures.after ∙ ap (λ (bytes : Bytes). packed (past k (from k (entries_in bytes)))) c.pairs.ensures.pairs) in
    omega (arith, ap length c.pairs-2.ensures.pairs)

pub cut-requires-clause-range : goal.cut-requires-clause-range
cut-requires-clause-range c =
    let bytes = c.self.inside.block.1 in
    let k = c.args.field.now in
    let room = room_around bytes c.place_of-place.result.before.now c.place_of-place.result.after.now k c.self.invariant.stored
    (c.place_of-place.ensures.before ∙ ap (λ (bytes : Bytes). packed (below k (entries_in bytes))) c.pairs.ensures.pairs)
    (c.place_of-place.ensures.after ∙ ap (λ (bytes : Bytes). packed (past k (from k (entries_in bytes)))) c.pairs.ensures.pairs) in
    omega (arith, ap length c.pairs-2.ensures.pairs)

pub invariant_of-self : goal.invariant_of-self
invariant_of-self c =
    let bytes = c.self.inside.block.1 in
    let k = c.args.field.now in
    let new = is_new (λ value. value.now) c.place_of-place.result.value k (entries_in bytes) c.is_none.result c.is_none.ensures
    (c.place_of-place.ensures.value ∙ ap (λ (bytes : Bytes). value_first k (from k (entries_in bytes))) c.pairs.ensures.pairs) in
    let some = there k (entries_in bytes) (sym new ∙ c.if-is_none.false) in
    let len : length c.pairs-2.result.now ≡ length bytes = ap length c.pairs-2.ensures.pairs in
    subst (λ (n : ℕ). IsPacked n c.cut.new.self.1) (sym (ap (λ (b : ℕ × Bytes). b.0) c.cut.ensures))
    (cut_kept c.self.inside.block.0 bytes c.cut.new.self.1 k some.0 c.self.invariant (subst AreInOrder (sym c.self.view_is) c.requires) some.1
    (cut_out bytes c.cut.new.self.1 c.place_of-place.result.before.now c.place_of-place.result.after.now k some.0 c.self.invariant.stored
    (c.place_of-place.ensures.before ∙ ap (λ (bytes : Bytes). packed (below k (entries_in bytes))) c.pairs.ensures.pairs)
    (c.place_of-place.ensures.after ∙ ap (λ (bytes : Bytes). packed (past k (from k (entries_in bytes)))) c.pairs.ensures.pairs) some.1
    (ap (λ (b : ℕ × Bytes). b.1) c.cut.ensures ∙ ap (λ (n : ℕ). take (length c.place_of-place.result.before.now) bytes ++ drop (n - length c.place_of-place.result.after.now) bytes) len)))

pub returns-clause-there : goal.returns-clause-there
returns-clause-there c =
    let k = c.args.field.now in
    let new = is_new (λ value. value.now) c.place_of-place.result.value k c.args.self.now c.is_none.result c.is_none.ensures
    (c.place_of-place.ensures.value ∙ ap (λ (es : Entries). value_first k (from k es)) (ap entries_in c.pairs.ensures.pairs ∙ c.self.view_is)) in
    let some = there k c.args.self.now (sym new ∙ c.if-is_none.false) in
    sym (ap is_some (sym (found k c.args.self.now c.requires) ∙ some.1))

pub returns-clause-removed : goal.returns-clause-removed
returns-clause-removed c =
    let bytes = c.self.inside.block.1 in
    let k = c.args.field.now in
    let new = is_new (λ value. value.now) c.place_of-place.result.value k (entries_in bytes) c.is_none.result c.is_none.ensures
    (c.place_of-place.ensures.value ∙ ap (λ (bytes : Bytes). value_first k (from k (entries_in bytes))) c.pairs.ensures.pairs) in
    let some = there k (entries_in bytes) (sym new ∙ c.if-is_none.false) in
    let len : length c.pairs-2.result.now ≡ length bytes = ap length c.pairs-2.ensures.pairs in
    read_back c.cut.new.self.1 (remove_entry (is_at (byte_cmp k)) (entries_in bytes))
    (cut_out bytes c.cut.new.self.1 c.place_of-place.result.before.now c.place_of-place.result.after.now k some.0 c.self.invariant.stored
    (c.place_of-place.ensures.before ∙ ap (λ (bytes : Bytes). packed (below k (entries_in bytes))) c.pairs.ensures.pairs)
    (c.place_of-place.ensures.after ∙ ap (λ (bytes : Bytes). packed (past k (from k (entries_in bytes)))) c.pairs.ensures.pairs) some.1
    (ap (λ (b : ℕ × Bytes). b.1) c.cut.ensures ∙ ap (λ (n : ℕ). take (length c.place_of-place.result.before.now) bytes ++ drop (n - length c.place_of-place.result.after.now) bytes) len))
    ∙ ap (λ (es : Entries). remove_entry (is_at (byte_cmp k)) es) c.self.view_is
