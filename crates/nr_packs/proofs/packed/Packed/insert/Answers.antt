use Rattle.std.proofs.Common.{ap, refl, sym, ◌∙◌, ◌≡◌, ◌+◌, ℕ, false, cond, length, is_none, arith, subst}
use Rattle.std.specs.BTreeMap.{insert_entry}
use Rattle.nr_model.specs.Bytes.{Bytes}
use Rattle.nr_model.specs.Keyspace.{byte_cmp}
use Rattle.nr_packs.specs.Packed.{Entries, packed, entries_in, fits, IsPacked}
use Rattle.nr_packs.specs.Placed.{below, from, past, value_first}
use Rattle.nr_packs.proofs.Placed.{found}
use Rattle.nr_packs.proofs.Kept.{is_new, counted_with, room_around, fits_over, written_over, put_in, put_kept, read_back}
use Rattle.nr_packs.proofs.packed.Packed.insert.Goals as goal

pub returns-then-not-fits-clause-room : goal.returns-then-not-fits-clause-room
returns-then-not-fits-clause-room c =
    let bytes = c.self.inside.block.1 in
    let k = c.args.field.now in
    let v = c.args.value.now in
    let new = is_new (λ value. value.now) c.place_of-place.result.value k (entries_in bytes) c.is_none-is_new.result c.is_none-is_new.ensures
    (c.place_of-place.ensures.value ∙ ap (λ (bytes : Bytes). value_first k (from k (entries_in bytes))) c.pairs.ensures.pairs) in
    let counted = counted_with c.count.result c.count_with-count.result (entries_in bytes) k v c.is_none-is_new.result (c.count.ensures.count ∙ c.self.invariant.counted) new c.count_with-count.ensures in
    sym c.if-not-fits.true ∙ c.fits.ensures ∙ ap (λ (n : ℕ). fits c.args.most n k v) (counted ∙ ap (λ (es : Entries). length (insert_entry byte_cmp es k v)) c.self.view_is)

pub write-requires-clause-within : goal.write-requires-clause-within
write-requires-clause-within c =
    let bytes = c.self.inside.block.1 in
    let k = c.args.field.now in
    let v = c.args.value.now in
    let held = c.has_length.ensures.has c.if-has_length.true in
    let there = sym (c.place_of-place.ensures.value ∙ ap (λ (bytes : Bytes). value_first k (from k (entries_in bytes))) c.pairs.ensures.pairs) ∙ held.1 in
    let front = c.place_of-place.ensures.before ∙ ap (λ (bytes : Bytes). packed (below k (entries_in bytes))) c.pairs.ensures.pairs in
    let back = c.place_of-place.ensures.after ∙ ap (λ (bytes : Bytes). packed (past k (from k (entries_in bytes)))) c.pairs.ensures.pairs in
    fits_over bytes c.place_of-place.result.before.now c.place_of-place.result.after.now k held.0 v c.self.invariant.stored front back there held.2

pub invariant_of-self : goal.invariant_of-self
invariant_of-self c =
    let bytes = c.self.inside.block.1 in
    let k = c.args.field.now in
    let v = c.args.value.now in
    let held = c.has_length.ensures.has c.if-has_length.true in
    let there = sym (c.place_of-place.ensures.value ∙ ap (λ (bytes : Bytes). value_first k (from k (entries_in bytes))) c.pairs.ensures.pairs) ∙ held.1 in
    let front = c.place_of-place.ensures.before ∙ ap (λ (bytes : Bytes). packed (below k (entries_in bytes))) c.pairs.ensures.pairs in
    let back = c.place_of-place.ensures.after ∙ ap (λ (bytes : Bytes). packed (past k (from k (entries_in bytes)))) c.pairs.ensures.pairs in
    let written = written_over bytes c.place_of-place.result.before.now c.place_of-place.result.after.now k held.0 v c.self.invariant.stored front back there held.2
    _ c.write.new.self.1 refl (ap (λ (b : ℕ × Bytes). b.1) c.write.ensures) in
    let put = put_in bytes c.write.new.self.1 c.place_of-place.result.before.now c.place_of-place.result.after.now k v written front back in
    let new = is_new (λ value. value.now) c.place_of-place.result.value k (entries_in bytes) c.is_none-is_new.result c.is_none-is_new.ensures
    (c.place_of-place.ensures.value ∙ ap (λ (bytes : Bytes). value_first k (from k (entries_in bytes))) c.pairs.ensures.pairs) in
    let counted = counted_with c.count.result c.count_with-count.result (entries_in bytes) k v c.is_none-is_new.result (c.count.ensures.count ∙ c.self.invariant.counted) new
    c.count_with-count.ensures in
    let none : c.is_none-is_new.result ≡ false = new ∙ ap is_none there in
    let same : c.count_with-count.result ≡ c.self.inside.block.0 =
    c.count_with-count.ensures ∙ (λ i. c.count.ensures.count i + cond (none i) 1 0) ∙ omega arith in
    subst (λ (n : ℕ). IsPacked n c.write.new.self.1) (same ∙ sym (ap (λ (b : ℕ × Bytes). b.0) c.write.ensures))
    (put_kept c.args.most c.self.inside.block.0 c.count_with-count.result bytes c.write.new.self.1 k v c.self.invariant put counted c.requires.most (sym c.fits.ensures ∙ c.if-not-fits.false))

pub returns-then-has_length-clause-new : goal.returns-then-has_length-clause-new
returns-then-has_length-clause-new c =
    let bytes = c.self.inside.block.1 in
    let k = c.args.field.now in
    let v = c.args.value.now in
    let held = c.has_length.ensures.has c.if-has_length.true in
    let there = sym (c.place_of-place.ensures.value ∙ ap (λ (bytes : Bytes). value_first k (from k (entries_in bytes))) c.pairs.ensures.pairs) ∙ held.1 in
    let front = c.place_of-place.ensures.before ∙ ap (λ (bytes : Bytes). packed (below k (entries_in bytes))) c.pairs.ensures.pairs in
    let back = c.place_of-place.ensures.after ∙ ap (λ (bytes : Bytes). packed (past k (from k (entries_in bytes)))) c.pairs.ensures.pairs in
    sym (ap is_none there) ∙ ap (λ (es : Entries). is_none (value_first k (from k es))) c.self.view_is ∙ ap is_none (found k c.args.self.now c.requires.order)

pub returns-then-has_length-clause-put : goal.returns-then-has_length-clause-put
returns-then-has_length-clause-put c =
    let bytes = c.self.inside.block.1 in
    let k = c.args.field.now in
    let v = c.args.value.now in
    let held = c.has_length.ensures.has c.if-has_length.true in
    let there = sym (c.place_of-place.ensures.value ∙ ap (λ (bytes : Bytes). value_first k (from k (entries_in bytes))) c.pairs.ensures.pairs) ∙ held.1 in
    let front = c.place_of-place.ensures.before ∙ ap (λ (bytes : Bytes). packed (below k (entries_in bytes))) c.pairs.ensures.pairs in
    let back = c.place_of-place.ensures.after ∙ ap (λ (bytes : Bytes). packed (past k (from k (entries_in bytes)))) c.pairs.ensures.pairs in
    let written = written_over bytes c.place_of-place.result.before.now c.place_of-place.result.after.now k held.0 v c.self.invariant.stored front back there held.2
    _ c.write.new.self.1 refl (ap (λ (b : ℕ × Bytes). b.1) c.write.ensures) in
    let put = put_in bytes c.write.new.self.1 c.place_of-place.result.before.now c.place_of-place.result.after.now k v written front back in
    read_back c.write.new.self.1 (insert_entry byte_cmp (entries_in bytes) k v) put ∙ ap (λ (es : Entries). insert_entry byte_cmp es k v) c.self.view_is

pub returns-then-has_length-clause-room : goal.returns-then-has_length-clause-room
returns-then-has_length-clause-room c =
    let bytes = c.self.inside.block.1 in
    let k = c.args.field.now in
    let v = c.args.value.now in
    let new = is_new (λ value. value.now) c.place_of-place.result.value k (entries_in bytes) c.is_none-is_new.result c.is_none-is_new.ensures
    (c.place_of-place.ensures.value ∙ ap (λ (bytes : Bytes). value_first k (from k (entries_in bytes))) c.pairs.ensures.pairs) in
    let counted = counted_with c.count.result c.count_with-count.result (entries_in bytes) k v c.is_none-is_new.result (c.count.ensures.count ∙ c.self.invariant.counted) new
    c.count_with-count.ensures in
    sym c.if-not-fits.false ∙ c.fits.ensures ∙ ap (λ (n : ℕ). fits c.args.most n k v) (counted ∙ ap (λ (es : Entries). length (insert_entry byte_cmp es k v)) c.self.view_is)

pub joined-requires-clause-room : goal.joined-requires-clause-room
joined-requires-clause-room c =
    let bytes = c.self.inside.block.1 in
    let k = c.args.field.now in
    let room = room_around bytes c.place_of-place.result.before.now c.place_of-place.result.after.now k c.self.invariant.stored
    (c.place_of-place.ensures.before ∙ ap (λ (bytes : Bytes). packed (below k (entries_in bytes))) c.pairs.ensures.pairs)
    (c.place_of-place.ensures.after ∙ ap (λ (bytes : Bytes). packed (past k (from k (entries_in bytes)))) c.pairs.ensures.pairs) in
    omega (arith, c.pairs.ensures.small, ap length c.pairs.ensures.pairs)

pub invariant_of-self-2 : goal.invariant_of-self-2
invariant_of-self-2 c =
    let bytes = c.self.inside.block.1 in
    let k = c.args.field.now in
    let v = c.args.value.now in
    let new = is_new (λ value. value.now) c.place_of-place.result.value k (entries_in bytes) c.is_none-is_new.result c.is_none-is_new.ensures
    (c.place_of-place.ensures.value ∙ ap (λ (bytes : Bytes). value_first k (from k (entries_in bytes))) c.pairs.ensures.pairs) in
    subst (λ (n : ℕ). IsPacked n c.in_ok-block.block.1) (sym (ap (λ (b : ℕ × Bytes). b.0) c.in_ok-block.ensures))
    (put_kept c.args.most c.self.inside.block.0 c.count_with-count.result bytes c.in_ok-block.block.1 k v c.self.invariant
    (put_in bytes c.in_ok-block.block.1 c.place_of-place.result.before.now c.place_of-place.result.after.now k v (ap (λ (b : ℕ × Bytes). b.1) c.in_ok-block.ensures)
    (c.place_of-place.ensures.before ∙ ap (λ (bytes : Bytes). packed (below k (entries_in bytes))) c.pairs.ensures.pairs)
    (c.place_of-place.ensures.after ∙ ap (λ (bytes : Bytes). packed (past k (from k (entries_in bytes)))) c.pairs.ensures.pairs))
    (counted_with c.count.result c.count_with-count.result (entries_in bytes) k v c.is_none-is_new.result (c.count.ensures.count ∙ c.self.invariant.counted) new c.count_with-count.ensures)
    c.requires.most (sym c.fits.ensures ∙ c.if-not-fits.false))

pub returns-clause-new : goal.returns-clause-new
returns-clause-new c =
    let bytes = c.self.inside.block.1 in
    let k = c.args.field.now in
    is_new (λ value. value.now) c.place_of-place.result.value k (entries_in bytes) c.is_none-is_new.result c.is_none-is_new.ensures
    (c.place_of-place.ensures.value ∙ ap (λ (bytes : Bytes). value_first k (from k (entries_in bytes))) c.pairs.ensures.pairs)
    ∙ ap (λ (es : Entries). is_none (value_first k (from k es))) c.self.view_is ∙ ap is_none (found k c.args.self.now c.requires.order)

pub returns-clause-put : goal.returns-clause-put
returns-clause-put c =
    let bytes = c.self.inside.block.1 in
    let k = c.args.field.now in
    let v = c.args.value.now in
    read_back c.in_ok-block.block.1 (insert_entry byte_cmp (entries_in bytes) k v)
    (put_in bytes c.in_ok-block.block.1 c.place_of-place.result.before.now c.place_of-place.result.after.now k v (ap (λ (b : ℕ × Bytes). b.1) c.in_ok-block.ensures)
    (c.place_of-place.ensures.before ∙ ap (λ (bytes : Bytes). packed (below k (entries_in bytes))) c.pairs.ensures.pairs)
    (c.place_of-place.ensures.after ∙ ap (λ (bytes : Bytes). packed (past k (from k (entries_in bytes)))) c.pairs.ensures.pairs))
    ∙ ap (λ (es : Entries). insert_entry byte_cmp es k v) c.self.view_is

pub returns-clause-room : goal.returns-clause-room
returns-clause-room c =
    let bytes = c.self.inside.block.1 in
    let k = c.args.field.now in
    let v = c.args.value.now in
    let new = is_new (λ value. value.now) c.place_of-place.result.value k (entries_in bytes) c.is_none-is_new.result c.is_none-is_new.ensures
    (c.place_of-place.ensures.value ∙ ap (λ (bytes : Bytes). value_first k (from k (entries_in bytes))) c.pairs.ensures.pairs) in
    let counted = counted_with c.count.result c.count_with-count.result (entries_in bytes) k v c.is_none-is_new.result (c.count.ensures.count ∙ c.self.invariant.counted) new c.count_with-count.ensures in
    sym c.if-not-fits.false ∙ c.fits.ensures ∙ ap (λ (n : ℕ). fits c.args.most n k v) (counted ∙ ap (λ (es : Entries). length (insert_entry byte_cmp es k v)) c.self.view_is)
