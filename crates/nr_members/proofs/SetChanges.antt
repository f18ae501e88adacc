-- A missing key, where no member is put in.
use Rattle.std.proofs.Common.{◌≡◌, ◌-◌, cond, List, ap, sym, ◌∙◌, arith, lit<}
use Rattle.std.specs.Prelude.{None, pos}
use Rattle.std.specs.FinMap as map
use Rattle.std.specs.FinSet as set
use Rattle.std.proofs.lemmas.Bool.{eq-eqb}
use Rattle.nr_model.specs.Bytes.{Bytes}
use Rattle.nr_model.specs.Keyspace.{Key, Keyspace, Members, byte_cmp}
use Rattle.nr_model.specs.Replies.{Int}
use Rattle.nr_model.specs.Commands.Held.{deadline_of}
use Rattle.nr_model.specs.Commands.Sets.{touched_by, added, with_each}
use Rattle.nr_keyspace.proofs.Missing.{remove_missing}
use Rattle.nr_members.specs.Changed.{IsChanged}

pub none_put : (keyspace : Keyspace) (key : Key) (words : List Bytes) → map.get keyspace key ≡ None → set.len (with_each set.empty words) - set.len {R = byte_cmp} set.empty ≡ 0
    → IsChanged (added keyspace key words None) keyspace key 0
none_put keyspace key words missing none =
    let more = with_each set.empty words in
    let empty : set.len more ≡ 0 = omega (arith, none, set.len-empty byte_cmp) in
    record {
      replied = ap (λ n. Int (pos n)) (sym none);
      left = sym (ap (λ b. cond b (map.remove keyspace key) (map.insert keyspace key (record { value = Members more; deadline = deadline_of (map.get keyspace key) }))) (eq-eqb (set.len more) 0 empty)
          ∙ remove_missing keyspace key missing);
      touched = ap (touched_by key) (sym none);
      small = lit< tt;
    }
