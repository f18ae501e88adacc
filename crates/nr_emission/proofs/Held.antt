-- Emissions that are held back stay what they are while more bytes come behind them.
use Rattle.std.proofs.Common.{◌≡◌, ℕ, suc, zero, ◌+◌, ◌-◌, ◌≤◌, ◌<◌, List, [], ◌∷◌, ◌++◌, length, map, refl, ap, sym, ◌∙◌, subst, arith}
use Rattle.std.specs.Prelude.{take, drop, slice_index_or}
use Rattle.std.proofs.lemmas.List.{length-append, length-drop, map-append, take-append-le, drop-append-le, take_all}
use Rattle.std.proofs.Math.Seq.{drop-append_seam}
use Rattle.nr_model.specs.Bytes.{Bytes}
use Rattle.nr_entry.specs.declared.conn.ConnId.{ConnId}
use Rattle.nr_entry.specs.Jobs.{connection_of}
use Rattle.nr_emission.specs.Staged.{written_in, IsWithin, AreWithin, bytes_named, AreHeld}
use Rattle.nr_emission.specs.declared.staging.Staged.{Staged}
use Rattle.nr_emission.specs.declared.staging.Staged.TheVariants.{Reply, Message}

-- a range of one of them
pub reply_within : (bytes : Bytes) (all : List Staged) (i : ℕ) (d : Staged) (conn : ConnId) (from len : ℕ) → AreWithin bytes all → i < length all
    → slice_index_or all i d ≡ Reply conn from len → from + len ≤ length bytes
reply_within bytes [] i d conn from len within below is = omega (arith, below)
reply_within bytes (one ∷ all) zero d conn from len within below is = subst (IsWithin bytes) is within.0
reply_within bytes (one ∷ all) (suc i) d conn from len within below is = reply_within bytes all i d conn from len within.1 (omega (arith, below)) is

-- with more bytes behind
one_kept : (bytes more : Bytes) (one : Staged) → IsWithin bytes one → written_in (bytes ++ more) one ≡ written_in bytes one
one_kept bytes more (Reply conn from len) within =
    let short : from ≤ length bytes = omega (arith, within) in
    let long : len ≤ length (drop from bytes) = omega (arith, within, length-drop from bytes) in
    let same : take len (drop from (bytes ++ more)) ≡ take len (drop from bytes) =
    ap (take len) (drop-append-le from bytes more short) ∙ take-append-le len (drop from bytes) more long in
    λ i. record { connection = connection_of conn; bytes = same i }
one_kept bytes more (Message conn message) within = refl

one_within : (bytes more : Bytes) (one : Staged) → IsWithin bytes one → IsWithin (bytes ++ more) one
one_within bytes more (Reply conn from len) within = omega (arith, within, length-append bytes more)
one_within bytes more (Message conn message) within = within

all_kept : (bytes more : Bytes) (all : List Staged) → AreWithin bytes all → map (written_in (bytes ++ more)) all ≡ map (written_in bytes) all
all_kept bytes more [] within = refl
all_kept bytes more (one ∷ all) within = λ i. one_kept bytes more one within.0 i ∷ all_kept bytes more all within.1 i

all_within : (bytes more : Bytes) (all : List Staged) → AreWithin bytes all → AreWithin (bytes ++ more) all
all_within bytes more [] within = tt
all_within bytes more (one ∷ all) within = (one_within bytes more one within.0, all_within bytes more all within.1)

-- with one more
and_one : (bytes : Bytes) (all : List Staged) (one : Staged) → AreWithin bytes all → IsWithin bytes one → AreWithin bytes (all ++ one ∷ [])
and_one bytes [] one within last = (last, tt)
and_one bytes (first ∷ all) one within last = (within.0, and_one bytes all one within.1 last)

named_more : (all : List Staged) (one : Staged) → bytes_named (all ++ one ∷ []) ≡ bytes_named all + bytes_named (one ∷ [])
named_more [] one = omega arith
named_more (Reply conn from len ∷ all) one = omega (arith, named_more all one)
named_more (Message conn message ∷ all) one = named_more all one

-- a reply is written
pub reply_held : (bytes text bytes' : Bytes) (all all' : List Staged) (conn : ConnId) (from len : ℕ) → bytes' ≡ bytes ++ text → from ≡ length bytes
    → len ≡ length bytes' - from → all' ≡ all ++ Reply conn from len ∷ [] → AreHeld bytes all → AreHeld bytes' all'
reply_held bytes text bytes' all all' conn from len is start size more held =
    let long : length bytes' ≡ length bytes + length text = ap length is ∙ length-append bytes text in
    let before : AreWithin bytes' all = subst (λ (b : Bytes). AreWithin b all) (sym is) (all_within bytes text all held.within) in
    record {
      within = subst (AreWithin bytes') (sym more) (and_one bytes' all (Reply conn from len) before (omega (arith, start, size, long)));
      exact = omega (arith, start, size, long, held.exact, ap bytes_named more, named_more all (Reply conn from len));
    }

pub reply_seen : (bytes text bytes' : Bytes) (all all' : List Staged) (conn : ConnId) (from len : ℕ) → bytes' ≡ bytes ++ text → from ≡ length bytes
    → len ≡ length bytes' - from → all' ≡ all ++ Reply conn from len ∷ [] → AreHeld bytes all
    → map (written_in bytes') all' ≡ map (written_in bytes) all ++ record { connection = connection_of conn; bytes = text } ∷ []
reply_seen bytes text bytes' all all' conn from len is start size more held =
    let long : length bytes' ≡ length bytes + length text = ap length is ∙ length-append bytes text in
    let old : map (written_in bytes') all ≡ map (written_in bytes) all =
    ap (λ (b : Bytes). map (written_in b) all) is ∙ all_kept bytes text all held.within in
    let behind : drop from bytes' ≡ text = (λ i. drop (start i) (is i)) ∙ drop-append_seam bytes text in
    let whole : take len (drop from bytes') ≡ text = ap (take len) behind ∙ take_all len text (omega (arith, start, size, long)) in
    ap (map (written_in bytes')) more
    ∙ map-append (written_in bytes') all (Reply conn from len ∷ [])
    ∙ (λ i. old i ++ record { connection = connection_of conn; bytes = whole i } ∷ [])

-- a message is kept
pub message_held : (bytes : Bytes) (all all' : List Staged) (one : Staged) → all' ≡ all ++ one ∷ [] → IsWithin bytes one → bytes_named (one ∷ []) ≡ 0
    → AreHeld bytes all → AreHeld bytes all'
message_held bytes all all' one more last none held = record {
  within = subst (AreWithin bytes) (sym more) (and_one bytes all one held.within last);
  exact = omega (arith, held.exact, ap bytes_named more, named_more all one, none);
}
