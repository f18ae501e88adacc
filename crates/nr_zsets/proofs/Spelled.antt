-- Numbers in bytes, the highest first.
use Rattle.std.proofs.Common.{◌≡◌, ℕ, zero, suc, ◌+◌, ◌-◌, ◌*◌, ◌/◌, ◌%◌, ◌^◌, ◌<◌, ◌≤◌, true, cond, nat_lt, ◌∷◌, length, drop, set, ap, ◌∙◌, arith}
use Rattle.std.specs.Prelude.{fold}
use Rattle.std.proofs.Math.Nat.{pow-suc}
use Rattle.std.proofs.lemmas.Bool.{lt-ltb}
use Rattle.std.proofs.lemmas.List.{drop-set}
use Rattle.nr_model.specs.Bytes.{Bytes}
use Rattle.nr_zsets.specs.Forms.{next_number}

-- something that is left has room in front of what was written
pub some_room : (left start : ℕ) → 0 < left → left < 256 ^ start → 0 < start
some_room left zero some room = absurd (omega (arith, some, room))
some_room left (suc start) some room = omega arith

pub less_left : (left start : ℕ) → 0 < start → left < 256 ^ start → left / 256 < 256 ^ (start - 1)
less_left left zero some room = absurd (omega (arith, some))
less_left left (suc start) some room =
    let same : suc start - 1 ≡ start = omega arith in
    rw same (omega (arith, pow-suc 256 start, room))

-- a byte written in front
pub one_written : (left start : ℕ) (bytes new : Bytes) (all : ℕ) → left < 2 ^ 64 → 0 < start → start ≤ length bytes → new ≡ set bytes (start - 1) (left % 256)
    → fold next_number left (drop start bytes) ≡ all → fold next_number (left / 256) (drop (start - 1) new) ≡ all
one_written left start bytes new all fits some within put so_far =
    let next : start - 1 + 1 ≡ start = omega (arith, some) in
    let room : nat_lt (left / 256) (2 ^ 56) ≡ true = lt-ltb (left / 256) (2 ^ 56) (omega (arith, fits)) in
    let back : left / 256 * 256 + left % 256 ≡ left = omega arith in
    ap (λ bs. fold next_number (left / 256) (drop (start - 1) bs)) put
    ∙ ap (fold next_number (left / 256)) (drop-set bytes (start - 1) (left % 256) (omega (arith, some, within)) ∙ ap (λ n. left % 256 ∷ drop n bytes) next)
    ∙ ap (λ b. fold next_number (cond b (left / 256 * 256 + left % 256) 0) (drop start bytes)) room
    ∙ ap (λ n. fold next_number n (drop start bytes)) back ∙ so_far
