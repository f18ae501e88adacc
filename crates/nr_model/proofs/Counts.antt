-- How many frames bytes can hold, and how many deeds they ask for.
use Rattle.std.proofs.Common.{◌≡◌, ℕ, zero, suc, ◌+◌, ◌<◌, ◌≤◌, List, [], ◌∷◌, length, ap, arith, false}
use Rattle.nr_model.specs.Bytes.{Bytes}
use Rattle.nr_model.specs.Requests.{Front, Whole, Faulty, Partial, request_at, Framing, with_request, unfinished, broken, frames_within, framing_of}
use Rattle.std.specs.Prelude.{Option}
use Rattle.nr_model.specs.declared.fault.Fault.{Fault}
use Rattle.nr_model.specs.declared.command.Command.{Command}
use Rattle.nr_model.specs.Modes.{Mode, last_deed, framed_conversation}
use Rattle.nr_model.proofs.Fronts.{Leaves, request_leaves}
use Rattle.nr_model.proofs.Conversing.{no_fault, deeds_at_most, last_at_most}

-- the frames, and the bytes of the rest
abbrev counted : Framing → ℕ
counted framing = length framing.frames + length framing.rest

one_more : (n : ℕ) (words : List Bytes) (framing : Framing) → counted framing ≤ n → counted (with_request words framing) ≤ suc n
one_more n [] framing h = omega arith
one_more n (word ∷ words) framing h = omega arith

abbrev by_front : Front (List Bytes) → ℕ → Bytes → Framing
by_front front n bytes =
    elim front [
      | Whole words rest ↦ with_request words (frames_within n rest)
      | Faulty fault ↦ broken fault
      | Partial ↦ unfinished bytes
    ]

next_fewer : (front : Front (List Bytes)) (n : ℕ) (bytes : Bytes) → Leaves (λ rest. length rest < length bytes) front
    → ((rest : Bytes) → counted (frames_within n rest) ≤ length rest) → counted (by_front front n bytes) ≤ length bytes
next_fewer (Whole words rest) n bytes left h = omega (arith, one_more (length rest) words (frames_within n rest) (h rest), left)
next_fewer (Faulty fault) n bytes left h = omega arith
next_fewer Partial n bytes left h = omega arith

within : (n : ℕ) (bytes : Bytes) → counted (frames_within n bytes) ≤ length bytes
unfolding frames_within
within zero bytes = omega arith
within (suc n) bytes = next_fewer (request_at bytes) n bytes (request_leaves bytes) (within n)

-- each frame takes a byte at least, and the rest has the others
pub frames_and_rest_le_bytes : (bytes : Bytes) → length (framing_of bytes).frames + length (framing_of bytes).rest ≤ length bytes
unfolding framing_of
frames_and_rest_le_bytes bytes = within (length bytes) bytes

-- no more frames than bytes
pub frames_le_bytes : (bytes : Bytes) → length (framing_of bytes).frames ≤ length bytes
frames_le_bytes bytes = omega (arith, frames_and_rest_le_bytes bytes)

-- no more deeds than bytes, but for one
pub deeds_le_bytes : (table : List Command) (mode : Mode) (bytes : Bytes) → length (framed_conversation table mode (framing_of bytes)).deeds ≤ suc (length bytes)
deeds_le_bytes table mode bytes =
    let framing = framing_of bytes in
    omega (arith, frames_le_bytes bytes, deeds_at_most table mode framing.frames framing.fault, last_at_most framing.fault mode)

-- while a connection goes on, each deed takes a byte at least, and the rest has the others
pub deeds_and_rest_le_bytes : (table : List Command) (mode : Mode) (bytes : Bytes) → (framed_conversation table mode (framing_of bytes)).ended ≡ false
    → length (framed_conversation table mode (framing_of bytes)).deeds + length (framing_of bytes).rest ≤ length bytes
deeds_and_rest_le_bytes table mode bytes on =
    let framing = framing_of bytes in
    let none : length (last_deed framing.fault mode).deeds ≡ 0 =
    ap (λ (fault : Option Fault). length (last_deed fault mode).deeds) (no_fault table mode framing.frames framing.fault on) in
    omega (arith, frames_and_rest_le_bytes bytes, deeds_at_most table mode framing.frames framing.fault, none)
