-- What the connections of a script are handed, and the lines that show it.
use Rattle.std.proofs.Common.{◌≡◌, ℕ, suc, ◌+◌, ◌-◌, ◌≤◌, ◌<◌, List, [], ◌∷◌, ◌++◌, length, map, take, drop, get_or, set, refl, ap, sym, ◌∙◌, arith, append_assoc, append-nil}
use Rattle.std.proofs.lemmas.List.{map-append, length-append, length-map, length-take-le, length-drop, get_or-append_right, get_or-drop, get_or_default, take_more}
use Rattle.std.proofs.lemmas.List.Edits.{map_over_more}
use Rattle.nr_model.specs.Bytes.{Bytes}
use Rattle.nr_model.specs.Connections.{Handed, handed_to}
use Rattle.nr_model.proofs.Exchanged.{handed_to-append}
use Rattle.nr_world.specs.declared.step.HandedBytes as out
use Rattle.nr_world.specs.Seen.{handed_seen}
use Rattle.nr_script.specs.Receivers.{Received, with_handed, emptied, received_line, received_lines}

-- nothing was handed out
pub handed_none : (all : List Received) → all ≡ map (with_handed []) all
handed_none [] = refl
handed_none (r ∷ all) = λ i. (let b = sym (append-nil r.bytes) in let x : Received = record { connection = r.connection; bytes = b i } in x) ∷ handed_none all i

-- these, and then those
handed_both : (first more : List Handed) (all : List Received) → map (with_handed more) (map (with_handed first) all) ≡ map (with_handed (first ++ more)) all
handed_both first more [] = refl
handed_both first more (r ∷ all) =
    let b : (r.bytes ++ handed_to r.connection first) ++ handed_to r.connection more ≡ r.bytes ++ handed_to r.connection (first ++ more) =
    append_assoc r.bytes (handed_to r.connection first) (handed_to r.connection more)
    ∙ ap (λ (x : Bytes). r.bytes ++ x) (sym (handed_to-append r.connection first more)) in
    λ i. (let x : Received = record { connection = r.connection; bytes = b i } in x) ∷ handed_both first more all i

-- what was handed to each is taken away
pub emptied_handed : (handed : List Handed) (all : List Received) → map emptied (map (with_handed handed) all) ≡ map emptied all
emptied_handed handed [] = refl
emptied_handed handed (r ∷ all) = ap (λ (rs : List Received). emptied r ∷ rs) (emptied_handed handed all)

-- one more behind the others
lines_more : (n : ℕ) (all : List Received) (r : Received) → received_lines n (all ++ r ∷ []) ≡ received_lines n all ++ received_line (n + length all) r.bytes
lines_more n [] r =
    let same : n ≡ n + 0 = omega arith in
    append-nil (received_line n r.bytes) ∙ ap (λ (k : ℕ). received_line k r.bytes) same
lines_more n (x ∷ all) r =
    let same : suc n + length all ≡ n + suc (length all) = omega arith in
    ap (λ (b : Bytes). received_line n x.bytes ++ b) (lines_more (suc n) all r ∙ ap (λ (k : ℕ). received_lines (suc n) all ++ received_line k r.bytes) same)
    ∙ sym (append_assoc (received_line n x.bytes) (received_lines (suc n) all) (received_line (n + suc (length all)) r.bytes))

-- each is changed in place, up to a number
changed_long : (f : Received → Received) (xs ys : List Received) (i : ℕ) → i ≤ length xs → ys ≡ map f (take i xs) ++ drop i xs → length ys ≡ length xs
changed_long f xs ys i within is =
    let a : length ys ≡ length (map f (take i xs)) + length (drop i xs) = ap length is ∙ length-append (map f (take i xs)) (drop i xs) in
    let b : length (map f (take i xs)) ≡ i = length-map (take i xs) f ∙ length-take-le i xs within in
    let c : length (drop i xs) ≡ length xs - i = length-drop i xs in
    omega arith

pub changed_more : (f : Received → Received) (xs ys : List Received) (i : ℕ) (d new : Received) → i < length xs → ys ≡ map f (take i xs) ++ drop i xs
    → new ≡ f (get_or ys i d) → set ys i new ≡ map f (take (i + 1) xs) ++ drop (i + 1) xs
changed_more f xs ys i d new below is new_is =
    let long = changed_long f xs ys i (omega arith) is in
    let within : i < length ys = omega arith in
    ap (set ys i) new_is ∙ map_over_more f xs ys i (get_or ys i d) below is (get_or_default ys i d (get_or ys i d) within)

-- the next is as it was
next_is : (f : Received → Received) (xs ys : List Received) (i : ℕ) (d : Received) → i ≤ length xs → ys ≡ map f (take i xs) ++ drop i xs
    → get_or ys i d ≡ get_or xs i d
next_is f xs ys i d within is =
    let long : length (map f (take i xs)) ≡ i = length-map (take i xs) f ∙ length-take-le i xs within in
    let same : i + (i - i) ≡ i = omega arith in
    ap (λ (zs : List Received). get_or zs i d) is ∙ get_or-append_right (map f (take i xs)) (drop i xs) i i d long (omega arith)
    ∙ get_or-drop i xs (i - i) d ∙ ap (λ (k : ℕ). get_or xs k d) same

pub nobody : Received
nobody = record { connection = record { node = 0; serial = 0 }; bytes = [] }

-- one of them was emptied, and its line printed
pub emptied_more : (xs ys new : List Received) (i : ℕ) → i < length xs → ys ≡ map emptied (take i xs) ++ drop i xs
    → ((d : Received) → i < length ys → new ≡ set ys i (emptied (get_or ys i d))) → new ≡ map emptied (take (i + 1) xs) ++ drop (i + 1) xs
emptied_more xs ys new i below is left =
    let long = changed_long emptied xs ys i (omega arith) is in
    left nobody (omega arith) ∙ changed_more emptied xs ys i nobody (emptied (get_or ys i nobody)) below is refl

pub printed_more : (xs ys : List Received) (i : ℕ) (bytes before now after : Bytes) → i < length xs → ys ≡ map emptied (take i xs) ++ drop i xs
    → ((d : Received) → i < length ys → bytes ≡ (get_or ys i d).bytes) → now ≡ before ++ received_lines 0 (take i xs) → after ≡ now ++ received_line i bytes
    → after ≡ before ++ received_lines 0 (take (i + 1) xs)
printed_more xs ys i bytes before now after below is taken first more =
    let long = changed_long emptied xs ys i (omega arith) is in
    let r = get_or xs i nobody in
    let bytes_is : bytes ≡ r.bytes = taken nobody (omega arith) ∙ ap (λ (x : Received). x.bytes) (next_is emptied xs ys i nobody (omega arith) is) in
    let count : 0 + length (take i xs) ≡ i = (let e = length-take-le i xs (omega arith) in omega arith) in
    let lines : received_lines 0 (take (i + 1) xs) ≡ received_lines 0 (take i xs) ++ received_line i bytes =
    ap (received_lines 0) (take_more xs i nobody below) ∙ lines_more 0 (take i xs) r
    ∙ (λ j. received_lines 0 (take i xs) ++ received_line (count j) (sym bytes_is j)) in
    more ∙ (λ j. first j ++ received_line i bytes) ∙ append_assoc before (received_lines 0 (take i xs)) (received_line i bytes)
    ∙ ap (λ (b : Bytes). before ++ b) (sym lines)

-- a part more was handed out
pub part_more : (handed : List out.HandedBytes) (i : ℕ) (part : out.HandedBytes) (all ys zs : List Received) → i < length handed → part ≡ get_or handed i part
    → ys ≡ map (with_handed (map handed_seen (take i handed))) all → zs ≡ map (with_handed (handed_seen part ∷ [])) ys
    → zs ≡ map (with_handed (map handed_seen (take (i + 1) handed))) all
part_more handed i part all ys zs below is before more =
    let grown : map handed_seen (take (i + 1) handed) ≡ map handed_seen (take i handed) ++ handed_seen part ∷ [] =
    ap (map handed_seen) (take_more handed i part below) ∙ map-append handed_seen (take i handed) (get_or handed i part ∷ [])
    ∙ ap (λ (h : out.HandedBytes). map handed_seen (take i handed) ++ handed_seen h ∷ []) (sym is) in
    more ∙ ap (map (with_handed (handed_seen part ∷ []))) before ∙ handed_both (map handed_seen (take i handed)) (handed_seen part ∷ []) all
    ∙ ap (λ (hs : List Handed). map (with_handed hs) all) (sym grown)

-- lines behind a line
pub lines_behind : (before line lines now after : Bytes) → now ≡ before ++ line → after ≡ now ++ lines → after ≡ before ++ (line ++ lines)
lines_behind before line lines now after first more = more ∙ (λ i. first i ++ lines) ∙ append_assoc before line lines
