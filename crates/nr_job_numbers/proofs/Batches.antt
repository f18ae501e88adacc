-- What becomes of a batch.
use Rattle.std.proofs.Common.{◌≡◌, ℕ, ◌<◌, ◌≤◌, Bool, true, false, cond, not, Option, Some, None, List, [], ◌∷◌, zero, suc, length, get_or, set, refl, ap, ◌∙◌, eqb, ltb}
use Rattle.std.specs.Prelude.{◌&&◌, ◌||◌}
use Rattle.std.proofs.lemmas.Bool.{or_left, or_right, or_from, not_from_true, not_from_false, eq-eqb, ne_eqb, lt-ltb, le-ltb}
use Rattle.std.proofs.lemmas.List.{set-get_or}
use Rattle.nr_model.specs.Entries.{Jobs}
use Rattle.nr_entry.specs.declared.batch.Refusal.{Refusal}
use Rattle.nr_entry.specs.declared.batch.Refusal.TheVariants.{Stranger, WrongNumber}
use Rattle.nr_job_numbers.specs.Stored.{takes_all, has_stranger}
use Rattle.nr_job_numbers.specs.Book.{Book, is_above, last_of, is_strange_batch, is_in_order, refusal_by}
use Rattle.nr_job_numbers.proofs.Strangers.{no_stranger, plain_at_first}

-- by whether it is a stranger's, and whether it is in order
abbrev by_both : Bool → Bool → Option Refusal
by_both strange ordered = cond strange (Some Stranger) (cond ordered None (Some WrongNumber))

-- it names another node, or a worker that there isn't
pub other_node : (book : Book) (node worker number : ℕ) (jobs : Jobs) → (node ≡ book.node → ⊥) → refusal_by book node worker number jobs ≡ Some Stranger
other_node book node worker number jobs apart =
    ap (λ (b : Bool). by_both b (is_in_order book worker number jobs))
    (or_left _ _ (or_left (not (eqb node book.node)) (not (ltb worker (length book.last))) (not_from_false _ (ne_eqb node book.node apart))))

pub no_worker : (book : Book) (node worker number : ℕ) (jobs : Jobs) → length book.last ≤ worker → refusal_by book node worker number jobs ≡ Some Stranger
no_worker book node worker number jobs past =
    ap (λ (b : Bool). by_both b (is_in_order book worker number jobs))
    (or_left _ _ (or_right (not (eqb node book.node)) (not (ltb worker (length book.last))) (not_from_false _ (le-ltb worker (length book.last) past))))

-- it is of this node and one of its workers
named : (book : Book) (node worker : ℕ) → node ≡ book.node → worker < length book.last
    → (not (eqb node book.node) || not (ltb worker (length book.last))) ≡ false
named book node worker own there =
    or_from _ _ (not_from_true _ (eq-eqb node book.node own)) (not_from_true _ (lt-ltb worker (length book.last) there))

pub due : (book : Book) (node worker number : ℕ) (jobs : Jobs) → node ≡ book.node → worker < length book.last → is_above number (last_of book worker) ≡ true
    → takes_all book.node worker book.held jobs ≡ true → refusal_by book node worker number jobs ≡ None
due book node worker number jobs own there above all =
    let ordered : is_in_order book worker number jobs ≡ true = (λ i. above i && all i) in
    let plain : is_strange_batch book node worker jobs ≡ false =
    or_from _ _ (named book node worker own there) (no_stranger book.node worker book.held book.held [] jobs (plain_at_first book.node worker book.held) all) in
    λ i. by_both (plain i) (ordered i)

pub strange : (book : Book) (node worker number : ℕ) (jobs : Jobs) → has_stranger book.node worker book.held [] jobs ≡ true
    → refusal_by book node worker number jobs ≡ Some Stranger
strange book node worker number jobs found =
    ap (λ (b : Bool). by_both b (is_in_order book worker number jobs)) (or_right _ _ found)

pub out_of_order : (book : Book) (node worker number : ℕ) (jobs : Jobs) → node ≡ book.node → worker < length book.last
    → has_stranger book.node worker book.held [] jobs ≡ false → is_in_order book worker number jobs ≡ false
    → refusal_by book node worker number jobs ≡ Some WrongNumber
out_of_order book node worker number jobs own there plain wrong =
    let known : is_strange_batch book node worker jobs ≡ false = or_from _ _ (named book node worker own there) plain in
    λ i. by_both (known i) (wrong i)

-- what is due was taken whole
taken_by : (strange above all : Bool) → by_both strange (above && all) ≡ None → all ≡ true
taken_by true above all e = absurd (cc e)
taken_by false true true e = refl
taken_by false true false e = absurd (cc e)
taken_by false false all e = absurd (cc e)

pub all_of_due : (book : Book) (node worker number : ℕ) (jobs : Jobs) → refusal_by book node worker number jobs ≡ None
    → takes_all book.node worker book.held jobs ≡ true
all_of_due book node worker number jobs e =
    taken_by (is_strange_batch book node worker jobs) (is_above number (last_of book worker)) (takes_all book.node worker book.held jobs) e

-- the number before is put back
set_twice : {A : Type 0} (xs : List A) (i : ℕ) (x y : A) → set (set xs i x) i y ≡ set xs i y
set_twice [] i x y = refl
set_twice (z ∷ xs) zero x y = refl
set_twice (z ∷ xs) (suc i) x y = ap (λ zs. z ∷ zs) (set_twice xs i x y)

pub put_back : (last : List (Option ℕ)) (i : ℕ) (x before : Option ℕ) → before ≡ get_or last i None → set (set last i x) i before ≡ last
put_back last i x before is = set_twice last i x before ∙ ap (set last i) is ∙ set-get_or last i None
