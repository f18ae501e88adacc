-- Accounts go back to the first job that is dropped: what was taken before is what they say.
use Rattle.std.proofs.Common.{◌≡◌, ℕ, zero, suc, ◌+◌, Option, Some, None, List, [], ◌∷◌, ◌++◌, length, map, refl, ap, sym, ◌∙◌, subst, arith}
use Rattle.std.specs.Prelude.{option_map}
use Rattle.std.specs.List.{range_with_len}
use Rattle.std.specs.FinMap as finmap
use Rattle.std.proofs.lemmas.List.{map-append, append-nil}
use Rattle.std.proofs.lemmas.List.Elements.{filter-append}
use Rattle.nr_model.specs.Items.{Connection, same_connection, Item}
use Rattle.nr_model.specs.Entries.{Jobs}
use Rattle.nr_model.specs.Asked.{own_jobs, first_number}
use Rattle.nr_job_numbers.specs.declared.account.Account.{Account}
use Rattle.nr_job_numbers.specs.Account.{back_by}
use Rattle.nr_job_numbers.specs.Stored.{gone_back, numbers_in, CountsTo, AreTaken}
use Rattle.nr_job_numbers.specs.Book.{Book, HasTaken, HasGoneBack}
use Rattle.nr_job_numbers.proofs.Counts.{conn_at}

-- the first of numbers that count up count up, and the next one goes on
front_counts : (a n : ℕ) (xs ys : List ℕ) → xs ++ ys ≡ range_with_len a n → xs ≡ range_with_len a (length xs)
front_counts a n [] ys e = refl
front_counts a zero (x ∷ xs) ys e = absurd (cc e)
front_counts a (suc n) (x ∷ xs) ys e =
    let first : x ≡ a = cc e in
    let rest : xs ++ ys ≡ range_with_len (a + 1) n = cc e in
    let more = front_counts (a + 1) n xs ys rest in
    λ i. first i ∷ more i

next_counts : (a n k : ℕ) (xs ys : List ℕ) → xs ++ k ∷ ys ≡ range_with_len a n → k ≡ a + length xs
next_counts a zero k [] ys e = absurd (cc e)
next_counts a zero k (x ∷ xs) ys e = absurd (cc e)
next_counts a (suc n) k [] ys e =
    let first : k ≡ a = cc e in
    omega (arith, first)
next_counts a (suc n) k (x ∷ xs) ys e =
    let rest : xs ++ k ∷ ys ≡ range_with_len (a + 1) n = cc e in
    let more = next_counts (a + 1) n k xs ys rest in
    omega (arith, more)

-- one account
back_counts : (a : Account) (done : List ℕ) (own : Jobs) → done ++ map (λ (j : Item). j.number) own ≡ range_with_len 0 a.next
    → done ≡ range_with_len 0 (back_by (first_number own) a).next
back_counts a done [] counts = sym (append-nil done) ∙ counts
back_counts a done (job ∷ own) counts =
    let first = next_counts 0 a.next job.number done (map (λ (j : Item). j.number) own) counts in
    let many : length done ≡ job.number = omega (arith, first) in
    front_counts 0 a.next done (job.number ∷ map (λ (j : Item). j.number) own) counts ∙ ap (range_with_len 0) many

back_by_option : (c : Connection) (o : Option Account) (dropped : Jobs) (done : List ℕ) → CountsTo (λ account. account.next) o (done ++ numbers_in c dropped)
    → CountsTo (λ account. account.next) (option_map (gone_back dropped c) o) done
back_by_option c None dropped done counts = front_counts 0 (length (done ++ numbers_in c dropped)) done (numbers_in c dropped) counts
back_by_option c (Some a) dropped done counts = back_counts a done (own_jobs c dropped) counts

both_numbers : (c : Connection) (done dropped : Jobs) → numbers_in c (done ++ dropped) ≡ numbers_in c done ++ numbers_in c dropped
both_numbers c done dropped =
    ap (map (λ (j : Item). j.number)) (filter-append (λ (j : Item). same_connection j.connection c) done dropped)
    ∙ map-append (λ (j : Item). j.number) (own_jobs c done) (own_jobs c dropped)

-- Where the last of the jobs that were taken are dropped, and the accounts go back, those before them are what was taken.
pub back_taken : (book new : Book) (done dropped : Jobs) → HasTaken book (done ++ dropped) → HasGoneBack dropped book new → HasTaken new done
back_taken book new done dropped taken back =
    subst (λ (node : ℕ). AreTaken node new.held done) (sym back.node) (λ serial.
    let c = conn_at book.node serial in
    subst (λ (o : Option Account). CountsTo (λ (account : Account). account.next) o (numbers_in c done)) (sym (back.accounts serial))
    (back_by_option c (finmap.get book.held serial) dropped (numbers_in c done)
    (subst (CountsTo (λ (account : Account). account.next) (finmap.get book.held serial)) (both_numbers c done dropped) (taken serial))))
