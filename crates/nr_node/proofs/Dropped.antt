-- The accounts go back by what is dropped, one after the other.
use Rattle.std.proofs.Common.{◌≡◌, ℕ, ◌<◌, inl, inr, refl, ap, sym, ◌∙◌, subst, arith}
use Rattle.std.specs.Prelude.{◌⊎◌, Option, Some, None, option_map}
use Rattle.std.specs.FinMap as finmap
use Rattle.std.proofs.lemmas.Bool.Decides.{eqb_tells}
use Rattle.nr_model.specs.Items.{Connection}
use Rattle.nr_model.specs.Entries.{Jobs}
use Rattle.nr_model.specs.Asked.{own_jobs, first_number}
use Rattle.nr_model.proofs.NodesExecutedLists.{lt_or_le}
use Rattle.nr_job_numbers.specs.declared.account.Account.{Account}
use Rattle.nr_job_numbers.specs.Account.{back_by}
use Rattle.nr_job_numbers.specs.Stored.{Held, put_at, changed, gone_back, ComesAfter}
use Rattle.nr_job_numbers.specs.Book.{Book}
use Rattle.nr_job_numbers.proofs.Seen.{put_same}
use Rattle.nr_job_numbers.proofs.Steps.{put_here}
use Rattle.nr_job_numbers.proofs.Strangers.{put_elsewhere}
use Rattle.nr_node.specs.Level.{connection_at}

-- what is found where an account changed
changed_by : (f : Account → Account) (s : ℕ) (held : Held) (o : Option Account) → finmap.get held s ≡ o → finmap.get (put_at f s o held) s ≡ option_map f o
changed_by f s held None at = at
changed_by f s held (Some a) at = put_here held s (f a)

changed_here : (f : Account → Account) (s : ℕ) (held : Held) → finmap.get (changed f s held) s ≡ option_map f (finmap.get held s)
changed_here f s held = changed_by f s held (finmap.get held s) refl

elsewhere_by : (f : Account → Account) (s q : ℕ) (held : Held) (o : Option Account) → (q ≡ s → ⊥) → finmap.get (put_at f s o held) q ≡ finmap.get held q
elsewhere_by f s q held None apart = refl
elsewhere_by f s q held (Some a) apart = put_elsewhere held s q (f a) apart

changed_elsewhere : (f : Account → Account) (s q : ℕ) (held : Held) → (q ≡ s → ⊥) → finmap.get (changed f s held) q ≡ finmap.get held q
changed_elsewhere f s q held apart = elsewhere_by f s q held (finmap.get held s) apart

-- where no job is dropped the account stays
stays_by : (s : ℕ) (held : Held) (o : Option Account) → finmap.get held s ≡ o → put_at (λ (a : Account). a) s o held ≡ held
stays_by s held None at = refl
stays_by s held (Some a) at = put_same held s a (sym at)

pub none_goes_back : (dropped : Jobs) (c : Connection) (s : ℕ) (held : Held) → first_number (own_jobs c dropped) ≡ None → changed (gone_back dropped c) s held ≡ held
none_goes_back dropped c s held none =
    ap (λ (number : Option ℕ). changed (back_by number) s held) none ∙ stays_by s held (finmap.get held s) refl

-- accounts up to one have gone back, and those after it are as they were
pub record GoesBackTo (dropped : Jobs) (last : Option ℕ) (old now : Book) : Type 0 where
  pub node : now.node ≡ old.node
  pub numbers : now.last ≡ old.last
  pub back : (serial : ℕ) → (ComesAfter last serial → ⊥)
      → finmap.get now.held serial ≡ option_map (gone_back dropped (connection_at old.node serial)) (finmap.get old.held serial)
  pub rest : (serial : ℕ) → ComesAfter last serial → finmap.get now.held serial ≡ finmap.get old.held serial

after_or_not : (last : Option ℕ) (serial : ℕ) → ComesAfter last serial ⊎ (ComesAfter last serial → ⊥)
after_or_not None serial = inl tt
after_or_not (Some last) serial = elim (lt_or_le last serial) [ inl after ↦ inl after | inr before ↦ inr (λ after. omega (arith, before, after)) ]

after_both : (last : Option ℕ) (s q : ℕ) → ComesAfter last s → s < q → ComesAfter last q
after_both None s q first next = tt
after_both (Some last) s q first next = omega (arith, first, next)

none_mapped : (f : Account → Account) (o : Option Account) → o ≡ None → None ≡ option_map f o
none_mapped f o none = sym (ap (option_map f) none)

-- the next one goes back
pub goes_back_more : (dropped : Jobs) (last : Option ℕ) (s : ℕ) (old now new : Book) → ComesAfter last s
    → ((other : ℕ) → ComesAfter last other → other < s → finmap.get now.held other ≡ None)
    → new ≡ record now { held = changed (gone_back dropped (connection_at now.node s)) s now.held }
    → GoesBackTo dropped last old now → GoesBackTo dropped (Some s) old new
goes_back_more dropped last s old now new next between is so =
    let f = λ (q : ℕ). gone_back dropped (connection_at old.node q) in
    let g = gone_back dropped (connection_at now.node s) in
    let held : new.held ≡ changed g s now.held = ap (λ (b : Book). b.held) is in
    let at : (q : ℕ) → finmap.get new.held q ≡ finmap.get (changed g s now.held) q = λ q. ap (λ (h : Held). finmap.get h q) held in
    record {
      node = ap (λ (b : Book). b.node) is ∙ so.node;
      numbers = ap (λ (b : Book). b.last) is ∙ so.numbers;
      back = λ q before. elim (eqb_tells q s) [
        | inl here ↦
            subst (λ (n : ℕ). finmap.get new.held n ≡ option_map (f n) (finmap.get old.held n)) (sym here.1)
            (at s ∙ changed_here g s now.held
            ∙ (λ i. option_map (gone_back dropped (connection_at (so.node i) s)) (so.rest s next i)))
        | inr apart ↦ at q ∙ changed_elsewhere g s q now.held apart.1 ∙ elim (after_or_not last q) [
          | inl after ↦
              let below : q < s = elim (lt_or_le q s) [ inl less ↦ less | inr more ↦ absurd (before (omega (arith, more, apart.1))) ] in
              between q after below ∙ none_mapped (f q) (finmap.get old.held q) (sym (so.rest q after) ∙ between q after below)
          | inr early ↦ so.back q early
        ]
      ];
      rest = λ q after.
          let apart : q ≡ s → ⊥ = λ same. omega (arith, after, same) in
          at q ∙ changed_elsewhere g s q now.held apart ∙ so.rest q (after_both last s q next after);
    }
