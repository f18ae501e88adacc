-- Entries by serial, as the finite map that they are seen as.
use Rattle.std.proofs.Common.{◌≡◌, ℕ, Bool, true, false, cond, T, Option, Some, None, List, [], ◌∷◌, refl, ap, sym, ◌∙◌, subst}
use Rattle.std.specs.Prelude.{◌&&◌}
use Rattle.std.specs.declared.cmp.Ordering.TheVariants.{Less}
use Rattle.std.specs.Ordering.{eq_by_cmp, is_lt, nat_cmp}
use Rattle.std.specs.Cmp.{eq_by_cmp_equiv, nat_cmp_total}
use Rattle.std.specs.List.{AllByRecursion}
use Rattle.std.specs.List.Sorted.{IsStrictlySortedBy}
use Rattle.std.specs.Map.{keys_of, lookup}
use Rattle.std.specs.BTreeMap.{is_at}
use Rattle.std.specs.FinMap as finmap
use Rattle.std.specs.FinMap.{nat_cmp-IsAntisymmetric}
use Rattle.std.specs.FinMap.Entries as entries
use Rattle.nr_model.proofs.Ordered.{equal_from}
use Rattle.nr_job_numbers.specs.declared.account.Account.{Account}
use Rattle.nr_job_numbers.specs.Stored.{Held, put_at, changed}

abbrev pub Entries : Type 0
Entries = List (ℕ × Account)

abbrev pub seen : Entries → Held
seen es = finmap.from_sorted es

both : (a b : Bool) → T a → T b → T (a && b)
both true b p q = q
both false b p q = p

below : (x : ℕ) (es : Entries) → AllByRecursion (λ y. nat_cmp x y ≡ Less) (keys_of es) → T (entries.below_all nat_cmp x es)
below x [] all = tt
below x (e ∷ es) all = both (is_lt (nat_cmp x e.0)) _ (subst (λ r. T (is_lt r)) (sym all.0) tt) (below x es all.1)

rising : (es : Entries) → IsStrictlySortedBy nat_cmp (keys_of es) → T (entries.is_sorted nat_cmp es)
unfolding IsStrictlySortedBy
rising [] rises = tt
rising (e ∷ es) rises = both (entries.below_all nat_cmp e.0 es) _ (below e.0 es rises.0) (rising es rises.1)

found : (es : Entries) (q : ℕ) → entries.find nat_cmp q es ≡ lookup (is_at (nat_cmp q)) es
found [] q = refl
found (e ∷ es) q = ap (cond (is_at (nat_cmp q) e.0) (Some e.1)) (found es q)

pub get_seen : (es : Entries) → IsStrictlySortedBy nat_cmp (keys_of es) → (q : ℕ) → finmap.get (seen es) q ≡ lookup (is_at (nat_cmp q)) es
get_seen es rises q = finmap.get-from_sorted nat_cmp es q (rising es rises) ∙ found es q

pub none_seen : (es : Entries) → es ≡ [] → seen es ≡ finmap.empty
none_seen es none =
    finmap.same_map nat_cmp_total nat_cmp-IsAntisymmetric _ _
    (λ q. ap (λ (es : Entries). finmap.get (seen es) q) none ∙ finmap.get-from_sorted nat_cmp [] q tt ∙ sym (finmap.get-empty nat_cmp q))

-- what is looked up is what was, but at one serial
abbrev pub IsPut : ℕ → Option Account → Entries → Entries → Type 0
IsPut k w old new = (q : ℕ) → lookup (is_at (nat_cmp q)) new ≡ cond (is_at (nat_cmp k) q) w (lookup (is_at (nat_cmp q)) old)

turned : (k q : ℕ) → eq_by_cmp nat_cmp k q ≡ eq_by_cmp nat_cmp q k
turned k q = (eq_by_cmp_equiv nat_cmp_total).symm k q

pub inserted_seen : (old new : Entries) (k : ℕ) (w : Account) → IsStrictlySortedBy nat_cmp (keys_of old) → IsStrictlySortedBy nat_cmp (keys_of new)
    → IsPut k (Some w) old new → seen new ≡ finmap.insert (seen old) k w
inserted_seen old new k w rises too at = finmap.same_map nat_cmp_total nat_cmp-IsAntisymmetric _ _ (λ q.
    get_seen new too q ∙ at q ∙ ap (λ b. cond b (Some w) (lookup (is_at (nat_cmp q)) old)) (turned k q)
    ∙ sym (finmap.get-insert nat_cmp_total (seen old) k w q ∙ ap (cond (eq_by_cmp nat_cmp q k) (Some w)) (get_seen old rises q)))

pub removed_seen : (old new : Entries) (k : ℕ) → IsStrictlySortedBy nat_cmp (keys_of old) → IsStrictlySortedBy nat_cmp (keys_of new)
    → IsPut k None old new → seen new ≡ finmap.remove (seen old) k
removed_seen old new k rises too at = finmap.same_map nat_cmp_total nat_cmp-IsAntisymmetric _ _ (λ q.
    get_seen new too q ∙ at q ∙ ap (λ b. cond b None (lookup (is_at (nat_cmp q)) old)) (turned k q)
    ∙ sym (finmap.get-remove nat_cmp_total (seen old) k q ∙ ap (cond (eq_by_cmp nat_cmp q k) None) (get_seen old rises q)))

same_Some : {A : Type 0} (b : Bool) (x : A) (o : Option A) → (b ≡ true → Some x ≡ o) → cond b (Some x) o ≡ o
same_Some true x o is = is refl
same_Some false x o is = refl

-- the same account is put in its place
pub put_same : (m : Held) (k : ℕ) (a : Account) → Some a ≡ finmap.get m k → finmap.insert m k a ≡ m
put_same m k a here = finmap.same_map nat_cmp_total nat_cmp-IsAntisymmetric _ _ (λ q.
    finmap.get-insert nat_cmp_total m k a q
    ∙ same_Some (eq_by_cmp nat_cmp q k) a (finmap.get m q)
    (λ tied. here ∙ finmap.get_tied nat_cmp_total m q k (equal_from (nat_cmp q k) tied)))

shadowed : {A : Type 0} (b : Bool) (x y z : A) → cond b x (cond b y z) ≡ cond b x z
shadowed true x y z = refl
shadowed false x y z = refl

-- one is put over another
pub put_twice : (m : Held) (k : ℕ) (x y : Account) → finmap.insert (finmap.insert m k x) k y ≡ finmap.insert m k y
put_twice m k x y = finmap.same_map nat_cmp_total nat_cmp-IsAntisymmetric _ _ (λ q.
    finmap.get-insert nat_cmp_total (finmap.insert m k x) k y q
    ∙ ap (cond (eq_by_cmp nat_cmp q k) (Some y)) (finmap.get-insert nat_cmp_total m k x q)
    ∙ shadowed (eq_by_cmp nat_cmp q k) (Some y) (Some x) (finmap.get m q)
    ∙ sym (finmap.get-insert nat_cmp_total m k y q))

-- an account that is there was changed, or wasn't
pub edited : (f : Account → Account) (old new : Entries) (k : ℕ) (a w : Account) (r : Bool) → IsStrictlySortedBy nat_cmp (keys_of old)
    → IsStrictlySortedBy nat_cmp (keys_of new) → Some a ≡ lookup (is_at (nat_cmp k)) old → w ≡ cond r (f a) a → IsPut k (Some w) old new
    → seen new ≡ cond r (changed f k (seen old)) (seen old)
edited f old new k a w true rises too is w_is put =
    inserted_seen old new k w rises too put ∙ ap (finmap.insert (seen old) k) w_is
    ∙ ap (λ (o : Option Account). put_at f k o (seen old)) (is ∙ sym (get_seen old rises k))
edited f old new k a w false rises too is w_is put =
    inserted_seen old new k w rises too put ∙ ap (finmap.insert (seen old) k) w_is ∙ put_same (seen old) k a (is ∙ sym (get_seen old rises k))

-- where there is none, none is changed
pub unchanged : (f : Account → Account) (es : Entries) (k : ℕ) → IsStrictlySortedBy nat_cmp (keys_of es) → None ≡ lookup (is_at (nat_cmp k)) es
    → seen es ≡ changed f k (seen es)
unchanged f es k rises is = ap (λ (o : Option Account). put_at f k o (seen es)) (is ∙ sym (get_seen es rises k))
