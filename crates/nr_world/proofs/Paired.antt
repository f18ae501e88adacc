-- The connections of a node side by side, and how many of them aren't closed, where one is opened, fed or closed.
use Rattle.std.proofs.Common.{◌≡◌, ℕ, zero, suc, ◌+◌, ◌<◌, Bool, true, false, cond, List, [], ◌∷◌, ◌++◌, length, get_or, set, refl, ap, sym, ◌∙◌, subst, arith}
use Rattle.std.specs.Prelude.{filter, not, ◌||◌}
use Rattle.std.proofs.lemmas.List.{length-append}
use Rattle.std.proofs.lemmas.List.Elements.{filter-append}
use Rattle.std.proofs.lemmas.List.Sums.{sum_by-set, get_or-le-sum_by, length-filter}
use Rattle.nr_model.specs.Nodes as nodes
use Rattle.nr_session.specs.SessionState.{SessionState}
use Rattle.nr_replica.specs.Members.{Member, closed_member}
use Rattle.nr_replica.specs.Replicas.{ReplicaState}
use Rattle.nr_world.specs.declared.node.WorldNode.{WorldNode}
use Rattle.nr_world.specs.Served.{client_seen, clients_seen}
use Rattle.nr_world.specs.BySerial.{closed_session}
use Rattle.nr_world.specs.Whole.{IsPair, ArePaired, IsWhole}
use Rattle.nr_world.proofs.Sides.{length-both, get_or-both, both-set_left, both-set, both-push}

-- there are as many sessions as members, and those of one number are a pair
pub paired_many : (n first : ℕ) (ss : List SessionState) (ms : List Member) → ArePaired n first ss ms → length ss ≡ length ms
paired_many n first [] [] p = refl
paired_many n first [] (m ∷ ms) p = absurd p
paired_many n first (s ∷ ss) [] p = absurd p
paired_many n first (s ∷ ss) (m ∷ ms) (p, ps) = ap suc (paired_many n (suc first) ss ms ps)

pub pair_at : (n first i : ℕ) (ss : List SessionState) (ms : List Member) (d : SessionState) (e : Member) → i < length ss → ArePaired n first ss ms
    → IsPair n (first + i) (get_or ss i d) (get_or ms i e)
pair_at n first i [] [] d e h p = absurd (omega arith)
pair_at n first i [] (m ∷ ms) d e h p = absurd p
pair_at n first i (s ∷ ss) [] d e h p = absurd p
pair_at n first zero (s ∷ ss) (m ∷ ms) d e h (p, ps) = subst (λ k. IsPair n k s m) (let same : first ≡ first + 0 = omega arith in same) p
pair_at n first (suc i) (s ∷ ss) (m ∷ ms) d e h (p, ps) =
    subst (λ k. IsPair n k (get_or ss i d) (get_or ms i e)) (let same : suc first + i ≡ first + suc i = omega arith in same)
    (pair_at n (suc first) i ss ms d e (omega arith) ps)

-- another pair in its place
pub pair_set : (n first i : ℕ) (ss : List SessionState) (ms : List Member) (x : SessionState) (y : Member) → IsPair n (first + i) x y → ArePaired n first
    ss ms
    → ArePaired n first (set ss i x) (set ms i y)
pair_set n first i [] [] x y p ps = tt
pair_set n first i [] (m ∷ ms) x y p ps = absurd ps
pair_set n first i (s ∷ ss) [] x y p ps = absurd ps
pair_set n first zero (s ∷ ss) (m ∷ ms) x y p (q, qs) = (subst (λ k. IsPair n k x y) (let same : first + 0 ≡ first = omega arith in same) p, qs)
pair_set n first (suc i) (s ∷ ss) (m ∷ ms) x y p (q, qs) =
    (q, pair_set n (suc first) i ss ms x y (subst (λ k. IsPair n k x y) (let same : first + suc i ≡ suc first + i = omega arith in same) p) qs)

-- another session alone
pub pair_left : (n first i : ℕ) (ss : List SessionState) (ms : List Member) (x : SessionState) (e : Member) → IsPair n (first + i) x (get_or ms i e)
    → ArePaired n first ss ms → ArePaired n first (set ss i x) ms
pair_left n first i [] [] x e p ps = tt
pair_left n first i [] (m ∷ ms) x e p ps = absurd ps
pair_left n first i (s ∷ ss) [] x e p ps = absurd ps
pair_left n first zero (s ∷ ss) (m ∷ ms) x e p (q, qs) = (subst (λ k. IsPair n k x m) (let same : first + 0 ≡ first = omega arith in same) p, qs)
pair_left n first (suc i) (s ∷ ss) (m ∷ ms) x e p (q, qs) =
    (q, pair_left n (suc first) i ss ms x e (subst (λ k. IsPair n k x (get_or ms i e)) (let same : first + suc i ≡ suc first + i = omega arith in same) p) qs)

-- one more behind the others
pub pair_push : (n first : ℕ) (ss : List SessionState) (ms : List Member) (x : SessionState) (y : Member) → IsPair n (first + length ss) x y → ArePaired n
    first ss ms
    → ArePaired n first (ss ++ x ∷ []) (ms ++ y ∷ [])
pair_push n first [] [] x y p ps = (subst (λ k. IsPair n k x y) (let same : first + 0 ≡ first = omega arith in same) p, tt)
pair_push n first [] (m ∷ ms) x y p ps = absurd ps
pair_push n first (s ∷ ss) [] x y p ps = absurd ps
pair_push n first (s ∷ ss) (m ∷ ms) x y p (q, qs) = (
  q,
  pair_push n (suc first) ss ms x y (subst (λ k. IsPair n k x y) (let same : first + suc (length ss) ≡ suc first + length ss = omega arith in same)
      p) qs,
)

-- how many pass a test, where another stands in the place of one, and one of them at least where one does
pub count-set : {A : Type 0} (test : A → Bool) (xs : List A) (i : ℕ) (y d : A) → i < length xs
    → length (filter test (set xs i y)) + cond (test (get_or xs i d)) 1 0 ≡ length (filter test xs) + cond (test y) 1 0
count-set test xs i y d h =
    ap (λ (k : ℕ). k + cond (test (get_or xs i d)) 1 0) (length-filter test (set xs i y))
    ∙ sum_by-set (λ x. cond (test x) 1 0) xs i y d h
    ∙ ap (λ (k : ℕ). k + cond (test y) 1 0) (sym (length-filter test xs))

pub count-some : {A : Type 0} (test : A → Bool) (xs : List A) (i : ℕ) (d : A) → i < length xs → test (get_or xs i d) ≡ true → 0 < length (filter test xs)
count-some test xs i d h e =
    let one : cond {A = ℕ} (test (get_or xs i d)) 1 0 ≡ 1 = ap {B = ℕ} (λ (b : Bool). cond b 1 0) e in
    let few = get_or-le-sum_by (λ x. cond (test x) 1 0) xs i d h in
    let count = length-filter test xs in
    omega arith

abbrev pub is_open : nodes.Client → Bool
is_open client = not client.closed

-- a connection at a place
pub client_of_pair : (node : WorldNode) (i : ℕ) (s : SessionState) (m : Member) (d : nodes.Client) → i < length node.sessions
    → length node.sessions ≡ length node.replica.members
    → get_or (clients_seen node.sessions node.replica.members) i d ≡ client_seen (get_or node.sessions i s) (get_or node.replica.members i m)
client_of_pair node i s m d h k = get_or-both client_seen node.sessions node.replica.members i s m d h (omega arith)

pub or_false : (b c : Bool) → c ≡ false → (b || c) ≡ b
or_false true c e = refl
or_false false c e = e

or_true : (b c : Bool) → c ≡ true → true ≡ (b || c)
or_true true c e = refl
or_true false c e = sym e

pub not_either : (b c : Bool) → false ≡ (b || c) → c ≡ false
not_either true c e = absurd (cc e)
not_either false c e = sym e

-- one was opened
pub whole_opened : (n : ℕ) (old new : WorldNode) (session : SessionState) (member : Member) → IsWhole n old
    → new.replica ≡ record old.replica { members = old.replica.members ++ member ∷ [] } → new.sessions ≡ old.sessions ++ session ∷ []
    → length new.workers.items ≡ length old.workers.items → new.in_use ≡ old.in_use + 1
    → session.connection ≡ record { node = old.replica.node; serial = length old.replica.members } → session.ended ≡ false → session.gave_end ≡ false
    → member.is_closed ≡ false → IsWhole n new
whole_opened n old new session member w replica sessions workers counted named ended gave closed =
    let many = paired_many n 0 old.sessions old.replica.members w.pairs in
    let last : length old.replica.members ≡ 0 + length old.sessions = omega arith in
    let seen = clients_seen old.sessions old.replica.members in
    let all : clients_seen new.sessions new.replica.members ≡ seen ++ client_seen session member ∷ [] =
    (λ i. clients_seen (sessions i) (replica i).members) ∙ both-push client_seen old.sessions old.replica.members session member many in
    let count : length (filter is_open (clients_seen new.sessions new.replica.members)) ≡ length (filter is_open seen) + 1 =
    ap (λ (cs : List nodes.Client). length (filter is_open cs)) all
    ∙ ap length (filter-append is_open seen (client_seen session member ∷ []))
    ∙ length-append (filter is_open seen) (filter is_open (client_seen session member ∷ []))
    ∙ ap (λ (b : Bool). length (filter is_open seen) + length (cond (not b) (client_seen session member ∷ []) [])) closed in
    record {
      number = ap (λ (r : ReplicaState). r.node) replica ∙ w.number;
      pairs = subst (ArePaired n 0 new.sessions) (sym (ap (λ (r : ReplicaState). r.members) replica))
          (subst (λ (ss : List SessionState). ArePaired n 0 ss (old.replica.members ++ member ∷ [])) (sym sessions)
          (pair_push n 0 old.sessions old.replica.members session member
          (record {
            named = λ open_one. named ∙ (λ i. record { node = w.number i; serial = last i });
            ended = ended ∙ sym (or_false session.gave_end member.is_closed closed ∙ gave);
            shut = λ is. absurd (let no : true ≡ false = sym is ∙ closed in cc no);
          }) w.pairs));
      owed = ap (λ (r : ReplicaState). length r.owed) replica ∙ w.owed ∙ sym workers;
      counted = counted ∙ ap (λ k. k + 1) w.counted ∙ sym count;
    }

-- one was fed
pub whole_fed : (n : ℕ) (old new : WorldNode) (i : ℕ) (session before : SessionState) (d : Member) → IsWhole n old
    → new.replica ≡ old.replica → new.sessions ≡ set old.sessions i session
    → length new.workers.items ≡ length old.workers.items → new.in_use ≡ old.in_use
    → i < length old.sessions → before ≡ get_or old.sessions i before → before.ended ≡ false
    → session.connection ≡ before.connection → session.ended ≡ session.gave_end → IsWhole n new
whole_fed n old new i session before d w replica sessions workers counted h at going named ended =
    let many = paired_many n 0 old.sessions old.replica.members w.pairs in
    let seen = clients_seen old.sessions old.replica.members in
    let member = get_or old.replica.members i d in
    let pair = pair_at n 0 i old.sessions old.replica.members before d h w.pairs in
    let unclosed : member.is_closed ≡ false =
    not_either (get_or old.sessions i before).gave_end member.is_closed (sym going ∙ ap (λ (s : SessionState). s.ended) at ∙ pair.ended) in
    let all : clients_seen new.sessions new.replica.members ≡ set seen i (client_seen session member) =
    (λ j. clients_seen (sessions j) (replica j).members) ∙ both-set_left client_seen old.sessions old.replica.members i session d in
    let long = length-both client_seen old.sessions old.replica.members many in
    let one = client_seen session member in
    let counts = count-set is_open seen i one one (omega arith) in
    let same : cond {A = ℕ} (is_open (get_or seen i one)) 1 0 ≡ cond {A = ℕ} (is_open one) 1 0 =
    ap {B = ℕ} (λ (client : nodes.Client). cond (is_open client) 1 0) (client_of_pair old i before d one h many) in
    let count : length (filter is_open (clients_seen new.sessions new.replica.members)) ≡ length (filter is_open (set seen i one)) =
    ap (λ (cs : List nodes.Client). length (filter is_open cs)) all in
    record {
      number = ap (λ (r : ReplicaState). r.node) replica ∙ w.number;
      pairs = subst (ArePaired n 0 new.sessions) (sym (ap (λ (r : ReplicaState). r.members) replica))
          (subst (λ (ss : List SessionState). ArePaired n 0 ss old.replica.members) (sym sessions)
          (pair_left n 0 i old.sessions old.replica.members session d
          (record {
            named = λ open_one. named ∙ ap (λ (s : SessionState). s.connection) at ∙ pair.named open_one;
            ended = ended ∙ sym (or_false session.gave_end member.is_closed unclosed);
            shut = pair.shut;
          }) w.pairs));
      owed = ap (λ (r : ReplicaState). length r.owed) replica ∙ w.owed ∙ sym workers;
      counted = counted ∙ w.counted ∙ (let e : length (filter is_open seen) ≡ length (filter is_open (clients_seen new.sessions new.replica.members))
          = omega arith in e);
    }

-- one was closed
pub whole_closed : (n : ℕ) (old new : WorldNode) (i : ℕ) (session before : SessionState) (d : Member) → IsWhole n old
    → new.replica ≡ record old.replica { members = set old.replica.members i (closed_member (get_or old.replica.members i d)) }
    → new.sessions ≡ set old.sessions i session
    → length new.workers.items ≡ length old.workers.items → new.in_use + 1 ≡ old.in_use
    → i < length old.sessions → before ≡ get_or old.sessions i before → session ≡ closed_session
    → (get_or old.replica.members i d).is_closed ≡ false → IsWhole n new
whole_closed n old new i session before d w replica sessions workers counted h at ended unclosed =
    let many = paired_many n 0 old.sessions old.replica.members w.pairs in
    let seen = clients_seen old.sessions old.replica.members in
    let member = get_or old.replica.members i d in
    let all : clients_seen new.sessions new.replica.members ≡ set seen i (client_seen session (closed_member member)) =
    (λ j. clients_seen (sessions j) (replica j).members) ∙ both-set client_seen old.sessions old.replica.members i session (closed_member member) in
    let long = length-both client_seen old.sessions old.replica.members many in
    let one = client_seen session (closed_member member) in
    let counts = count-set is_open seen i one one (omega arith) in
    let was : cond {A = ℕ} (is_open (get_or seen i one)) 1 0 ≡ 1 =
    ap {B = ℕ} (λ (client : nodes.Client). cond (is_open client) 1 0) (client_of_pair old i before d one h many) ∙ ap {B = ℕ}
    (λ (b : Bool). cond (not b) 1 0) unclosed in
    let count : length (filter is_open (clients_seen new.sessions new.replica.members)) ≡ length (filter is_open (set seen i one)) =
    ap (λ (cs : List nodes.Client). length (filter is_open cs)) all in
    let before_count = w.counted in
    record {
      number = ap (λ (r : ReplicaState). r.node) replica ∙ w.number;
      pairs = subst (ArePaired n 0 new.sessions) (sym (ap (λ (r : ReplicaState). r.members) replica))
          (subst (λ (ss : List SessionState). ArePaired n 0 ss (set old.replica.members i (closed_member member))) (sym sessions)
          (pair_set n 0 i old.sessions old.replica.members session (closed_member member)
          (record {
            named = λ open_one. absurd (cc open_one);
            ended = ap (λ (s : SessionState). s.ended) ended ∙ or_true session.gave_end true refl;
            shut = λ is. refl;
          }) w.pairs));
      owed = ap (λ (r : ReplicaState). length r.owed) replica ∙ w.owed ∙ sym workers;
      counted = let e : new.in_use ≡ length (filter is_open (clients_seen new.sessions new.replica.members)) = omega arith in e;
    }

-- while one isn't closed, some are in use
pub some_in_use : (n : ℕ) (node : WorldNode) (i : ℕ) (s : SessionState) (m : Member) → IsWhole n node → i < length node.sessions
    → (get_or node.replica.members i m).is_closed ≡ false → 0 < node.in_use
some_in_use n node i s m w h unclosed =
    let many = paired_many n 0 node.sessions node.replica.members w.pairs in
    let seen = clients_seen node.sessions node.replica.members in
    let long = length-both client_seen node.sessions node.replica.members many in
    let one = client_seen (get_or node.sessions i s) (get_or node.replica.members i m) in
    let some = count-some is_open seen i one (omega arith) (ap is_open (client_of_pair node i s m one h many) ∙ ap not unclosed) in
    let counted = w.counted in
    omega arith
