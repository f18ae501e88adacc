-- Reads of one connection that stand behind one another, and what a server emits for them.
use Rattle.std.proofs.Common.{◌≡◌, ℕ, zero, suc, ◌+◌, ◌-◌, ◌<◌, ◌≤◌, Bool, true, false, cond, List, [], ◌∷◌, ◌++◌, length, take, drop, get_or, map, set, refl, ap, sym, ◌∙◌, subst, arith, append_assoc}
use Rattle.std.specs.Prelude.{Option, Some, not, ◌==◌, ◌&&◌}
use Rattle.std.specs.Bool.{OnTrue, OnFalse}
use Rattle.std.specs.List.{AllByRecursion}
use Rattle.std.proofs.lemmas.Bool.{and_parts}
use Rattle.std.proofs.lemmas.List.{append-nil, length-append, take-append-drop, take_more, take_all, set-get_or}
use Rattle.nr_model.specs.Bytes.{Bytes}
use Rattle.nr_model.specs.Connections.{is_some_bytes}
use Rattle.nr_model.specs.Items.{Connection, same_connection, Item, is_update}
use Rattle.nr_model.specs.Entries.{Jobs}
use Rattle.nr_model.specs.Nodes.Steps.{texts_for}
use Rattle.nr_model.specs.Queues.{Queue, puts, received}
use Rattle.nr_model.specs.Sequential.Events.{Emission}
use Rattle.nr_model.specs.Servers.{Server, stepped, emitted_in, emitted_all}
use Rattle.nr_model.proofs.Serving.{server_is_redis}
use Rattle.nr_entry.specs.Jobs.{connection_of}
use Rattle.nr_entry.specs.declared.conn.ConnId.{ConnId}
use Rattle.nr_replica.specs.Lent.{RepliesState, AreRunBy, AreRepliesTo, IsJoined}
use Rattle.nr_replica.specs.Members.{Member, Queues, fresh_member, fresh_queue, queue_at, member_with, members_of, AreNumbered, AreReads, AreReceived, AreDelivered}
use Rattle.nr_replica.proofs.Giving.{texts_for-append, delivered_more}
use Rattle.nr_replica.proofs.Joined.{joined_received, uncut_received}
use Rattle.nr_replica.proofs.Listed.{IsPut, members_length, members_put, open_at}
use Rattle.nr_replica.proofs.Looked.{read_text, texts_of_read, same_itself}
use Rattle.nr_replica.proofs.Received.{puts_connection, puts_limit, puts-append, eqb_is, alike, some_texts, some_given}

-- reads leave the server as it is
stays : (s : Server) (job : Item) (jobs : Jobs) → AreReads (job ∷ jobs) → emitted_all s (job ∷ jobs) ≡ emitted_in s job ++ emitted_all s jobs
stays s job jobs reads = ap (λ (t : Server). emitted_in s job ++ emitted_all t jobs) (server_is_redis.reads s job reads.0)

pub emitted_reads : (s : Server) (first second : Jobs) → AreReads first → emitted_all s (first ++ second) ≡ emitted_all s first ++ emitted_all s second
emitted_reads s [] second reads = refl
emitted_reads s (job ∷ first) second reads =
    let kept : stepped s job ≡ s = server_is_redis.reads s job reads.0 in
    ap (λ (t : Server). emitted_in s job ++ emitted_all t (first ++ second)) kept
    ∙ ap (λ (es : List Emission). emitted_in s job ++ es) (emitted_reads s first second reads.1)
    ∙ sym (append_assoc (emitted_in s job) (emitted_all s first) (emitted_all s second))
    ∙ ap (λ (t : Server). (emitted_in s job ++ emitted_all t first) ++ emitted_all s second) (sym kept)

-- the texts of their replies
abbrev read_texts : (s : Server) (own : Jobs) → AreReads own → List Bytes
read_texts s [] reads = []
read_texts s (job ∷ own) reads = read_text s job reads.0 ∷ read_texts s own reads.1

abbrev none : List Bytes
none = []

no_texts : (b : Bool) → none ≡ cond b none none
no_texts true = refl
no_texts false = refl

one_more : (b : Bool) (text : Bytes) (texts : List Bytes) → cond b (text ∷ []) [] ++ cond b texts [] ≡ cond b (text ∷ texts) []
one_more true text texts = refl
one_more false text texts = refl

abbrev pub AreOf : Connection → Jobs → Type 0
AreOf to own = AllByRecursion (λ (job : Item). job.connection ≡ to) own

run_texts : (s : Server) (own : Jobs) (reads : AreReads own) (to : Connection) → AreOf to own → (c : Connection)
    → texts_for c (emitted_all s own) ≡ some_texts to (read_texts s own reads) c
run_texts s [] reads to all c = no_texts (same_connection to c)
run_texts s (job ∷ own) reads to all c =
    let text = read_text s job reads.0 in
    ap (texts_for c) (stays s job own reads) ∙ texts_for-append c (emitted_in s job) (emitted_all s own)
    ∙ ap (λ (ts : List Bytes). ts ++ texts_for c (emitted_all s own)) (texts_of_read s job reads.0 c)
    ∙ ap (λ (k : Connection). cond (same_connection k c) (text ∷ []) [] ++ texts_for c (emitted_all s own)) all.0
    ∙ ap (λ (ts : List Bytes). cond (same_connection to c) (text ∷ []) [] ++ ts) (run_texts s own reads.1 to all.1 c)
    ∙ one_more (same_connection to c) text (read_texts s own reads.1)

own_run : (s : Server) (own : Jobs) (reads : AreReads own) (to : Connection) → AreOf to own → texts_for to (emitted_all s own) ≡ read_texts s own reads
own_run s own reads to all = run_texts s own reads to all to ∙ ap (λ b. cond b (read_texts s own reads) []) (same_itself to)

-- the replies to a run were taken by its connection's queue, which is open
pub run_open : (node : ℕ) (s : Server) (own : Jobs) (r : RepliesState) (workers : List ℕ) (old new : Queues) (at queue : Queue)
    → AreNumbered node 0 (members_of node workers old) → AreRunBy s own r → is_some_bytes r.queue.waiting ≡ true → r.queue.connection.node ≡ node
    → r.queue.connection.serial < length workers → Some at ≡ queue_at r.queue.connection.serial old → IsPut r.queue.connection.serial (Some queue) old new
    → IsJoined r.queue.waiting at queue → AreDelivered (emitted_all s own) (members_of node workers old) (members_of node workers new)
run_open node s own r workers old new at queue numbered run some here within found put joins =
    let to = r.queue.connection in
    let n = to.serial in
    let d = fresh_member to 0 0 in
    let w = get_or workers n 0 in
    let olds = members_of node workers old in
    let texts = read_texts s own run.reads in
    let e = open_at node workers old n d at within found in
    let long = members_length node workers old in
    let got = joined_received to r.queue.limit r.queue at queue texts
    (run.came ∙ ap (λ (ts : List Bytes). puts (fresh_queue to r.queue.limit) ts) (own_run s own run.reads to run.connection)) run.uncut some joins in
    alike (some_texts to texts) (λ c. texts_for c (emitted_all s own)) olds (members_of node workers new) (λ c. sym (run_texts s own run.reads to run.connection c))
    (subst (λ (news : List Member). AreReceived (some_texts to texts) olds news) (sym (members_put node n workers (Some queue) old new put))
    (some_given node n to texts olds d (member_with node n w (Some queue)) got.0 numbered (omega arith) (λ i. record { node = here i; serial = n })
    (ap (λ (q : Queue). member_with node n w (Some q)) got.1 ∙ ap (λ (m : Member). record m { outbox = received got.0 m.outbox texts }) (sym e))))

-- the same of what was found of that connection
pub run_taken : (node : ℕ) (s : Server) (own : Jobs) (r : RepliesState) (other : Queue) (c : Connection) (workers : List ℕ) (old new : Queues) (at queue : Queue)
    → other ≡ r.queue → c ≡ other.connection → AreNumbered node 0 (members_of node workers old) → AreRunBy s own r → is_some_bytes other.waiting ≡ true
    → c.node ≡ node → c.serial < length workers → Some at ≡ queue_at c.serial old → IsPut c.serial (Some queue) old new → IsJoined other.waiting at queue
    → AreDelivered (emitted_all s own) (members_of node workers old) (members_of node workers new)
run_taken node s own r other c workers old new at queue same conn numbered run some here within found put joins =
    let e : c ≡ r.queue.connection = conn ∙ ap (λ (q : Queue). q.connection) same in
    run_open node s own r workers old new at queue numbered run (sym (ap (λ (q : Queue). is_some_bytes q.waiting) same) ∙ some)
    (sym (ap (λ (k : Connection). k.node) e) ∙ here) (subst (λ (k : Connection). k.serial < length workers) e within)
    (subst (λ (k : Connection). Some at ≡ queue_at k.serial old) e found) (subst (λ (k : Connection). IsPut k.serial (Some queue) old new) e put)
    (subst (λ (q : Queue). IsJoined q.waiting at queue) same joins)

-- nothing came to it
pub same_of_open : (node n : ℕ) (workers : List ℕ) (old new : Queues) (at queue : Queue) → n < length workers → Some at ≡ queue_at n old → IsPut n (Some queue) old new
    → queue ≡ at → members_of node workers new ≡ members_of node workers old
same_of_open node n workers old new at queue within found put same =
    let here : Member = record { worker = get_or workers n 0; outbox = at; is_closed = false } in
    members_put node n workers (Some queue) old new put
    ∙ ap (set (members_of node workers old) n)
    (ap (λ (q : Queue). member_with node n (get_or workers n 0) (Some q)) same ∙ sym (open_at node workers old n here at within found))
    ∙ set-get_or (members_of node workers old) n here

pub on_true : {P Q : Type 0} (b : Bool) → (P → Q) → OnTrue b P → OnTrue b Q
on_true true f p = f p
on_true false f p = tt

pub on_false : {P Q : Type 0} (b : Bool) → (P → Q) → OnFalse b P → OnFalse b Q
on_false true f p = tt
on_false false f p = f p

-- replies to jobs, and to a run of jobs behind them
pub replies_more : (s : Server) (jobs own : Jobs) (all : List RepliesState) (r : RepliesState) → AreRepliesTo s jobs all → AreRunBy s own r
    → AreRepliesTo s (jobs ++ own) (all ++ r ∷ [])
replies_more s jobs own [] r are run = (own, [], ap (λ (js : Jobs). js ++ own) are ∙ sym (append-nil own), run, refl)
replies_more s jobs own (one ∷ all) r are run =
    (are.0, are.1 ++ own, ap (λ (js : Jobs). js ++ own) are.2 ∙ append_assoc are.0 are.1 own, are.3, replies_more s are.1 own all r are.4 run)

-- parts of reads
pub reads_front : (n : ℕ) (jobs : Jobs) → AreReads jobs → AreReads (take n jobs)
reads_front zero jobs reads = tt
reads_front (suc n) [] reads = tt
reads_front (suc n) (job ∷ jobs) reads = (reads.0, reads_front n jobs reads.1)

pub reads_behind : (n : ℕ) (jobs : Jobs) → AreReads jobs → AreReads (drop n jobs)
reads_behind zero jobs reads = reads
reads_behind (suc n) [] reads = tt
reads_behind (suc n) (job ∷ jobs) reads = reads_behind n jobs reads.1

reads_behind_one : (jobs : Jobs) (job : Item) → AreReads jobs → is_update job.deed ≡ false → AreReads (jobs ++ job ∷ [])
reads_behind_one [] job reads read = (read, tt)
reads_behind_one (one ∷ jobs) job reads read = (reads.0, reads_behind_one jobs job reads.1 read)

of_one_more : (to : Connection) (jobs : Jobs) (job : Item) → AreOf to jobs → job.connection ≡ to → AreOf to (jobs ++ job ∷ [])
of_one_more to [] job all own = (own, tt)
of_one_more to (one ∷ jobs) job all own = (all.0, of_one_more to jobs job all.1 own)

-- names of connections that are compared
pub not_false : (b : Bool) → false ≡ not b → b ≡ true
not_false true is = refl
not_false false is = absurd (cc)

pub same_conn : (a b : ConnId) → false ≡ not (a.node == b.node && a.serial == b.serial) → connection_of a ≡ connection_of b
same_conn a b is =
    let both = and_parts (a.node == b.node) (a.serial == b.serial) (not_false (a.node == b.node && a.serial == b.serial) is) in
    λ i. record { node = eqb_is a.node b.node both.0 i; serial = eqb_is a.serial b.serial both.1 i }

-- the same of jobs that are items by a function: so far, and so many more
take_none : {A : Type 0} (n : ℕ) → take {A = A} n [] ≡ []
take_none zero = refl
take_none (suc n) = refl

drop_none : {A : Type 0} (n : ℕ) → drop {A = A} n [] ≡ []
drop_none zero = refl
drop_none (suc n) = refl

take_both : {A : Type 0} (n k : ℕ) (xs : List A) → take (n + k) xs ≡ take n xs ++ take k (drop n xs)
take_both zero k xs = ap (λ (m : ℕ). take m xs) (omega arith)
take_both (suc n) k [] = take_none (suc n + k) ∙ sym (take_none k)
take_both (suc n) k (x ∷ xs) =
    let more : suc n + k ≡ suc (n + k) = omega arith in ap (λ (m : ℕ). take m (x ∷ xs)) more ∙ ap (λ (ys : List _). x ∷ ys) (take_both n k xs)

drop_both : {A : Type 0} (n k : ℕ) (xs : List A) → drop (n + k) xs ≡ drop k (drop n xs)
drop_both zero k xs = ap (λ (m : ℕ). drop m xs) (omega arith)
drop_both (suc n) k [] = drop_none (suc n + k) ∙ sym (drop_none k)
drop_both (suc n) k (x ∷ xs) = let more : suc n + k ≡ suc (n + k) = omega arith in ap (λ (m : ℕ). drop m (x ∷ xs)) more ∙ drop_both n k xs

front_is : {A : Type 0} (own rest : List A) → take (length own) (own ++ rest) ≡ own
front_is [] rest = refl
front_is (x ∷ own) rest = ap (λ (ys : List _). x ∷ ys) (front_is own rest)

back_is : {A : Type 0} (own rest : List A) → drop (length own) (own ++ rest) ≡ rest
back_is [] rest = refl
back_is (x ∷ own) rest = back_is own rest

pub drop_long : {A : Type 0} (n : ℕ) (xs : List A) → n ≤ length xs → n + length (drop n xs) ≡ length xs
drop_long zero xs within = omega arith
drop_long (suc n) [] within = absurd (omega arith)
drop_long (suc n) (x ∷ xs) within = let rest = drop_long n xs (omega arith) in omega (arith, rest)

pub none_left : {A : Type 0} (xs : List A) → length xs ≡ 0 → xs ≡ []
none_left [] none = refl
none_left (x ∷ xs) none = absurd (omega arith)

pub rest_whole : {A : Type 0} (n : ℕ) (xs : List A) → n ≤ length xs → take (length xs - n) (drop n xs) ≡ drop n xs
rest_whole n xs within = let long = drop_long n xs within in take_all (length xs - n) (drop n xs) (omega (arith, long))

module _ {A : Type 0} (f : A → Item) where
  map_both : (xs ys : List A) → map f (xs ++ ys) ≡ map f xs ++ map f ys
  map_both [] ys = refl
  map_both (x ∷ xs) ys = ap (λ (js : Jobs). f x ∷ js) (map_both xs ys)

  map_long : (xs : List A) → length (map f xs) ≡ length xs
  map_long [] = refl
  map_long (x ∷ xs) = ap suc (map_long xs)

  map_front : (n : ℕ) (xs : List A) → map f (take n xs) ≡ take n (map f xs)
  map_front zero xs = refl
  map_front (suc n) [] = refl
  map_front (suc n) (x ∷ xs) = ap (λ (js : Jobs). f x ∷ js) (map_front n xs)

  map_back : (n : ℕ) (xs : List A) → map f (drop n xs) ≡ drop n (map f xs)
  map_back zero xs = refl
  map_back (suc n) [] = refl
  map_back (suc n) (x ∷ xs) = map_back n xs

  so_far : (from count : ℕ) (jobs : List A) → map f (take (from + count) jobs) ≡ map f (take from jobs) ++ map f (take count (drop from jobs))
  so_far from count jobs = ap (map f) (take_both from count jobs) ∙ map_both (take from jobs) (take count (drop from jobs))

  pub reads_from : (from : ℕ) (jobs : List A) → AreReads (map f jobs) → AreReads (map f (drop from jobs))
  reads_from from jobs reads = subst AreReads (sym (map_back from jobs)) (reads_behind from (map f jobs) reads)

  pub reads_upto : (upto : ℕ) (jobs : List A) → AreReads (map f jobs) → AreReads (map f (take upto jobs))
  reads_upto upto jobs reads = subst AreReads (sym (map_front upto jobs)) (reads_front upto (map f jobs) reads)

  next_front : (i : ℕ) (d : A) (jobs : List A) → i < length jobs → map f (take (i + 1) jobs) ≡ map f (take i jobs) ++ f (get_or jobs i d) ∷ []
  next_front i d jobs within = ap (map f) (take_more jobs i d within) ∙ map_both (take i jobs) (get_or jobs i d ∷ [])

  -- one more is a read, and one more is of a connection
  pub reads_more : (i : ℕ) (d : A) (jobs : List A) → i < length jobs → AreReads (map f (take i jobs)) → is_update (f (get_or jobs i d)).deed ≡ false
      → AreReads (map f (take (i + 1) jobs))
  reads_more i d jobs within reads read =
      subst AreReads (sym (next_front i d jobs within)) (reads_behind_one (map f (take i jobs)) (f (get_or jobs i d)) reads read)

  pub of_more : (to : Connection) (i : ℕ) (d : A) (jobs : List A) → i < length jobs → AreOf to (map f (take i jobs)) → (f (get_or jobs i d)).connection ≡ to
      → AreOf to (map f (take (i + 1) jobs))
  of_more to i d jobs within all own =
      subst (AreOf to) (sym (next_front i d jobs within)) (of_one_more to (map f (take i jobs)) (f (get_or jobs i d)) all own)

  pub of_at : (to : Connection) (i : ℕ) (d : A) (jobs : List A) → AreOf to (map f jobs) → i < length jobs → (f (get_or jobs i d)).connection ≡ to
  of_at to i d [] all within = absurd (omega arith)
  of_at to zero d (job ∷ jobs) all within = all.0
  of_at to (suc i) d (job ∷ jobs) all within = of_at to i d jobs all.1 (omega arith)

  -- a run was answered behind others
  pub answered_more : (s : Server) (from count : ℕ) (jobs : List A) (all : List RepliesState) (r : RepliesState)
      → AreRepliesTo s (map f (take from jobs)) all → AreRunBy s (map f (take count (drop from jobs))) r
      → AreRepliesTo s (map f (take (from + count) jobs)) (all ++ r ∷ [])
  answered_more s from count jobs all r are run =
      subst (λ (js : Jobs). AreRepliesTo s js (all ++ r ∷ [])) (sym (so_far from count jobs))
      (replies_more s (map f (take from jobs)) (map f (take count (drop from jobs))) all r are run)

  front_long : (n : ℕ) (jobs : List A) → n ≤ length jobs → length (map f (take n jobs)) ≡ n
  front_long zero jobs within = refl
  front_long (suc n) [] within = absurd (omega arith)
  front_long (suc n) (job ∷ jobs) within = ap suc (front_long n jobs (omega arith))

  -- a run that came whole to a queue of its own
  pub ran_whole : (s : Server) (n : ℕ) (jobs : List A) (c : Connection) (limit : ℕ) (old new : Queue) → n ≤ length jobs → AreReads (map f jobs)
      → AreOf c (map f (take n jobs)) → old ≡ fresh_queue c limit → new ≡ puts old (texts_for old.connection (emitted_all s (map f (take n jobs)))) → new.cut ≡ false
      → AreRunBy s (map f (take n jobs)) (record { count = n; queue = new })
  ran_whole s n jobs c limit old new within reads own is came uncut =
      let es = emitted_all s (map f (take n jobs)) in
      let all : new ≡ puts (fresh_queue c limit) (texts_for c es) = came ∙ ap (λ (q : Queue). puts q (texts_for q.connection es)) is in
      let conn : new.connection ≡ c = ap (λ (q : Queue). q.connection) all ∙ puts_connection (fresh_queue c limit) (texts_for c es) in
      let most : new.limit ≡ limit = ap (λ (q : Queue). q.limit) all ∙ puts_limit (fresh_queue c limit) (texts_for c es) in
      record {
        many = front_long n jobs within;
        reads = reads_upto n jobs reads;
        connection = subst (λ (k : Connection). AreOf k (map f (take n jobs))) (sym conn) own;
        came = all ∙ (λ i. puts (fresh_queue (sym conn i) (sym most i)) (texts_for (sym conn i) es));
        uncut = uncut;
      }

  -- the first run of those that are left
  abbrev pub IsNext : Server → ℕ → List A → RepliesState → List RepliesState → Type 0
  IsNext s from jobs r more =
      (r.count ≤ length (drop from jobs)) × AreRunBy s (map f (take r.count (drop from jobs))) r × AreRepliesTo s (map f (drop (from + r.count) jobs)) more

  pub next_run : (s : Server) (from : ℕ) (jobs : List A) (r : RepliesState) (more : List RepliesState) → AreRepliesTo s (map f (drop from jobs)) (r ∷ more)
      → IsNext s from jobs r more
  next_run s from jobs r more are =
      let left = drop from jobs in
      let own = are.0 in
      let rest = are.1 in
      let many : length own ≡ r.count = are.3.many in
      let long : length (map f left) ≡ length left = map_long left in
      let all : length (map f left) ≡ length own + length rest = ap length are.2 ∙ length-append own rest in
      let front : own ≡ map f (take r.count left) =
      sym (front_is own rest) ∙ ap (λ (n : ℕ). take n (own ++ rest)) many ∙ sym (ap (take r.count) are.2) ∙ sym (map_front r.count left) in
      let back : rest ≡ map f (drop (from + r.count) jobs) =
      sym (back_is own rest) ∙ ap (λ (n : ℕ). drop n (own ++ rest)) many ∙ sym (ap (drop r.count) are.2) ∙ sym (map_back r.count left)
      ∙ ap (map f) (sym (drop_both from r.count jobs)) in (
        omega (arith, many, long, all),
        subst (λ (js : Jobs). AreRunBy s js r) front are.3,
        subst (λ (js : Jobs). AreRepliesTo s js more) back are.4,
      )

  -- what it emits was delivered behind what those before it emit
  pub delivered_next : (s : Server) (from count : ℕ) (jobs : List A) (olds mids news : List Member) → AreReads (map f jobs)
      → AreDelivered (emitted_all s (map f (take from jobs))) olds mids → AreDelivered (emitted_all s (map f (take count (drop from jobs)))) mids news
      → AreDelivered (emitted_all s (map f (take (from + count) jobs))) olds news
  delivered_next s from count jobs olds mids news reads first second =
      let own = map f (take from jobs) in
      let more = map f (take count (drop from jobs)) in
      subst (λ (es : List Emission). AreDelivered es olds news)
      (sym (ap (emitted_all s) (so_far from count jobs) ∙ emitted_reads s own more (reads_upto from jobs reads)))
      (delivered_more (emitted_all s own) (emitted_all s more) olds mids news first second)

  -- all of them
  pub delivered_whole : (s : Server) (from : ℕ) (jobs : List A) (olds news : List Member) → AreRepliesTo s (map f (drop from jobs)) []
      → AreDelivered (emitted_all s (map f (take from jobs))) olds news → AreDelivered (emitted_all s (map f jobs)) olds news
  delivered_whole s from jobs olds news none got =
      subst (λ (js : Jobs). AreDelivered (emitted_all s js) olds news)
      (sym (append-nil (map f (take from jobs))) ∙ ap (λ (js : Jobs). map f (take from jobs) ++ js) (sym none) ∙ sym (map_both (take from jobs) (drop from jobs))
      ∙ ap (map f) (take-append-drop from jobs))
      got

  -- a read more was run into a queue
  pub answered_next : (s : Server) (to : Connection) (i : ℕ) (d : A) (jobs : List A) (old mid new : Queue) (refused : Option ℕ) → AreReads (map f jobs) → i < length jobs
      → mid ≡ puts old (texts_for to (emitted_all s (map f (take i jobs))))
      → new ≡ received refused mid (texts_for to (emitted_in s (f (get_or jobs i d)))) → new.cut ≡ false
      → new ≡ puts old (texts_for to (emitted_all s (map f (take (i + 1) jobs))))
  answered_next s to i d jobs old mid new refused reads within before got uncut =
      let own = map f (take i jobs) in
      let job = f (get_or jobs i d) in
      let texts = texts_for to (emitted_in s job) in
      let more = next_front i d jobs within in
      let all : emitted_all s (map f (take (i + 1) jobs)) ≡ emitted_all s own ++ emitted_in s job =
      ap (emitted_all s) more ∙ emitted_reads s own (job ∷ []) (reads_upto i jobs reads) ∙ ap (λ (es : List Emission). emitted_all s own ++ es) (append-nil (emitted_in s job)) in
      got ∙ uncut_received refused mid texts (sym (ap (λ (q : Queue). q.cut) got) ∙ uncut) ∙ ap (λ (q : Queue). puts q texts) before
      ∙ sym (puts-append old (texts_for to (emitted_all s own)) texts)
      ∙ ap (puts old) (sym (texts_for-append to (emitted_all s own) (emitted_in s job))) ∙ ap (λ (es : List Emission). puts old (texts_for to es)) (sym all)
