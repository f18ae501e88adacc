-- What was taken, in order: its updates are those of the entries, and its reads stand behind the entries that their node had applied.
use Rattle.std.proofs.Common.{◌≡◌, ℕ, zero, suc, ◌+◌, ◌-◌, true, List, [], ◌∷◌, ◌++◌, length, map, refl, ap, sym, ◌∙◌, subst, arith, append_assoc}
use Rattle.std.specs.Prelude.{flat_map, filter}
use Rattle.std.proofs.lemmas.List.{append-nil, length-append, map-append}
use Rattle.std.proofs.lemmas.List.Elements.{filter-append}
use Rattle.nr_model.specs.Items.{Connection, same_connection, Deed, Item, is_update}
use Rattle.nr_model.specs.Entries.{Jobs, entry_items, entry_moment, entry_jobs, read_jobs}
use Rattle.nr_model.specs.Connections.{Setup}
use Rattle.nr_model.specs.Asked.{own_jobs}
use Rattle.nr_model.specs.Nodes.{Taken, Entry, Reads, World, node_at, items_taken, jobs_taken, log_of, tail_of}
use Rattle.nr_model.specs.Nodes.Explained.{placed_all, reads_in, logged_part, items_before, placed_reads}
use Rattle.nr_model.specs.Nodes.Steps.{advanced_by}
use Rattle.nr_model.specs.Nodes.Pasts.{Event, world_after}
use Rattle.nr_model.proofs.Choices.{entry_updates, look_reads}
use Rattle.nr_model.proofs.Logged.{AreUpdates, AreReads, All-at_moment, all_kept, none_kept, updates, passed, placed, numbers, moved_numbers}
use Rattle.nr_model.proofs.NodesSteps.{Moves, Beside, each_beside, by_look}
use Rattle.nr_model.proofs.NodesOwnPlaces.{ArePlaced, fresh_placed, keeps_placed, placed_ahead, log_of-append}

-- an entry has updates, and a look ran reads behind as many entries as were reserved before it
abbrev pub IsTaken : ℕ → Taken → Type 0
IsTaken tail (Entry node jobs) = AreUpdates jobs
IsTaken tail (Reads node count jobs) = (count ≡ tail) × AreReads jobs

abbrev pub AreTaken : ℕ → List Taken → Type 0
AreTaken tail [] = Unit {0}
AreTaken tail (Entry node jobs ∷ taken) = AreUpdates jobs × AreTaken (suc tail) taken
AreTaken tail (Reads node count jobs ∷ taken) = (count ≡ tail) × AreReads jobs × AreTaken tail taken

-- one more is taken
pub taken_more : (tail : ℕ) (taken : List Taken) (one : Taken) → AreTaken tail taken → IsTaken (tail + length (log_of taken)) one → AreTaken tail (taken ++ one ∷ [])
taken_more tail [] (Entry node jobs) are is = (is, tt)
taken_more tail [] (Reads node count jobs) are is =
    let e : tail + 0 ≡ tail = omega arith in
    (is.0 ∙ e, is.1, tt)
taken_more tail (Entry node jobs ∷ taken) one are is =
    let e : tail + suc (length (log_of taken)) ≡ suc tail + length (log_of taken) = omega arith in
    (are.0, taken_more (suc tail) taken one are.1 (subst (λ (k : ℕ). IsTaken k one) e is))
taken_more tail (Reads node count jobs ∷ taken) one are is = (are.0, are.1, taken_more tail taken one are.2 is)

-- how many items the entries have
abbrev pub how_many_logged : List Taken → ℕ
how_many_logged [] = 0
how_many_logged (Entry node jobs ∷ taken) = length jobs + how_many_logged taken
how_many_logged (Reads node count jobs ∷ taken) = how_many_logged taken

pub how_many-append : (taken more : List Taken) → how_many_logged (taken ++ more) ≡ how_many_logged taken + how_many_logged more
how_many-append [] more = omega arith
how_many-append (Entry node jobs ∷ taken) more =
    let rest = how_many-append taken more in
    omega arith
how_many-append (Reads node count jobs ∷ taken) more = how_many-append taken more

-- reads are passed by
reads_passed : (k node count : ℕ) (jobs : Jobs) (more : List Taken) → items_before k (Reads node count jobs ∷ more) ≡ items_before k more
reads_passed zero node count jobs [] = refl
reads_passed zero node count jobs (one ∷ more) = refl
reads_passed (suc k) node count jobs more = refl

none_before : (taken : List Taken) → items_before zero taken ≡ 0
none_before [] = refl
none_before (one ∷ taken) = refl

-- the items of a front's entries are those before as many entries
pub before_front : (front more : List Taken) → items_before (length (log_of front)) (front ++ more) ≡ how_many_logged front
before_front [] more = none_before more
before_front (Entry node jobs ∷ front) more = ap (λ (k : ℕ). length jobs + k) (before_front front more)
before_front (Reads node count jobs ∷ front) more = reads_passed (length (log_of front)) node count jobs (front ++ more) ∙ before_front front more

-- the reads of all that was taken stand behind the entries that their node had applied
reads_from : (front taken : List Taken) → AreTaken (length (log_of front)) taken
    → reads_in (how_many_logged front) (flat_map items_taken taken) ≡ placed_reads (front ++ taken) taken
reads_from front [] are = refl
reads_from front (Entry node jobs ∷ taken) are =
    let one = Entry node jobs in
    let long : length (log_of (front ++ one ∷ [])) ≡ suc (length (log_of front)) =
    ap length (log_of-append front (one ∷ [])) ∙ length-append (log_of front) _ ∙ omega arith in
    let many : how_many_logged (front ++ one ∷ []) ≡ how_many_logged front + length jobs =
    how_many-append front (one ∷ []) ∙ omega arith in
    passed (how_many_logged front) (entry_moment jobs) jobs (flat_map items_taken taken) are.0
    ∙ ap (λ (k : ℕ). reads_in k (flat_map items_taken taken)) (sym many)
    ∙ reads_from (front ++ one ∷ []) taken (subst (λ (k : ℕ). AreTaken k taken) (sym long) are.1)
    ∙ ap (λ (all : List Taken). placed_reads all taken) (append_assoc front (one ∷ []) taken)
reads_from front (Reads node count jobs ∷ taken) are =
    let one = Reads node count jobs in
    let long : length (log_of (front ++ one ∷ [])) ≡ length (log_of front) =
    ap length (log_of-append front (one ∷ []) ∙ append-nil (log_of front)) in
    let many : how_many_logged (front ++ one ∷ []) ≡ how_many_logged front =
    how_many-append front (one ∷ []) ∙ omega arith in
    let here : how_many_logged front ≡ items_before count (front ++ one ∷ taken) =
    sym (before_front front (one ∷ taken)) ∙ ap (λ (k : ℕ). items_before k (front ++ one ∷ taken)) (sym are.0) in
    let rest : reads_in (how_many_logged front) (flat_map items_taken taken) ≡ placed_reads (front ++ one ∷ taken) taken =
    ap (λ (k : ℕ). reads_in k (flat_map items_taken taken)) (sym many)
    ∙ reads_from (front ++ one ∷ []) taken (subst (λ (k : ℕ). AreTaken k taken) (sym long) are.2)
    ∙ ap (λ (all : List Taken). placed_reads all taken) (append_assoc front (one ∷ []) taken) in
    placed (how_many_logged front) jobs (flat_map items_taken taken) are.1
    ∙ (λ i. placed_all (here i) jobs ++ rest i)

pub reads_are : (taken : List Taken) → AreTaken 0 taken → reads_in 0 (flat_map items_taken taken) ≡ placed_reads taken taken
reads_are taken are = reads_from [] taken are

-- the updates are the entries'
updates_from : (tail : ℕ) (taken : List Taken) → AreTaken tail taken → filter updates (flat_map items_taken taken) ≡ flat_map logged_part taken
updates_from tail [] are = refl
updates_from tail (Entry node jobs ∷ taken) are =
    let one = all_kept updates (entry_items jobs) (All-at_moment (λ (deed : Deed). is_update deed ≡ true) (entry_moment jobs) jobs are.0) in
    let more = updates_from (suc tail) taken are.1 in
    filter-append updates (entry_items jobs) (flat_map items_taken taken) ∙ (λ i. one i ++ more i)
updates_from tail (Reads node count jobs ∷ taken) are =
    let one = none_kept updates jobs are.1 in
    let more = updates_from tail taken are.2 in
    filter-append updates jobs (flat_map items_taken taken) ∙ (λ i. one i ++ more i)

pub logged_are : (taken : List Taken) → AreTaken 0 taken → filter (λ (item : Item). is_update item.deed) (flat_map items_taken taken) ≡ flat_map logged_part taken
logged_are taken are = updates_from 0 taken are

-- the numbers of a connection's items in two parts
numbers_apart : (c : Connection) (xs ys : Jobs) → numbers (own_jobs c (xs ++ ys)) ≡ numbers (own_jobs c xs) ++ numbers (own_jobs c ys)
numbers_apart c xs ys =
    ap numbers (filter-append (λ (job : Item). same_connection job.connection c) xs ys)
    ∙ map-append (λ (item : Item). item.number) (own_jobs c xs) (own_jobs c ys)

-- an item has its job's number
pub taken_numbers : (c : Connection) (taken : List Taken)
    → map (λ (item : Item). item.number) (own_jobs c (flat_map items_taken taken)) ≡ map (λ (item : Item). item.number) (own_jobs c (flat_map jobs_taken taken))
taken_numbers c [] = refl
taken_numbers c (Entry node jobs ∷ taken) =
    let one = moved_numbers c (entry_moment jobs) jobs in
    let more = taken_numbers c taken in
    numbers_apart c (entry_items jobs) (flat_map items_taken taken) ∙ (λ i. one i ++ more i) ∙ sym (numbers_apart c jobs (flat_map jobs_taken taken))
taken_numbers c (Reads node count jobs ∷ taken) =
    let more = taken_numbers c taken in
    numbers_apart c jobs (flat_map items_taken taken)
    ∙ ap (λ (ns : List ℕ). numbers (own_jobs c jobs) ++ ns) more
    ∙ sym (numbers_apart c jobs (flat_map jobs_taken taken))

-- so it is in each world
abbrev pub AreAllTaken : World → Type 0
AreAllTaken world = AreTaken 0 world.taken

moves_taken : (setup : Setup) → Moves setup (Beside setup ArePlaced AreAllTaken)
moves_taken setup = record {
  idles = λ world step refused reason sized b p. p;
  opens = λ world n w refused may sized b p. p;
  feeds = λ world c time bytes refused may sized b p. p;
  posts = λ world n w refused may sized b p. p;
  lifts = λ world n w refused may sized b p. p;
  reserves = λ world n refused may sized b p. taken_more 0 world.taken (Entry n (entry_jobs (node_at n world).waiting)) p (entry_updates (node_at n world).waiting);
  fills = λ world n t refused may sized b p. p;
  fetches = λ world n refused may sized b p. p;
  applies = λ world n refused may sized b p. p;
  looks = λ world n refused may sized b p.
      let node = node_at n world in
      let tail = tail_of world in
      let ahead = advanced_by (tail - node.passed) refused n (log_of world.taken) node in
      let zero_is : tail ≡ 0 + tail = omega arith in
      by_look AreAllTaken refused n world ahead refl (λ down. p)
      (λ up. taken_more 0 world.taken (Reads n ahead.applied (read_jobs ahead.waiting)) p
      ((placed_ahead tail refused n (log_of world.taken) node (b n may.there)).applied up ∙ zero_is, look_reads ahead.waiting));
  answers = λ world n w refused may sized b p. p;
  collects = λ world n w refused may sized b p. p;
  closes = λ world c time refused may sized b p. p;
  refuses = λ world n refused may sized b p. p;
  revives = λ world n f refused may sized b p. p;
}

pub each_taken : (setup : Setup) (events : List Event) → AreAllTaken (world_after setup events)
each_taken setup events = each_beside setup ArePlaced AreAllTaken (fresh_placed setup) (keeps_placed setup) tt (moves_taken setup) events
