-- The numbers of each connection rise along the most that its node did, and the log behind that.
use Rattle.std.proofs.Common.{◌≡◌, ℕ, List, [], ◌∷◌, ◌++◌, length, drop, Option, ap, sym, ◌∙◌, subst}
use Rattle.std.specs.Prelude.{option_to_list}
use Rattle.std.specs.List.{AllByRecursion}
use Rattle.std.proofs.Math.Seq.{drop-append_seam}
use Rattle.std.proofs.lemmas.List.{append-nil}
use Rattle.nr_model.specs.Entries.{Jobs}
use Rattle.nr_entry.specs.declared.entry.Entry.{Entry}
use Rattle.nr_log_end.specs.Numbers.{IsRising, numbers_of, connection_at, AreRising}
use Rattle.nr_log_end.specs.declared.standing.Standing.{Standing}
use Rattle.nr_log_end.specs.declared.standing.LogEvent.{LogEvent}
use Rattle.nr_log_end.specs.Standings.{applied_of, known_of, record_of, jobs_in, EachRises, RisesBefore}
use Rattle.nr_log_end.proofs.Rising.{range_rises}
use Rattle.nr_oplog.specs.Plays.{AreOfOneLog}
use Rattle.nr_node.specs.Sound.{IsSound}
use Rattle.nr_taps.specs.Sequence.{AreAllOfOneLog}
use Rattle.nr_taps.proofs.Longest.{longer, longer_has, longest_known, longest_past, past_has}
use Rattle.nr_taps.proofs.Parts.{drop_none}

-- the numbers of a node's connections rise along what it did, and what is behind that in the log
abbrev pub RisesTo : ℕ → List Entry → List LogEvent → Type 0
RisesTo node log turns = AreRising node (record_of turns ++ jobs_in (drop (length (applied_of turns)) log))

-- where nothing is behind its record, a sound standing's numbers count up
none_behind : (s : Standing) (log : List Entry) → IsSound s → drop (length (applied_of s.history)) log ≡ [] → RisesBefore s log
none_behind s log sound none = λ serial.
    let c = connection_at s.node serial in
    let done = record_of s.history in
    let same : done ++ jobs_in (drop (length (applied_of s.history)) log) ≡ done =
    ap (λ (entries : List Entry). done ++ jobs_in entries) none ∙ append-nil done in
    subst (λ (jobs : Jobs). IsRising (numbers_of c jobs)) (sym same) (subst IsRising (sym (sound.numbered serial)) (range_rises 0 (length (numbers_of c done))))

with_itself : (s : Standing) → IsSound s → RisesBefore s (known_of s)
with_itself s sound = none_behind s (known_of s) sound
    (ap (λ (held : Option Entry). drop (length (applied_of s.history)) (applied_of s.history ++ option_to_list held)) sound.idle
    ∙ drop-append_seam (applied_of s.history) [])

with_others : (s : Standing) (more : List Standing) → IsSound s → AllByRecursion (AreOfOneLog s) more → RisesBefore s (longest_known more)
with_others s [] sound all = none_behind s [] sound (drop_none (length (applied_of s.history)))
with_others s (t ∷ more) sound all = longer_has (RisesBefore s) (known_of t) (longest_known more) all.0.2 (with_others s more sound all.1)

-- those behind one, with what that one knows
with_first : (s : Standing) (more : List Standing) (log : List Entry) → AllByRecursion (AreOfOneLog s) more
    → AllByRecursion (λ (t : Standing). RisesBefore t log) more → AllByRecursion (λ (t : Standing). RisesBefore t (longer (known_of s) log)) more
with_first s [] log are rise = tt
with_first s (t ∷ more) log are rise = (longer_has (RisesBefore t) (known_of s) log are.0.3 rise.0, with_first s more log are.1 rise.1)

all_rise : (standings : List Standing) → AllByRecursion IsSound standings → AreAllOfOneLog standings
    → AllByRecursion (λ (s : Standing). RisesBefore s (longest_known standings)) standings
all_rise [] sound are = tt
all_rise (s ∷ more) sound are = (
  longer_has (RisesBefore s) (known_of s) (longest_known more) (with_itself s sound.0) (with_others s more sound.0 are.0),
  with_first s more (longest_known more) are.0 (all_rise more sound.1 are.1),
)

-- of every connection they rise along the log
known_rises : (s : Standing) → IsSound s → EachRises (known_of s)
known_rises s sound =
    subst EachRises
    (sym (ap (λ (held : Option Entry). applied_of s.history ++ option_to_list held) sound.idle ∙ append-nil (applied_of s.history)))
    sound.entries

pub log_rises : (standings : List Standing) → AllByRecursion IsSound standings → EachRises (longest_known standings)
log_rises [] sound = λ node serial. tt
log_rises (s ∷ more) sound = longer_has EachRises (known_of s) (longest_known more) (known_rises s sound.0) (log_rises more sound.1)

-- and along the most that a node did and the log behind that
pub pasts_rise : (standings : List Standing) → AllByRecursion IsSound standings → AreAllOfOneLog standings
    → (node : ℕ) → RisesTo node (longest_known standings) (longest_past standings node)
pasts_rise standings sound are =
    past_has (λ (node : ℕ) (turns : List LogEvent). RisesTo node (longest_known standings) turns) standings
    (log_rises standings sound) (all_rise standings sound are)
