-- How a connection was served, by how the service over a server of one node ended.
use Rattle.std.proofs.Common.{◌≡◌, ℕ, ◌<◌, List, [], ◌∷◌, ◌++◌, refl, sym, ap, ◌∙◌, subst, arith, length, get_or}
use Rattle.std.specs.Prelude.{All, Option}
use Rattle.std.proofs.lemmas.List.Elements.{All-nil, All-head}
use Rattle.std.specs.List.{IsDistinct}
use Rattle.nr_model.specs.Bytes.{Bytes}
use Rattle.nr_model.specs.Items.{Connection}
use Rattle.nr_service.specs.declared.client.Client.{Client}
use Rattle.nr_service.specs.Readings.{AreFedByClock, IsNeverFed}
use Rattle.nr_service.specs.Serving.{connection, AreServed, IsLeft, IsServed as IsServedSo}
use Rattle.nr_service.proofs.Left.{still_left}
use Rattle.nr_service.specs.Stories.{Occurrence, Story, beginning, fed_in, closings_in, closed_in, going_on}
use Rattle.nr_service.proofs.Occurrences.{closed_both, closings_still, fed_on}
use Rattle.nr_service.proofs.Timed.{fed_unread, none_fed, none_timed}
use Rattle.nr_world_service.specs.Kept.{kept_at}
use Rattle.nr_world_service.specs.Led.{HasLedTo, HasOnceLed, IsAtRest}
use Rattle.nr_world_service.specs.Stands.{Stands}
use Rattle.nr_world_service.specs.State.{WorldBackendState}
use Rattle.nr_server.specs.Going.{HasEnded}
use Rattle.nr_server.specs.Runs.{alone, IsServed}
use Rattle.nr_server.specs.declared.run.Done.{Done}
use Rattle.nr_server.specs.declared.run.Done.TheVariants as dones
use Rattle.nr_server.proofs.Begun.{begins}
use Rattle.nr_server.proofs.Whole.{whole}
use Rattle.nr_service.specs.Streams.{Course}

abbrev pub Kept : WorldBackendState → Connection → Option Bytes
Kept a c = kept_at c a.taps

-- no client is served yet
pub none_served : {S : Type 0} (was_received was_sent : S → Option Bytes) (course : S → Option Course) (a : WorldBackendState) (clients : List (Client S))
    → clients ≡ [] → HasLedTo a (beginning alone) → AreServed was_received was_sent course (HasLedTo a) (Kept a) (beginning alone) clients
unfolding IsDistinct
none_served was_received was_sent course a clients none led =
    subst (AreServed was_received was_sent course (HasLedTo a) (Kept a) (beginning alone)) (sym none)
    (record { past = led; each = All-nil _; apart = tt })

-- a story that goes on, in which nothing more was closed
pub sized_on : (story next : Story) (more : List Occurrence) → next ≡ going_on story more → story.setup ≡ alone → next.setup ≡ alone
sized_on story next more is sized = ap (λ (s : Story). s.setup) is ∙ sized

pub calm_on : (story next : Story) (more : List Occurrence) → next ≡ going_on story more → closed_in more ≡ [] → closed_in story.occurrences ≡ []
    → closed_in next.occurrences ≡ []
calm_on story next more is none calm =
    ap (λ (s : Story). closed_in s.occurrences) is ∙ closed_both story.occurrences more ∙ (λ i. calm i ++ none i)

-- nothing was fed or closed yet, and the clock wasn't read
pub begun_fed : {M : Type 0} (gives : M → M → Option ℕ → Type 0) (clock made admitted : M) (made_at admitted_at : ℕ) (next : Story)
    (more : List Occurrence) → next ≡ going_on (beginning alone) more → All IsNeverFed (fed_in more) → closed_in more ≡ [] → made ≡ clock
    → made_at ≡ 0 → admitted ≡ made → admitted_at ≡ made_at → AreFedByClock gives clock admitted admitted_at (fed_in next.occurrences) (closings_in next.occurrences)
begun_fed gives clock made admitted made_at admitted_at next more is none calm made_is made_zero admitted_is admitted_same =
    fed_unread gives clock clock admitted 0 admitted_at [] (fed_in next.occurrences) [] (closings_in next.occurrences)
    (fed_on (beginning alone) next more is ∙ none_fed (fed_in more) none) (closings_still (beginning alone) next more is calm)
    (record { clock_is = admitted_is ∙ made_is; moment_is = admitted_same ∙ made_zero }) (none_timed gives clock)

-- the first one was served so
first_served : {S M : Type 0} (was_received was_sent : S → Option Bytes) (course : S → Option Course) (gives : M → M → Option ℕ → Type 0)
    (first last : M) (now : ℕ) (a : WorldBackendState) (story : Story) (client : Client S)
    (more : List (Client S)) (done : Done) → story.setup ≡ alone → closed_in story.occurrences ≡ []
    → HasEnded was_received was_sent course HasLedTo (λ _. HasOnceLed) IsAtRest Kept Stands (AreFedByClock gives first last now) story a (client ∷ more) done
    → IsServed was_received was_sent course gives first (record { stream = client.stream; done = done })
first_served was_received was_sent course gives first last now a story client more dones.Whole sized calm ended =
    let o = ended.whole refl in
    let served = All-head (IsServedSo was_received was_sent course (Kept a) o.next) client more o.served.each in
    let size = sized_on story o.next o.more o.is sized in
    let shut = calm_on story o.next o.more o.is o.closed calm in (
      connection client,
      o.rest.events,
      o.rest.world,
      begins was_received was_sent gives first last now o.next o.rest.events o.rest.world client size shut o.rest.is o.timed
          (still_left was_received was_sent course (Kept a) o.next client served),
      λ e. whole was_received was_sent course a o.next client size shut o.rest served (o.first.0 refl),
      λ e. absurd (cc e),
    )
first_served was_received was_sent course gives first last now a story client more dones.Broken sized calm ended =
    let l = ended.left in (
      connection client,
      l.left.led.events,
      l.left.led.world,
      begins was_received was_sent gives first last now l.next l.left.led.events l.left.led.world client (sized_on story l.next l.more l.is sized)
          (calm_on story l.next l.more l.is l.closed calm) l.left.led.is l.timed (All-head (IsLeft was_received was_sent l.next) client more l.each),
      λ e. absurd (cc e),
      λ e. ended.broken refl,
    )
first_served was_received was_sent course gives first last now a story client more dones.Memory sized calm ended =
    let l = ended.left in (
      connection client,
      l.left.led.events,
      l.left.led.world,
      begins was_received was_sent gives first last now l.next l.left.led.events l.left.led.world client (sized_on story l.next l.more l.is sized)
          (calm_on story l.next l.more l.is l.closed calm) l.left.led.is l.timed (All-head (IsLeft was_received was_sent l.next) client more l.each),
      λ e. absurd (cc e),
      λ e. absurd (cc e),
    )

pub served : {S M : Type 0} (was_received was_sent : S → Option Bytes) (course : S → Option Course) (gives : M → M → Option ℕ → Type 0)
    (first last : M) (now : ℕ) (a : WorldBackendState) (story : Story)
    (clients : List (Client S)) (client : Client S) (done : Done) → story.setup ≡ alone → closed_in story.occurrences ≡ [] → 0 < length clients
    → client ≡ get_or clients 0 client → HasEnded was_received was_sent course HasLedTo (λ _. HasOnceLed) IsAtRest Kept Stands
    (AreFedByClock gives first last now) story a clients done
    → IsServed was_received was_sent course gives first (record { stream = client.stream; done = done })
served was_received was_sent course gives first last now a story [] client done sized calm some is ended = absurd (omega arith)
served was_received was_sent course gives first last now a story (front ∷ more) client done sized calm some is ended =
    subst (λ (one : Client _). IsServed was_received was_sent course gives first (record { stream = one.stream; done = done })) (sym is)
    (first_served was_received was_sent course gives first last now a story front more done sized calm ended)
