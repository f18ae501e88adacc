-- What was served on a reader and a writer as one stream, said of the two.
use Rattle.std.proofs.Common.{◌≡◌, ℕ, Bool, true, false, inl, inr, ◌⊎◌, refl, sym, ◌∙◌, subst}
use Rattle.std.specs.Prelude.{Option, Some, IfSome, Result, Ok}
use Rattle.std.specs.Io.KnownBytes.{Appends, Consumes}
use Rattle.nr_model.specs.Bytes.{Bytes, IsBeginningOf}
use Rattle.nr_model.specs.Items.{Connection}
use Rattle.nr_model.specs.Nodes.{World, client_of, sequence_of}
use Rattle.nr_model.specs.Connections.{fed_to}
use Rattle.nr_model.specs.Sequential.{emitted_for}
use Rattle.nr_server.specs.Ran.{run_answer, HasRunOn, IsOver as IsAtEnd, IsTold}
use Rattle.nr_server.specs.Runs.{IsServed}
use Rattle.nr_server.specs.declared.fault.Fault.{Fault}
use Rattle.nr_server.specs.declared.line.Ran.{Ran}
use Rattle.nr_server.specs.declared.run.Done.{Done}
use Rattle.nr_server.specs.declared.run.Done.TheVariants as dones
use Rattle.nr_server.specs.declared.run.ServedConnection.{ServedConnection}
use Rattle.nr_service.specs.Streams.{Course}

-- what may be told
pub is_told : (done : Done) (has_read_failed is_stuck : Bool) (told : Result (Unit {0}) Fault) → told ≡ run_answer done has_read_failed is_stuck → IsTold told
is_told dones.Whole has_read_failed true told is = inr (inr (inl is))
is_told dones.Whole has_read_failed false told is = inl is
is_told dones.Broken true is_stuck told is = inr (inl is)
is_told dones.Broken false is_stuck told is = inr (inr (inl is))
is_told dones.Memory has_read_failed is_stuck told is = inr (inr (inr is))

-- no fault is told only where it ended whole
pub told_whole : (done : Done) (has_read_failed is_stuck : Bool) (told : Result (Unit {0}) Fault) → told ≡ run_answer done has_read_failed is_stuck
    → told ≡ Ok tt → done ≡ dones.Whole
told_whole dones.Whole has_read_failed is_stuck told is ok = refl
told_whole dones.Broken true is_stuck told is ok = absurd (cc (sym is ∙ ok))
told_whole dones.Broken false is_stuck told is ok = absurd (cc (sym is ∙ ok))
told_whole dones.Memory has_read_failed is_stuck told is ok = absurd (cc (sym is ∙ ok))

-- why it ended whole
over : (all : Option Bytes) (read : Bytes) (c : Connection) (world : World) (has_ended : Bool) → (has_ended ≡ true → IfSome all (λ bytes. read ≡ bytes))
    → ((has_ended ≡ true) ⊎ ((client_of c world).ended ≡ true) ⊎ ((client_of c world).queue.cut ≡ true)) → IsAtEnd all read c world
over all read c world has_ended ends (inl e) = inl (ends e)
over all read c world has_ended ends (inr why) = inr why

-- What was served on a stream that knows what was read and written, and how it stands, was served on a reader and a writer.
pub has_run : {R W S M : Type 0} (remaining : R → Option Bytes) (contents : W → Option Bytes) (gives : M → M → Option ℕ → Type 0) (clock : M)
    (reader : R) (writer : W) (ran : Ran R W) (all before : Option Bytes) (was_received was_sent : S → Option Bytes) (course : S → Option Course)
    (served : ServedConnection S) (has_ended has_failed is_full has_read_failed is_stuck : Bool) → remaining reader ≡ all → contents writer ≡ before
    → was_received served.stream ≡ Some ran.read.bytes → was_sent served.stream ≡ Some ran.written.bytes
    → course served.stream ≡ Some (record { ended = has_ended; failed = has_failed; full = is_full })
    → Consumes all (remaining ran.reader) ran.read.bytes → Appends before (contents ran.writer) ran.written.bytes
    → (has_ended ≡ true → IfSome all (λ bytes. ran.read.bytes ≡ bytes)) → ran.done ≡ run_answer served.done has_read_failed is_stuck
    → IsServed was_received was_sent course gives clock served → HasRunOn remaining contents gives clock reader writer ran
has_run remaining contents gives clock reader writer ran all before was_received was_sent course served has_ended has_failed is_full has_read_failed is_stuck all_is
    before_is received sent at reads writes ends told (c, events, world, begun, whole, broken) =
    let fed_by : (P : Bytes → Type 0) → IfSome (was_received served.stream) P → P ran.read.bytes =
    λ P. subst (λ (k : Option Bytes). IfSome k P) received in
    let sent_by : (P : Bytes → Type 0) → IfSome (was_sent served.stream) P → P ran.written.bytes = λ P. subst (λ (k : Option Bytes). IfSome k P) sent in
    record {
      c = c;
      events = events;
      world = world;
      reads = subst (λ (k : Option Bytes). Consumes k (remaining ran.reader) ran.read.bytes) (sym all_is) reads;
      writes = subst (λ (k : Option Bytes). Appends k (contents ran.writer) ran.written.bytes) (sym before_is) writes;
      past = begun.past;
      explained = begun.explained;
      unclosed = begun.unclosed;
      in_time = begun.in_time;
      fed = fed_by (IsBeginningOf (fed_to c world.fed)) begun.fed;
      sent = sent_by (λ bytes. IsBeginningOf bytes (emitted_for c (sequence_of world))) begun.sent;
      told = is_told served.done has_read_failed is_stuck ran.done told;
      whole = λ ok.
          let w = whole (told_whole served.done has_read_failed is_stuck ran.done told ok) in
          record {
            over =
                subst (λ (k : Option Bytes). IsAtEnd k ran.read.bytes c world) (sym all_is)
                (over all ran.read.bytes c world has_ended ends
                (subst (λ (k : Option Course). IfSome k (λ at. at.ended ≡ true) ⊎ ((client_of c world).ended ≡ true) ⊎ ((client_of c world).queue.cut ≡ true))
                at w.over));
            there = w.there;
            up = w.up;
            fed = fed_by (λ bytes. bytes ≡ fed_to c world.fed) w.fed;
            executed = w.executed;
            sent = λ uncut. sent_by (λ bytes. bytes ≡ emitted_for c (sequence_of world)) (w.sent uncut);
          };
    }
