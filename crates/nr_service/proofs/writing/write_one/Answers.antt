-- It was written further by what was tried first, and by what was written behind that.
use Rattle.std.proofs.Common.{false, refl}
use Rattle.nr_service.proofs.Feeding.{one_then, still_one}
use Rattle.nr_service.proofs.Heard.{heard_then}
use Rattle.nr_service.proofs.writing.write_one.Goals as goal

pub returns-clause-served : goal.returns-clause-served
returns-clause-served g c =
    let client = c.write_some-first.new.client in
    let roomy = record client { room = c.room_behind-client.result; has_filled = false } in
    let was = c.args.client.now in
    one_then _ _ _ _ _ _ _ _ _ _ _ _ (still_one _ _ _ _ _ _ _ was (record was { fell = c.fell_at-client.result }) refl refl refl (λ ended. ended))
    (one_then _ _ _ _ _ _ _ _ _ _ _ _ c.write_some-first.ensures.served
    (one_then _ _ _ _ _ _ _ _ _ _ _ _ (still_one _ _ _ _ _ _ _ client roomy refl refl refl (λ ended. ended)) c.write_on-left.ensures.served))

pub returns-clause-heard : goal.returns-clause-heard
returns-clause-heard g c = heard_then _ _ _ _ _ _ _ c.write_some-first.ensures.heard c.write_on-left.ensures.heard
