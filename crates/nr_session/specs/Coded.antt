-- Codes of modes.
use Rattle.std.specs.Prelude.{Bool, List, Option, refl}
use Rattle.std.specs.Coded.{Coded, code_by, coded×, coded_bool, coded_list, coded_option}
use Rattle.nr_model.specs.Bytes.{Bytes}
use Rattle.nr_model.specs.Keyspace.{coded_bytes}
use Rattle.nr_model.specs.declared.command.Command.{Command}
use Rattle.nr_model.specs.contracts.command.Command as of_command
use Rattle.nr_model.specs.Items.{Call}
use Rattle.nr_model.specs.Modes.{Transaction, Mode}
use Rattle.nr_model.specs.Names.{Held}
use Rattle.nr_pubsub.specs.Holdings.{coded_held}

abbrev pub coded_call : Coded Call
coded_call = code_by (Command × List Bytes) (coded× of_command.the_row.coded (coded_list coded_bytes)) (λ c. (c.command, c.words))
    (λ p. record { command = p.0; words = p.1 }) (λ _. refl)

abbrev pub coded_transaction : Coded Transaction
coded_transaction = code_by (List Call × Bool) (coded× (coded_list coded_call) coded_bool) (λ t. (t.queued, t.spoiled))
    (λ p. record { queued = p.0; spoiled = p.1 }) (λ _. refl)

abbrev pub coded_mode : Coded Mode
coded_mode = code_by (Option Transaction × Held) (coded× (coded_option coded_transaction) coded_held) (λ m. (m.transaction, m.held))
    (λ p. record { transaction = p.0; held = p.1 }) (λ _. refl)
