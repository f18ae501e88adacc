-- The account of a connection: the worker that serves it, the number of its next job, and whether its end was taken.
use Rattle.std.specs.Prelude.{ℕ, ◌+◌, ◌-◌, ◌^◌, Bool, false, not, ◌&&◌, ◌==◌, nat_lt, Option, Some, None}
use Rattle.nr_model.specs.Items.{Item, is_end}
use Rattle.nr_job_numbers.specs.declared.account.Account.{Account}

-- no job is numbered so
abbrev pub most_number : ℕ
most_number = 2 ^ 64 - 1

abbrev pub fresh_account : ℕ → Account
fresh_account worker = record { worker = worker; next = 0; is_ended = false }

-- the worker serves the connection, the end of which wasn't taken
abbrev pub is_of : ℕ → Account → Bool
is_of worker account = account.worker == worker && not account.is_ended

-- its next job
abbrev pub is_next : Item → Account → Bool
is_next job account = job.number == account.next && nat_lt account.next most_number

abbrev pub takes : ℕ → Item → Account → Bool
takes worker job account = is_of worker account && is_next job account

-- with one more job, and with one fewer
abbrev pub taken : Item → Account → Account
taken job account = record account { next = account.next + 1; is_ended = is_end job.deed }

abbrev pub untaken : Account → Account
untaken account = record account { next = account.next - 1; is_ended = false }

-- with a note whether this job is its end, and with no end
abbrev pub noted : Item → Account → Account
noted job account = record account { is_ended = is_end job.deed }

abbrev pub reopened : Account → Account
reopened account = record account { is_ended = false }

-- its end was taken, and this is it: the last that was taken
abbrev pub ends_with : Item → Account → Bool
ends_with job account = ((account.is_ended && is_end job.deed) && nat_lt job.number account.next) && (account.next - job.number == 1)

-- its next job is that of a number, and its end wasn't taken; and the same where there is a number
abbrev pub back_to : ℕ → Account → Account
back_to number account = record account { next = number; is_ended = false }

abbrev pub back_by : Option ℕ → Account → Account
back_by None account = account
back_by (Some number) account = back_to number account
