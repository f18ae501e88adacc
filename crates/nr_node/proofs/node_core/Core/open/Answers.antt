use Rattle.std.proofs.Common.{◌≡◌, ℕ, ◌≤◌, ap, sym, ◌∙◌, subst, arith, length}
use Rattle.std.specs.Prelude.{None, slice_index_or}
use Rattle.std.specs.FinMap as finmap
use Rattle.nr_model.specs.Items.{Connection}
use Rattle.nr_log_end.specs.declared.standing.Standing.{Standing}
use Rattle.nr_job_numbers.specs.Account.{fresh_account}
use Rattle.nr_job_numbers.specs.Book.{Book}
use Rattle.nr_replica.specs.Replicas.{ReplicaState}
use Rattle.nr_node.specs.Kept.{IsKept}
use Rattle.nr_node.specs.Level.{NodeState}
use Rattle.nr_node.specs.Next.{jobs_next}
use Rattle.nr_node.specs.Steps.{HasOpened}
use Rattle.nr_node.proofs.Shares.{still_last}
use Rattle.nr_node.proofs.Taking.{opened_kept, forgotten_book}
use Rattle.nr_node.proofs.node_core.Core.open.Goals as goal

pub invariant_of-self-in-Ok : goal.invariant_of-self-in-Ok
invariant_of-self-in-Ok g c =
    let keeps = c.self.invariant in
    let inside = c.self.inside in
    let is = c.note_opened.ensures.opened in
    let book : c.open.new.self ≡ record inside.accounts { held = finmap.insert inside.accounts.held (length inside.replica.members) (fresh_account c.args.worker) } =
    c.in_default.ensures.opened
    ∙ ap (λ (n : ℕ). record inside.accounts { held = finmap.insert inside.accounts.held n (fresh_account c.args.worker) }) c.connections-serial.ensures in (
      subst (λ (b : Book). IsKept c.note_opened.new.self.standing c.open-2.new.self b inside.next inside.nodes) (sym book)
          (opened_kept inside.end.standing c.note_opened.new.self.standing inside.replica c.open-2.new.self inside.accounts inside.next inside.nodes c.args.worker
          c.args.limit c.in-Ok.ensures.opened is c.note_opened.ensures.seen keeps.0),
      ap (λ (x : Standing). x.held) is ∙ keeps.1,
      λ node. ap (λ (x : Standing). slice_index_or x.unfilled node None) is ∙ keeps.2 node,
      keeps.3 ∙ sym (ap (λ (x : Standing). x.nodes) is),
      keeps.4,
      still_last inside.kept inside.end c.note_opened.new.self (ap (λ (x : Standing). x.reservations) is) (ap (λ (x : Standing). x.nodes) is)
          (_, c.note_opened.ensures.looks) keeps.5,
    )

pub invariant_of-self-in-Err-open : goal.invariant_of-self-in-Err-open
invariant_of-self-in-Err-open g c =
    let keeps = c.self.invariant in
    let inside = c.self.inside in
    let all : length inside.replica.members ≤ length inside.replica.members = omega arith in
    let book = forgotten_book inside.accounts c.open.new.self c.forget.new.self c.connections-serial.result (length inside.replica.members) (fresh_account c.args.worker)
    c.in_default.ensures.opened c.forget.ensures c.connections-serial.ensures (keeps.0.order.closed (length inside.replica.members) all) in (
      subst (λ (b : Book). IsKept inside.end.standing c.open-2.new.self b inside.next inside.nodes) (sym book)
          (subst (λ (r : ReplicaState). IsKept inside.end.standing r inside.accounts inside.next inside.nodes) (sym c.in-Err-open.ensures.unchanged) keeps.0),
      keeps.1,
      keeps.2,
      keeps.3,
      keeps.4,
      keeps.5,
    )

pub returns-in-Ok-clause-opened : goal.returns-in-Ok-clause-opened
returns-in-Ok-clause-opened g c =
    let inside = c.self.inside in
    let book : c.open.new.self ≡ record inside.accounts { held = finmap.insert inside.accounts.held (length inside.replica.members) (fresh_account c.args.worker) } =
    c.in_default.ensures.opened
    ∙ ap (λ (n : ℕ). record inside.accounts { held = finmap.insert inside.accounts.held n (fresh_account c.args.worker) }) c.connections-serial.ensures in
    let after : NodeState = record { seat = c.note_opened.new.self; replica = c.open-2.new.self; book = c.open.new.self; next = jobs_next inside.next } in
    subst (λ (n : NodeState). HasOpened c.args.limit c.args.worker n after) c.self.view_is record {
      opened = λ i. record { seat = c.note_opened.new.self; replica = c.in-Ok.ensures.opened i; book = book i; next = jobs_next inside.next };
      noted = c.note_opened.ensures.opened;
      seen = c.note_opened.ensures.seen;
      looks = c.note_opened.ensures.looks;
    }

pub returns-in-Err-open-clause-unchanged : goal.returns-in-Err-open-clause-unchanged
returns-in-Err-open-clause-unchanged g c =
    let keeps = c.self.invariant in
    let inside = c.self.inside in
    let all : length inside.replica.members ≤ length inside.replica.members = omega arith in
    let book = forgotten_book inside.accounts c.open.new.self c.forget.new.self c.connections-serial.result (length inside.replica.members) (fresh_account c.args.worker)
    c.in_default.ensures.opened c.forget.ensures c.connections-serial.ensures (keeps.0.order.closed (length inside.replica.members) all) in
    (λ i. record { seat = inside.end; replica = c.in-Err-open.ensures.unchanged i; book = book i; next = jobs_next inside.next }) ∙ c.self.view_is

pub returns-in-Ok-clause-new : goal.returns-in-Ok-clause-new
returns-in-Ok-clause-new g c =
    let inside = c.self.inside in
    let all : length inside.replica.members ≤ length inside.replica.members = omega arith in
    let none : finmap.get inside.accounts.held c.in-Ok.conn.serial ≡ None =
    ap (λ (x : Connection). finmap.get inside.accounts.held x.serial) c.in-Ok.ensures.conn ∙ c.self.invariant.0.order.closed (length inside.replica.members) all in
    subst (λ (n : NodeState). finmap.get n.book.held c.in-Ok.conn.serial ≡ None) c.self.view_is none

pub returns-in-Ok-clause-node : goal.returns-in-Ok-clause-node
returns-in-Ok-clause-node g c =
    let keeps = c.self.invariant.0 in
    ap (λ (x : Connection). x.node) c.in-Ok.ensures.conn ∙ sym keeps.level.node ∙ sym keeps.order.book_is ∙ ap (λ (n : NodeState). n.book.node) c.self.view_is
