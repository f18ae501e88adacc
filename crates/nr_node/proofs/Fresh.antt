-- A node that has done nothing yet is level, and in order.
use Rattle.std.proofs.Common.{◌≡◌, ℕ, [], arith, refl, sym, ◌∙◌, subst}
use Rattle.std.specs.Prelude.{Option, None}
use Rattle.std.specs.Ordering.{nat_cmp}
use Rattle.std.specs.FinMap as finmap
use Rattle.nr_job_numbers.specs.declared.account.Account.{Account}
use Rattle.nr_job_numbers.specs.Stored.{CountsTo}
use Rattle.nr_job_numbers.specs.Book.{Book}
use Rattle.nr_oplog.specs.Rule.{opening_view}
use Rattle.nr_oplog.specs.declared.view.LogView.{LogView}
use Rattle.nr_replica.specs.Replicas.{ReplicaState}
use Rattle.nr_node.specs.Level.{IsLevel, IsInOrder}
use Rattle.nr_node.specs.Kept.{IsKept}
use Rattle.nr_node.specs.Steps.{fresh_node}
use Rattle.nr_node.proofs.Owed.{fresh_owing}

none_held : (serial : ℕ) → finmap.get (finmap.empty {X = Account} {R = nat_cmp}) serial ≡ None
none_held serial = finmap.get-empty nat_cmp serial

pub fresh_level : (nodes places node upto workers : ℕ) → let n = fresh_node (opening_view nodes places node upto) node workers in IsLevel n.seat.standing n.replica
fresh_level nodes places node upto workers = record {
  node = refl;
  named = tt;
  opened = refl;
  server = λ up. refl;
  applied = λ up. refl;
  behind = λ serial below. absurd (omega arith);
  whole = λ up serial below. absurd (omega arith);
}

pub fresh_order : (nodes places node upto workers : ℕ) → let n = fresh_node (opening_view nodes places node upto) node workers in IsInOrder n.seat.standing n.replica n.book n.next
fresh_order nodes places node upto workers = record {
  book_is = refl;
  own = tt;
  numbered = λ serial. refl;
  taken = λ serial. subst (λ (a : Option Account). CountsTo (λ (x : Account). x.next) a []) (sym (none_held serial)) refl;
  unopened = λ serial past. refl;
  closed = λ serial past. none_held serial;
  reads = tt;
  entries = λ _ serial. tt;
  passed = omega arith;
  met = tt;
}

pub fresh_kept : (nodes places node upto workers shares : ℕ)
    → let n = fresh_node (opening_view nodes places node upto) node workers in IsKept n.seat.standing n.replica n.book None shares
fresh_kept nodes places node upto workers shares = record {
  level = fresh_level nodes places node upto workers;
  order = fresh_order nodes places node upto workers;
  next_is = tt;
  owed = refl;
  owing = λ up. fresh_owing workers;
  accounts = λ serial account at. absurd (cc (sym (none_held serial) ∙ at));
  fallen = λ down. absurd (cc down);
}

pub started_kept : (end : LogView) (replica : ReplicaState) (book : Book) (nodes places node upto workers shares : ℕ) → end ≡ opening_view nodes places node upto
    → replica ≡ (fresh_node (opening_view nodes places node upto) node workers).replica → book ≡ (fresh_node (opening_view nodes places node upto) node workers).book
    → IsKept end.standing replica book None shares
started_kept end replica book nodes places node upto workers shares is r b =
    let n = fresh_node (opening_view nodes places node upto) node workers in
    subst (λ (v : LogView). IsKept v.standing replica book None shares) (sym is)
    (subst (λ (x : ReplicaState). IsKept n.seat.standing x book None shares) (sym r)
    (subst (λ (x : Book). IsKept n.seat.standing n.replica x None shares) (sym b) (fresh_kept nodes places node upto workers shares)))
