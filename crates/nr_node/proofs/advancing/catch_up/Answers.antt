use Rattle.std.proofs.Common.{[], ◌≡◌, true, false, ◌-◌, ◌++◌, ◌∙◌, ap, sym, rules}
use Rattle.std.proofs.lemmas.List.{append-nil}
use Rattle.nr_node.proofs.Advances.{looks_on, met_on, more_looks, stopped_on, looked_on, counted, goes_asked, goes_then, went_or_not, behind_tail, reached_tail, few_stopped, few_more, same_passed}
use Rattle.nr_log_end.specs.declared.standing.Standing.{Standing}
use Rattle.nr_node.proofs.Shares.{lets_free, lets_look, lets_stand}
use Rattle.nr_node.proofs.advancing.catch_up.Goals as goal

pub returns-then-not-advance_by-clause-goes : goal.returns-then-not-advance_by-clause-goes
returns-then-not-advance_by-clause-goes g c =
    let s = c.args.end.now.standing in
    let m = c.let_go.new.end.standing in
    let on = looked_on s c.tail-tail.new.self.standing m c.tail-tail.ensures.standing (lets_stand c.args.kept.now.kept c.let_go.new.self.kept c.tail-tail.new.self c.let_go.new.end c.let_go.ensures.go) in
    let stopped : c.advance_by.result ≡ false = search (c.if-not-advance_by.true) in
    let fewer = c.advance_by.ensures.fewer stopped in (
      fewer.0,
      goes_then [] fewer.0 s m c.advance_by.new.end.standing c.args.replica.now c.is_lent_out.new.replica c.advance_by.new.replica c.args.next.now c.args.next.now
          c.advance_by.new.next c.args.accounts.now c.args.accounts.now c.advance_by.new.accounts (goes_asked s m c.args.replica.now c.is_lent_out.new.replica c.args.next.now c.args.accounts.now on c.is_lent_out.ensures.asked) fewer.2,
    )

pub returns-then-not-advance_by-clause-behind : goal.returns-then-not-advance_by-clause-behind
returns-then-not-advance_by-clause-behind g c = λ _.
    let s = c.args.end.now.standing in
    let m = c.let_go.new.end.standing in
    let on = looked_on s c.tail-tail.new.self.standing m c.tail-tail.ensures.standing (lets_stand c.args.kept.now.kept c.let_go.new.self.kept c.tail-tail.new.self c.let_go.new.end c.let_go.ensures.go) in
    let stopped : c.advance_by.result ≡ false = search (c.if-not-advance_by.true) in
    let fewer = c.advance_by.ensures.fewer stopped in
    let count : c.saturating_sub-count.result ≡ m.seen - c.passed.result = counted c.saturating_sub-count.result c.tail-tail.result c.passed.result c.tail-tail.new.self.standing m (search rules) c.tail-tail.ensures.tail
    (lets_stand c.args.kept.now.kept c.let_go.new.self.kept c.tail-tail.new.self c.let_go.new.end c.let_go.ensures.go) in
    behind_tail s m c.advance_by.new.end.standing fewer.0 c.saturating_sub-count.result c.passed.result on fewer.2.passed c.advance_by.ensures.met.0 fewer.1 count
    (c.passed.ensures ∙ same_passed s m on)

pub returns-then-not-advance_by-clause-few : goal.returns-then-not-advance_by-clause-few
returns-then-not-advance_by-clause-few g c =
    let s = c.args.end.now.standing in
    let m = c.let_go.new.end.standing in
    let on = looked_on s c.tail-tail.new.self.standing m c.tail-tail.ensures.standing (lets_stand c.args.kept.now.kept c.let_go.new.self.kept c.tail-tail.new.self c.let_go.new.end c.let_go.ensures.go) in
    let stopped : c.advance_by.result ≡ false = search (c.if-not-advance_by.true) in
    let fewer = c.advance_by.ensures.fewer stopped in
    let count : c.saturating_sub-count.result ≡ m.seen - c.passed.result = counted c.saturating_sub-count.result c.tail-tail.result c.passed.result c.tail-tail.new.self.standing m (search rules) c.tail-tail.ensures.tail
    (lets_stand c.args.kept.now.kept c.let_go.new.self.kept c.tail-tail.new.self c.let_go.new.end c.let_go.ensures.go) in
    few_stopped s m c.advance_by.new.end.standing fewer.0 c.saturating_sub-count.result c.passed.result on fewer.2.passed c.advance_by.ensures.met.0 fewer.1 count
    (c.passed.ensures ∙ same_passed s m on)

pub returns-clause-goes : goal.returns-clause-goes
returns-clause-goes g c =
    let s = c.args.end.now.standing in
    let m = c.let_go.new.end.standing in
    let on = looked_on s c.tail-tail.new.self.standing m c.tail-tail.ensures.standing (lets_stand c.args.kept.now.kept c.let_go.new.self.kept c.tail-tail.new.self c.let_go.new.end c.let_go.ensures.go) in
    let t = c.advance_by.new.end.standing in
    let went : c.advance_by.result ≡ true = search (c.if-not-advance_by.false) in
    let all = c.advance_by.ensures.all went in
    let last = went_or_not c.advance_further.result t c.advance_further.new.end.standing c.advance_by.new.replica c.advance_further.new.replica c.advance_by.new.next c.advance_further.new.next
    c.advance_by.new.accounts c.advance_further.new.accounts c.advance_further.ensures.some c.advance_further.ensures.none in
    let first = goes_then [] all.0 s m t c.args.replica.now c.is_lent_out.new.replica c.advance_by.new.replica c.args.next.now c.args.next.now c.advance_by.new.next
    c.args.accounts.now c.args.accounts.now c.advance_by.new.accounts (goes_asked s m c.args.replica.now c.is_lent_out.new.replica c.args.next.now c.args.accounts.now on c.is_lent_out.ensures.asked) all.2 in (
      all.0 ++ last.0,
      goes_then all.0 last.0 s t c.advance_further.new.end.standing c.args.replica.now c.advance_by.new.replica c.advance_further.new.replica c.args.next.now c.advance_by.new.next
          c.advance_further.new.next c.args.accounts.now c.advance_by.new.accounts c.advance_further.new.accounts first last.1,
    )

pub returns-clause-reached : goal.returns-clause-reached
returns-clause-reached g c = λ _.
    let s = c.args.end.now.standing in
    let m = c.let_go.new.end.standing in
    let on = looked_on s c.tail-tail.new.self.standing m c.tail-tail.ensures.standing (lets_stand c.args.kept.now.kept c.let_go.new.self.kept c.tail-tail.new.self c.let_go.new.end c.let_go.ensures.go) in
    let t = c.advance_by.new.end.standing in
    let went : c.advance_by.result ≡ true = search (c.if-not-advance_by.false) in
    let all = c.advance_by.ensures.all went in
    let last = went_or_not c.advance_further.result t c.advance_further.new.end.standing c.advance_by.new.replica c.advance_further.new.replica c.advance_by.new.next c.advance_further.new.next
    c.advance_by.new.accounts c.advance_further.new.accounts c.advance_further.ensures.some c.advance_further.ensures.none in
    let count : c.saturating_sub-count.result ≡ m.seen - c.passed.result = counted c.saturating_sub-count.result c.tail-tail.result c.passed.result c.tail-tail.new.self.standing m (search rules) c.tail-tail.ensures.tail
    (lets_stand c.args.kept.now.kept c.let_go.new.self.kept c.tail-tail.new.self c.let_go.new.end c.let_go.ensures.go) in (
      reached_tail s m t c.advance_further.new.end.standing all.0 last.0 c.saturating_sub-count.result c.passed.result on all.2.passed last.1.passed
          (c.advance_further.ensures.met.0 ∙ c.advance_by.ensures.met.0) all.1 count (c.passed.ensures ∙ same_passed s m on),
      c.advance_further.ensures.log,
    )

pub returns-clause-few : goal.returns-clause-few
returns-clause-few g c =
    let s = c.args.end.now.standing in
    let m = c.let_go.new.end.standing in
    let on = looked_on s c.tail-tail.new.self.standing m c.tail-tail.ensures.standing (lets_stand c.args.kept.now.kept c.let_go.new.self.kept c.tail-tail.new.self c.let_go.new.end c.let_go.ensures.go) in
    let t = c.advance_by.new.end.standing in
    let went : c.advance_by.result ≡ true = search (c.if-not-advance_by.false) in
    let all = c.advance_by.ensures.all went in
    let last = went_or_not c.advance_further.result t c.advance_further.new.end.standing c.advance_by.new.replica c.advance_further.new.replica c.advance_by.new.next c.advance_further.new.next
    c.advance_by.new.accounts c.advance_further.new.accounts c.advance_further.ensures.some c.advance_further.ensures.none in
    let count : c.saturating_sub-count.result ≡ m.seen - c.passed.result = counted c.saturating_sub-count.result c.tail-tail.result c.passed.result c.tail-tail.new.self.standing m (search rules) c.tail-tail.ensures.tail
    (lets_stand c.args.kept.now.kept c.let_go.new.self.kept c.tail-tail.new.self c.let_go.new.end c.let_go.ensures.go) in
    few_more s m t c.advance_further.new.end.standing all.0 last.0 c.saturating_sub-count.result c.passed.result on all.2.passed last.1.passed
    (c.advance_further.ensures.met.0 ∙ c.advance_by.ensures.met.0) all.1 last.2 count (c.passed.ensures ∙ same_passed s m on)

pub returns-then-not-advance_by-clause-looks : goal.returns-then-not-advance_by-clause-looks
returns-then-not-advance_by-clause-looks g c =
    looks_on c.args.end.now c.tail-tail.new.self c.let_go.new.end c.advance_by.new.end c.tail-tail.result c.tail-tail.ensures.looks c.tail-tail.ensures.tail
    (lets_stand c.args.kept.now.kept c.let_go.new.self.kept c.tail-tail.new.self c.let_go.new.end c.let_go.ensures.go) (lets_look c.args.kept.now.kept c.let_go.new.self.kept c.tail-tail.new.self c.let_go.new.end c.let_go.ensures.go) c.advance_by.ensures.met

pub returns-clause-looks : goal.returns-clause-looks
returns-clause-looks g c =
    looks_on c.args.end.now c.tail-tail.new.self c.let_go.new.end c.advance_further.new.end c.tail-tail.result c.tail-tail.ensures.looks c.tail-tail.ensures.tail
    (lets_stand c.args.kept.now.kept c.let_go.new.self.kept c.tail-tail.new.self c.let_go.new.end c.let_go.ensures.go) (lets_look c.args.kept.now.kept c.let_go.new.self.kept c.tail-tail.new.self c.let_go.new.end c.let_go.ensures.go) (met_on c.let_go.new.end c.advance_by.new.end c.advance_further.new.end c.advance_by.ensures.met c.advance_further.ensures.met)

pub returns-then-not-advance_by-clause-freed : goal.returns-then-not-advance_by-clause-freed
returns-then-not-advance_by-clause-freed g c =
    lets_free c.args.kept.now.kept c.let_go.new.self.kept c.args.end.now c.tail-tail.new.self c.let_go.new.end c.advance_by.new.end c.tail-tail.result c.tail-tail.ensures.looks
    (ap (λ (s : Standing). s.nodes) c.tail-tail.ensures.standing.1) c.let_go.ensures.go c.advance_by.ensures.met.1

pub returns-clause-freed : goal.returns-clause-freed
returns-clause-freed g c =
    lets_free c.args.kept.now.kept c.let_go.new.self.kept c.args.end.now c.tail-tail.new.self c.let_go.new.end c.advance_further.new.end c.tail-tail.result c.tail-tail.ensures.looks
    (ap (λ (s : Standing). s.nodes) c.tail-tail.ensures.standing.1) c.let_go.ensures.go
    (more_looks c.let_go.new.end.looks c.advance_by.new.end.looks c.advance_further.new.end.looks c.advance_by.ensures.met.1 c.advance_further.ensures.met.1)

pub returns-then-not-advance_by-clause-stopped : goal.returns-then-not-advance_by-clause-stopped
returns-then-not-advance_by-clause-stopped g c = λ _.
    let stopped : c.advance_by.result ≡ false = search (c.if-not-advance_by.true) in
    stopped_on c.args.end.now c.tail-tail.new.self c.let_go.new.end c.advance_by.new.end c.tail-tail.result c.advance_by.new.replica c.tail-tail.ensures.looks
    (lets_look c.args.kept.now.kept c.let_go.new.self.kept c.tail-tail.new.self c.let_go.new.end c.let_go.ensures.go) (c.advance_by.ensures.stopped stopped)

pub returns-then-is_lent_out-clause-goes : goal.returns-then-is_lent_out-clause-goes
returns-then-is_lent_out-clause-goes g c =
    let s = c.args.end.now.standing in
    let m = c.let_go.new.end.standing in
    let on = looked_on s c.tail-tail.new.self.standing m c.tail-tail.ensures.standing (lets_stand c.args.kept.now.kept c.let_go.new.self.kept c.tail-tail.new.self c.let_go.new.end c.let_go.ensures.go) in
    ([], goes_asked s m c.args.replica.now c.is_lent_out.new.replica c.args.next.now c.args.accounts.now on c.is_lent_out.ensures.asked)

pub returns-then-is_lent_out-clause-freed : goal.returns-then-is_lent_out-clause-freed
returns-then-is_lent_out-clause-freed g c =
    lets_free c.args.kept.now.kept c.let_go.new.self.kept c.args.end.now c.tail-tail.new.self c.let_go.new.end c.let_go.new.end c.tail-tail.result c.tail-tail.ensures.looks
    (ap (λ (s : Standing). s.nodes) c.tail-tail.ensures.standing.1) c.let_go.ensures.go ([], sym (append-nil c.let_go.new.end.looks))
