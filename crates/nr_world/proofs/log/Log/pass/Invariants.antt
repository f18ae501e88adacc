use Rattle.std.proofs.Common.{◌≡◌, ◌-◌, drop}
use Rattle.nr_world.proofs.log.Log.pass.Given as goal

-- so many of the first are gone
abbrev pub invariant-loop : goal.invariant-loop
invariant-loop l = record { base : l.self.base ≡ l.fn.self.base; entries : l.self.entries.items ≡ drop (l.counter - l.fn.self.base) l.fn.self.entries.items }
