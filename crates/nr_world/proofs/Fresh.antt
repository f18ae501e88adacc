-- A world with nothing in it.
use Rattle.std.proofs.Common.{◌≡◌, ℕ, zero, suc, ◌+◌, false, List, [], ◌∷◌, ◌++◌, length, map, replicate, refl, ap, sym, ◌∙◌, subst, arith}
use Rattle.std.proofs.Math.Seq.{drop-nil}
use Rattle.std.proofs.lemmas.List.{map-append}
use Rattle.nr_model.specs.Connections.{Setup}
use Rattle.nr_model.specs.Nodes as nodes
use Rattle.nr_world.specs.declared.node.WorldNode.{WorldNode}
use Rattle.nr_world.specs.declared.log.Log.{Log}
use Rattle.nr_world.specs.Served.{node_seen}
use Rattle.nr_world.specs.Logs.{log_seen}
use Rattle.nr_world.specs.Whole.{IsWhole, AreWhole, IsHeld}
use Rattle.nr_world.specs.WorldState.{Shows}
use Rattle.nr_world.proofs.Changed.{replicate-push}

-- a whole node behind the others
whole_push : (xs : List WorldNode) (first n : ℕ) (x : WorldNode) → length xs ≡ n → AreWhole first xs → IsWhole (first + n) x → AreWhole first (xs ++ x ∷ [])
whole_push [] first n x e w is = (subst (λ k. IsWhole k x) (let same : first + n ≡ first = omega (arith, e) in same) is, tt)
whole_push (y ∷ xs) first zero x e w is = absurd (omega (arith, e))
whole_push (y ∷ xs) first (suc n) x e w is =
    (w.0, whole_push xs (suc first) n x (omega (arith, e)) w.1 (subst (λ k. IsWhole k x) (let same : first + suc n ≡ suc first + n = omega arith in same) is))

pub whole_further : (xs new : List WorldNode) (n : ℕ) (x : WorldNode) → new ≡ xs ++ x ∷ [] → length xs ≡ n → AreWhole 0 xs → IsWhole n x → AreWhole 0 new
whole_further xs new n x e long w is =
    subst (AreWhole 0) (sym e) (whole_push xs 0 n x long w (subst (λ k. IsWhole k x) (let same : n ≡ 0 + n = omega arith in same) is))

pub seen_further : (xs new : List WorldNode) (n : ℕ) (x : WorldNode) (node : nodes.Node) → new ≡ xs ++ x ∷ [] → map node_seen xs ≡ replicate n node → node_seen x ≡ node
    → map node_seen new ≡ replicate (n + 1) node
seen_further xs new n x node e are is =
    ap (map node_seen) e ∙ map-append node_seen xs (x ∷ []) ∙ (λ i. are i ++ is i ∷ []) ∙ sym (replicate-push n node)

-- it shows the fresh world of the definitions
pub fresh_shown : (setup : Setup) (xs : List WorldNode) (log : Log) → map node_seen xs ≡ replicate setup.nodes (nodes.fresh_node setup) → log_seen log ≡ [] → log.base ≡ 0
    → Shows (record { setup = setup; nodes = xs; log = log; failed = false }) (nodes.fresh setup)
fresh_shown setup xs log are none zero_is = record {
  still = refl;
  nodes = are;
  log = none ∙ sym (drop-nil log.base);
  base = omega (arith, zero_is);
  passed = λ n there. omega (arith, zero_is);
}

pub fresh_held : (setup : Setup) (xs : List WorldNode) (log : Log) → map node_seen xs ≡ replicate setup.nodes (nodes.fresh_node setup) → log_seen log ≡ [] → log.base ≡ 0
    → AreWhole 0 xs → IsHeld (record { setup = setup; nodes = xs; log = log; failed = false })
fresh_held setup xs log are none zero_is whole = record {
  events = [];
  world = nodes.fresh setup;
  past = (tt, refl);
  shows = fresh_shown setup xs log are none zero_is;
  whole = whole;
  fits = let long : length (log_seen log) ≡ 0 = ap length none in omega (arith, zero_is);
}
