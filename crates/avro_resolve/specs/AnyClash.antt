-- Private: what becomes of a worklist of pairs' numbers.
use Rattle.std.specs.Prelude.{◌≡◌, ◌<◌, ℕ, ◌*◌, List, length, true, false, All}
use Rattle.avro_schema.specs.declared.node.Node.{Node}
use Rattle.avro_resolve.specs.declared.worklist.Worklist.{Worklist}
use Rattle.avro_resolve.specs.declared.obligations.Pair.{Pair}
use Rattle.avro_resolve.specs.Worklist.{is_met, waits}
use Rattle.avro_resolve.specs.Numbered.{number_of}

-- what was met stays so, and what is met for the first time waits
pub record HasGrown (many : ℕ) (a b : Worklist) : Type 0 where
  pub stays : (k : ℕ) → is_met a k ≡ true → is_met b k ≡ true
  pub kept : (k : ℕ) → is_met a k ≡ true → waits b k ≡ waits a k
  pub fresh : (k : ℕ) → is_met a k ≡ false → is_met b k ≡ true → waits b k ≡ true
  pub below : (k : ℕ) → is_met a k ≡ false → is_met b k ≡ true → k < many

-- these pairs were met besides
pub record HaveMet (r w : List Node) (a : Worklist) (ps : List Pair) (b : Worklist) : Type 0 where
  pub grown : HasGrown (length r * length w) a b
  pub each : All (λ p. is_met b (number_of w p) ≡ true) ps
