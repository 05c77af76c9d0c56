use Rattle.std.proofs.Common.{◌≡◌, ◌<◌, ℕ, List, [], length, drop, refl, ap, ◌∙◌, arith, length-drop}
use Rattle.reg_records.specs.declared.record.Record.{Record}
use Rattle.reg_chain.specs.MemoryState.{MemoryState}
use Rattle.reg_chain.proofs.memory_chain.MemoryChainChain.append.Goals as goal

-- something stands behind the first n
some_behind : (n : ℕ) (batches : List (List Record)) → n < length batches → drop n batches ≡ [] → ⊥
some_behind n batches less none = let e : length (drop n batches) ≡ 0 = ap length none in omega (arith, length-drop n batches, e, less)

pub returns-then-self-len-clause-means : goal.returns-then-self-len-clause-means
returns-then-self-len-clause-means c =
    let less : c.self.inside.told < length c.self.inside.batches.items = omega arith in (
      λ none. some_behind c.self.inside.told c.self.inside.batches.items less (ap (λ (m : MemoryState). m.ahead) c.self.view_is ∙ none),
      refl,
    )
