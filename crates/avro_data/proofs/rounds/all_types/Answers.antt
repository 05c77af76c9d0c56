use Rattle.std.proofs.Common.{◌≡◌, ◌⊎◌, inl, inr, ◌<◌, ◌+◌, ◌∷◌, ◌++◌, [], ℕ, List, Contains, subst, sym, arith}
use Rattle.std.proofs.lemmas.Bool.{cases_eq}
use Rattle.avro_schema.specs.declared.node.NodeId.{NodeId}
use Rattle.avro_data.proofs.Options.{same_id}
use Rattle.avro_data.proofs.UserLaws.{pushed_kept, pushed_there}
use Rattle.avro_data.proofs.rounds.all_types.Goals as goal

one_id_more : (ids more : List NodeId) (n : ℕ) → ((i : NodeId) → i.index < n → Contains ids i)
    → more ≡ ids ++ (record { index = n }) ∷ [] → (i : NodeId) → i.index < n + 1 → Contains more i
one_id_more ids more n before is i lt = subst (λ (xs : List NodeId). Contains xs i) (sym is) (go (cases_eq i.index n))
  where
    go : (i.index ≡ n) ⊎ (i.index ≡ n → ⊥) → Contains (ids ++ (record { index = n }) ∷ []) i
    go (inl e) =
        subst (λ (x : NodeId). Contains (ids ++ (record { index = n }) ∷ []) x)
        (sym (same_id i (record { index = n }) e)) (pushed_there ids (record { index = n }))
    go (inr other) = pushed_kept ids (record { index = n }) i (before i (omega arith))

pub loop-index-preserved : goal.loop-index-preserved
loop-index-preserved c =
    one_id_more c.loop-index.ids.items c.push.new.self.items c.loop-index.index c.loop-index.invariant c.in_ok-push.ensures.items
