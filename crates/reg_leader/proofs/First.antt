-- What is written before a version.
use Rattle.std.proofs.Common.{◌≡◌, ◌==◌, ℕ, true, false, cond, List, [], ◌∷◌, ◌++◌, Option, Some, None, refl}
use Rattle.std.specs.List.{AllByRecursion}
use Rattle.reg_rules.specs.reg_entries.declared.entry.Entry.{Entry}
use Rattle.reg_rules.specs.declared.writing.Writing.{Writing}
use Rattle.reg_rules.specs.reg_set.Records.{Records}
use Rattle.reg_leader.specs.Step.{mark_over, marked}

module _ (P : Writing → Type 0) where
  pub and_last : (ws : List Writing) (w : Writing) → AllByRecursion P ws → P w → AllByRecursion P (ws ++ w ∷ [])
  and_last [] w all p = (p, tt)
  and_last (v ∷ ws) w all p = (all.0, and_last ws w all.1 p)

  -- what holds of a mark that is written over an entry holds of each record that is written first
  pub over-all : (rs : Records) (id : ℕ) (o : Option Entry)
      → ((e : Entry) → o ≡ Some e → P (marked rs)) → AllByRecursion P (mark_over rs id o)
  over-all rs id None h = tt
  over-all rs id (Some e) h =
      elim (e.id == id) as (λ b. AllByRecursion P (cond b [] (marked rs ∷ []))) [ true ↦ tt | false ↦ (h e refl, tt) ]
