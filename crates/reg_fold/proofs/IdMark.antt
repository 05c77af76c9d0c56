-- The mark of ids is within the limits of ids.
use Rattle.std.proofs.Common.{◌≡◌, ◌≤◌, ◌⊎◌, inl, inr, ℕ, Option, Some, None, option_and_then, unwrap_or, refl, subst, arith}
use Rattle.reg_values.specs.reg_records.Written.{IsVersionOrId}
use Rattle.reg_values.specs.reg_records.declared.key.Key.TheVariants as keys
use Rattle.reg_values.specs.reg_records.declared.limits.TheConstants.{NUMBER_LIMIT}
use Rattle.reg_values.specs.reg_records.declared.record.Record.{Record}
use Rattle.reg_values.specs.reg_records.declared.value.Value.{Value}
use Rattle.reg_values.specs.reg_records.declared.value.Value.TheVariants as values
use Rattle.reg_values.specs.OfKey.{IsValueOf, ValuesAreOfKeys}
use Rattle.reg_values.specs.Value.{value_of}
use Rattle.reg_set.specs.LastRecords.{last}
use Rattle.reg_fold.specs.IdMark.{IdMarkIsInLimits, id_mark, id_marked_in, id_marked_of}

inside : (a b : ℕ) → Some a ≡ Some b → a ≡ b
inside a b same = cc

-- what a record marks is an id
module _ (of_keys : ValuesAreOfKeys) (r : Record) where
  of_value : (v : Value) → IsValueOf r.key v ⊎ ((r.key ≡ keys.Noop) × (v ≡ values.Noop))
      → (id : ℕ) → id_marked_in v ≡ Some id → IsVersionOrId id
  of_value (values.Schema subject version given schema deleted) under id is = absurd (cc)
  of_value (values.Config level) under id is = absurd (cc)
  of_value (values.Mode mode) under id is = absurd (cc)
  of_value (values.DeleteSubject subject version) under id is = absurd (cc)
  of_value values.Noop under id is = absurd (cc)
  of_value (values.IdMark given) (inl fits) id is = subst IsVersionOrId (inside given id is) fits.1
  of_value (values.IdMark given) (inr other) id is = absurd (cc)

  pub id_marked_of-fits : (id : ℕ) → id_marked_of r ≡ Some id → IsVersionOrId id
  unfolding id_marked_of
  id_marked_of-fits id is =
      elim (value_of r) as (λ o. value_of r ≡ o → option_and_then id_marked_in o ≡ Some id → IsVersionOrId id) [
        | None ↦ λ _ none. absurd (cc)
        | Some v ↦ λ has is. of_value v (of_keys r v has) id is
      ] refl is

pub id_mark-in_limits : ValuesAreOfKeys → IdMarkIsInLimits
unfolding id_mark
id_mark-in_limits of_keys rs = of_last (last rs keys.IdMark)
  where
    of_last : (o : Option Record) → unwrap_or (option_and_then id_marked_of o) 0 ≤ NUMBER_LIMIT
    of_last None = omega arith
    of_last (Some r) =
        elim (id_marked_of r) as (λ o. id_marked_of r ≡ o → unwrap_or o 0 ≤ NUMBER_LIMIT) [
          | None ↦ λ _. omega arith
          | Some id ↦ λ is. (id_marked_of-fits of_keys r id is).1
        ] refl
