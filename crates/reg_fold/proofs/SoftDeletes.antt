-- What one more record does to the last soft deletes of subjects.
use Rattle.std.proofs.Common.{◌≡◌, ℕ, true, false, cond, List, Option, Some, None, option_and_then, bytes_eq, refl, sym, ap, ◌∙◌}
use Rattle.std.proofs.lemmas.Bool.{false≢true}
use Rattle.std.proofs.lemmas.Slice.Eq.{bytes_eq-Decides}
use Rattle.std.specs.Option.{option_map_or}
use Rattle.reg_values.specs.Value.{value_of}
use Rattle.reg_values.specs.reg_records.declared.key.Key.TheVariants as keys
use Rattle.reg_values.specs.reg_records.declared.record.Record.{Record}
use Rattle.reg_values.specs.reg_records.declared.value.Value.{Value}
use Rattle.reg_values.specs.reg_records.declared.value.Value.TheVariants as values
use Rattle.reg_set.specs.LastRecords.{last}
use Rattle.reg_set.specs.Records.{Records}
use Rattle.reg_fold.specs.Covers.{covers, is_soft_deleted}
use Rattle.reg_fold.specs.Scopes.{AreOwn, HasOwn, kept_own}
use Rattle.reg_fold.specs.SoftDeletes.{delete_in, delete_of, own_delete}
use Rattle.reg_fold.specs.Step.{IsStep}
use Rattle.reg_entries.specs.Covered.{is_covered}
use Rattle.reg_entries.specs.declared.soft_delete.SoftDelete.{SoftDelete}
use Rattle.reg_fold.specs.declared.scoped.Scoped.{Scoped}
use Rattle.reg_values.specs.reg_records.Key.{is_delete}

-- the soft delete that a record is covers what its value covers
pub covered_by : (r : Record) (version offset : ℕ)
    → is_covered (delete_of r) version offset ≡ option_map_or (λ value. covers r.offset value version offset) (value_of r) false
unfolding delete_of
covered_by r version offset = each (value_of r)
  where
    each : (o : Option Value)
        → is_covered (option_and_then (delete_in r.offset) o) version offset
        ≡ option_map_or (λ value. covers r.offset value version offset) o false
    each None = refl
    each (Some (values.Schema subject number id schema deleted)) = refl
    each (Some (values.Config level)) = refl
    each (Some (values.Mode mode)) = refl
    each (Some (values.DeleteSubject subject greatest)) = refl
    each (Some values.Noop) = refl
    each (Some (values.IdMark id)) = refl

-- what is marked is what the soft delete that is kept covers
pub covered_by_own : (rs : Records) (deletes : Scoped SoftDelete) → AreOwn (own_delete rs) deletes → (subject : List ℕ) (version offset : ℕ)
    → is_covered (kept_own deletes (Some subject)) version offset ≡ is_soft_deleted rs subject version offset
unfolding is_soft_deleted own_delete
covered_by_own rs deletes own subject version offset =
    ap (λ d. is_covered d version offset) (own (Some subject)) ∙ each (last rs (keys.DeleteSubject subject))
  where
    each : (o : Option Record)
        → is_covered (option_and_then delete_of o) version offset
        ≡ option_map_or (λ r. option_map_or (λ value. covers r.offset value version offset) (value_of r) false) o false
    each None = refl
    each (Some r) = covered_by r version offset

one_subject : (s t : List ℕ) → keys.DeleteSubject s ≡ keys.DeleteSubject t → s ≡ t
one_subject s t same = cc

module _ (S T : Records) (r : Record) (step : IsStep S T r) (deletes : Scoped SoftDelete) (own : AreOwn (own_delete S) deletes) where
  -- a record of another key changes none
  pub deletes-stay : is_delete r.key ≡ false → AreOwn (own_delete T) deletes
  unfolding own_delete
  deletes-stay other None = own None
  deletes-stay other (Some s) =
      own (Some s)
      ∙ sym (ap (option_and_then delete_of) (step.others (keys.DeleteSubject s) (λ same. false≢true (sym other ∙ ap is_delete same))))

  -- a soft delete changes that of its subject
  pub deletes-change : (subject : List ℕ) → r.key ≡ keys.DeleteSubject subject → (new : Scoped SoftDelete)
      → HasOwn deletes new (Some subject) (delete_of r) → AreOwn (own_delete T) new
  unfolding own_delete
  deletes-change subject of_key new has None = has None ∙ own None
  deletes-change subject of_key new has (Some s) =
      has (Some s)
      ∙ elim (bytes_eq subject s) as (λ b. bytes_eq subject s ≡ b
      → cond b (delete_of r) (kept_own deletes (Some s)) ≡ option_and_then delete_of (last T (keys.DeleteSubject s))) [
        | true ↦ λ e.
            sym (
            ap (option_and_then delete_of) (
            ap (λ x. last T (keys.DeleteSubject x)) (sym ((bytes_eq-Decides subject s).0 e)) ∙ ap (last T) (sym of_key) ∙ step.newest))
        | false ↦ λ e.
            own (Some s)
            ∙ sym (
            ap (option_and_then delete_of)
            (step.others (keys.DeleteSubject s)
            (λ same. false≢true (sym e ∙ (bytes_eq-Decides subject s).1 (one_subject subject s (sym of_key ∙ same))))))
      ] refl
