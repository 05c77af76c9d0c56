-- Where as many lines are kept as there were, each record was.
use Rattle.std.proofs.Common.{◌≡◌, ◌≤◌, ◌+◌, ⊎_elim, ℕ, true, false, cond, List, [], ◌∷◌, ◌++◌, length, Option, Some, refl, ap, ◌∙◌, arith}
use Rattle.std.specs.Cmp.{IsTotalOrder}
use Rattle.std.specs.FinSet.{IsAntisymmetric, contains}
use Rattle.std.specs.Prelude.{nat_eq}
use Rattle.reg_journal.specs.Lines.{Say}
use Rattle.reg_records.specs.declared.record.Read.{Read}
use Rattle.reg_records.specs.declared.record.Read.TheVariants as reads
use Rattle.reg_records.specs.declared.record.Record.{Record}
use Rattle.reg_set.specs.RecordOrder.{key_cmp, record_cmp}
use Rattle.reg_set.specs.Records.{Records}
use Rattle.reg_compaction.specs.Walk.{carried_by, kept_reads, waiting_after}
use Rattle.reg_compaction.proofs.Kept.{Has, waited}
use Rattle.reg_compaction.proofs.Sizes.{count_of, no_more}

module _ (total : IsTotalOrder record_cmp) (apart : IsAntisymmetric record_cmp)
    (keys : IsTotalOrder key_cmp) (keys_apart : IsAntisymmetric key_cmp) where
  pub all_kept : (t : ℕ) (w : Records) (lines : List (List ℕ)) (read : List Read) (c : Option (List ℕ)) → Say lines read
      → length read + count_of c ≤ length (kept_reads w read) + count_of (carried_by (Some t) lines read c)
      → (q : Record) → Has read q → contains w q ≡ true
  all_kept t w [] [] c say many q has = absurd has
  all_kept t w [] (r ∷ read) c say many q has = absurd say
  all_kept t w (line ∷ lines) [] c say many q has = absurd say
  all_kept t w (line ∷ lines) (reads.Record r ∷ read) c say many q has =
      elim (contains w r) as (λ b. contains w r ≡ b
      → length (reads.Record r ∷ read) + count_of c
      ≤ length (
      cond b (reads.Record r ∷ kept_reads (waiting_after w (reads.Record r)) read)
      (kept_reads (waiting_after w (reads.Record r)) read))
      + count_of (carried_by (Some t) lines read c)
      → contains w q ≡ true) [
        | true ↦ λ here many. ⊎_elim
            (λ is. ap (contains w) is ∙ here)
            (λ later.
            waited total apart keys keys_apart w r q (
            all_kept t (waiting_after w (reads.Record r)) lines read c say.3 (omega (arith, many)) q later))
            has
        | false ↦ λ here many. absurd (omega (arith, many, no_more t (waiting_after w (reads.Record r)) lines read c say.3))
      ] refl many
  all_kept t w (line ∷ lines) (reads.Foreign offset ∷ read) c say many q has =
      elim (nat_eq offset t) as (λ b. length (reads.Foreign offset ∷ read) + count_of c
      ≤ length (kept_reads w read) + count_of (carried_by (Some t) lines read (cond b (Some (line ++ 10 ∷ [])) c))
      → contains w q ≡ true) [
        | true ↦ λ many. all_kept t w lines read (Some (line ++ 10 ∷ [])) say.3 (omega (arith, many)) q has
        | false ↦ λ many. absurd (omega (arith, many, no_more t w lines read c say.3))
      ] many
