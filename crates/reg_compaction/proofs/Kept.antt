-- What a walk keeps of lines.
use Rattle.std.proofs.Common.{◌≡◌, ◌⊎◌, inl, inr, ⊎_elim, ℕ, true, false, not, cond, List, [], ◌∷◌, None, refl, sym, ap, ◌∙◌}
use Rattle.std.proofs.lemmas.Bool.{and_parts, and_from, false≢true}
use Rattle.std.specs.Cmp.{IsTotalOrder}
use Rattle.std.specs.FinSet.{IsAntisymmetric, contains}
use Rattle.reg_journal.specs.Lines.{Say}
use Rattle.reg_records.specs.declared.record.Read.{Read}
use Rattle.reg_records.specs.declared.record.Read.TheVariants as reads
use Rattle.reg_records.specs.declared.record.Record.{Record}
use Rattle.reg_set.specs.LastRecords.{is_of, with_last}
use Rattle.reg_set.specs.RecordOrder.{key_cmp, record_cmp}
use Rattle.reg_set.specs.Records.{Records}
use Rattle.reg_compaction.specs.Walk.{is_kept, kept_lines, kept_reads, waiting_after}
use Rattle.reg_compaction.proofs.Lasts.{HasOneAKey, contains-without, of_key}

-- the record is one of those
abbrev pub Has : List Read → Record → Type 0
Has [] q = ⊥
Has (reads.Record r ∷ more) q = (q ≡ r) ⊎ Has more q
Has (reads.Foreign offset ∷ more) q = Has more q

-- what is kept is lines that say it
pub kept_say : (w : Records) (lines : List (List ℕ)) (read : List Read) → Say lines read → Say (kept_lines w lines read) (kept_reads w read)
kept_say w [] [] say = tt
kept_say w [] (r ∷ read) say = absurd say
kept_say w (line ∷ lines) [] say = absurd say
kept_say w (line ∷ lines) (r ∷ read) say =
    elim (is_kept w r) as (λ b.
    Say (cond b (line ∷ kept_lines (waiting_after w r) lines read) (kept_lines (waiting_after w r) lines read))
    (cond b (r ∷ kept_reads (waiting_after w r) read) (kept_reads (waiting_after w r) read))) [
      | true ↦ (say.0, say.1, say.2, kept_say (waiting_after w r) lines read say.3)
      | false ↦ kept_say (waiting_after w r) lines read say.3
    ]

module _ (total : IsTotalOrder record_cmp) (apart : IsAntisymmetric record_cmp)
    (keys : IsTotalOrder key_cmp) (keys_apart : IsAntisymmetric key_cmp) where
  -- what waits after a line waited before it
  pub waited : (w : Records) (r q : Record) → contains (waiting_after w (reads.Record r)) q ≡ true → contains w q ≡ true
  waited w r q h =
      elim (contains w r) as (λ b. contains (cond b (with_last w r.key None) w) q ≡ true → contains w q ≡ true) [
        | true ↦ λ h. (and_parts (contains w q) (not (is_of r.key q)) (sym (contains-without total apart keys keys_apart w r.key q) ∙ h)).0
        | false ↦ λ h. h
      ] h

  pub kept_has : (w : Records) (read : List Read) (q : Record) → Has (kept_reads w read) q → (contains w q ≡ true) × Has read q
  kept_has w [] q has = absurd has
  kept_has w (reads.Foreign offset ∷ read) q has = kept_has w read q has
  kept_has w (reads.Record r ∷ read) q has =
      elim (contains w r) as (λ b. contains w r ≡ b
      → Has (
      cond b (reads.Record r ∷ kept_reads (cond b (with_last w r.key None) w) read)
      (kept_reads (cond b (with_last w r.key None) w) read)) q
      → (contains w q ≡ true) × ((q ≡ r) ⊎ Has read q)) [
        | true ↦ λ here has. ⊎_elim
            (λ is. (ap (contains w) is ∙ here, inl is))
            (λ later. let rest = kept_has (with_last w r.key None) read q later in (
              (and_parts (contains w q) (not (is_of r.key q)) (sym (contains-without total apart keys keys_apart w r.key q) ∙ rest.0)).0,
              inr rest.1,
            ))
            has
        | false ↦ λ here has. let rest = kept_has w read q has in (rest.0, inr rest.1)
      ] refl has

  pub has_kept : (w : Records) (read : List Read) (q : Record) → HasOneAKey w → contains w q ≡ true → Has read q → Has (kept_reads w read) q
  has_kept w [] q one waits has = absurd has
  has_kept w (reads.Foreign offset ∷ read) q one waits has = has_kept w read q one waits has
  has_kept w (reads.Record r ∷ read) q one waits has =
      elim (contains w r) as (λ b. contains w r ≡ b
      → Has (
      cond b (reads.Record r ∷ kept_reads (cond b (with_last w r.key None) w) read)
      (kept_reads (cond b (with_last w r.key None) w) read)) q) [
        | true ↦ λ here. ⊎_elim
            (λ is. inl is)
            (λ later.
            elim (is_of r.key q) as (λ b. is_of r.key q ≡ b → (q ≡ r) ⊎ Has (kept_reads (with_last w r.key None) read) q) [
              | true ↦ λ of. inl (one q r waits here (sym (of_key total apart keys keys_apart r.key q of)))
              | false ↦ λ of. inr (has_kept (with_last w r.key None) read q
                  (λ p s in_p in_s. one p s (fewer p in_p) (fewer s in_s))
                  (contains-without total apart keys keys_apart w r.key q ∙ and_from (contains w q) (not (is_of r.key q)) waits (ap not of))
                  later)
            ] refl)
            has
        | false ↦ λ here. ⊎_elim
            (λ is. absurd (false≢true (sym here ∙ sym (ap (contains w) is) ∙ waits)))
            (λ later. has_kept w read q one waits later)
            has
      ] refl
    where
      fewer : (p : Record) → contains (with_last w r.key None) p ≡ true → contains w p ≡ true
      fewer p h = (and_parts (contains w p) (not (is_of r.key p)) (sym (contains-without total apart keys keys_apart w r.key p) ∙ h)).0
