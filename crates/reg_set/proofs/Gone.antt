-- Compactions that may lack deleted keys, and the tests that tell them.
use Rattle.std.proofs.Common.{◌≡◌, ℕ, Bool, true, ◌⊎◌, inl, inr, Option, None, Some, IfSome, is_none, refl, sym, ap, subst, ◌∙◌}
use Rattle.std.proofs.lemmas.Bool.{false≢true, lt-ltb, ltb-true}
use Rattle.std.specs.FinSet.{contains}
use Rattle.std.specs.List.{list_all}
use Rattle.std.specs.Option.{option_map_or}
use Rattle.reg_records.specs.declared.key.Key.{Key}
use Rattle.reg_records.specs.declared.record.Record.{Record}
use Rattle.reg_set.specs.Compaction.{IsCompactionBelow, IsGone, deletes_below, is_kept_or_gone}
use Rattle.reg_set.specs.LastRecords.{last}
use Rattle.reg_set.specs.Records.{Records, records_of}
use Rattle.reg_set.proofs.KeptLasts.{all_from}
use Rattle.reg_set.proofs.InOrder.{both, first_of, second_of, contains-records_of}
use Rattle.reg_set.proofs.Lasts.{at_any, last-some}
use Rattle.reg_set.proofs.Unions.{either, or_left, or_right}

none_is : {X : Type 0} (o : Option X) → is_none o ≡ true → o ≡ None
none_is None h = refl
none_is (Some x) h = absurd (false≢true h)

module _ (floor : ℕ) (part : Records) (r : Record) where
  kept_or_gone : is_kept_or_gone floor part r ≡ true → (contains part r ≡ true) ⊎ IsGone floor part r
  kept_or_gone h =
      elim (either (contains part r) _ h) [
        | inl has ↦ inl has
        | inr lost ↦
            let deletes = first_of (deletes_below floor r) _ lost in
            inr (record {
              deletes = none_is r.value (first_of (is_none r.value) _ deletes);
              is_below = ltb-true r.offset floor (second_of (is_none r.value) _ deletes);
              has_no_other = none_is (last part r.key) (second_of (deletes_below floor r) _ lost);
            })
      ]

  is_kept_or_gone-of : (contains part r ≡ true) ⊎ IsGone floor part r → is_kept_or_gone floor part r ≡ true
  is_kept_or_gone-of (inl has) = or_left (contains part r) _ has
  is_kept_or_gone-of (inr gone) =
      or_right (contains part r) _
      (both (both (ap is_none gone.deletes) (lt-ltb r.offset floor gone.is_below)) (ap is_none gone.has_no_other))

-- the two tests that make a compaction
module _ (floor : ℕ) (C R : Records) where
  abbrev is_part : Bool
  is_part = list_all (contains R) (records_of C)

  abbrev has_last : Record → Bool
  has_last r = option_map_or (is_kept_or_gone floor C) (last R r.key) true

  pub IsCompactionBelow-from_tests : is_part ≡ true → list_all has_last (records_of R) ≡ true → IsCompactionBelow floor C R
  IsCompactionBelow-from_tests part lasts = record {
    is_part = λ r h. at_any (contains R) r (records_of C) part (sym (contains-records_of C r) ∙ h);
    has_lasts = λ key.
        elim (last R key) as (λ o. last R key ≡ o → IfSome o (λ r. (contains C r ≡ true) ⊎ IsGone floor C r)) [
          | None ↦ λ _. tt
          | Some r ↦ λ e.
              let fact = last-some R key r e in
              let there = at_any has_last r (records_of R) lasts (sym (contains-records_of R r) ∙ fact.is_in_set) in
              kept_or_gone floor C r (
              ap (λ o. option_map_or (is_kept_or_gone floor C) o true) (sym (ap (last R) fact.is_of_key ∙ e)) ∙ there)
        ] refl;
  }

  pub tests-from_IsCompactionBelow : IsCompactionBelow floor C R → (is_part ≡ true) × (list_all has_last (records_of R) ≡ true)
  tests-from_IsCompactionBelow h = (
    all_from (contains R) (records_of C) (λ q there. h.is_part q (contains-records_of C q ∙ there)),
    all_from has_last (records_of R) (λ q _. last_there q.key),
  )
    where
      last_there : (key : Key) → option_map_or (is_kept_or_gone floor C) (last R key) true ≡ true
      last_there key =
          elim (last R key) as (λ o. last R key ≡ o → option_map_or (is_kept_or_gone floor C) o true ≡ true) [
            | None ↦ λ _. refl
            | Some r ↦ λ e.
                is_kept_or_gone-of floor C r (subst (λ o. IfSome o (λ r. (contains C r ≡ true) ⊎ IsGone floor C r)) e (h.has_lasts key))
          ] refl
