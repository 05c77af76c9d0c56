-- The entries that are kept: what a step does to them, and how they are shown.
use Rattle.std.proofs.Common.{◌≡◌, true, false, cond, Option, Some, None, option_and_then, option_map, refl, sym, ap, ◌∙◌}
use Rattle.std.proofs.lemmas.Bool.{false≢true}
use Rattle.std.proofs.lemmas.Cmp.{tied_itself}
use Rattle.std.specs.FinMap as finmap
use Rattle.std.specs.Ordering.{eq_by_cmp, is_eq}
use Rattle.reg_values.specs.Value.{value_of}
use Rattle.reg_values.specs.reg_records.declared.key.Key.TheVariants as keys
use Rattle.reg_values.specs.reg_records.declared.record.Record.{Record}
use Rattle.reg_values.specs.reg_records.declared.value.Value.{Value}
use Rattle.reg_set.specs.LastRecords.{last}
use Rattle.reg_set.specs.Records.{Records}
use Rattle.reg_entries.specs.EntryOrder.{Place, place_cmp, place_of}
use Rattle.reg_entries.specs.declared.entry.Entry.{Entry}
use Rattle.reg_fold.specs.Entries.{covered_in, entry_in, entry_of, own_entry_in}
use Rattle.reg_fold.specs.Opaque.{is_version}
use Rattle.reg_fold.specs.Own.{AreOwnEntries, own_entry_of}
use Rattle.reg_fold.specs.Step.{IsStep}
use Rattle.reg_fold.proofs.Placed.{place_cmp-ties, place_cmp-total}
use Rattle.reg_fold.proofs.Places.{entry_of-key, equal, subject_of, version_of}
use Rattle.reg_fold.proofs.Steps.{no_version}

-- an entry is what its record gives by itself, marked
pub own_covered : (rs : Records) (r : Record) → entry_of rs r ≡ option_map (covered_in rs) (own_entry_of r)
unfolding entry_of own_entry_of
own_covered rs r = each (value_of r)
  where
    each : (o : Option Value)
        → option_and_then (entry_in rs r.offset) o ≡ option_map (covered_in rs) (option_and_then (own_entry_in r.offset) o)
    each None = refl
    each (Some v) = refl

pub own_some : (rs : Records) (r : Record) (e : Entry) → own_entry_of r ≡ Some e → entry_of rs r ≡ Some (covered_in rs e)
own_some rs r e gives = own_covered rs r ∙ ap (option_map (covered_in rs)) gives

pub own_none : (rs : Records) (r : Record) → own_entry_of r ≡ None → entry_of rs r ≡ None
own_none rs r gives = own_covered rs r ∙ ap (option_map (covered_in rs)) gives

-- what one more record does to the entries
module _ (S T : Records) (r : Record) (step : IsStep S T r) (m : finmap.FinMap place_cmp Entry) (own : AreOwnEntries S m) where
  module _ (p : Place) (of_key : r.key ≡ keys.Schema p.0 p.1) where
    -- at the place of a version's record stands what it gives, and elsewhere what stood there
    at : (o : Option Entry) → own_entry_of r ≡ o → (q : Place)
        → cond (eq_by_cmp place_cmp q p) o (finmap.get m q) ≡ option_and_then own_entry_of (last T (keys.Schema q.0 q.1))
    at o gives q =
        elim (eq_by_cmp place_cmp q p) as (λ b.
        eq_by_cmp place_cmp q p ≡ b → cond b o (finmap.get m q) ≡ option_and_then own_entry_of (last T (keys.Schema q.0 q.1))) [
          | true ↦ λ e.
              let same : q ≡ p = place_cmp-ties q p (equal _ e) in
              let first : last T (keys.Schema q.0 q.1) ≡ Some r =
              ap (λ x. last T (keys.Schema x.0 x.1)) same ∙ ap (last T) (sym of_key) ∙ step.newest in
              sym (ap (option_and_then own_entry_of) first ∙ gives)
          | false ↦ λ e.
              let apart : ¬ (r.key ≡ keys.Schema q.0 q.1) = λ h.
              let k : keys.Schema q.0 q.1 ≡ keys.Schema p.0 p.1 = sym h ∙ of_key in
              let place : p ≡ q = λ i. (subject_of (sym k i), version_of (sym k i)) in
              false≢true (sym e ∙ ap (λ x. is_eq (place_cmp q x)) place ∙ ap is_eq (tied_itself place_cmp-total q)) in
              own q ∙ sym (ap (option_and_then own_entry_of) (step.others (keys.Schema q.0 q.1) apart))
        ] refl

    pub own-put : (e : Entry) → own_entry_of r ≡ Some e → AreOwnEntries T (finmap.insert m (place_of e) e)
    own-put e gives q =
        let same : keys.Schema p.0 p.1 ≡ keys.Schema e.subject e.version =
        sym of_key ∙ entry_of-key S r (covered_in S e) (own_some S r e gives) in
        let place : p ≡ place_of e = λ i. (subject_of (same i), version_of (same i)) in
        finmap.get-insert place_cmp-total m (place_of e) e q
        ∙ ap (λ x. cond (eq_by_cmp place_cmp q x) (Some e) (finmap.get m q)) (sym place)
        ∙ at (Some e) gives q

    pub own-removed : own_entry_of r ≡ None → AreOwnEntries T (finmap.remove m p)
    own-removed gives q = finmap.get-remove place_cmp-total m p q ∙ at None gives q

  -- a record of another kind changes none
  pub own-other : is_version r.key ≡ false → AreOwnEntries T m
  own-other other q = own q ∙ sym (ap (option_and_then own_entry_of) (step.others (keys.Schema q.0 q.1) (no_version r.key other q)))
