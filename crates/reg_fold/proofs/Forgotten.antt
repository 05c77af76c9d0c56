-- A last record without a value may be forgotten: what is left gives the same.
use Rattle.std.proofs.Common.{◌≡◌, ℕ, Bool, true, false, not, ◌&&◌, ◌||◌, ⊎_elim, List, Option, Some, None}
use Rattle.std.proofs.Common.{is_none, is_some, option_and_then, option_map, unwrap_or, refl, sym, ap, ◌∙◌}
use Rattle.std.proofs.lemmas.Bool.{false≢true}
use Rattle.std.specs.BTreeSet.{BTreeSet}
use Rattle.std.specs.Cmp.{IsTotalOrder}
use Rattle.std.specs.FinMap as finmap
use Rattle.std.specs.FinSet.{IsAntisymmetric, contains, contains-remove, remove}
use Rattle.std.specs.Option.{option_map_or}
use Rattle.std.specs.Ordering.{eq_by_cmp}
use Rattle.reg_values.specs.Value.{value_of, value_of_text}
use Rattle.reg_values.specs.reg_records.declared.key.Key.{Key}
use Rattle.reg_values.specs.reg_records.declared.key.Key.TheVariants as keys
use Rattle.reg_values.specs.reg_records.declared.record.Record.{Record}
use Rattle.reg_set.specs.Join.{LastIsGreatest}
use Rattle.reg_set.specs.LastRecords.{LosesAtMost, last, last_records}
use Rattle.reg_set.specs.RecordOrder.{record_cmp}
use Rattle.reg_set.specs.Records.{Records}
use Rattle.reg_entries.specs.EntryOrder.{place_cmp}
use Rattle.reg_entries.specs.Flagged.{with_soft}
use Rattle.reg_entries.specs.declared.entry.Entry.{Entry}
use Rattle.reg_fold.specs.Entries.{covered_in, entries, entry_map, entry_of, own_entry_in}
use Rattle.reg_fold.specs.IdMark.{id_mark, id_marked_in, id_marked_of}
use Rattle.reg_fold.specs.InForce.{Scope, level_in, level_of, mode_name_in, mode_name_of, own_level, own_mode_name}
use Rattle.reg_fold.specs.Covers.{covers, is_soft_deleted}
use Rattle.reg_fold.specs.Opaque.{is_opaque, opaque}
use Rattle.reg_fold.specs.Own.{AreOwnEntries, own_entry_of}
use Rattle.reg_fold.specs.SoftDeletes.{delete_in, delete_of, own_delete}
use Rattle.reg_fold.specs.Spots.{HasSpots, Spot, spot_cmp}
use Rattle.reg_fold.specs.Step.{EntriesAreOfLasts}
use Rattle.reg_fold.proofs.Own.{own_covered, own_none}
use Rattle.reg_fold.proofs.Placed.{place_cmp-ties, place_cmp-total}
use Rattle.reg_fold.proofs.Places.{equal}
use Rattle.reg_fold.proofs.SameOpaque.{opaque-same}
use Rattle.reg_fold.proofs.Spotted.{without_text}

pub nothing : (o : Option (List ℕ)) → is_none o ≡ true → o ≡ None
nothing None h = refl
nothing (Some text) h = absurd (false≢true h)

module _ (r : Record) (no_value : r.value ≡ None) where
  reads_none : value_of r ≡ None
  reads_none = ap (option_and_then (value_of_text r.key)) no_value

  pub none_opaque : is_opaque r ≡ false
  none_opaque = without_text r (ap is_some no_value)

  own_gives_none : own_entry_of r ≡ None
  unfolding own_entry_of
  own_gives_none = ap (option_and_then (own_entry_in r.offset)) reads_none

  module _ (S T : Records) (loses : LosesAtMost r S T) where
    -- what the record doesn't say, no key says otherwise than before
    said : {A : Type 0} (says : Record → Option A) → says r ≡ None → (key : Key)
        → option_and_then says (last T key) ≡ option_and_then says (last S key)
    said says nothing key =
        ⊎_elim (λ (same : last T key ≡ last S key). ap (option_and_then says) same)
        (λ (lost : (last S key ≡ Some r) × (last T key ≡ None)).
        ap (option_and_then says) lost.1 ∙ sym (ap (option_and_then says) lost.0 ∙ nothing))
        (loses key)

    passed : (test : Record → Bool) → test r ≡ false → (key : Key)
        → option_map_or test (last T key) false ≡ option_map_or test (last S key) false
    passed test fails key =
        ⊎_elim (λ (same : last T key ≡ last S key). ap (λ o. option_map_or test o false) same)
        (λ (lost : (last S key ≡ Some r) × (last T key ≡ None)).
        ap (λ o. option_map_or test o false) lost.1 ∙ sym (ap (λ o. option_map_or test o false) lost.0 ∙ fails))
        (loses key)

    covers-same : (subject : List ℕ) (version offset : ℕ)
        → is_soft_deleted T subject version offset ≡ is_soft_deleted S subject version offset
    unfolding is_soft_deleted
    covers-same subject version offset =
        passed (λ x. option_map_or (λ value. covers x.offset value version offset) (value_of x) false)
        (ap (λ o. option_map_or (λ value. covers r.offset value version offset) o false) reads_none) (keys.DeleteSubject subject)

    covered-same : (e : Entry) → covered_in T e ≡ covered_in S e
    covered-same e = ap (λ b. with_soft (e.soft || b) e) (covers-same e.subject e.version e.offset)

    entry_of-same : (x : Record) → entry_of T x ≡ entry_of S x
    entry_of-same x =
        own_covered T x ∙ ap (λ (f : Entry → Entry). option_map f (own_entry_of x)) (λ i e. covered-same e i) ∙ sym (own_covered S x)

    pub own-left : (m : finmap.FinMap place_cmp Entry) → AreOwnEntries S m → AreOwnEntries T m
    own-left m own p = own p ∙ sym (said own_entry_of own_gives_none (keys.Schema p.0 p.1))

    pub entries-left : EntriesAreOfLasts S → EntriesAreOfLasts T → entry_map T ≡ entry_map S
    entries-left of_S of_T =
        finmap.same_map place_cmp-total place_cmp-ties (entry_map T) (entry_map S) (λ p.
        let key = keys.Schema p.0 p.1 in
        of_T p ∙ ap (λ (f : Record → Option Entry). option_and_then f (last T key)) (λ i x. entry_of-same x i)
        ∙ said (entry_of S) (own_none S r own_gives_none) key ∙ sym (of_S p))

    pub spots-left : (kind : Record → Bool) → kind r ≡ false → (u : BTreeSet Spot) → HasSpots kind S u → HasSpots kind T u
    spots-left kind clear u has s =
        has s
        ∙ sym (
        passed (λ x. kind x && eq_by_cmp spot_cmp (x.offset, s.1) s)
        (ap (λ b. b && eq_by_cmp spot_cmp (r.offset, s.1) s) clear) (keys.Schema s.1.0 s.1.1))

    pub levels-left : (scope : Scope) → own_level T scope ≡ own_level S scope
    unfolding own_level level_of
    levels-left scope = said level_of (ap (option_and_then level_in) reads_none) (keys.Config scope)

    pub modes-left : (scope : Scope) → own_mode_name T scope ≡ own_mode_name S scope
    unfolding own_mode_name mode_name_of
    modes-left scope = said mode_name_of (ap (option_and_then mode_name_in) reads_none) (keys.Mode scope)

    pub deletes-left : (scope : Scope) → own_delete T scope ≡ own_delete S scope
    unfolding own_delete delete_of
    deletes-left None = refl
    deletes-left (Some subject) = said delete_of (ap (option_and_then (delete_in r.offset)) reads_none) (keys.DeleteSubject subject)

    pub mark-left : id_mark T ≡ id_mark S
    unfolding id_mark id_marked_of
    mark-left = ap (λ o. unwrap_or o 0) (said id_marked_of (ap (option_and_then id_marked_in) reads_none) keys.IdMark)

    pub opaque-left : IsTotalOrder record_cmp → IsAntisymmetric record_cmp → LastIsGreatest
        → last_records S ≡ S → last_records T ≡ T → T ≡ remove S r → opaque S ≡ opaque T
    opaque-left total ties greatest are_S are_T left =
        opaque-same total ties greatest S T are_S are_T (λ w is.
        sym (ap (λ s. contains s w) left ∙ contains-remove total S r w ∙ stays w is))
      where
        stays : (w : Record) → is_opaque w ≡ true → (not (eq_by_cmp record_cmp w r) && contains S w) ≡ contains S w
        stays w is =
            elim (eq_by_cmp record_cmp w r) as (λ b. eq_by_cmp record_cmp w r ≡ b → (not b && contains S w) ≡ contains S w) [
              | true ↦ λ e. absurd (false≢true (sym none_opaque ∙ ap is_opaque (sym (ties w r (equal _ e))) ∙ is))
              | false ↦ λ _. refl
            ] refl

    pub entries_given-left : EntriesAreOfLasts S → EntriesAreOfLasts T → entries S ≡ entries T
    unfolding entries
    entries_given-left of_S of_T = ap (λ (m : finmap.FinMap place_cmp Entry). finmap.values m) (sym (entries-left of_S of_T))
