-- What a step does to the spots of the versions of a kind.
use Rattle.std.proofs.Common.{◌≡◌, ℕ, Bool, true, false, cond, not, ◌&&◌, ◌==◌, is_none, is_some}
use Rattle.std.proofs.Common.{Option, Some, None, option_and_then, refl, sym, ap, ◌∙◌}
use Rattle.std.proofs.lemmas.Bool.{false≢true, eq-eqb, eqb-true}
use Rattle.std.proofs.lemmas.Cmp.{tied_itself}
use Rattle.std.specs.BTreeSet.{BTreeSet, contains, Updates}
use Rattle.std.specs.FinMap.{nat_cmp-IsAntisymmetric}
use Rattle.std.specs.List.{list_any}
use Rattle.std.specs.Option.{option_map_or}
use Rattle.std.specs.Ordering.{eq_by_cmp, is_eq, nat_cmp}
use Rattle.std.specs.Prelude.{IfSome}
use Rattle.std.specs.declared.cmp.Ordering.TheVariants.{Equal}
use Rattle.reg_values.specs.Value.{value_of}
use Rattle.reg_values.specs.reg_records.declared.key.Key.TheVariants as keys
use Rattle.reg_values.specs.reg_records.declared.record.Record.{Record}
use Rattle.reg_values.specs.reg_records.declared.value.Value.{Value}
use Rattle.reg_values.specs.reg_records.declared.value.Value.TheVariants as values
use Rattle.reg_set.specs.LastRecords.{last}
use Rattle.reg_set.specs.Records.{Records}
use Rattle.reg_fold.specs.Entries.{entry_in, entry_of}
use Rattle.reg_entries.specs.EntryOrder.{Place, place_cmp}
use Rattle.reg_fold.specs.Opaque.{is_opaque, is_version}
use Rattle.reg_fold.specs.Step.{IsStep}
use Rattle.reg_fold.specs.Spots.{Forgets, HasSpots, Spot, elsewhere, is_spot, spot_cmp, spot_of}
use Rattle.reg_entries.specs.declared.entry.Entry.{Entry}
use Rattle.reg_fold.proofs.Placed.{place_cmp-ties, place_cmp-total, then_ties}
use Rattle.reg_fold.proofs.Places.{equal, subject_of, version_of}
use Rattle.reg_fold.proofs.Steps.{no_version}
use Rattle.reg_fold.proofs.Values.{IsUnder, entry_of-shown, value_of-under}

pub spot_cmp-ties : (s t : Spot) → spot_cmp s t ≡ Equal → s ≡ t
spot_cmp-ties s t e =
    let ties = then_ties (nat_cmp s.0 t.0) (place_cmp s.1 t.1) e in
    let offsets = nat_cmp-IsAntisymmetric s.0 t.0 ties.0 in
    let places = place_cmp-ties s.1 t.1 ties.1 in
    λ i. (offsets i, places i)

pub same_spot : (s t : Spot) → eq_by_cmp spot_cmp s t ≡ true → s ≡ t
same_spot s t h = spot_cmp-ties s t (equal _ h)

-- of two places that differ none has a spot of the other
other_place : (o : ℕ) (p : Place) (s : Spot) → ¬ (s.1 ≡ p) → eq_by_cmp spot_cmp (o, p) s ≡ false
other_place o p s apart =
    elim (eq_by_cmp spot_cmp (o, p) s) as (λ b. eq_by_cmp spot_cmp (o, p) s ≡ b → b ≡ false) [
      | true ↦ λ h. absurd (apart (sym (ap (λ (x : Spot). x.1) (same_spot (o, p) s h))))
      | false ↦ λ _. refl
    ] refl

itself : (q p : Place) → q ≡ p → eq_by_cmp place_cmp q p ≡ true
itself q p h = ap (eq_by_cmp place_cmp q) (sym h) ∙ ap is_eq (tied_itself place_cmp-total q)

stays : (b : Bool) → (b && true) ≡ b
stays true = refl
stays false = refl

gone : (o b : Bool) → ((o && b) && not b) ≡ false
gone true true = refl
gone true false = refl
gone false b = refl

put_here : (a o : Bool) → (cond a true (o && a) && true) ≡ a
put_here true o = refl
put_here false true = refl
put_here false false = refl

put_elsewhere : (a o b : Bool) → (a ≡ true → b ≡ true → ⊥) → (cond a true (o && b) && not b) ≡ a
put_elsewhere true o true apart = absurd (apart refl refl)
put_elsewhere true o false apart = refl
put_elsewhere false o b apart = gone o b

none_opaque : (a b : Bool) → a ≡ false → (b && a) ≡ false
none_opaque a true h = h
none_opaque a false h = refl

-- what gives an entry isn't opaque
pub readable : (S : Records) (r : Record) (e : Entry) → entry_of S r ≡ Some e → is_opaque r ≡ false
unfolding is_opaque
readable S r e gives =
    ap (λ o. is_version r.key && is_some r.value && is_none o) (entry_of-shown S r e gives).value
    ∙ last_false (is_version r.key) (is_some r.value)
  where
    last_false : (a b : Bool) → (a && b && false) ≡ false
    last_false true true = refl
    last_false true false = refl
    last_false false b = refl

-- what has no text isn't opaque
pub without_text : (r : Record) → is_some r.value ≡ false → is_opaque r ≡ false
unfolding is_opaque
without_text r none = middle_false (is_version r.key) (is_some r.value) (is_none (value_of r)) none
  where
    middle_false : (a b c : Bool) → b ≡ false → (a && b && c) ≡ false
    middle_false true false c h = refl
    middle_false true true c h = absurd (false≢true (sym h))
    middle_false false b c h = refl

-- a version's text that gives no entry is opaque
pub unreadable : (S : Records) (r : Record) (p : Place) → r.key ≡ keys.Schema p.0 p.1
    → is_some r.value ≡ true → entry_of S r ≡ None → is_opaque r ≡ true
unfolding entry_of is_opaque
unreadable S r p of_key text gives =
    ap (λ k. is_version k && is_some r.value && is_none (value_of r)) of_key
    ∙ ap (λ b. b && is_none (value_of r)) text
    ∙ ap is_none no_value
  where
    no_other : is_version r.key ≡ false → ⊥
    no_other other = false≢true (sym other ∙ ap is_version of_key)

    some_entry : (v : Value) → IsUnder r.key v → entry_in S r.offset v ≡ None → ⊥
    some_entry (values.Schema subject version id schema deleted) under none = cc
    some_entry (values.Config level) under none = no_other under
    some_entry (values.Mode mode) under none = no_other under
    some_entry (values.DeleteSubject subject version) under none = no_other under
    some_entry values.Noop under none = no_other under
    some_entry (values.IdMark id) under none = no_other under

    no_value : value_of r ≡ None
    no_value =
        elim (value_of r) as (λ o. IfSome o (IsUnder r.key) → option_and_then (entry_in S r.offset) o ≡ None → o ≡ None) [
          | None ↦ λ _ _. refl
          | Some v ↦ λ under none. absurd (some_entry v under none)
        ] (value_of-under r) gives

-- whether that is the spot, if there is one
abbrev is_that : Option Spot → Spot → Bool
is_that spot s = option_map_or (λ t. eq_by_cmp spot_cmp t s) spot false

module _ (kind : Record → Bool) (S T : Records) (r : Record) (step : IsStep S T r) where
  -- a version of another place is where it was
  same_spots : (s : Spot) → ¬ (r.key ≡ keys.Schema s.1.0 s.1.1) → is_spot kind T s ≡ is_spot kind S s
  same_spots s apart =
      ap (λ o. option_map_or (λ x. kind x && eq_by_cmp spot_cmp (x.offset, s.1) s) o false) (step.others (keys.Schema s.1.0 s.1.1) apart)

  pub spots-other : is_version r.key ≡ false → (u : BTreeSet Spot) → HasSpots kind S u → HasSpots kind T u
  spots-other other u has s = has s ∙ sym (same_spots s (no_version r.key other s.1))

  module _ (p : Place) (of_key : r.key ≡ keys.Schema p.0 p.1) (before : Option Record)
      (was : before ≡ last S r.key) (u : BTreeSet Spot) (has : HasSpots kind S u) where
    other_key : (s : Spot) → ¬ (s.1 ≡ p) → ¬ (r.key ≡ keys.Schema s.1.0 s.1.1)
    other_key s apart same =
        let k : keys.Schema s.1.0 s.1.1 ≡ keys.Schema p.0 p.1 = sym same ∙ of_key in
        apart (λ i. (subject_of (k i), version_of (k i)))

    -- at the record's own place
    now_spot : (s : Spot) → s.1 ≡ p → is_spot kind T s ≡ (kind r && eq_by_cmp spot_cmp (r.offset, p) s)
    now_spot s here =
        ap (λ (q : Place). option_map_or (λ x. kind x && eq_by_cmp spot_cmp (x.offset, q) s) (last T (keys.Schema q.0 q.1)) false) here
        ∙ ap (λ o. option_map_or (λ x. kind x && eq_by_cmp spot_cmp (x.offset, p) s) o false) (ap (last T) (sym of_key) ∙ step.newest)

    was_spot : (s : Spot) → s.1 ≡ p → is_spot kind S s ≡ option_map_or (λ x. kind x && eq_by_cmp spot_cmp (x.offset, p) s) before false
    was_spot s here =
        ap (λ (q : Place). option_map_or (λ x. kind x && eq_by_cmp spot_cmp (x.offset, q) s) (last S (keys.Schema q.0 q.1)) false) here
        ∙ ap (λ o. option_map_or (λ x. kind x && eq_by_cmp spot_cmp (x.offset, p) s) o false) (ap (last S) (sym of_key) ∙ sym was)

    -- the earlier record's spot is forgotten
    pub spots-forgotten : kind r ≡ false → (n : BTreeSet Spot) → Forgets (spot_of before p) u n → HasSpots kind T n
    spots-forgotten clear n forgets s =
        forgets s ∙ ap (λ b. b && not (is_that (spot_of before p) s)) (has s)
        ∙ elim (eq_by_cmp place_cmp s.1 p) as (λ b.
        eq_by_cmp place_cmp s.1 p ≡ b → (is_spot kind S s && not (is_that (spot_of before p) s)) ≡ is_spot kind T s) [
          | true ↦ λ t.
              let here : s.1 ≡ p = place_cmp-ties s.1 p (equal _ t) in
              ap (λ b. b && not (is_that (spot_of before p) s)) (was_spot s here)
              ∙ none_left before s
              ∙ sym (now_spot s here ∙ ap (λ b. b && eq_by_cmp spot_cmp (r.offset, p) s) clear)
          | false ↦ λ t.
              let apart : ¬ (s.1 ≡ p) = λ h. false≢true (sym t ∙ itself s.1 p h) in
              ap (λ b. is_spot kind S s && not b) (not_spot s apart before)
              ∙ stays (is_spot kind S s)
              ∙ sym (same_spots s (other_key s apart))
        ] refl
      where
        not_spot : (s : Spot) → ¬ (s.1 ≡ p) → (o : Option Record) → is_that (spot_of o p) s ≡ false
        not_spot s apart None = refl
        not_spot s apart (Some b) = other_place b.offset p s apart

        none_left : (o : Option Record) (s : Spot)
            → (option_map_or (λ x. kind x && eq_by_cmp spot_cmp (x.offset, p) s) o false && not (is_that (spot_of o p) s)) ≡ false
        none_left None s = refl
        none_left (Some b) s = gone (kind b) (eq_by_cmp spot_cmp (b.offset, p) s)

    -- the record's own spot is put, and the earlier one's is forgotten
    pub spots-put : kind r ≡ true → (m n : BTreeSet Spot) → Updates spot_cmp u m (r.offset, p) true
        → Forgets (elsewhere (spot_of before p) r.offset) m n → HasSpots kind T n
    spots-put own m n put forgets s =
        forgets s
        ∙ ap (λ b. b && not (is_that (elsewhere (spot_of before p) r.offset) s))
        (put.0 s ∙ ap (cond (eq_by_cmp spot_cmp (r.offset, p) s) true) (has s))
        ∙ elim (eq_by_cmp place_cmp s.1 p) as (λ b. eq_by_cmp place_cmp s.1 p ≡ b
        → (cond (eq_by_cmp spot_cmp (r.offset, p) s) true (is_spot kind S s) && not (is_that (elsewhere (spot_of before p) r.offset) s))
        ≡ is_spot kind T s) [
          | true ↦ λ t.
              let here : s.1 ≡ p = place_cmp-ties s.1 p (equal _ t) in
              ap (λ b. cond (eq_by_cmp spot_cmp (r.offset, p) s) true b && not (is_that (elsewhere (spot_of before p) r.offset) s))
              (was_spot s here)
              ∙ one_left before s ∙ sym (now_spot s here ∙ ap (λ b. b && eq_by_cmp spot_cmp (r.offset, p) s) own)
          | false ↦ λ t.
              let apart : ¬ (s.1 ≡ p) = λ h. false≢true (sym t ∙ itself s.1 p h) in
              ap (λ b. cond b true (is_spot kind S s) && not (is_that (elsewhere (spot_of before p) r.offset) s))
              (other_place r.offset p s apart)
              ∙ ap (λ b. is_spot kind S s && not b) (not_elsewhere s apart before)
              ∙ stays (is_spot kind S s)
              ∙ sym (same_spots s (other_key s apart))
        ] refl
      where
        not_elsewhere : (s : Spot) → ¬ (s.1 ≡ p) → (o : Option Record) → is_that (elsewhere (spot_of o p) r.offset) s ≡ false
        not_elsewhere s apart None = refl
        not_elsewhere s apart (Some b) =
            elim (b.offset == r.offset) as (λ t. is_that (cond t None (Some (b.offset, p))) s ≡ false) [
              | true ↦ refl
              | false ↦ other_place b.offset p s apart
            ]

        one_left : (o : Option Record) (s : Spot)
            → (
            cond (eq_by_cmp spot_cmp (r.offset, p) s) true (option_map_or (λ x. kind x && eq_by_cmp spot_cmp (x.offset, p) s) o false)
            && not (is_that (elsewhere (spot_of o p) r.offset) s))
            ≡ eq_by_cmp spot_cmp (r.offset, p) s
        one_left None s = put_here (eq_by_cmp spot_cmp (r.offset, p) s) false
        one_left (Some b) s =
            elim (b.offset == r.offset) as (λ t. (b.offset == r.offset) ≡ t
            → (
            cond (eq_by_cmp spot_cmp (r.offset, p) s) true (kind b && eq_by_cmp spot_cmp (b.offset, p) s)
            && not (is_that (cond t None (Some (b.offset, p))) s))
            ≡ eq_by_cmp spot_cmp (r.offset, p) s) [
              | true ↦ λ t.
                  ap (λ (o : ℕ). cond (eq_by_cmp spot_cmp (r.offset, p) s) true (kind b && eq_by_cmp spot_cmp (o, p) s) && true)
                  (eqb-true b.offset r.offset t)
                  ∙ put_here (eq_by_cmp spot_cmp (r.offset, p) s) (kind b)
              | false ↦ λ t.
                  put_elsewhere (eq_by_cmp spot_cmp (r.offset, p) s) (kind b) (eq_by_cmp spot_cmp (b.offset, p) s) (λ x y.
                  false≢true (
                  sym t
                  ∙ eq-eqb b.offset r.offset (ap (λ (z : Spot). z.0) (same_spot (b.offset, p) s y ∙ sym (same_spot (r.offset, p) s x)))))
            ] refl

-- a spot that was put is taken back, where it was new, and none has changed
pub spots-taken_back : (kind : Record → Bool) (S : Records) (u m n : BTreeSet Spot) (t : Spot) → HasSpots kind S u
    → contains spot_cmp u t ≡ false → Updates spot_cmp u m t true → Updates spot_cmp m n t false → HasSpots kind S n
spots-taken_back kind S u m n t has is_new put back s =
    back.0 s ∙ ap (cond (eq_by_cmp spot_cmp t s) false) (put.0 s)
    ∙ elim (eq_by_cmp spot_cmp t s) as (λ b.
    eq_by_cmp spot_cmp t s ≡ b → cond b false (cond b true (contains spot_cmp u s)) ≡ contains spot_cmp u s) [
      | true ↦ λ e. sym is_new ∙ ap (contains spot_cmp u) (same_spot t s e)
      | false ↦ λ _. refl
    ] refl
    ∙ has s

-- spots that are the same keys are the same spots
pub spots-same : (kind : Record → Bool) (S T : Records) (u n : BTreeSet Spot)
    → T ≡ S → n.keys ≡ u.keys → HasSpots kind S u → HasSpots kind T n
spots-same kind S T u n records spots has s =
    ap (list_any (λ k. is_eq (spot_cmp s k))) spots ∙ has s ∙ sym (ap (λ rs. is_spot kind rs s) records)
