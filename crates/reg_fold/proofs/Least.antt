-- The first of the places of opaque versions has the least offset.
use Rattle.std.proofs.Common.{◌≡◌, ℕ, ◌<◌, ◌≤◌, Bool, true, false, cond, ◌&&◌, ◌||◌, ◌⊎◌, inl, inr, ⊎_elim, List, [], ◌∷◌}
use Rattle.std.proofs.Common.{map, min, Some, None, refl, sym, ap, subst, ◌∙◌, is_none, is_some, nat_le, arith}
use Rattle.std.proofs.lemmas.Bool.{false≢true}
use Rattle.std.proofs.lemmas.Bool.Decides.{nat_tests}
use Rattle.std.proofs.lemmas.Cmp.{tied_itself}
use Rattle.std.specs.BTreeSet.{BTreeSet, IsEmpty, IsLowerBound, contains}
use Rattle.std.specs.Cmp.{IsTotalOrder, nat_cmp_is}
use Rattle.std.specs.FinSet.{IsAntisymmetric}
use Rattle.std.specs.FinSet as set
use Rattle.std.specs.List.{AllByRecursion, filter, fold, list_any, reduce}
use Rattle.std.specs.Option.{option_map_or}
use Rattle.std.specs.Ordering.{eq_by_cmp, is_eq, is_gt, ordering_then}
use Rattle.std.specs.declared.cmp.Ordering.TheVariants.{Greater}
use Rattle.reg_values.specs.Value.{value_of}
use Rattle.reg_values.specs.reg_records.declared.key.Key.{Key}
use Rattle.reg_values.specs.reg_records.declared.key.Key.TheVariants as keys
use Rattle.reg_values.specs.reg_records.declared.record.Record.{Record}
use Rattle.reg_set.specs.Join.{LastIsGreatest}
use Rattle.reg_set.specs.LastRecords.{last, last_records}
use Rattle.reg_set.specs.RecordOrder.{record_cmp}
use Rattle.reg_set.specs.Records.{Records, records_of}
use Rattle.reg_entries.specs.EntryOrder.{Place, place_cmp}
use Rattle.reg_fold.specs.Opaque.{is_opaque, is_version, opaque}
use Rattle.reg_fold.specs.Spots.{HasSpots, Spot, spot_cmp}
use Rattle.reg_fold.proofs.OfLasts.{last_of_itself}
use Rattle.reg_fold.proofs.Placed.{spot_cmp-total}
use Rattle.reg_fold.proofs.Places.{equal, inside}
use Rattle.reg_fold.proofs.Spotted.{same_spot}

abbrev pub Has : ℕ → List ℕ → Type 0
Has m [] = ⊥
Has m (n ∷ ns) = (n ≡ m) ⊎ Has m ns

fold_least : (m n : ℕ) (ns : List ℕ) → m ≤ n → AllByRecursion (λ k. m ≤ k) ns → (n ≡ m) ⊎ Has m ns → fold min n ns ≡ m
fold_least m n [] low all has = ⊎_elim (λ (e : n ≡ m). e) (λ (no_one : ⊥). absurd no_one) has
fold_least m n (k ∷ ks) low all has =
    let below : m ≤ k = all.0 in
    fold_least m (min n k) ks (omega arith) all.1 (⊎_elim (λ (e : n ≡ m). inl (lowest e below))
    (λ (later : (k ≡ m) ⊎ Has m ks). ⊎_elim (λ (e : k ≡ m). inl (lowest_right e low)) (λ (h : Has m ks). inr h) later) has)
  where
    lowest : n ≡ m → m ≤ k → min n k ≡ m
    lowest e below = omega arith

    lowest_right : k ≡ m → m ≤ n → min n k ≡ m
    lowest_right e low = omega arith

pub reduce_least : (m : ℕ) (ns : List ℕ) → AllByRecursion (λ k. m ≤ k) ns → Has m ns → reduce min ns ≡ Some m
reduce_least m [] all has = absurd has
reduce_least m (n ∷ ns) all has = ap Some (fold_least m n ns all.0 all.1 has)

abbrev pub among : Record → List Record → Bool
among r rs = list_any (eq_by_cmp record_cmp r) rs

or_later : (a b : Bool) → b ≡ true → (a || b) ≡ true
or_later true b h = refl
or_later false b h = h

both_true : (a b : Bool) → (a && b) ≡ true → (a ≡ true) × (b ≡ true)
both_true true b h = (refl, h)
both_true false b h = absurd (false≢true h)

-- three tests in a row, grouped the other way
three : (a b c : Bool) → (a && b && c) ≡ true → (a && (b && c)) ≡ true
three true true c h = h
three true false c h = h
three false b c h = h

version_place : (key : Key) → is_version key ≡ true → (p : Place) × (key ≡ keys.Schema p.0 p.1)
version_place (keys.Schema subject version) h = ((subject, version), refl)
version_place (keys.Config scope) h = absurd (false≢true h)
version_place (keys.Mode scope) h = absurd (false≢true h)
version_place (keys.DeleteSubject subject) h = absurd (false≢true h)
version_place keys.Noop h = absurd (false≢true h)
version_place keys.IdMark h = absurd (false≢true h)

not_above : (m o : ℕ) → (o < m → ⊥) → m ≤ o
not_above m o h =
    elim (nat_le m o) as (λ b. nat_le m o ≡ b → m ≤ o) [
      | true ↦ λ t. grind (arith, nat_tests)
      | false ↦ λ t. absurd (h (grind (arith, nat_tests)))
    ] refl

-- of two spots the one that isn't greater has no greater offset
offset_below : (k s : Spot) → is_gt (spot_cmp k s) ≡ false → k.0 ≤ s.0
offset_below k s low =
    not_above k.0 s.0 (λ above.
    false≢true (sym low ∙ ap (λ o. is_gt (ordering_then o (place_cmp k.1 s.1))) (sym (nat_cmp_is k.0 s.0 Greater above))))

module _ (total : IsTotalOrder record_cmp) (ties : IsAntisymmetric record_cmp) where
  pub first_among : (r : Record) (rs : List Record) → among r (r ∷ rs) ≡ true
  first_among r rs = ap (λ o. is_eq o || list_any (eq_by_cmp record_cmp r) rs) (tied_itself total r)

  pub later_among : (q r : Record) (rs : List Record) → among q rs ≡ true → among q (r ∷ rs) ≡ true
  later_among q r rs h = or_later (eq_by_cmp record_cmp q r) (list_any (eq_by_cmp record_cmp q) rs) h

  above : (rs : List Record) (m : ℕ) → ((r : Record) → among r rs ≡ true → is_opaque r ≡ true → m ≤ r.offset)
      → AllByRecursion (λ k. m ≤ k) (map (λ r. r.offset) (filter is_opaque rs))
  above [] m each = tt
  above (r ∷ rs) m each =
      let rest = above rs m (λ q h. each q (later_among q r rs h)) in
      elim (is_opaque r) as (λ b.
      is_opaque r ≡ b → AllByRecursion (λ k. m ≤ k) (map (λ r. r.offset) (cond b (r ∷ filter is_opaque rs) (filter is_opaque rs)))) [
        | true ↦ λ h. (each r (first_among r rs) h, rest)
        | false ↦ λ _. rest
      ] refl

  pub there : (rs : List Record) (w : Record) → among w rs ≡ true
      → is_opaque w ≡ true → Has w.offset (map (λ r. r.offset) (filter is_opaque rs))
  there [] w h unread = false≢true h
  there (r ∷ rs) w h unread =
      elim (eq_by_cmp record_cmp w r) as (λ b. eq_by_cmp record_cmp w r ≡ b → (b || list_any (eq_by_cmp record_cmp w) rs) ≡ true
      → Has w.offset (map (λ r. r.offset) (filter is_opaque (r ∷ rs)))) [
        | true ↦ λ t _.
            let same : w ≡ r = ties w r (equal _ t) in
            ap_has same
        | false ↦ λ _ later. keep (is_opaque r) (there rs w later unread)
      ] refl h
    where
      keep : (b : Bool) → Has w.offset (map (λ r. r.offset) (filter is_opaque rs))
          → Has w.offset (map (λ r. r.offset) (cond b (r ∷ filter is_opaque rs) (filter is_opaque rs)))
      keep true rest = inr rest
      keep false rest = rest

      ap_has : w ≡ r → Has w.offset (map (λ r. r.offset) (filter is_opaque (r ∷ rs)))
      ap_has same =
          subst (λ b. Has w.offset (map (λ r. r.offset) (cond b (r ∷ filter is_opaque rs) (filter is_opaque rs))))
          (sym unread ∙ ap is_opaque same) (inl (ap (λ (q : Record). q.offset) (sym same)))

  pub none_opaque : (rs : List Record) → ((r : Record) → among r rs ≡ true → is_opaque r ≡ true → ⊥) → filter is_opaque rs ≡ []
  none_opaque [] each = refl
  none_opaque (r ∷ rs) each =
      let rest = none_opaque rs (λ q h. each q (later_among q r rs h)) in
      elim (is_opaque r) as (λ b. is_opaque r ≡ b → cond b (r ∷ filter is_opaque rs) (filter is_opaque rs) ≡ []) [
        | true ↦ λ h. absurd (each r (first_among r rs) h)
        | false ↦ λ _. rest
      ] refl

  module _ (greatest : LastIsGreatest) (S : Records) (are_last : last_records S ≡ S)
      (unread : BTreeSet Spot) (has : HasSpots is_opaque S unread) where
    lasts : (r : Record) → set.contains S r ≡ true → last S r.key ≡ Some r
    lasts = last_of_itself total ties S are_last

    -- an opaque version has its spot in the set
    has_spot : (r : Record) → among r (records_of S) ≡ true → is_opaque r ≡ true
        → (p : Place) × (contains spot_cmp unread (r.offset, p) ≡ true)
    unfolding is_opaque
    has_spot r inside_list unread_too =
        let (p, of_key) = version_place r.key (
        (both_true (is_version r.key) (is_some r.value && is_none (value_of r))
        (three (is_version r.key) (is_some r.value) (is_none (value_of r)) unread_too)).0) in
        let own : last S r.key ≡ Some r = lasts r (inside total ties greatest S lasts r ∙ inside_list) in (
          p,
          has (r.offset, p)
              ∙ ap (λ o. option_map_or (λ x. is_opaque x && eq_by_cmp spot_cmp (x.offset, p) (r.offset, p)) o false)
              (ap (last S) (sym of_key) ∙ own)
              ∙ ap (λ b. b && eq_by_cmp spot_cmp (r.offset, p) (r.offset, p)) unread_too
              ∙ ap is_eq (tied_itself spot_cmp-total (r.offset, p)),
        )

    pub opaque-none : IsEmpty unread → None ≡ opaque S
    unfolding opaque
    opaque-none empty =
        sym (ap (λ rs. reduce min (map (λ r. r.offset) rs)) (none_opaque (records_of S) (λ r h unread_too.
        let (p, there) = has_spot r h unread_too in
        false≢true (sym (ap (list_any (λ k. is_eq (spot_cmp (r.offset, p) k))) empty) ∙ there))))

    pub opaque-least : (k : Spot) → contains spot_cmp unread k ≡ true → IsLowerBound spot_cmp unread k → Some k.0 ≡ opaque S
    unfolding opaque
    opaque-least k member least =
        elim (last S (keys.Schema k.1.0 k.1.1)) as (λ o. last S (keys.Schema k.1.0 k.1.1) ≡ o
        → option_map_or (λ r. is_opaque r && eq_by_cmp spot_cmp (r.offset, k.1) k) o false ≡ true → Some k.0 ≡ opaque S) [
          | None ↦ λ _ h. absurd (false≢true h)
          | Some w ↦ λ own h. of_record w own h
        ] refl (sym (has k) ∙ member)
      where
        of_record : (w : Record) → last S (keys.Schema k.1.0 k.1.1) ≡ Some w
            → (is_opaque w && eq_by_cmp spot_cmp (w.offset, k.1) k) ≡ true → Some k.0 ≡ opaque S
        of_record w own h =
            let both = both_true (is_opaque w) _ h in
            let offset : w.offset ≡ k.0 = ap (λ (s : Spot). s.0) (same_spot (w.offset, k.1) k both.1) in
            let here : among w (records_of S) ≡ true =
            sym (inside total ties greatest S lasts w) ∙ ((greatest S (keys.Schema k.1.0 k.1.1) w).0 own).is_in_set in
            ap Some (sym offset)
            ∙ sym (
            reduce_least w.offset (map (λ r. r.offset) (filter is_opaque (records_of S)))
            (above (records_of S) w.offset (λ r inside_list unread_too.
            let (p, there) = has_spot r inside_list unread_too in
            let low : k.0 ≤ r.offset = offset_below k (r.offset, p) (least (r.offset, p) there) in
            subst (λ n. n ≤ r.offset) (sym offset) low)) (there (records_of S) w here both.0))
