-- Whether a subject has a live entry, from its greatest version down.
use Rattle.std.proofs.Common.{◌≡◌, ℕ, ◌≤◌, Bool, true, false, cond, not, ◌&&◌, ◌||◌, ⊎_elim, inl, inr, List, []}
use Rattle.std.proofs.Common.{◌∷◌, ◌++◌, reverse, Option, Some, None, refl, sym, ap, subst, ◌∙◌, arith}
use Rattle.std.proofs.lemmas.Bool.{false≢true}
use Rattle.std.proofs.lemmas.Bool.Decides.{nat_tests}
use Rattle.std.proofs.lemmas.Cmp.{tied_itself, nat_list_cmp_total}
use Rattle.std.proofs.lemmas.List.Folds.{find-append}
use Rattle.std.proofs.lemmas.List.Kept.{IsStrictlySortedBy-filter}
use Rattle.std.proofs.lemmas.Slice.Eq.{bytes_eq-Decides}
use Rattle.std.specs.BTreeMap.Range.{entries_between, range_contains}
use Rattle.std.specs.Cmp.Lexicographic.{slice_cmp}
use Rattle.std.specs.FinMap.{nat_cmp-IsAntisymmetric, slice_cmp-IsAntisymmetric}
use Rattle.std.specs.List.{filter, find, list_any, AllByRecursion}
use Rattle.std.specs.List.Sorted.{IsStrictlySortedBy}
use Rattle.std.specs.Map.{keys_of, values_of}
use Rattle.std.specs.Option.{option_map_or, option_or}
use Rattle.std.specs.Ordering.{is_gt, is_lt, nat_cmp, on, ordering_reverse, ordering_then}
use Rattle.std.specs.Prelude.{bytes_eq, is_some, IsSome}
use Rattle.std.specs.declared.cmp.Ordering.{Ordering}
use Rattle.std.specs.declared.cmp.Ordering.TheVariants.{Less, Equal, Greater}
use Rattle.std.specs.declared.ops.Bound.TheVariants.{Included, Unbounded}
use Rattle.reg_entries.specs.EntryOrder.{Place, place_cmp, place_of, IsInOrder}
use Rattle.reg_entries.specs.Sought.{has_live}
use Rattle.reg_entries.specs.declared.entry.Entry.{Entry}
use Rattle.reg_entries.proofs.Chosen.{IsIn, all_filter, all_map, in_filter}
use Rattle.reg_entries.proofs.Doubled.{all_in, any_found, any_in, out_of_filter, same_test}
use Rattle.reg_entries.proofs.Found.{AreAtPlaces, AreFoundAtPlaces, all_at_places, all_found, found_at, found_own, values_in_order}
use Rattle.reg_entries.proofs.Latest.{reverse-more}
use Rattle.reg_entries.proofs.Least.{all_from}
use Rattle.reg_entries.proofs.Listed.{by_bool}
use Rattle.reg_entries.proofs.Meant.{squeezed}
use Rattle.reg_entries.proofs.Topmost.{is_some_none}

find_in : {X : Type 0} (p : X → Bool) (xs : List X) (x : X) → find p xs ≡ Some x → IsIn x xs
find_in p [] x h = absurd (cc)
find_in {X} p (y ∷ ys) x h =
    elim (p y) as (λ b. cond b (Some y) (find p ys) ≡ Some x → IsIn x (y ∷ ys)) [
      | true ↦ λ same. inl (inside same)
      | false ↦ λ rest. inr (find_in p ys x rest)
    ] h
  where
    inside : Some y ≡ Some x → y ≡ x
    inside same = cc

in_last : {X : Type 0} (x y : X) (xs : List X) → IsIn x (xs ++ y ∷ []) → IsIn x (y ∷ xs)
in_last x y [] i = i
in_last x y (z ∷ zs) (inl same) = inr (inl same)
in_last x y (z ∷ zs) (inr i) = ⊎_elim (λ same. inl same) (λ k. inr (inr k)) (in_last x y zs i)

in_reverse : {X : Type 0} (x : X) (xs : List X) → IsIn x (reverse xs) → IsIn x xs
in_reverse x [] i = i
in_reverse x (y ∷ ys) i = ⊎_elim inl (λ k. inr (in_reverse x ys k)) (in_last x y (reverse ys) (subst (IsIn x) (reverse-more y ys) i))

or_true : (b : Bool) → (b || true) ≡ true
or_true true = refl
or_true false = refl

or_false : (b : Bool) → (b || false) ≡ b
or_false true = refl
or_false false = refl

module _ (s : List ℕ) where
  abbrev pub is_of : Entry → Bool
  is_of e = bytes_eq e.subject s

  abbrev pub is_live : Entry → Bool
  is_live e = bytes_eq e.subject s && not e.soft

  -- whether the way down ends at an entry
  abbrev pub stops : Entry → Bool
  stops e = not (bytes_eq e.subject s) || not e.soft

  -- an entry before one of a smaller subject is of another too
  apart_before : (x y : Entry) → place_cmp (place_of x) (place_of y) ≡ Less
      → is_gt (slice_cmp nat_cmp y.subject s) ≡ false → bytes_eq y.subject s ≡ false → bytes_eq x.subject s ≡ false
  apart_before x y less up apart =
      by_bool (bytes_eq x.subject s)
      (λ is. let same : x.subject ≡ s = (bytes_eq-Decides x.subject s).0 is in
      let tie = squeezed (slice_cmp nat_cmp) nat_list_cmp_total y.subject s up
      (ap (λ t. is_gt (slice_cmp nat_cmp t y.subject)) (sym same)
      ∙ not_after (slice_cmp nat_cmp x.subject y.subject) (nat_cmp x.version y.version) less) in
      absurd (
      false≢true (sym apart ∙ (bytes_eq-Decides y.subject s).1 (slice_cmp-IsAntisymmetric nat_cmp-IsAntisymmetric y.subject s tie))))
      (λ no. no)
    where
      not_after : (a b : Ordering) → ordering_then a b ≡ Less → is_gt a ≡ false
      not_after Less b h = refl
      not_after Equal b h = refl
      not_after Greater b h = absurd (cc)

  -- where the way down ends at this entry, if it ends there at all
  ends_here : (x : Entry) → option_map_or is_of (cond (stops x) (Some x) None) false ≡ is_live x
  ends_here x =
      by_bool (bytes_eq x.subject s)
      (λ h.
      ap (λ b. option_map_or is_of (cond (not b || not x.soft) (Some x) None) false) h
      ∙ each h (not x.soft)
      ∙ sym (ap (λ b. b && not x.soft) h))
      (λ h. ap (λ b. option_map_or is_of (cond (not b || not x.soft) (Some x) None) false) h ∙ h ∙ sym (ap (λ b. b && not x.soft) h))
    where
      each : bytes_eq x.subject s ≡ true → (b : Bool) → option_map_or is_of (cond b (Some x) None) false ≡ b
      each h true = h
      each h false = refl

  -- the way down from the last of some entries in order, of which none is of a greater subject
  from_last : (xs : List Entry) → IsInOrder xs → AllByRecursion (λ e. is_gt (slice_cmp nat_cmp e.subject s) ≡ false) xs
      → option_map_or is_of (find stops (reverse xs)) false ≡ list_any is_live xs
  unfolding IsStrictlySortedBy
  from_last [] sorted up = refl
  from_last (x ∷ xs) sorted up =
      ap (λ o. option_map_or is_of o false) (ap (find stops) (reverse-more x xs) ∙ find-append stops (reverse xs) (x ∷ []))
      ∙ by_rest (find stops (reverse xs)) refl (from_last xs sorted.1 up.1)
    where
      by_rest : (o : Option Entry) → find stops (reverse xs) ≡ o → option_map_or is_of o false ≡ list_any is_live xs
          → option_map_or is_of (option_or o (cond (stops x) (Some x) None)) false ≡ (is_live x || list_any is_live xs)
      by_rest None is rest = ends_here x ∙ sym (or_false (is_live x)) ∙ ap (λ b. is_live x || b) rest
      by_rest (Some y) is rest =
          by_bool (bytes_eq y.subject s)
          (λ h. h ∙ sym (ap (λ b. is_live x || b) (sym rest ∙ h) ∙ or_true (is_live x)))
          (λ h. let i : IsIn y xs = in_reverse y xs (find_in stops (reverse xs) y is) in
          let before = all_in (λ z. place_cmp (place_of x) (place_of z) ≡ Less) y xs sorted.0 i in
          let apart = apart_before x y before (all_in (λ e. is_gt (slice_cmp nat_cmp e.subject s) ≡ false) y xs up.1 i) h in
          h ∙ sym (ap (λ b. is_live x || b) (sym rest ∙ h) ∙ or_false (is_live x) ∙ ap (λ b. b && not x.soft) apart))

-- the greatest version of the subject is at o, and None where it has no entry
abbrev pub IsTopOf : List (Place × Entry) → List ℕ → Option Place → Type 0
IsTopOf m s None = (w : ℕ) → found_at m (s, w) ≡ None
IsTopOf m s (Some p) = (p.0 ≡ s) × IsSome (found_at m p) × ((w : ℕ) → IsSome (found_at m (s, w)) → w ≤ p.1)

module _ (m : List (Place × Entry)) (ordered : IsStrictlySortedBy place_cmp (keys_of m)) (placed : AreFoundAtPlaces m) where
  -- an entry of the list is at a place
  place_of_item : (e : Entry) → IsIn e (values_of m) → (q : Place) × (found_at m q ≡ Some e)
  place_of_item e i =
      all_in (λ e. (q : Place) × (found_at m q ≡ Some e)) e (values_of m)
      (all_map (λ (e : Place × Entry). e.1) (λ e. (q : Place) × (found_at m q ≡ Some e)) m
      (all_found (λ q e. (q : Place) × (found_at m q ≡ Some e)) m ordered (λ q e found. (q, found)))) i

  abbrev es : List Entry
  es = values_of m

  own : (q : Place) (e : Entry) → found_at m q ≡ Some e → found_at m (place_of e) ≡ Some e
  own q e found = ap (found_at m) (found_own m placed q e found) ∙ found

  -- a subject without an entry has no live one
  pub none_live : (s : List ℕ) → IsTopOf m s None → has_live es (Some s) ≡ false
  none_live s none =
      by_bool (list_any (is_live s) es)
      (λ h. let found = any_found (is_live s) es h in
      let at = place_of_item found.0 found.1.0 in
      let same : found.0.subject ≡ s = (bytes_eq-Decides found.0.subject s).0 (left (bytes_eq found.0.subject s) _ found.1.1) in
      absurd (
      is_some_none _ (none found.0.version) (ap is_some (ap (λ t. found_at m (t, found.0.version)) (sym same) ∙ own at.0 found.0 at.1))))
      (λ no. no)
    where
      left : (a b : Bool) → (a && b) ≡ true → a ≡ true
      left true b h = refl
      left false b h = h

  module _ (p : Place) (top : IsTopOf m p.0 (Some p)) where
    -- whether an entry is at the place or before it
    abbrev up_to : Entry → Bool
    up_to e = range_contains place_cmp Unbounded (Included p) (place_of e)

    values_between : (es : List (Place × Entry)) → AreAtPlaces es
        → values_of (filter (λ e. range_contains place_cmp Unbounded (Included p) e.0) es) ≡ filter up_to (values_of es)
    values_between [] h = refl
    values_between (e ∷ es) h =
        let rest = values_between es h.1 in
        let kept = filter (λ (f : Place × Entry). range_contains place_cmp Unbounded (Included p) f.0) es in
        ap (λ b. values_of (cond b (e ∷ kept) kept)) (ap (range_contains place_cmp Unbounded (Included p)) (sym h.0.0))
        ∙ elim (up_to e.1) as (λ b.
        values_of (cond b (e ∷ kept) kept) ≡ cond b (e.1 ∷ filter up_to (values_of es)) (filter up_to (values_of es))) [
          | true ↦ ap (λ ys. e.1 ∷ ys) rest
          | false ↦ rest
        ]

    not_false : (b : Bool) → not b ≡ true → b ≡ false
    not_false true h = absurd (false≢true h)
    not_false false h = refl

    -- its subject is no greater one
    bounded : (e : Entry) → up_to e ≡ true → is_gt (slice_cmp nat_cmp e.subject p.0) ≡ false
    bounded e h = by_order (slice_cmp nat_cmp p.0 e.subject) refl
      where
        later : is_lt (place_cmp p (place_of e)) ≡ false
        later = not_false _ h

        by_order : (o : Ordering) → slice_cmp nat_cmp p.0 e.subject ≡ o → is_gt (slice_cmp nat_cmp e.subject p.0) ≡ false
        by_order Less is = absurd (false≢true (sym later ∙ ap (λ o. is_lt (ordering_then o (nat_cmp p.1 e.version))) is))
        by_order Equal is = ap is_gt (nat_list_cmp_total.antisymm e.subject p.0 ∙ ap ordering_reverse is)
        by_order Greater is = ap is_gt (nat_list_cmp_total.antisymm e.subject p.0 ∙ ap ordering_reverse is)

    -- each entry of the subject is there
    reaches : (q : Place) (e : Entry) → found_at m q ≡ Some e → bytes_eq e.subject p.0 ≡ true → up_to e ≡ true
    reaches q e found is =
        let same : e.subject ≡ p.0 = (bytes_eq-Decides e.subject p.0).0 is in
        let bound : e.version ≤ p.1 = top.2 e.version (ap is_some (ap (λ t. found_at m (t, e.version)) (sym same) ∙ own q e found)) in
        ap not (
        ap (λ t. is_lt (ordering_then (slice_cmp nat_cmp p.0 t) (nat_cmp p.1 e.version))) same
        ∙ ap (λ o. is_lt (ordering_then o (nat_cmp p.1 e.version))) (tied_itself nat_list_cmp_total p.0)
        ∙ not_less p.1 e.version bound)
      where
        not_less : (a b : ℕ) → b ≤ a → is_lt (nat_cmp a b) ≡ false
        not_less a b h = grind (arith, nat_tests)

    any_between : list_any (is_live p.0) (filter up_to es) ≡ list_any (is_live p.0) es
    any_between = same_test _ _ to back
      where
        left : (a b : Bool) → (a && b) ≡ true → a ≡ true
        left true b h = refl
        left false b h = h

        to : list_any (is_live p.0) (filter up_to es) ≡ true → list_any (is_live p.0) es ≡ true
        to h =
            let found = any_found (is_live p.0) (filter up_to es) h in
            any_in (is_live p.0) found.0 es found.1.1 (out_of_filter up_to found.0 es found.1.0).1

        back : list_any (is_live p.0) es ≡ true → list_any (is_live p.0) (filter up_to es) ≡ true
        back h =
            let found = any_found (is_live p.0) es h in
            let at = place_of_item found.0 found.1.0 in
            any_in (is_live p.0) found.0 (filter up_to es) found.1.1
            (in_filter up_to found.0 es (reaches at.0 found.0 at.1 (left (bytes_eq found.0.subject p.0) _ found.1.1)) found.1.0)

    -- the way down from the greatest version ends at a live entry of the subject exactly where it has one
    pub live_is : option_map_or (is_of p.0)
        (find (stops p.0) (reverse (values_of (entries_between place_cmp Unbounded (Included p) m)))) false
        ≡ has_live es (Some p.0)
    live_is =
        ap (λ xs. option_map_or (is_of p.0) (find (stops p.0) (reverse xs)) false) (values_between m (all_at_places m ordered placed))
        ∙ from_last p.0 (filter up_to es)
        (IsStrictlySortedBy-filter (on place_of place_cmp) up_to es (values_in_order m (all_at_places m ordered placed) ordered))
        (all_filter up_to (λ e. is_gt (slice_cmp nat_cmp e.subject p.0) ≡ false) es
        (all_from (λ e. up_to e ≡ true → is_gt (slice_cmp nat_cmp e.subject p.0) ≡ false) es (λ e i. bounded e)))
        ∙ any_between
