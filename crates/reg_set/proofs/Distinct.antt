-- The records of a map, none of which stands twice, put in order.
use Rattle.std.proofs.Common.{◌≡◌, ℕ, suc, zero, ◌+◌, Bool, true, false, ◌||◌, List, [], ◌∷◌}
use Rattle.std.proofs.Common.{◌++◌, get_or, nat_lt, Some, refl, sym, ap, subst, ◌∙◌, arith}
use Rattle.std.proofs.lemmas.Bool.{false≢true}
use Rattle.std.proofs.lemmas.Bool.Decides.{nat_tests}
use Rattle.std.proofs.lemmas.Cmp.{tied_itself}
use Rattle.std.proofs.lemmas.Map.Keys.{IsDistinct-IsPermutation, IsDistinct-from_sorted, apart_from_distinct, sorted_from_all_adjacent}
use Rattle.std.specs.Cmp.{eq_by_cmp_equiv}
use Rattle.std.specs.Global.{Vec}
use Rattle.std.specs.List.{AllByRecursion, IsAllAdjacentAnswer, IsDistinct, list_any, list_all, slice_get}
use Rattle.std.specs.List.Sorted.{IsPermutation, IsSortedBy, IsStrictlySortedBy}
use Rattle.std.specs.Map.{keys_of}
use Rattle.std.specs.Ordering.{eq_by_cmp, is_eq, is_lt, nat_cmp, ordering_reverse}
use Rattle.std.specs.declared.cmp.Ordering.TheVariants.{Less, Equal, Greater}
use Rattle.reg_records.specs.declared.key.Key.{Key}
use Rattle.reg_records.specs.declared.record.Record.{Record}
use Rattle.reg_set.specs.ByKey.{RecordLists, AreByKey, AreOf, all_records}
use Rattle.reg_set.specs.LastRecords.{is_of}
use Rattle.reg_set.specs.RecordOrder.{age_cmp, key_cmp, record_cmp}
use Rattle.reg_set.specs.Records.{is_in_order}
use Rattle.reg_set.proofs.InOrder.{both, first_of, second_of, itself, none_of_later}
use Rattle.reg_set.proofs.Indexed.{key_cmp-itself}
use Rattle.reg_set.proofs.Lasts.{at_any, equal, is_of-is}
use Rattle.reg_set.proofs.Listed.{Entries, listed, place_of, at_place}
use Rattle.reg_set.proofs.Orders.{age_cmp-of_one_key, key_cmp-total, key_cmp-ties, record_cmp-total, record_cmp-by_offset}
use Rattle.reg_set.proofs.Unions.{or_right}

abbrev is_same : Record → Record → Bool
is_same r q = eq_by_cmp record_cmp r q

none_by_recursion : (r : Record) (xs : List Record) → (list_any (is_same r) xs ≡ true → ⊥) → AllByRecursion (λ q. is_same r q ≡ false) xs
none_by_recursion r [] h = tt
none_by_recursion r (x ∷ xs) h = (
  elim (is_same r x) as (λ b. is_same r x ≡ b → b ≡ false) [
    | true ↦ λ e. absurd (h (ap (λ b. b || list_any (is_same r) xs) e))
    | false ↦ λ _. refl
  ] refl,
  none_by_recursion r xs (λ k. h (or_right (is_same r x) _ k)),
)

all_joined : (P : Record → Type 0) (xs ys : List Record) → AllByRecursion P xs → AllByRecursion P ys → AllByRecursion P (xs ++ ys)
all_joined P [] ys h k = k
all_joined P (x ∷ xs) ys h k = (h.0, all_joined P xs ys h.1 k)

distinct-in_order : (rs : List Record) → is_in_order rs ≡ true → IsDistinct is_same rs
unfolding IsDistinct
distinct-in_order [] h = tt
distinct-in_order (r ∷ rs) h = (
  none_by_recursion r rs (λ there. false≢true (sym (none_of_later r r rs (tied_itself record_cmp-total r) (first_of _ _ h)) ∙ there)),
  distinct-in_order rs (second_of (list_all (λ q. is_lt (record_cmp r q)) rs) _ h),
)

distinct-joined : (xs ys : List Record) → IsDistinct is_same xs → IsDistinct is_same ys
    → ((r : Record) → list_any (is_same r) xs ≡ true → list_any (is_same r) ys ≡ true → ⊥) → IsDistinct is_same (xs ++ ys)
unfolding IsDistinct
distinct-joined [] ys h k apart = k
distinct-joined (x ∷ xs) ys h k apart = (
  all_joined (λ q. is_same x q ≡ false) xs ys h.0 (none_by_recursion x ys (apart x (ap (λ b. b || list_any (is_same x) xs) (itself x)))),
  distinct-joined xs ys h.1 k (λ r there. apart r (or_right (is_same r x) _ there)),
)

at_key : (P : Key → Type 0) (es : Entries) (i : ℕ) (k : Key) (v : Vec Record)
    → AllByRecursion P (keys_of es) → slice_get es i ≡ Some (k, v) → P k
at_key P [] i k v h e = absurd (cc)
at_key P (x ∷ es) zero k v h e =
    let same : x ≡ (k, v) = cc in
    subst P (ap (λ y. y.0) same) h.0
at_key P (x ∷ es) (suc i) k v h e = at_key P es i k v h.1 e

distinct-listed : (es : Entries) → IsDistinct (eq_by_cmp key_cmp) (keys_of es)
    → ((i : ℕ) (k : Key) (v : Vec Record) → slice_get es i ≡ Some (k, v) → AreOf k v.items) → IsDistinct is_same (listed es)
unfolding IsDistinct
distinct-listed [] h each = tt
distinct-listed (e ∷ es) h each =
    let first = each zero e.0 e.1 refl in
    distinct-joined e.1.items (listed es) (distinct-in_order e.1.items first.in_order)
    (distinct-listed es h.1 (λ i k v found. each (suc i) k v found)) (λ r here there.
    let place = place_of r es there in
    let of_first = is_of-is e.0 r (at_any (is_of e.0) r e.1.items first.of_key here) in
    let of_other =
    is_of-is place.1 r (at_any (is_of place.1) r place.2.items (each (suc place.0) place.1 place.2 place.3).of_key place.4) in
    let apart = at_key (λ k. eq_by_cmp key_cmp e.0 k ≡ false) es place.0 place.1 place.2 h.0 place.3 in
    false≢true (sym apart ∙ key_cmp-itself e.0 place.1 (sym of_first ∙ of_other)))

pub distinct-all_records : (m : RecordLists) → AreByKey m → IsDistinct (eq_by_cmp record_cmp) (all_records m)
distinct-all_records m by_key =
    distinct-listed m.entries (IsDistinct-from_sorted key_cmp (keys_of m.entries) by_key.is_ordered)
    (λ i k v found. subst (AreOf k) (at_place m by_key i k v found) (by_key.of_keys k))

strict_in_order : (rs : List Record) → IsStrictlySortedBy record_cmp rs → is_in_order rs ≡ true
unfolding IsStrictlySortedBy
strict_in_order [] h = refl
strict_in_order (r ∷ rs) h = both (later r rs h.0) (strict_in_order rs h.1)
  where
    later : (r : Record) (qs : List Record) → AllByRecursion (λ q. record_cmp r q ≡ Less) qs
        → list_all (λ q. is_lt (record_cmp r q)) qs ≡ true
    later r [] h = refl
    later r (q ∷ qs) h = both (ap is_lt h.0) (later r qs h.1)

-- two in order that don't tie
rise : (a b : Record) → is_lt (record_cmp b a) ≡ false → eq_by_cmp record_cmp a b ≡ false → record_cmp a b ≡ Less
rise a b h apart =
    elim (record_cmp a b) as (λ o. record_cmp a b ≡ o → o ≡ Less) [
      | Less ↦ λ _. refl
      | Equal ↦ λ e. absurd (false≢true (sym apart ∙ ap is_eq e))
      | Greater ↦ λ e. absurd (false≢true (sym h ∙ ap is_lt (record_cmp-total.antisymm b a ∙ ap ordering_reverse e)))
    ] refl

greater : (m n : ℕ) → nat_lt m n ≡ true → nat_cmp n m ≡ Greater
greater m n h = grind (arith, nat_tests)

-- by age, at different offsets and of one key, is in order
rise_by_age : (a b : Record) → (nat_lt a.offset b.offset || is_eq (key_cmp a.key b.key)) ≡ true
    → is_lt (age_cmp b a) ≡ false → is_lt (record_cmp b a) ≡ false
rise_by_age a b h aged =
    elim (nat_lt a.offset b.offset) as (λ t.
    nat_lt a.offset b.offset ≡ t → (t || is_eq (key_cmp a.key b.key)) ≡ true → is_lt (record_cmp b a) ≡ false) [
      | true ↦ λ e _.
          let above = greater a.offset b.offset e in
          ap is_lt (sym (record_cmp-by_offset b a (λ tie. let no : Greater ≡ Equal = sym above ∙ tie in absurd (cc))) ∙ above)
      | false ↦ λ _ same.
          let keys : a.key ≡ b.key = key_cmp-ties a.key b.key (equal _ same) in
          ap is_lt (sym (age_cmp-of_one_key b a (ap (key_cmp b.key) keys ∙ tied_itself key_cmp-total b.key))) ∙ aged
    ] refl h

-- records in order by age, of which neighbours of one offset are of one key, are sorted
pub sorted_by_age : (ys : List Record) → IsSortedBy (λ a b. is_lt (age_cmp a b)) ys
    → IsAllAdjacentAnswer (λ a b answer. answer ≡ (nat_lt a.offset b.offset || is_eq (key_cmp a.key b.key))) ys true
    → IsSortedBy (λ a b. is_lt (record_cmp a b)) ys
sorted_by_age ys aged apart = λ k d low within. rise_by_age _ _ (sym (apart k d within)) (aged k d low within)

-- sorted records of which none stands twice are in order
pub sorted-in_order : (xs ys : List Record) → IsDistinct (eq_by_cmp record_cmp) xs
    → IsPermutation xs ys → IsSortedBy (λ a b. is_lt (record_cmp a b)) ys → is_in_order ys ≡ true
sorted-in_order xs [] distinct moved sorted = refl
sorted-in_order xs (y ∷ ys) distinct moved sorted =
    let all : List Record = y ∷ ys in
    let apart =
    IsDistinct-IsPermutation (eq_by_cmp record_cmp) (λ a b. (eq_by_cmp_equiv record_cmp-total).symm a b) xs all moved distinct in
    strict_in_order all (sorted_from_all_adjacent record_cmp-total all y (λ k within.
    rise (get_or all k y) (get_or all (k + 1) y) (sorted k y (omega arith) within)
    (apart_from_distinct (eq_by_cmp record_cmp) all k (k + 1) y apart (omega arith) within)))
