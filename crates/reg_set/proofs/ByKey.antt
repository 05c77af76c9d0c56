-- Maps whose records are each of its key, as sets of last records.
use Rattle.std.proofs.Common.{◌≡◌, ℕ, suc, zero, Bool, true, false, cond, ◌||◌, List, [], ◌∷◌}
use Rattle.std.proofs.Common.{map, Option, Some, None, IfSome, refl, sym, ap, subst, ◌∙◌}
use Rattle.std.proofs.lemmas.Bool.{false≢true}
use Rattle.std.proofs.lemmas.Cmp.{tied_itself}
use Rattle.std.proofs.lemmas.Map.Entries.{btree_map_get_place}
use denote.Ref.{Bor}
use Rattle.std.specs.BTreeMap.{BTreeMap, IsOrdered, IsUnchanged, Updates, is_at, values}
use Rattle.std.specs.FinSet.{contains, from_list, contains-from_list}
use Rattle.std.specs.List.{list_any, slice_get}
use Rattle.std.specs.List.Sorted.{IsStrictlySortedBy}
use Rattle.std.specs.Map.{keys_of, lookup, values_of}
use Rattle.std.specs.Option.{option_map_or}
use Rattle.std.specs.Ordering.{eq_by_cmp, is_eq, is_le}
use Rattle.reg_records.specs.contracts.key.KeyOrd.TheImpl.Laws.{total-law}
use Rattle.reg_records.specs.declared.key.Key.{Key}
use Rattle.reg_records.specs.declared.record.Record.{Record}
use Rattle.reg_set.specs.Index.{last_at, IsByKey}
use Rattle.reg_set.specs.LastRecords.{last, last_records}
use Rattle.reg_set.specs.RecordOrder.{age_cmp, key_cmp, record_cmp}
use Rattle.reg_set.specs.Records.{Records}
use Rattle.reg_set.proofs.Lasts.{equal, le_itself, last-greatest, last-absent}
use Rattle.reg_set.proofs.OneEach.{compact_from}
use Rattle.reg_set.proofs.Orders.{key_cmp-ties, record_cmp-total, record_cmp-ties}
use Rattle.reg_set.proofs.Unions.{same_answers}

-- a value has a place
place_of : (r : Record) (es : List (Key × Record)) → list_any (eq_by_cmp record_cmp r) (values_of es) ≡ true
    → (i : ℕ) × (k : Key) × (slice_get es i ≡ Some (k, r))
place_of r [] h = absurd (false≢true h)
place_of r (e ∷ es) h =
    elim (eq_by_cmp record_cmp r e.1) as (λ b. eq_by_cmp record_cmp r e.1 ≡ b
    → (b || list_any (eq_by_cmp record_cmp r) (values_of es)) ≡ true → (i : ℕ) × (k : Key) × (slice_get (e ∷ es) i ≡ Some (k, r))) [
      | true ↦ λ same _. (zero, e.0, ap (λ x. Some (e.0, x)) (sym (record_cmp-ties r e.1 (equal _ same))))
      | false ↦ λ _ rest. let found = place_of r es rest in (suc found.0, found.1, found.2)
    ] refl h

-- what a look-up finds is among the values
among : (test : Key → Bool) (r : Record) (es : List (Key × Record))
    → lookup test es ≡ Some r → list_any (eq_by_cmp record_cmp r) (values_of es) ≡ true
among test r [] h = absurd (cc)
among test r (e ∷ es) h =
    let is : Record → Bool = eq_by_cmp record_cmp r in
    elim (test e.0) as (λ b. cond b (Some e.1) (lookup test es) ≡ Some r → (is e.1 || list_any is (values_of es)) ≡ true) [
      | true ↦ λ here.
          let same : e.1 ≡ r = cc in
          ap (λ x. is x || list_any is (values_of es)) same
          ∙ ap (λ o. is_eq o || list_any is (values_of es)) (tied_itself record_cmp-total r)
      | false ↦ λ rest.
          elim (is e.1) as (λ b. (b || list_any is (values_of es)) ≡ true) [ true ↦ refl | false ↦ among test r es rest ]
    ] h

-- a map as the set of its records
abbrev pub set_of : BTreeMap Key Record → Records
set_of m = from_list (values m)

module _ (m : BTreeMap Key Record) (by_key : IsByKey m) where
  found : (r : Record) → contains (set_of m) r ≡ true → last_at m r.key ≡ Some r
  found r h =
      let place = place_of r m.entries (sym (contains-from_list record_cmp-total (values m) r) ∙ h) in
      let there = btree_map_get_place total-law m place.0 place.1 r by_key.is_ordered place.2 in
      let key : r.key ≡ place.1 = subst (λ o. IfSome o (λ q. q.key ≡ place.1)) there (by_key.of_keys place.1) in
      ap (last_at m) key ∙ there

  -- a look-up finds the last record of a key
  pub last-set_of : (key : Key) → last (set_of m) key ≡ last_at m key
  last-set_of key =
      elim (last_at m key) as (λ o. last_at m key ≡ o → last (set_of m) key ≡ o) [
        | None ↦ λ e. last-absent (set_of m) key (λ q inside same.
            let there : None ≡ Some q = sym e ∙ ap (last_at m) (sym same) ∙ found q inside in
            cc)
        | Some r ↦ λ e. last-greatest (set_of m) key r (record {
          is_in_set = contains-from_list record_cmp-total (values m) r ∙ among _ r m.entries e;
          is_of_key = subst (λ o. IfSome o (λ q. q.key ≡ key)) e (by_key.of_keys key);
          is_greatest = λ q inside same.
              let there : Some q ≡ Some r = sym (found q inside) ∙ ap (last_at m) same ∙ e in
              let one : q ≡ r = cc in
              ap (λ x. is_le (age_cmp x r)) one ∙ le_itself r;
        })
      ] refl

  pub contains-set_of : (r : Record) → contains (set_of m) r ≡ option_map_or (eq_by_cmp record_cmp r) (last_at m r.key) false
  contains-set_of r =
      same_answers _ _
      (λ h. ap (λ o. option_map_or (eq_by_cmp record_cmp r) o false) (found r h) ∙ ap is_eq (tied_itself record_cmp-total r))
      (λ h.
      contains-from_list record_cmp-total (values m) r
      ∙ elim (last_at m r.key) as (λ o. last_at m r.key ≡ o → option_map_or (eq_by_cmp record_cmp r) o false ≡ true
      → list_any (eq_by_cmp record_cmp r) (values m) ≡ true) [
        | None ↦ λ _ k. absurd (false≢true k)
        | Some q ↦ λ e k. among _ r m.entries (e ∙ ap Some (sym (record_cmp-ties r q (equal _ k))))
      ] refl h)

  pub compact-set_of : last_records (set_of m) ≡ set_of m
  compact-set_of = compact_from (set_of m) (λ r h. last-set_of r.key ∙ found r h)

-- a map after one change
module _ (m n : BTreeMap Key Record) (by_key : IsByKey m) (ordered : IsOrdered key_cmp n) (key : Key)
    (o : Option Record) (updates : Updates key_cmp m n key o) (of_key : IfSome o (λ r. r.key ≡ key)) where
  pub IsByKey-updated : IsByKey n
  IsByKey-updated = record {
    is_ordered = ordered;
    of_keys = λ q. subst (λ x. IfSome x (λ r. r.key ≡ q)) (sym (updates.0 q)) (
        elim (is_eq (key_cmp key q)) as (λ b. is_eq (key_cmp key q) ≡ b → IfSome (cond b o (last_at m q)) (λ r. r.key ≡ q)) [
          | true ↦ λ e. subst (λ k. IfSome o (λ r. r.key ≡ k)) (key_cmp-ties key q (equal _ e)) of_key
          | false ↦ λ _. by_key.of_keys q
        ] refl);
  }

  pub last-updated : (q : Key) → last (set_of n) q ≡ cond (is_eq (key_cmp key q)) o (last (set_of m) q)
  last-updated q =
      last-set_of n IsByKey-updated q ∙ updates.0 q ∙ ap (cond (is_eq (key_cmp key q)) o) (sym (last-set_of m by_key q))

pub IsByKey-unchanged : (m n : BTreeMap Key Record) → IsUnchanged m n → IsByKey m → IsByKey n
IsByKey-unchanged m n same by_key = record {
  is_ordered = subst (λ es. IsStrictlySortedBy key_cmp (keys_of es)) (sym same) by_key.is_ordered;
  of_keys = λ q. subst (λ es. IfSome (lookup (is_at (key_cmp q)) es) (λ r. r.key ≡ q)) (sym same) (by_key.of_keys q);
}

keyed : (es : List (Key × Record)) → ((i : ℕ) (k : Key) (v : Record) → slice_get es i ≡ Some (k, v) → v.key ≡ k)
    → map (λ r. r.key) (values_of es) ≡ keys_of es
keyed [] each = refl
keyed (e ∷ es) each = λ j. each zero e.0 e.1 refl j ∷ keyed es (λ i k v h. each (suc i) k v h) j

keys_now : (xs : List (Bor Record)) → map (λ r. r.now.key) xs ≡ map (λ r. r.key) (map (λ r. r.now) xs)
keys_now [] = refl
keys_now (x ∷ xs) = ap (λ ks. x.now.key ∷ ks) (keys_now xs)

-- its records, in the map's order, have keys that rise
pub rising : (m : BTreeMap Key Record) (xs : List (Bor Record)) → IsByKey m
    → map (λ r. r.now) xs ≡ values m → IsStrictlySortedBy key_cmp (map (λ r. r.now.key) xs)
rising m xs by_key all =
    let same = keyed m.entries (λ i k v h.
    subst (λ o. IfSome o (λ q. q.key ≡ k)) (btree_map_get_place total-law m i k v by_key.is_ordered h) (by_key.of_keys k)) in
    subst (IsStrictlySortedBy key_cmp) (sym (keys_now xs ∙ ap (map (λ r. r.key)) all ∙ same)) by_key.is_ordered
