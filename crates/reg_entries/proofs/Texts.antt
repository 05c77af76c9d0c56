-- The least id of a normal text.
use Rattle.std.proofs.Common.{◌≡◌, ℕ, ◌≤◌, true, false, List, [], ◌∷◌, map, Option, Some, None, refl, sym, ap, subst, ◌∙◌, arith}
use Rattle.std.proofs.lemmas.Bool.{false≢true}
use Rattle.std.proofs.lemmas.Bool.Decides.{nat_tests}
use Rattle.std.proofs.lemmas.Cmp.{tied_itself, nat_list_cmp_total}
use Rattle.std.proofs.lemmas.Slice.Eq.{bytes_eq-Decides}
use Rattle.std.specs.BTreeMap.{BTreeMap, IsOrdered}
use Rattle.std.specs.BTreeSet.{BTreeSet, contains}
use Rattle.std.specs.Cmp.Lexicographic.{slice_cmp}
use Rattle.std.specs.FinMap.{nat_cmp-IsAntisymmetric, slice_cmp-IsAntisymmetric}
use Rattle.std.specs.List.{filter}
use Rattle.std.specs.Map.{values_of}
use Rattle.std.specs.Ordering.{nat_cmp, ordering_then, ordering_reverse, is_gt}
use Rattle.std.specs.Prelude.{bytes_eq}
use Rattle.std.specs.declared.cmp.Ordering.{Ordering}
use Rattle.std.specs.declared.cmp.Ordering.TheVariants.{Less, Equal, Greater}
use Rattle.reg_entries.specs.EntryOrder.{Place, place_cmp}
use Rattle.reg_entries.specs.Index.{entry_at, ArePlaced}
use Rattle.reg_entries.specs.Schemas.{Schema, schema_of, schema_cmp, AreListed}
use Rattle.reg_entries.specs.Sought.{id_of}
use Rattle.reg_entries.specs.declared.entry.Entry.{Entry}
use Rattle.reg_entries.proofs.Chosen.{IsIn, all_filter, all_map, in_filter, in_map, reduce_none, reduce_min}
use Rattle.reg_entries.proofs.Found.{all_found, in_values}
use Rattle.reg_entries.proofs.Listed.{had, has_it, has_own, own_place}

up_to : (a b : ℕ) → is_gt (nat_cmp a b) ≡ false → a ≤ b
up_to a b h = grind (arith, nat_tests)

pub zero_first : (b : ℕ) → is_gt (nat_cmp 0 b) ≡ false
zero_first b = grind (arith, nat_tests)

pub none_first : (s : List ℕ) → is_gt (slice_cmp nat_cmp [] s) ≡ false
none_first [] = refl
none_first (x ∷ xs) = refl

pub then_not_after : (a b : Ordering) → is_gt a ≡ false → is_gt b ≡ false → is_gt (ordering_then a b) ≡ false
then_not_after Less b h k = refl
then_not_after Equal b h k = k
then_not_after Greater b h k = h

before_then : (a b : Ordering) → is_gt (ordering_then a b) ≡ false → is_gt a ≡ false
before_then Less b h = refl
before_then Equal b h = refl
before_then Greater b h = h

-- the first schema of a text is before all of them
pub from_first : (t : List ℕ) (s : Schema) → s.0 ≡ t → is_gt (schema_cmp (t, 0, ([], 0)) s) ≡ false
from_first t s same =
    ap (λ o. is_gt (ordering_then (ordering_then o (nat_cmp 0 s.1)) (place_cmp ([], 0) s.2)))
    (ap (slice_cmp nat_cmp t) same ∙ tied_itself nat_list_cmp_total t)
    ∙ then_not_after (nat_cmp 0 s.1) (place_cmp ([], 0) s.2) (zero_first s.1)
    (then_not_after (slice_cmp nat_cmp [] s.2.0) (nat_cmp 0 s.2.1) (none_first s.2.0) (zero_first s.2.1))

-- of two schemas of a text the first has no greater id
pub least_id : (k s : Schema) → k.0 ≡ s.0 → is_gt (schema_cmp k s) ≡ false → k.1 ≤ s.1
least_id k s same h =
    let ties : slice_cmp nat_cmp k.0 s.0 ≡ Equal = ap (slice_cmp nat_cmp k.0) (sym same) ∙ tied_itself nat_list_cmp_total k.0 in
    up_to k.1 s.1 (
    before_then (nat_cmp k.1 s.1) (place_cmp k.2 s.2)
    (sym (ap (λ o. is_gt (ordering_then (ordering_then o (nat_cmp k.1 s.1)) (place_cmp k.2 s.2))) ties) ∙ h))

-- where the first schema from the first of a text on is of another text, none is of that text
pub passed : (t : List ℕ) (k s : Schema) → ¬ (k.0 ≡ t)
    → is_gt (schema_cmp (t, 0, ([], 0)) k) ≡ false → s.0 ≡ t → is_gt (schema_cmp k s) ≡ false → ⊥
passed t k s apart from same before = by_order (slice_cmp nat_cmp t k.0) refl
  where
    from_t : is_gt (slice_cmp nat_cmp t k.0) ≡ false
    from_t =
        before_then (slice_cmp nat_cmp t k.0) (nat_cmp 0 k.1)
        (before_then (ordering_then (slice_cmp nat_cmp t k.0) (nat_cmp 0 k.1)) (place_cmp ([], 0) k.2) from)

    to_t : is_gt (slice_cmp nat_cmp k.0 t) ≡ false
    to_t =
        ap (λ x. is_gt (slice_cmp nat_cmp k.0 x)) (sym same)
        ∙ before_then (slice_cmp nat_cmp k.0 s.0) (nat_cmp k.1 s.1)
        (before_then (ordering_then (slice_cmp nat_cmp k.0 s.0) (nat_cmp k.1 s.1)) (place_cmp k.2 s.2) before)

    by_order : (o : Ordering) → slice_cmp nat_cmp t k.0 ≡ o → ⊥
    by_order Less is = false≢true (sym to_t ∙ ap is_gt (nat_list_cmp_total.antisymm k.0 t ∙ ap ordering_reverse is))
    by_order Equal is = apart (sym (slice_cmp-IsAntisymmetric nat_cmp-IsAntisymmetric t k.0 is))
    by_order Greater is = false≢true (sym from_t ∙ ap is_gt is)

module _ (m : BTreeMap Place Entry) (schemas : BTreeSet Schema)
    (ordered : IsOrdered place_cmp m) (placed : ArePlaced m) (listed : AreListed m schemas) where
  pub has_schema : (q : Place) (e : Entry) → entry_at m q ≡ Some e → contains schema_cmp schemas (schema_of e) ≡ true
  has_schema q e found =
      listed (schema_of e) ∙ ap (λ o. has_it o (schema_of e)) (ap (entry_at m) (own_place m placed q e found) ∙ found) ∙ has_own e

  -- no entry has the text, where no schema has
  pub id_of_none : (t : List ℕ) → ((s : Schema) → s.0 ≡ t → contains schema_cmp schemas s ≡ true → ⊥) → id_of (values_of m.entries) t ≡ None
  id_of_none t none =
      reduce_none _ _ (all_map (λ e. e.id) (λ _. ⊥) (filter (λ e. bytes_eq e.normal t) (values_of m.entries))
      (all_filter (λ e. bytes_eq e.normal t) (λ _. ⊥) (values_of m.entries)
      (all_map (λ (e : Place × Entry). e.1) (λ e. bytes_eq e.normal t ≡ true → ⊥) m.entries
      (all_found (λ q e. bytes_eq e.normal t ≡ true → ⊥) m.entries ordered
      (λ q e found same. none (schema_of e) ((bytes_eq-Decides e.normal t).0 same) (has_schema q e found))))))

  -- the id of the first schema of the text
  pub id_of_some : (t : List ℕ) (k : Schema) → contains schema_cmp schemas k ≡ true → k.0 ≡ t
      → ((s : Schema) → s.0 ≡ t → contains schema_cmp schemas s ≡ true → is_gt (schema_cmp k s) ≡ false)
      → id_of (values_of m.entries) t ≡ Some k.1
  id_of_some t k has of_text lower = by_entry (entry_at m k.2) refl (sym (listed k) ∙ has)
    where
      bound : (q : Place) (e : Entry) → entry_at m q ≡ Some e → bytes_eq e.normal t ≡ true → k.1 ≤ e.id
      bound q e found same =
          let text : e.normal ≡ t = (bytes_eq-Decides e.normal t).0 same in
          least_id k (schema_of e) (of_text ∙ sym text) (lower (schema_of e) text (has_schema q e found))

      by_entry : (o : Option Entry) → entry_at m k.2 ≡ o → has_it o k ≡ true → id_of (values_of m.entries) t ≡ Some k.1
      by_entry None none h = absurd (false≢true h)
      by_entry (Some e) found h =
          let own = had e k h in
          reduce_min k.1 _
          (all_map (λ e. e.id) (λ n. k.1 ≤ n) (filter (λ e. bytes_eq e.normal t) (values_of m.entries))
          (all_filter (λ e. bytes_eq e.normal t) (λ e. k.1 ≤ e.id) (values_of m.entries)
          (all_map (λ (e : Place × Entry). e.1) (λ e. bytes_eq e.normal t ≡ true → k.1 ≤ e.id) m.entries
          (all_found (λ q e. bytes_eq e.normal t ≡ true → k.1 ≤ e.id) m.entries ordered bound))))
          (subst (λ n. IsIn n (map (λ e. e.id) (filter (λ e. bytes_eq e.normal t) (values_of m.entries)))) own.1
          (in_map (λ e. e.id) e (filter (λ e. bytes_eq e.normal t) (values_of m.entries))
          (in_filter (λ e. bytes_eq e.normal t) e (values_of m.entries) ((bytes_eq-Decides e.normal t).1 (own.0 ∙ of_text))
          (in_values k.2 e m.entries found))))
