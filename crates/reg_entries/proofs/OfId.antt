-- The entries of an id, by its names, in the order of places.
use Rattle.std.proofs.Common.{◌≡◌, ◌==◌, ◌+◌, ◌<◌, ℕ, true, false, inl, inr, ⊎_elim, List, [], ◌∷◌, ◌++◌, length, get_or}
use Rattle.std.proofs.Common.{map, Option, Some, None, append-nil, zero, suc, refl, sym, ap, subst, ◌∙◌, arith}
use Rattle.std.proofs.lemmas.Bool.{false≢true}
use Rattle.std.proofs.lemmas.Cmp.{tied_itself, on_total}
use Rattle.std.proofs.lemmas.List.{length-map}
use Rattle.std.proofs.lemmas.List.Elements.{All-from_recursion, filter_map-append, recursion_from_All}
use Rattle.std.proofs.lemmas.List.Kept.{IsStrictlySortedBy-filter}
use Rattle.std.proofs.lemmas.List.Sorted.{All-permutation, IsPermutation-sym}
use Rattle.std.proofs.lemmas.Map.Keys.{IsDistinct-IsPermutation, apart_from_distinct, sorted_from_all_adjacent}
use Rattle.std.proofs.lemmas.Option.{same_Some}
use Rattle.std.specs.BTreeMap as tree
use Rattle.std.specs.BTreeMap.{BTreeMap, is_at}
use Rattle.std.specs.BTreeSet.{BTreeSet, IsOrdered, contains, keys_between}
use Rattle.std.specs.Cmp.{IsTotalOrder, eq_by_cmp_equiv}
use Rattle.std.specs.List.{cons_option, filter_map, AllByRecursion, IsDistinct}
use Rattle.std.specs.List.Sorted.{IsPermutation, IsSortedBy, IsStrictlySortedBy}
use Rattle.std.specs.Map.{values_of}
use Rattle.std.specs.Ordering.{eq_by_cmp, is_eq, is_lt, on, ordering_reverse}
use Rattle.std.specs.declared.cmp.Ordering.TheVariants.{Less, Equal}
use Rattle.std.specs.declared.cmp.Ordering.{Ordering}
use Rattle.std.specs.declared.ops.Bound.TheVariants.{Included, Excluded}
use Rattle.reg_entries.specs.EntryOrder.{Place, place_cmp, place_of}
use Rattle.reg_entries.specs.Index.{Name, name_cmp, name_of, entry_at, ArePlaced, AreNamed}
use Rattle.reg_entries.specs.Sought.{with_id}
use Rattle.reg_entries.specs.declared.entry.Entry.{Entry}
use Rattle.reg_entries.proofs.Chosen.{IsIn, all_filter, in_filter}
use Rattle.reg_entries.proofs.Doubled.{all_in, any_in, has_its_name, id_within, key_in, of_id, out_of_filter, place_of_value, within_id}
use Rattle.reg_entries.proofs.Found.{at_places, in_values, values_in_order}
use Rattle.reg_entries.proofs.Least.{all_from}
use Rattle.reg_entries.proofs.Listed.{by_bool, own_place}
use Rattle.reg_entries.proofs.Places.{name_cmp-ties, name_cmp-total, place_cmp-total, same_place}
use Rattle.reg_entries.proofs.Queries.{at_name, turned}

-- of entries, by place
abbrev pub by_place : Entry → Entry → Ordering
by_place = on place_of place_cmp

pub by_place-total : IsTotalOrder by_place
by_place-total = on_total place_of place_cmp-total

less_apart : {X : Type 0} (cmp : X → X → Ordering) → IsTotalOrder cmp → (x y : X) → cmp x y ≡ Less → x ≡ y → ⊥
less_apart cmp total x y less same = absurd (tie_less (sym (tied_itself total x) ∙ ap (cmp x) same ∙ less))
  where
    tie_less : ◌≡◌ {A = Ordering} Equal Less → ⊥
    tie_less h = absurd (cc)

one_way : {X : Type 0} (cmp : X → X → Ordering) → IsTotalOrder cmp → (x y : X) → cmp x y ≡ Less → cmp y x ≡ Less → ⊥
one_way cmp total x y less back = false≢true (ap is_lt (sym (total.antisymm x y ∙ ap ordering_reverse back)) ∙ ap is_lt less)

module _ {X : Type 0} (cmp : X → X → Ordering) (total : IsTotalOrder cmp) where
  -- two lists in strict order that have the same items are one
  same_lists : (xs ys : List X) → IsStrictlySortedBy cmp xs → IsStrictlySortedBy cmp ys
      → ((x : X) → IsIn x xs → IsIn x ys) → ((x : X) → IsIn x ys → IsIn x xs) → xs ≡ ys
  unfolding IsStrictlySortedBy
  same_lists [] [] s t to back = refl
  same_lists [] (y ∷ ys) s t to back = absurd (back y (inl refl))
  same_lists (x ∷ xs) [] s t to back = absurd (to x (inl refl))
  same_lists (x ∷ xs) (y ∷ ys) s t to back =
      λ i. heads i ∷ same_lists xs ys s.1 t.1 (λ z k. past_head z k (to z (inr k))) (λ z k. head_past z k (back z (inr k))) i
    where
      before : (x : X) (xs : List X) → AllByRecursion (λ y. cmp x y ≡ Less) xs → (y : X) → IsIn y xs → cmp x y ≡ Less
      before x xs h y i = all_in (λ y. cmp x y ≡ Less) y xs h i

      heads : x ≡ y
      heads =
          ⊎_elim (λ same. sym same)
          (λ i. ⊎_elim (λ same. same) (λ j. absurd (one_way cmp total x y (before x xs s.0 y j) (before y ys t.0 x i))) (back y (inl refl)))
          (to x (inl refl))

      past_head : (z : X) → IsIn z xs → IsIn z (y ∷ ys) → IsIn z ys
      past_head z k (inl same) = absurd (less_apart cmp total x z (before x xs s.0 z k) (heads ∙ same))
      past_head z k (inr i) = i

      head_past : (z : X) → IsIn z ys → IsIn z (x ∷ xs) → IsIn z xs
      head_past z k (inl same) = absurd (less_apart cmp total y z (before y ys t.0 z k) (sym heads ∙ same))
      head_past z k (inr i) = i

  -- items in order of which no two tie are in strict order
  strictly : {Y : Type 0} (f : Y → X) (ys : List Y) → IsSortedBy (λ x y. is_lt (cmp (f x) (f y))) ys
      → IsDistinct (eq_by_cmp cmp) (map f ys) → IsStrictlySortedBy cmp (map f ys)
  unfolding IsStrictlySortedBy
  strictly f [] s d = tt
  strictly {Y} f (y ∷ ys) s d = sorted_from_all_adjacent total (map f (y ∷ ys)) (f y) next
    where
      at : (zs : List Y) (k : ℕ) → get_or (map f zs) k (f y) ≡ f (get_or zs k y)
      at [] k = refl
      at (z ∷ zs) zero = refl
      at (z ∷ zs) (suc k) = at zs k

      rise : (a b : X) → is_lt (cmp b a) ≡ false → eq_by_cmp cmp a b ≡ false → cmp a b ≡ Less
      rise a b h apart =
          ⊎_elim (λ less. less) (λ tie. absurd (false≢true (sym apart ∙ ap is_eq (total.antisymm a b ∙ ap ordering_reverse tie))))
          (turned cmp total b a h)

      next : (k : ℕ) → k + 1 < length (map f (y ∷ ys))
          → cmp (get_or (map f (y ∷ ys)) k (f y)) (get_or (map f (y ∷ ys)) (k + 1) (f y)) ≡ Less
      next k within =
          let all : List Y = y ∷ ys in
          rise (get_or (map f all) k (f y)) (get_or (map f all) (k + 1) (f y))
          (ap (λ b. is_lt (cmp b (get_or (map f all) k (f y)))) (at all (k + 1))
          ∙ ap (λ a. is_lt (cmp (f (get_or all (k + 1) y)) a)) (at all k)
          ∙ s k y (omega arith) (subst (λ n. k + 1 < n) (length-map all f) within))
          (apart_from_distinct (eq_by_cmp cmp) (map f all) k (k + 1) (f y) d (omega arith) within)

module _ {X Y : Type 0} (h : X → Option Y) where
  in_filter_map : (x : X) (y : Y) (xs : List X) → h x ≡ Some y → IsIn x xs → IsIn y (filter_map h xs)
  in_filter_map x y [] is i = absurd i
  in_filter_map x y (z ∷ zs) is (inl same) = subst (λ o. IsIn y (cons_option o (filter_map h zs))) (sym (ap h same ∙ is)) (inl refl)
  in_filter_map x y (z ∷ zs) is (inr i) = later (h z) (in_filter_map x y zs is i)
    where
      later : (o : Option Y) → IsIn y (filter_map h zs) → IsIn y (cons_option o (filter_map h zs))
      later None j = j
      later (Some z) j = inr j

  all_filter_map : (P : X → Type 0) (Q : Y → Type 0) → ((x : X) (y : Y) → P x → h x ≡ Some y → Q y)
      → (xs : List X) → AllByRecursion P xs → AllByRecursion Q (filter_map h xs)
  all_filter_map P Q f [] p = tt
  all_filter_map P Q f (x ∷ xs) p = with_first (h x) refl (all_filter_map P Q f xs p.1)
    where
      with_first : (o : Option Y) → h x ≡ o → AllByRecursion Q (filter_map h xs) → AllByRecursion Q (cons_option o (filter_map h xs))
      with_first None is rest = rest
      with_first (Some y) is rest = (f x y p.0 is, rest)

  -- one more item, where h gives nothing of it
  pub filter_map_none : (xs : List X) (x : X) (ys : List Y) → ys ≡ filter_map h xs → h x ≡ None → ys ≡ filter_map h (xs ++ x ∷ [])
  filter_map_none xs x ys so_far is =
      so_far
      ∙ sym (append-nil (filter_map h xs))
      ∙ sym (ap (λ o. filter_map h xs ++ cons_option o []) is)
      ∙ sym (filter_map-append h xs (x ∷ []))

  -- and where it gives something
  pub filter_map_some : (xs : List X) (x : X) (ys : List Y) (y : Y)
      → ys ≡ filter_map h xs → h x ≡ Some y → ys ++ y ∷ [] ≡ filter_map h (xs ++ x ∷ [])
  filter_map_some xs x ys y so_far is =
      ap (λ ys. ys ++ y ∷ []) so_far ∙ sym (ap (λ o. filter_map h xs ++ cons_option o []) is) ∙ sym (filter_map-append h xs (x ∷ []))

module _ (m : BTreeMap Place Entry) (names : BTreeSet Name) (ordered : tree.IsOrdered place_cmp m)
    (placed : ArePlaced m) (names_are : AreNamed m names) where
  abbrev of_name : Name → Option Entry
  of_name k = entry_at m k.2

  abbrev Has : Name → Type 0
  Has k = contains name_cmp names k ≡ true

  -- what names name are entries at places of their own
  distinct_named : (ks : List Name) → AllByRecursion Has ks → IsStrictlySortedBy name_cmp ks
      → IsDistinct (eq_by_cmp by_place) (filter_map of_name ks)
  unfolding IsStrictlySortedBy IsDistinct
  distinct_named [] has s = tt
  distinct_named (k ∷ ks) has s = with_first (entry_at m k.2) refl (distinct_named ks has.1 s.1)
    where
      both : (j : Name) → name_cmp k j ≡ Less → Has j → (e f : Entry)
          → entry_at m k.2 ≡ Some e → entry_at m j.2 ≡ Some f → eq_by_cmp by_place e f ≡ false
      both j before has_j e f at_k at_j =
          by_bool (eq_by_cmp by_place e f)
          (λ tie. let one : name_of e ≡ k = at_name m names names_are k has.0 e at_k in
          let other : name_of f ≡ j = at_name m names names_are j has_j f at_j in
          let place : k.2 ≡ j.2 =
          ap (λ (x : Name). x.2) (sym one) ∙ same_place (place_of e) (place_of f) tie ∙ ap (λ (x : Name). x.2) other in
          let same : e ≡ f = same_Some e f (sym at_k ∙ ap (entry_at m) place ∙ at_j) in
          absurd (less_apart name_cmp name_cmp-total k j before (sym one ∙ ap name_of same ∙ other)))
          (λ apart. apart)

      with_first : (o : Option Entry) → entry_at m k.2 ≡ o → IsDistinct (eq_by_cmp by_place) (filter_map of_name ks)
          → IsDistinct (eq_by_cmp by_place) (cons_option o (filter_map of_name ks))
      with_first None is rest = rest
      with_first (Some e) is rest = (
        all_filter_map of_name (λ j. (name_cmp k j ≡ Less) × Has j) (λ f. eq_by_cmp by_place e f ≡ false)
            (λ j f h at. both j h.0 h.1 e f is at) ks (zipped ks s.0 has.1),
        rest,
      )
        where
          zipped : (js : List Name) → AllByRecursion (λ j. name_cmp k j ≡ Less) js
              → AllByRecursion Has js → AllByRecursion (λ j. (name_cmp k j ≡ Less) × Has j) js
          zipped [] p q = tt
          zipped (j ∷ js) p q = ((p.0, q.0), zipped js p.1 q.1)

  module _ (id : ℕ) where
    abbrev of_the_id : List Name
    of_the_id = keys_between name_cmp (Included (id, 0, ([], 0))) (Excluded (id + 1, 0, ([], 0))) names

    has_all : AllByRecursion (λ k. Has k × (k.0 ≡ id)) of_the_id
    has_all =
        all_filter (of_id id) (λ k. Has k × (k.0 ≡ id)) names.keys
        (all_from (λ k. of_id id k ≡ true → Has k × (k.0 ≡ id)) names.keys
        (λ k i within. (any_in (is_at (name_cmp k)) k names.keys (ap is_eq (tied_itself name_cmp-total k)) i, id_within k id within)))

    -- what the names of an id name is an entry with it
    to_entry : AllByRecursion (λ e. IsIn e (with_id (values_of m.entries) id)) (filter_map of_name of_the_id)
    to_entry =
        all_filter_map of_name (λ k. Has k × (k.0 ≡ id)) (λ e. IsIn e (with_id (values_of m.entries) id))
        (λ k e h at.
        in_filter (λ e. e.id == id) e (values_of m.entries)
        (itself e.id id (ap (λ (x : Name). x.0) (at_name m names names_are k h.0 e at) ∙ h.1)) (in_values k.2 e m.entries at))
        of_the_id has_all
      where
        itself : (a b : ℕ) → a ≡ b → (a == b) ≡ true
        itself a b h = grind arith

    -- and each entry with the id is named so
    from_entry : (e : Entry) → IsIn e (with_id (values_of m.entries) id) → IsIn e (filter_map of_name of_the_id)
    from_entry e i =
        let own = out_of_filter (λ e. e.id == id) e (values_of m.entries) i in
        let at = place_of_value m ordered e own.1 in
        in_filter_map of_name (name_of e) e of_the_id (ap (entry_at m) (own_place m placed at.0 e at.1) ∙ at.1)
        (in_filter (of_id id) (name_of e) names.keys (within_id (name_of e) id (number e.id id own.0))
        (key_in name_cmp name_cmp-ties names (name_of e) (has_its_name m names ordered placed names_are at.0 e at.1)))
      where
        number : (a b : ℕ) → (a == b) ≡ true → a ≡ b
        number a b h = grind arith

    -- what the names of the id name, once it is in the order of places
    pub with_id_is : {Y : Type 0} (f : Y → Entry) (ys : List Y) → IsOrdered name_cmp names
        → IsPermutation (filter_map of_name of_the_id) (map f ys) → IsSortedBy (λ x y. is_lt (by_place (f x) (f y))) ys
        → map f ys ≡ with_id (values_of m.entries) id
    with_id_is f ys keys moved sorted =
        same_lists by_place by_place-total (map f ys) (with_id (values_of m.entries) id)
        (strictly by_place by_place-total f ys sorted
        (IsDistinct-IsPermutation (eq_by_cmp by_place) (λ x y. (eq_by_cmp_equiv by_place-total).symm x y)
        (filter_map of_name of_the_id) (map f ys) moved
        (distinct_named of_the_id (firsts of_the_id has_all) (IsStrictlySortedBy-filter name_cmp (of_id id) names.keys keys))))
        (IsStrictlySortedBy-filter by_place (λ e. e.id == id) (values_of m.entries)
        (values_in_order m.entries (at_places m ordered placed) ordered))
        (λ e i. moved_all (λ e. IsIn e (with_id (values_of m.entries) id)) (filter_map of_name of_the_id) (map f ys) moved to_entry e i)
        (λ e i.
        moved_all (λ e. IsIn e (map f ys)) (map f ys) (filter_map of_name of_the_id)
        (IsPermutation-sym (filter_map of_name of_the_id) (map f ys) moved)
        (all_from (λ e. IsIn e (map f ys)) (map f ys) (λ e i. i)) e (from_entry e i))
      where
        firsts : (ks : List Name) → AllByRecursion (λ k. Has k × (k.0 ≡ id)) ks → AllByRecursion Has ks
        firsts [] h = tt
        firsts (k ∷ ks) h = (h.0.0, firsts ks h.1)

        moved_all : (P : Entry → Type 0) (xs zs : List Entry) → IsPermutation xs zs → AllByRecursion P xs → (e : Entry) → IsIn e zs → P e
        moved_all P xs zs moved h e i =
            all_in P e zs (recursion_from_All P zs (All-permutation P xs zs moved (All-from_recursion P xs h))) i
