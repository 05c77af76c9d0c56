-- What is found by id and by subject.
use Rattle.std.proofs.Common.{option_map, ◌≡◌, ℕ, ◌+◌, ◌<◌, ◌≤◌, true, false, ◌==◌, List, [], ◌∷◌, map}
use Rattle.std.proofs.Common.{length, Option, Some, None, refl, sym, ap, subst, ◌∙◌, ◌⊎◌, inl, inr, arith}
use Rattle.std.proofs.lemmas.Bool.{false≢true}
use Rattle.std.proofs.lemmas.Bool.Decides.{nat_tests}
use Rattle.std.proofs.lemmas.Cmp.{tied_itself, nat_cmp_total, on_total, then_total}
use Rattle.std.proofs.lemmas.Slice.Eq.{bytes_eq-Decides}
use Rattle.std.specs.BTreeMap.{BTreeMap}
use Rattle.std.specs.BTreeSet.{BTreeSet, contains}
use Rattle.std.specs.Cmp.{IsTotalOrder}
use Rattle.std.specs.List.{filter, list_any}
use Rattle.std.specs.Map.{values_of}
use Rattle.std.specs.Option.{option_map_or}
use Rattle.std.specs.Ordering.{is_eq, is_lt, nat_cmp, ordering_then, ordering_reverse, eq_by_cmp}
use Rattle.std.specs.Prelude.{bytes_eq, IfSome, is_some}
use Rattle.std.specs.declared.cmp.Ordering.{Ordering}
use Rattle.std.specs.declared.cmp.Ordering.TheVariants.{Less, Equal, Greater}
use Rattle.std.specs.declared.string.String.{String}
use Rattle.reg_entries.specs.EntryOrder.{Place, place_cmp, place_of, naming_cmp}
use Rattle.reg_entries.specs.Index.{Name, name_cmp, name_of, entry_at, is_named, IsAt, IsIndexed, IsTop}
use Rattle.reg_entries.specs.Sought.{named, greatest_id, greatest_version}
use Rattle.reg_entries.specs.declared.entry.Entry.{Entry}
use Rattle.reg_entries.proofs.Chosen.{IsIn, all_filter, all_map, in_filter, in_map, reduce_none, reduce_greatest, reduce_max, IsUpTo}
use Rattle.reg_entries.proofs.Found.{all_found, in_values}
use Rattle.reg_entries.proofs.Topmost.{is_some_none}
use Rattle.reg_entries.proofs.Places.{place_cmp-total, name_cmp-total, name_cmp-ties, equal}

naming_cmp-total : IsTotalOrder naming_cmp
naming_cmp-total = then_total (on_total (λ e. e.offset) nat_cmp_total) (on_total place_of place_cmp-total)

up_to : (a b : ℕ) → is_lt (nat_cmp b a) ≡ false → a ≤ b
up_to a b h = grind (arith, nat_tests)

less : (a b : ℕ) → a < b → nat_cmp a b ≡ Less
less a b h = grind (arith, nat_tests)

below_one : (a b : ℕ) → nat_cmp a b ≡ Less → a < b
below_one a b h = grind (arith, nat_tests)

none_below_zero : (a : ℕ) → ¬ (nat_cmp a 0 ≡ Less)
none_below_zero a h = absurd (grind (arith, nat_tests))

-- what isn't before x is x, or comes after it
pub turned : {X : Type 0} (cmp : X → X → Ordering) → IsTotalOrder cmp
    → (x y : X) → is_lt (cmp x y) ≡ false → (cmp y x ≡ Less) ⊎ (cmp x y ≡ Equal)
turned cmp total x y h =
    elim (cmp x y) as (λ o. cmp x y ≡ o → is_lt o ≡ false → (cmp y x ≡ Less) ⊎ (cmp x y ≡ Equal)) [
      | Less ↦ λ is f. absurd (false≢true (sym f))
      | Equal ↦ λ is f. inr is
      | Greater ↦ λ is f. inl (total.antisymm y x ∙ ap ordering_reverse is)
    ] refl h

-- the name that a set of names has is that of the entry at its place
pub at_name : (m : BTreeMap Place Entry) (names : BTreeSet Name) → ((x : Name) → contains name_cmp names x ≡ is_named m x)
    → (x : Name) → contains name_cmp names x ≡ true → (e : Entry) → entry_at m x.2 ≡ Some e → name_of e ≡ x
at_name m names named x has e is =
    name_cmp-ties (name_of e) x
    (equal _ (sym (ap (λ o. option_map_or (λ e. eq_by_cmp name_cmp (name_of e) x) o false) is) ∙ sym (named x) ∙ has))

-- and there is one
pub some_at_name : (m : BTreeMap Place Entry) (names : BTreeSet Name) → ((x : Name) → contains name_cmp names x ≡ is_named m x)
    → (x : Name) → contains name_cmp names x ≡ true → ¬ (entry_at m x.2 ≡ None)
some_at_name m names named x has none =
    false≢true (sym (ap (λ o. option_map_or (λ e. eq_by_cmp name_cmp (name_of e) x) o false) none) ∙ sym (named x) ∙ has)

module _ {Y : Type 0} (m : BTreeMap Place Entry) (names : BTreeSet Name)
    (tops : BTreeMap (String Y) Place) (indexed : IsIndexed m names tops) where
  -- an entry that is found is at its own place
  own : (q : Place) (e : Entry) → entry_at m q ≡ Some e → place_of e ≡ q
  own q e found = (subst (λ o. IfSome o (IsAt q)) found (indexed.placed q)).0

  -- an entry that is found has its name in the set
  has_name : (q : Place) (e : Entry) → entry_at m q ≡ Some e → contains name_cmp names (name_of e) ≡ true
  has_name q e found =
      let here : entry_at m (place_of e) ≡ Some e = ap (entry_at m) (own q e found) ∙ found in
      indexed.named (name_of e) ∙ ap (λ o. option_map_or (λ f. eq_by_cmp name_cmp (name_of f) (name_of e)) o false) here
      ∙ ap is_eq (tied_itself name_cmp-total (name_of e))

  pub one_place : (q r : Place) (e f : Entry) → entry_at m q ≡ Some e → entry_at m r ≡ Some f → place_of e ≡ place_of f → e ≡ f
  one_place q r e f a b same =
      let k : Some e ≡ Some f = sym a ∙ ap (entry_at m) (sym (own q e a) ∙ same ∙ own r f b) ∙ b in
      inside k
    where
      inside : Some e ≡ Some f → e ≡ f
      inside k = cc

  number : (a b : ℕ) → (a == b) ≡ true → a ≡ b
  number a b h = grind arith

  itself : (a b : ℕ) → a ≡ b → (a == b) ≡ true
  itself a b h = grind arith

  -- no entry has the id, where no name does
  pub named_none : (id : ℕ) → ((x : Name) → x.0 ≡ id → contains name_cmp names x ≡ true → ⊥) → named (values_of m.entries) id ≡ None
  named_none id none =
      reduce_none _ _ (all_filter (λ e. e.id == id) (λ _. ⊥) (values_of m.entries)
      (all_map (λ (e : Place × Entry). e.1) (λ e. (e.id == id) ≡ true → ⊥) m.entries
      (all_found (λ q e. (e.id == id) ≡ true → ⊥) m.entries indexed.ordered
      (λ q e found same. none (name_of e) (number e.id id same) (has_name q e found)))))

  -- the entry of the last name with an id
  pub named_some : (id : ℕ) (k : Name) → contains name_cmp names k ≡ true → k.0 ≡ id
      → ((x : Name) → x.0 ≡ id → contains name_cmp names x ≡ true → is_lt (name_cmp k x) ≡ false)
      → entry_at m k.2 ≡ named (values_of m.entries) id
  named_some id k has of_id upper =
      elim (entry_at m k.2) as (λ o. entry_at m k.2 ≡ o → o ≡ named (values_of m.entries) id) [
        | None ↦ λ none. absurd (some_at_name m names indexed.named k has none)
        | Some e ↦ λ found. sym (chosen e found)
      ] refl
    where
      chosen : (e : Entry) → entry_at m k.2 ≡ Some e → named (values_of m.entries) id ≡ Some e
      chosen e found =
          let name : name_of e ≡ k = at_name m names indexed.named k has e found in
          let e_id : e.id ≡ id = ap (λ (x : Name). x.0) name ∙ of_id in
          reduce_greatest naming_cmp naming_cmp-total e _
          (all_filter (λ f. f.id == id) (IsUpTo naming_cmp naming_cmp-total e) (values_of m.entries)
          (all_map (λ (f : Place × Entry). f.1) (λ f. (f.id == id) ≡ true → IsUpTo naming_cmp naming_cmp-total e f) m.entries
          (all_found (λ q f. (f.id == id) ≡ true → IsUpTo naming_cmp naming_cmp-total e f) m.entries indexed.ordered
          (λ q f at same. up_to_e q f at name e_id (number f.id id same)))))
          (in_filter (λ f. f.id == id) e (values_of m.entries) (itself e.id id e_id) (in_values k.2 e m.entries found))
        where
          up_to_e : (q : Place) (f : Entry) → entry_at m q ≡ Some f → name_of e ≡ k
              → e.id ≡ id → f.id ≡ id → IsUpTo naming_cmp naming_cmp-total e f
          up_to_e q f at name e_id f_id =
              let before : is_lt (name_cmp (name_of e) (name_of f)) ≡ false =
              ap (λ x. is_lt (name_cmp x (name_of f))) name ∙ upper (name_of f) f_id (has_name q f at) in
              either (turned name_cmp name_cmp-total (name_of e) (name_of f) before)
            where
              ids : nat_cmp f.id e.id ≡ Equal
              ids = ap (nat_cmp f.id) (e_id ∙ sym f_id) ∙ tied_itself nat_cmp_total f.id

              -- of two names of one id the order is that in which it names
              one_id : name_cmp (name_of f) (name_of e) ≡ naming_cmp f e
              one_id = ap (λ o. ordering_then (ordering_then o (nat_cmp f.offset e.offset)) (place_cmp (place_of f) (place_of e))) ids

              either : (name_cmp (name_of f) (name_of e) ≡ Less) ⊎ (name_cmp (name_of e) (name_of f) ≡ Equal)
                  → IsUpTo naming_cmp naming_cmp-total e f
              either (inl less) = inr (sym one_id ∙ less)
              either (inr tie) =
                  inl (one_place q k.2 f e at found (ap (λ (x : Name). x.2) (sym (name_cmp-ties (name_of e) (name_of f) tie))))

  -- the last of all names has the greatest id
  pub greatest_id_some : (k : Name) (e : Entry) → contains name_cmp names k ≡ true → entry_at m k.2 ≡ Some e
      → ((x : Name) → contains name_cmp names x ≡ true → is_lt (name_cmp k x) ≡ false)
      → Some e.id ≡ greatest_id (values_of m.entries)
  greatest_id_some k e has found upper =
      sym (reduce_max e.id _
      (all_map (λ e. e.id) (λ n. n ≤ e.id) (values_of m.entries)
      (all_map (λ (f : Place × Entry). f.1) (λ f. f.id ≤ e.id) m.entries
      (all_found (λ q f. f.id ≤ e.id) m.entries indexed.ordered bound)))
      (in_map (λ e. e.id) e (values_of m.entries) (in_values k.2 e m.entries found)))
    where
      name : name_of e ≡ k
      name = at_name m names indexed.named k has e found

      first_not_less : (a b : Ordering) (c : Ordering) → is_lt (ordering_then (ordering_then a b) c) ≡ false → is_lt a ≡ false
      first_not_less Less b c h = h
      first_not_less Equal b c h = refl
      first_not_less Greater b c h = refl

      bound : (q : Place) (f : Entry) → entry_at m q ≡ Some f → f.id ≤ e.id
      bound q f at =
          let before : is_lt (name_cmp (name_of e) (name_of f)) ≡ false =
          ap (λ x. is_lt (name_cmp x (name_of f))) name ∙ upper (name_of f) (has_name q f at) in
          up_to f.id e.id (first_not_less (nat_cmp e.id f.id) (nat_cmp e.offset f.offset) (place_cmp (place_of e) (place_of f)) before)

  -- where there is no name, there is no entry
  pub greatest_id_none : ((x : Name) → contains name_cmp names x ≡ true → ⊥) → greatest_id (values_of m.entries) ≡ None
  greatest_id_none none =
      reduce_none _ _ (all_map (λ e. e.id) (λ _. ⊥) (values_of m.entries)
      (all_map (λ (f : Place × Entry). f.1) (λ _. ⊥) m.entries
      (all_found (λ q f. ⊥) m.entries indexed.ordered (λ q f at. none (name_of f) (has_name q f at)))))

  -- the greatest version of a subject
  pub greatest_version_is : (s : List ℕ) (o : Option Place) → IsTop m s o
      → option_map (λ p. p.1) o ≡ greatest_version (values_of m.entries) s
  greatest_version_is s None h =
      sym (reduce_none _ _ (all_map (λ e. e.version) (λ _. ⊥) (filter (λ e. bytes_eq e.subject s) (values_of m.entries))
      (all_filter (λ e. bytes_eq e.subject s) (λ _. ⊥) (values_of m.entries)
      (all_map (λ (e : Place × Entry). e.1) (λ e. bytes_eq e.subject s ≡ true → ⊥) m.entries
      (all_found (λ q e. bytes_eq e.subject s ≡ true → ⊥) m.entries indexed.ordered
      (λ q e found same. is_some_none _ (h e.version) (ap is_some (here q e found same))))))))
    where
      here : (q : Place) (e : Entry) → entry_at m q ≡ Some e → bytes_eq e.subject s ≡ true → entry_at m (s, e.version) ≡ Some e
      here q e found same =
          ap (λ t. entry_at m (t, e.version)) (sym ((bytes_eq-Decides e.subject s).0 same)) ∙ ap (entry_at m) (own q e found) ∙ found
  greatest_version_is s (Some p) h = by_entry (entry_at m p) refl
    where
      here : (q : Place) (e : Entry) → entry_at m q ≡ Some e → bytes_eq e.subject s ≡ true → entry_at m (s, e.version) ≡ Some e
      here q e found same =
          ap (λ t. entry_at m (t, e.version)) (sym ((bytes_eq-Decides e.subject s).0 same)) ∙ ap (entry_at m) (own q e found) ∙ found

      by_entry : (o : Option Entry) → entry_at m p ≡ o → Some p.1 ≡ greatest_version (values_of m.entries) s
      by_entry None none = absurd (is_some_none _ none h.1)
      by_entry (Some e) found =
          let place : place_of e ≡ p = own p e found in
          let version : e.version ≡ p.1 = ap (λ (q : Place). q.1) place in
          sym (reduce_max p.1 _
          (all_map (λ e. e.version) (λ n. n ≤ p.1) (filter (λ e. bytes_eq e.subject s) (values_of m.entries))
          (all_filter (λ e. bytes_eq e.subject s) (λ e. e.version ≤ p.1) (values_of m.entries)
          (all_map (λ (e : Place × Entry). e.1) (λ e. bytes_eq e.subject s ≡ true → e.version ≤ p.1) m.entries
          (all_found (λ q e. bytes_eq e.subject s ≡ true → e.version ≤ p.1) m.entries indexed.ordered
          (λ q f at same. h.2 f.version (ap is_some (here q f at same)))))))
          (subst (λ n. IsIn n (map (λ e. e.version) (filter (λ e. bytes_eq e.subject s) (values_of m.entries)))) version
          (in_map (λ e. e.version) e (filter (λ e. bytes_eq e.subject s) (values_of m.entries))
          (in_filter (λ e. bytes_eq e.subject s) e (values_of m.entries)
          ((bytes_eq-Decides e.subject s).1 (ap (λ (q : Place). q.0) place ∙ h.0))
          (in_values p e m.entries found)))))

-- what is before the first name of the next id has an id up to this one
pub before_bound : (k : Name) (n : ℕ) → name_cmp k (n, 0, ([], 0)) ≡ Less → k.0 < n
before_bound k n h = by_id (nat_cmp k.0 n) refl h
  where
    never_place : (s : List ℕ) (v : ℕ) → ¬ (place_cmp (s, v) ([], 0) ≡ Less)
    never_place [] v h = none_below_zero v h
    never_place (x ∷ xs) v h = absurd (cc)

    by_offset : (o : Ordering) → nat_cmp k.1 0 ≡ o → ordering_then o (place_cmp k.2 ([], 0)) ≡ Less → ⊥
    by_offset Less is h = none_below_zero k.1 is
    by_offset Equal is h = never_place k.2.0 k.2.1 h
    by_offset Greater is h = absurd (cc)

    by_id : (o : Ordering) → nat_cmp k.0 n ≡ o → ordering_then (ordering_then o (nat_cmp k.1 0)) (place_cmp k.2 ([], 0)) ≡ Less → k.0 < n
    by_id Less is h = below_one k.0 n is
    by_id Equal is h = absurd (by_offset (nat_cmp k.1 0) refl h)
    by_id Greater is h = absurd (cc)

-- a name of an id is before it
pub within_bound : (k : Name) (id : ℕ) → k.0 ≡ id → name_cmp k (id + 1, 0, ([], 0)) ≡ Less
within_bound k id same = ap (λ o. ordering_then (ordering_then o (nat_cmp k.1 0)) (place_cmp k.2 ([], 0))) (less k.0 (id + 1) (omega arith))

-- a name of a smaller id is before all names of a greater one
pub smaller_id : (k x : Name) → k.0 < x.0 → name_cmp k x ≡ Less
smaller_id k x h = ap (λ o. ordering_then (ordering_then o (nat_cmp k.1 x.1)) (place_cmp k.2 x.2)) (less k.0 x.0 h)

-- a set with no name has none
pub no_name : (names : BTreeSet Name) → (0 < length names.keys → false ≡ true) → (x : Name) → contains name_cmp names x ≡ true → ⊥
no_name names h x has = none names.keys h has
  where
    none : (xs : List Name) → (0 < length xs → false ≡ true) → list_any (λ k. is_eq (name_cmp x k)) xs ≡ true → ⊥
    none [] h has = false≢true has
    none (y ∷ ys) h has = false≢true (h (omega arith))

-- where the last name up to an id is of a smaller one, no name is of the id
pub passed_over : (k x : Name) (id : ℕ) → ¬ (k.0 ≡ id)
    → name_cmp k (id + 1, 0, ([], 0)) ≡ Less → x.0 ≡ id → is_lt (name_cmp k x) ≡ false → ⊥
passed_over k x id apart before same upper =
    let below : k.0 < id + 1 = before_bound k (id + 1) before in
    let smaller : k.0 < x.0 = strictly k.0 id x.0 apart below same in
    false≢true (sym upper ∙ ap is_lt (smaller_id k x smaller))
  where
    strictly : (a b c : ℕ) → ¬ (a ≡ b) → a < b + 1 → c ≡ b → a < c
    strictly a b c apart h same = omega (arith, apart)
