-- The entries as they are shown: what is asked of them that no soft delete changes.
use Rattle.std.proofs.Common.{◌≡◌, ℕ, Bool, true, false, not, ◌&&◌, ◌||◌, ◌==◌, T, cond, List, []}
use Rattle.std.proofs.Common.{◌∷◌, map, max, min, Some, option_map, refl, sym, ap, subst, ◌∙◌}
use Rattle.std.specs.BTreeMap.{BTreeMap}
use Rattle.std.specs.FinMap as finmap
use Rattle.std.specs.FinMap.Entries.{below_all, find, is_sorted}
use Rattle.std.specs.List.{filter, list_any, reduce}
use Rattle.std.specs.Ordering.{eq_by_cmp, is_lt}
use Rattle.std.specs.Prelude.{bytes_eq}
use Rattle.std.specs.declared.string.String.{String}
use Rattle.reg_entries.specs.Covered.{shown, shown_all}
use Rattle.reg_entries.specs.EntryOrder.{Place, place_cmp}
use Rattle.reg_entries.specs.Sought as sought
use Rattle.reg_entries.specs.declared.entry.Entry.{Entry}
use Rattle.reg_entries.specs.declared.soft_delete.SoftDelete.{SoftDelete}
use Rattle.reg_fold.proofs.Placed.{place_cmp-ties, place_cmp-total}

map_map : {X Y Z : Type 0} (f : X → Y) (g : Y → Z) (xs : List X) → map g (map f xs) ≡ map (λ x. g (f x)) xs
map_map f g [] = refl
map_map f g (x ∷ xs) = ap (λ ys. g (f x) ∷ ys) (map_map f g xs)

filter_map : {X Y : Type 0} (f : X → Y) (p : Y → Bool) (xs : List X) → filter p (map f xs) ≡ map f (filter (λ x. p (f x)) xs)
filter_map f p [] = refl
filter_map {X} {Y} f p (x ∷ xs) =
    elim (p (f x)) as (λ b.
    cond b (f x ∷ filter p (map f xs)) (filter p (map f xs))
    ≡ map f (cond b (x ∷ filter (λ x. p (f x)) xs) (filter (λ x. p (f x)) xs))) [
      | true ↦ ap (λ ys. f x ∷ ys) (filter_map f p xs)
      | false ↦ filter_map f p xs
    ]

any_map : {X Y : Type 0} (f : X → Y) (p : Y → Bool) (xs : List X) → list_any p (map f xs) ≡ list_any (λ x. p (f x)) xs
any_map f p [] = refl
any_map f p (x ∷ xs) = ap (λ b. p (f x) || b) (any_map f p xs)

-- a map that has at each place what another has there, by a function
module _ (f : Entry → Entry) where
  abbrev by : List (Place × Entry) → List (Place × Entry)
  by es = map (λ (e : Place × Entry). (e.0, f e.1)) es

  below_by : (p : Place) (es : List (Place × Entry)) → below_all place_cmp p (by es) ≡ below_all place_cmp p es
  below_by p [] = refl
  below_by p (e ∷ es) = ap (λ b. is_lt (place_cmp p e.0) && b) (below_by p es)

  sorted_by : (es : List (Place × Entry)) → is_sorted place_cmp (by es) ≡ is_sorted place_cmp es
  sorted_by [] = refl
  sorted_by (e ∷ es) = λ i. below_by e.0 es i && sorted_by es i

  find_by : (q : Place) (es : List (Place × Entry)) → find place_cmp q (by es) ≡ option_map f (find place_cmp q es)
  find_by q [] = refl
  find_by q (e ∷ es) =
      elim (eq_by_cmp place_cmp q e.0) as (λ b.
      cond b (Some (f e.1)) (find place_cmp q (by es)) ≡ option_map f (cond b (Some e.1) (find place_cmp q es))) [
        | true ↦ refl
        | false ↦ find_by q es
      ]

  pub values_by : (m n : finmap.FinMap place_cmp Entry)
      → ((p : Place) → finmap.get n p ≡ option_map f (finmap.get m p)) → map f (finmap.values m) ≡ finmap.values n
  values_by m n has =
      let es = by (finmap.entries m) in
      let s : T (is_sorted place_cmp es) = subst T (sym (sorted_by (finmap.entries m))) (finmap.entries_sorted m) in
      let same : n ≡ finmap.from_sorted es =
      finmap.same_map place_cmp-total place_cmp-ties n (finmap.from_sorted es) (λ q.
      has q
      ∙ ap (option_map f) (finmap.get-entries m q)
      ∙ sym (find_by q (finmap.entries m))
      ∙ sym (finmap.get-from_sorted place_cmp es q s))
      in
      let entries_are : finmap.entries n ≡ es = ap finmap.entries same ∙ finmap.entries-from_sorted place_cmp es s in
      map_map (λ (e : Place × Entry). e.1) f (finmap.entries m)
      ∙ sym (map_map (λ (e : Place × Entry). (e.0, f e.1)) (λ (e : Place × Entry). e.1) (finmap.entries m))
      ∙ ap (map (λ (e : Place × Entry). e.1)) (sym entries_are)

module _ {Y : Type 0} (deletes : BTreeMap (String Y) SoftDelete) (es : List Entry) where
  pub id_of-shown : (normal : List ℕ) → sought.id_of es normal ≡ sought.id_of (shown_all deletes es) normal
  id_of-shown normal =
      let same = λ (e : Entry). bytes_eq e.normal normal in
      sym (ap (λ (fs : List Entry). reduce min (map (λ e. e.id) fs)) (filter_map (shown deletes) same es)
      ∙ ap (reduce min) (map_map (shown deletes) (λ e. e.id) (filter same es)))

  pub greatest_id-shown : sought.greatest_id es ≡ sought.greatest_id (shown_all deletes es)
  greatest_id-shown = sym (ap (reduce max) (map_map (shown deletes) (λ e. e.id) es))

  pub greatest_version-shown : (s : List ℕ) → sought.greatest_version es s ≡ sought.greatest_version (shown_all deletes es) s
  greatest_version-shown s =
      let same = λ (e : Entry). bytes_eq e.subject s in
      sym (ap (λ (fs : List Entry). reduce max (map (λ e. e.version) fs)) (filter_map (shown deletes) same es)
      ∙ ap (reduce max) (map_map (shown deletes) (λ e. e.version) (filter same es)))

  shares-shown : (e : Entry) → sought.shares_its_id (shown_all deletes es) e ≡ sought.shares_its_id es e
  shares-shown e = any_map (shown deletes) (λ o. o.id == e.id && not (bytes_eq o.normal e.normal)) es

  pub two_schemas-shown : sought.two_schemas es ≡ sought.two_schemas (shown_all deletes es)
  two_schemas-shown =
      let shares = sought.shares_its_id es in
      sym (ap (λ (p : Entry → Bool). reduce min (map (λ e. e.id) (filter p (shown_all deletes es)))) (λ i e. shares-shown e i)
      ∙ ap (λ (fs : List Entry). reduce min (map (λ e. e.id) fs)) (filter_map (shown deletes) shares es)
      ∙ ap (reduce min) (map_map (shown deletes) (λ e. e.id) (filter shares es)))
