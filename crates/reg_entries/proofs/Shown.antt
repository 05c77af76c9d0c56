-- Entries under the soft deletes of their subjects: what is asked of them is asked of a map that has them.
use Rattle.std.proofs.Common.{◌≡◌, ℕ, Bool, true, false, cond, not, ◌||◌, ◌==◌, List, [], ◌∷◌, map}
use Rattle.std.proofs.Common.{Option, Some, None, option_map, reverse, refl, sym, ap, subst, ◌∙◌}
use Rattle.std.proofs.lemmas.Slice.Eq.{bytes_eq-Decides}
use Rattle.std.specs.BTreeMap.{BTreeMap, IsOrdered, get_by_text, is_at}
use Rattle.std.specs.BTreeMap.Range.{entries_between, range_contains}
use Rattle.std.specs.List.{find, fold, list_any, reduce}
use Rattle.std.specs.List.Sorted.{IsStrictlySortedBy}
use Rattle.std.specs.Map.{keys_of, values_of, lookup}
use Rattle.std.specs.Option.{option_map_or}
use Rattle.std.specs.Ordering.{is_lt, ord_max}
use Rattle.std.specs.Prelude.{bytes_eq, is_some, IfSome}
use Rattle.std.specs.declared.ops.Bound.{Bound}
use Rattle.std.specs.declared.ops.Bound.TheVariants.{Included, Unbounded}
use Rattle.std.proofs.lemmas.Map.Entries.{option_filter}
use Rattle.std.specs.declared.string.String.{String}
use Rattle.reg_entries.specs.Covered.{shown, shown_all, under}
use Rattle.reg_entries.specs.EntryOrder.{IsInOrder, Place, naming_cmp, place_cmp}
use Rattle.reg_entries.specs.Index.{entry_at, ArePlaced, IsAt, IsTop}
use Rattle.reg_entries.specs.Sought.{counts, has_live, latest, named, of_subject, of_version, with_id}
use Rattle.reg_entries.specs.declared.entry.Entry.{Entry}
use Rattle.reg_entries.specs.declared.soft_delete.SoftDelete.{SoftDelete}
use Rattle.reg_entries.proofs.Found.{AreFoundAtPlaces, all_at_places, found_at, map_filter, values_in_order}
use Rattle.reg_entries.proofs.Latest.{latest_is, map-reverse, of_version_is}
use Rattle.reg_entries.proofs.Live.{IsTopOf, is_of, live_is, none_live, stops}

module _ {Y : Type 0} (deletes : BTreeMap (String Y) SoftDelete) where
  -- of an entry of the subject the last delete is the subject's
  pub under_own : (s : List ℕ) (e : Entry) → bytes_eq e.subject s ≡ true → under (get_by_text deletes s) e ≡ shown deletes e
  under_own s e h = ap (λ t. under (get_by_text deletes t) e) (sym ((bytes_eq-Decides e.subject s).0 h))

  -- the entries of a subject, under its last delete
  pub under_subject : (s : List ℕ) (es : List Entry)
      → map (under (get_by_text deletes s)) (of_subject es s) ≡ of_subject (shown_all deletes es) s
  under_subject s [] = refl
  under_subject s (e ∷ es) =
      let d = get_by_text deletes s in
      elim (bytes_eq e.subject s) as (λ b. bytes_eq e.subject s ≡ b
      → map (under d) (cond b (e ∷ of_subject es s) (of_subject es s))
      ≡ cond b (shown deletes e ∷ of_subject (shown_all deletes es) s) (of_subject (shown_all deletes es) s)) [
        | true ↦ λ h i. under_own s e h i ∷ under_subject s es i
        | false ↦ λ _. under_subject s es
      ] refl

  -- the entries with an id
  pub shown_with_id : (id : ℕ) (es : List Entry) → shown_all deletes (with_id es id) ≡ with_id (shown_all deletes es) id
  shown_with_id id es = map_filter (shown deletes) (λ e. e.id == id) es

  -- the one that an id names
  later : (x y : Entry) → ord_max naming_cmp (shown deletes x) (shown deletes y) ≡ shown deletes (ord_max naming_cmp x y)
  later x y =
      elim (is_lt (naming_cmp y x)) as (λ b.
      cond b (shown deletes x) (shown deletes y) ≡ shown deletes (cond b x y)) [ true ↦ refl | false ↦ refl ]

  last_of : (x : Entry) (xs : List Entry)
      → fold (ord_max naming_cmp) (shown deletes x) (shown_all deletes xs) ≡ shown deletes (fold (ord_max naming_cmp) x xs)
  last_of x [] = refl
  last_of x (y ∷ ys) = ap (λ z. fold (ord_max naming_cmp) z (shown_all deletes ys)) (later x y) ∙ last_of (ord_max naming_cmp x y) ys

  greatest_shown : (xs : List Entry)
      → reduce (ord_max naming_cmp) (shown_all deletes xs) ≡ option_map (shown deletes) (reduce (ord_max naming_cmp) xs)
  greatest_shown [] = refl
  greatest_shown (x ∷ xs) = ap Some (last_of x xs)

  pub shown_named : (id : ℕ) (es : List Entry) → option_map (shown deletes) (named es id) ≡ named (shown_all deletes es) id
  shown_named id es = sym (greatest_shown (with_id es id)) ∙ ap (reduce (ord_max naming_cmp)) (shown_with_id id es)

  -- whether one is live
  pub any_shown : (es : List Entry) → list_any (λ e. not (shown deletes e).soft) es ≡ has_live (shown_all deletes es) None
  any_shown [] = refl
  any_shown (e ∷ es) = ap (λ b. not (shown deletes e).soft || b) (any_shown es)

  -- the way down through the entries ends where it ends by each one's own delete
  pub under_stops : (s : List ℕ) (xs : List Entry)
      → option_map_or (is_of s) (find (stops s) (map (under (get_by_text deletes s)) xs)) false
      ≡ option_map_or (is_of s) (find (stops s) (shown_all deletes xs)) false
  under_stops s [] = refl
  under_stops s (x ∷ xs) =
      let d = get_by_text deletes s in
      let rest = find (stops s) (map (under d) xs) in
      let rest_shown = find (stops s) (shown_all deletes xs) in
      elim (bytes_eq x.subject s) as (λ b. bytes_eq x.subject s ≡ b →
      option_map_or (is_of s) (cond (not b || not (under d x).soft) (Some (under d x)) rest) false
      ≡ option_map_or (is_of s) (cond (not b || not (shown deletes x).soft) (Some (shown deletes x)) rest_shown) false) [
        | true ↦ λ h.
            ap (λ y. option_map_or (is_of s) (cond (not y.soft) (Some y) rest) false) (under_own s x h)
            ∙ elim (not (shown deletes x).soft) as (λ b.
            option_map_or (is_of s) (cond b (Some (shown deletes x)) rest) false
            ≡ option_map_or (is_of s) (cond b (Some (shown deletes x)) rest_shown) false) [ true ↦ refl | false ↦ under_stops s xs ]
        | false ↦ λ _. refl
      ] refl

  -- entries at their places, each under the last delete of its subject
  abbrev shown_at : List (Place × Entry) → List (Place × Entry)
  shown_at es = map (λ (e : Place × Entry). (e.0, shown deletes e.1)) es

  keys_shown : (es : List (Place × Entry)) → keys_of (shown_at es) ≡ keys_of es
  keys_shown [] = refl
  keys_shown (e ∷ es) = ap (λ ps. e.0 ∷ ps) (keys_shown es)

  pub values_shown : (es : List (Place × Entry)) → values_of (shown_at es) ≡ shown_all deletes (values_of es)
  values_shown [] = refl
  values_shown (e ∷ es) = ap (λ fs. shown deletes e.1 ∷ fs) (values_shown es)

  lookup_shown : (p : Place) (es : List (Place × Entry))
      → lookup (is_at (place_cmp p)) (shown_at es) ≡ option_map (shown deletes) (lookup (is_at (place_cmp p)) es)
  lookup_shown p [] = refl
  lookup_shown p (e ∷ es) =
      elim (is_at (place_cmp p) e.0) as (λ b.
      cond b (Some (shown deletes e.1)) (lookup (is_at (place_cmp p)) (shown_at es))
      ≡ option_map (shown deletes) (cond b (Some e.1) (lookup (is_at (place_cmp p)) es))) [
        | true ↦ refl
        | false ↦ lookup_shown p es
      ]

  pub between_shown : (lo hi : Bound Place) (es : List (Place × Entry))
      → values_of (entries_between place_cmp lo hi (shown_at es)) ≡ shown_all deletes (values_of (entries_between place_cmp lo hi es))
  between_shown lo hi es =
      ap values_of (
      sym (map_filter (λ (e : Place × Entry). (e.0, shown deletes e.1)) (λ (e : Place × Entry). range_contains place_cmp lo hi e.0) es))
      ∙ values_shown (entries_between place_cmp lo hi es)

  module _ (m : BTreeMap Place Entry) (ordered : IsOrdered place_cmp m) (placed : ArePlaced m) where
    at_shown : (p : Place) → found_at (shown_at m.entries) p ≡ option_map (shown deletes) (entry_at m p)
    at_shown p = lookup_shown p m.entries

    ordered_shown : IsStrictlySortedBy place_cmp (keys_of (shown_at m.entries))
    ordered_shown = subst (IsStrictlySortedBy place_cmp) (sym (keys_shown m.entries)) ordered

    placed_shown : AreFoundAtPlaces (shown_at m.entries)
    placed_shown p = subst (λ o. IfSome o (IsAt p)) (sym (at_shown p)) (each (entry_at m p) (placed p))
      where
        each : (o : Option Entry) → IfSome o (IsAt p) → IfSome (option_map (shown deletes) o) (IsAt p)
        each None h = tt
        each (Some e) h = h

    some_shown : (p : Place) → is_some (found_at (shown_at m.entries) p) ≡ is_some (entry_at m p)
    some_shown p = ap is_some (at_shown p) ∙ each (entry_at m p)
      where
        each : (o : Option Entry) → is_some (option_map (shown deletes) o) ≡ is_some o
        each None = refl
        each (Some e) = refl

    top_shown : (s : List ℕ) (o : Option Place) → IsTop m s o → IsTopOf (shown_at m.entries) s o
    top_shown s None h = λ w. at_shown (s, w) ∙ ap (option_map (shown deletes)) (h w)
    top_shown s (Some p) h = (h.0, some_shown p ∙ h.1, λ w some. h.2 w (sym (some_shown (s, w)) ∙ some))

    -- the way down from the greatest version ends at an entry of the subject that is live exactly where it has one
    pub live_shown : (p : Place) → IsTop m p.0 (Some p)
        → option_map_or (is_of p.0) (
        find (stops p.0) (
        reverse (map (under (get_by_text deletes p.0)) (values_of (entries_between place_cmp Unbounded (Included p) m.entries))))) false
        ≡ has_live (shown_all deletes (values_of m.entries)) (Some p.0)
    live_shown p top =
        let d = get_by_text deletes p.0 in
        let between = values_of (entries_between place_cmp Unbounded (Included p) m.entries) in
        ap (λ xs. option_map_or (is_of p.0) (find (stops p.0) xs) false) (sym (map-reverse (under d) between))
        ∙ under_stops p.0 (reverse between)
        ∙ ap (λ xs. option_map_or (is_of p.0) (find (stops p.0) xs) false)
        (map-reverse (shown deletes) between ∙ ap reverse (sym (between_shown Unbounded (Included p) m.entries)))
        ∙ live_is (shown_at m.entries) ordered_shown placed_shown p (top_shown p.0 (Some p) top)
        ∙ ap (λ es. has_live es (Some p.0)) (values_shown m.entries)

    -- a subject without an entry has no live one
    pub none_shown : (s : List ℕ) → IsTop m s None → has_live (shown_all deletes (values_of m.entries)) (Some s) ≡ false
    none_shown s none =
        ap (λ es. has_live es (Some s)) (sym (values_shown m.entries))
        ∙ none_live (shown_at m.entries) ordered_shown placed_shown s (top_shown s None none)

    -- the last entry of a subject that counts is the one of greatest version
    pub latest_shown : (s : List ℕ) (deleted : Bool)
        → find (counts deleted) (reverse (map (under (get_by_text deletes s)) (of_subject (values_of m.entries) s)))
        ≡ latest (shown_all deletes (values_of m.entries)) s deleted
    latest_shown s deleted =
        ap (λ xs. find (counts deleted) (reverse xs))
        (under_subject s (values_of m.entries) ∙ ap (λ es. of_subject es s) (sym (values_shown m.entries)))
        ∙ latest_is (shown_at m.entries) ordered_shown placed_shown s deleted
        ∙ ap (λ es. latest es s deleted) (values_shown m.entries)

    -- the entry at the place of a subject and a version, if it counts
    pub of_version_shown : (s : List ℕ) (deleted : Bool) (v : ℕ)
        → option_filter (counts deleted) (option_map (shown deletes) (entry_at m (s, v)))
        ≡ of_version (shown_all deletes (values_of m.entries)) s v deleted
    of_version_shown s deleted v =
        ap (option_filter (counts deleted)) (sym (at_shown (s, v)))
        ∙ of_version_is (shown_at m.entries) ordered_shown placed_shown s deleted v
        ∙ ap (λ es. of_version es s v deleted) (values_shown m.entries)

    -- the entries are in order
    pub in_order_shown : IsInOrder (shown_all deletes (values_of m.entries))
    in_order_shown =
        subst IsInOrder (values_shown m.entries)
        (values_in_order (shown_at m.entries) (all_at_places (shown_at m.entries) ordered_shown placed_shown) ordered_shown)
