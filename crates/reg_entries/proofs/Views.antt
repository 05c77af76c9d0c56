-- The map of a registry's entries, as contracts see it.
use Rattle.std.proofs.Common.{◌≡◌, Bool, true, false, cond, ◌&&◌, List, [], ◌∷◌, map, Some, None, refl, sym, ap, subst, ◌∙◌, T}
use Rattle.std.specs.BTreeMap.{BTreeMap, IsOrdered, is_at}
use Rattle.std.specs.FinMap as finmap
use Rattle.std.specs.FinMap.Entries.{find, is_sorted, below_all}
use Rattle.std.specs.List.{AllByRecursion}
use Rattle.std.specs.List.Sorted.{IsStrictlySortedBy}
use Rattle.std.specs.Map.{keys_of, values_of, lookup}
use Rattle.std.specs.Ordering.{is_lt}
use Rattle.std.specs.declared.cmp.Ordering.TheVariants.{Less}
use Rattle.reg_entries.specs.EntryOrder.{Place, place_cmp}
use Rattle.std.specs.Cmp.{eq_by_cmp_equiv}
use Rattle.std.specs.Ordering.{eq_by_cmp}
use Rattle.reg_entries.specs.Index.{entry_at, HasAt}
use Rattle.reg_entries.specs.declared.entry.Entry.{Entry}
use Rattle.reg_entries.proofs.Places.{place_cmp-total, place_cmp-ties}

-- the map that contracts see
abbrev pub view : BTreeMap Place Entry → finmap.FinMap place_cmp Entry
view m = finmap.from_entries m.entries

find_lookup : (p : Place) (es : List (Place × Entry)) → find place_cmp p es ≡ lookup (is_at (place_cmp p)) es
find_lookup p [] = refl
find_lookup p (e ∷ es) = ap (cond (is_at (place_cmp p) e.0) (Some e.1)) (find_lookup p es)

pub get-view : (m : BTreeMap Place Entry) (p : Place) → finmap.get (view m) p ≡ entry_at m p
get-view m p = finmap.get-from_entries place_cmp-total m.entries p ∙ find_lookup p m.entries

both : (a b : Bool) → T a → T b → T (a && b)
both true b p q = q
both false b p q = p

below : (p : Place) (es : List (Place × Entry)) → AllByRecursion (λ q. place_cmp p q ≡ Less) (keys_of es) → T (below_all place_cmp p es)
below p [] h = tt
below p (e ∷ es) h = both _ _ (subst (λ o. T (is_lt o)) (sym h.0) tt) (below p es h.1)

sorted : (es : List (Place × Entry)) → IsStrictlySortedBy place_cmp (keys_of es) → T (is_sorted place_cmp es)
unfolding IsStrictlySortedBy
sorted [] h = tt
sorted (e ∷ es) h = both _ _ (below e.0 es h.0) (sorted es h.1)

pub entries-view : (m : BTreeMap Place Entry) → IsOrdered place_cmp m → finmap.entries (view m) ≡ m.entries
entries-view m h =
    let es = m.entries in
    let s = sorted es h in
    let same : view m ≡ finmap.from_sorted es =
    finmap.same_map place_cmp-total place_cmp-ties (view m) (finmap.from_sorted es) (λ q.
    finmap.get-from_entries place_cmp-total es q ∙ sym (finmap.get-from_sorted place_cmp es q s)) in
    ap finmap.entries same ∙ finmap.entries-from_sorted place_cmp es s

pub values-view : (m : BTreeMap Place Entry) → IsOrdered place_cmp m → finmap.values (view m) ≡ values_of m.entries
values-view m h = ap (λ (es : List (Place × Entry)). map (λ e. e.1) es) (entries-view m h)

turned : (p q : Place) → eq_by_cmp place_cmp p q ≡ eq_by_cmp place_cmp q p
turned p q = (eq_by_cmp_equiv place_cmp-total).symm p q

-- an entry that is written at a place is inserted there
pub view-written : (m n : BTreeMap Place Entry) (p : Place) (e : Entry) → HasAt m n p (Some e) → view n ≡ finmap.insert (view m) p e
view-written m n p e at =
    finmap.same_map place_cmp-total place_cmp-ties (view n) (finmap.insert (view m) p e) (λ q.
    get-view n q
    ∙ at q
    ∙ ap (λ b. cond b (Some e) (entry_at m q)) (turned p q)
    ∙ ap (cond (eq_by_cmp place_cmp q p) (Some e)) (sym (get-view m q))
    ∙ sym (finmap.get-insert place_cmp-total (view m) p e q))

-- and one that goes is removed
pub view-gone : (m n : BTreeMap Place Entry) (p : Place) → HasAt m n p None → view n ≡ finmap.remove (view m) p
view-gone m n p at =
    finmap.same_map place_cmp-total place_cmp-ties (view n) (finmap.remove (view m) p) (λ q.
    get-view n q ∙ at q ∙ ap (λ b. cond b None (entry_at m q)) (turned p q) ∙ ap (cond (eq_by_cmp place_cmp q p) None) (sym (get-view m q))
    ∙ sym (finmap.get-remove place_cmp-total (view m) p q))
