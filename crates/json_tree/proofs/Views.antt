-- A value, level by level, and the members of an object by their names.
use Rattle.std.proofs.Common.{◌≡◌, ℕ, List, [], ◌∷◌, Vec, Global, rules, Option, Some, Ordering, Less}
use Rattle.std.proofs.Common.{Equal, Greater, nat_cmp, is_eq, true, false, bytes_eq, Bor, refl, ◌∙◌}
use Rattle.std.proofs.lemmas.Cmp.{nat_list_cmp_total, tied_itself}
use Rattle.std.proofs.lemmas.Map.Text.{is_eq-slice_cmp}
use Rattle.std.specs.Cmp.Lexicographic.{slice_cmp}
use Rattle.std.specs.Ordering.{match_ordering}
use Rattle.std.specs.BTreeMap.{insert_entry}
use Rattle.serde_json.specs.Data.{Data, array, object, put}
use Rattle.serde_json.specs.Find.{get_member}
use Rattle.json_tree.specs.View.{Entry, view, items_view, members_view}
use Rattle.json_tree.specs.declared.tree.Json.{Json, Array, Object, the_lemmas}

same_text : (xs : List ℕ) → slice_cmp nat_cmp xs xs ≡ Equal
same_text xs = tied_itself nat_list_cmp_total xs

found_here : (o : Ordering) (a b : Option Data) → is_eq o ≡ true → match_ordering o a b a ≡ b
found_here Less a b e = absurd (cc)
found_here Equal a b e = refl
found_here Greater a b e = absurd (cc)

not_here : (o : Ordering) (a b : Option Data) → is_eq o ≡ false → match_ordering o a b a ≡ a
not_here Less a b e = refl
not_here Equal a b e = absurd (cc)
not_here Greater a b e = refl

pub member_here : (name : List ℕ) (e : Entry) (es : List Entry)
    → bytes_eq name e.0.now ≡ true → get_member name (members_view (e ∷ es)) ≡ Some (view e.1)
member_here name e es same = found_here (slice_cmp nat_cmp name e.0.now) _ _ (is_eq-slice_cmp name e.0.now ∙ same)

pub member_later : (name : List ℕ) (e : Entry) (es : List Entry) → bytes_eq name e.0.now ≡ false
    → get_member name (members_view (e ∷ es)) ≡ get_member name (members_view es)
member_later name e es other = not_here (slice_cmp nat_cmp name e.0.now) _ _ (is_eq-slice_cmp name e.0.now ∙ other)

pub view-Array : (v : Vec Json Global) → view (Array v) ≡ array (items_view v.items)
view-Array v = search (rules, the_lemmas)

pub view-Object : (v : Vec Entry Global) → view (Object v) ≡ object (members_view v.items)
view-Object v = search (rules, the_lemmas)

members_view-match_ordering : (o : Ordering) (a b c : List Entry)
    → members_view (match_ordering o a b c) ≡ match_ordering o (members_view a) (members_view b) (members_view c)
members_view-match_ordering Less a b c = refl
members_view-match_ordering Equal a b c = refl
members_view-match_ordering Greater a b c = refl

-- an insert into a map from names is `put`
pub members_view-insert_entry : (es : List Entry) (k : Bor (List ℕ)) (v : Json)
    → members_view (insert_entry (λ x y. slice_cmp nat_cmp x.now y.now) es k v) ≡ put k.now (view v) (members_view es)
members_view-insert_entry [] k v = refl
members_view-insert_entry (e ∷ es) k v =
    members_view-match_ordering (slice_cmp nat_cmp k.now e.0.now) _ _ _ ∙ rw (members_view-insert_entry es k v)
