-- A copy of what is kept of the entries keeps the same.
use Rattle.std.proofs.Common.{◌≡◌, ℕ, ◌==◌, ◌&&◌, bytes_eq, true, false, cond, List, [], ◌∷◌}
use Rattle.std.proofs.Common.{Option, Some, None, option_and_then, refl, sym, ap, subst, ◌∙◌}
use Rattle.std.proofs.lemmas.Cmp.{nat_list_cmp_total, tied_itself}
use Rattle.std.proofs.lemmas.Map.Lookups.{btree_map_read_from_get, exact_bytes, map_keys}
use Rattle.std.specs.BTreeMap.{BTreeMap, IsOrdered, get, get_by_text, is_at}
use Rattle.std.specs.BTreeSet.{BTreeSet, contains}
use Rattle.std.specs.Cmp.Lexicographic.{slice_cmp}
use Rattle.std.specs.List.{AllZip, list_any}
use Rattle.std.specs.List.Sorted.{IsStrictlySortedBy}
use Rattle.std.specs.Map.{keys_of, lookup}
use Rattle.std.specs.Option.{option_map_or}
use Rattle.std.specs.Ordering.{eq_by_cmp, is_eq, nat_cmp}
use Rattle.std.specs.Prelude.{IfSome, IsSome, string_bytes}
use Rattle.std.specs.String.{string_cmp, string_cmp_total}
use Rattle.std.specs.declared.cmp.Ordering.{Ordering}
use Rattle.std.specs.declared.string.String.{String}
use Rattle.reg_entries.specs.EntryOrder.{Place, place_cmp}
use Rattle.reg_entries.specs.Index.{Name, name_of, name_cmp, entry_at, IsAt, IsIndexed, IsTop}
use Rattle.reg_entries.specs.Meanings.{Meaning, meaning_cmp, IsMeant, AreMeant, HasTwo, AreDoubled}
use Rattle.reg_entries.specs.Schemas.{Schema, schema_cmp, AreListed}
use Rattle.reg_entries.specs.declared.entry.Entry.{Entry}
use Rattle.packed_trees.specs.Copies.{ClonesAreEqual, ClonesTie}
use Rattle.reg_entries.proofs.Listed.{schema_cmp-total}
use Rattle.reg_entries.proofs.Meant.{meaning_cmp-total}
use Rattle.reg_entries.proofs.Places.{place_cmp-total, name_cmp-total}
use Rattle.reg_entries.proofs.Topmost.{top_stays}

-- clones tie with what they are clones of
pub place-tied : ClonesTie place_cmp (λ p q. (q.0 ≡ p.0) × (q.1 ≡ p.1))
place-tied p q same = ap (place_cmp p) (λ i. (same.0 i, same.1 i)) ∙ tied_itself place_cmp-total p

pub name-tied : ClonesTie name_cmp (λ m n. (n.0 ≡ m.0) × (n.1 ≡ m.1) × ((n.2.0 ≡ m.2.0) × (n.2.1 ≡ m.2.1)))
name-tied m n same = ap (name_cmp m) (λ i. (same.0 i, same.1 i, (same.2.0 i, same.2.1 i))) ∙ tied_itself name_cmp-total m

pub schema-tied : ClonesTie schema_cmp (λ s t. (t.0 ≡ s.0) × (t.1 ≡ s.1) × ((t.2.0 ≡ s.2.0) × (t.2.1 ≡ s.2.1)))
schema-tied s t same = ap (schema_cmp s) (λ i. (same.0 i, same.1 i, (same.2.0 i, same.2.1 i))) ∙ tied_itself schema_cmp-total s

pub meaning-tied : ClonesTie meaning_cmp (λ k l. (l.0 ≡ k.0) × (l.1 ≡ k.1))
meaning-tied k l same = ap (meaning_cmp k) (λ i. (same.0 i, same.1 i)) ∙ tied_itself meaning_cmp-total k

pub string-tied : {Y : Type 0} → ClonesTie {K = String Y} string_cmp (λ k l. string_bytes l ≡ string_bytes k)
string-tied k l same = ap (slice_cmp nat_cmp (string_bytes k)) same ∙ tied_itself nat_list_cmp_total (string_bytes k)

pub places-equal : ClonesAreEqual {V = Place} (λ p q. (q.0 ≡ p.0) × (q.1 ≡ p.1))
places-equal p q same = λ i. (same.0 i, same.1 i)

-- copies of ids
pub ids-copied : (xs ys : List ℕ) → AllZip (λ p q. q ≡ p) xs ys → ys ≡ xs
ids-copied [] [] h = refl
ids-copied [] (y ∷ ys) h = absurd h
ids-copied (x ∷ xs) [] h = absurd h
ids-copied (x ∷ xs) (y ∷ ys) h = λ i. h.0 i ∷ ids-copied xs ys h.1 i

-- a look-up by bytes, among the bytes of the keys
by_bytes : {Y X : Type 0} (s : List ℕ) (es : List (String Y × X))
    → lookup (is_at (λ k. slice_cmp nat_cmp s (string_bytes k))) es ≡ lookup (is_at (slice_cmp nat_cmp s)) (map_keys string_bytes es)
by_bytes s [] = refl
by_bytes s (e ∷ es) = λ i. cond (is_eq (slice_cmp nat_cmp s (string_bytes e.0))) (Some e.1) (by_bytes s es i)

-- copies of the greatest versions' places are found where those are
pub tops-copied : {Y X : Type 0} (m n : BTreeMap (String Y) X) → IsOrdered string_cmp m → IsOrdered string_cmp n
    → ((k : String Y) → get string_cmp n k ≡ get string_cmp m k) → (s : List ℕ) → get_by_text n s ≡ get_by_text m s
tops-copied m n old new same s =
    by_bytes s n.entries
    ∙ ap (lookup (is_at (slice_cmp nat_cmp s)))
    (btree_map_read_from_get string_cmp_total n m new old same string_bytes (λ x y. exact_bytes (string_bytes x) (string_bytes y)))
    ∙ sym (by_bytes s m.entries)

-- what is indexed stays so where the entries, the names and the place of each greatest version are the same
pub IsIndexed-copied : {Y : Type 0} (m n : BTreeMap Place Entry) (old new : BTreeSet Name) (tops copies : BTreeMap (String Y) Place)
    → n.entries ≡ m.entries → ((x : Name) → contains name_cmp new x ≡ contains name_cmp old x)
    → ((s : List ℕ) → get_by_text copies s ≡ get_by_text tops s) → IsIndexed m old tops → IsIndexed n new copies
IsIndexed-copied m n old new tops copies entries names found indexed =
    let at : (p : Place) → entry_at n p ≡ entry_at m p = λ p. ap (lookup (is_at (place_cmp p))) entries in
    record {
      ordered = subst (λ (es : List (Place × Entry)). IsStrictlySortedBy place_cmp (keys_of es)) (sym entries) indexed.ordered;
      placed = λ p. subst (λ o. IfSome o (IsAt p)) (sym (at p)) (indexed.placed p);
      named = λ x.
          names x
          ∙ indexed.named x
          ∙ sym (ap (λ o. option_map_or (λ e. eq_by_cmp name_cmp (name_of e) x) o false) (at x.2));
      top = λ s. subst (IsTop n s) (sym (found s)) (top_stays m n s (λ w. at (s, w)) (get_by_text tops s) (indexed.top s));
    }

module _ (m n : BTreeMap Place Entry) (entries : n.entries ≡ m.entries) where
  at_same : (p : Place) → entry_at n p ≡ entry_at m p
  at_same p = ap (lookup (is_at (place_cmp p))) entries

  -- what is listed stays so where the entries and the schemas are the same
  pub AreListed-copied : (old new : BTreeSet Schema) → ((s : Schema) → contains schema_cmp new s ≡ contains schema_cmp old s)
      → AreListed m old → AreListed n new
  AreListed-copied old new schemas listed s =
      schemas s ∙ listed s
      ∙ sym (ap (λ o. option_map_or (λ e. e.id == s.1 && bytes_eq e.normal s.0) o false) (at_same s.2))

-- what ids mean stays so where the schemas and the meanings are the same
pub AreMeant-copied : (schemas copies : BTreeSet Schema) (old new : BTreeSet Meaning)
    → ((s : Schema) → contains schema_cmp copies s ≡ contains schema_cmp schemas s)
    → ((k : Meaning) → contains meaning_cmp new k ≡ contains meaning_cmp old k) → AreMeant schemas old → AreMeant copies new
AreMeant-copied schemas copies old new listed meanings meant k = (to, back)
  where
    to : contains meaning_cmp new k ≡ true → IsMeant copies k
    to h =
        let s = (meant k).0 (sym (meanings k) ∙ h) in
        (s.0, listed (k.1, k.0, s.0) ∙ s.1)

    back : IsMeant copies k → contains meaning_cmp new k ≡ true
    back h =
        meanings k
        ∙ (meant k).1 (h.0, sym (listed (k.1, k.0, h.0)) ∙ h.1)

-- and which are doubled where these are too
pub AreDoubled-copied : (meanings copies : BTreeSet Meaning) (old new : BTreeSet ℕ)
    → ((k : Meaning) → contains meaning_cmp copies k ≡ contains meaning_cmp meanings k)
    → new.keys ≡ old.keys → AreDoubled meanings old → AreDoubled copies new
AreDoubled-copied meanings copies old new same ids doubled i = (to, back)
  where
    has : (j : ℕ) → contains nat_cmp new j ≡ contains nat_cmp old j
    has j = ap (list_any (λ x. is_eq (nat_cmp j x))) ids

    to : contains nat_cmp new i ≡ true → HasTwo copies i
    to h =
        let s = (doubled i).0 (sym (has i) ∙ h) in (
          s.0,
          s.1,
          same (i, s.0) ∙ s.2,
          same (i, s.1) ∙ s.3,
          s.4,
        )

    back : HasTwo copies i → contains nat_cmp new i ≡ true
    back h =
        has i
        ∙ (doubled i).1 (
          h.0,
          h.1,
          sym (same (i, h.0)) ∙ h.2,
          sym (same (i, h.1)) ∙ h.3,
          h.4,
        )
