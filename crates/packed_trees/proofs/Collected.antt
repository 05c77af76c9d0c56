-- What is collected from clones has what they are clones of.
use Rattle.std.proofs.Common.{◌≡◌, Bool, cond, ◌||◌, List, [], ◌∷◌, Option, Some, None, refl, sym, ap, ◌∙◌}
use Rattle.std.proofs.lemmas.Map.Keys.{IsDistinct-from_sorted}
use Rattle.std.proofs.lemmas.Map.Made.{update_all_none}
use Rattle.std.specs.BTreeMap as tree
use Rattle.std.specs.BTreeMap.{BTreeMap}
use Rattle.std.specs.BTreeSet as tree_set
use Rattle.std.specs.BTreeSet.{BTreeSet}
use Rattle.std.specs.Cmp.{IsTotalOrder, eq_by_cmp_equiv}
use Rattle.std.specs.List.{AllZip}
use Rattle.std.specs.Map.{keys_of, update, update_all}
use Rattle.std.specs.Ordering.{eq_by_cmp, is_eq}
use Rattle.std.specs.Set.{is_member}
use Rattle.std.specs.declared.cmp.Ordering.{Ordering}
use Rattle.packed_trees.specs.Copies.{ClonesAreEqual, ClonesTie}

module _ {K : Type 0} {cmp : K → K → Ordering} (total : IsTotalOrder cmp) (C : K → K → Type 0) (ties : ClonesTie cmp C) where
  -- a key and its clone are equal to the same keys
  tied : (x y q : K) → C x y → eq_by_cmp cmp y q ≡ eq_by_cmp cmp x q
  tied x y q clone = ap is_eq (sym (total.congr x y q (ties x y clone)))

  sought : (x y q : K) → C x y → eq_by_cmp cmp q y ≡ eq_by_cmp cmp q x
  sought x y q clone =
      let laws = eq_by_cmp_equiv total in
      laws.symm q y ∙ tied x y q clone ∙ laws.symm x q

  members : (xs ys : List K) → AllZip C xs ys → (q : K) → is_member (eq_by_cmp cmp) ys q ≡ is_member (eq_by_cmp cmp) xs q
  members [] [] h q = refl
  members [] (y ∷ ys) h q = absurd h
  members (x ∷ xs) [] h q = absurd h
  members (x ∷ xs) (y ∷ ys) h q = λ i. sought x y q h.0 i || members xs ys h.1 q i

  -- a set that is collected from clones of a set's keys
  pub copied_set : (s n : BTreeSet K) (ys : List K) → AllZip C s.keys ys → tree_set.IsFromIterResult cmp ys n
      → (q : K) → tree_set.contains cmp n q ≡ tree_set.contains cmp s q
  copied_set s n ys clones made q = made.0 q ∙ members s.keys ys clones q

  module _ {V : Type 0} (D : V → V → Type 0) (equal : ClonesAreEqual D) where
    updates : (xs ys : List (K × V)) → AllZip (λ p q. C p.0 q.0 × D p.1 q.1) xs ys → (f g : K → Option V) → ((q : K) → g q ≡ f q)
        → (q : K) → update_all (eq_by_cmp cmp) g ys q ≡ update_all (eq_by_cmp cmp) f xs q
    updates [] [] h f g same q = same q
    updates [] (y ∷ ys) h f g same q = absurd h
    updates (x ∷ xs) [] h f g same q = absurd h
    updates (x ∷ xs) (y ∷ ys) h f g same q =
        updates xs ys h.1 (update (eq_by_cmp cmp) f x.0 (Some x.1)) (update (eq_by_cmp cmp) g y.0 (Some y.1))
        (λ p i. cond (tied x.0 y.0 p h.0.0 i) (Some (equal x.1 y.1 h.0.1 i)) (same p i)) q

    -- a map that is collected from clones of a map's entries
    pub copied_map : (m n : BTreeMap K V) (ys : List (K × V)) → tree.IsOrdered cmp m
        → AllZip (λ p q. C p.0 q.0 × D p.1 q.1) m.entries ys → tree.IsFromIterResult cmp ys n
        → (q : K) → tree.get cmp n q ≡ tree.get cmp m q
    copied_map m n ys ordered clones made q =
        made.0 q
        ∙ updates m.entries ys clones (λ _. None) (λ _. None) (λ _. refl) q
        ∙ update_all_none (eq_by_cmp_equiv total) (eq_by_cmp cmp) (λ x y. refl) m.entries q
        (IsDistinct-from_sorted cmp (keys_of m.entries) ordered)
