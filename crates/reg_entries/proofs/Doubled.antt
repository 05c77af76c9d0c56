-- Items of lists, the names of an id, and entries that share an id.
use Rattle.std.proofs.Common.{◌≡◌, ℕ, ◌+◌, ◌<◌, ◌≤◌, Bool, true, false, cond, not, ◌&&◌, ◌||◌, ◌==◌, inl, inr}
use Rattle.std.proofs.Common.{⊎_elim, List, [], ◌∷◌, map, Option, Some, None, refl, sym, ap, subst, ◌∙◌, arith}
use Rattle.std.proofs.lemmas.Bool.{false≢true}
use Rattle.std.proofs.lemmas.Bool.Decides.{nat_tests}
use Rattle.std.proofs.lemmas.Cmp.{tied_itself, nat_cmp_total}
use Rattle.std.proofs.lemmas.Slice.Eq.{bytes_eq-Decides}
use Rattle.std.specs.BTreeMap.{BTreeMap, IsOrdered, is_at}
use Rattle.std.specs.BTreeMap.Range.{range_contains}
use Rattle.std.specs.BTreeSet.{BTreeSet, contains}
use Rattle.std.specs.Cmp.Lexicographic.{slice_cmp}
use Rattle.std.specs.FinMap.{nat_cmp-IsAntisymmetric}
use Rattle.std.specs.List.{filter, fold, list_any, reduce, AllByRecursion}
use Rattle.std.specs.Map.{values_of}
use Rattle.std.specs.Option.{option_map_or}
use Rattle.std.specs.Ordering.{eq_by_cmp, is_eq, is_gt, is_le, nat_cmp, ordering_then}
use Rattle.std.specs.Prelude.{bytes_eq}
use Rattle.std.specs.declared.cmp.Ordering.{Ordering}
use Rattle.std.specs.declared.cmp.Ordering.TheVariants.{Less, Equal, Greater}
use Rattle.std.specs.declared.ops.Bound.TheVariants.{Included, Excluded}
use Rattle.reg_entries.specs.EntryOrder.{Place, place_cmp}
use Rattle.reg_entries.specs.Index.{Name, name_cmp, name_of, entry_at, ArePlaced, AreNamed}
use Rattle.reg_entries.specs.Sought.{shares_its_id}
use Rattle.reg_entries.specs.declared.entry.Entry.{Entry}
use Rattle.reg_entries.proofs.Chosen.{IsIn, all_map}
use Rattle.reg_entries.proofs.Found.{all_found}
use Rattle.reg_entries.proofs.Listed.{by_bool, own_place}
use Rattle.reg_entries.proofs.Places.{name_cmp-total, name_cmp-ties, equal}
use Rattle.reg_entries.proofs.Texts.{none_first, then_not_after, zero_first}

number : (a b : ℕ) → (a == b) ≡ true → a ≡ b
number a b h = grind arith

itself : (a b : ℕ) → a ≡ b → (a == b) ≡ true
itself a b h = grind arith

pub same_test : (a b : Bool) → (a ≡ true → b ≡ true) → (b ≡ true → a ≡ true) → a ≡ b
same_test true b f g = sym (f refl)
same_test false true f g = g refl
same_test false false f g = refl

first : (a b : Bool) → (a && b) ≡ true → a ≡ true
first true b h = refl
first false b h = h

second : (a b : Bool) → (a && b) ≡ true → b ≡ true
second true b h = h
second false b h = absurd (false≢true h)

both : (a b : Bool) → a ≡ true → b ≡ true → (a && b) ≡ true
both true b h k = k
both false b h k = h

-- texts that are tested and differ
pub apart : (a b : List ℕ) → not (bytes_eq a b) ≡ true → ¬ (a ≡ b)
apart a b h same = false≢true (sym (ap not ((bytes_eq-Decides a b).1 same)) ∙ h)

differ : (a b : List ℕ) → ¬ (a ≡ b) → not (bytes_eq a b) ≡ true
differ a b h = by_bool (bytes_eq a b) (λ same. absurd (h ((bytes_eq-Decides a b).0 same))) (λ no. ap not no)

-- texts that aren't told apart are one
pub one_text : (a b : List ℕ) → not (bytes_eq a b) ≡ false → a ≡ b
one_text a b h = by_bool (bytes_eq a b) (bytes_eq-Decides a b).0 (λ no. absurd (false≢true (sym h ∙ ap not no)))

module _ {X : Type 0} (p : X → Bool) where
  pub any_in : (x : X) (xs : List X) → p x ≡ true → IsIn x xs → list_any p xs ≡ true
  any_in x [] h i = absurd i
  any_in x (y ∷ ys) h (inl same) = ap (λ b. b || list_any p ys) (ap p same ∙ h)
  any_in x (y ∷ ys) h (inr i) = ap (λ b. p y || b) (any_in x ys h i) ∙ either (p y)
    where
      either : (b : Bool) → (b || true) ≡ true
      either true = refl
      either false = refl

  pub any_found : (xs : List X) → list_any p xs ≡ true → (x : X) × (IsIn x xs × (p x ≡ true))
  any_found [] h = absurd (false≢true h)
  any_found (y ∷ ys) h =
      by_bool (p y) (λ is. (y, (inl refl, is)))
      (λ isnt. let rest = any_found ys (sym (ap (λ b. b || list_any p ys) isnt) ∙ h) in (rest.0, (inr rest.1.0, rest.1.1)))

  pub out_of_filter : (x : X) (xs : List X) → IsIn x (filter p xs) → (p x ≡ true) × IsIn x xs
  out_of_filter x [] i = absurd i
  out_of_filter x (y ∷ ys) i =
      let rest : IsIn x (filter p ys) → (p x ≡ true) × IsIn x ys = λ j. out_of_filter x ys j in
      elim (p y) as (λ b. p y ≡ b → IsIn x (cond b (y ∷ filter p ys) (filter p ys)) → (p x ≡ true) × IsIn x (y ∷ ys)) [
        | true ↦ λ is j. ⊎_elim (λ same. (sym (ap p same) ∙ is, inl same)) (λ k. let r = rest k in (r.0, inr r.1)) j
        | false ↦ λ isnt j. let r = rest j in (r.0, inr r.1)
      ] refl i

pub all_in : {X : Type 0} (P : X → Type 0) (x : X) (xs : List X) → AllByRecursion P xs → IsIn x xs → P x
all_in P x [] h i = absurd i
all_in P x (y ∷ ys) h (inl same) = subst P same h.0
all_in P x (y ∷ ys) h (inr i) = all_in P x ys h.1 i

module _ {X : Type 0} (f : X → X → X) (P : X → Type 0) (closed : (x y : X) → P x → P y → P (f x y)) where
  fold_has : (x : X) (xs : List X) → P x → AllByRecursion P xs → P (fold f x xs)
  fold_has x [] p h = p
  fold_has x (y ∷ ys) p h = fold_has (f x y) ys (closed x y p h.0) h.1

  -- what is chosen has what all have
  pub reduce_has : (xs : List X) (x : X) → AllByRecursion P xs → reduce f xs ≡ Some x → P x
  reduce_has [] x h is = absurd (cc)
  reduce_has (y ∷ ys) x h is = subst P (inside is) (fold_has y ys h.0 h.1)
    where
      inside : Some (fold f y ys) ≡ Some x → fold f y ys ≡ x
      inside e = cc

pub reduce_some : {X : Type 0} (f : X → X → X) (x : X) (xs : List X) → IsIn x xs → reduce f xs ≡ None → ⊥
reduce_some f x [] i none = i
reduce_some f x (y ∷ ys) i none = absurd (cc)

-- the names from the least of an id to the least of the next are those of the id
abbrev pub of_id : ℕ → Name → Bool
of_id id k = range_contains name_cmp (Included (id, 0, ([], 0))) (Excluded (id + 1, 0, ([], 0))) k

after_zero : (k : Name) → is_gt (ordering_then (nat_cmp 0 k.1) (place_cmp ([], 0) k.2)) ≡ false
after_zero k =
    then_not_after (nat_cmp 0 k.1) (place_cmp ([], 0) k.2) (zero_first k.1)
    (then_not_after (slice_cmp nat_cmp [] k.2.0) (nat_cmp 0 k.2.1) (none_first k.2.0) (zero_first k.2.1))

up_to_it : (o : Ordering) → is_gt o ≡ false → is_le o ≡ true
up_to_it Less h = refl
up_to_it Equal h = refl
up_to_it Greater h = absurd (false≢true (sym h))

-- by id, then by the rest
abbrev by_rest : Name → Ordering → Ordering
by_rest k o = ordering_then (ordering_then o (nat_cmp 0 k.1)) (place_cmp ([], 0) k.2)

greater : (a b : ℕ) → b < a → nat_cmp a b ≡ Greater
greater a b h = grind (arith, nat_tests)

smaller : (a b : ℕ) → nat_cmp a b ≡ Greater → b < a
smaller a b h = grind (arith, nat_tests)

at_most : (a b : ℕ) → nat_cmp a b ≡ Less → a ≤ b
at_most a b h = grind (arith, nat_tests)

-- the least name of an id isn't after that of the next
pub forward : (id : ℕ) → is_gt (name_cmp (id, 0, ([], 0)) (id + 1, 0, ([], 0))) ≡ false
forward id = ap (λ o. is_gt (ordering_then (ordering_then o (nat_cmp 0 0)) (place_cmp ([], 0) ([], 0)))) (next id)
  where
    next : (a : ℕ) → nat_cmp a (a + 1) ≡ Less
    next a = grind (arith, nat_tests)

pub within_id : (k : Name) (id : ℕ) → k.0 ≡ id → of_id id k ≡ true
within_id k id same =
    both _ _
    (ap (λ o. is_le (by_rest k o)) (ap (nat_cmp id) same ∙ tied_itself nat_cmp_total id) ∙ up_to_it _ (after_zero k))
    (ap (λ o. not (is_le (by_rest k o))) (greater (id + 1) k.0 (above k.0 id same)))
  where
    above : (a b : ℕ) → a ≡ b → a < b + 1
    above a b h = omega (arith, h)

pub id_within : (k : Name) (id : ℕ) → of_id id k ≡ true → k.0 ≡ id
id_within k id h =
    between id k.0 (from (nat_cmp id k.0) refl (first _ _ h))
    (up_to (nat_cmp (id + 1) k.0) refl (second (is_le (by_rest k (nat_cmp id k.0))) _ h))
  where
    between : (a b : ℕ) → a ≤ b → b < a + 1 → b ≡ a
    between a b h k = omega arith

    from : (o : Ordering) → nat_cmp id k.0 ≡ o → is_le (by_rest k o) ≡ true → id ≤ k.0
    from Less is h = at_most id k.0 is
    from Equal is h = subst (λ n. id ≤ n) (nat_cmp-IsAntisymmetric id k.0 is) (omega arith)
    from Greater is h = absurd (false≢true h)

    up_to : (o : Ordering) → nat_cmp (id + 1) k.0 ≡ o → not (is_le (by_rest k o)) ≡ true → k.0 < id + 1
    up_to Less is h = absurd (false≢true h)
    up_to Equal is h = absurd (false≢true (sym (ap not (up_to_it _ (after_zero k))) ∙ h))
    up_to Greater is h = smaller (id + 1) k.0 is

-- a key that a set has is among its keys
pub key_in : {K : Type 0} (cmp : K → K → Ordering) → ((a b : K) → cmp a b ≡ Equal → a ≡ b)
    → (s : BTreeSet K) (k : K) → contains cmp s k ≡ true → IsIn k s.keys
key_in cmp ties s k h =
    let found = any_found (is_at (cmp k)) s.keys h in subst (λ x. IsIn x s.keys) (sym (ties k found.0 (equal _ found.1.1))) found.1.0

module _ (es : List Entry) where
  -- an entry that shares its id does so with another
  pub shared : (e : Entry) → shares_its_id es e ≡ true → (o : Entry) × (IsIn o es × (o.id ≡ e.id) × ¬ (o.normal ≡ e.normal))
  shared e h =
      let found = any_found (λ o. o.id == e.id && not (bytes_eq o.normal e.normal)) es h in
      let o = found.0 in
      (o, (found.1.0, number o.id e.id (first (o.id == e.id) _ found.1.1), apart o.normal e.normal (second (o.id == e.id) _ found.1.1)))

  pub shares : (e o : Entry) → IsIn o es → o.id ≡ e.id → ¬ (o.normal ≡ e.normal) → shares_its_id es e ≡ true
  shares e o i same other =
      any_in (λ o. o.id == e.id && not (bytes_eq o.normal e.normal)) o es
      (both _ _ (itself o.id e.id same) (differ o.normal e.normal other)) i

module _ (m : BTreeMap Place Entry) (ordered : IsOrdered place_cmp m) where
  -- an entry of the list is at a place
  pub place_of_value : (e : Entry) → IsIn e (values_of m.entries) → (q : Place) × (entry_at m q ≡ Some e)
  place_of_value e i =
      all_in (λ e. (q : Place) × (entry_at m q ≡ Some e)) e (values_of m.entries)
      (all_map (λ (e : Place × Entry). e.1) (λ e. (q : Place) × (entry_at m q ≡ Some e)) m.entries
      (all_found (λ q e. (q : Place) × (entry_at m q ≡ Some e)) m.entries ordered (λ q e found. (q, found)))) i

module _ (m : BTreeMap Place Entry) (names : BTreeSet Name) (ordered : IsOrdered place_cmp m)
    (placed : ArePlaced m) (names_are : AreNamed m names) where
  -- an entry at a place has its name in the set
  pub has_its_name : (q : Place) (e : Entry) → entry_at m q ≡ Some e → contains name_cmp names (name_of e) ≡ true
  has_its_name q e found =
      names_are (name_of e)
      ∙ ap (λ o. option_map_or (λ f. eq_by_cmp name_cmp (name_of f) (name_of e)) o false)
      (ap (entry_at m) (own_place m placed q e found) ∙ found)
      ∙ ap is_eq (tied_itself name_cmp-total (name_of e))
