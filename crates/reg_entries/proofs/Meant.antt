-- What ids mean, where schemas come and go.
use Rattle.std.proofs.Common.{◌≡◌, ◌⊎◌, inl, inr, ⊎_elim, ℕ, ◌+◌, ◌<◌, ◌≤◌, Bool, true, false, cond, not, ◌&&◌, ◌==◌, List}
use Rattle.std.proofs.Common.{[], ◌∷◌, map, length, option_map, Option, Some, None, refl, sym, ap, subst, ◌∙◌, arith}
use Rattle.std.proofs.lemmas.Bool.{false≢true}
use Rattle.std.proofs.lemmas.Bool.Decides.{nat_tests}
use Rattle.std.proofs.lemmas.Cmp.{tied_itself, nat_cmp_total, nat_list_cmp_total, on_total, then_total}
use Rattle.std.proofs.lemmas.Option.{same_Some}
use Rattle.std.proofs.lemmas.Slice.Eq.{bytes_eq-Decides}
use Rattle.std.proofs.lemmas.List.Kept.{IsStrictlySortedBy-filter}
use Rattle.std.specs.BTreeMap as tree
use Rattle.std.specs.BTreeMap.{BTreeMap, is_at}
use Rattle.std.specs.Map.{values_of}
use Rattle.std.specs.BTreeMap.Range.{range_contains}
use Rattle.std.specs.BTreeSet.{BTreeSet, IsLowerBound, IsOrdered, contains, keys_between}
use Rattle.std.specs.Cmp.{IsTotalOrder}
use Rattle.std.specs.Cmp.Lexicographic.{slice_cmp}
use Rattle.std.specs.FinMap.{IsAntisymmetric, nat_cmp-IsAntisymmetric, slice_cmp-IsAntisymmetric}
use Rattle.std.specs.List.{filter, list_any}
use Rattle.std.specs.List.Sorted.{IsStrictlySortedBy}
use Rattle.std.specs.Ordering.{nat_cmp, ordering_then, ordering_reverse, eq_by_cmp, is_eq, is_gt, is_le, is_lt}
use Rattle.std.specs.Option.{option_copied}
use Rattle.std.specs.Prelude.{◌↔◌, bytes_eq, IfSome, IsSome}
use Rattle.std.specs.declared.cmp.Ordering.{Ordering}
use Rattle.std.specs.declared.cmp.Ordering.TheVariants.{Less, Equal, Greater}
use Rattle.std.specs.declared.ops.Bound.TheVariants.{Included, Excluded}
use Rattle.reg_entries.specs.EntryOrder.{Place, place_cmp, place_of}
use Rattle.reg_entries.specs.Index.{entry_at, ArePlaced}
use Rattle.reg_entries.specs.Meanings.{Meaning, meaning_of, meaning_cmp, IsMeant, IsMeaningOf}
use Rattle.reg_entries.specs.Meanings.{AreMeant, HasTwo, AreDoubled}
use Rattle.reg_entries.specs.Meanings.{RefreshesDoubled, RefreshesMeaning}
use Rattle.reg_entries.specs.Schemas.{Schema, schema_of, schema_cmp, is_held, is_that, AreListed}
use Rattle.reg_entries.specs.Sought.{shares_its_id, two_schemas}
use Rattle.reg_entries.specs.declared.entry.Entry.{Entry}
use Rattle.reg_entries.proofs.Chosen.{IsIn, all_filter, all_map, in_filter, in_map, reduce_min, reduce_none}
use Rattle.reg_entries.proofs.Found.{all_found, in_values, not_both}
use Rattle.reg_entries.proofs.Doubled.{any_in, key_in, out_of_filter, place_of_value, shared, shares}
use Rattle.reg_entries.proofs.Listed.{by_bool, had, has_it, same_entry, same_schema, was_old}
use Rattle.reg_entries.proofs.Places.{equal, then_ties}
use Rattle.reg_entries.proofs.Texts.{has_schema, none_first, then_not_after, zero_first}
use denote.Ref.{Bor}

pub meaning_cmp-total : IsTotalOrder meaning_cmp
meaning_cmp-total = then_total (on_total (λ k. k.0) nat_cmp_total) (on_total (λ k. k.1) nat_list_cmp_total)

-- meanings that tie are one
pub meaning_cmp-ties : IsAntisymmetric meaning_cmp
meaning_cmp-ties k l e =
    let ties = then_ties (nat_cmp k.0 l.0) (slice_cmp nat_cmp k.1 l.1) e in
    let ids = nat_cmp-IsAntisymmetric k.0 l.0 ties.0 in
    let texts = slice_cmp-IsAntisymmetric nat_cmp-IsAntisymmetric k.1 l.1 ties.1 in
    λ i. (ids i, texts i)

pub same_meaning : (k l : Meaning) → eq_by_cmp meaning_cmp k l ≡ true → k ≡ l
same_meaning k l h = meaning_cmp-ties k l (equal _ h)

pub one_meaning : (k l : Meaning) → k ≡ l → eq_by_cmp meaning_cmp k l ≡ true
one_meaning k l h = ap (λ x. is_eq (meaning_cmp k x)) (sym h) ∙ ap is_eq (tied_itself meaning_cmp-total k)

pub apart_meaning : (k l : Meaning) → ¬ (k ≡ l) → eq_by_cmp meaning_cmp k l ≡ false
apart_meaning k l h = by_bool (eq_by_cmp meaning_cmp k l) (λ same. absurd (h (same_meaning k l same))) (λ no. no)

-- where some meanings were added, and then each of some that no schema has was taken away
pub meant_refreshed : (New Refreshed : Meaning → Type 0) (before after : BTreeSet Schema) (old mid new : BTreeSet Meaning)
    → AreMeant before old
    → ((k : Meaning) → contains meaning_cmp mid k ≡ true → New k ⊎ (contains meaning_cmp old k ≡ true))
    → ((k : Meaning) → New k ⊎ (contains meaning_cmp old k ≡ true) → contains meaning_cmp mid k ≡ true)
    → ((k : Meaning) → (contains meaning_cmp new k ≡ true) ↔ ((contains meaning_cmp mid k ≡ true) × (Refreshed k → IsMeant after k)))
    → ((k : Meaning) → New k → Refreshed k)
    → ((k : Meaning) → IsMeant after k → New k ⊎ IsMeant before k)
    → ((k : Meaning) → IsMeant before k → IsMeant after k ⊎ Refreshed k)
    → AreMeant after new
meant_refreshed New Refreshed before after old mid new meant out into refreshes news came went k = (to, back)
  where
    to : contains meaning_cmp new k ≡ true → IsMeant after k
    to h =
        let s = (refreshes k).0 h in
        ⊎_elim (λ n. s.1 (news k n)) (λ o. ⊎_elim (λ a. a) s.1 (went k ((meant k).0 o))) (out k s.0)

    back : IsMeant after k → contains meaning_cmp new k ≡ true
    back h = (refreshes k).1 (into k (⊎_elim inl (λ b. inr ((meant k).1 b)) (came k h)), λ _. h)

-- where nothing was added
pub meant_gone : (before after : BTreeSet Schema) (old new : BTreeSet Meaning) (x : Schema) → AreMeant before old
    → ((s : Schema) → contains schema_cmp after s ≡ cond (eq_by_cmp schema_cmp x s) false (contains schema_cmp before s))
    → RefreshesMeaning after (meaning_of x) old new
    → AreMeant after new
meant_gone before after old new x meant gone refreshes =
    meant_refreshed (λ _. ⊥) (λ k. k ≡ meaning_of x) before after old old new meant
    (λ k h. inr h) (λ k. ⊎_elim (λ n. absurd n) (λ h. h)) refreshes (λ k n. absurd n)
    (λ k h. inr (h.0, was k h.0 h.1)) (λ k h. stays k h.0 h.1)
  where
    was : (k : Meaning) (p : Place) → contains schema_cmp after (k.1, k.0, p) ≡ true → contains schema_cmp before (k.1, k.0, p) ≡ true
    was k p h =
        by_bool (eq_by_cmp schema_cmp x (k.1, k.0, p))
        (λ is. absurd (false≢true (sym (gone (k.1, k.0, p) ∙ ap (λ b. cond b false (contains schema_cmp before (k.1, k.0, p))) is) ∙ h)))
        (λ no. sym (gone (k.1, k.0, p) ∙ ap (λ b. cond b false (contains schema_cmp before (k.1, k.0, p))) no) ∙ h)

    stays : (k : Meaning) (p : Place) → contains schema_cmp before (k.1, k.0, p) ≡ true → IsMeant after k ⊎ (k ≡ meaning_of x)
    stays k p h =
        by_bool (eq_by_cmp schema_cmp x (k.1, k.0, p))
        (λ is. inr (sym (ap meaning_of (same_schema x (k.1, k.0, p) is))))
        (λ no. inl (p, gone (k.1, k.0, p) ∙ ap (λ b. cond b false (contains schema_cmp before (k.1, k.0, p))) no ∙ h))

module _ (mid old : BTreeSet Meaning) (x : Meaning)
    (adds : (k : Meaning) → contains meaning_cmp mid k ≡ cond (eq_by_cmp meaning_cmp x k) true (contains meaning_cmp old k)) where
  -- what is there after a meaning was added
  pub added_out : (k : Meaning) → contains meaning_cmp mid k ≡ true → (k ≡ x) ⊎ (contains meaning_cmp old k ≡ true)
  added_out k h =
      by_bool (eq_by_cmp meaning_cmp x k)
      (λ is. inl (sym (same_meaning x k is)))
      (λ no. inr (sym (adds k ∙ ap (λ b. cond b true (contains meaning_cmp old k)) no) ∙ h))

  pub added_into : (k : Meaning) → (k ≡ x) ⊎ (contains meaning_cmp old k ≡ true) → contains meaning_cmp mid k ≡ true
  added_into k (inl is) = adds k ∙ ap (λ b. cond b true (contains meaning_cmp old k)) (one_meaning x k (sym is))
  added_into k (inr h) = adds k ∙ ap (cond (eq_by_cmp meaning_cmp x k) true) h ∙ either (eq_by_cmp meaning_cmp x k)
    where
      either : (b : Bool) → cond b true true ≡ true
      either true = refl
      either false = refl

  pub added_others : (k : Meaning) → ¬ (k.0 ≡ x.0) → contains meaning_cmp mid k ≡ contains meaning_cmp old k
  added_others k apart =
      adds k ∙ ap (λ b. cond b true (contains meaning_cmp old k)) (apart_meaning x k (λ same. apart (sym (ap (λ (l : Meaning). l.0) same))))

module _ (mid old : BTreeSet Meaning) (x : Meaning)
    (goes : (k : Meaning) → contains meaning_cmp mid k ≡ cond (eq_by_cmp meaning_cmp x k) false (contains meaning_cmp old k)) where
  -- and after one was taken away
  pub gone_others : (k : Meaning) → ¬ (k.0 ≡ x.0) → contains meaning_cmp mid k ≡ contains meaning_cmp old k
  gone_others k apart =
      goes k
      ∙ ap (λ b. cond b false (contains meaning_cmp old k)) (apart_meaning x k (λ same. apart (sym (ap (λ (l : Meaning). l.0) same))))

  pub gone_was : (k : Meaning) → contains meaning_cmp mid k ≡ true → contains meaning_cmp old k ≡ true
  gone_was k h =
      by_bool (eq_by_cmp meaning_cmp x k)
      (λ is. absurd (false≢true (sym (goes k ∙ ap (λ b. cond b false (contains meaning_cmp old k)) is) ∙ h)))
      (λ no. sym (goes k ∙ ap (λ b. cond b false (contains meaning_cmp old k)) no) ∙ h)

  pub gone_two : (id : ℕ) → HasTwo mid id → HasTwo old id
  gone_two id h = (h.0, h.1, gone_was (id, h.0) h.2, gone_was (id, h.1) h.3, h.4)

  -- which refreshes it where no schema has it
  pub refreshes_gone : (schemas : BTreeSet Schema) → ¬ (IsMeant schemas x) → RefreshesMeaning schemas x old mid
  refreshes_gone schemas none k = (
    λ h. (
      gone_was k h,
      λ is. absurd (false≢true (sym (goes k ∙ ap (λ b. cond b false (contains meaning_cmp old k)) (one_meaning x k (sym is))) ∙ h)),
    ),
    λ h.
        goes k
        ∙ ap (λ b. cond b false (contains meaning_cmp old k))
        (apart_meaning x k (λ same. none (subst (IsMeant schemas) (sym same) (h.1 (sym same)))))
        ∙ h.0,
  )

-- and where one has it nothing has to go
pub refreshes_stays : (schemas : BTreeSet Schema) (x : Meaning) (old : BTreeSet Meaning)
    → IsMeant schemas x → RefreshesMeaning schemas x old old
refreshes_stays schemas x old is k = (λ h. (h, λ same. subst (IsMeant schemas) (sym same) is), λ h. h.0)

two_same : (old new : BTreeSet Meaning) (id i : ℕ) → ¬ (i ≡ id)
    → ((k : Meaning) → ¬ (k.0 ≡ id) → contains meaning_cmp new k ≡ contains meaning_cmp old k) → HasTwo old i → HasTwo new i
two_same old new id i apart same h = (h.0, h.1, same (i, h.0) apart ∙ h.2, same (i, h.1) apart ∙ h.3, h.4)

decide : (a b : ℕ) → (a ≡ b) ⊎ ¬ (a ≡ b)
decide a b = by_order (nat_cmp a b) refl
  where
    apart : (o : Ordering) → nat_cmp a b ≡ o → is_eq o ≡ false → ¬ (a ≡ b)
    apart o is isnt same = false≢true (sym isnt ∙ ap is_eq (sym is ∙ ap (nat_cmp a) (sym same) ∙ tied_itself nat_cmp_total a))

    by_order : (o : Ordering) → nat_cmp a b ≡ o → (a ≡ b) ⊎ ¬ (a ≡ b)
    by_order Less is = inr (apart Less is refl)
    by_order Equal is = inl (nat_cmp-IsAntisymmetric a b is)
    by_order Greater is = inr (apart Greater is refl)

-- the doubled ids where texts of one id changed, and it was refreshed
pub doubled_refreshed : (old new : BTreeSet Meaning) (before mid after : BTreeSet ℕ) (id : ℕ) → AreDoubled old before
    → ((k : Meaning) → ¬ (k.0 ≡ id) → contains meaning_cmp new k ≡ contains meaning_cmp old k)
    → ((i : ℕ) → ¬ (i ≡ id) → contains nat_cmp mid i ≡ contains nat_cmp before i)
    → (HasTwo new id → contains nat_cmp mid id ≡ true)
    → RefreshesDoubled new id mid after
    → AreDoubled new after
doubled_refreshed old new before mid after id doubled others ids own refreshes i = (to, back)
  where
    to : contains nat_cmp after i ≡ true → HasTwo new i
    to h =
        let s = (refreshes i).0 h in
        ⊎_elim s.1 (λ apart. two_same old new id i apart others ((doubled i).0 (sym (ids i apart) ∙ s.0))) (decide i id)

    back : HasTwo new i → contains nat_cmp after i ≡ true
    back h =
        (refreshes i).1 (
          ⊎_elim (λ same. subst (λ j. contains nat_cmp mid j ≡ true) (sym same) (own (subst (HasTwo new) same h)))
              (λ apart. ids i apart ∙ (doubled i).1 (two_same new old id i apart (λ k a. sym (others k a)) h)) (decide i id),
          λ _. h,
        )

module _ (old new : BTreeSet ℕ) (id : ℕ) (b : Bool)
    (updates : (i : ℕ) → contains nat_cmp new i ≡ cond (eq_by_cmp nat_cmp id i) b (contains nat_cmp old i)) where
  pub id_here : contains nat_cmp new id ≡ b
  id_here = updates id ∙ ap (λ t. cond (is_eq t) b (contains nat_cmp old id)) (tied_itself nat_cmp_total id)

  pub id_others : (i : ℕ) → ¬ (i ≡ id) → contains nat_cmp new i ≡ contains nat_cmp old i
  id_others i apart =
      by_bool (eq_by_cmp nat_cmp id i)
      (λ is. absurd (apart (sym (nat_cmp-IsAntisymmetric id i (equal _ is)))))
      (λ no. updates i ∙ ap (λ t. cond t b (contains nat_cmp old i)) no)

-- an id that is taken away where it has no two texts is refreshed
pub doubled_gone : (meanings : BTreeSet Meaning) (old new : BTreeSet ℕ) (id : ℕ) → ¬ (HasTwo meanings id)
    → ((i : ℕ) → contains nat_cmp new i ≡ cond (eq_by_cmp nat_cmp id i) false (contains nat_cmp old i))
    → RefreshesDoubled meanings id old new
doubled_gone meanings old new id none updates i = (to, back)
  where
    to : contains nat_cmp new i ≡ true → (contains nat_cmp old i ≡ true) × (i ≡ id → HasTwo meanings i)
    to h =
        ⊎_elim (λ same. absurd (false≢true (sym (id_here old new id false updates) ∙ ap (contains nat_cmp new) (sym same) ∙ h)))
        (λ apart. (sym (id_others old new id false updates i apart) ∙ h, λ same. absurd (apart same))) (decide i id)

    back : (contains nat_cmp old i ≡ true) × (i ≡ id → HasTwo meanings i) → contains nat_cmp new i ≡ true
    back h =
        ⊎_elim (λ same. absurd (none (subst (HasTwo meanings) same (h.1 same))))
        (λ apart. id_others old new id false updates i apart ∙ h.0) (decide i id)

pub doubled_stays : (meanings : BTreeSet Meaning) (old : BTreeSet ℕ) (id : ℕ) → HasTwo meanings id → RefreshesDoubled meanings id old old
doubled_stays meanings old id two i = (λ h. (h, λ same. subst (HasTwo meanings) (sym same) two), λ h. h.0)

-- the meanings from the least of an id to the least of the next are those of the id
abbrev pub of_id : ℕ → Meaning → Bool
of_id id k = range_contains meaning_cmp (Included (id, [])) (Excluded (id + 1, [])) k

less_next : (a : ℕ) → nat_cmp a (a + 1) ≡ Less
less_next a = grind (arith, nat_tests)

pub forward : (id : ℕ) → is_gt (meaning_cmp (id, []) (id + 1, [])) ≡ false
forward id = ap (λ o. is_gt (ordering_then o (slice_cmp nat_cmp [] []))) (less_next id)

up_to_it : (o : Ordering) → is_gt o ≡ false → is_le o ≡ true
up_to_it Less h = refl
up_to_it Equal h = refl
up_to_it Greater h = absurd (false≢true (sym h))

greater : (a b : ℕ) → b < a → nat_cmp a b ≡ Greater
greater a b h = grind (arith, nat_tests)

smaller : (a b : ℕ) → nat_cmp a b ≡ Greater → b < a
smaller a b h = grind (arith, nat_tests)

at_most : (a b : ℕ) → nat_cmp a b ≡ Less → a ≤ b
at_most a b h = grind (arith, nat_tests)

first_of : (a b : Bool) → (a && b) ≡ true → a ≡ true
first_of true b h = refl
first_of false b h = h

second_of : (a b : Bool) → (a && b) ≡ true → b ≡ true
second_of true b h = h
second_of false b h = absurd (false≢true h)

both_of : (a b : Bool) → a ≡ true → b ≡ true → (a && b) ≡ true
both_of true b h k = k
both_of false b h k = h

pub within_id : (k : Meaning) (id : ℕ) → k.0 ≡ id → of_id id k ≡ true
within_id k id same =
    both_of _ _
    (ap (λ o. is_le (ordering_then o (slice_cmp nat_cmp [] k.1))) (ap (nat_cmp id) same ∙ tied_itself nat_cmp_total id)
    ∙ up_to_it _ (none_first k.1))
    (ap (λ o. not (is_le (ordering_then o (slice_cmp nat_cmp [] k.1)))) (greater (id + 1) k.0 (above k.0 id same)))
  where
    above : (a b : ℕ) → a ≡ b → a < b + 1
    above a b h = omega (arith, h)

pub id_within : (k : Meaning) (id : ℕ) → of_id id k ≡ true → k.0 ≡ id
id_within k id h =
    between id k.0 (from (nat_cmp id k.0) refl (first_of _ _ h))
    (up_to (nat_cmp (id + 1) k.0) refl (second_of (is_le (ordering_then (nat_cmp id k.0) (slice_cmp nat_cmp [] k.1))) _ h))
  where
    between : (a b : ℕ) → a ≤ b → b < a + 1 → b ≡ a
    between a b h k = omega arith

    from : (o : Ordering) → nat_cmp id k.0 ≡ o → is_le (ordering_then o (slice_cmp nat_cmp [] k.1)) ≡ true → id ≤ k.0
    from Less is h = at_most id k.0 is
    from Equal is h = subst (λ n. id ≤ n) (nat_cmp-IsAntisymmetric id k.0 is) (omega arith)
    from Greater is h = absurd (false≢true h)

    up_to : (o : Ordering) → nat_cmp (id + 1) k.0 ≡ o → not (is_le (ordering_then o (slice_cmp nat_cmp [] k.1))) ≡ true → k.0 < id + 1
    up_to Less is h = absurd (false≢true h)
    up_to Equal is h = absurd (false≢true (sym (ap not (up_to_it _ (none_first k.1))) ∙ h))
    up_to Greater is h = smaller (id + 1) k.0 is

module _ (meanings : BTreeSet Meaning) (ordered : IsOrdered meaning_cmp meanings) (id : ℕ) where
  abbrev texts : List Meaning
  texts = keys_between meaning_cmp (Included (id, [])) (Excluded (id + 1, [])) meanings

  has_key : (k : Meaning) → IsIn k texts → (k.0 ≡ id) × (contains meaning_cmp meanings k ≡ true)
  has_key k i =
      let kept = out_of_filter (of_id id) k meanings.keys i in
      (id_within k id kept.0, any_in (is_at (meaning_cmp k)) k meanings.keys (ap is_eq (tied_itself meaning_cmp-total k)) kept.1)

  key_has : (t : List ℕ) → contains meaning_cmp meanings (id, t) ≡ true → IsIn (id, t) texts
  key_has t h =
      in_filter (of_id id) (id, t) meanings.keys (within_id (id, t) id refl) (key_in meaning_cmp meaning_cmp-ties meanings (id, t) h)

  -- two meanings of an id are two texts
  pub two_of_list : (k l : Meaning) (rest : List Meaning) → texts ≡ k ∷ l ∷ rest → HasTwo meanings id
  unfolding IsStrictlySortedBy
  two_of_list k l rest is =
      let sorted : IsStrictlySortedBy meaning_cmp (k ∷ l ∷ rest) =
      subst (IsStrictlySortedBy meaning_cmp) is (IsStrictlySortedBy-filter meaning_cmp (of_id id) meanings.keys ordered) in
      let one = has_key k (subst (IsIn k) (sym is) (inl refl)) in
      let other = has_key l (subst (IsIn l) (sym is) (inr (inl refl))) in
      (k.1, l.1, own k one, own l other, λ same. apart k l sorted.0.0 (λ i. ((one.0 ∙ sym other.0) i, same i)))
    where
      own : (k : Meaning) → (k.0 ≡ id) × (contains meaning_cmp meanings k ≡ true) → contains meaning_cmp meanings (id, k.1) ≡ true
      own k h = subst (λ j. contains meaning_cmp meanings (j, k.1) ≡ true) h.0 h.1

      apart : (k l : Meaning) → meaning_cmp k l ≡ Less → k ≡ l → ⊥
      apart k l less same = tie_less (sym (tied_itself meaning_cmp-total k) ∙ ap (meaning_cmp k) same ∙ less)
        where
          tie_less : ◌≡◌ {A = Ordering} Equal Less → ⊥
          tie_less h = absurd (cc)

  -- and two texts are two meanings
  pub none_of_list : texts ≡ [] → HasTwo meanings id → ⊥
  none_of_list is two = subst (IsIn (id, two.0)) is (key_has two.0 two.2)

  pub one_of_list : (k : Meaning) → texts ≡ k ∷ [] → HasTwo meanings id → ⊥
  one_of_list k is two = two.4 (ap (λ (l : Meaning). l.1) (sym (only two.0 two.2) ∙ only two.1 two.3))
    where
      only : (t : List ℕ) → contains meaning_cmp meanings (id, t) ≡ true → k ≡ (id, t)
      only t h = ⊎_elim (λ same. same) (λ none. absurd none) (subst (IsIn (id, t)) is (key_has t h))

-- the first schema of a text and an id is before all of both
pub from_both : (t : List ℕ) (i : ℕ) (p : Place) → is_gt (schema_cmp (t, i, ([], 0)) (t, i, p)) ≡ false
from_both t i p =
    ap (λ o. is_gt (ordering_then (ordering_then o (nat_cmp i i)) (place_cmp ([], 0) p))) (tied_itself nat_list_cmp_total t)
    ∙ ap (λ o. is_gt (ordering_then o (place_cmp ([], 0) p))) (tied_itself nat_cmp_total i)
    ∙ then_not_after (slice_cmp nat_cmp [] p.0) (nat_cmp 0 p.1) (none_first p.0) (zero_first p.1)

before_then : (a b : Ordering) → is_gt (ordering_then a b) ≡ false → is_gt a ≡ false
before_then Less b h = refl
before_then Equal b h = refl
before_then Greater b h = h

-- what is neither before nor after is the same
pub squeezed : {X : Type 0} (cmp : X → X → Ordering) → IsTotalOrder cmp → (x y : X)
    → is_gt (cmp x y) ≡ false → is_gt (cmp y x) ≡ false → cmp x y ≡ Equal
squeezed cmp total x y h k = by_order (cmp x y) refl
  where
    by_order : (o : Ordering) → cmp x y ≡ o → cmp x y ≡ Equal
    by_order Less is = absurd (false≢true (sym k ∙ ap is_gt (total.antisymm y x ∙ ap ordering_reverse is)))
    by_order Equal is = is
    by_order Greater is = absurd (false≢true (sym h ∙ ap is_gt is))

-- a schema between the first of a text and an id and another of them is of both
pub between_first : (t : List ℕ) (i : ℕ) (p : Place) (found : Schema) → is_gt (schema_cmp (t, i, ([], 0)) found) ≡ false
    → is_gt (schema_cmp found (t, i, p)) ≡ false → (found.0 ≡ t) × (found.1 ≡ i)
between_first t i p found from to = (texts, sym (nat_cmp-IsAntisymmetric i found.1 ids))
  where
    from_pair : is_gt (ordering_then (slice_cmp nat_cmp t found.0) (nat_cmp i found.1)) ≡ false
    from_pair = before_then (ordering_then (slice_cmp nat_cmp t found.0) (nat_cmp i found.1)) (place_cmp ([], 0) found.2) from

    to_pair : is_gt (ordering_then (slice_cmp nat_cmp found.0 t) (nat_cmp found.1 i)) ≡ false
    to_pair = before_then (ordering_then (slice_cmp nat_cmp found.0 t) (nat_cmp found.1 i)) (place_cmp found.2 p) to

    tie : slice_cmp nat_cmp t found.0 ≡ Equal
    tie =
        squeezed (slice_cmp nat_cmp) nat_list_cmp_total t found.0 (before_then (slice_cmp nat_cmp t found.0) (nat_cmp i found.1) from_pair)
        (before_then (slice_cmp nat_cmp found.0 t) (nat_cmp found.1 i) to_pair)

    tie_back : slice_cmp nat_cmp found.0 t ≡ Equal
    tie_back = nat_list_cmp_total.antisymm found.0 t ∙ ap ordering_reverse tie

    texts : found.0 ≡ t
    texts = sym (slice_cmp-IsAntisymmetric nat_cmp-IsAntisymmetric t found.0 tie)

    ids : nat_cmp i found.1 ≡ Equal
    ids =
        squeezed nat_cmp nat_cmp_total i found.1
        (sym (ap (λ o. is_gt (ordering_then o (nat_cmp i found.1))) tie) ∙ from_pair)
        (sym (ap (λ o. is_gt (ordering_then o (nat_cmp found.1 i))) tie_back) ∙ to_pair)

module _ (m n : BTreeMap Place Entry) (e : Entry) (old : Option Schema) (placed : ArePlaced m)
    (else : (q : Place) → eq_by_cmp place_cmp (place_of e) q ≡ false → entry_at n q ≡ entry_at m q)
    (here : (entry_at n (place_of e) ≡ Some e) ⊎ (entry_at n (place_of e) ≡ entry_at m (place_of e)))
    (old_is : old ≡ option_map schema_of (entry_at m (place_of e)))
    (before after : BTreeSet Schema) (listed : AreListed m before) (still : AreListed n after) where
  came : (k : Meaning) → IsMeant after k → (k ≡ meaning_of (schema_of e)) ⊎ IsMeant before k
  came k h =
      by_bool (eq_by_cmp schema_cmp (schema_of e) (k.1, k.0, h.0))
      (λ is. inl (sym (ap meaning_of (same_schema (schema_of e) (k.1, k.0, h.0) is))))
      (λ no.
      inr (
        h.0,
        listed (k.1, k.0, h.0) ∙ same_entry m n e old placed else here old_is (k.1, k.0, h.0) no (sym (still (k.1, k.0, h.0)) ∙ h.1),
      ))

  went : (k : Meaning) → IsMeant before k → IsMeant after k ⊎ IsMeaningOf (schema_of e) old k
  went k h =
      let s : Schema = (k.1, k.0, h.0) in
      by_bool (is_held n s)
      (λ is. inl (h.0, still s ∙ is))
      (λ isnt. inr (inr (of_old s old refl (was_old m n e old placed else here old_is s isnt (sym (listed s) ∙ h.1)))))
    where
      of_old : (s : Schema) (o : Option Schema) → old ≡ o → is_that o s ≡ true
          → (t : Schema) × (old ≡ Some t) × (meaning_of s ≡ meaning_of t)
      of_old s None is h = absurd (false≢true h)
      of_old s (Some t) is h = (t, is, sym (ap meaning_of (same_schema t s h)))

  -- what ids mean after an entry is written over what was at its place, or isn't
  pub meant_written : (given mid new : BTreeSet Meaning) → AreMeant before given
      → ((k : Meaning) → contains meaning_cmp mid k ≡ cond (eq_by_cmp meaning_cmp (e.id, e.normal) k) true (contains meaning_cmp given k))
      → ((k : Meaning)
      → (contains meaning_cmp new k ≡ true) ↔ (
      (contains meaning_cmp mid k ≡ true) × (IsMeaningOf (schema_of e) old k → IsMeant after k)))
      → AreMeant after new
  meant_written given mid new meant adds refreshes =
      meant_refreshed (λ k. k ≡ (e.id, e.normal)) (IsMeaningOf (schema_of e) old) before after given mid new meant
      (added_out mid given (e.id, e.normal) adds) (added_into mid given (e.id, e.normal) adds) refreshes (λ k is. inl is) came went

-- where no meaning changed
pub meant_same : (schemas : BTreeSet Schema) (old new : BTreeSet Meaning) → AreMeant schemas old
    → ((k : Meaning) → contains meaning_cmp new k ≡ contains meaning_cmp old k) → AreMeant schemas new
meant_same schemas old new meant same k = (λ h. (meant k).0 (sym (same k) ∙ h), λ h. same k ∙ (meant k).1 h)

-- what is left of the meanings of two schemas, which one after the other are refreshed
pub both_refreshed : (schemas : BTreeSet Schema) (one : Schema) (other : Option Schema) (old mid new : BTreeSet Meaning)
    → RefreshesMeaning schemas (meaning_of one) old mid
    → ((k : Meaning)
    → (contains meaning_cmp new k ≡ true) ↔ (
    (contains meaning_cmp mid k ≡ true) × ((s : Schema) → other ≡ Some s → k ≡ meaning_of s → IsMeant schemas k)))
    → (k : Meaning)
    → (contains meaning_cmp new k ≡ true) ↔ ((contains meaning_cmp old k ≡ true) × (IsMeaningOf one other k → IsMeant schemas k))
both_refreshed schemas one other old mid new first second k = (to, back)
  where
    to : contains meaning_cmp new k ≡ true → (contains meaning_cmp old k ≡ true) × (IsMeaningOf one other k → IsMeant schemas k)
    to h =
        let b = (second k).0 h in
        let a = (first k).0 b.0 in
        (a.0, λ which. ⊎_elim a.1 (λ s. b.1 s.0 s.1 s.2) which)

    back : (contains meaning_cmp old k ≡ true) × (IsMeaningOf one other k → IsMeant schemas k) → contains meaning_cmp new k ≡ true
    back h = (second k).1 ((first k).1 (h.0, λ is. h.1 (inl is)), λ s some is. h.1 (inr (s, some, is)))

module _ (m : BTreeMap Place Entry) (ordered : tree.IsOrdered place_cmp m) (placed : ArePlaced m)
    (schemas : BTreeSet Schema) (listed : AreListed m schemas) (meanings : BTreeSet Meaning)
    (meant : AreMeant schemas meanings) (doubled : BTreeSet ℕ) (are : AreDoubled meanings doubled) where
  abbrev es : List Entry
  es = values_of m.entries

  -- what an entry means is there
  has_meaning : (q : Place) (e : Entry) → entry_at m q ≡ Some e → contains meaning_cmp meanings (e.id, e.normal) ≡ true
  has_meaning q e found = (meant (e.id, e.normal)).1 (place_of e, has_schema m schemas ordered placed listed q e found)

  -- and what is there an entry means
  entry_of : (k : Meaning) → contains meaning_cmp meanings k ≡ true → (e : Entry) × (IsIn e es × (e.id ≡ k.0) × (e.normal ≡ k.1))
  entry_of k h = let s = (meant k).0 h in by_entry s.0 (entry_at m s.0) refl (sym (listed (k.1, k.0, s.0)) ∙ s.1)
    where
      by_entry : (p : Place) (o : Option Entry) → entry_at m p ≡ o → has_it o (k.1, k.0, p) ≡ true
          → (e : Entry) × (IsIn e es × (e.id ≡ k.0) × (e.normal ≡ k.1))
      by_entry p None none h = absurd (false≢true h)
      by_entry p (Some e) found h = let own = had e (k.1, k.0, p) h in (e, (in_values p e m.entries found, own.1, own.0))

  -- an entry of a doubled id shares it
  two_of : (i : ℕ) → contains nat_cmp doubled i ≡ true → (e : Entry) × (IsIn e es × (e.id ≡ i) × (shares_its_id es e ≡ true))
  two_of i h =
      let two = (are i).0 h in
      let e = entry_of (i, two.0) two.2 in
      let f = entry_of (i, two.1) two.3 in
      (e.0, (e.1.0, e.1.1, shares es e.0 f.0 f.1.0 (f.1.1 ∙ sym e.1.1) (λ same. two.4 (sym e.1.2 ∙ sym same ∙ f.1.2))))

  -- and an id that an entry shares is doubled
  is_doubled : (q : Place) (e : Entry) → entry_at m q ≡ Some e → shares_its_id es e ≡ true → contains nat_cmp doubled e.id ≡ true
  is_doubled q e found h =
      let other = shared es e h in
      let there = place_of_value m ordered other.0 other.1.0 in
      (are e.id).1 (
        other.0.normal,
        e.normal,
        subst (λ i. contains meaning_cmp meanings (i, other.0.normal) ≡ true) other.1.1 (has_meaning there.0 other.0 there.1),
        has_meaning q e found,
        other.1.2,
      )

  -- no id has two schemas where none is doubled
  pub two_schemas_none : ((i : ℕ) → contains nat_cmp doubled i ≡ true → ⊥) → two_schemas es ≡ None
  two_schemas_none none =
      reduce_none _ _ (all_map (λ e. e.id) (λ _. ⊥) (filter (shares_its_id es) es)
      (all_filter (shares_its_id es) (λ _. ⊥) es
      (all_map (λ (e : Place × Entry). e.1) (λ e. shares_its_id es e ≡ true → ⊥) m.entries
      (all_found (λ q e. shares_its_id es e ≡ true → ⊥) m.entries ordered (λ q e at h. none e.id (is_doubled q e at h))))))

  -- and the least doubled id is the least that has
  pub two_schemas_some : (i : ℕ) → contains nat_cmp doubled i ≡ true
      → ((j : ℕ) → contains nat_cmp doubled j ≡ true → i ≤ j) → two_schemas es ≡ Some i
  two_schemas_some i is least =
      let two = two_of i is in
      reduce_min i _
      (all_map (λ e. e.id) (λ n. i ≤ n) (filter (shares_its_id es) es)
      (all_filter (shares_its_id es) (λ e. i ≤ e.id) es
      (all_map (λ (e : Place × Entry). e.1) (λ e. shares_its_id es e ≡ true → i ≤ e.id) m.entries
      (all_found (λ q e. shares_its_id es e ≡ true → i ≤ e.id) m.entries ordered (λ q e at h. least e.id (is_doubled q e at h))))))
      (subst (λ n. IsIn n (map (λ e. e.id) (filter (shares_its_id es) es))) two.1.1
      (in_map (λ e. e.id) two.0 (filter (shares_its_id es) es) (in_filter (shares_its_id es) two.0 es two.1.2 two.1.0)))

-- a set without a key has none
pub no_id : (ids : BTreeSet ℕ) → (0 < length ids.keys → false ≡ true) → (i : ℕ) → contains nat_cmp ids i ≡ true → ⊥
no_id ids h i has = none ids.keys h has
  where
    none : (xs : List ℕ) → (0 < length xs → false ≡ true) → list_any (is_at (nat_cmp i)) xs ≡ true → ⊥
    none [] h has = false≢true has
    none (y ∷ ys) h has = false≢true (h (omega arith))

pub not_above : (i j : ℕ) → is_gt (nat_cmp i j) ≡ false → i ≤ j
not_above i j h = grind (arith, nat_tests)

module _ (m : BTreeMap Place Entry) (ordered : tree.IsOrdered place_cmp m) (placed : ArePlaced m)
    (schemas : BTreeSet Schema) (listed : AreListed m schemas) (meanings : BTreeSet Meaning)
    (meant : AreMeant schemas meanings) (doubled : BTreeSet ℕ) (are : AreDoubled meanings doubled) where
  -- the first doubled id, if there is one
  pub first_doubled : (o : Option (Bor ℕ)) → IsSome o ↔ (0 < length doubled.keys)
      → IfSome o (λ k. contains nat_cmp doubled k.now ≡ true) → IfSome o (λ k. IsLowerBound nat_cmp doubled k.now)
      → option_copied o ≡ two_schemas (values_of m.entries)
  first_doubled None some member least =
      sym (two_schemas_none m ordered placed schemas listed meanings meant doubled are (no_id doubled some.1))
  first_doubled (Some k) some member least =
      sym (
      two_schemas_some m ordered placed schemas listed meanings meant doubled are k.now member (λ j has. not_above k.now j (least j has)))

-- what one schema, if there is one, leaves of the meanings
pub some_refreshed : (schemas : BTreeSet Schema) (t : Schema) (other : Option Schema) (mid new : BTreeSet Meaning)
    → other ≡ Some t → RefreshesMeaning schemas (meaning_of t) mid new
    → (k : Meaning)
    → (contains meaning_cmp new k ≡ true) ↔ (
    (contains meaning_cmp mid k ≡ true) × ((s : Schema) → other ≡ Some s → k ≡ meaning_of s → IsMeant schemas k))
some_refreshed schemas t other mid new is refreshes k = (
  λ h. let a = (refreshes k).0 h in (a.0, λ s some same. a.1 (same ∙ ap meaning_of (same_Some s t (sym some ∙ is)))),
  λ h. (refreshes k).1 (h.0, λ same. h.1 t is same),
)

pub none_refreshed : (schemas : BTreeSet Schema) (other : Option Schema) (mid : BTreeSet Meaning) → other ≡ None
    → (k : Meaning)
    → (contains meaning_cmp mid k ≡ true) ↔ (
    (contains meaning_cmp mid k ≡ true) × ((s : Schema) → other ≡ Some s → k ≡ meaning_of s → IsMeant schemas k))
none_refreshed schemas other mid is k = (λ h. (h, λ s some same. absurd (not_both s other some is)), λ h. h.0)

-- where the doubled ids are the same
pub doubled_same : (old new : BTreeSet Meaning) (before after : BTreeSet ℕ) → AreDoubled old before
    → ((k : Meaning) → contains meaning_cmp new k ≡ contains meaning_cmp old k)
    → ((i : ℕ) → contains nat_cmp after i ≡ contains nat_cmp before i) → AreDoubled new after
doubled_same old new before after doubled same ids i = (
  λ h. let two = (doubled i).0 (sym (ids i) ∙ h) in (two.0, two.1, same (i, two.0) ∙ two.2, same (i, two.1) ∙ two.3, two.4),
  λ h. ids i ∙ (doubled i).1 (h.0, h.1, sym (same (i, h.0)) ∙ h.2, sym (same (i, h.1)) ∙ h.3, h.4),
)

-- whether some schema has a text and an id, by the first from the least of both on
pub meant_found : (schemas : BTreeSet Schema) (t : List ℕ) (i : ℕ) (found : Schema)
    → contains schema_cmp schemas found ≡ true → is_gt (schema_cmp (t, i, ([], 0)) found) ≡ false
    → ((p : Place) → contains schema_cmp schemas (t, i, p) ≡ true → is_gt (schema_cmp found (t, i, p)) ≡ false)
    → ((bytes_eq found.0 t && found.1 == i) ≡ true) ↔ IsMeant schemas (i, t)
meant_found schemas t i found has from lower = (to, back)
  where
    number : (a b : ℕ) → (a == b) ≡ true → a ≡ b
    number a b h = grind arith

    itself : (a b : ℕ) → a ≡ b → (a == b) ≡ true
    itself a b h = grind arith

    to : (bytes_eq found.0 t && found.1 == i) ≡ true → IsMeant schemas (i, t)
    to h =
        let text : found.0 ≡ t = (bytes_eq-Decides found.0 t).0 (first_of (bytes_eq found.0 t) _ h) in
        let id : found.1 ≡ i = number found.1 i (second_of (bytes_eq found.0 t) _ h) in
        (found.2, subst (λ (s : Schema). contains schema_cmp schemas s ≡ true) (λ j. (text j, id j, found.2)) has)

    back : IsMeant schemas (i, t) → (bytes_eq found.0 t && found.1 == i) ≡ true
    back h =
        let own = between_first t i h.0 found from (lower h.0 h.1) in
        both_of (bytes_eq found.0 t) _ ((bytes_eq-Decides found.0 t).1 own.0) (itself found.1 i own.1)
