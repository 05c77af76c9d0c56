-- Sets with the same opaque records have the same least offset of one.
use Rattle.std.proofs.Common.{◌≡◌, ℕ, ◌≤◌, true, false, cond, inl, inr, ⊎_elim, List, []}
use Rattle.std.proofs.Common.{◌∷◌, map, min, refl, sym, subst, ◌∙◌, nat_le, arith}
use Rattle.std.proofs.lemmas.Bool.Decides.{nat_tests}
use Rattle.std.specs.Cmp.{IsTotalOrder}
use Rattle.std.specs.FinSet.{IsAntisymmetric, contains}
use Rattle.std.specs.List.{AllByRecursion, filter, reduce}
use Rattle.reg_values.specs.reg_records.declared.record.Record.{Record}
use Rattle.reg_set.specs.Join.{LastIsGreatest}
use Rattle.reg_set.specs.LastRecords.{last_records}
use Rattle.reg_set.specs.RecordOrder.{record_cmp}
use Rattle.reg_set.specs.Records.{Records, records_of}
use Rattle.reg_fold.specs.Opaque.{is_opaque, opaque}
use Rattle.reg_fold.proofs.Least.{Has, among, first_among, later_among, reduce_least, there}
use Rattle.reg_fold.proofs.OfLasts.{last_of_itself}
use Rattle.reg_fold.proofs.Places.{inside}

weaker : (m n : ℕ) (ns : List ℕ) → m ≤ n → AllByRecursion (λ k. n ≤ k) ns → AllByRecursion (λ k. m ≤ k) ns
weaker m n [] low all = tt
weaker m n (k ∷ ns) low all =
    let first : n ≤ k = all.0 in
    let here : m ≤ k = omega arith in
    (here, weaker m n ns low all.1)

-- of numbers one is the least
least_of : (n : ℕ) (ns : List ℕ) → (m : ℕ) × Has m (n ∷ ns) × AllByRecursion (λ k. m ≤ k) (n ∷ ns)
least_of n [] =
    let itself : n ≤ n = omega arith in
    (n, inl refl, (itself, tt))
least_of n (k ∷ ns) =
    let (m, has, low) = least_of k ns in
    elim (nat_le n m) as (λ b. nat_le n m ≡ b → (m : ℕ) × Has m (n ∷ k ∷ ns) × AllByRecursion (λ k. m ≤ k) (n ∷ k ∷ ns)) [
      | true ↦ λ t.
          let below : n ≤ m = grind (arith, nat_tests) in
          let itself : n ≤ n = omega arith in
          (n, inl refl, (itself, weaker n m (k ∷ ns) below low))
      | false ↦ λ t.
          let above : m ≤ n = grind (arith, nat_tests) in
          (m, inr has, (above, low))
    ] refl

module _ (P : ℕ → Type 0) where
  all_have : (ns : List ℕ) → ((k : ℕ) → Has k ns → P k) → AllByRecursion P ns
  all_have [] each = tt
  all_have (n ∷ ns) each = (each n (inl refl), all_have ns (λ k h. each k (inr h)))

  each_has : (ns : List ℕ) → AllByRecursion P ns → (k : ℕ) → Has k ns → P k
  each_has [] all k h = absurd h
  each_has (n ∷ ns) all k h = ⊎_elim (λ (e : n ≡ k). subst P e all.0) (λ (rest : Has k ns). each_has ns all.1 k rest) h

-- lists of the same numbers have the same least one
same_least : (ns ks : List ℕ) → ((m : ℕ) → Has m ns → Has m ks) → ((m : ℕ) → Has m ks → Has m ns) → reduce min ns ≡ reduce min ks
same_least [] [] f g = refl
same_least [] (k ∷ ks) f g = absurd (g k (inl refl))
same_least (n ∷ ns) ks f g =
    let (m, has, low) = least_of n ns in
    reduce_least m (n ∷ ns) low has
    ∙ sym (reduce_least m ks (all_have (λ k. m ≤ k) ks (λ k h. each_has (λ k. m ≤ k) (n ∷ ns) low k (g k h))) (f m has))

abbrev offsets : List Record → List ℕ
offsets rs = map (λ r. r.offset) (filter is_opaque rs)

module _ (total : IsTotalOrder record_cmp) (ties : IsAntisymmetric record_cmp) where
  -- each such offset is that of an opaque record
  record_at : (rs : List Record) (m : ℕ) → Has m (offsets rs) → (w : Record) × (among w rs ≡ true) × (is_opaque w ≡ true) × (w.offset ≡ m)
  record_at [] m h = absurd h
  record_at (r ∷ rs) m h =
      elim (is_opaque r) as (λ b. is_opaque r ≡ b → Has m (map (λ r. r.offset) (cond b (r ∷ filter is_opaque rs) (filter is_opaque rs)))
      → (w : Record) × (among w (r ∷ rs) ≡ true) × (is_opaque w ≡ true) × (w.offset ≡ m)) [
        | true ↦ λ unread.
            ⊎_elim (λ (e : r.offset ≡ m). (r, first_among total ties r rs, unread, e))
            (λ (rest : Has m (offsets rs)). let (w, here, is, at) = record_at rs m rest in (w, later_among total ties w r rs here, is, at))
        | false ↦ λ _ rest. let (w, here, is, at) = record_at rs m rest in (w, later_among total ties w r rs here, is, at)
      ] refl h

  module _ (greatest : LastIsGreatest) where
    into : (S T : Records) → last_records S ≡ S → last_records T ≡ T → ((w : Record) → is_opaque w ≡ true → contains S w ≡ contains T w)
        → (m : ℕ) → Has m (offsets (records_of S)) → Has m (offsets (records_of T))
    into S T are_S are_T same m h =
        let (w, here, is, at) = record_at (records_of S) m h in
        let listed : among w (records_of T) ≡ true =
        sym (inside total ties greatest T (last_of_itself total ties T are_T) w)
        ∙ sym (same w is)
        ∙ inside total ties greatest S (last_of_itself total ties S are_S) w
        ∙ here in
        subst (λ n. Has n (offsets (records_of T))) at (there total ties (records_of T) w listed is)

    pub opaque-same : (S T : Records) → last_records S ≡ S → last_records T ≡ T
        → ((w : Record) → is_opaque w ≡ true → contains S w ≡ contains T w) → opaque S ≡ opaque T
    unfolding opaque
    opaque-same S T are_S are_T same =
        same_least (offsets (records_of S)) (offsets (records_of T))
        (into S T are_S are_T same) (into T S are_T are_S (λ w is. sym (same w is)))
