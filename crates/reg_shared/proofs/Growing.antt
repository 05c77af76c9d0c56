-- What is kept once a batch is taken in.
use Rattle.std.proofs.Common.{◌≡◌, ◌⊎◌, inl, inr, Bool, true, false, ◌&&◌, ◌||◌, List, [], ◌∷◌}
use Rattle.std.proofs.Common.{◌++◌, Option, Some, None, refl, sym, ap, ◌∙◌, option_to_list}
use Rattle.std.proofs.lemmas.Bool.{false≢true}
use Rattle.std.proofs.lemmas.List.Folds.{list_any-append}
use Rattle.std.specs.Cmp.{Equal-is, IsTotalOrder}
use Rattle.std.specs.FinSet.{contains, from_list, union, IsAntisymmetric, contains-union, same_set}
use Rattle.std.specs.List.{list_any}
use Rattle.std.proofs.lemmas.Cmp.{tied_itself}
use Rattle.std.specs.Option.{option_map_or}
use Rattle.std.specs.Ordering.{eq_by_cmp, is_eq}
use Rattle.reg_records.specs.declared.key.Key.{Key}
use Rattle.reg_records.specs.declared.record.Record.{Record}
use Rattle.reg_set.specs.Join.{LastIsGreatest, LastOfLastRecords, LastOfUnion, later}
use Rattle.reg_set.specs.LastRecords.{is_last, last, last_records}
use Rattle.reg_set.specs.RecordOrder.{key_cmp, record_cmp}
use Rattle.reg_set.specs.Records.{Records}
use Rattle.reg_shared.specs.Kept.{kept_of, lasts_at}
use Rattle.reg_shared.proofs.Equality.{alike, equal}
use Rattle.reg_shared.proofs.Keeping.{is_kept}
use Rattle.reg_shared.proofs.Members.{in_lasts, in_list, itself, right}

left_true : (a b : Bool) → a ≡ true → (a || b) ≡ true
left_true true b e = refl
left_true false b e = absurd (false≢true e)

or_case : (a b : Bool) → (a || b) ≡ true → (a ≡ true) ⊎ (b ≡ true)
or_case true b e = inl refl
or_case false b e = inr e

both_parts : (a b : Bool) → (a && b) ≡ true → (a ≡ true) × (b ≡ true)
both_parts true b e = (refl, e)
both_parts false b e = absurd (false≢true e)

any_left : {A : Type 0} (p : A → Bool) (xs ys : List A) → list_any p xs ≡ true → list_any p (xs ++ ys) ≡ true
any_left p xs ys h = list_any-append p xs ys ∙ left_true (list_any p xs) (list_any p ys) h

any_right : {A : Type 0} (p : A → Bool) (xs ys : List A) → list_any p ys ≡ true → list_any p (xs ++ ys) ≡ true
any_right p xs ys h = list_any-append p xs ys ∙ right (list_any p xs) (list_any p ys) h

any_either : {A : Type 0} (p : A → Bool) (xs ys : List A) → list_any p (xs ++ ys) ≡ true → (list_any p xs ≡ true) ⊎ (list_any p ys ≡ true)
any_either p xs ys h = or_case (list_any p xs) (list_any p ys) (sym (list_any-append p xs ys) ∙ h)

abbrev is_among : Key → List Record → Bool
is_among key rs = list_any (λ b. eq_by_cmp key_cmp key b.key) rs

module _ (order : IsTotalOrder record_cmp) (apart : IsAntisymmetric record_cmp)
    (keys : IsTotalOrder key_cmp) (keys_apart : IsAntisymmetric key_cmp)
    (greatest : LastIsGreatest) (of_union : LastOfUnion) (of_lasts : LastOfLastRecords) where
  same_key : (k l : Key) → eq_by_cmp key_cmp k l ≡ true → k ≡ l
  same_key k l h = keys_apart k l ((Equal-is (key_cmp k l)).0 h)

  one_of : (o : Option Record) (q : Record) → list_any (eq_by_cmp record_cmp q) (option_to_list o) ≡ true → o ≡ Some q
  one_of None q h = absurd (false≢true h)
  one_of (Some x) q h = elim (or_case (eq_by_cmp record_cmp q x) false h) [
    | inl e ↦ ap Some (sym (equal order apart q x e))
    | inr f ↦ absurd (false≢true f)
  ]

  -- the last records of the batch's keys are last ones
  were_last : (lasts : Records) (rs : List Record) (q : Record)
      → list_any (eq_by_cmp record_cmp q) (lasts_at lasts rs) ≡ true → contains lasts q ≡ true
  were_last lasts [] q h = absurd (false≢true h)
  were_last lasts (r ∷ rs) q h = elim (any_either (eq_by_cmp record_cmp q) (option_to_list (last lasts r.key)) (lasts_at lasts rs) h) [
    | inl here ↦ ((greatest lasts r.key q).0 (one_of (last lasts r.key) q here)).is_in_set
    | inr rest ↦ were_last lasts rs q rest
  ]

  -- the last record of one of the batch's keys is one of them
  is_listed : (lasts : Records) (rs : List Record) (q : Record) → last lasts q.key ≡ Some q
      → is_among q.key rs ≡ true → list_any (eq_by_cmp record_cmp q) (lasts_at lasts rs) ≡ true
  is_listed lasts [] q is h = absurd (false≢true h)
  is_listed lasts (r ∷ rs) q is h = elim (or_case (eq_by_cmp key_cmp q.key r.key) (is_among q.key rs) h) [
    | inl here ↦
        let there : last lasts r.key ≡ Some q = ap (last lasts) (sym (same_key q.key r.key here)) ∙ is in
        any_left (eq_by_cmp record_cmp q) (option_to_list (last lasts r.key)) (lasts_at lasts rs)
        (ap (λ o. list_any (eq_by_cmp record_cmp q) (option_to_list o)) there
        ∙ left_true (eq_by_cmp record_cmp q q) false (itself order apart q))
    | inr rest ↦ any_right (eq_by_cmp record_cmp q) (option_to_list (last lasts r.key)) (lasts_at lasts rs) (is_listed lasts rs q is rest)
  ]

  key_itself : (k : Key) → eq_by_cmp key_cmp k k ≡ true
  key_itself k = ap is_eq (tied_itself keys k)

  -- a record of the batch has one of its keys
  has_key : (rs : List Record) (b : Record) → list_any (eq_by_cmp record_cmp b) rs ≡ true → is_among b.key rs ≡ true
  has_key [] b h = absurd (false≢true h)
  has_key (r ∷ rs) b h = elim (or_case (eq_by_cmp record_cmp b r) (list_any (eq_by_cmp record_cmp b) rs) h) [
    | inl e ↦ left_true (eq_by_cmp key_cmp b.key r.key) (is_among b.key rs)
        (ap (λ (x : Record). eq_by_cmp key_cmp b.key x.key) (sym (equal order apart b r e)) ∙ key_itself b.key)
    | inr rest ↦ right (eq_by_cmp key_cmp b.key r.key) (is_among b.key rs) (has_key rs b rest)
  ]

  -- a key that none of the batch has has no last record in it
  no_last : (rs : List Record) (key : Key) → is_among key rs ≡ false → last (from_list rs) key ≡ None
  no_last rs key none = elim (last (from_list rs) key) as (λ o. last (from_list rs) key ≡ o → o ≡ None) [
    | None ↦ λ _. refl
    | Some b ↦ λ is.
        let g = (greatest (from_list rs) key b).0 is in
        absurd (
        false≢true (sym none ∙ (ap (λ k. is_among k rs) (sym g.is_of_key) ∙ has_key rs b (sym (in_list order apart rs b) ∙ g.is_in_set))))
  ] refl

  -- a last record is the last one of its key
  last_of : (s : Records) (q : Record) → contains (last_records s) q ≡ true → last s q.key ≡ Some q
  unfolding is_last
  last_of s q h = found (last s q.key) (both_parts (contains s q) (is_last s q) (sym (in_lasts order apart s q) ∙ h)).1
    where
      found : (o : Option Record) → option_map_or (eq_by_cmp record_cmp q) o false ≡ true → o ≡ Some q
      found None e = absurd (false≢true e)
      found (Some x) e = ap Some (sym (equal order apart q x e))

  is_last_one : (s : Records) (q : Record) → contains s q ≡ true → last s q.key ≡ Some q → contains (last_records s) q ≡ true
  unfolding is_last
  is_last_one s q here is =
      in_lasts order apart s q
      ∙ (ap (λ b. b && is_last s q) here ∙ (ap (λ o. option_map_or (eq_by_cmp record_cmp q) o false) is ∙ itself order apart q))

  module _ (whole lasts after : Records) (older batch : List Record)
      (kept_is : whole ≡ kept_of lasts older) (lasts_are : lasts ≡ last_records whole)
      (after_are : after ≡ last_records (union whole (from_list batch))) where
    abbrev pub more : List Record
    more = older ++ (lasts_at lasts batch ++ batch)

    in_whole : (q : Record) → contains whole q ≡ (contains lasts q || contains (from_list {R = record_cmp} older) q)
    in_whole q = ap (λ (s : Records). contains s q) kept_is ∙ is_kept order apart lasts older q

    in_union : (q : Record)
        → contains (union whole (from_list batch)) q ≡ (contains whole q || contains (from_list {R = record_cmp} batch) q)
    in_union q = contains-union order whole (from_list batch) q

    was_whole : (q : Record) → contains lasts q ≡ true → contains (union whole (from_list batch)) q ≡ true
    was_whole q h = in_union q ∙ left_true (contains whole q) _ (in_whole q ∙ left_true (contains lasts q) _ h)

    there : (q : Record) → contains (kept_of after more) q ≡ true → contains (union whole (from_list batch)) q ≡ true
    there q h =
        elim (or_case (contains after q) (contains (from_list {R = record_cmp} more) q) (sym (is_kept order apart after more q) ∙ h)) [
          | inl last ↦ (
              both_parts (contains (union whole (from_list batch)) q) (is_last (union whole (from_list batch)) q)
              (sym (in_lasts order apart (union whole (from_list batch)) q)
              ∙ (ap (λ (s : Records). contains s q) (sym after_are) ∙ last))).0
          | inr listed ↦ elim (
              any_either (eq_by_cmp record_cmp q) older (lasts_at lasts batch ++ batch) (sym (in_list order apart more q) ∙ listed)) [
                | inl old ↦ in_union q
                    ∙ left_true (contains whole q) _ (in_whole q ∙ right (contains lasts q) _ (in_list order apart older q ∙ old))
                | inr new ↦ elim (any_either (eq_by_cmp record_cmp q) (lasts_at lasts batch) batch new) [
                  | inl was ↦ was_whole q (were_last lasts batch q was)
                  | inr is ↦ in_union q ∙ right (contains whole q) _ (in_list order apart batch q ∙ is)
                ]
              ]
        ]

    listed : (q : Record) → list_any (eq_by_cmp record_cmp q) more ≡ true → contains (kept_of after more) q ≡ true
    listed q h = is_kept order apart after more q ∙ right (contains after q) _ (in_list order apart more q ∙ h)

    was_last : (q : Record) → contains lasts q ≡ true → contains (kept_of after more) q ≡ true
    was_last q h =
        let whole_last : last whole q.key ≡ Some q = last_of whole q (ap (λ (s : Records). contains s q) (sym lasts_are) ∙ h) in
        let its_last : last lasts q.key ≡ Some q = ap (λ s. last s q.key) lasts_are ∙ (of_lasts whole q.key ∙ whole_last) in
        elim (is_among q.key batch) as (λ b. is_among q.key batch ≡ b → contains (kept_of after more) q ≡ true) [
          | true ↦ λ e.
              listed q (
              any_right (eq_by_cmp record_cmp q) older (lasts_at lasts batch ++ batch)
              (any_left (eq_by_cmp record_cmp q) (lasts_at lasts batch) batch (is_listed lasts batch q its_last e)))
          | false ↦ λ e.
              let still : last (union whole (from_list batch)) q.key ≡ Some q =
              of_union whole (from_list batch) q.key
              ∙ (ap (λ o. later o (last (from_list batch) q.key)) whole_last ∙ ap (later (Some q)) (no_last batch q.key e)) in
              is_kept order apart after more q
              ∙ left_true (contains after q) _
              (ap (λ (s : Records). contains s q) after_are ∙ is_last_one (union whole (from_list batch)) q (was_whole q h) still)
        ] refl

    here : (q : Record) → contains (union whole (from_list batch)) q ≡ true → contains (kept_of after more) q ≡ true
    here q h = elim (or_case (contains whole q) (contains (from_list {R = record_cmp} batch) q) (sym (in_union q) ∙ h)) [
      | inr new ↦ listed q (
          any_right (eq_by_cmp record_cmp q) older (lasts_at lasts batch ++ batch)
          (any_right (eq_by_cmp record_cmp q) (lasts_at lasts batch) batch (sym (in_list order apart batch q) ∙ new)))
      | inl old ↦ elim (or_case (contains lasts q) (contains (from_list {R = record_cmp} older) q) (sym (in_whole q) ∙ old)) [
        | inl last ↦ was_last q last
        | inr among ↦ listed q (
            any_left (eq_by_cmp record_cmp q) older (lasts_at lasts batch ++ batch) (sym (in_list order apart older q) ∙ among))
      ]
    ]

    -- what was last before the batch stays kept beside what is last after it
    pub grown_is : kept_of after more ≡ union whole (from_list batch)
    grown_is =
        same_set order apart (kept_of after more) (union whole (from_list batch))
        (λ q. alike (contains (kept_of after more) q) (contains (union whole (from_list batch)) q) (there q) (here q))
