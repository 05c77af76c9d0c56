-- What a sorted list of entries has, by what is found in it.
use Rattle.std.proofs.Common.{◌≡◌, ℕ, ◌<◌, ◌^◌, Bool, true, false, cond, not, ◌&&◌, List, [], ◌∷◌, map}
use Rattle.std.proofs.Common.{Option, Some, None, refl, sym, ap, subst, ◌∙◌, inl, inr, arith}
use Rattle.std.proofs.lemmas.Bool.{false≢true}
use Rattle.std.proofs.lemmas.Bool.Decides.{nat_tests}
use Rattle.std.proofs.lemmas.Cmp.{tied_itself, nat_list_cmp_total}
use Rattle.std.proofs.lemmas.Map.Keys.{IsStrictlyIncreasing-from_sorted}
use Rattle.std.proofs.lemmas.Slice.Eq.{bytes_eq-Decides}
use Rattle.std.specs.BTreeMap.{BTreeMap, IsOrdered, is_at}
use Rattle.std.specs.BTreeMap.Range.{range_contains}
use Rattle.std.specs.Cmp.Lexicographic.{slice_cmp}
use Rattle.std.specs.FinMap.{slice_cmp-IsAntisymmetric, nat_cmp-IsAntisymmetric}
use Rattle.std.specs.List.{dedup, dedup_from, filter, AllByRecursion}
use Rattle.std.specs.List.Sorted.{IsStrictlySortedBy}
use Rattle.std.specs.Map.{keys_of, values_of, lookup}
use Rattle.std.specs.Ordering.{is_eq, is_gt, is_le, is_lt, nat_cmp, ordering_then}
use Rattle.std.specs.Prelude.{bytes_eq, IfSome}
use Rattle.std.specs.declared.cmp.Ordering.{Ordering}
use Rattle.std.specs.declared.cmp.Ordering.TheVariants.{Less, Equal, Greater}
use Rattle.std.specs.declared.ops.Bound.TheVariants.{Included}
use Rattle.reg_entries.specs.EntryOrder.{Place, place_cmp, place_of, IsInOrder}
use Rattle.reg_entries.specs.Index.{IsAt, ArePlaced}
use Rattle.reg_entries.specs.Sought.{AreInVersionOrder}
use Rattle.reg_entries.specs.declared.entry.Entry.{Entry}
use Rattle.reg_entries.proofs.Chosen.{IsIn}
use Rattle.reg_entries.proofs.Places.{place_cmp-total, same_place}

none_found : (p : Place) (es : List (Place × Entry))
    → AllByRecursion (λ q. place_cmp p q ≡ Less) (keys_of es) → lookup (is_at (place_cmp p)) es ≡ None
none_found p [] h = refl
none_found p (e ∷ es) h = ap (λ o. cond (is_eq o) (Some e.1) (lookup (is_at (place_cmp p)) es)) h.0 ∙ none_found p es h.1

pub not_both : {X : Type 0} (x : X) (o : Option X) → o ≡ Some x → o ≡ None → ⊥
not_both x o a b = absurd (cc)

-- what is true of all that is found is true of all entries
pub all_found : (P : Place → Entry → Type 0) (es : List (Place × Entry)) → IsStrictlySortedBy place_cmp (keys_of es)
    → ((q : Place) (e : Entry) → lookup (is_at (place_cmp q)) es ≡ Some e → P q e) → AllByRecursion (λ e. P e.0 e.1) es
unfolding IsStrictlySortedBy
all_found P [] s f = tt
all_found P (e ∷ es) s f = (
  f e.0 e.1 (ap (λ o. cond (is_eq o) (Some e.1) (lookup (is_at (place_cmp e.0)) es)) (tied_itself place_cmp-total e.0)),
  all_found P es s.1 (λ q v found. f q v (later q v found)),
)
  where
    later : (q : Place) (v : Entry) → lookup (is_at (place_cmp q)) es ≡ Some v → lookup (is_at (place_cmp q)) (e ∷ es) ≡ Some v
    later q v found =
        elim (is_eq (place_cmp q e.0)) as (λ b.
        is_eq (place_cmp q e.0) ≡ b → cond b (Some e.1) (lookup (is_at (place_cmp q)) es) ≡ Some v) [
          | true ↦ λ h. absurd (not_both v _ found (ap (λ p. lookup (is_at (place_cmp p)) es) (same_place q e.0 h) ∙ none_found e.0 es s.0))
          | false ↦ λ h. found
        ] refl

-- what is found is an entry
pub in_values : (q : Place) (v : Entry) (es : List (Place × Entry)) → lookup (is_at (place_cmp q)) es ≡ Some v → IsIn v (values_of es)
in_values q v [] h = absurd (cc)
in_values q v (e ∷ es) h =
    elim (is_eq (place_cmp q e.0)) as (λ b. cond b (Some e.1) (lookup (is_at (place_cmp q)) es) ≡ Some v → IsIn v (values_of (e ∷ es))) [
      | true ↦ λ same. inl (inside same)
      | false ↦ λ found. inr (in_values q v es found)
    ] h
  where
    inside : Some e.1 ≡ Some v → e.1 ≡ v
    inside same = cc

-- each entry is kept at its own place
abbrev pub AreAtPlaces : List (Place × Entry) → Type 0
AreAtPlaces = AllByRecursion (λ e. IsAt e.0 e.1)

-- the entry at a place of a list of them
abbrev pub found_at : List (Place × Entry) → Place → Option Entry
found_at es p = lookup (is_at (place_cmp p)) es

abbrev pub AreFoundAtPlaces : List (Place × Entry) → Type 0
AreFoundAtPlaces es = (p : Place) → IfSome (found_at es p) (IsAt p)

pub found_own : (es : List (Place × Entry)) → AreFoundAtPlaces es → (p : Place) (e : Entry) → found_at es p ≡ Some e → place_of e ≡ p
found_own es placed p e found = (subst (λ o. IfSome o (IsAt p)) found (placed p)).0

pub all_at_places : (es : List (Place × Entry)) → IsStrictlySortedBy place_cmp (keys_of es) → AreFoundAtPlaces es → AreAtPlaces es
all_at_places es s placed = all_found IsAt es s (λ q e found. subst (λ o. IfSome o (IsAt q)) found (placed q))

pub at_places : (m : BTreeMap Place Entry) → IsOrdered place_cmp m → ArePlaced m → AreAtPlaces m.entries
at_places m s placed = all_at_places m.entries s placed

before_all : (p : Place) (es : List (Place × Entry)) → AreAtPlaces es → AllByRecursion (λ q. place_cmp p q ≡ Less) (keys_of es)
    → AllByRecursion (λ e. place_cmp p (place_of e) ≡ Less) (values_of es)
before_all p [] h s = tt
before_all p (e ∷ es) h s = (ap (place_cmp p) h.0.0 ∙ s.0, before_all p es h.1 s.1)

-- the entries are in order
pub values_in_order : (es : List (Place × Entry)) → AreAtPlaces es → IsStrictlySortedBy place_cmp (keys_of es) → IsInOrder (values_of es)
unfolding IsStrictlySortedBy
values_in_order [] h s = tt
values_in_order (e ∷ es) h s = (
  before_all (place_of e.1) es h.1 (subst (λ p. AllByRecursion (λ q. place_cmp p q ≡ Less) (keys_of es)) (sym h.0.0) s.0),
  values_in_order es h.1 s.1,
)

module _ (subject : List ℕ) (p : Entry → Bool) (of_subject : (e : Entry) → p e ≡ true → e.subject ≡ subject) where
  smaller : (e f : Entry) → p e ≡ true → p f ≡ true → place_cmp (place_of e) (place_of f) ≡ Less → nat_cmp e.version f.version ≡ Less
  smaller e f one other before =
      let same : e.subject ≡ f.subject = of_subject e one ∙ sym (of_subject f other) in
      let tie : slice_cmp nat_cmp e.subject f.subject ≡ Equal =
      ap (slice_cmp nat_cmp e.subject) (sym same) ∙ tied_itself nat_list_cmp_total e.subject in
      sym (ap (λ o. ordering_then o (nat_cmp e.version f.version)) tie) ∙ before

  smaller_than_all : (e : Entry) (es : List Entry) → p e ≡ true → AllByRecursion (λ f. place_cmp (place_of e) (place_of f) ≡ Less) es
      → AllByRecursion (λ n. nat_cmp e.version n ≡ Less) (map (λ f. f.version) (filter p es))
  smaller_than_all e [] one h = tt
  smaller_than_all e (f ∷ fs) one h =
      let rest = smaller_than_all e fs one h.1 in
      elim (p f) as (λ b.
      p f ≡ b → AllByRecursion (λ n. nat_cmp e.version n ≡ Less) (map (λ f. f.version) (cond b (f ∷ filter p fs) (filter p fs)))) [
        | true ↦ λ other. (smaller e f one other h.0, rest)
        | false ↦ λ _. rest
      ] refl

  pub rising : (es : List Entry) → IsInOrder es → IsStrictlySortedBy nat_cmp (map (λ e. e.version) (filter p es))
  unfolding IsStrictlySortedBy
  rising [] h = tt
  rising (e ∷ es) h =
      let rest = rising es h.1 in
      elim (p e) as (λ b. p e ≡ b → IsStrictlySortedBy nat_cmp (map (λ e. e.version) (cond b (e ∷ filter p es) (filter p es)))) [
        | true ↦ λ one. (smaller_than_all e es one h.0, rest)
        | false ↦ λ _. rest
      ] refl

  -- the versions of entries of one subject rise
  pub versions_rise : (es : List Entry) → IsInOrder es → AreInVersionOrder (filter p es)
  versions_rise es h = IsStrictlyIncreasing-from_sorted _ (rising es h)

at_least_zero : (v : ℕ) → is_le (nat_cmp 0 v) ≡ true
at_least_zero v = grind (arith, nat_tests)

at_most_last : (v : ℕ) → v < 2 ^ 32 → is_lt (nat_cmp 4294967295 v) ≡ false
at_most_last v h = grind (arith, nat_tests)

both_true : (a b : Bool) → a ≡ true → b ≡ false → (a && not b) ≡ true
both_true true false h k = refl
both_true true true h k = absurd (false≢true (sym k))
both_true false b h k = absurd (false≢true h)

abbrev answer : ℕ → Ordering → Bool
answer v o = is_le (ordering_then o (nat_cmp 0 v)) && not (is_lt (ordering_then o (nat_cmp 4294967295 v)))

-- a place is between the first and the last of a subject exactly where it is of the subject
in_subject : (s : List ℕ) (q : Place) → q.1 < 2 ^ 32
    → range_contains place_cmp (Included (s, 0)) (Included (s, 4294967295)) q ≡ bytes_eq q.0 s
in_subject s q fits = by_order (slice_cmp nat_cmp s q.0) refl
  where
    different : ¬ (q.0 ≡ s) → bytes_eq q.0 s ≡ false
    different apart =
        elim (bytes_eq q.0 s) as (λ b.
        bytes_eq q.0 s ≡ b → b ≡ false) [ true ↦ λ h. absurd (apart ((bytes_eq-Decides q.0 s).0 h)) | false ↦ λ h. refl ] refl

    untied : (o : Ordering) → slice_cmp nat_cmp s q.0 ≡ o → is_eq o ≡ false → ¬ (q.0 ≡ s)
    untied o is h same = false≢true (sym h ∙ ap is_eq (sym is ∙ ap (slice_cmp nat_cmp s) same ∙ tied_itself nat_list_cmp_total s))

    by_order : (o : Ordering) → slice_cmp nat_cmp s q.0 ≡ o → answer q.1 (slice_cmp nat_cmp s q.0) ≡ bytes_eq q.0 s
    by_order Less is = ap (answer q.1) is ∙ sym (different (untied Less is refl))
    by_order Equal is =
        ap (answer q.1) is ∙ both_true _ _ (at_least_zero q.1) (at_most_last q.1 fits)
        ∙ sym ((bytes_eq-Decides q.0 s).1 (sym (slice_cmp-IsAntisymmetric nat_cmp-IsAntisymmetric s q.0 is)))
    by_order Greater is = ap (answer q.1) is ∙ sym (different (untied Greater is refl))

-- the entries between the first and the last place of a subject are those of the subject
pub between_is_subject : (s : List ℕ) (es : List (Place × Entry)) → AreAtPlaces es
    → values_of (filter (λ e. range_contains place_cmp (Included (s, 0)) (Included (s, 4294967295)) e.0) es)
    ≡ filter (λ e. bytes_eq e.subject s) (values_of es)
between_is_subject s [] h = refl
between_is_subject s (e ∷ es) h =
    let rest = between_is_subject s es h.1 in
    let same : range_contains place_cmp (Included (s, 0)) (Included (s, 4294967295)) e.0 ≡ bytes_eq e.1.subject s =
    in_subject s e.0 h.0.1 ∙ ap (λ (p : Place). bytes_eq p.0 s) (sym h.0.0) in
    let kept = filter (λ (f : Place × Entry). range_contains place_cmp (Included (s, 0)) (Included (s, 4294967295)) f.0) es in
    ap (λ b. values_of (cond b (e ∷ kept) kept)) same
    ∙ elim (bytes_eq e.1.subject s) as (λ b.
    values_of (cond b (e ∷ kept) kept)
    ≡ cond b (e.1 ∷ filter (λ e. bytes_eq e.subject s) (values_of es)) (filter (λ e. bytes_eq e.subject s) (values_of es))) [
      | true ↦ ap (λ ys. e.1 ∷ ys) rest
      | false ↦ rest
    ]

-- the first place of a subject isn't after the last
pub forward : (s : List ℕ) → is_gt (place_cmp (s, 0) (s, 4294967295)) ≡ false
forward s = ap (λ o. is_gt (ordering_then o (nat_cmp 0 4294967295))) (tied_itself nat_list_cmp_total s)

pub map_filter : {X Y : Type 0} (f : X → Y) (p : Y → Bool) (xs : List X) → map f (filter (λ x. p (f x)) xs) ≡ filter p (map f xs)
map_filter f p [] = refl
map_filter f p (x ∷ xs) =
    let rest = map_filter f p xs in
    elim (p (f x)) as (λ b.
    map f (cond b (x ∷ filter (λ x. p (f x)) xs) (filter (λ x. p (f x)) xs))
    ≡ cond b (f x ∷ filter p (map f xs)) (filter p (map f xs))) [ true ↦ ap (λ ys. f x ∷ ys) rest | false ↦ rest ]

pub filter_filter : {X : Type 0} (p q : X → Bool) (xs : List X) → filter q (filter p xs) ≡ filter (λ x. p x && q x) xs
filter_filter p q [] = refl
filter_filter {X} p q (x ∷ xs) =
    let rest = filter_filter p q xs in
    elim (p x) as (λ b.
    filter q (cond b (x ∷ filter p xs) (filter p xs))
    ≡ cond (b && q x) (x ∷ filter (λ x. p x && q x) xs) (filter (λ x. p x && q x) xs)) [
      | true ↦ elim (q x) as (λ b.
          cond b (x ∷ filter q (filter p xs)) (filter q (filter p xs))
          ≡ cond b (x ∷ filter (λ x. p x && q x) xs) (filter (λ x. p x && q x) xs)) [ true ↦ ap (λ ys. x ∷ ys) rest | false ↦ rest ]
      | false ↦ rest
    ]

pub left_of : (a b : Bool) → (a && b) ≡ true → a ≡ true
left_of true b h = refl
left_of false b h = h

pub map_map : {X Y Z : Type 0} (f : X → Y) (g : Y → Z) (xs : List X) → map (λ x. g (f x)) xs ≡ map g (map f xs)
map_map f g [] = refl
map_map f g (x ∷ xs) = ap (λ ys. g (f x) ∷ ys) (map_map f g xs)

pub map-dedup : {X Y : Type 0} (f : X → Y) (same : Y → Y → Bool) (xs : List X)
    → map f (dedup (λ x y. same (f x) (f y)) xs) ≡ dedup same (map f xs)
map-dedup f same [] = refl
map-dedup {X} f same (x ∷ xs) = from x xs
  where
    from : (k : X) (xs : List X) → map f (dedup_from (λ x y. same (f x) (f y)) k xs) ≡ dedup_from same (f k) (map f xs)
    from k [] = refl
    from k (x ∷ xs) = either (same (f x) (f k)) (from k xs) (from x xs)
      where
        either : (b : Bool) → map f (dedup_from (λ x y. same (f x) (f y)) k xs) ≡ dedup_from same (f k) (map f xs)
            → map f (dedup_from (λ x y. same (f x) (f y)) x xs) ≡ dedup_from same (f x) (map f xs)
            → map f (cond b (dedup_from (λ x y. same (f x) (f y)) k xs) (k ∷ dedup_from (λ x y. same (f x) (f y)) x xs))
            ≡ cond b (dedup_from same (f k) (map f xs)) (f k ∷ dedup_from same (f x) (map f xs))
        either true stays moves = stays
        either false stays moves = ap (λ ys. f k ∷ ys) moves
