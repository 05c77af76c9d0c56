-- The entries of a subject stand by version.
use Rattle.std.proofs.Common.{◌≡◌, ℕ, Bool, true, false, cond, ◌&&◌, T, List, [], ◌∷◌, map, refl, sym, ap, subst, ◌∙◌}
use Rattle.std.proofs.lemmas.Cmp.{tied_itself, nat_list_cmp_total}
use Rattle.std.proofs.lemmas.List.Kept.{IsStrictlySortedBy-filter}
use Rattle.std.proofs.lemmas.Map.Keys.{IsStrictlyIncreasing-from_sorted}
use Rattle.std.proofs.lemmas.Slice.Eq.{bytes_eq-Decides}
use Rattle.std.specs.Cmp.Lexicographic.{slice_cmp}
use Rattle.std.specs.FinMap as finmap
use Rattle.std.specs.FinMap.Entries.{below_all, is_sorted}
use Rattle.std.specs.List.{AllByRecursion, filter}
use Rattle.std.specs.List.Sorted.{IsStrictlySortedBy}
use Rattle.std.specs.Ordering.{is_lt, nat_cmp, on, ordering_then}
use Rattle.std.specs.Prelude.{bytes_eq}
use Rattle.std.specs.declared.cmp.Ordering.{Ordering}
use Rattle.std.specs.declared.cmp.Ordering.TheVariants.{Less, Equal, Greater}
use Rattle.reg_entries.specs.EntryOrder.{Place, place_cmp, place_of}
use Rattle.reg_entries.specs.Sought.{counts}
use Rattle.reg_entries.specs.declared.entry.Entry.{Entry}
use Rattle.reg_fold.specs.Entries.{entries, entry_map}
use Rattle.reg_fold.specs.Standing.{EntriesStandByVersion}
use Rattle.reg_fold.proofs.Placed.{ArePlaced, entry_map-placed}

first : (a b : Bool) → T (a && b) → T a
first true b h = tt
first false b h = h

second : (a b : Bool) → T (a && b) → T b
second true b h = h
second false b h = absurd h

less : (o : Ordering) → T (is_lt o) → o ≡ Less
less Less h = refl
less Equal h = absurd h
less Greater h = absurd h

abbrev by_place : Entry → Entry → Ordering
by_place = on place_of place_cmp

before_all : (p : Place) (kept : List (Place × Entry)) → ArePlaced kept → T (below_all place_cmp p kept)
    → AllByRecursion (λ e. place_cmp p (place_of e) ≡ Less) (map (λ k. k.1) kept)
before_all p [] placed below = tt
before_all p (k ∷ kept) placed below = (
  ap (place_cmp p) (sym placed.0) ∙ less (place_cmp p k.0) (first _ _ below),
  before_all p kept placed.1 (second _ _ below),
)

-- what stands at its own place, by place, stands by the places of entries
in_order : (kept : List (Place × Entry)) → ArePlaced kept → T (is_sorted place_cmp kept) → IsStrictlySortedBy by_place (map (λ k. k.1) kept)
unfolding IsStrictlySortedBy
in_order [] placed sorted = tt
in_order (k ∷ kept) placed sorted = (
  subst (λ p. AllByRecursion (λ e. place_cmp p (place_of e) ≡ Less) (map (λ k. k.1) kept)) placed.0
      (before_all k.0 kept placed.1 (first _ _ sorted)),
  in_order kept placed.1 (second _ _ sorted),
)

module _ (subject : List ℕ) where
  abbrev AreOfSubject : List Entry → Type 0
  AreOfSubject = AllByRecursion (λ e. e.subject ≡ subject)

  smaller : (e f : Entry) → e.subject ≡ subject → f.subject ≡ subject → by_place e f ≡ Less → nat_cmp e.version f.version ≡ Less
  smaller e f one other before =
      let tie : slice_cmp nat_cmp e.subject f.subject ≡ Equal =
      ap (slice_cmp nat_cmp e.subject) (other ∙ sym one) ∙ tied_itself nat_list_cmp_total e.subject in
      sym (ap (λ o. ordering_then o (nat_cmp e.version f.version)) tie) ∙ before

  smaller_than_all : (e : Entry) (es : List Entry) → e.subject ≡ subject → AreOfSubject es → AllByRecursion (λ f. by_place e f ≡ Less) es
      → AllByRecursion (λ n. nat_cmp e.version n ≡ Less) (map (λ f. f.version) es)
  smaller_than_all e [] one all before = tt
  smaller_than_all e (f ∷ fs) one all before = (smaller e f one all.0 before.0, smaller_than_all e fs one all.1 before.1)

  versions_sorted : (es : List Entry) → AreOfSubject es → IsStrictlySortedBy by_place es → IsStrictlySortedBy nat_cmp (map (λ e. e.version) es)
  unfolding IsStrictlySortedBy
  versions_sorted [] all sorted = tt
  versions_sorted (e ∷ es) all sorted = (smaller_than_all e es all.0 all.1 sorted.0, versions_sorted es all.1 sorted.1)

  of_the_subject : (es : List Entry) → AreOfSubject (filter (λ e. bytes_eq e.subject subject) es)
  of_the_subject [] = tt
  of_the_subject (e ∷ es) =
      elim (bytes_eq e.subject subject) as (λ b. bytes_eq e.subject subject ≡ b
      → AreOfSubject (cond b (e ∷ filter (λ e. bytes_eq e.subject subject) es) (filter (λ e. bytes_eq e.subject subject) es))) [
        | true ↦ λ same. ((bytes_eq-Decides e.subject subject).0 same, of_the_subject es)
        | false ↦ λ _. of_the_subject es
      ] refl

  still_of_it : (p : Entry → Bool) (es : List Entry) → AreOfSubject es → AreOfSubject (filter p es)
  still_of_it p [] all = tt
  still_of_it p (e ∷ es) all =
      elim (p e) as (λ b. AreOfSubject (cond b (e ∷ filter p es) (filter p es))) [
        | true ↦ (all.0, still_of_it p es all.1)
        | false ↦ still_of_it p es all.1
      ]

pub stand_by_version : EntriesStandByVersion
unfolding entries
stand_by_version rs subject deleted =
    let m = entry_map rs in
    let all : List Entry = finmap.values m in
    let own : List Entry = filter (λ e. bytes_eq e.subject subject) all in
    let sorted : IsStrictlySortedBy by_place all = in_order (finmap.entries m) (entry_map-placed rs) (finmap.entries_sorted m) in
    IsStrictlyIncreasing-from_sorted (map (λ e. e.version) (filter (counts deleted) own))
    (versions_sorted subject (filter (counts deleted) own) (still_of_it subject (counts deleted) own (of_the_subject subject all))
    (IsStrictlySortedBy-filter by_place (counts deleted) own
    (IsStrictlySortedBy-filter by_place (λ e. bytes_eq e.subject subject) all sorted)))
