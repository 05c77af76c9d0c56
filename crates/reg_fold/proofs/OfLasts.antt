-- The entries are those that the last records give.
use Rattle.std.proofs.Common.{◌≡◌, ℕ, zero, suc, ◌<◌, Bool, true, false, cond, T, ◌&&◌, List, [], ◌∷◌, length}
use Rattle.std.proofs.Common.{get_or, map, Option, Some, None, option_and_then, refl, sym, ap, ◌∙◌, arith}
use Rattle.std.proofs.lemmas.Bool.{false≢true}
use Rattle.std.proofs.lemmas.Cmp.{tied_itself}
use Rattle.std.specs.Cmp.{IsTotalOrder}
use Rattle.std.specs.FinMap as finmap
use Rattle.std.specs.FinMap.Entries.{find, below_all, is_sorted}
use Rattle.std.specs.FinSet as set
use Rattle.std.specs.FinSet.{IsAntisymmetric, contains, retain, contains-retain}
use Rattle.std.specs.List.{Contains}
use Rattle.std.specs.Option.{option_map_or, unwrap_or}
use Rattle.std.specs.Ordering.{eq_by_cmp, is_eq, is_lt}
use Rattle.std.specs.declared.cmp.Ordering.{Ordering}
use Rattle.std.specs.declared.cmp.Ordering.TheVariants.{Less, Equal, Greater}
use Rattle.reg_values.specs.reg_records.declared.key.Key.TheVariants as keys
use Rattle.reg_values.specs.reg_records.declared.record.Record.{Record}
use Rattle.reg_set.specs.Join.{LastIsGreatest, LastRecordsKeepLasts, LastRecordsOfPart}
use Rattle.reg_set.specs.LastRecords.{last, is_last, last_records}
use Rattle.reg_set.specs.RecordOrder.{record_cmp}
use Rattle.reg_set.specs.Records.{Records}
use Rattle.reg_fold.specs.Entries.{AreOfLasts, IsOfLast, entries, entry_map, entry_of}
use Rattle.reg_entries.specs.EntryOrder.{Place, place_cmp, place_of}
use Rattle.reg_fold.specs.Step.{EntriesAreOfLasts}
use Rattle.reg_entries.specs.declared.entry.Entry.{Entry}
use Rattle.reg_fold.proofs.Placed.{ArePlaced, entry_map-placed, place_cmp-ties, place_cmp-total}
use Rattle.reg_fold.proofs.Places.{entry_of-key, equal}

-- where two tests hold, each of them does
left_of : (a b : Bool) → T (a && b) → T a
left_of true b h = tt
left_of false b h = h

right_of : (a b : Bool) → T (a && b) → T b
right_of true b h = h
right_of false b h = absurd h

-- what passes the test for Less is Less
less : (o : Ordering) → T (is_lt o) → o ≡ Less
less Less h = refl
less Equal h = absurd h
less Greater h = absurd h

-- the last records have no others
pub last_records-last_records : LastRecordsKeepLasts → LastRecordsOfPart
    → (rs : Records) → last_records (last_records rs) ≡ last_records rs
last_records-last_records compaction same rs = same (last_records rs) rs (compaction rs)

-- no record is the last of no key
pub last_records-empty : IsTotalOrder record_cmp → IsAntisymmetric record_cmp → last_records set.empty ≡ set.empty
unfolding last_records
last_records-empty total ties =
    set.same_set total ties (retain set.empty (is_last set.empty)) set.empty (λ q.
    contains-retain set.empty (is_last set.empty) q (λ x tie. ap (is_last set.empty) (sym (ties q x tie)))
    ∙ ap (λ b. b && is_last set.empty q) (set.contains-empty record_cmp q) ∙ sym (set.contains-empty record_cmp q))

none_some : {A : Type 0} (x : A) → None ≡ Some x → ⊥
none_some x e = cc

second_of : (a b : Bool) → (a && b) ≡ true → b ≡ true
second_of true b h = h
second_of false b h = absurd (false≢true h)

module _ (total : IsTotalOrder record_cmp) (ties : IsAntisymmetric record_cmp) (S : Records) (are_last : last_records S ≡ S) where
  -- a record of a set of last records is the last of its key
  pub last_of_itself : (r : Record) → contains S r ≡ true → last S r.key ≡ Some r
  unfolding last_records is_last
  last_of_itself r inside =
      let kept : contains (retain S (is_last S)) r ≡ true = ap (λ s. contains s r) are_last ∙ inside in
      let alike : (x : Record) → record_cmp r x ≡ Equal → is_last S x ≡ is_last S r = λ x tie. ap (is_last S) (sym (ties r x tie)) in
      let is : is_last S r ≡ true = second_of (contains S r) (is_last S r) (sym (contains-retain S (is_last S) r alike) ∙ kept) in
      elim (last S r.key) as (λ o. option_map_or (eq_by_cmp record_cmp r) o false ≡ true → o ≡ Some r) [
        | None ↦ λ h. absurd (false≢true h)
        | Some q ↦ λ h. ap Some (sym (ties r q (equal _ h)))
      ] is

-- an entry that is found at a place is among the entries
pub Contains-find : (es : List (Place × Entry)) (q : Place) (e : Entry) → find place_cmp q es ≡ Some e → Contains (map (λ x. x.1) es) e
Contains-find [] q e is = absurd (none_some e is)
Contains-find (f ∷ fs) q e is =
    elim (eq_by_cmp place_cmp q f.0) as (λ b. cond b (Some f.1) (find place_cmp q fs) ≡ Some e → Contains (map (λ x. x.1) (f ∷ fs)) e) [
      | true ↦ λ is. (0, omega arith, ap (λ o. unwrap_or o e) is)
      | false ↦ λ is.
          let (k, within, at) = Contains-find fs q e is in
          (suc k, omega arith, at)
    ] is

-- below all places none is found
find-below : (q : Place) (fs : List (Place × Entry)) → T (below_all place_cmp q fs) → find place_cmp q fs ≡ None
find-below q [] h = refl
find-below q (f ∷ fs) h =
    ap (λ o. cond (is_eq o) (Some f.1) (find place_cmp q fs)) (less _ (left_of _ _ h))
    ∙ find-below q fs (right_of (is_lt (place_cmp q f.0)) _ h)

-- an entry among sorted ones is found at its place
pub find-contained : (es : List (Place × Entry)) (e : Entry) → ArePlaced es → T (is_sorted place_cmp es) → (k : ℕ)
    → k < length (map (λ x. x.1) es) → get_or (map (λ x. x.1) es) k e ≡ e → find place_cmp (place_of e) es ≡ Some e
find-contained [] e placed sorted k within at = absurd (omega arith)
find-contained (f ∷ fs) e placed sorted zero within at =
    let here : place_of e ≡ f.0 = sym (placed.0 ∙ ap place_of at) in
    ap (λ p. cond (eq_by_cmp place_cmp (place_of e) p) (Some f.1) (find place_cmp (place_of e) fs)) (sym here)
    ∙ ap (λ o. cond (is_eq o) (Some f.1) (find place_cmp (place_of e) fs)) (tied_itself place_cmp-total (place_of e)) ∙ ap Some at
find-contained (f ∷ fs) e placed sorted (suc k) within at =
    let later = find-contained fs e placed.1 (right_of (below_all place_cmp f.0 fs) _ sorted) k (omega arith) at in
    elim (eq_by_cmp place_cmp (place_of e) f.0) as (λ b.
    eq_by_cmp place_cmp (place_of e) f.0 ≡ b → cond b (Some f.1) (find place_cmp (place_of e) fs) ≡ Some e) [
      | true ↦ λ tie.
          let same : place_of e ≡ f.0 = place_cmp-ties (place_of e) f.0 (equal _ tie) in
          absurd (none_some e (sym (find-below f.0 fs (left_of _ _ sorted)) ∙ ap (λ p. find place_cmp p fs) (sym same) ∙ later))
      | false ↦ λ _. later
    ] refl

pub and_then_some : {A B : Type 0} (f : A → Option B) (o : Option A) (b : B)
    → option_and_then f o ≡ Some b → (a : A) × (o ≡ Some a) × (f a ≡ Some b)
and_then_some f None b is = absurd (none_some b is)
and_then_some f (Some a) b is = (a, refl, is)

-- the entries of a set of last records are those that its records give
pub are_of_lasts : LastIsGreatest → (S : Records) → EntriesAreOfLasts S → AreOfLasts S (entries S)
unfolding entries
are_of_lasts greatest S of_lasts e = (given, gives)
  where
    at_place : finmap.get (entry_map S) (place_of e) ≡ option_and_then (entry_of S) (last S (keys.Schema e.subject e.version))
    at_place = of_lasts (place_of e)

    given : Contains (entries S) e → IsOfLast S e
    given has =
        let (k, within, at) = has in
        let found =
        find-contained (finmap.entries (entry_map S)) e (entry_map-placed S) (finmap.entries_sorted (entry_map S)) k within at in
        let (r, is_last, gives) = and_then_some (entry_of S) (last S (keys.Schema e.subject e.version)) e
        (sym at_place ∙ finmap.get-entries (entry_map S) (place_of e) ∙ found) in
        (keys.Schema e.subject e.version, r, is_last, gives)

    gives : IsOfLast S e → Contains (entries S) e
    gives of_last =
        let (key, r, is, has) = of_last in
        let own : key ≡ keys.Schema e.subject e.version = sym (((greatest S key r).0 is).is_of_key) ∙ entry_of-key S r e has in
        let found : finmap.get (entry_map S) (place_of e) ≡ Some e =
        at_place ∙ ap (λ k. option_and_then (entry_of S) (last S k)) (sym own) ∙ ap (option_and_then (entry_of S)) is ∙ has in
        Contains-find (finmap.entries (entry_map S)) (place_of e) e (sym (finmap.get-entries (entry_map S) (place_of e)) ∙ found)
