-- The entry that stands at a place, by the last record of its key.
use Rattle.std.proofs.Common.{◌≡◌, ℕ, Bool, true, false, cond, ◌||◌, ◌⊎◌, inl, inr, ⊎_elim, List, []}
use Rattle.std.proofs.Common.{◌∷◌, Option, Some, None, option_and_then, refl, sym, ap, ◌∙◌}
use Rattle.std.proofs.lemmas.Bool.{false≢true}
use Rattle.std.proofs.lemmas.Cmp.{tied_itself}
use Rattle.std.specs.Cmp.{IsTotalOrder}
use Rattle.std.specs.FinMap as finmap
use Rattle.std.specs.FinSet.{IsAntisymmetric, contains, contains-items, items}
use Rattle.std.specs.List.{cons_option, filter_map, fold, list_any}
use Rattle.std.specs.Option.{option_or, unwrap_or}
use Rattle.std.specs.Ordering.{eq_by_cmp, is_eq, match_ordering}
use Rattle.std.specs.declared.cmp.Ordering.{Ordering}
use Rattle.std.specs.declared.cmp.Ordering.TheVariants.{Less, Equal, Greater}
use Rattle.reg_values.specs.reg_records.declared.key.Key.{Key}
use Rattle.reg_values.specs.reg_records.declared.key.Key.TheVariants as keys
use Rattle.reg_values.specs.reg_records.declared.record.Record.{Record}
use Rattle.reg_set.specs.Join.{LastIsGreatest}
use Rattle.reg_set.specs.LastRecords.{last}
use Rattle.reg_set.specs.RecordOrder.{record_cmp}
use Rattle.reg_set.specs.Records.{Records, in_order, records_of}
use Rattle.reg_set.specs.Records.{placed as placed_record}
use Rattle.reg_fold.specs.Entries.{entry_of, entry_map}
use Rattle.reg_entries.specs.EntryOrder.{Place, place_cmp, place_of}
use Rattle.reg_entries.specs.declared.entry.Entry.{Entry}
use Rattle.reg_fold.proofs.Placed.{place_cmp-ties, place_cmp-total, placed}
use Rattle.reg_fold.proofs.Values.{entry_of-under}

pub equal : (o : Ordering) → is_eq o ≡ true → o ≡ Equal
equal Less h = absurd (false≢true h)
equal Equal h = refl
equal Greater h = absurd (false≢true h)

-- an entry stands at the place of its record's key
pub entry_of-key : (rs : Records) (r : Record) (e : Entry) → entry_of rs r ≡ Some e → r.key ≡ keys.Schema e.subject e.version
entry_of-key rs r e is = (entry_of-under rs r e is).0

abbrev pub subject_of : Key → List ℕ
subject_of (keys.Schema subject version) = subject
subject_of (keys.Config scope) = []
subject_of (keys.Mode scope) = []
subject_of (keys.DeleteSubject subject) = []
subject_of keys.Noop = []
subject_of keys.IdMark = []

abbrev pub version_of : Key → ℕ
version_of (keys.Schema subject version) = version
version_of (keys.Config scope) = 0
version_of (keys.Mode scope) = 0
version_of (keys.DeleteSubject subject) = 0
version_of keys.Noop = 0
version_of keys.IdMark = 0

module _ (h : Record → Option Entry)
    (keyed : (r : Record) (e : Entry) → h r ≡ Some e → r.key ≡ keys.Schema e.subject e.version) (p : Place) where
  -- the entry, if it stands at the place
  abbrev here : Entry → Option Entry
  here e = cond (eq_by_cmp place_cmp p (place_of e)) (Some e) None

  -- the last of the entries of a list that stands at the place
  abbrev found : List Record → Option Entry
  found [] = None
  found (x ∷ xs) = option_or (found xs) (option_and_then here (h x))

  or_assoc : (a b c : Option Entry) → option_or a (option_or b c) ≡ option_or (option_or a b) c
  or_assoc None b c = refl
  or_assoc (Some a) b c = refl

  or_none : (o : Option Entry) → option_or o None ≡ o
  or_none None = refl
  or_none (Some x) = refl

  get-fold : (xs : List Record) (m : finmap.FinMap place_cmp Entry)
      → finmap.get (fold placed m (filter_map h xs)) p ≡ option_or (found xs) (finmap.get m p)
  get-fold [] m = refl
  get-fold (x ∷ xs) m =
      elim (h x) as (λ o.
      finmap.get (fold placed m (cons_option o (filter_map h xs))) p
      ≡ option_or (option_or (found xs) (option_and_then here o)) (finmap.get m p)) [
        | None ↦ get-fold xs m ∙ ap (λ o. option_or o (finmap.get m p)) (sym (or_none (found xs)))
        | Some e ↦ get-fold xs (placed m e)
            ∙ ap (option_or (found xs))
            (finmap.get-insert place_cmp-total m (place_of e) e p ∙ chosen (eq_by_cmp place_cmp p (place_of e)) e (finmap.get m p))
            ∙ or_assoc (found xs) (here e) (finmap.get m p)
      ]
    where
      chosen : (b : Bool) (e : Entry) (o : Option Entry) → cond b (Some e) o ≡ option_or (cond b (Some e) None) o
      chosen true e o = refl
      chosen false e o = refl

  of_other_key : (x : Record) → ¬ (x.key ≡ keys.Schema p.0 p.1) → option_and_then here (h x) ≡ None
  of_other_key x apart =
      elim (h x) as (λ o. h x ≡ o → option_and_then here o ≡ None) [
        | None ↦ λ _. refl
        | Some e ↦ λ is.
            elim (eq_by_cmp place_cmp p (place_of e)) as (λ b. eq_by_cmp place_cmp p (place_of e) ≡ b → cond b (Some e) None ≡ None) [
              | true ↦ λ t. absurd (apart (keyed x e is ∙ ap (λ q. keys.Schema q.0 q.1) (sym (place_cmp-ties p (place_of e) (equal _ t)))))
              | false ↦ λ _. refl
            ] refl
      ] refl

  of_its_key : (q : Record) → q.key ≡ keys.Schema p.0 p.1 → option_and_then here (h q) ≡ h q
  of_its_key q same =
      elim (h q) as (λ o. h q ≡ o → option_and_then here o ≡ o) [
        | None ↦ λ _. refl
        | Some e ↦ λ is.
            let k : keys.Schema p.0 p.1 ≡ keys.Schema e.subject e.version = sym same ∙ keyed q e is in
            let place : p ≡ place_of e = λ i. (subject_of (k i), version_of (k i)) in
            ap (λ b. cond b (Some e) None) (ap is_eq (ap (place_cmp p) (sym place) ∙ tied_itself place_cmp-total p))
      ] refl

  module _ (total : IsTotalOrder record_cmp) (ties : IsAntisymmetric record_cmp) where
    is : Record → Record → Bool
    is q x = eq_by_cmp record_cmp q x

    among_first : (x : Record) (xs : List Record) → list_any (eq_by_cmp record_cmp x) (x ∷ xs) ≡ true
    among_first x xs = ap (λ o. is_eq o || list_any (eq_by_cmp record_cmp x) xs) (tied_itself total x)

    or_right : (a b : Bool) → b ≡ true → (a || b) ≡ true
    or_right true b h = refl
    or_right false b h = h

    found-none : (xs : List Record)
        → ((x : Record) → list_any (eq_by_cmp record_cmp x) xs ≡ true → ¬ (x.key ≡ keys.Schema p.0 p.1)) → found xs ≡ None
    found-none [] each = refl
    found-none (x ∷ xs) each =
        ap (λ o. option_or o (option_and_then here (h x))) (found-none xs (λ y there. each y (or_right (eq_by_cmp record_cmp y x) _ there)))
        ∙ of_other_key x (each x (among_first x xs))

    module _ (q : Record) (of_key : q.key ≡ keys.Schema p.0 p.1) where
      other : (x : Record) → (x.key ≡ keys.Schema p.0 p.1 → x ≡ q) → eq_by_cmp record_cmp q x ≡ false → option_and_then here (h x) ≡ None
      other x one apart =
          of_other_key x (λ same. false≢true (sym apart ∙ ap (eq_by_cmp record_cmp q) (one same) ∙ ap is_eq (tied_itself total q)))

      itself : (x : Record) → eq_by_cmp record_cmp q x ≡ true → option_and_then here (h x) ≡ h q
      itself x same = ap (λ y. option_and_then here (h y)) (sym (ties q x (equal _ same))) ∙ of_its_key q of_key

      twice : (o : Option Entry) → option_or o o ≡ o
      twice None = refl
      twice (Some e) = refl

      found-either : (xs : List Record) → ((x : Record) → list_any (eq_by_cmp record_cmp x) xs ≡ true → x.key ≡ keys.Schema p.0 p.1 → x ≡ q)
          → (found xs ≡ None) ⊎ (found xs ≡ h q)
      found-either [] each = inl refl
      found-either (x ∷ xs) each =
          let rest = found-either xs (λ y there. each y (or_right (eq_by_cmp record_cmp y x) _ there)) in
          elim (eq_by_cmp record_cmp q x) as (λ b. eq_by_cmp record_cmp q x ≡ b → (found (x ∷ xs) ≡ None) ⊎ (found (x ∷ xs) ≡ h q)) [
            | true ↦ λ same.
                inr (
                ap (option_or (found xs)) (itself x same)
                ∙ ⊎_elim (λ none. ap (λ o. option_or o (h q)) none) (λ some. ap (λ o. option_or o (h q)) some ∙ twice (h q)) rest)
            | false ↦ λ apart.
                let stays = ap (option_or (found xs)) (other x (each x (among_first x xs)) apart) ∙ or_none (found xs) in
                ⊎_elim (λ none. inl (stays ∙ none)) (λ some. inr (stays ∙ some)) rest
          ] refl

      found-some : (xs : List Record) → ((x : Record) → list_any (eq_by_cmp record_cmp x) xs ≡ true → x.key ≡ keys.Schema p.0 p.1 → x ≡ q)
          → list_any (eq_by_cmp record_cmp q) xs ≡ true → found xs ≡ h q
      found-some [] each there = absurd (false≢true there)
      found-some (x ∷ xs) each there =
          let later : (y : Record) → list_any (eq_by_cmp record_cmp y) xs ≡ true → y.key ≡ keys.Schema p.0 p.1 → y ≡ q =
          λ y h. each y (or_right (eq_by_cmp record_cmp y x) _ h) in
          elim (eq_by_cmp record_cmp q x) as (λ b.
          eq_by_cmp record_cmp q x ≡ b → (b || list_any (eq_by_cmp record_cmp q) xs) ≡ true → found (x ∷ xs) ≡ h q) [
            | true ↦ λ same _.
                ap (option_or (found xs)) (itself x same)
                ∙ ⊎_elim (λ none. ap (λ o. option_or o (h q)) none)
                (λ some. ap (λ o. option_or o (h q)) some ∙ twice (h q)) (found-either xs later)
            | false ↦ λ apart there.
                ap (option_or (found xs)) (other x (each x (among_first x xs)) apart) ∙ or_none (found xs) ∙ found-some xs later there
          ] refl there

-- where each record of a set is the last of its key, the entry at a place is that of the last record of its key
module _ (total : IsTotalOrder record_cmp) (ties : IsAntisymmetric record_cmp) (greatest : LastIsGreatest)
    (S : Records) (lasts : (r : Record) → contains S r ≡ true → last S r.key ≡ Some r) where
  same_or : (a b c : Bool) → a ≡ b → (b || c) ≡ (a || (b || c))
  same_or true b c h = ap (λ x. x || c) (sym h)
  same_or false b c h = refl

  turned_or : (a b c : Bool) → (b || (a || c)) ≡ (a || (b || c))
  turned_or true true c = refl
  turned_or true false c = refl
  turned_or false true c = refl
  turned_or false false c = refl

  any_placed : (q r : Record) (xs : List Record)
      → list_any (eq_by_cmp record_cmp q) (placed_record r xs) ≡ (eq_by_cmp record_cmp q r || list_any (eq_by_cmp record_cmp q) xs)
  any_placed q r [] = refl
  any_placed q r (x ∷ xs) =
      elim (record_cmp r x) as (λ o. record_cmp r x ≡ o
      → list_any (eq_by_cmp record_cmp q) (match_ordering o (r ∷ x ∷ xs) (x ∷ xs) (x ∷ placed_record r xs))
      ≡ (eq_by_cmp record_cmp q r || (eq_by_cmp record_cmp q x || list_any (eq_by_cmp record_cmp q) xs))) [
        | Less ↦ λ _. refl
        | Equal ↦ λ tie.
            same_or (eq_by_cmp record_cmp q r) (eq_by_cmp record_cmp q x)
            (list_any (eq_by_cmp record_cmp q) xs) (ap (eq_by_cmp record_cmp q) (ties r x tie))
        | Greater ↦ λ _.
            ap (λ b. eq_by_cmp record_cmp q x || b) (any_placed q r xs)
            ∙ turned_or (eq_by_cmp record_cmp q r) (eq_by_cmp record_cmp q x) (list_any (eq_by_cmp record_cmp q) xs)
      ] refl

  any_in_order : (q : Record) (xs : List Record) → list_any (eq_by_cmp record_cmp q) (in_order xs) ≡ list_any (eq_by_cmp record_cmp q) xs
  any_in_order q [] = refl
  any_in_order q (x ∷ xs) = any_placed q x (in_order xs) ∙ ap (λ b. eq_by_cmp record_cmp q x || b) (any_in_order q xs)

  pub inside : (q : Record) → contains S q ≡ list_any (eq_by_cmp record_cmp q) (records_of S)
  unfolding records_of
  inside q = contains-items S q ∙ sym (any_in_order q (items S))

  pub entry_at : (p : Place) → finmap.get (entry_map S) p ≡ option_and_then (entry_of S) (last S (keys.Schema p.0 p.1))
  unfolding entry_map
  entry_at p =
      let key = keys.Schema p.0 p.1 in
      let h = entry_of S in
      let all = records_of S in
      let keyed = entry_of-key S in
      get-fold h keyed p all finmap.empty
      ∙ ap (option_or (found h keyed p all)) (finmap.get-empty place_cmp p) ∙ or_none h keyed p (found h keyed p all)
      ∙ elim (last S key) as (λ o. last S key ≡ o → found h keyed p all ≡ option_and_then h o) [
        | None ↦ λ none.
            found-none h keyed p total ties all (λ x there same.
            none_some x (sym none ∙ ap (last S) (sym same) ∙ lasts x (inside x ∙ there)))
        | Some q ↦ λ some.
            let fact = (greatest S key q).0 some in
            found-some h keyed p total ties q fact.is_of_key all
            (λ x there same. ap (λ o. unwrap_or o x) (sym (lasts x (inside x ∙ there)) ∙ ap (last S) same ∙ some))
            (sym (inside q) ∙ fact.is_in_set)
      ] refl
    where
      none_some : (x : Record) → None ≡ Some x → ⊥
      none_some x e = cc
