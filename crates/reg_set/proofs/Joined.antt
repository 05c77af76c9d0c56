-- Lists joined to sets, and the last records of both.
use Rattle.std.proofs.Common.{◌≡◌, ℕ, suc, zero, ◌+◌, ◌<◌, Bool, true, ⊎_elim, List, [], ◌∷◌}
use Rattle.std.proofs.Common.{◌++◌, length, get_or, take, Some, None, refl, sym, ap, ◌∙◌}
use Rattle.std.proofs.lemmas.List.{take_more}
use Rattle.std.proofs.lemmas.Bool.{false≢true}
use Rattle.std.specs.BTreeMap.{keys}
use Rattle.std.specs.FinSet.{contains, empty, from_list, insert, union, contains-empty, contains-from_list, from_list_push}
use Rattle.std.specs.Global.{Vec}
use Rattle.std.specs.List.{list_any, list_all, slice_get}
use Rattle.std.specs.Map.{keys_of}
use Rattle.std.specs.Option.{option_map_or}
use Rattle.std.specs.Ordering.{eq_by_cmp, is_le}
use Rattle.reg_records.specs.declared.key.Key.{Key}
use Rattle.reg_records.specs.declared.record.Record.{Record}
use Rattle.reg_set.specs.ByKey.{RecordLists, AreByKey, AreOf, all_records, last_alone, set_of}
use Rattle.reg_set.specs.Compaction.{KeepsLasts}
use Rattle.reg_set.specs.LastRecords.{is_of, last, last_records, IsGreatestOf}
use Rattle.reg_set.specs.RecordOrder.{record_cmp}
use Rattle.reg_set.specs.Records.{Records, records_of}
use Rattle.reg_set.proofs.Alone.{alone-among, up_to_alone}
use Rattle.reg_set.proofs.KeptLasts.{all_from, keeps_lasts_from, keeps_own_lasts, keeping_lasts_unites, last_records_of_part}
use Rattle.reg_set.proofs.InOrder.{both, first_of, second_of, contains-records_of}
use Rattle.reg_set.proofs.Lasts.{at_any, is_of-is, IsGreatestOf-one, last-some}
use Rattle.reg_set.proofs.Listed.{Entries, at_place, of_one_key, of_that_key, place_of}
use Rattle.reg_set.proofs.OneEach.{compact_from}
use Rattle.reg_set.proofs.Orders.{record_cmp-total, record_cmp-ties}
use Rattle.reg_set.proofs.Unions.{one_set, in_either, in_insert, in_left, insert-itself}
use Rattle.reg_set.proofs.Unions.{insert-union, from_list-both}
use Rattle.reg_set.proofs.Unions.{merging_is_associative, same_answers}

abbrev is_same : Record → Record → Bool
is_same r q = eq_by_cmp record_cmp r q

pub union-nothing : (S : Records) → union S (from_list []) ≡ S
union-nothing S =
    one_set (union S (from_list [])) S
    (λ q h. ⊎_elim (λ k. k) (λ k. absurd (false≢true (sym (contains-empty record_cmp q) ∙ k))) (in_either S (from_list []) q h))
    (in_left S (from_list []))

module _ (key : Key) (rs : List Record) (of_key : AreOf key rs) (r : Record) (is_last : last_alone rs ≡ r ∷ []) where
  in_rs : (q : Record) → contains (from_list {R = record_cmp} rs) q ≡ true → list_any (is_same q) rs ≡ true
  in_rs q h = sym (contains-from_list record_cmp-total rs q) ∙ h

  has_key : (q : Record) → list_any (is_same q) rs ≡ true → q.key ≡ key
  has_key q h = is_of-is key q (at_any (is_of key) q rs of_key.of_key h)

  there : list_any (is_same r) rs ≡ true
  there = alone-among r rs is_last

  greatest : (k : Key) → r.key ≡ k → IsGreatestOf (from_list rs) k r
  greatest k same = record {
    is_in_set = contains-from_list record_cmp-total rs r ∙ there;
    is_of_key = same;
    is_greatest = λ q inside is.
        ap is_le (of_one_key q r (is ∙ sym same))
        ∙ at_any (λ x. is_le (record_cmp x r)) q rs (up_to_alone r rs of_key.in_order is_last) (in_rs q inside);
  }

  pub last_keeps_lasts : KeepsLasts (insert empty r) (from_list rs)
  last_keeps_lasts =
      keeps_lasts_from (insert empty r) (from_list rs)
      (λ q h. ⊎_elim
      (λ e. ap (contains (from_list rs)) e ∙ (contains-from_list record_cmp-total rs r ∙ there))
      (λ k. absurd (false≢true (sym (contains-empty record_cmp q) ∙ k))) (in_insert empty r q h))
      (λ k q e.
      let fact = last-some (from_list rs) k q e in
      let same : r.key ≡ k = has_key r there ∙ sym (has_key q (in_rs q fact.is_in_set)) ∙ fact.is_of_key in
      ap (contains (insert empty r)) (IsGreatestOf-one (from_list rs) k q r fact (greatest k same)) ∙ insert-itself empty r)

  -- to add the last of a key's records to last records is to add them all
  pub last-joined : (L : Records) → last_records (insert L r) ≡ last_records (union L (from_list rs))
  last-joined L =
      ap last_records (insert-union L r)
      ∙ last_records_of_part (union L (insert empty r)) (union L (from_list rs))
      (keeping_lasts_unites L L (insert empty r) (from_list rs) (keeps_own_lasts L) last_keeps_lasts)

-- what holds of each of a list holds of each of another with the same records
pub all-same : (p : Record → Bool) (xs ys : List Record)
    → ((q : Record) → list_any (is_same q) xs ≡ list_any (is_same q) ys) → list_all p xs ≡ list_all p ys
all-same p xs ys each =
    same_answers (list_all p xs) (list_all p ys) (λ h. all_from p ys (λ q k. at_any p q xs h (each q ∙ k)))
    (λ h. all_from p xs (λ q k. at_any p q ys h (sym (each q) ∙ k)))

-- one more record, and one more list, of those that are added to a set
pub one_more_in : (S : Records) (xs : List Record) (i : ℕ) (r : Record) → i < length xs → r ≡ get_or xs i r
    → insert (union S (from_list (take i xs))) r ≡ union S (from_list (take (i + 1) xs))
one_more_in S xs i r within here =
    insert-union (union S (from_list (take i xs))) r ∙ merging_is_associative S (from_list (take i xs)) (insert empty r)
    ∙ ap (union S)
    (sym (insert-union (from_list (take i xs)) r)
    ∙ sym (
    ap from_list (take_more xs i r within ∙ ap (λ q. take i xs ++ q ∷ []) (sym here))
    ∙ from_list_push record_cmp-total record_cmp-ties (take i xs) r))

pub list_joined : (S : Records) (xs ys : List Record) → union (union S (from_list xs)) (from_list ys) ≡ union S (from_list (xs ++ ys))
list_joined S xs ys = merging_is_associative S (from_list xs) (from_list ys) ∙ ap (union S) (sym (from_list-both xs ys))

none_last : last_records (from_list []) ≡ from_list []
none_last = compact_from (from_list []) (λ r h. absurd (false≢true (sym (contains-empty record_cmp r) ∙ h)))

-- the last records of no record
pub lasts_of_none : empty ≡ last_records (from_list [])
lasts_of_none = sym none_last

key_holds : (p : Key → Bool) (es : Entries) (i : ℕ) (k : Key) (v : Vec Record)
    → list_all p (keys_of es) ≡ true → slice_get es i ≡ Some (k, v) → p k ≡ true
key_holds p [] i k v h e = absurd (cc)
key_holds p (x ∷ es) zero k v h e =
    let same : x ≡ (k, v) = cc in
    ap (λ y. p y.0) (sym same) ∙ first_of (p x.0) _ h
key_holds p (x ∷ es) (suc i) k v h e = key_holds p es i k v (second_of (p x.0) _ h) e

holds_of_all : (p : Key → Bool) (ks : List Key) → ((k : Key) → p k ≡ true) → list_all p ks ≡ true
holds_of_all p [] h = refl
holds_of_all p (k ∷ ks) h = both (h k) (holds_of_all p ks h)

-- a test of the last records, key by key
module _ (m : RecordLists) (by_key : AreByKey m) (test : Record → Bool) (whole : Records) (view : set_of m ≡ whole) where
  abbrev has_last : Key → Bool
  has_last key = option_map_or test (last whole key) true

  pub all-of_keys : list_all has_last (keys m) ≡ list_all (λ r. has_last r.key) (records_of whole)
  all-of_keys =
      same_answers (list_all has_last (keys m)) (list_all (λ r. has_last r.key) (records_of whole))
      (λ h. all_from (λ r. has_last r.key) (records_of whole) (λ r there.
      let inside : contains (set_of m) r ≡ true = ap (λ s. contains s r) view ∙ contains-records_of whole r ∙ there in
      let place = place_of r m.entries (sym (contains-from_list record_cmp-total (all_records m) r) ∙ inside) in
      let key : r.key ≡ place.1 =
      of_that_key m by_key place.1 r (ap (list_any (is_same r)) (at_place m by_key place.0 place.1 place.2 place.3) ∙ place.4) in
      ap has_last key ∙ key_holds has_last m.entries place.0 place.1 place.2 h place.3))
      (λ h. holds_of_all has_last (keys m) (λ key.
      elim (last whole key) as (λ o. last whole key ≡ o → option_map_or test o true ≡ true) [
        | None ↦ λ _. refl
        | Some r ↦ λ e.
            let fact = last-some whole key r e in
            ap (λ o. option_map_or test o true) (sym e)
            ∙ ap has_last (sym fact.is_of_key)
            ∙ at_any (λ q. has_last q.key) r (records_of whole) h (sym (contains-records_of whole r) ∙ fact.is_in_set)
      ] refl))
