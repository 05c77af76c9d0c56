-- What waits: last records, one for each key.
use Rattle.std.proofs.Common.{◌≡◌, true, false, not, ◌&&◌, List, [], ◌∷◌, ◌++◌, Some, None, refl, sym, ap, ◌∙◌}
use Rattle.std.proofs.lemmas.Bool.{and_parts, false≢true}
use Rattle.std.proofs.lemmas.Cmp.{tied_itself}
use Rattle.std.specs.Cmp.{IsTotalOrder}
use Rattle.std.specs.FinSet.{IsAntisymmetric, contains, contains-retain, from_list, from_list_push, insert}
use Rattle.std.specs.Option.{option_map_or}
use Rattle.std.specs.Ordering.{eq_by_cmp, is_eq}
use Rattle.std.specs.declared.cmp.Ordering.{Ordering}
use Rattle.std.specs.declared.cmp.Ordering.TheVariants.{Less, Equal, Greater}
use Rattle.reg_records.specs.declared.key.Key.{Key}
use Rattle.reg_records.specs.declared.record.Record.{Record}
use Rattle.reg_set.specs.Join.{LastRecordsOfInsert}
use Rattle.reg_set.specs.LastRecords.{is_last, is_of, last, last_records, with_last}
use Rattle.reg_set.specs.RecordOrder.{key_cmp, record_cmp}
use Rattle.reg_set.specs.Records.{Records}

equal : (o : Ordering) → is_eq o ≡ true → o ≡ Equal
equal Less h = absurd (false≢true h)
equal Equal h = refl
equal Greater h = absurd (false≢true h)

-- no two records of the set have one key
abbrev pub HasOneAKey : Records → Type 0
HasOneAKey s = (q r : Record) → contains s q ≡ true → contains s r ≡ true → q.key ≡ r.key → q ≡ r

module _ (total : IsTotalOrder record_cmp) (apart : IsAntisymmetric record_cmp)
    (keys : IsTotalOrder key_cmp) (keys_apart : IsAntisymmetric key_cmp) where
  pub same_record : (q r : Record) → eq_by_cmp record_cmp q r ≡ true → q ≡ r
  same_record q r h = apart q r (equal (record_cmp q r) h)

  pub same_itself : (r : Record) → eq_by_cmp record_cmp r r ≡ true
  same_itself r = ap is_eq (tied_itself total r)

  last_of : (s : Records) (r : Record) → is_last s r ≡ true → last s r.key ≡ Some r
  unfolding is_last
  last_of s r h =
      elim (last s r.key) as (λ o. option_map_or (eq_by_cmp record_cmp r) o false ≡ true → o ≡ Some r) [
        | None ↦ λ h. absurd (false≢true h)
        | Some q ↦ λ h. ap Some (sym (same_record r q h))
      ] h

  is_last_of : (s : Records) (r : Record) → contains (last_records s) r ≡ true → last s r.key ≡ Some r
  unfolding last_records
  is_last_of s r h =
      last_of s r (
      and_parts (contains s r) (is_last s r) (sym (contains-retain s (is_last s) r (λ x e. ap (is_last s) (sym (apart r x e)))) ∙ h)).1

  pub lasts_have_one : (s : Records) → HasOneAKey (last_records s)
  lasts_have_one s q r has_q has_r same =
      let e : Some q ≡ Some r = sym (is_last_of s q has_q) ∙ ap (last s) same ∙ is_last_of s r has_r in cc

  pub of_key : (key : Key) (r : Record) → is_of key r ≡ true → key ≡ r.key
  unfolding is_of
  of_key key r h = keys_apart key r.key (equal (key_cmp key r.key) h)

  pub of_its_key : (r : Record) → is_of r.key r ≡ true
  unfolding is_of
  of_its_key r = ap is_eq (tied_itself keys r.key)

  pub contains-without : (s : Records) (key : Key) (q : Record) → contains (with_last s key None) q ≡ (contains s q && not (is_of key q))
  unfolding with_last
  contains-without s key q = contains-retain s (λ r. not (is_of key r)) q (λ x e. ap (λ r. not (is_of key r)) (sym (apart q x e)))

-- one record more
pub one_more : IsTotalOrder record_cmp → IsAntisymmetric record_cmp
    → LastRecordsOfInsert → (front : List Record) (r : Record) (old new : Records)
    → old ≡ last_records (from_list front) → new ≡ last_records (insert old r) → new ≡ last_records (from_list (front ++ r ∷ []))
one_more total apart law front r old new was is =
    is
    ∙ ap (λ (s : Records). last_records (insert s r)) was
    ∙ law (from_list front) r
    ∙ ap last_records (sym (from_list_push total apart front r))
