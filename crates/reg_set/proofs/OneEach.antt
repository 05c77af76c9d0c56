-- Sets that have one record of each key, which are those of last records.
use Rattle.std.proofs.Common.{◌≡◌, Bool, true, false, cond, not, ◌&&◌, ⊎_elim, Option, Some}
use Rattle.std.proofs.Common.{None, IfSome, IsSome, refl, sym, ap, subst, ◌∙◌, rules}
use Rattle.std.proofs.lemmas.Bool.{false≢true}
use Rattle.std.proofs.lemmas.Cmp.{tied_itself}
use Rattle.std.specs.FinSet.{contains, insert, retain, contains-retain}
use Rattle.std.specs.Option.{option_map_or}
use Rattle.std.specs.Ordering.{is_eq, is_le, is_lt, ordering_reverse}
use Rattle.std.specs.declared.cmp.Ordering.{Ordering}
use Rattle.std.specs.declared.cmp.Ordering.TheVariants.{Less, Equal, Greater}
use Rattle.reg_records.specs.declared.key.Key.{Key}
use Rattle.reg_records.specs.declared.record.Record.{Record}
use Rattle.reg_set.specs.Join.{later}
use Rattle.reg_set.specs.LastRecords.{is_of, last, last_records, with_last}
use Rattle.reg_set.specs.RecordOrder.{age_cmp, key_cmp}
use Rattle.reg_set.specs.Records.{Records}
use Rattle.reg_set.proofs.KeptLasts.{contains-last_records, last_records-last, last-last_records}
use Rattle.reg_set.proofs.KeptLasts.{last_of_last_records}
use Rattle.reg_set.proofs.KeptLasts.{last_records_keep_lasts, last_records_of_part}
use Rattle.reg_set.proofs.Indexed.{is_later, last-fresh, last-other, key_cmp-itself, at_key}
use Rattle.reg_set.proofs.InOrder.{both, first_of, second_of}
use Rattle.reg_set.proofs.Lasts.{equal, both_le, turn_lt, is_of-is, is_of-of, last-some, last-none, last-greatest, last-absent}
use Rattle.reg_set.proofs.Orders.{age_cmp-total, age_cmp-of_one_key, key_cmp-total, key_cmp-ties, record_cmp-ties}
use Rattle.reg_set.proofs.Unions.{one_set, in_insert, insert-itself}

-- where each record is the last of its key, the set is that of its last records
pub compact_from : (S : Records) → ((r : Record) → contains S r ≡ true → last S r.key ≡ Some r) → last_records S ≡ S
compact_from S each =
    one_set (last_records S) S (λ q h. first_of _ _ (sym (contains-last_records S q) ∙ h)) (λ q h. last-last_records S q.key q (each q h))

pub last_there : (S : Records) → last_records S ≡ S → (r : Record) → contains S r ≡ true → last S r.key ≡ Some r
last_there S compact r h = last_records-last S r (ap (λ s. contains s r) compact ∙ h)

pub compact_lasts : (S : Records) → last_records (last_records S) ≡ last_records S
compact_lasts S = last_records_of_part (last_records S) S (last_records_keep_lasts S)

-- such sets with the same last records are one
pub same_lasts : (S T : Records) → last_records S ≡ S → last_records T ≡ T → ((key : Key) → last S key ≡ last T key) → S ≡ T
same_lasts S T s t same =
    one_set S T
    (λ q h. (last-some T q.key q (sym (same q.key) ∙ last_there S s q h)).is_in_set)
    (λ q h. (last-some S q.key q (same q.key ∙ last_there T t q h)).is_in_set)

-- whether a record is later than the last one
abbrev pub is_new : Option Record → Record → Bool
is_new o r = option_map_or (λ last. is_lt (age_cmp last r)) o true

not_both : (o : Ordering) → is_lt o ≡ true → is_lt (ordering_reverse o) ≡ false
not_both Less h = refl
not_both Equal h = absurd (false≢true h)
not_both Greater h = absurd (false≢true h)

pub new-not_later : (o : Option Record) (r : Record) → is_new o r ≡ true → is_later o r ≡ false
new-not_later None r h = refl
new-not_later (Some q) r h = ap is_lt (age_cmp-total.antisymm r q) ∙ not_both _ h

-- two records of one key, neither later than the other
tie : (q r : Record) → q.key ≡ r.key → is_lt (age_cmp q r) ≡ false → is_lt (age_cmp r q) ≡ false → q ≡ r
tie q r same first second =
    let ages : age_cmp q r ≡ Equal = both_le _ (ap is_le (age_cmp-total.antisymm q r) ∙ turn_lt _ second) (turn_lt _ first) in
    let keys : key_cmp q.key r.key ≡ Equal = ap (key_cmp q.key) (sym same) ∙ tied_itself key_cmp-total q.key in
    record_cmp-ties q r (sym (age_cmp-of_one_key q r keys) ∙ ages)

-- what adding a record does to the last ones
module _ (S : Records) (r : Record) where
  pub last-new : is_new (last S r.key) r ≡ true → (key : Key)
      → last (insert S r) key ≡ cond (is_eq (key_cmp r.key key)) (Some r) (last S key)
  last-new h key =
      elim (is_eq (key_cmp r.key key)) as (λ b. is_eq (key_cmp r.key key) ≡ b → last (insert S r) key ≡ cond b (Some r) (last S key)) [
        | true ↦ λ e. ap (last (insert S r)) (sym (key_cmp-ties r.key key (equal _ e))) ∙ last-fresh S r (new-not_later (last S r.key) r h)
        | false ↦ λ e. last-other S r key e
      ] refl

  stays : (o : Option Record) → last S r.key ≡ o → is_new o r ≡ false → cond (is_later o r) o (Some r) ≡ o
  stays None e h = absurd (false≢true (sym h))
  stays (Some q) e h =
      elim (is_lt (age_cmp r q)) as (λ b. is_lt (age_cmp r q) ≡ b → cond b (Some q) (Some r) ≡ Some q) [
        | true ↦ λ _. refl
        | false ↦ λ k. ap Some (sym (tie q r (last-some S r.key q e).is_of_key h k))
      ] refl

  later-by : (o : Option Record) → is_new o r ≡ false → later o (Some r) ≡ cond (is_later o r) o (Some r)
  later-by None h = refl
  later-by (Some q) h = refl

  pub last-old : is_new (last S r.key) r ≡ false → (key : Key) → last (insert S r) key ≡ last S key
  last-old h key =
      elim (is_eq (key_cmp r.key key)) as (λ b. is_eq (key_cmp r.key key) ≡ b → last (insert S r) key ≡ last S key) [
        | true ↦ λ e. subst (λ k. last (insert S r) k ≡ last S k) (key_cmp-ties r.key key (equal _ e))
            (at_key S r ∙ later-by (last S r.key) h ∙ stays (last S r.key) refl h)
        | false ↦ λ e. last-other S r key e
      ] refl

  -- the last record of the key changes exactly where the record is later than it
  pub news-differ : is_new (last S r.key) r ≡ true → last (insert S r) r.key ≡ last S r.key → ⊥
  news-differ h e =
      let there : last S r.key ≡ Some r = sym e ∙ last-fresh S r (new-not_later (last S r.key) r h) in
      false≢true (sym (ap is_lt (tied_itself age_cmp-total r)) ∙ ap (λ o. is_new o r) (sym there) ∙ h)

  pub news-from_differing : (last (insert S r) r.key ≡ last S r.key → ⊥) → is_new (last S r.key) r ≡ true
  news-from_differing differs =
      elim (is_new (last S r.key) r) as (λ b. is_new (last S r.key) r ≡ b → b ≡ true) [
        | true ↦ λ _. refl
        | false ↦ λ e. absurd (differs (last-old e r.key))
      ] refl

  pub new-changes : is_new (last S r.key) r ≡ true → last_records (insert S r) ≡ S → ⊥
  new-changes h e =
      let there : last S r.key ≡ Some r =
      ap (λ s. last s r.key) (sym e) ∙ last_of_last_records (insert S r) r.key ∙ last-fresh S r (new-not_later (last S r.key) r h) in
      false≢true (sym (ap is_lt (tied_itself age_cmp-total r)) ∙ ap (λ o. is_new o r) (sym there) ∙ h)

  pub old-stays : last_records S ≡ S → is_new (last S r.key) r ≡ false → last_records (insert S r) ≡ S
  old-stays compact h =
      same_lasts (last_records (insert S r)) S (compact_lasts (insert S r)) compact
      (λ key. last_of_last_records (insert S r) key ∙ last-old h key)

-- the records of other keys
module _ (S : Records) (key : Key) where
  abbrev pub others : Records
  others = retain S (λ r. not (is_of key r))

  contains-others : (q : Record) → contains others q ≡ (contains S q && not (is_of key q))
  contains-others q = contains-retain S (λ r. not (is_of key r)) q (λ x e. ap (λ r. not (is_of key r)) (sym (record_cmp-ties q x e)))

  pub from_others : (q : Record) → contains others q ≡ true → contains S q ≡ true
  from_others q h = first_of _ _ (sym (contains-others q) ∙ h)

  pub apart_in_others : (q : Record) → contains others q ≡ true → q.key ≡ key → ⊥
  apart_in_others q h same = false≢true (ap not (sym (is_of-of key q same)) ∙ second_of _ _ (sym (contains-others q) ∙ h))

  pub in_others : (q : Record) → contains S q ≡ true → (q.key ≡ key → ⊥) → contains others q ≡ true
  in_others q h apart =
      let other : not (is_of key q) ≡ true =
      elim (is_of key q)
      as (λ b. is_of key q ≡ b → not b ≡ true) [ true ↦ λ e. absurd (apart (is_of-is key q e)) | false ↦ λ _. refl ] refl in
      contains-others q ∙ both h other

  last-others : (q : Key) → (q ≡ key → ⊥) → last others q ≡ last S q
  last-others q apart =
      elim (last S q) as (λ o. last S q ≡ o → last others q ≡ o) [
        | None ↦ λ e. last-absent others q (λ r inside same. last-none S q e r (from_others r inside) same)
        | Some r ↦ λ e.
            let fact = last-some S q r e in
            last-greatest others q r (record {
              is_in_set = in_others r fact.is_in_set (λ same. apart (sym fact.is_of_key ∙ same));
              is_of_key = fact.is_of_key;
              is_greatest = λ p inside same. fact.is_greatest p (from_others p inside) same;
            })
      ] refl

  last-others_none : last others key ≡ None
  last-others_none = last-absent others key (λ q inside same. apart_in_others q inside same)

  apart_by : (q : Key) → is_eq (key_cmp key q) ≡ false → q ≡ key → ⊥
  apart_by q e same = false≢true (sym e ∙ key_cmp-itself key q (sym same))

  new_of_others : (r : Record) → r.key ≡ key → is_later (last others r.key) r ≡ false
  new_of_others r of_key = ap (λ o. is_later o r) (ap (last others) of_key ∙ last-others_none)

  pub last-with_last : (o : Option Record) → IfSome o (λ r. r.key ≡ key) → (q : Key)
      → last (with_last S key o) q ≡ cond (is_eq (key_cmp key q)) o (last S q)
  unfolding with_last
  last-with_last None of_key q =
      elim (is_eq (key_cmp key q)) as (λ b. is_eq (key_cmp key q) ≡ b → last others q ≡ cond b None (last S q)) [
        | true ↦ λ e. ap (last others) (sym (key_cmp-ties key q (equal _ e))) ∙ last-others_none
        | false ↦ λ e. last-others q (apart_by q e)
      ] refl
  last-with_last (Some r) of_key q =
      elim (is_eq (key_cmp key q)) as (λ b. is_eq (key_cmp key q) ≡ b → last (insert others r) q ≡ cond b (Some r) (last S q)) [
        | true ↦ λ e.
            ap (last (insert others r)) (sym (of_key ∙ key_cmp-ties key q (equal _ e))) ∙ last-fresh others r (new_of_others r of_key)
        | false ↦ λ e. last-other others r q (ap (λ k. is_eq (key_cmp k q)) of_key ∙ e) ∙ last-others q (apart_by q e)
      ] refl

  pub compact-with_last : last_records S ≡ S → (o : Option Record)
      → IfSome o (λ r. r.key ≡ key) → last_records (with_last S key o) ≡ with_last S key o
  unfolding with_last
  compact-with_last compact None of_key =
      compact_from others (λ q h. last-others q.key (apart_in_others q h) ∙ last_there S compact q (from_others q h))
  compact-with_last compact (Some r) of_key =
      compact_from (insert others r) (λ q h. ⊎_elim
      (λ e. ap (λ x. last (insert others r) x.key) e ∙ last-fresh others r (new_of_others r of_key) ∙ ap Some (sym e))
      (λ there.
      let apart : is_eq (key_cmp r.key q.key) ≡ false =
      elim (is_eq (key_cmp r.key q.key)) as (λ b. is_eq (key_cmp r.key q.key) ≡ b → b ≡ false) [
        | true ↦ λ e. absurd (apart_in_others q there (sym (key_cmp-ties r.key q.key (equal _ e)) ∙ of_key))
        | false ↦ λ _. refl
      ] refl in
      last-other others r q.key apart ∙ last-others q.key (apart_in_others q there) ∙ last_there S compact q (from_others q there))
      (in_insert others r q h))

pub is_new-from_change : (S : Records) (r : Record) → last_records S ≡ S
    → (last_records (insert S r) ≡ S → ⊥) → is_new (last S r.key) r ≡ true
is_new-from_change S r compact changes =
    elim (is_new (last S r.key) r) as (λ b. is_new (last S r.key) r ≡ b → b ≡ true) [
      | true ↦ λ _. refl
      | false ↦ λ e. absurd (changes (old-stays S r compact e))
    ] refl

-- a key has a last record once one of its records is added
pub there-inserted : (S : Records) (r : Record) → IsSome (last (last_records (insert S r)) r.key)
there-inserted S r =
    let T = insert S r in
    subst IsSome (sym (last_of_last_records T r.key)) (
    elim (last T r.key) as (λ o. last T r.key ≡ o → IsSome o) [
      | None ↦ λ e. absurd (last-none T r.key e r (insert-itself S r) refl)
      | Some q ↦ λ _. search rules
    ] refl)

-- where S and T differ in the last record of one key alone, that of S makes T be S
pub taken_back : (S T : Records) (key : Key) (o w : Option Record) → last_records S ≡ S → last_records T ≡ T → IfSome o (λ r. r.key ≡ key)
    → o ≡ last S key → ((q : Key) → last T q ≡ cond (is_eq (key_cmp key q)) w (last S q)) → with_last T key o ≡ S
taken_back S T key o w s t of_key before after =
    same_lasts (with_last T key o) S (compact-with_last T key t o of_key) s (λ q. last-with_last T key o of_key q
    ∙ elim (is_eq (key_cmp key q)) as (λ b. is_eq (key_cmp key q) ≡ b → cond b o (last T q) ≡ last S q) [
      | true ↦ λ e. before ∙ ap (last S) (key_cmp-ties key q (equal _ e))
      | false ↦ λ e. after q ∙ ap (λ b. cond b w (last S q)) e
    ] refl)
