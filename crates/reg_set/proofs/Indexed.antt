-- The last records, beside the records in order.
use Rattle.std.proofs.Common.{◌≡◌, Bool, true, false, cond, ◌&&◌, ⊎_elim, List, [], ◌∷◌}
use Rattle.std.proofs.Common.{◌++◌, Option, Some, None, refl, sym, ap, ◌∙◌, rules}
use Rattle.std.proofs.lemmas.Bool.{false≢true}
use Rattle.std.proofs.lemmas.Cmp.{tied_itself}
use Rattle.std.specs.FinSet.{contains, empty, from_list, insert, contains-empty, contains-from_list, same_set}
use Rattle.std.specs.List.{AppendsClones, filter, list_all, AllZip}
use Rattle.std.specs.Option.{option_map_or}
use Rattle.std.specs.Ordering.{is_eq, is_le, is_lt}
use Rattle.reg_records.specs.contracts.key.KeyClone.TheImpl as key_clone
use Rattle.reg_records.specs.contracts.record.RecordClone.TheImpl as record_clone
use Rattle.reg_records.specs.declared.key.Key.{Key}
use Rattle.reg_records.specs.declared.record.Record.{Record}
use Rattle.reg_set.specs.Join.{later}
use Rattle.reg_set.specs.LastRecords.{last, is_last, last_records}
use Rattle.reg_set.specs.RecordOrder.{age_cmp, key_cmp, record_cmp}
use Rattle.reg_set.specs.Records.{Records, is_in_order}
use Rattle.reg_set.proofs.KeptLasts.{contains-last_records, last_records_of_insert}
use Rattle.reg_set.proofs.InOrder.{both, first_of, second_of}
use Rattle.reg_set.proofs.Lasts.{le_itself, any_filter, last-greatest, last-absent}
use Rattle.reg_set.proofs.Orders.{key_cmp-total, record_cmp-total, record_cmp-ties}
use Rattle.reg_set.proofs.Unions.{in_insert, insert-itself, insert-union, last_of_union}

pub key_cmp-itself : (a b : Key) → a ≡ b → is_eq (key_cmp a b) ≡ true
key_cmp-itself a b e = ap (λ k. is_eq (key_cmp a k)) (sym e) ∙ ap is_eq (tied_itself key_cmp-total a)

-- copies are equal to what they are copies of
pub key_copy : (a b : Key) → (key_clone.ghosts).is_clone a b → b ≡ a
key_copy a b h = search rules

pub record_copy : (a b : Record) → (record_clone.ghosts).is_clone a b → b ≡ a
record_copy a b h = search rules

-- the last of a single record
alone : (r : Record) → last (insert empty r) r.key ≡ Some r
alone r =
    last-greatest (insert empty r) r.key r (record {
      is_in_set = insert-itself empty r;
      is_of_key = refl;
      is_greatest = λ q inside same. ⊎_elim (λ e. ap (λ x. is_le (age_cmp x r)) e ∙ le_itself r)
          (λ h. absurd (false≢true (sym (contains-empty record_cmp q) ∙ h))) (in_insert empty r q inside);
    })

later-none : (o : Option Record) → later o None ≡ o
later-none None = refl
later-none (Some x) = refl

-- whether a last record is later than r
abbrev pub is_later : Option Record → Record → Bool
is_later o r = option_map_or (λ last. is_lt (age_cmp r last)) o false

later-fresh : (o : Option Record) (r : Record) → is_later o r ≡ false → later o (Some r) ≡ Some r
later-fresh None r h = refl
later-fresh (Some q) r h = ap (λ b. cond b (Some q) (Some r)) h

module _ (S : Records) (r : Record) where
  pub at_key : last (insert S r) r.key ≡ later (last S r.key) (Some r)
  at_key =
      ap (λ s. last s r.key) (insert-union S r) ∙ last_of_union S (insert empty r) r.key ∙ ap (later (last S r.key)) (alone r)

  pub last-fresh : is_later (last S r.key) r ≡ false → last (insert S r) r.key ≡ Some r
  last-fresh h = at_key ∙ later-fresh (last S r.key) r h

  -- the lasts of other keys stay
  pub last-other : (key : Key) → is_eq (key_cmp r.key key) ≡ false → last (insert S r) key ≡ last S key
  last-other key apart =
      let none : last (insert empty r) key ≡ None =
      last-absent (insert empty r) key (λ q inside same. ⊎_elim
      (λ e. false≢true (sym apart ∙ key_cmp-itself r.key key (sym (ap (λ x. x.key) e) ∙ same)))
      (λ h. false≢true (sym (contains-empty record_cmp q) ∙ h)) (in_insert empty r q inside)) in
      ap (λ s. last s key) (insert-union S r)
      ∙ last_of_union S (insert empty r) key
      ∙ ap (later (last S key)) none
      ∙ later-none (last S key)

-- copies of records that are equal to them
pub listed : (D : Record → Record → Type 0) → ((a b : Record) → D a b → b ≡ a) → (xs ys : List Record) → AllZip D xs ys → ys ≡ xs
listed D d [] [] h = refl
listed D d [] (y ∷ ys) h = absurd h
listed D d (x ∷ xs) [] h = absurd h
listed D d (x ∷ xs) (y ∷ ys) h = λ i. d x y h.0 i ∷ listed D d xs ys h.1 i

-- copies put after records are the records put after them
pub copies_after : (old new more : List Record) → AppendsClones (record_clone.ghosts).is_clone old new more → new ≡ old ++ more
copies_after old new more h = h.1 ∙ ap (λ l. old ++ l) (listed (record_clone.ghosts).is_clone record_copy more h.0 h.2)

all-filter : (p t : Record → Bool) (xs : List Record) → list_all p xs ≡ true → list_all p (filter t xs) ≡ true
all-filter p t [] h = refl
all-filter p t (x ∷ xs) h =
    elim (t x) as (λ b. list_all p (cond b (x ∷ filter t xs) (filter t xs)) ≡ true) [
      | true ↦ both (first_of _ _ h) (all-filter p t xs (second_of _ _ h))
      | false ↦ all-filter p t xs (second_of _ _ h)
    ]

pub filter-in_order : (t : Record → Bool) (xs : List Record) → is_in_order xs ≡ true → is_in_order (filter t xs) ≡ true
filter-in_order t [] h = refl
filter-in_order t (x ∷ xs) h =
    elim (t x) as (λ b. is_in_order (cond b (x ∷ filter t xs) (filter t xs)) ≡ true) [
      | true ↦ both (all-filter _ t xs (first_of _ _ h)) (filter-in_order t xs (second_of _ _ h))
      | false ↦ filter-in_order t xs (second_of _ _ h)
    ]

-- what is added to the last records is added to the whole
pub added-lasts : (S L : Records) (r : Record) → L ≡ last_records S → last_records (insert L r) ≡ last_records (insert S r)
added-lasts S L r same = ap (λ s. last_records (insert s r)) same ∙ last_records_of_insert S r

-- the last records of a list, kept among it
module _ (rs : List Record) where
  abbrev whole : Records
  whole = from_list rs

  abbrev kept : List Record
  kept = filter (contains (last_records whole)) rs

  drawn : (a b c : Bool) → a ≡ (b && c) → (a && b) ≡ a
  drawn a true c e = ap (λ x. x && true) e ∙ one c ∙ sym e
    where
      one : (c : Bool) → (c && true) ≡ c
      one true = refl
      one false = refl
  drawn a false c e = ap (λ x. x && false) e ∙ sym e

  pub from_list-kept : from_list kept ≡ last_records whole
  from_list-kept =
      same_set record_cmp-total record_cmp-ties _ _ (λ q.
      contains-from_list record_cmp-total kept q ∙ any_filter (contains (last_records whole)) q rs
      ∙ ap (λ b. contains (last_records whole) q && b) (sym (contains-from_list record_cmp-total rs q))
      ∙ drawn _ (contains whole q) (is_last whole q) (contains-last_records whole q))
