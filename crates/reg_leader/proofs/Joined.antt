-- A log that a batch has joined: its last records, and what entries they give.
use Rattle.std.proofs.Common.{◌≡◌, ◌⊎◌, inl, inr, ℕ, Bool, true, false, cond, ◌||◌, List, [], ◌∷◌, Option}
use Rattle.std.proofs.Common.{Some, None, All, option_and_then, unwrap_or, refl, sym, ap, subst, ◌∙◌}
use Rattle.std.proofs.lemmas.Bool.{false≢true}
use Rattle.std.proofs.lemmas.List.Elements.{All-head, All-tail}
use Rattle.std.specs.Cmp.{Equal-is, IsTotalOrder}
use Rattle.std.specs.FinSet.{from_list, union, IsAntisymmetric, contains-from_list}
use Rattle.std.specs.List.{list_any}
use Rattle.std.specs.Option.{option_cmp}
use Rattle.std.specs.Ordering.{eq_by_cmp, is_lt}
use Rattle.reg_rules.specs.reg_entries.declared.entry.Entry.{Entry}
use Rattle.reg_rules.specs.reg_fold.Entries.{entry_in, entry_of, normal_of}
use Rattle.reg_rules.specs.reg_values.Value.{value_of}
use Rattle.reg_rules.specs.reg_records.declared.key.Key.{Key}
use Rattle.reg_rules.specs.reg_records.declared.record.Record.{Record}
use Rattle.reg_rules.specs.reg_records.declared.value.Value.{Value}
use Rattle.reg_rules.specs.reg_records.declared.value.Value.TheVariants as values
use Rattle.reg_rules.specs.reg_set.Join.{LastIsGreatest, LastOfUnion, later}
use Rattle.reg_rules.specs.reg_set.LastRecords.{last}
use Rattle.reg_rules.specs.reg_set.RecordOrder.{age_cmp, record_cmp}
use Rattle.reg_rules.specs.reg_set.Records.{Records}

-- an entry under other last records: the same, but for its soft mark
pub record IsAlike (e g : Entry) : Type 0 where
  pub subject : g.subject ≡ e.subject
  pub version : g.version ≡ e.version
  pub id : g.id ≡ e.id
  pub normal : g.normal ≡ e.normal

-- what a value gives
pub record IsShown (o : Option Value) (e : Entry) : Type 0 where
  pub text : List ℕ
  pub deleted : Bool
  pub value : o ≡ Some (values.Schema e.subject e.version e.id text deleted)
  pub normal : e.normal ≡ normal_of text

shown : (rs : Records) (offset : ℕ) (o : Option Value) (e : Entry) → option_and_then (entry_in rs offset) o ≡ Some e → IsShown o e
shown rs offset None e is = absurd (cc)
shown rs offset (Some (values.Schema subject version id text deleted)) e is = record {
  text = text;
  deleted = deleted;
  value = λ i. Some (values.Schema (unwrap_or (is i) e).subject (unwrap_or (is i) e).version (unwrap_or (is i) e).id text deleted);
  normal = ap (λ o. (unwrap_or o e).normal) (sym is);
}
shown rs offset (Some (values.Config level)) e is = absurd (cc)
shown rs offset (Some (values.Mode mode)) e is = absurd (cc)
shown rs offset (Some (values.DeleteSubject subject version)) e is = absurd (cc)
shown rs offset (Some values.Noop) e is = absurd (cc)
shown rs offset (Some (values.IdMark id)) e is = absurd (cc)

-- the version that a record's entry shows
pub shown_in : (rs : Records) (r : Record) (e : Entry) → entry_of rs r ≡ Some e → IsShown (value_of r) e
unfolding entry_of
shown_in rs r e is = shown rs r.offset (value_of r) e is

pub elsewhere : (rs ss : Records) (r : Record) (e : Entry) → entry_of rs r ≡ Some e → (g : Entry) × (entry_of ss r ≡ Some g) × IsAlike e g
unfolding entry_of
elsewhere rs ss r e is =
    let s = shown rs r.offset (value_of r) e is in
    let made : option_and_then (entry_in ss r.offset) (value_of r)
    ≡ entry_in ss r.offset (values.Schema e.subject e.version e.id s.text s.deleted) =
    ap (option_and_then (entry_in ss r.offset)) s.value in
    (_, made, record { subject = refl; version = refl; id = refl; normal = sym s.normal })

-- the entry of a record whose value is known
pub of_value : (rs : Records) (r : Record) (subject : List ℕ) (version id : ℕ) (text : List ℕ) (deleted : Bool) (e : Entry)
    → value_of r ≡ Some (values.Schema subject version id text deleted) → entry_of rs r ≡ Some e
    → (e.id ≡ id) × (e.normal ≡ normal_of text)
unfolding entry_of
of_value rs r subject version id text deleted e value is =
    let made : entry_in rs r.offset (values.Schema subject version id text deleted) ≡ Some e =
    ap (option_and_then (entry_in rs r.offset)) (sym value) ∙ is in
    (ap (λ o. (unwrap_or o e).id) (sym made), ap (λ o. (unwrap_or o e).normal) (sym made))

-- the entry that a version's value gives
pub gives : (rs : Records) (r : Record) (subject : List ℕ) (version id : ℕ) (text : List ℕ) (deleted : Bool)
    → value_of r ≡ Some (values.Schema subject version id text deleted)
    → (g : Entry) × (entry_of rs r ≡ Some g) × (g.subject ≡ subject) × (g.version ≡ version) × (g.id ≡ id)
unfolding entry_of
gives rs r subject version id text deleted value = (_, ap (option_and_then (entry_in rs r.offset)) value, refl, refl, refl)

later_picks : (a b : Option Record) → (later a b ≡ a) ⊎ (later a b ≡ b)
later_picks a b = elim (is_lt (option_cmp age_cmp b a)) as (λ c. (cond c a b ≡ a) ⊎ (cond c a b ≡ b)) [ true ↦ inl refl | false ↦ inr refl ]

-- the later of a record and another, or none, is a record; with none, it is what it was
pub later_some : (r : Record) (o : Option Record) → (q : Record) × (later (Some r) o ≡ Some q)
later_some r None = (r, refl)
later_some r (Some s) =
    elim (is_lt (option_cmp age_cmp (Some s) (Some r)))
    as (λ c. (q : Record) × (cond c (Some r) (Some s) ≡ Some q)) [ true ↦ (r, refl) | false ↦ (s, refl) ]

pub later_none : (o : Option Record) → later o None ≡ o
later_none None = refl
later_none (Some r) = refl

module _ (order : IsTotalOrder record_cmp) (apart : IsAntisymmetric record_cmp) where
  -- a record of a list's set is in the list
  pub in_all : (P : Record → Type 0) (rs : List Record) (r : Record) → All P rs → list_any (eq_by_cmp record_cmp r) rs ≡ true → P r
  in_all P [] r all any = absurd (false≢true any)
  in_all P (q ∷ rs) r all any =
      elim (eq_by_cmp record_cmp r q) as (λ b. eq_by_cmp record_cmp r q ≡ b → (b || list_any (eq_by_cmp record_cmp r) rs) ≡ true → P r) [
        | true ↦ λ e _. subst P (sym (apart r q ((Equal-is (record_cmp r q)).0 e))) (All-head P q rs all)
        | false ↦ λ _ rest. in_all P rs r (All-tail P q rs all) rest
      ] refl any

  module _ (greatest : LastIsGreatest) (batch : List Record) where
    pub in_batch : (P : Record → Type 0) (key : Key) (r : Record) → All P batch → last (from_list batch) key ≡ Some r → P r
    in_batch P key r all e =
        in_all P batch r all (sym (contains-from_list order batch r) ∙ ((greatest (from_list batch) key r).0 e).is_in_set)

    -- a key that no record of the batch has
    pub none_of_key : (key : Key) → All (λ r. ¬ (r.key ≡ key)) batch → last (from_list batch) key ≡ None
    none_of_key key all =
        elim (last (from_list batch) key) as (λ o. last (from_list batch) key ≡ o → o ≡ None) [
          | None ↦ λ _. refl
          | Some r ↦ λ is. absurd (in_batch (λ r. ¬ (r.key ≡ key)) key r all is ((greatest (from_list batch) key r).0 is).is_of_key)
        ] refl

module _ (of_union : LastOfUnion) (log : Records) (batch : List Record) where
  -- the last record of a key is the one before, or one of the batch
  pub last_cases : (key : Key) (r : Record) → last (union log (from_list batch)) key ≡ Some r
      → (last log key ≡ Some r) ⊎ (last (from_list batch) key ≡ Some r)
  last_cases key r e =
      elim (later_picks (last log key) (last (from_list batch) key)) [
        | inl old ↦ inl (sym old ∙ sym (of_union log (from_list batch) key) ∙ e)
        | inr new ↦ inr (sym new ∙ sym (of_union log (from_list batch) key) ∙ e)
      ]
