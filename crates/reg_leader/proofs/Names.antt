-- Which schemas ids name in a registry that isn't closed.
use Rattle.std.proofs.Common.{◌≡◌, ℕ, suc, ◌≤◌, max, min, Bool, true, false, ◌==◌, ◌||◌, not, is_some, List, map, bytes_eq}
use Rattle.std.proofs.Common.{Option, Some, None, All, Contains, unwrap_or, refl, sym, ap, ◌∙◌, arith, eq-eqb, eqb-true}
use Rattle.std.proofs.lemmas.Bool.{false≢true}
use Rattle.std.proofs.lemmas.List.Elements.{All-contains, All-contains_itself, All-filter, All-map, filter_passes}
use Rattle.std.proofs.lemmas.Slice.Eq.{bytes_eq-Decides}
use Rattle.std.specs.List.{filter}
use Rattle.std.specs.Option.{option_map_or}
use Rattle.std.specs.Ordering.{nat_cmp, on, ord_max}
use Rattle.reg_rules.specs.reg_entries.EntryOrder.{naming_cmp}
use Rattle.reg_rules.specs.reg_entries.Sought.{counting, counts, has_schema}
use Rattle.reg_rules.specs.reg_entries.TwoSchemas.{NoneIsOneTextEach}
use Rattle.reg_rules.specs.reg_entries.declared.entry.Entry.{Entry}
use Rattle.reg_rules.specs.reg_fold.Closed.{id_of, is_closed, two_schemas}
use Rattle.reg_rules.specs.reg_fold.Entries.{entries}
use Rattle.reg_rules.specs.reg_fold.IdMark.{id_mark, last_id}
use Rattle.reg_rules.specs.reg_fold.Opaque.{opaque}
use Rattle.reg_rules.specs.reg_fold.Standing.{greatest_id, named}
use Rattle.reg_rules.specs.reg_fold.declared.version_ref.VersionRef.{VersionRef}
use Rattle.reg_rules.specs.reg_fold.declared.version_ref.VersionRef.TheVariants.{Latest, Number}
use Rattle.reg_rules.specs.Standing.{id_for, names_another, version_meant}
use Rattle.reg_rules.specs.reg_set.Records.{Records}
use Rattle.reg_leader.specs.StayOpen.{IdsNameOneSchema}
use Rattle.reg_leader.proofs.Chosen.{find_has, min-picks, none_passes, nothing_there, ord_max-picks, reduce_has, up_to_greatest_of}

pub both_false : (a b : Bool) → (a || b) ≡ false → (a ≡ false) × (b ≡ false)
both_false true b h = absurd (false≢true (sym h))
both_false false b h = (refl, h)

pub absent : {A : Type 0} (o : Option A) → is_some o ≡ false → o ≡ None
absent None h = refl
absent (Some x) h = absurd (false≢true (sym h))

-- a registry isn't closed exactly where it has no opaque version and its ids name one schema each
pub one_schema : NoneIsOneTextEach → (rs : Records) → is_closed rs ≡ false → IdsNameOneSchema rs
one_schema one rs closed = (one (entries rs)).0 (absent (two_schemas rs) (both_false (is_some (opaque rs)) _ closed).1)

pub no_opaque : (rs : Records) → is_closed rs ≡ false → opaque rs ≡ None
no_opaque rs closed = absent (opaque rs) (both_false (is_some (opaque rs)) _ closed).0

pub not_closed : NoneIsOneTextEach → (rs : Records) → opaque rs ≡ None → IdsNameOneSchema rs → is_closed rs ≡ false
not_closed one rs none each = ap (λ o. is_some o || is_some (two_schemas rs)) none ∙ ap is_some ((one (entries rs)).1 each)

module _ (rs : Records) where
  -- each entry of the id has the schema of that normal text
  abbrev pub NamesOnly : ℕ → List ℕ → Type 0
  NamesOnly id normal = (e : Entry) → Contains (entries rs) e → e.id ≡ id → e.normal ≡ normal

  abbrev Stands : Entry → Type 0
  Stands e = Contains (entries rs) e

  all_stand : All Stands (entries rs)
  all_stand = All-contains_itself (entries rs)

  -- the entry that a delete names stands
  pub meant-stands : (subject : List ℕ) (ref : VersionRef) (e : Entry) → version_meant rs subject ref ≡ Some e → Contains (entries rs) e
  meant-stands subject Latest e is =
      reduce_has Stands (ord_max (on (λ e. e.version) nat_cmp))
      (ord_max-picks (on (λ e. e.version) nat_cmp)) (counting (entries rs) subject false) e
      (All-filter (counts false) Stands _ (All-filter (λ e. bytes_eq e.subject subject) Stands (entries rs) all_stand)) is
  meant-stands subject (Number version) e is =
      find_has Stands (λ e. e.version == version) (counting (entries rs) subject true) e
      (All-filter (counts true) Stands _ (All-filter (λ e. bytes_eq e.subject subject) Stands (entries rs) all_stand)) is

  -- no entry has an id above the last one
  pub id_up_to_last : (e : Entry) → Contains (entries rs) e → e.id ≤ last_id rs
  id_up_to_last e stands =
      elim (greatest_id rs) as (λ g. greatest_id rs ≡ g → e.id ≤ max (id_mark rs) (unwrap_or g 0)) [
        | None ↦ λ is. absurd (All-contains (λ _. ⊥) (entries rs) e (nothing_there max (λ (e : Entry). e.id) (entries rs) is) stands)
        | Some m ↦ λ is.
            let low = All-contains (λ e. e.id ≤ m) (entries rs) e (up_to_greatest_of (λ e. e.id) (entries rs) m is) stands in
            omega (arith, low)
      ] refl

  -- an entry that an id names stands, with that id
  pub named-stands : (id : ℕ) (f : Entry) → named rs id ≡ Some f → Contains (entries rs) f × (f.id ≡ id)
  named-stands id f is =
      let has = reduce_has (λ e. (e.id == id) ≡ true) (ord_max naming_cmp) (ord_max-picks naming_cmp)
      (filter (λ e. e.id == id) (entries rs)) f (filter_passes (λ e. e.id == id) (entries rs)) is in (
        reduce_has Stands (ord_max naming_cmp) (ord_max-picks naming_cmp) (filter (λ e. e.id == id) (entries rs)) f
            (All-filter (λ e. e.id == id) Stands (entries rs) all_stand) is,
        eqb-true f.id id has,
      )

  -- an entry with that id and that normal text
  abbrev pub HasId : List ℕ → ℕ → Type 0
  HasId normal id = (e : Entry) × Stands e × (e.id ≡ id) × (e.normal ≡ normal)

  all_have : (normal : List ℕ) → All (HasId normal) (map (λ e. e.id) (filter (λ e. bytes_eq e.normal normal) (entries rs)))
  all_have normal =
      let own = filter (λ e. bytes_eq e.normal normal) (entries rs) in
      let stand = All-filter (λ e. bytes_eq e.normal normal) Stands (entries rs) all_stand in
      let pass = filter_passes (λ e. bytes_eq e.normal normal) (entries rs) in
      All-map (HasId normal) (λ e. e.id) own (λ k d within. (_, stand k d within, refl, (bytes_eq-Decides _ normal).0 (pass k d within)))

  pub known-stands : (normal : List ℕ) (id : ℕ) → id_of rs normal ≡ Some id → HasId normal id
  known-stands normal id is =
      reduce_has (HasId normal) min min-picks
      (map (λ e. e.id) (filter (λ e. bytes_eq e.normal normal) (entries rs))) id (all_have normal) is

  module _ (each : IdsNameOneSchema rs) where
    not_false : (b : Bool) → not b ≡ false → b ≡ true
    not_false true h = refl
    not_false false h = absurd (false≢true (sym h))

    -- where the entry that an id names has no other schema, no entry of the id has
    pub named-only : (id : ℕ) (normal : List ℕ) → names_another rs id normal ≡ false → NamesOnly id normal
    named-only id normal =
        elim (named rs id) as (λ o.
        named rs id ≡ o → option_map_or (λ e. not (has_schema normal e)) o false ≡ false → NamesOnly id normal) [
          | None ↦ λ none _ e stands same.
              let isnt = All-contains (λ e. (e.id == id) ≡ false) (entries rs) e
              (none_passes (ord_max naming_cmp) (λ e. e.id == id) (entries rs) none) stands in
              absurd (false≢true (sym isnt ∙ eq-eqb e.id id same))
          | Some f ↦ λ is has e stands same.
              let found = named-stands id f is in
              each e f stands found.0 (same ∙ sym found.1) ∙ (bytes_eq-Decides f.normal normal).0 (not_false (has_schema normal f) has)
        ] refl

    known-only : (normal : List ℕ) (id : ℕ) → id_of rs normal ≡ Some id → NamesOnly id normal
    known-only normal id is e stands same =
        let found = known-stands normal id is in
        each e found.0 stands found.1 (same ∙ sym found.2) ∙ found.3

    -- an id above all others names nothing
    new-only : (normal : List ℕ) → NamesOnly (suc (last_id rs)) normal
    new-only normal e stands same = let low = id_up_to_last e stands in absurd (omega (arith, low, same))

    -- the id that a registration takes names no other schema
    pub new_id-only : (normal : List ℕ) → NamesOnly (id_for rs normal) normal
    new_id-only normal =
        elim (id_of rs normal) as (λ o. id_of rs normal ≡ o → NamesOnly (unwrap_or o (suc (last_id rs))) normal) [
          | None ↦ λ _. new-only normal
          | Some id ↦ λ is. known-only normal id is
        ] refl
