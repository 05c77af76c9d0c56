-- A schema that no version has isn't live.
use Rattle.std.proofs.Common.{◌≡◌, ℕ, Bool, true, false, cond, ◌&&◌, ◌==◌, min, List, [], ◌∷◌, map, Option, Some, None, is_some, not, refl, sym, ap, ◌∙◌}
use Rattle.std.proofs.lemmas.Bool.{false≢true}
use Rattle.std.specs.List.{AllByRecursion, filter, reduce}
use Rattle.std.specs.Prelude.{bytes_eq}
use Rattle.reg_modes.specs.reg_entries.Sought.{counts, has_schema, newest}
use Rattle.reg_modes.specs.reg_entries.declared.entry.Entry.{Entry}
use Rattle.reg_modes.specs.reg_fold.Closed.{id_of}
use Rattle.reg_modes.specs.reg_fold.Entries.{entries}
use Rattle.reg_modes.specs.reg_fold.Standing.{live}
use Rattle.reg_rules.specs.Standing.{is_of}
use Rattle.reg_modes.specs.reg_set.Records.{Records}

none_least : (es : List Entry) → reduce min (map (λ e. e.id) es) ≡ None → es ≡ []
none_least [] none = refl
none_least (e ∷ es) none = absurd (cc)

pub unknown_id : (o : Option ℕ) (b : Bool) → is_some o ≡ not b → b ≡ true → o ≡ None
unknown_id None b is none = refl
unknown_id (Some id) b is none = absurd (false≢true (sym (is ∙ ap not none)))

module _ (q : Entry → Bool) where
  abbrev Fails : Entry → Type 0
  Fails e = q e ≡ false

  each_fails : (es : List Entry) → filter q es ≡ [] → AllByRecursion Fails es
  each_fails [] none = tt
  each_fails (e ∷ es) none =
      elim (q e) as (λ b. q e ≡ b → cond b (e ∷ filter q es) (filter q es) ≡ [] → AllByRecursion Fails (e ∷ es)) [
        | true ↦ λ _ none. absurd (cc)
        | false ↦ λ fails none. (fails, each_fails es none)
      ] refl none

  still_fails : (p : Entry → Bool) (es : List Entry) → AllByRecursion Fails es → AllByRecursion Fails (filter p es)
  still_fails p [] all = tt
  still_fails p (e ∷ es) all =
      elim (p e) as (λ b. AllByRecursion Fails (cond b (e ∷ filter p es) (filter p es))) [
        | true ↦ (all.0, still_fails p es all.1)
        | false ↦ still_fails p es all.1
      ]

  none_passes : (p : Entry → Bool) → ((e : Entry) → p e ≡ true → q e ≡ true) → (es : List Entry) → AllByRecursion Fails es
      → filter p es ≡ []
  none_passes p less [] all = refl
  none_passes p less (e ∷ es) all =
      elim (p e) as (λ b. p e ≡ b → cond b (e ∷ filter p es) (filter p es) ≡ []) [
        | true ↦ λ passes. absurd (false≢true (sym all.0 ∙ less e passes))
        | false ↦ λ _. none_passes p less es all.1
      ] refl

module _ (rs : Records) (subject normal : List ℕ) (unknown : id_of rs normal ≡ None) where
  none_live : (p : Entry → Bool) → ((e : Entry) → p e ≡ true → has_schema normal e ≡ true) → newest (filter p (live rs subject)) ≡ None
  none_live p less =
      let q : Entry → Bool = has_schema normal in
      let all = each_fails q (entries rs) (none_least (filter q (entries rs)) unknown) in
      ap newest (none_passes q p less (live rs subject)
      (still_fails q (counts false) _ (still_fails q (λ e. bytes_eq e.subject subject) (entries rs) all)))

  pub no_live_schema : newest (filter (has_schema normal) (live rs subject)) ≡ None
  no_live_schema = none_live (has_schema normal) (λ e h. h)

  pub no_live_import : (id : ℕ) → newest (filter (is_of id normal) (live rs subject)) ≡ None
  no_live_import id = none_live (is_of id normal) (λ e h. right (e.id == id) (has_schema normal e) h)
    where
      right : (a b : Bool) → (a && b) ≡ true → b ≡ true
      right true b h = h
      right false b h = absurd (false≢true h)
