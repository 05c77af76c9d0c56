-- A pair that is put among the entries of a cache is used.
use Rattle.std.proofs.Common.{◌≡◌, ◌-◌, Bool, true, false, List, [], ◌∷◌, Option, Some, None}
use Rattle.std.proofs.Common.{cond, is_some, take, refl, sym, ap, ◌∙◌, String, ◌&&◌, ◌||◌}
use Rattle.std.specs.Prelude.{string_eq}
use Rattle.std.specs.Option.{option_map_or}
use Rattle.std.specs.Map.{lookup, lookup_entry, remove_entry}
use Rattle.std.proofs.lemmas.List.{take-map}
use Rattle.avro_resolve.specs.declared.resolving.Verdict.{Verdict}
use Rattle.lru.specs.LruCache.{LruCache, put_entries}
use Rattle.lru.proofs.CallerLemmas.{Contains-lookup_entry}
use Rattle.reg_judge.specs.Judge.{TextPair, has_pair, used, without}
use Rattle.reg_judge.specs.Kept.{pairs_of, texts_of}
use Rattle.reg_judge.proofs.Texts.{same_pair}

module _ (Z : Type 0) where
  abbrev pub Key : Type 0
  Key = String Z × String Z

  abbrev pub Entry : Type 0
  Entry = Key × Verdict

  abbrev pub same_key : Key → Key → Bool
  same_key k j = string_eq k.0 j.0 && string_eq k.1 j.1

  module _ (k : Key) where
    -- the key is found where its pair is among them
    found_where_had : (es : List Entry) → is_some (lookup_entry (same_key k) es) ≡ has_pair (pairs_of es) (texts_of k)
    found_where_had [] = refl
    found_where_had (e ∷ es) =
        elim (same_key k e.0) as (λ b.
        is_some (cond b (Some e) (lookup_entry (same_key k) es)) ≡ (b || has_pair (pairs_of es) (texts_of k))) [
          | true ↦ refl
          | false ↦ found_where_had es
        ]

    value_where_had : (es : List Entry) → is_some (lookup (same_key k) es) ≡ has_pair (pairs_of es) (texts_of k)
    value_where_had [] = refl
    value_where_had (e ∷ es) =
        elim (same_key k e.0) as (λ b.
        is_some (cond b (Some e.1) (lookup (same_key k) es)) ≡ (b || has_pair (pairs_of es) (texts_of k))) [
          | true ↦ refl
          | false ↦ value_where_had es
        ]

    -- where nothing is found, it isn't among them
    pub none_is_had : (es : List Entry) → (is_some (lookup (same_key k) es) ≡ true → ⊥) → has_pair (pairs_of es) (texts_of k) ≡ false
    none_is_had es never = by_test (has_pair (pairs_of es) (texts_of k)) (λ had. never (value_where_had es ∙ had))
      where
        by_test : (b : Bool) → (b ≡ true → ⊥) → b ≡ false
        by_test true never = absurd (never refl)
        by_test false never = refl

    removed : (es : List Entry) → pairs_of (remove_entry (same_key k) es) ≡ without (texts_of k) (pairs_of es)
    removed [] = refl
    removed (e ∷ es) =
        elim (same_key k e.0) as (λ b.
        pairs_of (cond b es (e ∷ remove_entry (same_key k) es))
        ≡ cond b (pairs_of es) (texts_of e.0 ∷ without (texts_of k) (pairs_of es))) [
          | true ↦ refl
          | false ↦ ap (λ ps. texts_of e.0 ∷ ps) (removed es)
        ]

    module _ (c : LruCache Key Verdict) (v : Verdict) where
      abbrev after : Option Entry → List Entry
      after o = option_map_or (λ e. (e.0, v) ∷ remove_entry (same_key k) c.entries) o ((k, v) ∷ take (c.cap - 1) c.entries)

      abbrev after_use : Bool → List TextPair
      after_use had = texts_of k ∷ cond had (without (texts_of k) (pairs_of c.entries)) (take (c.cap - 1) (pairs_of c.entries))

      by_case : (o : Option Entry) → lookup_entry (same_key k) c.entries ≡ o → pairs_of (after o) ≡ after_use (is_some o)
      by_case None at = ap (λ ps. texts_of k ∷ ps) (sym (take-map (λ (e : Entry). texts_of e.0) (c.cap - 1) c.entries))
      by_case (Some e) at =
          let same : texts_of k ≡ texts_of e.0 = same_pair k e.0 (Contains-lookup_entry (same_key k) c.entries e at).1 in
          ap (λ p. p ∷ pairs_of (remove_entry (same_key k) c.entries)) (sym same) ∙ ap (λ ps. texts_of k ∷ ps) (removed c.entries)

      pub put_is_used : pairs_of (put_entries same_key c k v) ≡ used c.cap (texts_of k) (pairs_of c.entries)
      put_is_used = by_case (lookup_entry (same_key k) c.entries) refl ∙ ap after_use (found_where_had c.entries)
