-- The texts of the schemas that are kept, as a judgement takes them out and puts them back.
use Rattle.std.proofs.Common.{◌≡◌, ◌⊎◌, inl, inr, ℕ, ◌-◌, ◌+◌, ◌<◌, Bool, true, false, List, [], ◌∷◌, ◌++◌, Option, Some, None, Result, Ok, Err}
use Rattle.std.proofs.Common.{OnErr, Bor, cond, is_some, length, get_or, map, take, drop, refl, sym, ap, subst, ◌∙◌, String, string_bytes, ◌||◌}
use Rattle.std.specs.Prelude.{bytes_eq, string_eq}
use Rattle.std.specs.Option.{option_map_or}
use Rattle.std.specs.Map.{lookup_entry, remove_entry}
use Rattle.std.proofs.lemmas.List.{append-nil, map-append, take-append-drop, take-map, take_more}
use Rattle.std.proofs.lemmas.List.Sums.{fold-append}
use Rattle.lru.specs.LruCache.{LruCache, put_entries}
use Rattle.lru.proofs.CallerLemmas.{Contains-lookup_entry}
use Rattle.reg_judge.specs.declared.kept_schema.KeptSchema.{KeptSchema}
use Rattle.reg_judge.specs.Judge.{KeepsInTurn, KeepsSchemas, LosesTexts, has_text, with_text, without_text, without_texts}
use Rattle.reg_judge.specs.Kept.{texts_in}
use Rattle.reg_judge.proofs.Texts.{same_bytes}

-- texts that are taken out one after the other
pub without_more : (texts : List (List ℕ)) (t : List ℕ) (before : List (List ℕ))
    → without_texts (texts ++ t ∷ []) before ≡ without_text t (without_texts texts before)
without_more texts t before = fold-append (λ (left : List (List ℕ)) (u : List ℕ). without_text u left) before texts (t ∷ [])

-- texts that are kept one after the other
pub keeps_more : (capacity : ℕ) (ts us before mid after : List (List ℕ))
    → KeepsInTurn capacity ts before mid → KeepsInTurn capacity us mid after → KeepsInTurn capacity (ts ++ us) before after
keeps_more capacity [] us before mid after h g = subst (λ (w : List (List ℕ)). KeepsInTurn capacity us w after) h g
keeps_more capacity (t ∷ ts) us before mid after (inl h) g = inl (keeps_more capacity ts us before mid after h g)
keeps_more capacity (t ∷ ts) us before mid after (inr h) g =
    inr (keeps_more capacity ts us (with_text capacity t before) mid after h g)

-- what holds holds after an error
pub on_err : {X E : Type 0} (r : Result X E) (P : Type 0) → P → OnErr r P
on_err (Ok x) P p = tt
on_err (Err e) P p = p

-- texts that are taken out one after the other, of old versions
module _ (olds : List (ℕ × Bor (List ℕ))) where
  abbrev pub texts_at : ℕ → List (List ℕ)
  texts_at n = map (λ (old : ℕ × Bor (List ℕ)). old.1.now) (take n olds)

  pub out_more : (i : ℕ) (t : List ℕ) (d : ℕ × Bor (List ℕ)) (before mid after : List (List ℕ)) → i < length olds
      → t ≡ (get_or olds i d).1.now → mid ≡ without_texts (texts_at i) before → after ≡ without_text t mid
      → after ≡ without_texts (texts_at (i + 1)) before
  out_more i t d before mid after within at so then_out =
      let more : texts_at (i + 1) ≡ texts_at i ++ (get_or olds i d).1.now ∷ [] =
      ap (map (λ (old : ℕ × Bor (List ℕ)). old.1.now)) (take_more olds i d within)
      ∙ map-append (λ (old : ℕ × Bor (List ℕ)). old.1.now) (take i olds) (get_or olds i d ∷ []) in
      then_out
      ∙ (ap (without_text t) so
      ∙ (sym (without_more (texts_at i) t before)
      ∙ (ap (λ (u : List ℕ). without_texts (texts_at i ++ u ∷ []) before) at ∙ ap (λ (us : List (List ℕ)). without_texts us before) (sym more))))

  pub loses_some : (n : ℕ) (before after : List (List ℕ)) → after ≡ without_texts (texts_at n) before
      → LosesTexts (map (λ (old : ℕ × Bor (List ℕ)). old.1.now) olds) before after
  loses_some n before after so = (
    texts_at n,
    (
      map (λ (old : ℕ × Bor (List ℕ)). old.1.now) (drop n olds),
      sym (map-append (λ (old : ℕ × Bor (List ℕ)). old.1.now) (take n olds) (drop n olds))
          ∙ ap (map (λ (old : ℕ × Bor (List ℕ)). old.1.now)) (take-append-drop n olds),
    ),
    so,
  )

-- the new text is taken out first
pub loses_new : (new : List ℕ) (olds before after : List (List ℕ)) → after ≡ without_text new before → LosesTexts (new ∷ olds) before after
loses_new new olds before after so = (new ∷ [], (olds, refl), so)

pub loses_more : (new : List ℕ) (olds before mid after : List (List ℕ)) → mid ≡ without_text new before → LosesTexts olds mid after
    → LosesTexts (new ∷ olds) before after
loses_more new olds before mid after so (taken, front, then_out) =
    (new ∷ taken, (front.0, ap (λ (ts : List (List ℕ)). new ∷ ts) front.1), then_out ∙ ap (without_texts taken) so)

pub loses_all : (olds before after : List (List ℕ)) → after ≡ without_texts olds before → LosesTexts olds before after
loses_all olds before after so = (olds, ([], append-nil olds), so)

-- all are taken out, and kept again
pub keeps_schemas : (capacity : ℕ) (new : List ℕ) (olds before one two three after : List (List ℕ))
    → one ≡ without_text new before → two ≡ without_texts olds one → KeepsInTurn capacity olds two three
    → (after ≡ three) ⊎ (after ≡ with_text capacity new three) → KeepsSchemas capacity new olds before after
keeps_schemas capacity new olds before one two three after so then_out kept last =
    keeps_more capacity olds (new ∷ []) (without_texts (new ∷ olds) before) three after
    (subst (λ (w : List (List ℕ)). KeepsInTurn capacity olds w three) (then_out ∙ ap (without_texts olds) so) kept) last

module _ (Z : Type 0) where
  abbrev pub Entry : Type 0
  Entry = String Z × KeptSchema

  -- what is taken out by a text
  pub removed : (t : List ℕ) (es : List Entry)
      → texts_in (remove_entry (λ (k : String Z). bytes_eq t (string_bytes k)) es) ≡ without_text t (texts_in es)
  removed t [] = refl
  removed t (e ∷ es) =
      elim (bytes_eq t (string_bytes e.0)) as (λ b.
      texts_in (cond b es (e ∷ remove_entry (λ (k : String Z). bytes_eq t (string_bytes k)) es))
      ≡ cond b (texts_in es) (string_bytes e.0 ∷ without_text t (texts_in es))) [
        | true ↦ refl
        | false ↦ ap (λ ts. string_bytes e.0 ∷ ts) (removed t es)
      ]

  module _ (k : String Z) where
    found_where_had : (es : List Entry) → is_some (lookup_entry (string_eq k) es) ≡ has_text (texts_in es) (string_bytes k)
    found_where_had [] = refl
    found_where_had (e ∷ es) =
        elim (string_eq k e.0) as (λ b.
        is_some (cond b (Some e) (lookup_entry (string_eq k) es)) ≡ (b || has_text (texts_in es) (string_bytes k))) [
          | true ↦ refl
          | false ↦ found_where_had es
        ]

    module _ (c : LruCache (String Z) KeptSchema) (v : KeptSchema) where
      abbrev after : Option Entry → List Entry
      after o = option_map_or (λ e. (e.0, v) ∷ remove_entry (string_eq k) c.entries) o ((k, v) ∷ take (c.cap - 1) c.entries)

      abbrev after_keep : Bool → List (List ℕ)
      after_keep had =
          string_bytes k ∷ cond had (without_text (string_bytes k) (texts_in c.entries)) (take (c.cap - 1) (texts_in c.entries))

      by_case : (o : Option Entry) → lookup_entry (string_eq k) c.entries ≡ o → texts_in (after o) ≡ after_keep (is_some o)
      by_case None at = ap (λ ts. string_bytes k ∷ ts) (sym (take-map (λ (e : Entry). string_bytes e.0) (c.cap - 1) c.entries))
      by_case (Some e) at =
          let same : string_bytes k ≡ string_bytes e.0 = same_bytes k e.0 (Contains-lookup_entry (string_eq k) c.entries e at).1 in
          ap (λ t. t ∷ texts_in (remove_entry (string_eq k) c.entries)) (sym same)
          ∙ ap (λ ts. string_bytes k ∷ ts) (removed (string_bytes k) c.entries)

      pub put_is_kept : texts_in (put_entries string_eq c k v) ≡ with_text c.cap (string_bytes k) (texts_in c.entries)
      put_is_kept = by_case (lookup_entry (string_eq k) c.entries) refl ∙ ap after_keep (found_where_had c.entries)
