-- What stays true of the entries of a cache.
use Rattle.std.proofs.Common.{◌≡◌, Bool, true, inl, inr, List, [], ◌∷◌, ◌++◌, Some, Result, Ok}
use Rattle.std.proofs.Common.{Err, MatchResult, IfOk, OnOk, OnErr, is_ok, sym, subst}
use Rattle.std.specs.Map.{lookup, lookup_entry, remove_entry}
use Rattle.std.proofs.lemmas.List.Elements.{Contains-push_cases}
use Rattle.lru.specs.LruCache.{LruCache, put_entries}
use Rattle.lru.proofs.CallerLemmas.{Contains-lookup, Contains-lookup_entry, Contains-put_entries, Contains-remove_entry}
use Rattle.lru.proofs.Splits.{Contains-head, Contains-nil, Contains-tail}
use Rattle.reg_judge.specs.Kept.{AllAre}

module _ {K V : Type 0} (P : K × V → Type 0) where
  -- what is found is one of them
  pub found : (test : K → Bool) (es : List (K × V)) (e : K × V) → AllAre P es → lookup_entry test es ≡ Some e → P e × (test e.0 ≡ true)
  found test es e all is = let at = Contains-lookup_entry test es e is in (all e at.0, at.1)

  pub found_value : (test : K → Bool) (es : List (K × V)) (v : V) → AllAre P es
      → lookup test es ≡ Some v → (k : K) × P (k, v) × (test k ≡ true)
  found_value test es v all is = let at = Contains-lookup test es v is in (at.0, all (at.0, v) at.1, at.2)

  pub without : (test : K → Bool) (es : List (K × V)) → AllAre P es → AllAre P (remove_entry test es)
  without test es all e within = all e (Contains-remove_entry test es e within)

  -- what is put holds under its key and under each equal one
  pub with_put : (eq : K → K → Bool) (c : LruCache K V) (k : K) (v : V) → AllAre P c.entries
      → P (k, v) → ((j : K) → eq k j ≡ true → P (j, v)) → AllAre P (put_entries eq c k v)
  with_put eq c k v all here there e within = elim (Contains-put_entries eq c k v e within) [
    | inl was ↦ all e was
    | inr (value, inl key) ↦ subst (λ w. P (e.0, w)) (sym value) (subst (λ j. P (j, v)) (sym key) here)
    | inr (value, inr (w, was, equal)) ↦ subst (λ w. P (e.0, w)) (sym value) (there e.0 equal)
  ]

module _ {X : Type 0} (P : X → Type 0) where
  pub none : AllAre P []
  none x within = absurd (Contains-nil x within)

  pub pushed : (xs : List X) (x : X) → AllAre P xs → P x → AllAre P (xs ++ x ∷ [])
  pushed xs x all one y within = elim (Contains-push_cases xs x y within) [
    | inl was ↦ all y was
    | inr same ↦ subst P same one
  ]

  pub first : (x : X) (xs : List X) → AllAre P (x ∷ xs) → P x
  first x xs all = all x (Contains-head x xs)

  pub others : (x : X) (xs : List X) → AllAre P (x ∷ xs) → AllAre P xs
  others x xs all y within = all y (Contains-tail x xs y within)

-- what holds of both holds of what is left
pub either : {X E C : Type 0} (r : Result X E) (Q : C → Type 0) (c new old : C) → OnOk r (c ≡ new) → OnErr r (c ≡ old) → Q new → Q old → Q c
either (Ok x) Q c new old ok err q p = subst Q (sym ok) q
either (Err e) Q c new old ok err q p = subst Q (sym err) p

-- what holds of the new one holds where all went well
pub if_ok : {X E C : Type 0} (r : Result X E) (Q : C → Type 0) (c new : C) → OnOk r (c ≡ new) → Q new → is_ok r ≡ true → Q c
if_ok (Ok x) Q c new ok q well = subst Q (sym ok) q
if_ok (Err e) Q c new ok q well = cc

-- what holds of a value holds of what is inside a result that equals it
pub of_copy : {X E : Type 0} (r : Result X E) (Q : X → Type 0) (B : E → Type 0) (x : X) → MatchResult r (λ y. y ≡ x) B → Q x → IfOk r Q
of_copy (Ok y) Q B x same q = subst Q (sym same) q
of_copy (Err e) Q B x same q = tt
