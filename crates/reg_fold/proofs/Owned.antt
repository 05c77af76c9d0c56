-- What one more record does to what scopes have of their own.
use Rattle.std.proofs.Common.{◌≡◌, Bool, true, false, cond, List, [], ◌∷◌, ℕ, Option, Some}
use Rattle.std.proofs.Common.{None, option_and_then, unwrap_or, refl, sym, ap, ◌∙◌}
use Rattle.std.proofs.lemmas.Bool.{false≢true}
use Rattle.std.proofs.lemmas.Slice.Eq.{bytes_eq-Decides}
use Rattle.std.specs.BTreeMap.{is_at}
use Rattle.std.specs.Cmp.Lexicographic.{slice_cmp}
use Rattle.std.specs.List.{AllZip}
use Rattle.std.specs.Map.{lookup}
use Rattle.std.specs.Ordering.{is_eq, nat_cmp}
use Rattle.std.specs.Prelude.{⊤, string_bytes}
use Rattle.std.specs.declared.string.String.{String}
use Rattle.reg_values.specs.reg_records.declared.key.Key.{Key}
use Rattle.reg_values.specs.reg_records.declared.key.Key.TheVariants as keys
use Rattle.reg_values.specs.reg_records.declared.record.Record.{Record}
use Rattle.reg_set.specs.LastRecords.{last}
use Rattle.reg_set.specs.Records.{Records}
use Rattle.reg_values.specs.reg_level_names.declared.level.Level.{Level}
use Rattle.reg_fold.specs.IdMark.{id_mark, id_marked_of}
use Rattle.reg_fold.specs.InForce.{Scope, level_of, mode_name_of, own_level, own_mode_name}
use Rattle.reg_fold.specs.Scopes.{AreOwn, HasOwn, kept_own, same_scope}
use Rattle.reg_fold.specs.Step.{IsStep}
use Rattle.reg_fold.specs.declared.scoped.Scoped.{Scoped}

same_scope-same : (a b : Scope) → same_scope a b ≡ true → a ≡ b
same_scope-same (Some a) (Some b) h = ap Some ((bytes_eq-Decides a b).0 h)
same_scope-same (Some a) None h = absurd (false≢true h)
same_scope-same None (Some b) h = absurd (false≢true h)
same_scope-same None None h = refl

same_scope-itself : (a : Scope) → same_scope a a ≡ true
same_scope-itself (Some a) = (bytes_eq-Decides a a).1 refl
same_scope-itself None = refl

-- where a scope's own is what the last record of its key says
module _ {A : Type 0} (says : Record → Option A) (key_of : Scope → Key) where
  abbrev own_in : Records → Scope → Option A
  own_in rs scope = option_and_then says (last rs (key_of scope))

  module _ (S T : Records) (r : Record) (step : IsStep S T r) (old : Scoped A) (own : AreOwn (own_in S) old) where
    -- a record of another key changes none
    stays : ((q : Scope) → ¬ (r.key ≡ key_of q)) → AreOwn (own_in T) old
    stays apart q = own q ∙ sym (ap (option_and_then says) (step.others (key_of q) (apart q)))

    -- a record of a scope's key changes that of the scope
    changes : ((a b : Scope) → key_of a ≡ key_of b → a ≡ b) → (scope : Scope) → r.key ≡ key_of scope
        → (new : Scoped A) → HasOwn old new scope (says r) → AreOwn (own_in T) new
    changes one scope of_key new has q =
        has q
        ∙ elim (same_scope scope q) as (λ b. same_scope scope q ≡ b → cond b (says r) (kept_own old q) ≡ own_in T q) [
          | true ↦ λ e.
              sym (
              ap (option_and_then says)
              (ap (λ s. last T (key_of s)) (sym (same_scope-same scope q e)) ∙ ap (last T) (sym of_key) ∙ step.newest))
          | false ↦ λ e.
              let apart : ¬ (r.key ≡ key_of q) =
              λ same. false≢true (sym e ∙ ap (same_scope scope) (sym (one scope q (sym of_key ∙ same))) ∙ same_scope-itself scope) in
              own q ∙ sym (ap (option_and_then says) (step.others (key_of q) apart))
        ] refl

one_level : (a b : Scope) → keys.Config a ≡ keys.Config b → a ≡ b
one_level a b same = cc

one_mode : (a b : Scope) → keys.Mode a ≡ keys.Mode b → a ≡ b
one_mode a b same = cc

abbrev pub is_config : Key → Bool
is_config (keys.Schema subject version) = false
is_config (keys.Config scope) = true
is_config (keys.Mode scope) = false
is_config (keys.DeleteSubject subject) = false
is_config keys.Noop = false
is_config keys.IdMark = false

abbrev pub is_mode : Key → Bool
is_mode (keys.Schema subject version) = false
is_mode (keys.Config scope) = false
is_mode (keys.Mode scope) = true
is_mode (keys.DeleteSubject subject) = false
is_mode keys.Noop = false
is_mode keys.IdMark = false

abbrev pub is_id_mark : Key → Bool
is_id_mark (keys.Schema subject version) = false
is_id_mark (keys.Config scope) = false
is_id_mark (keys.Mode scope) = false
is_id_mark (keys.DeleteSubject subject) = false
is_id_mark keys.Noop = false
is_id_mark keys.IdMark = true

module _ (S T : Records) (r : Record) (step : IsStep S T r) where
  module _ (levels : Scoped Level) (own : AreOwn (own_level S) levels) where
    pub levels-stay : is_config r.key ≡ false → AreOwn (own_level T) levels
    unfolding own_level
    levels-stay other = stays level_of (λ q. keys.Config q) S T r step levels own (λ q same. false≢true (sym other ∙ ap is_config same))

    pub levels-change : (scope : Scope) → r.key ≡ keys.Config scope → (new : Scoped Level)
        → HasOwn levels new scope (level_of r) → AreOwn (own_level T) new
    unfolding own_level
    levels-change = changes level_of (λ q. keys.Config q) S T r step levels own one_level

  -- a record of another key leaves the mark of ids
  pub mark-stays : is_id_mark r.key ≡ false → id_mark T ≡ id_mark S
  unfolding id_mark
  mark-stays other =
      ap (λ o. unwrap_or (option_and_then id_marked_of o) 0) (step.others keys.IdMark (λ same. false≢true (sym other ∙ ap is_id_mark same)))

  -- one of the mark's key changes it to what it says
  pub mark-changes : r.key ≡ keys.IdMark → id_mark T ≡ unwrap_or (id_marked_of r) 0
  unfolding id_mark
  mark-changes of_key = ap (λ o. unwrap_or (option_and_then id_marked_of o) 0) (ap (last T) (sym of_key) ∙ step.newest)

  module _ (modes : Scoped (List ℕ)) (own : AreOwn (own_mode_name S) modes) where
    pub modes-stay : is_mode r.key ≡ false → AreOwn (own_mode_name T) modes
    unfolding own_mode_name
    modes-stay other = stays mode_name_of (λ q. keys.Mode q) S T r step modes own (λ q same. false≢true (sym other ∙ ap is_mode same))

    pub modes-change : (scope : Scope) → r.key ≡ keys.Mode scope → (new : Scoped (List ℕ))
        → HasOwn modes new scope (mode_name_of r) → AreOwn (own_mode_name T) new
    unfolding own_mode_name
    modes-change = changes mode_name_of (λ q. keys.Mode q) S T r step modes own one_mode

-- what is copied is none where the original is, and else a copy
abbrev IsCopy : {A : Type 0} → (A → A → Type 0) → Option A → Option A → Type 0
IsCopy D None None = ⊤
IsCopy D None (Some b) = ⊥
IsCopy D (Some a) None = ⊥
IsCopy D (Some a) (Some b) = D a b

pub option-copied : {A : Type 0} (D : A → A → Type 0) → ((a b : A) → D a b → b ≡ a) → (o p : Option A) → IsCopy D o p → p ≡ o
option-copied D d None None h = refl
option-copied D d None (Some b) h = absurd h
option-copied D d (Some a) None h = absurd h
option-copied D d (Some a) (Some b) h = ap Some (d a b h)

-- what is found in copies is a copy of what is found
pub lookup-copied : {Y A : Type 0} (D : A → A → Type 0) → ((a b : A) → D a b → b ≡ a)
    → (s : List ℕ) (xs ys : List (String Y × A)) → AllZip (λ p q. (string_bytes q.0 ≡ string_bytes p.0) × D p.1 q.1) xs ys
    → lookup (is_at (λ k. slice_cmp nat_cmp s (string_bytes k))) ys ≡ lookup (is_at (λ k. slice_cmp nat_cmp s (string_bytes k))) xs
lookup-copied D d s [] [] h = refl
lookup-copied D d s [] (y ∷ ys) h = absurd h
lookup-copied D d s (x ∷ xs) [] h = absurd h
lookup-copied D d s (x ∷ xs) (y ∷ ys) h =
    λ i. cond (is_eq (slice_cmp nat_cmp s (h.0.0 i))) (Some (d x.1 y.1 h.0.1 i)) (lookup-copied D d s xs ys h.1 i)
