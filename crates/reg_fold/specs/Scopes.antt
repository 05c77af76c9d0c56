-- Private: what is kept of what scopes have of their own.
use Rattle.std.specs.Prelude.{◌≡◌, Bool, true, false, Option, Some, None, bytes_eq, if◌then◌else◌}
use Rattle.std.specs.BTreeMap.{get_by_text}
use Rattle.reg_fold.specs.InForce.{Scope}
use Rattle.reg_fold.specs.declared.scoped.Scoped.{Scoped}

abbrev pub same_scope : Scope → Scope → Bool
same_scope None None = true
same_scope None (Some other) = false
same_scope (Some subject) None = false
same_scope (Some subject) (Some other) = bytes_eq subject other

-- what is kept for a scope
abbrev pub kept_own : {A : Type 0} → Scoped A → Scope → Option A
kept_own owns None = owns.of_all
kept_own owns (Some subject) = get_by_text owns.of_subjects subject

-- new has o at the scope, and what old has at each other
abbrev pub HasOwn : {A : Type 0} → Scoped A → Scoped A → Scope → Option A → Type 0
HasOwn old new scope o = (q : Scope) → kept_own new q ≡ (if same_scope scope q then o else kept_own old q)

-- what is kept is what the scopes have of their own
abbrev pub AreOwn : {A : Type 0} → (Scope → Option A) → Scoped A → Type 0
AreOwn own owns = (q : Scope) → kept_own owns q ≡ own q
