-- A method or a target that is no UTF-8 takes no turn.
use Rattle.std.proofs.Common.{◌≡◌, List, ℕ, Bool, true, false, Some, None, refl, ap, subst, if◌then◌else◌}
use Rattle.std.specs.Prelude.{Option, option_and_then, bytes_eq, codes, ◌&&◌}
use Rattle.std.specs.Str.{IsUtf8, is_utf8, chars}
use Rattle.std.proofs.lemmas.Slice.Eq.{bytes_eq-Decides}
use Rattle.std.proofs.lemmas.Str.{IsUtf8-from_is_utf8}
use lib.Utf8.{encode}
use Rattle.reg_routes.specs.Router.{route_of}
use Rattle.reg_routes.specs.Target.{is_path, path_of}
use Rattle.reg_routes.specs.declared.route.Route.{Route}
use Rattle.reg_routes.specs.declared.route.Route.TheVariants as routes
use Rattle.reg_connection.specs.TurnKinds.{kind_of, kind_on}

-- a test that isn't passed gives `false`
not-true : (b : Bool) → (b ≡ true → ⊥) → b ≡ false
not-true true fails = absurd (fails refl)
not-true false fails = refl

and-none : (b : Bool) → (b && false) ≡ false
and-none true = refl
and-none false = refl

-- such a target is no path
pub no-path : (method target : List ℕ) → (IsUtf8 target → ⊥) → kind_of method target ≡ None
no-path method target no_text =
    let unread : is_utf8 target ≡ false = not-true (is_utf8 target) (λ e. no_text (IsUtf8-from_is_utf8 target e)) in
    let no : is_path target ≡ false = rw unread (and-none _) in
    ap (λ b. if b then option_and_then (kind_on method) (route_of (path_of target)) else None) no

module _ (method : List ℕ) (no_text : IsUtf8 method → ⊥) where
  -- such a method isn't one that is a text
  other : (text : List ℕ) → is_utf8 text ≡ true → bytes_eq text method ≡ false
  other text read = not-true (bytes_eq text method)
      (λ e. no_text (subst IsUtf8 ((bytes_eq-Decides text method).0 e) (IsUtf8-from_is_utf8 text read)))

  no_get : bytes_eq (codes "GET") method ≡ false
  unfolding is_utf8 chars encode
  no_get = other (codes "GET") refl

  no_post : bytes_eq (codes "POST") method ≡ false
  unfolding is_utf8 chars encode
  no_post = other (codes "POST") refl

  no_put : bytes_eq (codes "PUT") method ≡ false
  unfolding is_utf8 chars encode
  no_put = other (codes "PUT") refl

  no_delete : bytes_eq (codes "DELETE") method ≡ false
  unfolding is_utf8 chars encode
  no_delete = other (codes "DELETE") refl

  -- no path offers it
  no-kind_on : (route : Route) → kind_on method route ≡ None
  no-kind_on routes.SchemaById = rw no_get refl
  no-kind_on routes.IdVersions = rw no_get refl
  no-kind_on routes.Subjects = rw no_get refl
  no-kind_on routes.Subject = rw (no_post, no_delete) refl
  no-kind_on routes.Versions = rw (no_get, no_post) refl
  no-kind_on routes.Version = rw (no_get, no_delete) refl
  no-kind_on routes.VersionSchema = rw no_get refl
  no-kind_on routes.CheckAll = rw no_post refl
  no-kind_on routes.CheckOne = rw no_post refl
  no-kind_on routes.Level = rw (no_get, no_put) refl
  no-kind_on routes.SubjectLevel = rw (no_get, no_put, no_delete) refl
  no-kind_on routes.Mode = rw (no_get, no_put) refl
  no-kind_on routes.SubjectMode = rw (no_get, no_put, no_delete) refl

  pub no-method : (target : List ℕ) → kind_of method target ≡ None
  no-method target = by_path (is_path target) (route_of (path_of target))
    where
      by_path : (b : Bool) (o : Option Route) → (if b then option_and_then (kind_on method) o else None) ≡ None
      by_path false o = refl
      by_path true None = refl
      by_path true (Some route) = no-kind_on route
