-- Worked levels.
use Rattle.std.proofs.Common.{◌≡◌, false, ℕ, List, [], ◌∷◌, Some, None, map, codes, IsSome, zero, suc, arith, refl, inl, inr}
use Rattle.std.specs.Fmt.{digits}
use Rattle.serde_json.proofs.OnLiterals.{serde_json_on_literals}
use Rattle.avro_resolve.specs.declared.trail.Hop.TheVariants as hop
use Rattle.avro_resolve.specs.declared.trail.ClashKind.TheVariants as clash
use Rattle.avro_resolve.specs.declared.trail.Trail.{Trail}
use Rattle.avro_resolve.specs.Trails.{trail_along, IsShown, AreCompatible, ComesFirst}
use Rattle.reg_level_names.specs.declared.level.Level.TheVariants as levels
use Rattle.reg_level_names.specs.Level.{level_text, level_named, all_levels}
use Rattle.reg_levels.specs.declared.direction.Direction.{Direction}
use Rattle.reg_levels.specs.declared.direction.Direction.TheVariants.{Backward, Forward}
use Rattle.reg_levels.specs.RequiredPairs.{Required, required_pairs}
use Rattle.reg_levels.specs.LevelVerdict.{passed}
use Rattle.reg_levels.specs.Message.{message_of}
use Rattle.reg_levels.specs.Texts.{VersionText, nodes_in, versions_in, IsVerdictOfTexts}

-- names in any case are names, and others aren't
pub any_case : level_named (codes "Backward_Transitive") ≡ Some levels.BackwardTransitive
any_case = refl

pub other_name : level_named (codes "BACKWARDS") ≡ None
other_name = refl

-- each level is the one of its name
pub by_their_names : map (λ l. level_named (level_text l)) all_levels ≡ map Some all_levels
by_their_names = refl

-- which versions a level asks, and in which direction
abbrev asked : Required → ℕ × Direction
asked p = (p.version, p.direction)

abbrev three : List VersionText
three = (1, codes "\"int\"") ∷ (2, codes "\"long\"") ∷ (4, codes "\"string\"") ∷ []

pub of_none : map asked (required_pairs levels.None [] (versions_in three)) ≡ []
of_none = refl

pub of_backward : map asked (required_pairs levels.Backward [] (versions_in three)) ≡ (4, Backward) ∷ []
of_backward = refl

pub of_full_transitive : map asked (required_pairs levels.FullTransitive [] (versions_in three))
    ≡ (4, Backward) ∷ (4, Forward) ∷ (2, Backward) ∷ (2, Forward) ∷ (1, Backward) ∷ (1, Forward) ∷ []
of_full_transitive = refl

pub of_no_versions : map asked (required_pairs levels.Full [] []) ≡ []
of_no_versions = refl

-- A field that comes back with another type clashes with the version before the last alone.
abbrev back_again : List ℕ
back_again = codes "{\"type\":\"record\",\"name\":\"R\",\"fields\":[{\"name\":\"a\",\"type\":\"string\",\"default\":\"\"}]}"

abbrev two : List VersionText
two =
    (1, codes "{\"type\":\"record\",\"name\":\"R\",\"fields\":[{\"name\":\"a\",\"type\":\"int\"}]}")
    ∷ (2, codes "{\"type\":\"record\",\"name\":\"R\",\"fields\":[]}") ∷ []

reads_second : AreCompatible (nodes_in back_again) (nodes_in (codes "{\"type\":\"record\",\"name\":\"R\",\"fields\":[]}"))
unfolding serde_json_on_literals
reads_second [] = refl
reads_second (k ∷ ks) = refl

pub passes_backward : IsVerdictOfTexts levels.Backward back_again two passed
passes_backward = inl (reads_second, refl)

abbrev mismatch : Trail
mismatch = record { hops = hop.Field (codes "a") ∷ []; kind = clash.TypeMismatch }

clashes_with_first : IsShown (nodes_in back_again)
    (nodes_in (codes "{\"type\":\"record\",\"name\":\"R\",\"fields\":[{\"name\":\"a\",\"type\":\"int\"}]}")) mismatch
unfolding serde_json_on_literals
clashes_with_first = (0 ∷ [], refl, first)
  where
    first : (ls : List ℕ)
        → IsSome (
        trail_along (nodes_in back_again)
        (nodes_in (codes "{\"type\":\"record\",\"name\":\"R\",\"fields\":[{\"name\":\"a\",\"type\":\"int\"}]}")) ls)
        → ComesFirst (0 ∷ []) ls
    first [] p = cc
    first (zero ∷ []) p = inr (refl, inr (refl, tt))
    first (suc k ∷ []) p = inr (refl, inl (omega arith))
    first (k ∷ l ∷ ls) p = inl (omega arith)

pub clashes_transitively : IsVerdictOfTexts levels.BackwardTransitive back_again two
    (record { ok = false; version = Some 1; direction = Some Backward; trail = Some mismatch })
clashes_transitively = inl (reads_second, inr (mismatch, clashes_with_first, refl))

pub message : message_of (record { ok = false; version = Some 1; direction = Some Backward; trail = Some mismatch })
    ≡ Some (codes "version 1, BACKWARD, at /field:a: TYPE_MISMATCH")
unfolding digits
message = refl
