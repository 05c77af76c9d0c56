-- The old versions that a level looks at decide.
use Rattle.std.proofs.Common.{◌≡◌, ℕ, zero, suc, ◌<◌, Bool, true, false, not, cond, List, [], ◌∷◌, length, map, reverse}
use Rattle.std.proofs.Common.{drop, get_or, Some, None, option_map, refl, sym, ap, subst, ◌∙◌, flat_map, arith}
use Rattle.std.proofs.lemmas.List.{drop-map, length-map}
use Rattle.std.specs.List.{find}
use Rattle.avro_resolve.specs.avro_schema.Schema.{is_schema}
use Rattle.avro_resolve.specs.avro_schema.declared.node.Node.{Node}
use Rattle.reg_level_names.specs.declared.level.Level.{Level}
use Rattle.reg_levels.specs.Judgement.{first_unread}
use Rattle.reg_levels.specs.LevelVerdict.{IsLevelVerdict, IsVerdictOn}
use Rattle.reg_levels.specs.RequiredPairs.{looked_at, passed_over, required_of}
use Rattle.reg_levels.specs.Texts.{VersionText, nodes_in, versions_in}
use Rattle.reg_levels.specs.declared.verdict.LevelVerdict.{LevelVerdict}

-- what stands for the versions looked at is looked at among what stands for all
pub looked_at-map : {X V : Type 0} (f : X → V) (level : Level) (xs : List X) → map f (looked_at level xs) ≡ looked_at level (map f xs)
looked_at-map f level xs =
    sym (drop-map f (passed_over level (length xs)) xs) ∙ ap (λ n. drop (passed_over level n) (map f xs)) (sym (length-map xs f))

map-map : {X Y Z : Type 0} (g : Y → Z) (f : X → Y) (xs : List X) → map g (map f xs) ≡ map (λ x. g (f x)) xs
map-map g f [] = refl
map-map g f (x ∷ xs) = ap (λ ys. g (f x) ∷ ys) (map-map g f xs)

-- where all old texts are read, the last ones are
read-drop : (n : ℕ) (olds : List VersionText) → first_unread olds ≡ None → first_unread (drop n olds) ≡ None
read-drop zero olds read = read
read-drop (suc n) [] read = read
read-drop (suc n) (old ∷ olds) read = read-drop n olds (rest (is_schema old.1) read)
  where
    rest : (b : Bool) → option_map (λ o. o.0) (cond (not b) (Some old) (find (λ o. not (is_schema o.1)) olds)) ≡ None
        → first_unread olds ≡ None
    rest true read = read
    rest false read = cc

-- where all old texts are read, each is
pub read-each : {X : Type 0} (text : X → List ℕ) (olds : List (ℕ × X)) (n : ℕ) (d : ℕ × X)
    → first_unread (map (λ o. (o.0, text o.1)) olds) ≡ None
    → n < length olds → is_schema (text (get_or olds n d).1) ≡ true
read-each text [] n d read within = let no : n < 0 = within in absurd (omega arith)
read-each text (o ∷ olds) zero d read within = first (is_schema (text o.1)) read
  where
    first : (b : Bool)
        → option_map {T = VersionText} (λ v. v.0)
        (cond (not b) (Some (o.0, text o.1)) (find (λ v. not (is_schema v.1)) (map (λ v. (v.0, text v.1)) olds)))
        ≡ None
        → b ≡ true
    first true read = refl
    first false read = cc
read-each text (o ∷ olds) (suc n) d read within =
    read-each text olds n d (read-drop 1 (map (λ v. (v.0, text v.1)) (o ∷ olds)) read) (omega arith)

-- The same where the texts are lent: text tells each.
module _ {X : Type 0} (text : X → List ℕ) (level : Level) (olds : List (ℕ × X)) where
  abbrev told : ℕ × X → VersionText
  told old = (old.0, text old.1)

  abbrev texts : List (ℕ × X) → List VersionText
  texts some = map told some

  texts_looked_at : texts (looked_at level olds) ≡ looked_at level (texts olds)
  texts_looked_at = looked_at-map told level olds

  pub looked_at-are_read : first_unread (texts olds) ≡ None → first_unread (texts (looked_at level olds)) ≡ None
  looked_at-are_read read = ap first_unread texts_looked_at ∙ read-drop (passed_over level (length (texts olds))) (texts olds) read

  pub looked_at-decide : (new : List Node) (v : LevelVerdict) (some : List (ℕ × X)) → some ≡ looked_at level olds
      → IsVerdictOn (flat_map (required_of level new) (reverse (map (λ old. (old.0, nodes_in (text old.1))) some))) v
      → IsLevelVerdict level new (versions_in (texts olds)) v
  looked_at-decide new v some same is =
      subst (λ vs. IsVerdictOn (flat_map (required_of level new) (reverse vs)) v)
      (ap (map (λ old. (old.0, nodes_in (text old.1)))) same
      ∙ looked_at-map (λ old. (old.0, nodes_in (text old.1))) level olds
      ∙ ap (looked_at level) (sym (map-map (λ old. (old.0, nodes_in old.1)) told olds))) is
