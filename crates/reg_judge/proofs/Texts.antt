-- Equal texts, and what is kept under them.
use Rattle.std.proofs.Common.{◌≡◌, ℕ, Bool, true, false, Some, [], ◌∷◌, ◌++◌, refl, ap, subst, String, string_bytes, ◌&&◌}
use Rattle.std.specs.Option.{option_map_or}
use Rattle.std.specs.Prelude.{List, string_eq}
use Rattle.std.proofs.lemmas.List.{map-append}
use Rattle.std.proofs.lemmas.Slice.Eq.{bytes_eq-Decides}
use Rattle.avro_resolve.specs.avro_schema.Schema.{Meaning, schema_of}
use Rattle.avro_resolve.specs.declared.resolving.Verdict.{Verdict}
use Rattle.reg_levels.specs.Texts.{nodes_in}
use Rattle.reg_judge.specs.declared.kept_schema.KeptSchema.{KeptSchema}
use Rattle.reg_judge.specs.Judge.{is_pair}
use Rattle.reg_judge.specs.Kept.{IsPairVerdict, IsSchemaOf, IsVerdictOf, pairs_of, texts_of}

pub same_bytes : {Z : Type 0} (a b : String Z) → string_eq a b ≡ true → string_bytes a ≡ string_bytes b
same_bytes a b equal = (bytes_eq-Decides (string_bytes a) (string_bytes b)).0 equal

-- a schema is that of each equal text
pub of_equal : {Z : Type 0} (a b : String Z) (kept : KeptSchema) → IsSchemaOf (a, kept) → string_eq a b ≡ true → IsSchemaOf (b, kept)
unfolding IsSchemaOf
of_equal a b kept is equal = subst (λ text. schema_of text ≡ Some kept.schema) (same_bytes a b equal) is

-- the nodes that a text means
pub nodes_of : (text : List ℕ) (schema : Meaning) → schema_of text ≡ Some schema → nodes_in text ≡ schema.nodes
nodes_of text schema is = ap (λ m. option_map_or (λ s. s.nodes) m []) is

-- both halves of a test
both : (a b : Bool) → (a && b) ≡ true → (a ≡ true) × (b ≡ true)
both true b h = (refl, h)
both false b h = cc

pub same_pair : {Z : Type 0} (k j : String Z × String Z) → is_pair (texts_of k) (texts_of j) ≡ true → texts_of k ≡ texts_of j
same_pair k j equal =
    let halves = both (string_eq k.0 j.0) (string_eq k.1 j.1) equal in
    let first = same_bytes k.0 j.0 halves.0 in
    let second = same_bytes k.1 j.1 halves.1 in
    cc

-- a verdict is that of each equal pair
pub of_same : {Z : Type 0} (k j : String Z × String Z) (v : Verdict) → texts_of k ≡ texts_of j → IsVerdictOf (k, v) → IsVerdictOf (j, v)
unfolding IsVerdictOf
of_same k j v same is = subst (λ p. IsPairVerdict p v) same is

pub of_pair : {Z : Type 0} (k : String Z × String Z) (v : Verdict) → IsVerdictOf (k, v) → IsPairVerdict (texts_of k) v
unfolding IsVerdictOf
of_pair k v is = is

-- the pairs with one more
pub pairs_more : {Z : Type 0} (es : List ((String Z × String Z) × Verdict)) (k : String Z × String Z) (v : Verdict)
    → pairs_of (es ++ (k, v) ∷ []) ≡ pairs_of es ++ texts_of k ∷ []
pairs_more {Z} es k v = map-append (λ (e : (String Z × String Z) × Verdict). texts_of e.0) es ((k, v) ∷ [])
