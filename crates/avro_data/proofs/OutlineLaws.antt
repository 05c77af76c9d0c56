-- The outline of what a type is given follows from the outlines of what it is given of.
use Rattle.std.proofs.Common.{◌≡◌, ℕ, suc, ◌+◌, ◌≤◌, min, max, List, [], ◌∷◌, Contains, map, Option, Some, None}
use Rattle.std.proofs.Common.{IsSome, is_some, option_map, option_and_then, refl, sym, ◌∙◌, ap, arith}
use Rattle.std.specs.Option.{option_or}
use Rattle.avro_schema.specs.declared.node.NodeId.{NodeId}
use Rattle.avro_schema.specs.declared.node.Field.{Field}
use Rattle.avro_schema.specs.declared.node.Node.{Node}
use Rattle.avro_schema.specs.declared.node.Node.TheVariants as kind
use Rattle.avro_data.specs.declared.limits.TheConstants.{PARTS_LIMIT, LEVELS_LIMIT}
use Rattle.avro_data.specs.declared.outline.Outline.{Outline}
use Rattle.avro_data.specs.Value.{Value, branch, fields_of, Members, no_members, member}
use Rattle.avro_data.specs.Size.{parts_of_members, depth_of_members}
use Rattle.avro_data.specs.Sample.{of_fields, of_branches, given_by}
use Rattle.avro_data.specs.Outlines.{outline_of, nothing, beside, around, outlined_fields, outlined_branches, outlined}
use Rattle.avro_data.specs.Users.{awaited}
use Rattle.avro_data.proofs.Options.{here, later}

same_outline : (a b : Outline) → a.parts ≡ b.parts → a.levels ≡ b.levels → a.branch ≡ b.branch → a ≡ b
same_outline a b p l k = λ d. record { parts = p d; levels = l d; branch = k d }

-- an outline with members beside what was counted before them
abbrev with_members : Outline → Members → Outline
with_members a ms = record {
  parts = min (a.parts + parts_of_members ms) (PARTS_LIMIT + 1);
  levels = max a.levels (min (depth_of_members ms) (LEVELS_LIMIT + 1));
  branch = 0;
}

one_more : (a : Outline) (n : List ℕ) (v : Value) (ms : Members)
    → with_members a (member n v ms) ≡ with_members (beside a (outline_of v)) ms
one_more a n v ms =
    same_outline (with_members a (member n v ms)) (with_members (beside a (outline_of v)) ms) (omega arith) (omega arith) refl

all_members : (ms : Members) → outline_of (fields_of ms) ≡ around 0 (with_members nothing ms)
all_members ms = same_outline (outline_of (fields_of ms)) (around 0 (with_members nothing ms)) (omega arith) (omega arith) refl

in_branch : (k : ℕ) (v : Value) → outline_of (branch k v) ≡ around k (outline_of v)
in_branch k v = same_outline (outline_of (branch k v)) (around k (outline_of v)) (omega arith) (omega arith) refl

map-map : {A B C : Type 0} (f : A → B) (g : B → C) (o : Option A) → option_map g (option_map f o) ≡ option_map (λ x. g (f x)) o
map-map f g None = refl
map-map f g (Some x) = refl

map-same : {A B : Type 0} (f g : A → B) → ((x : A) → f x ≡ g x) → (o : Option A) → option_map f o ≡ option_map g o
map-same f g e None = refl
map-same f g e (Some x) = ap Some (e x)

module _ (g : NodeId → Option Value) (h : NodeId → Option Outline) (same : (i : NodeId) → option_map outline_of (g i) ≡ h i) where
  no_more : (a : Outline) → a.parts ≤ PARTS_LIMIT + 1 → a.branch ≡ 0 → with_members a no_members ≡ a
  no_more a within none = same_outline (with_members a no_members) a (omega arith) (omega arith) (sym none)

  fields_outlined : (a : Outline) → a.parts ≤ PARTS_LIMIT + 1 → a.branch ≡ 0 → (fs : List Field)
      → option_map (with_members a) (of_fields g fs) ≡ outlined_fields h a fs
  fields_outlined a within none [] = ap Some (no_more a within none)
  fields_outlined a within none (f ∷ fs) = go (g f.node) refl (λ v. fields_outlined (beside a (outline_of v)) (omega arith) refl fs)
    where
      go : (o : Option Value) → g f.node ≡ o
          → ((v : Value)
          → option_map (with_members (beside a (outline_of v))) (of_fields g fs) ≡ outlined_fields h (beside a (outline_of v)) fs)
          → option_map (with_members a) (option_and_then (λ v. option_map (member f.name v) (of_fields g fs)) o)
          ≡ option_and_then (λ b. outlined_fields h (beside a b) fs) (h f.node)
      go None e rest = ap (option_and_then (λ b. outlined_fields h (beside a b) fs)) (sym (ap (option_map outline_of) e) ∙ same f.node)
      go (Some v) e rest =
          map-map (member f.name v) (with_members a) (of_fields g fs)
          ∙ map-same (λ ms. with_members a (member f.name v ms))
          (with_members (beside a (outline_of v))) (one_more a f.name v) (of_fields g fs)
          ∙ rest v
          ∙ ap (option_and_then (λ b. outlined_fields h (beside a b) fs)) (sym (ap (option_map outline_of) e) ∙ same f.node)

  branches_outlined : (k : ℕ) (bs : List NodeId) → option_map outline_of (of_branches g k bs) ≡ outlined_branches h k bs
  branches_outlined k [] = refl
  branches_outlined k (b ∷ bs) = go (g b) refl (branches_outlined (suc k) bs)
    where
      go : (o : Option Value) → g b ≡ o → option_map outline_of (of_branches g (suc k) bs) ≡ outlined_branches h (suc k) bs
          → option_map outline_of (option_or (option_map (branch k) o) (of_branches g (suc k) bs))
          ≡ option_or (option_map (around k) (h b)) (outlined_branches h (suc k) bs)
      go None e rest =
          rest
          ∙ ap (λ o. option_or (option_map (around k) o) (outlined_branches h (suc k) bs)) (sym (ap (option_map outline_of) e) ∙ same b)
      go (Some v) e rest =
          ap Some (in_branch k v)
          ∙ ap (λ o. option_or (option_map (around k) o) (outlined_branches h (suc k) bs)) (sym (ap (option_map outline_of) e) ∙ same b)

  pub outlined_is : (o : Option Node) → option_map outline_of (given_by g o) ≡ outlined h o
  outlined_is None = refl
  outlined_is (Some (kind.Primitive p)) = refl
  outlined_is (Some (kind.Fixed n al size)) = refl
  outlined_is (Some (kind.Enum n al [] d)) = refl
  outlined_is (Some (kind.Enum n al (s ∷ ss) d)) = refl
  outlined_is (Some (kind.Array i)) = refl
  outlined_is (Some (kind.Map i)) = refl
  outlined_is (Some (kind.Record n al fs)) =
      map-map fields_of outline_of (of_fields g fs)
      ∙ map-same (λ ms. outline_of (fields_of ms)) (λ ms. around 0 (with_members nothing ms)) all_members (of_fields g fs)
      ∙ sym (map-map (with_members nothing) (around 0) (of_fields g fs))
      ∙ ap (option_map (around 0)) (fields_outlined nothing (omega arith) refl fs)
  outlined_is (Some (kind.Union bs)) = branches_outlined 0 bs

-- ---- what makes a type ready that wasn't

-- a type among those awaited that had no sample before, and has one now
abbrev pub IsNewPart : (NodeId → Option Outline) → (NodeId → Option Outline) → List NodeId → NodeId → Type 0
IsNewPart before now js j = Contains js j × (before j ≡ None) × IsSome (now j)

module _ (h now : NodeId → Option Outline) where
  new_field : (a b : Outline) (fs : List Field) → outlined_fields h a fs ≡ None
      → IsSome (outlined_fields now b fs) → (j : NodeId) × IsNewPart h now (map (λ f. f.node) fs) j
  new_field a b [] none some = absurd (cc)
  new_field a b (f ∷ fs) none some = go (h f.node) refl (now f.node) refl none some (λ c d. new_field c d fs)
    where
      go : (o : Option Outline) → h f.node ≡ o → (p : Option Outline) → now f.node ≡ p
          → option_and_then (λ c. outlined_fields h (beside a c) fs) o ≡ None
          → IsSome (option_and_then (λ c. outlined_fields now (beside b c) fs) p)
          → ((c d : Outline) → outlined_fields h c fs ≡ None → IsSome (outlined_fields now d fs)
          → (j : NodeId) × IsNewPart h now (map (λ f. f.node) fs) j)
          → (j : NodeId) × IsNewPart h now (f.node ∷ map (λ f. f.node) fs) j
      go o is None is_now none some rest = absurd (cc)
      go None is (Some y) is_now none some rest = (f.node, (here f.node (map (λ f. f.node) fs), is, ap is_some is_now))
      go (Some x) is (Some y) is_now none some rest =
          let (j, new) = rest (beside a x) (beside b y) none some in
          (j, (later f.node (map (λ f. f.node) fs) j new.0, new.1, new.2))

  new_branch : (k : ℕ) (bs : List NodeId) → outlined_branches h k bs ≡ None
      → IsSome (outlined_branches now k bs) → (j : NodeId) × IsNewPart h now bs j
  new_branch k [] none some = absurd (cc)
  new_branch k (b ∷ bs) none some = go (h b) refl (now b) refl none some (new_branch (suc k) bs)
    where
      go : (o : Option Outline) → h b ≡ o → (p : Option Outline) → now b ≡ p
          → option_or (option_map (around k) o) (outlined_branches h (suc k) bs) ≡ None
          → IsSome (option_or (option_map (around k) p) (outlined_branches now (suc k) bs))
          → (outlined_branches h (suc k) bs ≡ None → IsSome (outlined_branches now (suc k) bs) → (j : NodeId) × IsNewPart h now bs j)
          → (j : NodeId) × IsNewPart h now (b ∷ bs) j
      go (Some x) is p is_now none some rest = absurd (cc)
      go None is (Some y) is_now none some rest = (b, (here b bs, is, ap is_some is_now))
      go None is None is_now none some rest =
          let (j, new) = rest none some in
          (j, (later b bs j new.0, new.1, new.2))

  pub new_part : (o : Option Node) → outlined h o ≡ None → IsSome (outlined now o)
      → (n : Node) × (o ≡ Some n) × ((j : NodeId) × IsNewPart h now (awaited n) j)
  new_part None none some = absurd (cc)
  new_part (Some (kind.Primitive p)) none some = absurd (cc)
  new_part (Some (kind.Fixed n al size)) none some = absurd (cc)
  new_part (Some (kind.Enum n al [] d)) none some = absurd (cc)
  new_part (Some (kind.Enum n al (s ∷ ss) d)) none some = absurd (cc)
  new_part (Some (kind.Array i)) none some = absurd (cc)
  new_part (Some (kind.Map i)) none some = absurd (cc)
  new_part (Some (kind.Record n al fs)) none some =
      (kind.Record n al fs, refl, go (outlined_fields h nothing fs) refl (outlined_fields now nothing fs) refl none some)
    where
      go : (o : Option Outline) → outlined_fields h nothing fs ≡ o → (p : Option Outline) → outlined_fields now nothing fs ≡ p
          → option_map (around 0) o ≡ None → IsSome (option_map (around 0) p) → (j : NodeId) × IsNewPart h now (map (λ f. f.node) fs) j
      go (Some x) is p is_now none some = absurd (cc)
      go None is None is_now none some = absurd (cc)
      go None is (Some y) is_now none some = new_field nothing nothing fs is (ap is_some is_now)
  new_part (Some (kind.Union bs)) none some = (kind.Union bs, refl, new_branch 0 bs none some)
