-- What is sketched of two lines, and that it is one text.
use Rattle.std.proofs.Common.{◌≡◌, ℕ, List, Option, None, Some, IfSome, subst}
use Rattle.avro_schema.specs.Schema.{Meaning, schema_of}
use Rattle.avro_schema.specs.declared.node.Node.{Node}
use Rattle.avro_sketch.specs.Sketch.{HaveOneSketch, IsSketch}
use Rattle.reg_records.specs.TextLine.{after_front}
use Rattle.reg_program.specs.Sketch.{LeavesRest, Sketches, SpellsSchema}

-- the line at the front spells the schema, and what stands after it is left
abbrev pub Reads : Option (List ℕ) → Option (List ℕ) → Meaning → Type 0
Reads old new schema = IfSome old (λ input. SpellsSchema input schema × (new ≡ Some (after_front input)))

pub sketched : (old mid new : Option (List ℕ)) (r w : Meaning) (out : List ℕ)
    → Reads old mid r → Reads mid new w → IsSketch r.nodes w.nodes out → IfSome old (λ input. Sketches input out)
sketched None mid new r w out one two is = tt
sketched (Some input) mid new r w out (spells, left) two is =
    let next = subst (λ o. Reads o new w) left two in (r, w, spells, next.0, is)

pub left : (old mid new : Option (List ℕ)) (r w : Meaning) → Reads old mid r → Reads mid new w → LeavesRest old new
left None mid new r w one two = tt
left (Some input) mid new r w (spells, here) two = let next = subst (λ o. Reads o new w) here two in next.1

-- a line spells one schema
one_schema : (input : List ℕ) (a b : Meaning) → SpellsSchema input a → SpellsSchema input b → a ≡ b
one_schema input a b (s, fs, is) (t, ft, it) =
    let texts : s ≡ t = cc (fs, ft) in
    let there : schema_of t ≡ Some a = subst (λ u. schema_of u ≡ Some a) texts is in
    cc (there, it)

pub one_sketch : ((r w : List Node) → HaveOneSketch r w) → (input s t : List ℕ) → Sketches input s → Sketches input t → s ≡ t
one_sketch law input s t (r, w, reader, writer, is) (r', w', reader', writer', is') =
    let readers = one_schema input r r' reader reader' in
    let writers = one_schema (after_front input) w w' writer writer' in
    law r'.nodes w'.nodes s t (
    subst (λ (m : Meaning). IsSketch r'.nodes m.nodes s) writers (subst (λ (m : Meaning). IsSketch m.nodes w.nodes s) readers is)) is'
