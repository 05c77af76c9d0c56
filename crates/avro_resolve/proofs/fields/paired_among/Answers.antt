use Rattle.std.proofs.Common.{◌≡◌, ◌+◌, ◌<◌, ◌≤◌, ◌∷◌, ◌∙◌, true, false, cond, length, drop}
use Rattle.std.proofs.Common.{filter, get_or, is_some, slice_get, arith, ap, sym}
use Rattle.avro_schema.specs.declared.node.Field.{Field}
use Rattle.avro_resolve.specs.Pairing.{partner}
use Rattle.avro_resolve.proofs.FieldIndexes.{any_default, earlier_more, found_first, found_inside}
use Rattle.avro_resolve.proofs.FieldIndexes.{has_partner, no_found, paired_to}
use Rattle.avro_resolve.proofs.FieldIndexes.{paired_rest, slice_get_behind}
use Rattle.avro_resolve.proofs.fields.paired_among.Goals as goal
use Rattle.avro_resolve.proofs.fields.paired_among.Goals.{then-x-next+then-is_some+else-left-eq0, then-x-next+else-is_some, else-x-next}

pub returns-then-left-eq0 : goal.returns-then-left-eq0
returns-then-left-eq0 c =
    let gs = c.args.writer.now in
    let fs = c.args.reader.now in
    let xs = c.args.found.now in
    let n = c.loop-x.x-index in
    let x = get_or xs n no_found in
    let read : x ≡ get_or xs n x = any_default xs n no_found x c.loop-x-test.true in
    let i = c.loop-x.invariant in
    let f = c.index-reader-x.result in
    let rest = filter (λ (g : Field). is_some (partner gs g)) (drop (x.holder.field + 1) fs) in
    let first =
    found_first fs gs xs c.requires.found n c.loop-x.next x c.loop-x-test.true read i.earlier c.if-x-next.true f c.index-reader-x.is in
    let copied = has_partner c.field_at.result (partner gs f) (c.field_at.ensures ∙ first) in
    let tested = c.is_some.ensures in
    let passes = c.if-is_some.true in
    let has : is_some (partner gs f) ≡ true = cc in
    let none_left : c.loop-x.left ≡ 0 = omega (arith, c.if-left-eq0.true) in
    sym
    (i.left
    ∙ ap (λ l. slice_get l c.loop-x.left)
    (paired_to fs gs xs c.requires.found n c.loop-x.next x c.loop-x-test.true read i.earlier c.if-x-next.true f c.index-reader-x.is)
    ∙ ap (λ b. slice_get (cond b (f ∷ rest) rest) c.loop-x.left) has
    ∙ ap (slice_get (f ∷ rest)) none_left)

pub loop-x-preserved : goal.loop-x-preserved
loop-x-preserved c =
    let gs = c.args.writer.now in
    let fs = c.args.reader.now in
    let xs = c.args.found.now in
    let n = c.loop-x.x-index in
    let next = c.loop-x.next in
    let x = get_or xs n no_found in
    let i = c.loop-x.invariant in
    let test = c.loop-x-test.true in
    let read : x ≡ get_or xs n x = any_default xs n no_found x test in
    let inside : x.holder.field < length fs = found_inside fs gs xs c.requires.found n next x test read i.earlier in
    let rest = filter (λ (g : Field). is_some (partner gs g)) (drop (x.holder.field + 1) fs) in
    elim c.if-x-next.branch [
      | then-x-next+then-is_some+else-left-eq0 w ↦
          let up : next ≤ x.holder.field = w.if-x-next.true in
          let f = w.index-reader-x.result in
          let first = found_first fs gs xs c.requires.found n next x test read i.earlier up f w.index-reader-x.is in
          let copied = has_partner w.field_at.result (partner gs f) (w.field_at.ensures ∙ first) in
          let tested = w.is_some.ensures in
          let passes = w.if-is_some.true in
          let has : is_some (partner gs f) ≡ true = cc in
          let some_left : 0 < c.loop-x.left = omega (arith, w.if-left-eq0.false) in
          rw (w.left-is, w.next-is) (record {
            left = i.left
                ∙ ap (λ l. slice_get l c.loop-x.left)
                (paired_to fs gs xs c.requires.found n next x test read i.earlier up f w.index-reader-x.is)
                ∙ ap (λ b. slice_get (cond b (f ∷ rest) rest) c.loop-x.left) has
                ∙ slice_get_behind f rest c.loop-x.left some_left;
            earlier =
                earlier_more fs gs xs c.requires.found n next x test read i.earlier (x.holder.field + 1) (omega (arith, up)) (omega arith);
            within = omega (arith, inside);
          })
      | then-x-next+else-is_some w ↦
          let up : next ≤ x.holder.field = w.if-x-next.true in
          let f = w.index-reader-x.result in
          let first = found_first fs gs xs c.requires.found n next x test read i.earlier up f w.index-reader-x.is in
          let copied = has_partner w.field_at.result (partner gs f) (w.field_at.ensures ∙ first) in
          let tested = w.is_some.ensures in
          let fails = w.if-is_some.false in
          let has_none : is_some (partner gs f) ≡ false = cc in
          rw (w.left-is, w.next-is) (record {
            left = i.left
                ∙ ap (λ l. slice_get l c.loop-x.left)
                (paired_to fs gs xs c.requires.found n next x test read i.earlier up f w.index-reader-x.is)
                ∙ ap (λ b. slice_get (cond b (f ∷ rest) rest) c.loop-x.left) has_none;
            earlier =
                earlier_more fs gs xs c.requires.found n next x test read i.earlier (x.holder.field + 1) (omega (arith, up)) (omega arith);
            within = omega (arith, inside);
          })
      | else-x-next w ↦
          let low : x.holder.field < next = w.if-x-next.false in
          rw (w.left-is, w.next-is) (record {
            left = i.left;
            earlier = earlier_more fs gs xs c.requires.found n next x test read i.earlier next (omega arith) low;
            within = i.within;
          })
    ]

pub returns : goal.returns
returns c =
    let i = c.loop-x.invariant in
    sym (
    i.left
    ∙ ap (λ l. slice_get l c.loop-x.left)
    (paired_rest c.args.reader.now c.args.writer.now c.args.found.now c.requires.found c.loop-x.x-index
    c.loop-x.next c.loop-x-test.false c.loop-x.auto.x-index-end i.earlier i.within))
