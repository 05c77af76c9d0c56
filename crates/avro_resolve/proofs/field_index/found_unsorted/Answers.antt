use Rattle.std.proofs.Common.{◌≡◌, ◌∙◌, ◌++◌, length, map, ap, refl, sym, subst, slice_get, Some}
use Rattle.std.proofs.lemmas.Option.{slice_get_read}
use Rattle.avro_resolve.specs.FieldIndex.{at_place, AreFoundUpto}
use Rattle.avro_resolve.proofs.FieldIndexes.{found_none, found_more}
use Rattle.avro_resolve.proofs.field_index.found_unsorted.Goals as goal

pub loop-place-init : goal.loop-place-init
loop-place-init c =
    let fs = c.args.«_reader».now in
    let gs = c.args.writer.now in
    let s = c.args.field_index.now in
    let is : c.add_found.new.found.items ≡ map (at_place (length gs)) s.others.items =
    c.in_ok-add_found.ensures
    ∙ ap (λ xs. xs ++ map (at_place (length gs)) c.as_slice.result.now) c.new-found.ensures.items
    ∙ ap (map (at_place (length gs))) c.as_slice.ensures.value in
    subst (AreFoundUpto fs gs 0) (sym is) (found_none fs gs s.others.items c.requires.field_index.others)

pub loop-place-preserved : goal.loop-place-preserved
loop-place-preserved c =
    let fs = c.args.«_reader».now in
    let gs = c.args.writer.now in
    let s = c.args.field_index.now in
    let p = c.loop-place.place in
    let g = c.index-writer-place.result in
    let xs = c.loop-place.found.items in
    let at : slice_get gs p ≡ Some g = slice_get_read gs (length gs) p g refl c.loop-place-test.true c.index-writer-place.is in
    found_more fs gs s c.requires.field_index c.requires.distinct p g at xs c.loop-place.invariant
    (record { ref_ptr = c.args.writer.ref_ptr; now = g.name }) refl c.add_found-in-loop-place.new.found.items
    (c.in_ok-add_found-2.ensures ∙ ap (λ hs. xs ++ map (at_place p) hs) c.with_name.ensures)
