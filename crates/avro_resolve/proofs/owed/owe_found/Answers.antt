use Rattle.std.proofs.Common.{◌≡◌, ◌+◌, ◌<◌, ◌≤◌, ◌∙◌, length, get_or, arith, ap, sym, option_copied}
use Rattle.std.proofs.lemmas.List.{drop_all}
use Rattle.std.specs.Result.{result_err}
use Rattle.avro_resolve.proofs.Hops.{drop_at}
use Rattle.avro_resolve.proofs.Owing.{owed_first, owed_pair, owed_none, owed_lacking, none_lacking, owed_all, owed_to, owed_rest}
use Rattle.avro_resolve.proofs.Searching.{none_if}
use Rattle.avro_resolve.proofs.FieldIndexes.{any_default, earlier_more, found_first, found_inside, no_found}
use Rattle.avro_resolve.proofs.owed.owe_found.Goals as goal
use Rattle.avro_resolve.proofs.owed.owe_found.Goals.{then-x-next+in-Some+in_ok-push, then-x-next+in_default+else-is_none, else-x-next}

pub loop-x-init : goal.loop-x-init
loop-x-init c = record {
  owed = owed_first c.args.writer.now c.args.reader.now c.args.owed.now.items c.requires.none;
  earlier = λ k d from below. absurd (omega arith);
  within = omega arith;
}

pub returns-then-is_none-clause-clash : goal.returns-then-is_none-clause-clash
returns-then-is_none-clause-clash c =
    let fs = c.args.reader.now in
    let gs = c.args.writer.now in
    let xs = c.args.found.now in
    let all = c.requires.found in
    let n = c.loop-x.x-index in
    let next = c.loop-x.next in
    let x = get_or xs n no_found in
    let i = c.loop-x.invariant in
    let test = c.loop-x-test.true in
    let up = c.if-x-next.true in
    let read : x ≡ get_or xs n x = any_default xs n no_found x test in
    let inside : x.holder.field < length fs = found_inside fs gs xs all n next x test read i.earlier in
    let here = owed_to fs gs xs all n next x test read i.earlier _ i.owed up in
    let at = drop_at fs x.holder.field c.index-reader-x.result inside c.index-reader-x.is in
    let has =
    ap option_copied (sym c.in_default.is)
    ∙ c.field_at.ensures
    ∙ found_first fs gs xs all n next x test read i.earlier up c.index-reader-x.result c.index-reader-x.is in
    ap result_err (sym (owed_lacking _ _ _ _ here c.index-reader-x.result at has (sym c.if-is_none.true ∙ none_if _ _ c.is_none.ensures)))

pub loop-x-preserved : goal.loop-x-preserved
loop-x-preserved c =
    let fs = c.args.reader.now in
    let gs = c.args.writer.now in
    let xs = c.args.found.now in
    let all = c.requires.found in
    let n = c.loop-x.x-index in
    let next = c.loop-x.next in
    let x = get_or xs n no_found in
    let i = c.loop-x.invariant in
    let test = c.loop-x-test.true in
    let read : x ≡ get_or xs n x = any_default xs n no_found x test in
    let inside : x.holder.field < length fs = found_inside fs gs xs all n next x test read i.earlier in
    elim c.if-x-next.branch [
      | then-x-next+in-Some+in_ok-push w ↦
          let up : next ≤ x.holder.field = w.if-x-next.true in
          let here = owed_to fs gs xs all n next x test read i.earlier _ i.owed up in
          let at = drop_at fs x.holder.field w.index-reader-x.result inside w.index-reader-x.is in
          let has =
          ap option_copied (sym w.in-Some.is)
          ∙ w.field_at.ensures
          ∙ found_first fs gs xs all n next x test read i.earlier up w.index-reader-x.result w.index-reader-x.is in
          rw (w.owed-is, w.next-is) (record {
            owed = owed_pair _ _ _ _ here w.index-reader-x.result at w.in-Some.g.now has w.push.new.self.items w.in_ok-push.ensures.items;
            earlier = earlier_more fs gs xs all n next x test read i.earlier (x.holder.field + 1) (omega (arith, up)) (omega arith);
            within = omega (arith, inside);
          })
      | then-x-next+in_default+else-is_none w ↦
          let up : next ≤ x.holder.field = w.if-x-next.true in
          let here = owed_to fs gs xs all n next x test read i.earlier _ i.owed up in
          let at = drop_at fs x.holder.field w.index-reader-x.result inside w.index-reader-x.is in
          let has =
          ap option_copied (sym w.in_default.is)
          ∙ w.field_at.ensures
          ∙ found_first fs gs xs all n next x test read i.earlier up w.index-reader-x.result w.index-reader-x.is in
          rw (w.owed-is, w.next-is) (record {
            owed = owed_none _ _ _ _ here w.index-reader-x.result at has (sym w.if-is_none.false ∙ none_if _ _ w.is_none.ensures);
            earlier = earlier_more fs gs xs all n next x test read i.earlier (x.holder.field + 1) (omega (arith, up)) (omega arith);
            within = omega (arith, inside);
          })
      | else-x-next w ↦
          let low : x.holder.field < next = w.if-x-next.false in
          rw (w.owed-is, w.next-is) (record {
            owed = i.owed;
            earlier = earlier_more fs gs xs all n next x test read i.earlier next (omega arith) low;
            within = i.within;
          })
    ]

pub returns-clause-clash : goal.returns-clause-clash
returns-clause-clash c =
    let i = c.loop-x.invariant in
    let fs = c.args.reader.now in
    let all = owed_rest fs c.args.writer.now c.args.found.now c.requires.found c.loop-x.x-index
    c.loop-x.next c.loop-x-test.false c.loop-x.auto.x-index-end i.earlier i.within _ i.owed in
    ap result_err (sym (none_lacking _ _ _ _ all (drop_all (length fs) fs (omega arith))))

pub returns-clause-owed : goal.returns-clause-owed
returns-clause-owed c = λ none.
    let i = c.loop-x.invariant in
    let fs = c.args.reader.now in
    let all = owed_rest fs c.args.writer.now c.args.found.now c.requires.found c.loop-x.x-index
    c.loop-x.next c.loop-x-test.false c.loop-x.auto.x-index-end i.earlier i.within _ i.owed in
    owed_all _ _ _ _ all (drop_all (length fs) fs (omega arith))
