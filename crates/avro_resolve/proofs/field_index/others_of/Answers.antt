use Rattle.std.proofs.Common.{ap, ◌<◌, ◌+◌, length, arith, refl}
use Rattle.std.proofs.lemmas.Option.{slice_get_read}
use Rattle.avro_resolve.proofs.Sound.{below_length}
use Rattle.avro_resolve.proofs.FieldIndexes.{others_pushed, others_more}
use Rattle.avro_resolve.proofs.field_index.others_of.Goals as goal
use Rattle.avro_resolve.proofs.field_index.others_of.Goals.{then-is_none+in_ok-push, else-is_none}

pub loop-k-preserved : goal.loop-k-preserved
loop-k-preserved c =
    let fs = c.args.fields.now in
    let k = c.loop-k.k in
    let f = c.index-fields-k.result in
    let hs = c.loop-k.others.items in
    let i = c.loop-k.invariant in
    let at = slice_get_read fs (length fs) k f refl c.loop-k-test.true c.index-fields-k.is in
    elim c.if-is_none.branch [
      | then-is_none+in_ok-push w ↦ rw w.others-is (let both =
          others_pushed fs k f hs at i.after i.whole w.push.new.self.items (record { field = k; rank = length w.as_slice.result.now + 1 })
          refl (omega (arith, ap length w.as_slice.ensures)) w.in_ok-push.ensures.items in
          record { after = both.0; whole = both.1 })
      | else-is_none w ↦ rw w.others-is (record {
        after = i.after;
        whole = others_more fs k f hs at i.whole (c.is_none.result) c.is_none.ensures w.if-is_none.false;
      })
    ]

pub returns : goal.returns
returns c = record {
  after = c.loop-k.invariant.after;
  whole = λ k f at absent.
      c.loop-k.invariant.whole k f at (let inside : k < length c.args.fields.now = below_length c.args.fields.now k f at in
      omega (arith, inside, c.loop-k-test.false)) absent;
}
