use Rattle.std.proofs.Common.{◌≡◌, ◌∙◌, ◌*◌, ⊎_elim, length, get_or, arith, ap, refl, sym}
use Rattle.std.proofs.lemmas.Bool.{cases_lt}
use Rattle.avro_resolve.specs.declared.obligations.Pair.{Pair}
use Rattle.avro_resolve.specs.Worklist.{is_met}
use Rattle.avro_resolve.specs.Numbered.{number_of}
use Rattle.avro_resolve.proofs.AnyClash.{met_none, met_still, met_it, met_more}
use Rattle.avro_resolve.proofs.FieldIndexes.{any_default}
use Rattle.avro_resolve.proofs.any_clash.meet_all.Goals as goal

pub loop-pair-init : goal.loop-pair-init
loop-pair-init c = record {
  grown = met_none _ _;
  each = λ k d from below. absurd (omega arith);
  room = refl;
  orderly = c.requires.orderly;
}

pub loop-pair-preserved : goal.loop-pair-preserved
loop-pair-preserved c =
    let many = length c.args.r.now.nodes * length c.args.w.now.nodes in
    let d : Pair = record { reader = record { index = 0 }; writer = record { index = 0 } } in
    let i = c.loop-pair.invariant in
    let met = c.in_ok-meet.ensures in
    record {
      grown = met_more many c.args.worklist.now c.loop-pair.worklist c.meet.new.self
          i.grown c.number_of.result c.number_of.ensures.below met.met met.waits;
      each = λ k e from below.
          ⊎_elim
          (λ low.
          met_still many c.args.worklist.now c.loop-pair.worklist c.meet.new.self i.grown
          c.number_of.result c.number_of.ensures.below met.met met.waits _ (i.each k e from low))
          (λ high.
          let here : k ≡ c.loop-pair.pair-index = omega arith in
          let same : get_or c.args.owed.now k e ≡ get_or c.args.owed.now c.loop-pair.pair-index d =
          ap (λ n. get_or c.args.owed.now n e) here ∙ any_default c.args.owed.now c.loop-pair.pair-index e d c.loop-pair-test.true in
          ap (λ p. is_met c.meet.new.self (number_of c.args.w.now.nodes p)) same
          ∙ ap (is_met c.meet.new.self) (sym c.number_of.ensures.number)
          ∙ met_it many c.args.worklist.now c.loop-pair.worklist c.meet.new.self i.grown
          c.number_of.result c.number_of.ensures.below met.met met.waits)
          (cases_lt k c.loop-pair.pair-index);
      room = met.room ∙ i.room;
      orderly = met.orderly;
    }
