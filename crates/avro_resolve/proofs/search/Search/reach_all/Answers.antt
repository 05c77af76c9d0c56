use Rattle.std.proofs.Common.{◌∙◌, ap}
use Rattle.std.proofs.lemmas.List.{drop_all}
use Rattle.avro_resolve.specs.declared.obligations.Pair.{Pair}
use Rattle.avro_resolve.specs.Search.{with_entry}
use Rattle.avro_resolve.proofs.Searching.{reached_next, reached_all}
use Rattle.avro_resolve.proofs.search.Search.reach_all.Goals as goal

pub loop-number-preserved : goal.loop-number-preserved
loop-number-preserved c =
    let d : Pair = record { reader = record { index = 0 }; writer = record { index = 0 } } in
    let entries = c.in_ok-reach.ensures.entries ∙ ap (with_entry c.loop-number.self.entries.items) c.reached.ensures in (
      c.in_ok-reach.ensures.agrees,
      reached_next c.args.owed.now c.args.place c.loop-number.number d c.loop-number.self.entries.items c.reach.new.self.entries.items _
          c.loop-number-test.true entries c.loop-number.invariant.1,
    )

pub returns : goal.returns
returns c = record {
  entries = reached_all c.args.owed.now c.args.place c.loop-number.number c.loop-number.self.entries.items _
      (drop_all c.loop-number.number c.args.owed.now c.loop-number-test.false) c.loop-number.invariant.1;
  agrees = c.loop-number.invariant.0;
}
