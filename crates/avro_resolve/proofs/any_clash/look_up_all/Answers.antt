use Rattle.std.proofs.Common.{◌∙◌, ap, sym, length, option_map, arith}
use Rattle.avro_resolve.specs.Row.{clash_of_cause}
use Rattle.avro_resolve.proofs.AnyClash.{looked_first, looked_few, looked_fewer, looked_next, looked_all, no_cause, pairs_within}
use Rattle.avro_resolve.proofs.any_clash.look_up_all.Goals as goal

pub pairs-init : goal.pairs-init
pairs-init c = record {
  looked = looked_first c.args.r.now.nodes c.args.w.now.nodes c.requires.reader
      c.requires.writer c.args.worklist.now c.requires.roots c.requires.roots_wait;
  orderly = c.requires.orderly;
  room = c.requires.room;
  unions = c.requires.unions;
  field_indexes = c.requires.field_indexes;
}

pub meet_all-requires-clause-within : goal.meet_all-requires-clause-within
meet_all-requires-clause-within c =
    let none = no_cause c.in_ok-cause.cause c.is_some.result c.is_some.ensures c.if-is_some.false in
    pairs_within c.args.r.now.nodes c.args.w.now.nodes c.requires.reader c.requires.writer c.pair_of-pair.result
    c.pair_of-pair.ensures.within c.as_slice.result.now (c.as_slice.ensures.value ∙ c.in_ok-cause.ensures.owed none)

pub overflow_add-pairs : goal.overflow_add-pairs
overflow_add-pairs c =
    let i = c.pairs.invariant in
    let waiting = c.in-Some.ensures.waits in
    omega (
      arith,
      c.requires.small,
      looked_fewer c.args.r.now.nodes c.args.w.now.nodes c.pairs.worklist c.pairs.pairs i.looked c.in-Some.number waiting
          (i.orderly.known c.in-Some.number waiting),
    )

pub pairs-smaller : goal.pairs-smaller
pairs-smaller c =
    let i = c.pairs.invariant in
    let waiting = c.in-Some.ensures.waits in
    omega (
      arith,
      looked_fewer c.args.r.now.nodes c.args.w.now.nodes c.pairs.worklist c.pairs.pairs i.looked c.in-Some.number waiting
          (i.orderly.known c.in-Some.number waiting),
    )

pub pairs-preserved : goal.pairs-preserved
pairs-preserved c =
    let i = c.pairs.invariant in
    let waiting = c.in-Some.ensures.waits in
    let none = no_cause c.in_ok-cause.cause c.is_some.result c.is_some.ensures c.if-is_some.false in
    let size = ap length c.next.ensures.met in
    record {
      looked =
          looked_next c.args.r.now.nodes c.args.w.now.nodes c.pairs.worklist c.pairs.pairs i.looked c.in-Some.number waiting
          (i.orderly.known c.in-Some.number waiting)
          c.next.new.self c.meet_all.new.worklist c.in-Some.ensures.left c.next.ensures.met
          c.pair_of-pair.result c.pair_of-pair.ensures.within c.pair_of-pair.ensures.number (sym c.in_ok-cause.ensures.clash
          ∙ ap (option_map clash_of_cause) none)
          c.as_slice.result.now (c.as_slice.ensures.value ∙ c.in_ok-cause.ensures.owed none) c.in_ok-meet_all.ensures.met;
      orderly = c.in_ok-meet_all.ensures.orderly;
      room = omega (arith, i.room, c.in_ok-meet_all.ensures.room, size);
      unions = c.in_ok-cause.ensures.unions;
      field_indexes = c.in_ok-cause.ensures.field_indexes;
    }

pub returns-clause-compatible : goal.returns-clause-compatible
returns-clause-compatible c =
    looked_all c.args.r.now.nodes c.args.w.now.nodes c.requires.reader c.requires.writer
    c.pairs.worklist c.pairs.pairs c.pairs.invariant.looked (c.next.ensures.none c.in_default.is)

pub returns-clause-pairs : goal.returns-clause-pairs
returns-clause-pairs c = looked_few c.args.r.now.nodes c.args.w.now.nodes c.pairs.worklist c.pairs.pairs c.pairs.invariant.looked
