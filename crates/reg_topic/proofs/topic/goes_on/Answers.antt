use Rattle.std.proofs.Common.{◌+◌, sym, ◌∙◌, arith}
use Rattle.reg_topic.proofs.GoesOn.{goes_astray, goes_on_all, goes_on_more}
use Rattle.reg_topic.proofs.topic.goes_on.Goals as goal

pub loop-record-preserved : goal.loop-record-preserved
loop-record-preserved c =
    let l = c.loop-record in
    record {
      counted = omega (arith, l.invariant.counted);
      rest = goes_on_more l.expected (l.expected + 1) l.record-index c.args.batch.now c.record-item.result
          c.loop-record-test.true c.record-item.is c.if-record-expected.false (omega arith)
          ∙ l.invariant.rest;
    }

pub returns-then-record-expected : goal.returns-then-record-expected
returns-then-record-expected c =
    let l = c.loop-record in
    sym (
    goes_astray l.expected l.record-index c.args.batch.now c.record-item.result
    c.loop-record-test.true c.record-item.is c.if-record-expected.true)
    ∙ l.invariant.rest

pub returns : goal.returns
returns c =
    let l = c.loop-record in
    sym (goes_on_all l.expected l.record-index c.args.batch.now c.loop-record-test.false) ∙ l.invariant.rest
