use Rattle.std.proofs.Common.{◌<◌, length, arith}
use Rattle.std.proofs.lemmas.List.Elements.{AllWithin-more, at_read}
use Rattle.exposition.specs.Lawful.{IsSample}
use Rattle.exposition.specs.Page.{sample_line}
use Rattle.exposition.proofs.Appending.{mapped_more}
use Rattle.exposition.proofs.writing.push_numbers.Goals as goal

pub loop-sample-preserved : goal.loop-sample-preserved
loop-sample-preserved c =
    let all = c.args.samples.now in
    let i = c.loop-sample.sample-index in
    let one = c.sample-item.result in
    let here : i < length all = omega arith in (
      mapped_more (λ s. sample_line c.args.name.now s) all i one _ _ _ here c.sample-item.is c.loop-sample.invariant.0
          c.in_ok-push_one.ensures.text,
      AllWithin-more IsSample all 0 i c.loop-sample.invariant.1 (at_read all IsSample i one here c.sample-item.is c.in_ok-push_one.ensures.lawful),
    )
