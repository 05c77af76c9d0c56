use Rattle.std.proofs.Common.{◌<◌, length, arith}
use Rattle.std.proofs.lemmas.List.Elements.{AllWithin-more, at_read}
use Rattle.exposition.specs.Lawful.{IsSeries}
use Rattle.exposition.specs.Page.{series_lines}
use Rattle.exposition.proofs.Appending.{joined_more}
use Rattle.exposition.proofs.writing.push_histogram.Goals as goal

pub loop-one-preserved : goal.loop-one-preserved
loop-one-preserved c =
    let all = c.args.series.now in
    let i = c.loop-one.one-index in
    let one = c.one-item.result in
    let here : i < length all = omega arith in (
      joined_more (λ s. series_lines c.args.name.now s) all i one _ _ _ here c.one-item.is c.loop-one.invariant.0
          c.in_ok-push_series.ensures.text,
      AllWithin-more IsSeries all 0 i c.loop-one.invariant.1 (at_read all IsSeries i one here c.one-item.is c.in_ok-push_series.ensures.lawful),
    )
