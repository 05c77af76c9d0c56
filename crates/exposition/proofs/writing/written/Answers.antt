use Rattle.std.proofs.Common.{◌<◌, [], length, arith}
use Rattle.std.proofs.lemmas.List.Elements.{AllWithin-more, at_read}
use Rattle.exposition.specs.Lawful.{IsFamily}
use Rattle.exposition.specs.Page.{family_lines}
use Rattle.exposition.proofs.Appending.{joined_more}
use Rattle.exposition.proofs.writing.written.Goals as goal

pub loop-family-preserved : goal.loop-family-preserved
loop-family-preserved c =
    let all = c.args.page.now in
    let i = c.loop-family.family-index in
    let one = c.family-item.result in
    let here : i < length all = omega arith in (
      joined_more family_lines all i one [] _ _ here c.family-item.is c.loop-family.invariant.0 c.in_ok-push_family.ensures.text,
      AllWithin-more IsFamily all 0 i c.loop-family.invariant.1 (at_read all IsFamily i one here c.family-item.is c.in_ok-push_family.ensures.lawful),
    )
