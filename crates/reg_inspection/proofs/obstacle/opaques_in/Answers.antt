use Rattle.std.proofs.Common.{◌<◌, ◌++◌, length, take, ap, List, Option, ◌∙◌, arith}
use Rattle.std.specs.List.{filter_map}
use Rattle.std.specs.Option.{option_to_list}
use Rattle.reg_inspection.specs.Obstacles.{opaque_in}
use Rattle.reg_inspection.specs.declared.obstacle.Obstacle.{Obstacle}
use Rattle.reg_inspection.proofs.Given.{given_more}
use Rattle.reg_inspection.proofs.obstacle.opaques_in.Goals as goal

pub loop-record-preserved : goal.loop-record-preserved
loop-record-preserved c =
    let xs = c.args.records.now in
    let i = c.loop-record.record-index in
    let within : i < length xs = omega arith in
    c.in_ok-push_any.ensures
    ∙ ap (λ (l : List Obstacle). l ++ option_to_list c.in_ok-opaque_in.field-0) c.loop-record.invariant
    ∙ ap (λ (o : Option Obstacle). filter_map opaque_in (take i xs) ++ option_to_list o) c.in_ok-opaque_in.ensures
    ∙ given_more opaque_in xs i c.record-item.result within c.record-item.is
