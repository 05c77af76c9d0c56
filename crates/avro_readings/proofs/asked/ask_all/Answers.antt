use Rattle.std.proofs.Common.{◌&&◌, map, take, sym, ap, ◌∙◌, arith}
use Rattle.std.specs.List.{list_all}
use Rattle.std.proofs.lemmas.List.{take_all}
use Rattle.std.proofs.lemmas.List.Folds.{list_all_more}
use Rattle.avro_readings.specs.Readable.{lists_pass, field_passes}
use Rattle.avro_readings.proofs.ReadableLaws.{and_assoc, and_true}
use Rattle.avro_readings.proofs.asked.ask_all.Goals as goal

pub loop-field-init : goal.loop-field-init
loop-field-init c = record {
  len = c.requires;
  asked = λ test. sym (and_true (lists_pass test 0 (map (λ x. x.items) c.args.asked.now.items)));
}

pub loop-field-preserved : goal.loop-field-preserved
loop-field-preserved c =
    let l = c.loop-field in
    let f = c.field-item.result in
    let all = c.args.fields.now in
    let gs = c.args.others.now in
    record {
      len = c.in_ok-ask.ensures.len;
      asked = λ test.
          let old = lists_pass test 0 (map (λ x. x.items) c.args.asked.now.items) in
          c.in_ok-ask.ensures.asked test
          ∙ ap (λ b. b && field_passes test gs f) (l.invariant.asked test)
          ∙ and_assoc old (list_all (field_passes test gs) (take l.field-index all)) (field_passes test gs f)
          ∙ ap (λ b. old && (list_all (field_passes test gs) (take l.field-index all) && field_passes test gs b)) c.field-item.is
          ∙ ap (λ b. old && b) (sym (list_all_more (field_passes test gs) all l.field-index f (omega arith)));
    }

pub returns-clause-asked : goal.returns-clause-asked
returns-clause-asked c = λ test.
    let l = c.loop-field in
    l.invariant.asked test
    ∙ ap (λ fs. lists_pass test 0 (map (λ x. x.items) c.args.asked.now.items) && list_all (field_passes test c.args.others.now) fs)
    (take_all l.field-index c.args.fields.now (omega arith))
