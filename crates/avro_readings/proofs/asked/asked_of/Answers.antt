use Rattle.std.proofs.Common.{◌&&◌, false, length, take, option_map, sym, ap, ◌∙◌, arith}
use Rattle.std.specs.List.{list_all}
use Rattle.std.specs.Option.{option_map_or}
use Rattle.std.proofs.lemmas.List.{take_all}
use Rattle.std.proofs.lemmas.List.Folds.{list_all_more, list_all_at}
use Rattle.avro_readings.specs.Readable.{pair_of, lists_pass, field_passes, type_passes}
use Rattle.avro_readings.proofs.ReadableLaws.{none_asked}
use Rattle.avro_readings.proofs.asked.asked_of.Goals as goal

pub loop-reader-init : goal.loop-reader-init
loop-reader-init c = record {
  len = c.in_ok-asked.ensures.len ∙ ap length c.as_slice.ensures.items;
  asked = λ test. ap (lists_pass test 0) c.in_ok-asked.ensures.lists ∙ none_asked test (length c.as_slice.result.now) 0;
}

pub loop-reader-preserved : goal.loop-reader-preserved
loop-reader-preserved c =
    let l = c.loop-reader in
    let all = c.args.readers.now in
    let r = c.args.r.now.nodes in
    let w = c.args.w.now.nodes in
    let gs = c.args.others.now in
    record {
      len = c.in_ok-ask_all-in-Some.ensures.len;
      asked = λ test.
          let before = list_all (λ i. type_passes r w test gs (pair_of i c.args.j)) (take l.reader-index all) in
          c.in_ok-ask_all-in-Some.ensures.asked test
          ∙ ap (λ b. b && list_all (field_passes test gs) c.in-Some.fields.now) (l.invariant.asked test)
          ∙ ap (λ o. before && option_map_or (λ fs. list_all (field_passes test gs) fs) o false)
          (ap (option_map (λ fs. fs.now)) (sym c.in-Some.is) ∙ c.fields_type.ensures)
          ∙ sym (list_all_more (λ i. type_passes r w test gs (pair_of i c.args.j)) all l.reader-index 0 (omega arith));
    }

pub returns-in-None-clause-asked : goal.returns-in-None-clause-asked
returns-in-None-clause-asked c = λ test.
    let l = c.loop-reader in
    let r = c.args.r.now.nodes in
    let w = c.args.w.now.nodes in
    let gs = c.args.others.now in
    list_all_at (λ i. type_passes r w test gs (pair_of i c.args.j)) c.args.readers.now l.reader-index 0 (omega arith)
    (ap (λ o. option_map_or (λ fs. list_all (field_passes test gs) fs) o false)
    (sym c.fields_type.ensures ∙ ap (option_map (λ fs. fs.now)) c.in-None.is))

pub returns-clause-asked : goal.returns-clause-asked
returns-clause-asked c = λ test.
    let l = c.loop-reader in
    sym (
    l.invariant.asked test
    ∙ ap (list_all (λ i. type_passes c.args.r.now.nodes c.args.w.now.nodes test c.args.others.now (pair_of i c.args.j)))
    (take_all l.reader-index c.args.readers.now (omega arith)))
