use Rattle.std.proofs.Common.{◌∙◌, ap, sym, option_copied}
use Rattle.std.proofs.lemmas.List.{drop_all}
use Rattle.std.specs.Result.{result_err}
use Rattle.avro_resolve.proofs.Hops.{drop_at}
use Rattle.avro_resolve.proofs.Owing.{owed_first, owed_pair, owed_none, owed_lacking, none_lacking, owed_all}
use Rattle.avro_resolve.proofs.Searching.{none_if}
use Rattle.avro_resolve.proofs.owed.owe_fields.Goals as goal
use Rattle.avro_resolve.proofs.owed.owe_fields.Goals.{in-Some+in_ok-push, in_default+else-is_none}

pub loop-f-init : goal.loop-f-init
loop-f-init c = owed_first c.args.writer.now c.args.reader.now c.args.owed.now.items c.requires.none

pub returns-then-is_none-clause-clash : goal.returns-then-is_none-clause-clash
returns-then-is_none-clause-clash c =
    let at = drop_at c.args.reader.now c.loop-f.f-index c.f-item.result c.loop-f-test.true c.f-item.is in
    let has = ap option_copied (sym c.in_default.is) ∙ c.partner_near-next.ensures in
    ap result_err (
    sym (owed_lacking _ _ _ _ c.loop-f.invariant c.f-item.result at has (sym c.if-is_none.true ∙ none_if _ _ c.is_none.ensures)))

pub loop-f-preserved : goal.loop-f-preserved
loop-f-preserved c =
    let at = drop_at c.args.reader.now c.loop-f.f-index c.f-item.result c.loop-f-test.true c.f-item.is in
    elim c.match-found.branch [
      | in-Some+in_ok-push w ↦
          let has = ap option_copied (sym w.in-Some.is) ∙ c.partner_near-next.ensures in
          rw w.owed-is (
          owed_pair _ _ _ _ c.loop-f.invariant c.f-item.result at w.in-Some.g.now has w.push.new.self.items w.in_ok-push.ensures.items)
      | in_default+else-is_none w ↦
          let has = ap option_copied (sym w.in_default.is) ∙ c.partner_near-next.ensures in
          rw w.owed-is (
          owed_none _ _ _ _ c.loop-f.invariant c.f-item.result at has (sym w.if-is_none.false ∙ none_if _ _ w.is_none.ensures))
    ]

pub returns-clause-clash : goal.returns-clause-clash
returns-clause-clash c =
    ap result_err (sym (none_lacking _ _ _ _ c.loop-f.invariant (drop_all c.loop-f.f-index c.args.reader.now c.loop-f-test.false)))

pub returns-clause-owed : goal.returns-clause-owed
returns-clause-owed c = λ none. owed_all _ _ _ _ c.loop-f.invariant (drop_all c.loop-f.f-index c.args.reader.now c.loop-f-test.false)
