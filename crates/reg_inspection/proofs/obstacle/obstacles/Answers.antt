use Rattle.std.proofs.Common.{◌≡◌, List, ap, sym, ◌∙◌}
use Rattle.std.proofs.lemmas.Result.{IfOk-weaker}
use Rattle.std.specs.FinSet.{from_list}
use Rattle.reg_fold.specs.reg_records.declared.record.Record.{Record}
use Rattle.reg_fold.specs.reg_set.LastRecords.{last_records}
use Rattle.reg_fold.specs.reg_set.Records.{Records}
use Rattle.reg_inspection.specs.Obstacles.{obstacles}
use Rattle.reg_inspection.proofs.obstacle.obstacles.Goals as goal

pub returns-clause-none : goal.returns-clause-none
returns-clause-none c =
    let log = c.args.log.now in
    let lasts : Records = last_records (from_list log.records.items) in
    let set : c.in_ok-last.last ≡ lasts =
    c.in_ok-last.ensures.set ∙ ap (λ (l : List Record). last_records (from_list l)) c.deref.ensures.value in
    let law = c.no_obstacle_is_open.ensures lasts log.next in
    IfOk-weaker c.obstacles_in.result _ _
    (λ found h.
    let is = h ∙ ap (λ (rs : Records). obstacles rs log.next) set in
    (λ none. law.0 (sym is ∙ none), λ begins. is ∙ law.1 begins))
    c.obstacles_in.ensures
