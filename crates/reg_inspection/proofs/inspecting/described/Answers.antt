use Rattle.std.proofs.Common.{ap, ◌∙◌, ℕ, List, Option}
use Rattle.reg_fold.specs.reg_records.Log.{next_of, records_in}
use Rattle.reg_inspection.specs.Counts.{counts_of, lasts_in, mark_due}
use Rattle.reg_inspection.specs.Foreign.{foreign_tally}
use Rattle.reg_inspection.specs.Report.{report_text}
use Rattle.reg_inspection.specs.declared.counts.Counts.{Counts}
use Rattle.reg_inspection.specs.declared.obstacle.Obstacle.{Obstacle}
use Rattle.reg_inspection.proofs.Servable.{servable_without_obstacles}
use Rattle.reg_inspection.proofs.inspecting.described.Goals as goal

pub returns-clause-described : goal.returns-clause-described
returns-clause-described c =
    let found = c.in_ok-found.found in
    let is = c.in_ok-found.ensures.inspected in
    record {
      log = is.0;
      read = is.1;
      said = c.in_ok-text.ensures
          ∙ ap (λ (n : Counts). report_text n found.due found.foreign.entries found.obstacles.items) is.2.counts
          ∙ ap (λ (d : Option ℕ). report_text (counts_of is.0.floor is.0.reads) d found.foreign.entries found.obstacles.items) is.2.due
          ∙ ap (λ (es : List (Option (List ℕ) × ℕ)).
          report_text (counts_of is.0.floor is.0.reads) (mark_due (records_in is.0.reads)) es found.obstacles.items) is.2.foreign
          ∙ ap (λ (os : List Obstacle).
          report_text (counts_of is.0.floor is.0.reads) (mark_due (records_in is.0.reads)) (foreign_tally c.args.log.now) os) is.2.obstacles;
      servable = c.is_servable.ensures
          ∙ servable_without_obstacles c.no_obstacle_is_open.ensures (lasts_in is.0.reads)
          (next_of is.0.floor is.0.reads) found.obstacles.items is.2.obstacles;
    }
