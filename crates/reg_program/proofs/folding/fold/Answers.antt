use Rattle.std.proofs.Common.{inr}
use Rattle.reg_program.proofs.Folds.{served_refused, served_written}
use Rattle.reg_program.proofs.folding.fold.Goals as goal

pub returns-in-Ok-clause-written : goal.returns-in-Ok-clause-written
returns-in-Ok-clause-written g c =
    let opened = c.in_ok-foreign.field-0 in
    served_written c.last_records_of_unions.ensures.last_records c.lawful_items_follow.ensures.in_turn
    c.lawful_items_follow.ensures.go_on c.commits_follow.ensures
    c.lawful_lists_keep_ids.ensures.ids c.lawful_lists_meet_levels.ensures
    (g.R.Read.remaining c.args.reader.now.inner) (g.R.Read.remaining c.open.new.reader.inner)
    (g.W.Write.contents c.args.writer.now.inner) (g.W.Write.contents c.serve.new.writer.inner)
    opened.foreign c.in-Ok.served.requests opened.desk c.serve.new.desk c.in_ok-foreign.ensures.opened c.in-Ok.ensures.written

pub returns-clause-refused : goal.returns-clause-refused
returns-clause-refused g c =
    let opened = c.in_ok-foreign.field-0 in
    inr (
    served_refused c.last_records_of_unions.ensures.last_records c.lawful_items_follow.ensures.in_turn
    c.lawful_items_follow.ensures.go_on c.commits_follow.ensures
    c.lawful_lists_keep_ids.ensures.ids c.lawful_lists_meet_levels.ensures
    g.R.Read.remaining g.W.Write.contents c.args.reader.now c.open.new.reader c.serve.new.reader c.args.writer.now c.serve.new.writer
    opened.foreign opened.desk c.serve.new.desk c.in-Err.error c.ended_by.result
    c.ended_by.ensures c.in_ok-foreign.ensures.opened c.in_ok-foreign.ensures.end
    c.in_ok-foreign.ensures.faults c.in_ok-foreign.ensures.counted
    c.in-Err.ensures.refused)
