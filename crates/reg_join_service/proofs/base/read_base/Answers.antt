use Rattle.reg_join_service.proofs.Bases.{refused_by}
use Rattle.reg_join_service.proofs.base.read_base.Goals as goal

pub returns-in-Err-clause-refused : goal.returns-in-Err-clause-refused
returns-in-Err-clause-refused g c =
    refused_by c.args.reader.now c.read_log.new.reader _ _ c.in_ok-log.log c.in-Err.error c.in_ok-log.ensures.faults c.in_ok-log.ensures.read
    c.in-Err.ensures.refused
