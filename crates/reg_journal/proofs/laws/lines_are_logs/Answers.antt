use Rattle.reg_journal.proofs.Logs.{ended_lines_are_read, lines_are_read, logs_are_lines}
use Rattle.reg_journal.proofs.laws.lines_are_logs.Goals as goal

pub returns-clause-read : goal.returns-clause-read
returns-clause-read c = lines_are_read

pub returns-clause-ended : goal.returns-clause-ended
returns-clause-ended c = ended_lines_are_read

pub returns-clause-lines : goal.returns-clause-lines
returns-clause-lines c = logs_are_lines
