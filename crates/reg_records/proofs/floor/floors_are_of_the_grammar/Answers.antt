use Rattle.std.proofs.Common.{decimal}
use Rattle.reg_records.proofs.Floors.{floor_reading-text, is_floor_line-mark, is_floor_line-text, not_floor_line, of_reading, one_line}
use Rattle.reg_records.proofs.floor.floors_are_of_the_grammar.Goals as goal

pub returns-clause-read : goal.returns-clause-read
returns-clause-read c = of_reading

pub returns-clause-written : goal.returns-clause-written
returns-clause-written c = λ floor fits. (is_floor_line-mark (decimal floor), floor_reading-text floor fits)

pub returns-clause-one_line : goal.returns-clause-one_line
returns-clause-one_line c = λ floor fits. one_line floor fits

pub returns-clause-text : goal.returns-clause-text
returns-clause-text c = is_floor_line-text

pub returns-clause-apart : goal.returns-clause-apart
returns-clause-apart c = not_floor_line
