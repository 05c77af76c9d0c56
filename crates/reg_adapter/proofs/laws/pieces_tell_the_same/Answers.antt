use Rattle.reg_adapter.proofs.Texts.{faults_are_first, texts_tell_once}
use Rattle.reg_adapter.proofs.laws.pieces_tell_the_same.Goals as goal

pub returns-clause-messages : goal.returns-clause-messages
returns-clause-messages c = texts_tell_once

pub returns-clause-faults : goal.returns-clause-faults
returns-clause-faults c = faults_are_first
