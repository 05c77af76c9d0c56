use Rattle.reg_desk.proofs.Learnt.{calls_keep, learning_keeps, read_theirs}
use Rattle.reg_desk.proofs.laws.connections_read_their_writes.Goals as goal

pub returns-clause-calls : goal.returns-clause-calls
returns-clause-calls g c = calls_keep g.K.Keep.keeps g.W.Wake.wakes

pub returns-clause-learning : goal.returns-clause-learning
returns-clause-learning g c = learning_keeps g.K.Keep.keeps g.W.Wake.wakes

pub returns-clause-turns : goal.returns-clause-turns
returns-clause-turns g c = read_theirs g.K.Keep.keeps g.W.Wake.wakes
