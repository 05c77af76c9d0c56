use Rattle.reg_running.proofs.Kept.{begin_kept, seen_taken, stay_kept}
use Rattle.reg_running.proofs.laws.pens_keep_what_they_publish.Goals as goal

pub returns-clause-begins : goal.returns-clause-begins
returns-clause-begins g c = begin_kept g.K.Keep.keeps

pub returns-clause-stays : goal.returns-clause-stays
returns-clause-stays g c = stay_kept g.K.Keep.keeps

pub returns-clause-seen : goal.returns-clause-seen
returns-clause-seen g c = seen_taken g.K.Keep.keeps
