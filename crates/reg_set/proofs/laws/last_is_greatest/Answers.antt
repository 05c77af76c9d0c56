use Rattle.reg_set.proofs.Lasts.{last-some, last-greatest, last-none}
use Rattle.std.proofs.Common.{refl}
use Rattle.reg_set.proofs.laws.last_is_greatest.Goals as goal

pub returns-clause-greatest : goal.returns-clause-greatest
returns-clause-greatest c = λ s key r. (last-some s key r, last-greatest s key r)

pub returns-clause-none : goal.returns-clause-none
returns-clause-none c = λ s r inside none. last-none s r.key none r inside refl
