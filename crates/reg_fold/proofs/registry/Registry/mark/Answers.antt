use Rattle.std.proofs.Common.{ap, ◌∙◌}
use Rattle.reg_fold.specs.IdMark.{id_mark}
use Rattle.reg_fold.proofs.registry.Registry.mark.Goals as goal

pub returns : goal.returns
returns c = c.self.invariant.the_mark ∙ ap id_mark c.self.view_is
