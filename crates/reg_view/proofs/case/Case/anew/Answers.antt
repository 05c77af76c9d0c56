use Rattle.reg_view.proofs.Matters.{matter_anew}
use Rattle.reg_view.proofs.case.Case.anew.Goals as goal

pub returns : goal.returns
returns c =
    matter_anew c.args.registry.now c.args.self c.self.inside.subject c.self.inside.new_text c.self.inside.against c.in_ok-against.against
    c.self.view_is c.in_ok-against.ensures
