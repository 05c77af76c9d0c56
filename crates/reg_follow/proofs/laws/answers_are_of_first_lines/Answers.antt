use Rattle.reg_follow.specs.Following.{list_of}
use Rattle.reg_follow.proofs.FirstLines.{answers}
use Rattle.reg_follow.proofs.laws.answers_are_of_first_lines.Goals as goal

pub returns : goal.returns
returns g c text read s has =
    answers c.records_are_ordered.ensures.all c.records_are_ordered.ensures.apart c.first_records_are_of_first_lines.ensures read
    (list_of s) has.list
