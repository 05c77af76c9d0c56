use Rattle.std.proofs.Common.{◌||◌, nat_le, option_map, ◌∙◌}
use Rattle.std.specs.FinMap as finmap
use Rattle.reg_world.proofs.EagerMaps.{flagged_up_to}
use Rattle.reg_world.proofs.eager.flag_up_to.Goals as goal

pub returns : goal.returns
returns c = λ p.
    c.flag.ensures.each (λ e. e.soft || nat_le e.version c.args.greatest) (c.deref.ensures.value ∙ c.in_ok-flags.ensures) p
    ∙ (λ i. option_map (λ e. flagged_up_to c.args.subject c.args.greatest e i) (finmap.get c.args.standing.now p))
