use Rattle.reg_joined.proofs.Parts.{level_pens_took_all, new_pens_join, pens_take_part, readers_take_part}
use Rattle.reg_joined.proofs.laws.pens_take_part.Goals as goal

pub returns-clause-pens : goal.returns-clause-pens
returns-clause-pens g c = pens_take_part g.C.Chain.told c.lawful_items_follow.ensures.go_on

pub returns-clause-readers : goal.returns-clause-readers
returns-clause-readers g c =
    readers_take_part g.C.Chain.told c.fronts_take_part.ensures (pens_take_part g.C.Chain.told c.lawful_items_follow.ensures.go_on)

pub returns-clause-level : goal.returns-clause-level
returns-clause-level g c = level_pens_took_all g.C.Chain.told

pub returns-clause-begin : goal.returns-clause-begin
returns-clause-begin g c = new_pens_join g.C.Chain.told
