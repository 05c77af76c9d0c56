use Rattle.reg_world.proofs.world.World.run.Goals as goal

pub returns-clause-keeps : goal.returns-clause-keeps
returns-clause-keeps c = let led = c.is_reached.ensures in c.worlds_keep_the_headline.ensures led.0 c.run_each-outcomes.new.self led.1
