use Rattle.std.proofs.Common.{[], refl, sym}
use Rattle.reg_intake.proofs.incoming.Incoming.new.Goals as goal

pub returns : goal.returns
returns c = record {
  lines = [];
  floor = 0;
  parts = sym c.new.ensures.items;
  say = record { front = []; others = []; parts = refl; floor = refl; say = tt };
  count = refl;
}
