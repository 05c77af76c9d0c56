use Rattle.reg_responses.proofs.Listing.{list_in_pieces}
use Rattle.reg_responses.proofs.bodies.versions_pieces.Goals as goal

pub returns : goal.returns
returns c = list_in_pieces c.args.versions.now
