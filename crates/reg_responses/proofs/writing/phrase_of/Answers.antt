use Rattle.std.proofs.Common.{[], sym, ap}
use Rattle.std.specs.Prelude.{unwrap_or}
use Rattle.reg_responses.specs.Response.{phrase_of}
use Rattle.reg_responses.proofs.Phrases.{no_phrase}
use Rattle.reg_responses.proofs.writing.phrase_of.Goals as goal

pub returns-in-Err : goal.returns-in-Err
unfolding phrase_of
returns-in-Err c = sym (ap (λ phrase. unwrap_or phrase []) (no_phrase c.args.status c.in-Err.ensures))
