use Rattle.std.proofs.Common.{sym}
use Rattle.avro_resolve.proofs.MatchLaws.{matches-cases, matches_itself, further}
use Rattle.avro_resolve.proofs.matching.matches.Goals as goal

pub inward-preserved : goal.inward-preserved
inward-preserved c =
    further c.inward.invariant c.node-reader.ensures.at c.node-writer.ensures.at c.node-reader.ensures.sound
    c.node-writer.ensures.sound c.in-Some.a c.in-Some.b (sym c.in-Some.ensures) c.if-left-eq0.false

pub returns-in-None-clause-by_cases : goal.returns-in-None-clause-by_cases
returns-in-None-clause-by_cases c = matches-cases c.args.r.now.nodes c.args.w.now.nodes c.node-reader.ensures.sound

pub returns-in-None-clause-each_itself : goal.returns-in-None-clause-each_itself
returns-in-None-clause-each_itself c = matches_itself c.args.r.now.nodes c.node-reader.ensures.sound

pub returns-then-left-eq0-clause-by_cases : goal.returns-then-left-eq0-clause-by_cases
returns-then-left-eq0-clause-by_cases c = matches-cases c.args.r.now.nodes c.args.w.now.nodes c.node-reader.ensures.sound

pub returns-then-left-eq0-clause-each_itself : goal.returns-then-left-eq0-clause-each_itself
returns-then-left-eq0-clause-each_itself c = matches_itself c.args.r.now.nodes c.node-reader.ensures.sound
