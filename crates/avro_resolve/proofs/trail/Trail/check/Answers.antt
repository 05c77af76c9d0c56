use Rattle.std.proofs.Common.{subst}
use Rattle.std.proofs.lemmas.List.{drop_all}
use Rattle.avro_resolve.proofs.Rows.{hops_name_one}
use Rattle.avro_resolve.proofs.Hops.{IsOnTrail, on_trail_next, on_trail_lost, on_trail_end, drop_at, trail_from_answer, no_clash}
use Rattle.avro_resolve.proofs.trail.Trail.check.Goals as goal

pub returns-in-None-clause-trail : goal.returns-in-None-clause-trail
returns-in-None-clause-trail c =
    let now = subst (λ rest. IsOnTrail c.args.r.now.nodes c.args.w.now.nodes c.args.self.now.hops c.loop-hop.pair rest)
    (drop_at c.as_slice-hop-items.result.now c.loop-hop.hop-index c.hop-item.result
    c.loop-hop-test.true c.hop-item.is) c.loop-hop.invariant in
    trail_from_answer c.args.r.now.nodes c.args.w.now.nodes c.node_count-sound.ensures.sound c.args.self.now _ (
    no_clash _ c.args.self.now.kind (on_trail_lost _ _ _ _ _ _ now c.in-None.ensures))

pub returns-in-None-clause-hops_name_one : goal.returns-in-None-clause-hops_name_one
returns-in-None-clause-hops_name_one c = hops_name_one c.args.r.now.nodes c.args.w.now.nodes c.node_count-sound.ensures.sound

pub loop-hop-preserved : goal.loop-hop-preserved
loop-hop-preserved c =
    let now = subst (λ rest. IsOnTrail c.args.r.now.nodes c.args.w.now.nodes c.args.self.now.hops c.loop-hop.pair rest)
    (drop_at c.as_slice-hop-items.result.now c.loop-hop.hop-index c.hop-item.result
    c.loop-hop-test.true c.hop-item.is) c.loop-hop.invariant in
    on_trail_next _ _ c.node_count-sound.ensures.sound c.node_count-sound-2.ensures.sound _ _ _ _ _ now c.in-Some.ensures

pub returns-clause-trail : goal.returns-clause-trail
returns-clause-trail c =
    let none_left = drop_all c.loop-hop.hop-index c.as_slice-hop-items.result.now c.loop-hop-test.false in
    trail_from_answer c.args.r.now.nodes c.args.w.now.nodes c.node_count-sound.ensures.sound c.args.self.now _ (
    on_trail_end _ _ _ _ _ c.args.self.now.kind c.clashes_so.result c.loop-hop.invariant none_left c.clashes_so.ensures)

pub returns-clause-hops_name_one : goal.returns-clause-hops_name_one
returns-clause-hops_name_one c = hops_name_one c.args.r.now.nodes c.args.w.now.nodes c.node_count-sound.ensures.sound
