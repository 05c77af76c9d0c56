use Rattle.std.proofs.Common.{◌∙◌, ap, sym, subst, arith, reverse}
use Rattle.std.proofs.lemmas.List.{reverse-reverse}
use Rattle.avro_resolve.specs.Search.{IsWayBack}
use Rattle.std.proofs.lemmas.Option.{slice_get_read}
use Rattle.avro_resolve.proofs.Searching.{from_read, way_further, way_whole, step_reader, step_writer, step_numbered, step_hop}
use Rattle.avro_resolve.proofs.search.Search.hops_to.Goals as goal

pub back-smaller : goal.back-smaller
back-smaller c =
    (c.requires.back c.back.at c.in-Some.step (
    from_read c.args.self.now.entries.items _ c.back.at c.index.result.now c.args.self.now.entries.ok.0 c.back.invariant.0 c.index.ensures
    ∙ c.in-Some.is)).earlier

pub back-preserved : goal.back-preserved
back-preserved c =
    let from =
    from_read c.args.self.now.entries.items _ c.back.at c.index.result.now
    c.args.self.now.entries.ok.0 c.back.invariant.0 c.index.ensures
    ∙ c.in-Some.is in
    let step = c.requires.back c.back.at c.in-Some.step from in
    let smaller = step.earlier in
    let at = slice_get_read c.args.self.now.entries.items _ c.in-Some.step.place c.index-in-Some.result.now c.args.self.now.entries.ok.0
    (omega (arith, smaller, c.back.invariant.0)) c.index-in-Some.ensures in
    let named = step_hop c.args.r.now.nodes c.args.w.now.nodes c.args.self.now.entries.items
    c.in-Some.step c.index-in-Some.result.now at c.in_ok-hop_of.field-0 c.in_ok-hop_of.ensures in (
      omega (arith, smaller, c.back.invariant.0),
      way_further c.args.r.now.nodes c.args.w.now.nodes c.args.self.now.entries.items c.args.place c.back.at c.back.hops.items
          c.in-Some.step c.in_ok-hop_of.field-0 c.push.new.self.items c.back.invariant.1 from named c.in_ok-push.ensures.items,
    )

pub returns : goal.returns
returns c =
    let from =
    from_read c.args.self.now.entries.items _ c.back.at c.index.result.now
    c.args.self.now.entries.ok.0 c.back.invariant.0 c.index.ensures
    ∙ c.in_default.is in
    let whole = way_whole c.args.r.now.nodes c.args.w.now.nodes c.args.self.now.entries.items
    c.args.place c.back.at c.back.hops.items c.back.invariant.1 from in
    let same = ap reverse (c.from.ensures ∙ c.reverse.ensures.items) ∙ reverse-reverse c.back.hops.items in
    subst (IsWayBack c.args.r.now.nodes c.args.w.now.nodes c.args.self.now.entries.items c.args.place) (sym same) whole

pub index-requires-in-Some : goal.index-requires-in-Some
index-requires-in-Some c =
    let from =
    from_read c.args.self.now.entries.items _ c.back.at c.index.result.now
    c.args.self.now.entries.ok.0 c.back.invariant.0 c.index.ensures
    ∙ c.in-Some.is in
    let step = c.requires.back c.back.at c.in-Some.step from in
    omega (arith, step.earlier, c.back.invariant.0)

pub hop_of-requires-clause-reader : goal.hop_of-requires-clause-reader
hop_of-requires-clause-reader c =
    let from =
    from_read c.args.self.now.entries.items _ c.back.at c.index.result.now
    c.args.self.now.entries.ok.0 c.back.invariant.0 c.index.ensures
    ∙ c.in-Some.is in
    let step = c.requires.back c.back.at c.in-Some.step from in
    let smaller = step.earlier in
    let at = slice_get_read c.args.self.now.entries.items _ c.in-Some.step.place c.index-in-Some.result.now c.args.self.now.entries.ok.0
    (omega (arith, smaller, c.back.invariant.0)) c.index-in-Some.ensures in
    step_reader c.args.r.now.nodes c.args.w.now.nodes c.args.self.now.entries.items
    c.in-Some.step c.index-in-Some.result.now at c.back.at step

pub hop_of-requires-clause-writer : goal.hop_of-requires-clause-writer
hop_of-requires-clause-writer c =
    let from =
    from_read c.args.self.now.entries.items _ c.back.at c.index.result.now
    c.args.self.now.entries.ok.0 c.back.invariant.0 c.index.ensures
    ∙ c.in-Some.is in
    let step = c.requires.back c.back.at c.in-Some.step from in
    let smaller = step.earlier in
    let at = slice_get_read c.args.self.now.entries.items _ c.in-Some.step.place c.index-in-Some.result.now c.args.self.now.entries.ok.0
    (omega (arith, smaller, c.back.invariant.0)) c.index-in-Some.ensures in
    step_writer c.args.r.now.nodes c.args.w.now.nodes c.args.self.now.entries.items
    c.in-Some.step c.index-in-Some.result.now at c.back.at step

pub hop_of-requires-clause-numbered : goal.hop_of-requires-clause-numbered
hop_of-requires-clause-numbered c =
    let from =
    from_read c.args.self.now.entries.items _ c.back.at c.index.result.now
    c.args.self.now.entries.ok.0 c.back.invariant.0 c.index.ensures
    ∙ c.in-Some.is in
    let step = c.requires.back c.back.at c.in-Some.step from in
    let smaller = step.earlier in
    let at = slice_get_read c.args.self.now.entries.items _ c.in-Some.step.place c.index-in-Some.result.now c.args.self.now.entries.ok.0
    (omega (arith, smaller, c.back.invariant.0)) c.index-in-Some.ensures in
    step_numbered c.args.r.now.nodes c.args.w.now.nodes c.args.self.now.entries.items
    c.in-Some.step c.index-in-Some.result.now at c.back.at step
