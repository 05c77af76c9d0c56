use Rattle.avro_sketch.proofs.sketching.sketch_text.Goals as goal

pub returns-in_err-push_verdict-clause-one_sketch : goal.returns-in_err-push_verdict-clause-one_sketch
returns-in_err-push_verdict-clause-one_sketch c = c.schemas_have_one_sketch.ensures c.args.r.now.nodes c.args.w.now.nodes

pub returns-in_err-push_sample-clause-one_sketch : goal.returns-in_err-push_sample-clause-one_sketch
returns-in_err-push_sample-clause-one_sketch c = c.schemas_have_one_sketch.ensures c.args.r.now.nodes c.args.w.now.nodes

pub returns-clause-one_sketch : goal.returns-clause-one_sketch
returns-clause-one_sketch c = c.schemas_have_one_sketch.ensures c.args.r.now.nodes c.args.w.now.nodes
