use Rattle.std.proofs.Common.{◌≡◌, ◌++◌, Option, Some, cond, OnOk, Ok, Err, Result, codes, sym, ap, ◌∙◌}
use Rattle.avro_data.specs.Sample.{root, IsSample}
use Rattle.avro_data.specs.Value.{Value}
use Rattle.avro_sketch.specs.Sketch.{sample_lines, value_lines}
use Rattle.avro_sketch.proofs.sketching.push_sample.Goals as goal

where_ok : {A E P Q : Type 0} (r : Result A E) → (P → Q) → OnOk r P → OnOk r Q
where_ok (Ok x) f p = f p
where_ok (Err e) f p = tt

pub returns-in-Err-TooLarge : goal.returns-in-Err-TooLarge
returns-in-Err-TooLarge c =
    let r = c.args.r.now.nodes in
    let w = c.args.w.now.nodes in
    let old = c.args.out.now in
    let new = c.push_fixed-in-Err-TooLarge.new.self in
    let (v, is, large) = c.in-Err-TooLarge.ensures.too_large c.in-Err-TooLarge.field-0-is in
    where_ok {P = new ≡ old ++ codes "value too large\n"}
    {Q = (x : Option Value) × IsSample w root x × (new ≡ old ++ sample_lines r w x)} c.push_fixed-in-Err-TooLarge.result
    (λ e. (Some v, is, e ∙ ap (λ b. old ++ cond b (codes "value too large\n") (value_lines r w v)) (sym large)))
    c.push_fixed-in-Err-TooLarge.ensures
