use Rattle.std.proofs.Common.{◌≡◌, ◌++◌, OnOk, sym, subst}
use Rattle.avro_sketch.specs.Sketch.{reading_line}
use Rattle.avro_sketch.proofs.sketching.push_reading.Goals as goal

pub returns-in-Err-Unreadable : goal.returns-in-Err-Unreadable
returns-in-Err-Unreadable c =
    let (fit, none) = rw c.in-Err-Unreadable.field-0-is at c.in-Err-Unreadable.ensures.refused in
    subst (λ read. OnOk c.push_fixed.result (c.push_fixed.new.self ≡ c.args.out.now ++ reading_line read)) (sym none) c.push_fixed.ensures
