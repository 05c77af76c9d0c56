use Rattle.std.proofs.Common.{◌++◌, drop, length-append, arith}
use Rattle.reg_messages.proofs.Extents.{in-parts, in-window, takes-all}
use Rattle.reg_messages.proofs.front.read_front.Goals as goal

pub returns-in-Some-clause-takes : goal.returns-in-Some-clause-takes
returns-in-Some-clause-takes c = λ more.
    let bytes = c.args.bytes.now in
    c.front_with_head.ensures.ends (bytes ++ more) (drop c.min.result bytes ++ more)
    (in-parts bytes c.split_at.result.0.now c.split_at-2.result.0.now c.split_at-2.result.1.now c.min.result c.blank_len.result
    c.split_at.ensures.front c.split_at-2.ensures.front c.split_at-2.ensures.back more)

pub returns-in-Some-clause-read : goal.returns-in-Some-clause-read
returns-in-Some-clause-read c =
    let bytes = c.args.bytes.now in
    c.front_with_head.ensures.read bytes (drop c.min.result bytes)
    (in-window bytes c.split_at.result.0.now c.split_at-2.result.0.now c.split_at-2.result.1.now c.min.result c.blank_len.result
    c.split_at.ensures.front c.split_at-2.ensures.front c.split_at-2.ensures.back)

pub returns-in-None-clause-takes : goal.returns-in-None-clause-takes
returns-in-None-clause-takes c =
    let bytes = c.args.bytes.now in
    takes-all c.front_without_head.result bytes (λ more.
    c.front_without_head.ensures.ends (bytes ++ more) (drop c.min.result bytes ++ more)
    (in-parts bytes c.split_at.result.0.now c.split_at-2.result.0.now c.split_at-2.result.1.now c.min.result c.blank_len.result
    c.split_at.ensures.front c.split_at-2.ensures.front c.split_at-2.ensures.back more)
    (omega (arith, length-append bytes more)))

pub returns-in-None-clause-read : goal.returns-in-None-clause-read
returns-in-None-clause-read c =
    let bytes = c.args.bytes.now in
    c.front_without_head.ensures.read bytes (drop c.min.result bytes)
    (in-window bytes c.split_at.result.0.now c.split_at-2.result.0.now c.split_at-2.result.1.now c.min.result c.blank_len.result
    c.split_at.ensures.front c.split_at-2.ensures.front c.split_at-2.ensures.back)
    (omega arith)
