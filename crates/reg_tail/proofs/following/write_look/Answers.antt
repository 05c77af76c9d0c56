use Rattle.std.proofs.Common.{rules, ◌≡◌, ⊎_elim, inl, inr, Bool, Err, refl, sym, subst, ◌∙◌}
use Rattle.reg_tail.specs.Steps.{Looks}
use Rattle.reg_tail.proofs.Apart.{reading_begins, writers_or_not}
use Rattle.reg_tail.proofs.Steps.{left_behind}
use Rattle.reg_tail.proofs.following.write_look.Goals as goal

pub returns-in_err-reopen-clause-refused : goal.returns-in_err-reopen-clause-refused
returns-in_err-reopen-clause-refused g c =
    let is : c.from_residual-in_err-reopen.result ≡ Err c.in_err-reopen.field-0.0 = search rules in
    let more = c.in_ok-write_more.ensures in
    let old = left_behind g.S.Source.known g.S.Source.seen g.S.Source.may_leave g.S.Source.left
    g.W.Write.contents g.W.Output.writes g.W.Output.flushes
    c.args.source.now c.is_replaced.new.source c.write_more.new.source c.args.tail.now c.write_more.new.tail
    c.args.writer.now c.write_more.new.writer more.written.0 more.written.1 more.written.2 c.is_replaced.ensures.seen
    (λ known. more.last (c.is_replaced.ensures.seen known).0
    ((c.in_ok-is_replaced.ensures.found known).0 c.if-is_replaced.true) ∙ c.is_replaced.ensures.left known) in
    rw is (inr (inr (
      old,
      inl (
        refl,
        refl,
        λ known.
            reading_begins c.write_more.new.tail.next (g.S.Source.seen c.reopen.new.source) c.in_err-reopen.field-0.0 c.in_err-reopen.ensures.refused,
      ),
    )))

pub returns-in_err-tail-clause-refused : goal.returns-in_err-tail-clause-refused
returns-in_err-tail-clause-refused g c =
    let e = c.in_err-tail.field-0.0 in
    let is : c.from_residual-in_err-tail.result ≡ Err c.in_err-tail.field-0.0 = search rules in
    let more = c.in_ok-write_more.ensures in
    let old = left_behind g.S.Source.known g.S.Source.seen g.S.Source.may_leave g.S.Source.left
    g.W.Write.contents g.W.Output.writes g.W.Output.flushes
    c.args.source.now c.is_replaced.new.source c.write_more.new.source c.args.tail.now c.write_more.new.tail
    c.args.writer.now c.write_more.new.writer more.written.0 more.written.1 more.written.2 c.is_replaced.ensures.seen
    (λ known. more.last (c.is_replaced.ensures.seen known).0
    ((c.in_ok-is_replaced.ensures.found known).0 c.if-is_replaced.true) ∙ c.is_replaced.ensures.left known) in
    rw is (
    ⊎_elim
    (λ same. inr (inr (
      old,
      inr (
        same,
        (
          (c.in_err-tail.ensures.cut same).0,
          (c.in_err-tail.ensures.cut same).1,
          (c.in_err-tail.ensures.cut same).2,
          λ known. (c.in_err-tail.ensures.cut same).3 (c.in_ok-reopen.ensures.known (more.known (c.is_replaced.ensures.seen known).0)),
        ),
      ),
    )))
    (λ other. inr (inr (
      old,
      inl (
        c.in_err-tail.ensures.kept other,
        refl,
        λ known.
            c.in_err-tail.ensures.refused other (c.in_ok-reopen.ensures.known (more.known (c.is_replaced.ensures.seen known).0)),
      ),
    )))
    (writers_or_not e)
    )

pub returns-in_ok-tail-clause-looked : goal.returns-in_ok-tail-clause-looked
returns-in_ok-tail-clause-looked g c =
    let more = c.in_ok-write_more.ensures in
    let begun = c.in_ok-tail.ensures.written in
    let old = left_behind g.S.Source.known g.S.Source.seen g.S.Source.may_leave g.S.Source.left
    g.W.Write.contents g.W.Output.writes g.W.Output.flushes
    c.args.source.now c.is_replaced.new.source c.write_more.new.source c.args.tail.now c.write_more.new.tail
    c.args.writer.now c.write_more.new.writer more.written.0 more.written.1 more.written.2 c.is_replaced.ensures.seen
    (λ known. more.last (c.is_replaced.ensures.seen known).0
    ((c.in_ok-is_replaced.ensures.found known).0 c.if-is_replaced.true) ∙ c.is_replaced.ensures.left known) in
    subst (λ (b : Bool). Looks g.S.Source.known g.S.Source.seen g.S.Source.may_leave g.S.Source.left
    g.W.Write.contents g.W.Output.writes g.W.Output.flushes c.args.source.now c.write_begun.new.source
    c.args.tail.now c.in_ok-tail.field-0 c.args.writer.now c.write_begun.new.writer b) (sym c.if-is_replaced.true)
    (old, begun.0, begun.1, λ known. begun.2 (c.in_ok-reopen.ensures.known (more.known (c.is_replaced.ensures.seen known).0)))
