use Rattle.std.proofs.Common.{rules, ◌≡◌, Err, List, ℕ, subst}
use Rattle.reg_tail.specs.Writing.{IsCutShort, IsWritten}
use Rattle.reg_tail.proofs.following.write_begun.Goals as goal

pub returns-in_err-tail-clause-cut : goal.returns-in_err-tail-clause-cut
returns-in_err-tail-clause-cut g c =
    let is : c.from_residual.result ≡ Err c.in_err-tail.field-0.0 = search rules in rw is (λ same. absurd (c.in_err-tail.ensures.apart same))

pub returns-in-Ok-clause-written : goal.returns-in-Ok-clause-written
returns-in-Ok-clause-written g c = (
  c.in_ok-tail.text.items,
  subst (λ (t : List ℕ).
      IsWritten g.W.Write.contents g.W.Output.writes g.W.Output.flushes t c.args.writer.now c.write_text.new.writer) c.deref.ensures.value
      c.in-Ok.ensures.written,
  λ known. record {
    given = c.in_ok-tail.ensures.given known;
    from = c.in_ok-tail.ensures.from;
    fits = c.in_ok-tail.ensures.floor known;
    synced = c.in_ok-tail.ensures.synced known;
  },
)

pub returns-clause-cut : goal.returns-clause-cut
returns-clause-cut g c same = (
  c.in_ok-tail.tail,
  c.in_ok-tail.text.items,
  subst (λ (t : List ℕ).
      IsCutShort g.W.Write.contents g.W.Output.writes g.W.Output.flushes t c.args.writer.now c.write_text.new.writer) c.deref.ensures.value
      c.in-Err.ensures.cut,
  λ known. record {
    given = c.in_ok-tail.ensures.given known;
    from = c.in_ok-tail.ensures.from;
    fits = c.in_ok-tail.ensures.floor known;
    synced = c.in_ok-tail.ensures.synced known;
  },
)
