use Rattle.std.proofs.Common.{length, subst, refl, arith, take_all}
use Rattle.std.specs.Io.BufRead.{FillKeeps}
use Rattle.std.specs.Io.KnownBytes.{Consumes}
use Rattle.std.proofs.BufReadLemmas.{Consumes_shown}
use Rattle.reg_intake.proofs.pieces.AnyPieces.give_to.Goals as goal

pub returns-clause-given : goal.returns-clause-given
returns-clause-given g c =
    let shown = c.in-Ok.available.now in
    let rested = c.fill_buf.follows.lender-at-none in
    let filled =
    subst (FillKeeps _ (g.B.Read.remaining rested) (g.B.BufRead.consumable_len rested)) c.in-Ok.is c.fill_buf.follows.holds-at-none in
    let moved = Consumes_shown _ _ _ _ shown (length shown)
    (omega arith) c.in-Ok.ensures.front c.in-Ok.ensures.end filled.0 filled.1 c.consume.ensures.bytes in
    record {
      some = λ some. (shown, refl, subst (Consumes _ _) (take_all (length shown) shown (omega arith)) moved.0, c.in_ok-take.ensures.taken);
      none = λ none. absurd (c.if-len-eq0.false none);
    }
