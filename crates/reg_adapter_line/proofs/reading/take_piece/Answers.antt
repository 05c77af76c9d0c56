use Rattle.std.proofs.Common.{◌≡◌, ◌∙◌, length, sym, subst, false, is_err, Result, Ok, Err, OnOk, arith, take_all}
use Rattle.std.specs.Io.BufRead.{FillKeeps}
use Rattle.std.specs.Io.KnownBytes.{Consumes}
use Rattle.std.proofs.BufReadLemmas.{Consumes_shown}
use Rattle.reg_adapter_line.proofs.reading.take_piece.Goals as goal

on_ok : {A E : Type 0} (r : Result A E) (P : Type 0) → is_err r ≡ false → OnOk r P → P
on_ok (Ok x) P is h = h
on_ok (Err x) P is h = absurd (cc is)

pub returns : goal.returns
returns g c text told has =
    let shown = c.in-Ok.available.now in
    let rested = c.fill_buf.follows.lender-at-none in
    let filled =
    subst (FillKeeps _ (g.B.Read.remaining rested) (g.B.BufRead.consumable_len rested)) c.in-Ok.is c.fill_buf.follows.holds-at-none in
    let moved = Consumes_shown _ _ _ _ shown (length shown)
    (omega arith) c.in-Ok.ensures.front c.in-Ok.ensures.end filled.0 filled.1 c.consume.ensures.bytes in (
      shown,
      subst (Consumes _ _) (take_all (length shown) shown (omega arith)) moved.0,
      on_ok c.take.result _ (sym c.is_err.ensures.value ∙ c.if-is_err.false) (c.take.ensures.read text told has),
    )
