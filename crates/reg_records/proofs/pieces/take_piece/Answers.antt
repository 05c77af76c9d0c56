use Rattle.std.proofs.Common.{◌+◌, ◌≤◌, length, take, sym, subst, ◌≡◌, ◌∙◌, arith, rules, take_all}
use Rattle.std.proofs.lemmas.List.{length-take}
use Rattle.std.specs.Io.BufRead.{FillKeeps}
use Rattle.std.specs.Io.KnownBytes.{Consumes}
use Rattle.std.proofs.BufReadLemmas.{Consumes_shown}
use Rattle.reg_records.specs.Pieces.{Grows}
use Rattle.reg_records.proofs.Lines.{before_line_feed, no_line_feed}
use Rattle.reg_records.proofs.pieces.take_piece.Goals as goal

pub returns-in-Some : goal.returns-in-Some
returns-in-Some g c =
    let shown = c.in-Ok.available.now in
    let end = c.in-Some.end in
    let (place, none, line) = before_line_feed shown end (sym c.line_len-end.ensures.place ∙ c.in-Some.is) in
    let rested = c.fill_buf.follows.lender-at-none in
    let filled =
    subst (FillKeeps _ (g.R.Read.remaining rested) (g.R.BufRead.consumable_len rested)) c.in-Ok.is c.fill_buf.follows.holds-at-none in
    let within : end + 1 ≤ length shown = omega (arith, place) in
    let moved =
    Consumes_shown _ _ _ _ shown (end + 1) within c.in-Ok.ensures.front c.in-Ok.ensures.end filled.0 filled.1 c.consume.ensures.bytes in
    let len : c.unwrap_or-len.result ≡ end = search rules in (
      take end shown,
      none,
      subst (Consumes _ _) line moved.0,
      subst (λ n. Grows c.args.line.now c.add.new.self (take n shown)) len c.in_ok-add.ensures,
      omega (arith, within, length-take end shown),
    )

pub returns-in-None : goal.returns-in-None
returns-in-None g c =
    let shown = c.in-Ok.available.now in
    let rested = c.fill_buf.follows.lender-at-none in
    let filled =
    subst (FillKeeps _ (g.R.Read.remaining rested) (g.R.BufRead.consumable_len rested)) c.in-Ok.is c.fill_buf.follows.holds-at-none in
    let len : c.unwrap_or-len.result ≡ length shown = search rules in
    let whole : take c.unwrap_or-len.result shown ≡ shown = take_all c.unwrap_or-len.result shown (omega (arith, len)) in
    let moved = Consumes_shown _ _ _ _ shown c.unwrap_or-len.result
    (omega (arith, len)) c.in-Ok.ensures.front c.in-Ok.ensures.end filled.0 filled.1 c.consume-in-None.ensures.bytes in (
      shown,
      no_line_feed shown (sym c.line_len-end.ensures.place ∙ c.in-None.is),
      subst (Consumes _ _) whole moved.0,
      subst (Grows c.args.line.now c.add.new.self) whole c.in_ok-add.ensures,
      sym len,
    )
