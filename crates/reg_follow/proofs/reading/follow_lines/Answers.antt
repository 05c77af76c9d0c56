use Rattle.std.proofs.Common.{◌++◌, subst, sym}
use Rattle.std.proofs.lemmas.Result.{err_from_is_err_and}
use Rattle.reg_follow.specs.Following.{Following, IsShown, TakesPiece}
use Rattle.reg_follow.specs.declared.reading.Piece.{Piece}
use Rattle.reg_follow.proofs.Coming.{begun, ended, ended_shown, goes_on_before, kept}
use Rattle.reg_follow.proofs.Coming.{lines_refused, piece, read_refused, shown, stops_before}
use Rattle.reg_follow.proofs.reading.follow_lines.Goals as goal

pub loop-read-init : goal.loop-read-init
loop-read-init g c text read has = (begun (g.B.Read.remaining c.args.reader.now) text read c.args.intake.now has, λ before. before)

pub loop-read-preserved-in-Nothing : goal.loop-read-preserved-in-Nothing
loop-read-preserved-in-Nothing g c text read has =
    let old = g.B.Read.remaining c.args.reader.now in
    let mid = g.B.Read.remaining c.loop-read.reader in
    let new = g.B.Read.remaining c.take_piece.new.reader in
    let f = (c.loop-read.invariant text read has).0 in
    let it = subst (λ (p : Piece).
    TakesPiece mid new (text ++ f.bytes) (read ++ f.more) c.loop-read.intake c.take_piece.new.intake p) c.in-Nothing.is
    (c.in_ok-take_piece.ensures.taken (text ++ f.bytes) (read ++ f.more) f.taken) in (
      kept old mid new text read c.loop-read.intake c.take_piece.new.intake f it.0 it.1,
      λ before. subst (λ (s : Following). IsShown s) (sym it.1) ((c.loop-read.invariant text read has).1 before),
    )

pub returns-in-End-clause-followed : goal.returns-in-End-clause-followed
returns-in-End-clause-followed g c text read has =
    let old = g.B.Read.remaining c.args.reader.now in
    let mid = g.B.Read.remaining c.loop-read.reader in
    let new = g.B.Read.remaining c.take_piece.new.reader in
    let f = (c.loop-read.invariant text read has).0 in
    let it = subst (λ (p : Piece).
    TakesPiece mid new (text ++ f.bytes) (read ++ f.more) c.loop-read.intake c.take_piece.new.intake p) c.in-End.is
    (c.in_ok-take_piece.ensures.taken (text ++ f.bytes) (read ++ f.more) f.taken) in (
      kept old mid new text read c.loop-read.intake c.take_piece.new.intake f it.1 it.2,
      ended old mid new text read c.loop-read.intake c.take_piece.new.intake c.end_of.result f it.0 it.1 c.end_of.ensures,
    )

pub returns-in-End-clause-shown : goal.returns-in-End-clause-shown
returns-in-End-clause-shown g c text read has before =
    let mid = g.B.Read.remaining c.loop-read.reader in
    let new = g.B.Read.remaining c.take_piece.new.reader in
    let so = c.loop-read.invariant text read has in
    let it = subst (λ (p : Piece).
    TakesPiece mid new (text ++ so.0.bytes) (read ++ so.0.more) c.loop-read.intake c.take_piece.new.intake p) c.in-End.is
    (c.in_ok-take_piece.ensures.taken (text ++ so.0.bytes) (read ++ so.0.more) so.0.taken) in
    ended_shown c.loop-read.intake c.take_piece.new.intake c.end_of.result it.2 c.end_of.ensures (so.1 before)

pub returns-then-not-branch-clause-followed : goal.returns-then-not-branch-clause-followed
returns-then-not-branch-clause-followed g c text read has =
    let old = g.B.Read.remaining c.args.reader.now in
    let mid = g.B.Read.remaining c.loop-read.reader in
    let new = g.B.Read.remaining c.take_piece.new.reader in
    let f = (c.loop-read.invariant text read has).0 in
    let it = subst (λ (p : Piece).
    TakesPiece mid new (text ++ f.bytes) (read ++ f.more) c.loop-read.intake c.take_piece.new.intake p) c.in-Bytes.is
    (c.in_ok-take_piece.ensures.taken (text ++ f.bytes) (read ++ f.more) f.taken) in
    let p = piece old mid new text read c.loop-read.intake c.take_piece.new.intake f it.0 it.1 it.2 in
    let published = c.in_ok-publish_all.ensures.published (text ++ p.bytes) (read ++ p.more) p.taken in (
      shown old new text read c.take_piece.new.intake c.publish_all.new.intake p published.more published.taken,
      stops_before _ _ _ c.if-not-branch.true published.stops,
    )

pub returns-then-not-branch-clause-shown : goal.returns-then-not-branch-clause-shown
returns-then-not-branch-clause-shown g c text read has before =
    let old = g.B.Read.remaining c.args.reader.now in
    let mid = g.B.Read.remaining c.loop-read.reader in
    let new = g.B.Read.remaining c.take_piece.new.reader in
    let f = (c.loop-read.invariant text read has).0 in
    let it = subst (λ (p : Piece).
    TakesPiece mid new (text ++ f.bytes) (read ++ f.more) c.loop-read.intake c.take_piece.new.intake p) c.in-Bytes.is
    (c.in_ok-take_piece.ensures.taken (text ++ f.bytes) (read ++ f.more) f.taken) in
    let p = piece old mid new text read c.loop-read.intake c.take_piece.new.intake f it.0 it.1 it.2 in
    (c.in_ok-publish_all.ensures.published (text ++ p.bytes) (read ++ p.more) p.taken).none

pub loop-read-preserved : goal.loop-read-preserved
loop-read-preserved g c text read has =
    let old = g.B.Read.remaining c.args.reader.now in
    let mid = g.B.Read.remaining c.loop-read.reader in
    let new = g.B.Read.remaining c.take_piece.new.reader in
    let f = (c.loop-read.invariant text read has).0 in
    let it = subst (λ (p : Piece).
    TakesPiece mid new (text ++ f.bytes) (read ++ f.more) c.loop-read.intake c.take_piece.new.intake p) c.in-Bytes.is
    (c.in_ok-take_piece.ensures.taken (text ++ f.bytes) (read ++ f.more) f.taken) in
    let p = piece old mid new text read c.loop-read.intake c.take_piece.new.intake f it.0 it.1 it.2 in
    let published = c.in_ok-publish_all.ensures.published (text ++ p.bytes) (read ++ p.more) p.taken in (
      shown old new text read c.take_piece.new.intake c.publish_all.new.intake p published.more published.taken,
      λ _. (goes_on_before _ _ _ c.if-not-branch.false published.stops, published.none),
    )

pub returns-in_err-take_piece-clause-refused : goal.returns-in_err-take_piece-clause-refused
returns-in_err-take_piece-clause-refused g c text read has =
    let old = g.B.Read.remaining c.args.reader.now in
    let mid = g.B.Read.remaining c.loop-read.reader in
    let new = g.B.Read.remaining c.take_piece.new.reader in
    let f = (c.loop-read.invariant text read has).0 in
    let failed = c.in_err-take_piece.ensures in
    let p = err_from_is_err_and c.from_residual.result c.from_residual.ensures.1 in
    rw (p.1, p.2) (read_refused g.B.Pieces.fails c.loop-read.reader c.take_piece.new.reader old mid new text read
    c.loop-read.intake c.take_piece.new.intake c.in_err-take_piece.field-0.0 f failed.kept failed.same failed.fault.0 failed.fault.1)

pub returns-in_err-publish_all-clause-refused : goal.returns-in_err-publish_all-clause-refused
returns-in_err-publish_all-clause-refused g c text read has =
    let old = g.B.Read.remaining c.args.reader.now in
    let mid = g.B.Read.remaining c.loop-read.reader in
    let new = g.B.Read.remaining c.take_piece.new.reader in
    let f = (c.loop-read.invariant text read has).0 in
    let it = subst (λ (p : Piece).
    TakesPiece mid new (text ++ f.bytes) (read ++ f.more) c.loop-read.intake c.take_piece.new.intake p) c.in-Bytes.is
    (c.in_ok-take_piece.ensures.taken (text ++ f.bytes) (read ++ f.more) f.taken) in
    let p = piece old mid new text read c.loop-read.intake c.take_piece.new.intake f it.0 it.1 it.2 in
    let e = err_from_is_err_and c.from_residual-in_err-publish_all.result c.from_residual-in_err-publish_all.ensures.1 in
    rw (e.1, e.2) (lines_refused g.B.Pieces.fails c.take_piece.new.reader old new text read
    c.take_piece.new.intake c.publish_all.new.intake p c.in_err-publish_all.field-0.0
    (c.in_err-publish_all.ensures.refused (text ++ p.bytes) (read ++ p.more) p.taken))
