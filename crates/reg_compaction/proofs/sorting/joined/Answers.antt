use Rattle.reg_compaction.proofs.Pieces.{joined_more}
use Rattle.reg_compaction.proofs.sorting.joined.Goals as goal

pub loop-piece-preserved : goal.loop-piece-preserved
loop-piece-preserved c =
    joined_more c.args.front.now c.args.pieces.now c.loop-piece.piece-index _ c.loop-piece.text.items
    c.extend_from_slice.new.self.items c.push.new.self.items c.loop-piece-test.true c.loop-piece.invariant
    c.in_ok-extend_from_slice.ensures.items c.in_ok-push.ensures.items
