use Rattle.std.proofs.Common.{◌≡◌, false, [], ◌∷◌, ◌++◌, sym, subst, ◌∙◌, arith, rules}
use Rattle.std.specs.Io.KnownBytes.{Consumes}
use Rattle.std.proofs.KnownBytes.{Consumes-nil, Consumes-kept}
use Rattle.std.proofs.lemmas.List.Elements.{All-append, All-nil}
use Rattle.reg_records.specs.Line.{is_line_feed}
use Rattle.reg_records.specs.Pieces.{Holds}
use Rattle.reg_records.proofs.Ends.{end_taken}
use Rattle.reg_records.proofs.Lines.{length-of_nonempty, TakesPart-more, TakesPart-kept, Consumes-ended}
use Rattle.reg_records.proofs.Lines.{IsAtEnd-after, IsAtEnd-before, Keeps-none_taken}
use Rattle.reg_records.proofs.Lines.{place-ended, place-more}
use Rattle.reg_records.proofs.line_reader.take_line.Goals.{then-is_empty, else-is_empty, in-More, in-Failed-Interrupted}
use Rattle.reg_records.proofs.line_reader.take_line.Goals as goal

pub loop-i-init : goal.loop-i-init
loop-i-init g c = (
  [],
  All-nil (λ b. is_line_feed b ≡ false),
  c.new-line.ensures,
  subst (λ r. Consumes (g.R.Read.remaining r) (g.R.Read.remaining c.begin_count.new.self.inner) []) c.begin_count.ensures.inner
      (Consumes-nil _),
  c.begin_count.ensures.faults,
  c.begin_count.ensures.reads,
  omega (arith, c.begin_count.ensures.all_reads),
  omega (arith, c.begin_count.ensures.place),
  c.begin_count.ensures.begun,
)

pub returns-in-Ended-clause-taken : goal.returns-in-Ended-clause-taken
returns-in-Ended-clause-taken g c =
    let (line, none, held, read, faults, reads, all, place, begun) = c.loop-i.invariant in
    let (bytes, none', read', grows, len) = rw c.in-Ended.is at c.in_ok-take_piece.ensures.taken in
    let moved = rw c.in-Ended.is at c.in_ok-take_piece.ensures.place in (
      line ++ bytes,
      All-append (λ b. is_line_feed b ≡ false) line bytes none none',
      (Consumes-ended _ _ _ line bytes read read', place-ended _ _ _ _ line bytes place moved len),
      grows line held,
    )

pub returns-in-NoMore-clause-taken : goal.returns-in-NoMore-clause-taken
returns-in-NoMore-clause-taken g c =
    let (line, none, held, read, faults, reads, all, place, begun) = c.loop-i.invariant in
    let (end, kept, same) = rw c.in-NoMore.is at c.in_ok-take_piece.ensures.taken in
    let empty = c.is_empty.ensures line (subst (λ b. Holds b line) (sym same) held) in
    elim c.if-is_empty.branch [
      | then-is_empty w ↦
          let nothing : line ≡ [] = empty.0 (search rules) in
          rw w.result-is (IsAtEnd-before _ _ line read nothing end, Keeps-none_taken _ _ _ line read nothing kept)
      | else-is_empty w ↦
          let something = length-of_nonempty line (w.if-is_empty.ensures line (subst (λ b. Holds b line) (sym same) held)).1 in
          rw w.result-is (line, none, something, Consumes-kept _ _ _ line read kept, IsAtEnd-after _ _ _ line read end kept)
    ]

pub returns-in-Ended-clause-end : goal.returns-in-Ended-clause-end
returns-in-Ended-clause-end g c =
    let (line, none, held, read, faults, reads, all, place, begun) = c.loop-i.invariant in
    let (bytes, none', read', grows, len) = rw c.in-Ended.is at c.in_ok-take_piece.ensures.taken in
    let moved = rw c.in-Ended.is at c.in_ok-take_piece.ensures.place in
    end_taken g.R.Read.remaining c.args.reader.now c.take_piece.new.self ((line ++ bytes) ++ 10 ∷ [])
    (Consumes-ended _ _ _ line bytes read read') (place-ended _ _ _ _ line bytes place moved len)

pub returns-in-NoMore-clause-end : goal.returns-in-NoMore-clause-end
returns-in-NoMore-clause-end g c =
    let (line, none, held, read, faults, reads, all, place, begun) = c.loop-i.invariant in
    let (end, kept, same) = rw c.in-NoMore.is at c.in_ok-take_piece.ensures.taken in
    let moved = rw c.in-NoMore.is at c.in_ok-take_piece.ensures.place in
    end_taken g.R.Read.remaining c.args.reader.now c.take_piece.new.self line
    (Consumes-kept _ _ _ line read kept) (omega (arith, place, moved))

pub returns-in-Failed-clause-end : goal.returns-in-Failed-clause-end
returns-in-Failed-clause-end g c =
    let (line, none, held, read, faults, reads, all, place, begun) = c.loop-i.invariant in
    let (kept, same) = rw c.in-Failed.is at c.in_ok-take_piece.ensures.taken in
    let moved = rw c.in-Failed.is at c.in_ok-take_piece.ensures.place in
    end_taken g.R.Read.remaining c.args.reader.now c.take_piece.new.self line
    (Consumes-kept _ _ _ line read kept) (omega (arith, place, moved))

pub returns-clause-end : goal.returns-clause-end
returns-clause-end g c =
    let (line, none, held, read, faults, reads, all, place, begun) = c.loop-i.invariant in
    end_taken g.R.Read.remaining c.args.reader.now c.loop-i.reader line read place

pub loop-i-preserved : goal.loop-i-preserved
loop-i-preserved g c =
    let (line, none, held, read, faults, reads, all, place, begun) = c.loop-i.invariant in
    elim c.match-branch-2.branch [
      | in-More w ↦
          let (bytes, none', read', grows, len) = rw w.in-More.is at c.in_ok-take_piece.ensures.taken in
          let moved = rw w.in-More.is at c.in_ok-take_piece.ensures.place in
          let part = TakesPart-more _ _ _ c.loop-i.line c.take_piece.new.line line bytes none held read none' read' grows in
          let same = rw w.in-More.is at c.in_ok-take_piece.ensures.faults in (
            part.0,
            part.1,
            part.2,
            part.3,
            same ∙ faults,
            omega (arith, reads),
            omega (arith, all),
            place-more _ _ _ _ line bytes place moved len,
            c.take_piece.ensures.begun ∙ begun,
          )
      | in-Failed-Interrupted w ↦
          let (kept, same) = rw w.in-Failed-Interrupted.is at c.in_ok-take_piece.ensures.taken in
          let part = TakesPart-kept _ _ _ c.loop-i.line c.take_piece.new.line line none held read kept same in
          let counts = rw w.in-Failed-Interrupted.is at c.in_ok-take_piece.ensures.faults in
          let moved = rw w.in-Failed-Interrupted.is at c.in_ok-take_piece.ensures.place in (
            part.0,
            part.1,
            part.2,
            part.3,
            counts.0 w.in-Failed-Interrupted.field-0-is ∙ faults,
            omega (arith, reads),
            omega (arith, all),
            omega (arith, place, moved),
            c.take_piece.ensures.begun ∙ begun,
          )
    ]
