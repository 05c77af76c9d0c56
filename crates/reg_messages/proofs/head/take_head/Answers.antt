use Rattle.std.proofs.Common.{◌≡◌, ◌+◌, ◌++◌, ◌∷◌, [], take, slice_set, false, sym, ap, subst, ◌∙◌, arith, length-append}
use Rattle.std.proofs.KnownBytes.{Consumes-trans}
use Rattle.std.proofs.lemmas.List.{append_assoc, take_more_set}
use Rattle.reg_messages.specs.Head.{ends_in_empty_line}
use Rattle.reg_messages.specs.Taking.{TakesByte}
use Rattle.reg_records.proofs.Ends.{ends_then}
use Rattle.reg_messages.proofs.Counts.{counts_then}
use Rattle.reg_messages.proofs.Heads.{HasNoEnd-more}
use Rattle.reg_messages.proofs.head.take_head.Goals as goal

pub loop-len-preserved : goal.loop-len-preserved
loop-len-preserved g c =
    let ((taken, many, kept, none, took), faults, fits, reads, end) = c.loop-len.invariant in
    let b = c.in-Some.b in
    let first = take 1 c.args.buffer.now in
    let byte = subst (λ o. TakesByte (g.R.Read.remaining c.loop-len.reader.inner) (g.R.Read.remaining c.take_byte.new.reader.inner) o)
    c.in-Some.is c.in_ok-take_byte.ensures.taken in
    let grown =
    take_more_set c.loop-len.buffer c.loop-len.len b (omega arith) ∙ ap (λ t. t ++ b ∷ []) kept ∙ append_assoc first taken (b ∷ []) in
    let unended : ends_in_empty_line (take (c.loop-len.len + 1) (slice_set c.loop-len.buffer c.loop-len.len b)) ≡ false =
    sym c.if-ends_in_empty_line.ensures in (
      (
        taken ++ b ∷ [],
        ap (λ n. n + 1) (length-append taken (b ∷ []) ∙ many),
        grown,
        HasNoEnd-more first taken _ b none grown unended,
        Consumes-trans _ _ _ taken (b ∷ []) took byte,
      ),
      c.in_ok-take_byte.ensures.faults ∙ faults,
      omega (arith, c.loop-len-test.true),
      counts_then c.args.reader.now c.loop-len.reader c.take_byte.new.reader reads c.take_byte.ensures.reads,
      ends_then g.R.Read.remaining c.args.reader.now c.loop-len.reader c.take_byte.new.reader end c.take_byte.ensures.end,
    )

pub returns-then-ends_in_empty_line-clause-taken : goal.returns-then-ends_in_empty_line-clause-taken
returns-then-ends_in_empty_line-clause-taken g c =
    let ((taken, many, kept, none, took), faults, fits, reads, end) = c.loop-len.invariant in
    let b = c.in-Some.b in
    let first = take 1 c.args.buffer.now in
    let byte = subst (λ o. TakesByte (g.R.Read.remaining c.loop-len.reader.inner) (g.R.Read.remaining c.take_byte.new.reader.inner) o)
    c.in-Some.is c.in_ok-take_byte.ensures.taken in (
      taken,
      b,
      Consumes-trans _ _ _ taken (b ∷ []) took byte,
      take_more_set c.loop-len.buffer c.loop-len.len b (omega arith) ∙ ap (λ t. t ++ b ∷ []) kept ∙ append_assoc first taken (b ∷ []),
      omega (arith, c.loop-len-test.true),
      none,
      sym c.if-ends_in_empty_line.ensures,
    )
