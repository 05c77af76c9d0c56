use Rattle.std.proofs.Common.{◌≡◌, ◌+◌, ◌++◌, ◌∷◌, [], List, ℕ, true, refl, ap, subst, ◌∙◌, arith, length-append}
use Rattle.std.specs.List.{list_all}
use Rattle.std.proofs.KnownBytes.{Consumes-trans}
use Rattle.std.proofs.lemmas.List.Folds.{list_all-append}
use Rattle.reg_messages.specs.Head.{is_skipped}
use Rattle.reg_messages.specs.Taking.{TakesByte}
use Rattle.reg_records.proofs.Ends.{ends_then}
use Rattle.reg_messages.proofs.Counts.{counts_then}
use Rattle.reg_messages.proofs.head.take_blank.Goals as goal

-- one more that is skipped
all_skipped-more : (bytes : List ℕ) (b : ℕ) → list_all is_skipped bytes ≡ true
    → is_skipped b ≡ true → list_all is_skipped (bytes ++ b ∷ []) ≡ true
all_skipped-more bytes b all one = list_all-append is_skipped bytes (b ∷ []) ∙ rw (all, one) refl

pub loop-count-preserved : goal.loop-count-preserved
loop-count-preserved g c =
    let ((bytes, many, all, took), faults, fits, reads, end) = c.loop-count.invariant in
    let b = c.in-Some.b in
    let byte = subst (λ o. TakesByte (g.R.Read.remaining c.loop-count.reader.inner) (g.R.Read.remaining c.take_byte.new.reader.inner) o)
    c.in-Some.is c.in_ok-take_byte.ensures.taken in
    let one : is_skipped b ≡ true = grind (arith, c.if-not-is_skipped.ensures) in (
      (
        bytes ++ b ∷ [],
        length-append bytes (b ∷ []) ∙ ap (λ n. n + 1) many,
        all_skipped-more bytes b all one,
        Consumes-trans _ _ _ bytes (b ∷ []) took byte,
      ),
      c.in_ok-take_byte.ensures.faults ∙ faults,
      omega (arith, c.loop-count-test.true),
      counts_then c.args.reader.now c.loop-count.reader c.take_byte.new.reader reads c.take_byte.ensures.reads,
      ends_then g.R.Read.remaining c.args.reader.now c.loop-count.reader c.take_byte.new.reader end c.take_byte.ensures.end,
    )
