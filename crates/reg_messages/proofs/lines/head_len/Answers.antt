use Rattle.std.proofs.Common.{◌≡◌, ◌+◌, ◌∷◌, ◌++◌, [], take, get_or, false, subst, sym, arith, ap, ◌∙◌, suc, ℕ}
use Rattle.std.proofs.Math.Seq.{take-suc}
use Rattle.reg_messages.specs.Head.{ends_in_empty_line}
use Rattle.reg_messages.specs.HeadReading.{HasNoEnd}
use Rattle.reg_messages.proofs.Heads.{HasNoEnd-more}
use Rattle.reg_messages.proofs.lines.head_len.Goals as goal

add-suc : (n : ℕ) → n + 1 ≡ suc n
add-suc n = omega arith

pub loop-len-preserved : goal.loop-len-preserved
loop-len-preserved c =
    let bytes = c.args.bytes.now in
    let len = c.loop-len.len in
    let grown : take (len + 1) bytes ≡ take len bytes ++ get_or bytes len 0 ∷ [] =
    ap (λ k. take k bytes) (add-suc len) ∙ take-suc bytes len 0 (omega (arith, c.loop-len-test.true)) in
    let unended : ends_in_empty_line (take (len + 1) bytes) ≡ false = sym c.if-ends_empty_line.ensures in (
      omega (arith, c.loop-len-test.true),
      subst (HasNoEnd []) (sym grown)
          (HasNoEnd-more [] (take len bytes) (take (len + 1) bytes) (get_or bytes len 0) c.loop-len.invariant.1 grown unended),
    )
