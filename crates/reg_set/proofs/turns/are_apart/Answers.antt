use Rattle.std.proofs.Common.{◌≡◌, ◌≤◌, ◌||◌, ℕ, false, nat_lt, ap, sym, ◌∙◌, arith}
use Rattle.std.proofs.lemmas.Bool.Decides.{nat_tests}
use Rattle.std.specs.Ordering.{is_eq}
use Rattle.reg_records.specs.contracts.key.KeyOrd.TheImpl.Laws.{matches_eq-law}
use Rattle.reg_set.specs.RecordOrder.{key_cmp}
use Rattle.reg_set.proofs.turns.are_apart.Goals as goal

not_lower : (m n : ℕ) → n ≤ m → nat_lt m n ≡ false
not_lower m n h = grind (arith, nat_tests)

pub returns-else-one-next : goal.returns-else-one-next
returns-else-one-next c =
    let one = c.args.one.now in
    let next = c.args.next.now in
    let level = not_lower one.offset next.offset c.if-one-next.false in
    c.eq.ensures ∙ matches_eq-law one.key next.key ∙ ap (λ b. b || is_eq (key_cmp one.key next.key)) (sym level)
