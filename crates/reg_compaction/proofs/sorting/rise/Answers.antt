use Rattle.std.proofs.Common.{◌≡◌, true, false, refl, rules}
use Rattle.std.proofs.lemmas.List.Sorted.{IsNonDecreasingBy-from_all_adjacent, answers_always}
use Rattle.reg_compaction.specs.declared.sorting.Piece.{Piece}
use Rattle.reg_compaction.proofs.Pieces.{at_most, falls}
use Rattle.reg_compaction.proofs.sorting.rise.Goals as goal

pub returns : goal.returns
returns c =
    let cases = c.is_sorted_by_key.ensures.cases (λ p. p.offset) (answers_always _ _ _ (λ f a r q k. search rules)) in (
      λ they_do.
          let up = rw they_do at cases in
          IsNonDecreasingBy-from_all_adjacent (λ (p : Piece). p.offset) c.args.pieces.now (λ k d within. at_most _ _ (up k d within)),
      λ up. elim c.is_sorted_by_key.result as (λ b. c.is_sorted_by_key.result ≡ b → b ≡ true) [
        | true ↦ λ _. refl
        | false ↦ λ they_dont. let fall = rw they_dont at cases in absurd (falls c.args.pieces.now fall.0 fall.1 fall.2 up)
      ] refl,
    )
