-- Lists of words, by how many there are.
use Rattle.std.proofs.Common.{◌≡◌, ◌≤◌, ◌<◌, ℕ, true, List, [], ◌∷◌, length, map, get_or, refl, sym, ap, ◌∙◌, arith}
use Rattle.std.specs.Prelude.{codes, bytes_eq, if◌then◌else◌}
use Rattle.reg_program.specs.Words.{command_of, number_in, serving}
use Rattle.reg_program.specs.declared.words.ProgramCommand.TheVariants as commands

module _ {W : Type 0} (f : W → List ℕ) where
  pub few_words : (ws : List W) → length ws < 2 → commands.Usage ≡ command_of (map f ws)
  few_words [] h = refl
  few_words (a ∷ []) h = refl
  few_words (a ∷ b ∷ ws) h = absurd (omega (arith, h))

  pub some_words : (ws : List W) → 3 ≤ length ws → length ws < 5 → commands.Usage ≡ command_of (map f ws)
  some_words [] h k = absurd (omega (arith, h))
  some_words (a ∷ []) h k = absurd (omega (arith, h))
  some_words (a ∷ b ∷ []) h k = absurd (omega (arith, h))
  some_words (a ∷ b ∷ c ∷ []) h k = refl
  some_words (a ∷ b ∷ c ∷ d ∷ []) h k = refl
  some_words (a ∷ b ∷ c ∷ d ∷ e ∷ ws) h k = absurd (omega (arith, k))

  pub many_words : (ws : List W) → 6 ≤ length ws → commands.Usage ≡ command_of (map f ws)
  many_words [] h = absurd (omega (arith, h))
  many_words (a ∷ []) h = absurd (omega (arith, h))
  many_words (a ∷ b ∷ []) h = absurd (omega (arith, h))
  many_words (a ∷ b ∷ c ∷ []) h = absurd (omega (arith, h))
  many_words (a ∷ b ∷ c ∷ d ∷ []) h = absurd (omega (arith, h))
  many_words (a ∷ b ∷ c ∷ d ∷ e ∷ []) h = absurd (omega (arith, h))
  many_words (a ∷ b ∷ c ∷ d ∷ e ∷ g ∷ ws) h = refl

  pub five_words : (ws : List W) (word port nodes workers : W) → 5 ≤ length ws → length ws < 6
      → word ≡ get_or ws 1 word → port ≡ get_or ws 2 port → nodes ≡ get_or ws 3 nodes
      → workers ≡ get_or ws 4 workers → bytes_eq (f word) (codes "serve") ≡ true
      → serving (number_in (1, 65535) (f port)) (number_in (1, 3) (f nodes)) (number_in (1, 16) (f workers)) ≡ command_of (map f ws)
  five_words [] word port nodes workers h k w p n m is = absurd (omega (arith, h))
  five_words (a ∷ []) word port nodes workers h k w p n m is = absurd (omega (arith, h))
  five_words (a ∷ b ∷ []) word port nodes workers h k w p n m is = absurd (omega (arith, h))
  five_words (a ∷ b ∷ c ∷ []) word port nodes workers h k w p n m is = absurd (omega (arith, h))
  five_words (a ∷ b ∷ c ∷ d ∷ []) word port nodes workers h k w p n m is = absurd (omega (arith, h))
  five_words (a ∷ b ∷ c ∷ d ∷ e ∷ []) word port nodes workers h k w p n m is =
      ap (λ x. serving (number_in (1, 65535) (f x)) (number_in (1, 3) (f nodes)) (number_in (1, 16) (f workers))) p
      ∙ (ap (λ x. serving (number_in (1, 65535) (f c)) (number_in (1, 3) (f x)) (number_in (1, 16) (f workers))) n
      ∙ (ap (λ x. serving (number_in (1, 65535) (f c)) (number_in (1, 3) (f d)) (number_in (1, 16) (f x))) m
      ∙ ap (λ t. if t then serving (number_in (1, 65535) (f c)) (number_in (1, 3) (f d)) (number_in (1, 16) (f e)) else commands.Usage)
      (sym (ap (λ x. bytes_eq (f x) (codes "serve")) (sym w) ∙ is))))
  five_words (a ∷ b ∷ c ∷ d ∷ e ∷ g ∷ ws) word port nodes workers h k w p n m is = absurd (omega (arith, k))
