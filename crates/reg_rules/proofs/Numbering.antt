-- Records that are made one by one.
use Rattle.std.proofs.Common.{◌≡◌, ℕ, suc, ◌+◌, length, List, [], ◌∷◌, ◌++◌, ap, ◌∙◌, arith}
use Rattle.reg_rules.specs.Writings.{Writing, numbered, written_at}

-- one more writing has the offset after all before it
pub numbered_push : (n : ℕ) (ws : List Writing) (w : Writing)
    → numbered n (ws ++ w ∷ []) ≡ numbered n ws ++ written_at (n + length ws) w ∷ []
numbered_push n [] w = ap (λ m. written_at m w ∷ []) (omega arith)
numbered_push n (v ∷ ws) w =
    let shift : suc n + length ws ≡ n + suc (length ws) = omega arith in
    ap (λ rs. written_at n v ∷ rs) (numbered_push (suc n) ws w ∙ ap (λ m. numbered (suc n) ws ++ written_at m w ∷ []) shift)
