-- What a metric and a label may be called.
use Rattle.std.specs.Prelude.{ℕ, List, [], ◌∷◌, Bool, false, ◌&&◌, ◌||◌, ◌==◌, nat_le, bytes_eq, codes, if◌then◌else◌}
use Rattle.std.specs.List.{list_all}

-- a letter of ASCII, or `_`
abbrev pub is_letter : ℕ → Bool
is_letter b = (nat_le 97 b && nat_le b 122) || (nat_le 65 b && nat_le b 90) || (b == 95)

-- a digit of ASCII
abbrev pub is_digit : ℕ → Bool
is_digit b = nat_le 48 b && nat_le b 57

-- a letter, `_` or `:`, and then these and digits
abbrev pub is_name : List ℕ → Bool
is_name [] = false
is_name (b ∷ bs) = (is_letter b || (b == 58)) && list_all (λ c. is_letter c || is_digit c || (c == 58)) bs

-- a letter or `_`, and then these and digits
abbrev pub is_word : List ℕ → Bool
is_word [] = false
is_word (b ∷ bs) = is_letter b && list_all (λ c. is_letter c || is_digit c) bs

-- a word that doesn't begin with `__`, which is for the server's own labels
abbrev pub is_free_word : List ℕ → Bool
is_free_word (a ∷ b ∷ bs) = if (a == 95) && (b == 95) then false else is_word (a ∷ b ∷ bs)
is_free_word bs = is_word bs

-- a label's name: such a word, and not `le`, which names the bounds of buckets
abbrev pub is_label_name : List ℕ → Bool
is_label_name name = if bytes_eq name (codes "le") then false else is_free_word name
