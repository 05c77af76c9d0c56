-- Private: which numbers were met, and which of them wait.
use Rattle.std.specs.Prelude.{◌≡◌, ◌≢◌, ◌<◌, ◌≤◌, ℕ, ◌*◌, ◌^◌, ◌/◌, ◌%◌, List, length, Bool, true, false, ◌&&◌, ◌||◌, ◌==◌, All, get_or}
use Rattle.std.specs.Int.{bit_at}
use Rattle.std.specs.List.{list_any}
use Rattle.avro_resolve.specs.declared.worklist.Worklist.{Worklist}

-- whether the bit of a number is set in a word
abbrev pub is_in_word : ℕ → ℕ → Bool
is_in_word word k = bit_at word (k % 64) == 1

abbrev pub has_number : List ℕ → ℕ → Bool
has_number words k = is_in_word (get_or words (k / 64) 0) k

-- whether a number is one of the word at a place
abbrev pub is_of_word : ℕ → ℕ → ℕ → Bool
is_of_word place word k = (place == k / 64) && is_in_word word k

abbrev pub is_met : Worklist → ℕ → Bool
is_met a k = has_number a.met.words.items k

abbrev pub waits : Worklist → ℕ → Bool
waits a k = is_of_word a.place a.bits k || has_number a.waiting.words.items k

pub record IsOrderly (a : Worklist) : Type 0 where
  pub alike : length a.waiting.words.items ≡ length a.met.words.items
  pub small : 64 * length a.met.words.items ≤ 2 ^ 64
  pub within : All (λ j. j < length a.waiting.words.items) a.places.items
  -- the place of each word that isn't 0 is among the places
  pub listed : (j : ℕ) → get_or a.waiting.words.items j 0 ≢ 0 → list_any (λ i. i == j) a.places.items ≡ true
  pub in_hand : a.place < length a.met.words.items
  -- what waits was met, and stands at one place
  pub known : (k : ℕ) → waits a k ≡ true → is_met a k ≡ true
  pub apart : (k : ℕ) → is_of_word a.place a.bits k ≡ true → has_number a.waiting.words.items k ≡ false
