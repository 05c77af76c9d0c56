-- Private: slots, in which the place of a name is looked for first.
use Rattle.std.specs.Prelude.{ℕ, ◌+◌, ◌*◌, ◌%◌, ◌^◌, ◌<◌, List, [], ◌∷◌, length, slice_index_or}
use Rattle.std.specs.List.{All}

-- a byte more, in 32 bits
abbrev pub hashed : ℕ → ℕ → ℕ
hashed hash byte = ((hash + byte) % 2 ^ 32 * 2654435761) % 2 ^ 32

abbrev pub hash_from : ℕ → List ℕ → ℕ
hash_from hash [] = hash
hash_from hash (x ∷ xs) = hash_from (hashed hash x) xs

-- the slot of a name among so many
abbrev pub slot_of : List ℕ → ℕ → ℕ
slot_of name count = hash_from 0 name % count

-- no slot of these names is empty
abbrev pub HaveSlots : List ℕ → List (List ℕ) → Type 0
HaveSlots slots names = All (λ name. 0 < slice_index_or slots (slot_of name (length slots)) 0) names
