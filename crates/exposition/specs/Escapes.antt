-- Texts as they stand in a line.
use Rattle.std.specs.Prelude.{ℕ, List, [], ◌∷◌, Bool, ◌&&◌, ◌==◌, codes, if◌then◌else◌, flat_map}

-- a backslash stands before a backslash, and `\n` for an LF; in quotes, a backslash stands before a double quote too
abbrev pub escaped_byte : Bool → ℕ → List ℕ
escaped_byte in_quotes b =
    if b == 92 then codes "\\\\" else if b == 10 then codes "\\n" else if in_quotes && (b == 34) then codes "\\\"" else b ∷ []

abbrev pub escaped : Bool → List ℕ → List ℕ
escaped in_quotes text = flat_map (λ b. escaped_byte in_quotes b) text
