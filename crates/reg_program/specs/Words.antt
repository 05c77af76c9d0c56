-- What the arguments ask for.
use Rattle.std.specs.Prelude.{ℕ, ◌+◌, ◌∷◌, [], List, Bool, false, ◌&&◌, not, Option, Some, None}
use Rattle.std.specs.Prelude.{length, codes, bytes_eq, nat_eq, nat_le, if◌then◌else◌}
use Rattle.std.specs.Char.{is_ascii_digit}
use Rattle.std.specs.List.{list_all}
use Rattle.std.specs.Str.Parse.{digits_value}
use Rattle.reg_program.specs.declared.words.ProgramCommand.{ProgramCommand}
use Rattle.reg_program.specs.declared.words.ProgramCommand.TheVariants as commands

-- one to five decimal digits, of which the first isn't 0
abbrev pub is_plain : List ℕ → Bool
is_plain [] = false
is_plain (first ∷ rest) = not (nat_eq first 48) && (nat_le (length (first ∷ rest)) 5 && list_all is_ascii_digit (first ∷ rest))

-- the number that a word spells, where that is within the limits
abbrev pub number_in : ℕ × ℕ → List ℕ → Option ℕ
number_in limits word =
    let n = digits_value 10 word in
    if is_plain word && (nat_le limits.0 n && nat_le n limits.1) then Some n else None

-- nodes serve where all three numbers are given and the last node's port is one
abbrev pub serving : Option ℕ → Option ℕ → Option ℕ → ProgramCommand
serving (Some port) (Some nodes) (Some workers) = if nat_le (port + nodes) 65536 then commands.Serve port nodes workers else commands.Usage
serving _ _ _ = commands.Usage

-- `fold` and `sketch` are commands without more words
abbrev pub command_named : List ℕ → ProgramCommand
command_named word = if bytes_eq word (codes "fold") then commands.Fold
    else (if bytes_eq word (codes "sketch") then commands.Sketch else commands.Usage)

-- after the program's name stands `fold` or `sketch` alone, or `serve`, a port, 1 to 3 nodes and 1 to 16 workers
abbrev pub command_of : List (List ℕ) → ProgramCommand
command_of (name ∷ word ∷ []) = command_named word
command_of (name ∷ word ∷ port ∷ nodes ∷ workers ∷ []) =
    if bytes_eq word (codes "serve") then serving (number_in (1, 65535) port) (number_in (1, 3) nodes) (number_in (1, 16) workers)
    else commands.Usage
command_of words = commands.Usage
