-- The values of a command's arguments, in the matches that a parse finds.
use Rattle.std.specs.Prelude.{◌≡◌, ◌+◌, ◌≤◌, ◌==◌, ◌&&◌, ⊤, ℕ, Bool, not, true, false, List, length, Option, Some, None, Result, codes, bytes_eq}
use Rattle.std.specs.Prelude.{nat_lt, if◌then◌else◌, option_and_then, option_map, unwrap_or, slice_index, MatchOption, MatchResult}
use Rattle.std.specs.Char.{is_ascii_digit}
use Rattle.std.specs.List.{list_all}
use Rattle.std.specs.Borrow.{Bor}
use Rattle.std.specs.Option.{option_map_or, option_or}
use Rattle.std.specs.Str.Parse.{digits_value}
use Rattle.std.specs.Net.Grammar.{IsSocketText}
use Rattle.std.specs.Net.Socket.{socket_port}
use Rattle.std.specs.declared.net.socket_addr.SocketAddr.{SocketAddr}
use Rattle.clap.specs.Words.{Row, Text, first_of}
use Rattle.log_arguments.specs.declared.settings.Settings.{Settings}

-- the result is a value of which the fact holds, or an error where there is no such value
abbrev pub Finds : {A E : Type 0} → (A → Type 0) → Result A E → Type 0
Finds {A} Holds result = MatchResult result Holds (λ _. (value : A) → ¬ Holds value)

-- decimal digits without a leading zero, but for `0` itself
abbrev pub is_decimal : Text → Bool
is_decimal text = not (length text == 0) && not (nat_lt 1 (length text) && (slice_index text 0 == 48)) && list_all is_ascii_digit text

-- the text spells the number, which is within the bounds
abbrev pub SpellsWithin : ℕ → ℕ → Text → ℕ → Type 0
SpellsWithin least most text number =
    (is_decimal text ≡ true) × (digits_value 10 text ≡ number) × (least ≤ number) × (number ≤ most)

-- the number of an option, and another where the option isn't given
abbrev pub IsNumberOr : ℕ → ℕ → ℕ → Option Text → ℕ → Type 0
IsNumberOr otherwise least most given number = MatchOption given (number ≡ otherwise) (λ text. SpellsWithin least most text number)

-- the offset of an option, and none where the option isn't given
abbrev pub IsOffsetOf : Option Text → Option ℕ → Type 0
IsOffsetOf None None = ⊤
IsOffsetOf (Some text) (Some offset) = SpellsWithin 0 9223372036854775807 text offset
IsOffsetOf _ _ = ⊥

-- the address of an option, and none where the option isn't given
abbrev pub IsAddressOf : Option Text → Option SocketAddr → Type 0
IsAddressOf None None = ⊤
IsAddressOf (Some text) (Some address) = IsSocketText text address
IsAddressOf _ _ = ⊥

-- the value that an option is given, and else the one that is set for it
abbrev pub value_of : Text → List Row → Option (Bor Text) → Option Text
value_of option rows set = option_or (first_of option rows) (option_map (λ text. text.now) set)

-- where the first node listens, how many nodes there are, and how many workers each has, which are so many at least
pub record IsPlaceIn (least : ℕ) (rows : List Row) (set : Settings) (listen : SocketAddr) (nodes workers : ℕ) : Type 0 where
  pub address : IsSocketText (unwrap_or (value_of (codes "listen") rows set.listen) (codes "127.0.0.1:8081")) listen
  pub nodes_given : IsNumberOr 1 1 3 (value_of (codes "nodes") rows set.nodes) nodes
  pub workers_given : IsNumberOr 4 least 16 (value_of (codes "workers") rows set.workers) workers
  -- there is a port for the first node, and for the last one
  pub first_port : 1 ≤ socket_port listen
  pub last_port : socket_port listen + nodes ≤ 65536

-- the path of an argument; `-` is none
abbrev pub path_in : Text → List Row → Option Text
path_in argument rows =
    option_and_then (λ path. if bytes_eq path (codes "-") then None else Some path) (first_of argument rows)

-- a flag that is given has the value `true`
abbrev pub has_flag : Text → List Row → Bool
has_flag option rows = option_map_or (λ text. bytes_eq text (codes "true")) (first_of option rows) false

-- a flag, by whether it is given, and else by the word that is set for it
abbrev pub IsFlagOr : Bool → Option (Bor Text) → Bool → Type 0
IsFlagOr true set flag = flag ≡ true
IsFlagOr false None flag = flag ≡ false
IsFlagOr false (Some text) flag = text.now ≡ (if flag then codes "true" else codes "false")
