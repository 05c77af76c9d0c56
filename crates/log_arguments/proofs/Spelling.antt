-- When a text spells no number within bounds.
use Rattle.std.proofs.Common.{◌≡◌, ◌∙◌, ◌<◌, sym, ◌^◌, ℕ, List, length, Option, Some, None, true, arith, rules}
use Rattle.std.specs.Char.{is_ascii_digit}
use Rattle.std.specs.List.{list_all}
use Rattle.std.specs.Net.Grammar.{IsSocketText}
use Rattle.std.specs.Str.Parse.{digits_value}
use Rattle.std.specs.declared.net.socket_addr.SocketAddr.{SocketAddr}
use Rattle.std.proofs.lemmas.Str.Parse.{IsNumeralModel, numerals_by_value}
use Rattle.std.proofs.lemmas.Bool.Decides.{nat_tests}
use Rattle.log_arguments.specs.Values.{IsAddressOf, IsNumberOr, IsOffsetOf, SpellsWithin, is_decimal}

pub own : IsNumeralModel (λ ds. list_all is_ascii_digit ds ≡ true) (digits_value 10)
own = numerals_by_value _ (search rules)

digits_in : (text : List ℕ) → is_decimal text ≡ true → list_all is_ascii_digit text ≡ true
digits_in text e = grind (arith, nat_tests)

some_in : (text : List ℕ) → is_decimal text ≡ true → 0 < length text
some_in text e = grind (arith, nat_tests)

-- digits that fit no u64 spell no number within its bounds
pub unparsed : (text : List ℕ) (least most : ℕ) → most < 2 ^ 64
    → ((list_all is_ascii_digit text ≡ true) → ¬ ((0 < length text) × (digits_value 10 text < 2 ^ 64)))
    → (number : ℕ) → ¬ SpellsWithin least most text number
unparsed text least most fits none number spells =
    let value : digits_value 10 text ≡ number = spells.1 in
    let below = spells.3 in
    none (digits_in text spells.0) (some_in text spells.0, omega arith)

pub no_offset : (text : List ℕ) → ((number : ℕ) → ¬ SpellsWithin 0 9223372036854775807 text number) → (offset : Option ℕ)
    → ¬ IsOffsetOf (Some text) offset
no_offset text none None is = is
no_offset text none (Some number) is = none number is

pub no_address : (text : List ℕ) → ((address : SocketAddr) → ¬ IsSocketText text address) → (address : Option SocketAddr)
    → ¬ IsAddressOf (Some text) address
no_address text none None is = is
no_address text none (Some address) is = none address is

-- an option has one number
pub number_unique : (otherwise least most : ℕ) (given : Option (List ℕ)) (a b : ℕ) → IsNumberOr otherwise least most given a
    → IsNumberOr otherwise least most given b → a ≡ b
number_unique otherwise least most None a b one other = one ∙ sym other
number_unique otherwise least most (Some text) a b one other = sym one.1 ∙ other.1
