use Rattle.std.proofs.Common.{◌≡◌, ◌∙◌, ◌==◌, ℕ, List, [], ◌∷◌, true, false, not, ◌&&◌, ◌||◌, ap, refl}
use Rattle.std.specs.List.{list_any}
use Rattle.reg_records.specs.Line.{is_free_of}
use Rattle.reg_records.proofs.line.is_free_of.Goals as goal

is_free_of-unless_any : (byte : ℕ) (bytes : List ℕ) → not (list_any (λ b. b == byte) bytes) ≡ is_free_of (λ b. b == byte) bytes
is_free_of-unless_any byte [] = refl
is_free_of-unless_any byte (b ∷ bytes) =
    let more = is_free_of-unless_any byte bytes in
    elim (b == byte) as (λ t.
    not (t || list_any (λ b. b == byte) bytes) ≡ (not t && is_free_of (λ b. b == byte) bytes)) [ true ↦ refl | false ↦ more ]

pub returns : goal.returns
returns c = ap not c.contains.ensures.value ∙ is_free_of-unless_any c.args.byte c.args.bytes.now
