-- What a chain told after an answer by which it keeps nothing.
use Rattle.std.proofs.Common.{◌≡◌, List, [], ◌∷◌, refl}
use Rattle.reg_records.specs.declared.record.Record.{Record}
use Rattle.reg_chain.specs.Chain.{told_after}
use Rattle.reg_chain.specs.declared.chain.ChainAnswer.TheVariants.{Declined, Unknown}

pub declined_tells_nothing : (told : List (List Record)) (batch : List Record) → told_after told batch Declined ≡ told
declined_tells_nothing told [] = refl
declined_tells_nothing told (r ∷ rs) = refl

pub unknown_tells_nothing : (told : List (List Record)) (batch : List Record) → told_after told batch Unknown ≡ told
unknown_tells_nothing told [] = refl
unknown_tells_nothing told (r ∷ rs) = refl
