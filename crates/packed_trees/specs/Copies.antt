-- Clones that stand for what they are clones of.
use Rattle.std.specs.Prelude.{◌≡◌}
use Rattle.std.specs.declared.cmp.Ordering.{Ordering}
use Rattle.std.specs.declared.cmp.Ordering.TheVariants.{Equal}

-- a clone ties with what it is a clone of
abbrev pub ClonesTie : {K : Type 0} → (K → K → Ordering) → (K → K → Type 0) → Type 0
ClonesTie {K} cmp is_clone = (x y : K) → is_clone x y → cmp x y ≡ Equal

-- a clone is equal to what it is a clone of
abbrev pub ClonesAreEqual : {V : Type 0} → (V → V → Type 0) → Type 0
ClonesAreEqual {V} is_clone = (x y : V) → is_clone x y → y ≡ x
