-- Private: how a published list becomes the whole one.
use Rattle.std.specs.Prelude.{◌≡◌, List, [], ◌∷◌, ◌++◌, length, fold, if◌then◌else◌, nat_lt}
use mathlib.Core.List.{IsPrefix}
use Rattle.reg_feed.specs.declared.stored.Brought.{Brought}
use Rattle.reg_feed.specs.declared.stored.Brought.TheVariants as brought

-- the next list, where it is longer; any other changes nothing
abbrev pub grown : {T : Type 0} → List T → List T → List T
grown list next = if nat_lt (length list) (length next) then next else list

-- what comes with a front: the last item, or what all of it folds to
abbrev pub Brings : {T V : Type 0} → (V → T → V) → V → Brought T V → List T → Type 0
Brings {T} applied first (brought.Item x) front = (l : List T) × (front ≡ l ++ x ∷ [])
Brings applied first (brought.Value v) front = v ≡ fold applied first front

-- the whole list begins with the published one, which grows to it by the pending lists
pub record GrowsTo {T : Type 0} (published : List T) (pending : List (List T)) (whole : List T) : Type 0 where
  pub begins : IsPrefix published whole
  pub ends : fold grown published pending ≡ whole
