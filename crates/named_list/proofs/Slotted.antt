-- Slots of names, and that a name whose slot is empty is none of the names.
use Rattle.std.proofs.Common.{◌≡◌, ℕ, ◌<◌, ◌%◌, List, [], false, length, get_or, set, None, position}
use Rattle.std.proofs.Common.{bytes_eq, ⊎_elim, sym, ap, subst, ◌∙◌, Bool, true, refl, arith}
use Rattle.std.proofs.lemmas.Bool.{cases_eq}
use Rattle.std.proofs.lemmas.Grind.{get_or-set_at}
use Rattle.std.proofs.lemmas.List.{get_or-set_other}
use Rattle.std.proofs.lemmas.Slice.Eq.{bytes_eq-Decides}
use Rattle.std.proofs.lemmas.List.{get_or-map, length-map}
use Rattle.std.proofs.lemmas.List.Sorted.{IsPermutation-sym, All-permutation}
use Rattle.std.specs.List.{All}
use Rattle.named_list.specs.Index.{Place, names_at, IsIndex}
use Rattle.named_list.specs.Slots.{slot_of, HaveSlots}
use Rattle.named_list.proofs.Places.{none_of}

module _ (slots : List ℕ) (slot v : ℕ) (within : slot < length slots) (some : 0 < v) where
  pub kept : (j : ℕ) → 0 < get_or slots j 0 → 0 < get_or (set slots slot v) j 0
  kept j h =
      ⊎_elim (λ e. subst (λ n. 0 < n) (sym (get_or-set_at slots slot j v 0 e within)) some)
      (λ apart. subst (λ n. 0 < n) (sym (get_or-set_other slots slot j v 0 apart)) h) (cases_eq j slot)

  pub put : (j : ℕ) → j ≡ slot → 0 < get_or (set slots slot v) j 0
  put j e = subst (λ n. 0 < n) (sym (get_or-set_at slots slot j v 0 e within)) some

module _ (slots : List ℕ) (names : List (List ℕ)) (marked : HaveSlots slots names)
    (s : List ℕ) (empty : get_or slots (slot_of s (length slots)) 0 ≡ 0) where
  other : (name : List ℕ) → 0 < get_or slots (slot_of name (length slots)) 0 → (b : Bool) → bytes_eq name s ≡ b → b ≡ false
  other name some true same =
      let is : name ≡ s = (bytes_eq-Decides name s).0 same in
      let none = ap (λ n. get_or slots (slot_of n (length slots)) 0) is ∙ empty in
      absurd (omega (arith, some, none))
  other name some false same = refl

  pub unslotted : position (λ name. bytes_eq name s) names ≡ None
  unslotted = none_of s names (λ k d h. other (get_or names k d) (marked k d h) (bytes_eq (get_or names k d) s) refl)

-- the slots of an index's hashes are those of its names
pub marked_by : (slots : List ℕ) (names : List (List ℕ)) (places : List Place) → IsIndex names places
    → All (λ (p : Place). 0 < get_or slots (p.0 % length slots) 0) places → HaveSlots slots names
marked_by slots names places index marked =
    let named = λ (p : Place). get_or names p.1 [] in
    let is_marked = λ (name : List ℕ). 0 < get_or slots (slot_of name (length slots)) 0 in
    All-permutation is_marked (names_at names places) names (IsPermutation-sym names (names_at names places) index.whole)
    (λ k d h.
    let within : k < length places = subst (λ n. k < n) (length-map places named) h in
    let here = get_or-map named places k (0, 0) d within in
    subst is_marked (sym here)
    (subst (λ n. 0 < get_or slots (n % length slots) 0) (index.hashed k (0, 0) within) (marked k (0, 0) within)))
