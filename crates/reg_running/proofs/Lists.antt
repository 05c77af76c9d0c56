-- Numbers, beginnings of lists, and the deeds of a node.
use Rattle.std.proofs.Common.{◌≡◌, inl, inr, ℕ, ◌+◌, ◌<◌, ◌≤◌, true, false, if◌then◌else◌, List, [], ◌∷◌, ◌++◌}
use Rattle.std.proofs.Common.{length, take, drop, refl, sym, ap, ◌∙◌, append_assoc, length-append, arith}
use Rattle.std.specs.Bool.{nat_le}
use Rattle.std.proofs.lemmas.Bool.{false≢true}
use Rattle.std.proofs.lemmas.Bool.Decides.{eqb_tells, leb_tells}
use Rattle.std.proofs.lemmas.List.{append-nil, take-append-drop, take-take, take_at}
use mathlib.Core.List.{IsPrefix}
use Rattle.reg_running.specs.Running.{Deed}
use Rattle.reg_running.specs.Woven.{ByNode, Done, deeds_of}

pub at_most : (m n : ℕ) → nat_le m n ≡ true → m ≤ n
at_most m n h = elim (leb_tells m n) [ inl low ↦ low.1 | inr high ↦ absurd (false≢true (sym high.0 ∙ h)) ]

pub beyond : (m n : ℕ) → nat_le m n ≡ false → n < m
beyond m n h = elim (leb_tells m n) [ inl low ↦ absurd (false≢true (sym h ∙ low.0)) | inr high ↦ high.1 ]

pub within : (m n : ℕ) → m ≤ n → nat_le m n ≡ true
within m n h = elim (leb_tells m n) [ inl low ↦ low.0 | inr high ↦ absurd (omega (arith, high.1, h)) ]

pub prefix_trans : {A : Type 0} (xs ys zs : List A) → IsPrefix xs ys → IsPrefix ys zs → IsPrefix xs zs
prefix_trans xs ys zs p q = (p.0 ++ q.0, sym (append_assoc xs p.0 q.0) ∙ (ap (λ w. w ++ q.0) p.1 ∙ q.1))

nothing : {A : Type 0} (rest : List A) → length rest ≤ 0 → rest ≡ []
nothing [] h = refl
nothing (x ∷ xs) h = absurd (omega arith)

pub prefix_length : {A : Type 0} (xs ys : List A) (p : IsPrefix xs ys) → length xs + length p.0 ≡ length ys
prefix_length xs ys p = sym (length-append xs p.0) ∙ ap (λ w. length w) p.1

-- a beginning that is as long is the whole
pub prefix_whole : {A : Type 0} (xs ys : List A) → IsPrefix xs ys → length ys ≤ length xs → xs ≡ ys
prefix_whole xs ys p h =
    sym (append-nil xs) ∙ (ap (λ w. xs ++ w) (sym (nothing p.0 (omega (arith, prefix_length xs ys p, h)))) ∙ p.1)

-- of two beginnings of a list the shorter begins the longer
pub prefix_shorter : {A : Type 0} (xs ys zs : List A) → IsPrefix xs zs → IsPrefix ys zs → length xs ≤ length ys → IsPrefix xs ys
prefix_shorter xs ys zs p q h =
    let front : take (length ys) zs ≡ ys = ap (take (length ys)) (sym q.1) ∙ take_at ys q.0 (length ys) refl in
    let start : take (length xs) zs ≡ xs = ap (take (length xs)) (sym p.1) ∙ take_at xs p.0 (length xs) refl in
    let is : take (length xs) ys ≡ xs = ap (take (length xs)) (sym front) ∙ (take-take (length xs) (length ys) zs h ∙ start) in (
      drop (length xs) ys,
      ap (λ w. w ++ drop (length xs) ys) (sym is) ∙ take-append-drop (length xs) ys,
    )

-- the deeds of that node, and of others
pub own_deeds : (node i : ℕ) (deed : Deed) (done : List Done) → node ≡ i → deeds_of i (ByNode node deed ∷ done) ≡ deed ∷ deeds_of i done
own_deeds node i deed done e = elim (eqb_tells node i) [
  | inl same ↦ ap (λ b. if b then deed ∷ deeds_of i done else deeds_of i done) same.0
  | inr other ↦ absurd (other.1 e)
]

pub other_deeds : (node i : ℕ) (deed : Deed) (done : List Done) → (node ≡ i → ⊥) → deeds_of i (ByNode node deed ∷ done) ≡ deeds_of i done
other_deeds node i deed done apart = elim (eqb_tells node i) [
  | inl same ↦ absurd (apart same.1)
  | inr other ↦ ap (λ b. if b then deed ∷ deeds_of i done else deeds_of i done) other.0
]
