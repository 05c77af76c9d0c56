-- What was written so far, and then more.
use Rattle.std.proofs.Common.{◌≡◌, ◌+◌, ◌-◌, ◌≤◌, inl, inr, ℕ, List, [], ◌∷◌, ◌++◌, length, take, drop, sym, ap, subst, ◌∙◌}
use Rattle.std.proofs.Common.{arith, take_all, take-take, length-take, length-drop, take-append-drop, append-nil}
use Rattle.std.specs.Prelude.{Option, Some, None, Result, Ok, Err}
use Rattle.std.specs.List.{flat_map}
use Rattle.std.specs.Io.KnownBytes.{Appends}
use Rattle.std.proofs.KnownBytes.{Appends-trans}
use Rattle.std.proofs.lemmas.Grind.{flat_map-append}
use Rattle.std.proofs.lemmas.List.{append_assoc, drop-take}
use Rattle.reg_leader.specs.reg_records.Device.{all_interruptions_of, bytes_in, counted, counted_by, faults_of, inner_of, interruptions_of}
use Rattle.reg_leader.specs.reg_records.declared.device.Device.{Device}
use Rattle.reg_responses.specs.Writing.{AppendsFront, HasFront, HasWritten, IsLostSince, LosesWriter, Writes}

Appends-nothing : (known : Option (List ℕ)) → Appends known known []
Appends-nothing None = tt
Appends-nothing (Some bytes) = sym (append-nil bytes)

-- a writer that is lost later was lost since, where no fault was counted before
pub LosesWriter-later : {W : Type 0} (old mid new : Device W) → faults_of mid ≡ faults_of old → LosesWriter mid new → LosesWriter old new
LosesWriter-later old mid new same lost =
    elim lost [ inl faulted ↦ inl (faulted.0 ∙ ap counted same, faulted.1) | inr many ↦ inr (many.0 ∙ same, many.1) ]

pub IsLostSince-later : {W : Type 0} (old mid new : Device W) → faults_of mid ≡ faults_of old
    → counted_by 0 (all_interruptions_of old) ≤ all_interruptions_of mid → IsLostSince mid new → IsLostSince old new
IsLostSince-later old mid new same least lost =
    elim lost [ inl faulted ↦ inl (faulted ∙ ap counted same) | inr many ↦ inr (omega (arith, least, many)) ]

-- what stands whole before a front of more is a front with it
pub AppendsFront-then : (old mid new : Option (List ℕ)) (before text after whole : List ℕ) → whole ≡ before ++ (text ++ after)
    → Appends old mid before → AppendsFront mid new text → AppendsFront old new whole
AppendsFront-then old mid new before text after whole e written (front, rest, parts, appends) = (
  before ++ front,
  rest ++ after,
  e
      ∙ ap (λ b. before ++ (b ++ after)) parts
      ∙ ap (λ b. before ++ b) (append_assoc front rest after)
      ∙ sym (append_assoc before front (rest ++ after)),
  Appends-trans old mid new before front written appends,
)

-- a front of a part, after what was written before it
pub HasFront-then : {W : Type 0} (contents : W → Option (List ℕ)) (old mid new : Device W) (before text after whole : List ℕ)
    → whole ≡ before ++ (text ++ after) → HasWritten contents old mid before
    → HasFront contents mid new text → HasFront contents old new whole
HasFront-then contents old mid new before text after whole e written lost = (
  LosesWriter-later old mid new written.1 lost.0,
  AppendsFront-then (bytes_in contents old) (bytes_in contents mid) (bytes_in contents new) before text after whole e written.0 lost.1,
  IsLostSince-later old mid new written.1 written.3 lost.2,
)

-- a front of the first part is one of both
pub HasFront-more : {W : Type 0} (contents : W → Option (List ℕ)) (old new : Device W) (first second : List ℕ)
    → HasFront contents old new first → HasFront contents old new (first ++ second)
HasFront-more contents old new first second (lost, (front, rest, parts, appends), since) =
    (lost, (front, rest ++ second, ap (λ b. b ++ second) parts ∙ append_assoc front rest second, appends), since)

-- the second part, after the first
pub Writes-then : {W A E : Type 0} (contents : W → Option (List ℕ)) (old mid new : Device W) (first second : List ℕ) (result : Result A E)
    → HasWritten contents old mid first → Writes contents mid new second result → Writes contents old new (first ++ second) result
Writes-then contents old mid new first second (Ok value) before after = (
  Appends-trans (bytes_in contents old) (bytes_in contents mid) (bytes_in contents new) first second before.0 after.0,
  after.1 ∙ before.1,
  after.2,
  omega (arith, before.3, after.3),
)
Writes-then contents old mid new first second (Err e) before after =
    HasFront-then contents old mid new first second [] (first ++ second) (ap (λ b. first ++ b) (sym (append-nil second))) before after

-- a flush writes nothing more
pub Writes-flushed : {W A E : Type 0} (contents : W → Option (List ℕ)) (old mid new : Device W) (text : List ℕ) (result : Result A E)
    → HasWritten contents old mid text → Writes contents mid new [] result → Writes contents old new text result
Writes-flushed contents old mid new text result before after =
    subst (λ t. Writes contents old new t result) (append-nil text) (Writes-then contents old mid new text [] result before after)

-- counts that begin anew write nothing
pub HasWritten-begun : {W : Type 0} (contents : W → Option (List ℕ)) (old new : Device W) → inner_of new ≡ inner_of old
    → faults_of new ≡ faults_of old → interruptions_of new ≡ 0
    → all_interruptions_of new ≡ all_interruptions_of old → HasWritten contents old new []
HasWritten-begun contents old new inner faults interruptions all = (
  subst (λ w. Appends (contents old.inner) (contents w) []) (sym inner) (Appends-nothing (contents old.inner)),
  faults,
  interruptions,
  omega (arith, all),
)

-- what stands for the elements up to one, for that one, and for those after it
pub flat_map-split : {X : Type 0} (f : X → List ℕ) (xs : List X) (i : ℕ) (x : X) → take (i + 1) xs ≡ take i xs ++ x ∷ []
    → flat_map f xs ≡ flat_map f (take i xs) ++ (f x ++ flat_map f (drop (i + 1) xs))
flat_map-split f xs i x next =
    ap (flat_map f) (sym (take-append-drop (i + 1) xs) ∙ ap (λ front. front ++ drop (i + 1) xs) next)
    ∙ flat_map-append f (take i xs ++ x ∷ []) (drop (i + 1) xs)
    ∙ ap (λ front. front ++ flat_map f (drop (i + 1) xs))
    (flat_map-append f (take i xs) (x ∷ []) ∙ ap (λ last. flat_map f (take i xs) ++ last) (append-nil (f x)))
    ∙ append_assoc (flat_map f (take i xs)) (f x) (flat_map f (drop (i + 1) xs))

-- the first n of what stands from a place on
pub take-rest : (xs : List ℕ) (at n : ℕ) → at ≤ length xs → n ≤ length (take (length xs - at) (drop at xs))
    → take (at + n) xs ≡ take at xs ++ take n (take (length xs - at) (drop at xs))
take-rest xs at n within fits =
    let whole : take (length xs - at) (drop at xs) ≡ drop at xs =
    take_all (length xs - at) (drop at xs) (omega (arith, length-drop at xs)) in
    sym (take-append-drop at (take (at + n) xs))
    ∙ ap (λ front. front ++ drop at (take (at + n) xs)) (take-take at (at + n) xs (omega arith))
    ∙ ap (λ rest. take at xs ++ rest) (drop-take at n xs ∙ ap (take n) (sym whole))

pub fits-rest : (xs : List ℕ) (at n : ℕ) → at ≤ length xs → n ≤ length (take (length xs - at) (drop at xs)) → at + n ≤ length xs
fits-rest xs at n within fits = omega (arith, length-take (length xs - at) (drop at xs), length-drop at xs)
