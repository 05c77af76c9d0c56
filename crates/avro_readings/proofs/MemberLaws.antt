-- The member of a name, by its place.
use Rattle.std.proofs.Common.{◌≡◌, ℕ, zero, suc, ◌+◌, ◌<◌, List, [], ◌∷◌, Bool, true, false, cond, Some}
use Rattle.std.proofs.Common.{None, length, map, position, get_or, bytes_eq, refl, sym, ap, ◌∙◌, arith}
use Rattle.std.specs.List.{position_from}
use Rattle.std.proofs.lemmas.Iterator.Adapters.{position_from-zero}
use Rattle.std.proofs.lemmas.List.Quantifiers.{position-Some}
use Rattle.std.proofs.lemmas.Option.{none-some}
use Rattle.avro_resolve.specs.avro_schema.declared.node.Field.{Field}
use Rattle.avro_resolve.specs.avro_schema.declared.node.Node.{Node}
use Rattle.avro_resolve.specs.declared.obligations.Pair.{Pair}
use Rattle.avro_data.specs.View.{view, members_view}
use Rattle.avro_readings.proofs.Along.{Entry}
use Rattle.avro_readings.specs.Reads.{reads, named_read}

-- ---- the member at the place of a name

module _ (r w : List Node) (name : List ℕ) (q : Pair) where
  named_at : (es : List Entry) (k : ℕ) (e : Entry) → k < length es → e ≡ get_or es k e → bytes_eq e.0 name ≡ true
      → ((i : ℕ) → i < k → bytes_eq (get_or es i e).0 name ≡ false)
      → named_read r w name q (members_view es) ≡ reads r w q (view e.1)
  named_at [] k e within at is before = absurd (omega arith)
  named_at (f ∷ es) zero e within at is before =
      ap (λ (g : Entry). cond (bytes_eq g.0 name) (reads r w q (view g.1)) (named_read r w name q (members_view es))) (sym at)
      ∙ ap (λ b. cond b (reads r w q (view e.1)) (named_read r w name q (members_view es))) is
  named_at (f ∷ es) (suc k) e within at is before =
      ap (λ b. cond b (reads r w q (view f.1)) (named_read r w name q (members_view es))) (before 0 (omega arith))
      ∙ named_at es k e (omega arith) at is (λ i h. before (suc i) (omega arith))

  pub named_found : (es : List Entry) (k : ℕ) (e : Entry) → position (λ (m : Entry). bytes_eq m.0 name) es ≡ Some k → e ≡ get_or es k e
      → named_read r w name q (members_view es) ≡ reads r w q (view e.1)
  named_found es k e is at =
      let (within, here, before) = position-Some (λ (m : Entry). bytes_eq m.0 name) es k e is in
      named_at es k e within at (ap (λ (m : Entry). bytes_eq m.0 name) at ∙ here) before

  none_from : (es : List Entry) (n : ℕ) → position_from (λ (m : Entry). bytes_eq m.0 name) n es ≡ None
      → named_read r w name q (members_view es) ≡ None
  none_from [] n is = refl
  none_from (f ∷ es) n is = go (bytes_eq f.0 name) is (none_from es (n + 1))
    where
      go : (b : Bool) → cond b (Some n) (position_from (λ (m : Entry). bytes_eq m.0 name) (n + 1) es) ≡ None
          → (position_from (λ (m : Entry). bytes_eq m.0 name) (n + 1) es ≡ None → named_read r w name q (members_view es) ≡ None)
          → cond b (reads r w q (view f.1)) (named_read r w name q (members_view es)) ≡ None
      go true is later = absurd (none-some n (sym is))
      go false is later = later is

  pub named_none : (es : List Entry) → position (λ (m : Entry). bytes_eq m.0 name) es ≡ None
      → named_read r w name q (members_view es) ≡ None
  named_none es is = none_from es 0 (sym (position_from-zero (λ (m : Entry). bytes_eq m.0 name) es) ∙ is)

-- ---- the place of a name, by the names alone

place_mapped : {A : Type 0} (f : A → List ℕ) (name : List ℕ) (xs : List A) (n : ℕ)
    → position_from (λ s. bytes_eq s name) n (map f xs) ≡ position_from (λ x. bytes_eq (f x) name) n xs
place_mapped f name [] n = refl
place_mapped f name (x ∷ xs) n = ap (λ later. cond (bytes_eq (f x) name) (Some n) later) (place_mapped f name xs (n + 1))

pub same_place : (fs : List Field) (es : List Entry) (name : List ℕ) → map (λ (f : Field). f.name) fs ≡ map (λ (m : Entry). m.0) es
    → position (λ (f : Field). bytes_eq f.name name) fs ≡ position (λ (m : Entry). bytes_eq m.0 name) es
same_place fs es name same =
    position_from-zero (λ (f : Field). bytes_eq f.name name) fs
    ∙ sym (place_mapped (λ (f : Field). f.name) name fs 0)
    ∙ ap (position_from (λ s. bytes_eq s name) 0) same
    ∙ place_mapped (λ (m : Entry). m.0) name es 0
    ∙ sym (position_from-zero (λ (m : Entry). bytes_eq m.0 name) es)
