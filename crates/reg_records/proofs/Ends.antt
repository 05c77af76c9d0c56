-- Where a reader's text ends, as its bytes are given.
use Rattle.std.proofs.Common.{◌≡◌, ◌⊎◌, ◌+◌, ℕ, List, Some, None, refl, sym, ap, ◌∙◌, inl, inr, arith, length, length-append}
use Rattle.std.specs.Prelude.{Option, option_map}
use Rattle.std.specs.Io.KnownBytes.{Consumes, Keeps}
use Rattle.reg_records.specs.Device.{KeepsEnd, bytes_in, counted_by, inner_of, place_of}
use Rattle.reg_records.specs.declared.device.Device.{Device}

-- the end of known bytes that begin at a place
abbrev end_at : Option (List ℕ) → ℕ → Option ℕ
end_at known place = option_map (λ bytes. counted_by (length bytes) place) known

end-moved : (old new : Option (List ℕ)) (bytes : List ℕ) (from to : ℕ)
    → Consumes old new bytes → counted_by 0 to ≡ counted_by (length bytes) from
    → (end_at old from ≡ None) ⊎ (end_at new to ≡ end_at old from)
end-moved None new bytes from to took moved = inl refl
end-moved (Some x) None bytes from to took moved = absurd took
end-moved (Some x) (Some y) bytes from to took moved =
    inr (ap Some (same (length x) (length y) (length bytes) (ap length took ∙ length-append bytes y) moved))
  where
    same : (all left given : ℕ) → all ≡ given + left → counted_by 0 to ≡ counted_by given from → counted_by left to ≡ counted_by all from
    same all left given e moved = omega (arith, e, moved)

end-kept : (old new : Option (List ℕ)) (from to : ℕ) → Keeps old new
    → to ≡ from → (end_at old from ≡ None) ⊎ (end_at new to ≡ end_at old from)
end-kept None new from to kept same = inl refl
end-kept (Some x) None from to kept same = absurd kept
end-kept (Some x) (Some y) from to kept same =
    inr (ap Some (ap (λ bytes. counted_by (length bytes) to) kept ∙ ap (λ p. counted_by (length x) p) same))

-- the same bytes at the same place
pub end_begun : {R : Type 0} (remaining : R → Option (List ℕ)) (old new : Device R)
    → inner_of new ≡ inner_of old → place_of new ≡ place_of old → KeepsEnd remaining old new
end_begun remaining old new inner place =
    inr (ap (λ r. option_map (λ bytes. counted_by (length bytes) (place_of new)) (remaining r)) inner
    ∙ ap (λ p. option_map (λ bytes. counted_by (length bytes) p) (bytes_in remaining old)) place)

-- after bytes that were given in several reads
pub end_taken : {R : Type 0} (remaining : R → Option (List ℕ)) (old new : Device R) (bytes : List ℕ)
    → Consumes (bytes_in remaining old) (bytes_in remaining new) bytes
    → counted_by 0 (place_of new) ≡ counted_by (length bytes) (place_of old) → KeepsEnd remaining old new
end_taken remaining old new bytes took moved =
    end-moved (bytes_in remaining old) (bytes_in remaining new) bytes (place_of old) (place_of new) took moved

-- after a read that gave bytes
pub end_read : {R : Type 0} (remaining : R → Option (List ℕ)) (old new : Device R) (bytes : List ℕ) (n : ℕ)
    → Consumes (bytes_in remaining old) (bytes_in remaining new) bytes → length bytes ≡ n
    → place_of new ≡ counted_by n (place_of old) → KeepsEnd remaining old new
end_read remaining old new bytes n took size moved = end_taken remaining old new bytes took (omega (arith, size, moved))

-- and after one that gave none
pub end_kept : {R : Type 0} (remaining : R → Option (List ℕ)) (old new : Device R)
    → Keeps (bytes_in remaining old) (bytes_in remaining new) → place_of new ≡ place_of old → KeepsEnd remaining old new
end_kept remaining old new kept same = end-kept (bytes_in remaining old) (bytes_in remaining new) (place_of old) (place_of new) kept same

pub ends_then : {R : Type 0} (remaining : R → Option (List ℕ)) (old mid new : Device R)
    → KeepsEnd remaining old mid → KeepsEnd remaining mid new → KeepsEnd remaining old new
ends_then remaining old mid new first second = elim first [
  | inl unknown ↦ inl unknown
  | inr same ↦ elim second [ inl unknown ↦ inl (sym same ∙ unknown) | inr then ↦ inr (then ∙ same) ]
]
