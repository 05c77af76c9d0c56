-- Private: which pairs were seen.
use Rattle.std.specs.Prelude.{◌≡◌, ℕ, ◌/◌, ◌%◌, List, Bool, false, ◌&&◌, ◌||◌, ◌==◌, cond}
use Rattle.std.specs.Prelude.{Option, Some, None, unwrap_or, slice_get, slice_set}
use Rattle.std.specs.Int.{bit_at}
use Rattle.std.specs.Ordering.{nat_cmp, ordering_then}
use Rattle.std.specs.BTreeMap.{BTreeMap, get}
use Rattle.avro_resolve.specs.declared.obligations.Pair.{Pair}
use Rattle.avro_resolve.specs.declared.firsts.Known.{Known}
use Rattle.avro_resolve.specs.declared.firsts.Known.TheVariants.{New, Same, Other}
use Rattle.avro_resolve.specs.declared.grid.Grid.{Grid}
use Rattle.avro_resolve.specs.declared.seen.Further.{Further}
use Rattle.avro_resolve.specs.declared.seen.SeenPairs.{SeenPairs}

abbrev pub same_numbers : ℕ → ℕ → ℕ → ℕ → Bool
same_numbers i j k l = (i == k) && (j == l)

abbrev pub same_pair : Pair → Pair → Bool
same_pair p q = same_numbers p.reader.index p.writer.index q.reader.index q.writer.index

-- ---- the first that came with each

-- what is known of a type beside another, by the first that came with the other
abbrev pub known : Option (Option ℕ) → ℕ → Known
known None j = Other
known (Some None) j = New
known (Some (Some first)) j = cond (first == j) Same Other

abbrev pub with_first : Known → ℕ → ℕ → List (Option ℕ) → List (Option ℕ)
with_first New i j firsts = slice_set firsts i (Some j)
with_first _ i j firsts = firsts

abbrev pub is_beside : Bool → ℕ → Option (Option ℕ) → Bool
is_beside other j None = other
is_beside other j (Some None) = false
is_beside other j (Some (Some first)) = (first == j) || other

-- whether i and j came together: j came first with i, or they are among the others
abbrev pub are_joined : List (Option ℕ) → (ℕ → ℕ → Bool) → ℕ → ℕ → Bool
are_joined firsts others i j = is_beside (others i j) j (slice_get firsts i)

-- the others have only pairs of a type that came with another before
abbrev pub IsFairOver : List (Option ℕ) → (ℕ → ℕ → Bool) → Type 0
IsFairOver firsts others = (i j : ℕ) → slice_get firsts i ≡ Some None → others i j ≡ false

-- ---- pairs by the bits of words

abbrev pub word_at : BTreeMap (ℕ × ℕ) ℕ → ℕ → ℕ → ℕ
word_at words i k = unwrap_or (get (λ a b. ordering_then (nat_cmp a.0 b.0) (nat_cmp a.1 b.1)) words (i, k)) 0

abbrev pub in_grid : Grid → ℕ → ℕ → Bool
in_grid grid i j = bit_at (word_at grid.words i (j / 64)) (j % 64) == 1

-- ---- the further pairs, of a reader's type i and a writer's type j

abbrev pub is_further : Further → ℕ → ℕ → Bool
is_further f i j = are_joined f.first.of.items (λ b a. in_grid f.others a b) j i

abbrev pub IsFairFurther : Further → Type 0
IsFairFurther f = IsFairOver f.first.of.items (λ b a. in_grid f.others a b)

abbrev pub are_further : Option Further → ℕ → ℕ → Bool
are_further None i j = false
are_further (Some f) i j = is_further f i j

abbrev pub AreFair : Option Further → Type 0
AreFair None = Unit {0}
AreFair (Some f) = IsFairFurther f

-- ---- all

abbrev pub is_seen : SeenPairs → Pair → Bool
is_seen seen p = are_joined seen.first.of.items (are_further seen.further) p.reader.index p.writer.index

pub record IsFair (seen : SeenPairs) : Type 0 where
  pub first : IsFairOver seen.first.of.items (are_further seen.further)
  pub further : AreFair seen.further
