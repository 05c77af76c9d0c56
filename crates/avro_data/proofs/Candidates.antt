-- Whatever a round makes ready uses a type that the round before gave its sample.
use Rattle.std.proofs.Common.{◌≡◌, ℕ, suc, ◌+◌, ◌<◌, List, length, Bool, true, false, nat_le, cond, Contains}
use Rattle.std.proofs.Common.{Option, Some, None, IsSome, slice_get, refl, sym, ◌∙◌, ap, subst, arith}
use Rattle.std.specs.Option.{option_or}
use Rattle.std.specs.Global.{Vec}
use Rattle.std.proofs.lemmas.Bool.Decides.{nat_tests}
use Rattle.std.proofs.lemmas.Option.{slice_get_within}
use Rattle.avro_schema.specs.declared.node.NodeId.{NodeId}
use Rattle.avro_schema.specs.declared.node.Node.{Node}
use Rattle.avro_data.specs.declared.outline.Outline.{Outline}
use Rattle.avro_data.specs.declared.outline.Given.{Given}
use Rattle.avro_data.specs.Outlines.{outlined}
use Rattle.avro_data.specs.Users.{AreUsers, AreUsersOf}
use Rattle.avro_data.specs.Rounds.{by_round, by_table, AreNew, AreRounds, AreCandidates}
use Rattle.avro_data.proofs.OutlineLaws.{new_part}
use Rattle.avro_data.proofs.RoundLaws.{after_next}

none_in : (a b : Option Outline) → option_or a b ≡ None → b ≡ None
none_in None b e = e
none_in (Some x) b e = absurd (cc)

-- what had no sample in one round and has one in the next was given it in that
given_then : (m : ℕ) (q : Option (Option Given)) → by_round m q ≡ None → IsSome (by_round (suc m) q)
    → (o : Outline) × (q ≡ Some (Some (record { round = suc m; outline = o })))
given_then m None none some = absurd (cc)
given_then m (Some None) none some = absurd (cc)
given_then m (Some (Some g)) none some = go (nat_le g.round m) refl (nat_le g.round (suc m)) refl none some
  where
    go : (a : Bool) → nat_le g.round m ≡ a → (b : Bool) → nat_le g.round (suc m) ≡ b → cond a (Some g.outline) None ≡ None
        → IsSome (cond b (Some g.outline) None) → (o : Outline) × (Some (Some g) ≡ Some (Some (record { round = suc m; outline = o })))
    go true is b is_b none some = absurd (cc)
    go false is false is_b none some = absurd (cc)
    go false is true is_b none some =
        let same : g.round ≡ suc m = grind (arith, nat_tests) in
        (g.outline, λ d. Some (Some (record { round = same d; outline = g.outline })))

module _ (nodes : List Node) where
  pub candidates_are : (users : List (Vec NodeId)) → AreUsers nodes users → (t : List (Option Given)) (m : ℕ) → AreRounds nodes t (suc m)
      → (given found : List NodeId) → AreNew t (suc m) given → AreUsersOf users given found → AreCandidates nodes t (suc m) found
  candidates_are users are_users t m are given found new of i at some =
      let (n, is, (j, part)) = new_part (by_table t m) (by_table t (suc m)) (slice_get nodes i.index) none some in
      let (o, entry) = given_then m (slice_get t j.index) part.1 part.2 in
      let in_range : j.index < length users =
      let lt : j.index < length t = slice_get_within t j.index (Some (record { round = suc m; outline = o })) entry in
      let a = are.size in let b = are_users.size in omega arith in
      of j i (new j o entry) (are_users.each i n is j part.0 in_range)
    where
      none : outlined (by_table t m) (slice_get nodes i.index) ≡ None
      none =
          none_in (by_table t m i) (outlined (by_table t m) (slice_get nodes i.index))
          (sym (after_next nodes t (suc m) are m (omega arith) i) ∙ are.agree (suc m) (omega arith) i ∙ ap (by_round (suc m)) at)

  pub candidates_next : (users : List (Vec NodeId)) → AreUsers nodes users → (t : List (Option Given)) (m : ℕ) → AreRounds nodes t (m + 1)
      → (given found : List NodeId) → AreNew t (m + 1) given → AreUsersOf users given found → AreCandidates nodes t (m + 1) found
  candidates_next users are_users t m are given found new of =
      let one : suc m ≡ m + 1 = omega arith in
      subst (λ (n : ℕ). AreRounds nodes t n → AreNew t n given → AreCandidates nodes t n found) one
      (λ a b. candidates_are users are_users t m a given found b of) are new

  -- before the first round all types are candidates
  pub all_are : (t : List (Option Given)) (m : ℕ) → AreRounds nodes t m → (ids : List NodeId)
      → ((i : NodeId) → i.index < length nodes → Contains ids i) → AreCandidates nodes t m ids
  all_are t m are ids all i at some =
      all i (let lt : i.index < length t = slice_get_within t i.index None at in let a = are.size in omega arith)
