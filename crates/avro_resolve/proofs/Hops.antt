-- Where hops lead: what the obligations of a pair say of one hop, and that a trail is what its hops lead to.
use Rattle.std.proofs.Common.{◌≡◌, ◌≢◌, ◌↔◌, IsTrue, is_some, find, filter, length, drop, get_or, add-one, drop-cons, ℕ}
use Rattle.std.proofs.Common.{zero, suc, ◌+◌, ◌<◌, List, [], ◌∷◌, Bool, true, false, Option, Some, None, Result, Ok, Err}
use Rattle.std.proofs.Common.{option_map, option_and_then, filter_map, map, slice_get, cond, eqb, refl, sym, ◌∙◌, ap}
use Rattle.std.proofs.Common.{subst, arith}
use Rattle.std.specs.List.{enumerate_from, cons_option}
use Rattle.std.specs.Option.{option_map_or}
use Rattle.std.proofs.lemmas.Bool.{eqb-true, eq-eqb}
use Rattle.std.proofs.lemmas.Slice.Eq.{bytes_eq-Decides}
use Rattle.avro_schema.specs.declared.node.NodeId.{NodeId}
use Rattle.avro_schema.specs.declared.node.Field.{Field}
use Rattle.avro_schema.specs.declared.node.Node.{Node}
use Rattle.avro_schema.specs.Sound.{IsSound}
use Rattle.avro_resolve.specs.declared.trail.Hop.{Hop}
use Rattle.avro_resolve.specs.declared.trail.Hop.TheVariants as hop
use Rattle.avro_resolve.specs.declared.trail.ClashKind.{ClashKind}
use Rattle.avro_resolve.specs.declared.trail.ClashKind.TheVariants as clash
use Rattle.avro_resolve.specs.declared.trail.Trail.{Trail}
use Rattle.avro_resolve.specs.declared.obligations.Pair.{Pair}
use Rattle.avro_resolve.specs.declared.obligations.Obligation.{Obligation}
use Rattle.avro_resolve.specs.Pairing.{partner, lacks_value}
use Rattle.avro_resolve.specs.Table.{to_fields, clash_of, obligations}
use Rattle.avro_resolve.proofs.Rows.{owed_in}
use Rattle.avro_resolve.specs.Trails.{roots, trail_from, IsTrail, HopsNameOne}
use Rattle.avro_resolve.specs.Follow.{same_hop, owed_by, pair_by}
use Rattle.avro_resolve.proofs.Rows.{to_writer_branch, to_writer_branches, to_field}
use Rattle.avro_resolve.proofs.Rows.{to_partner, IsWithin}
use Rattle.avro_resolve.proofs.Rows.{obligations_within, hops_name_one}

-- ---- a writer's branches

differ : (a b : ℕ) (t : Bool) → eqb a b ≡ t → a ≢ b → eqb a b ≡ false
differ a b true e h = absurd (h (eqb-true a b e))
differ a b false e h = e

numbered : (i : NodeId) (n : ℕ) (bs : List NodeId) (k : ℕ)
    → pair_by (map (to_writer_branch i) (enumerate_from n bs)) (hop.Writer (n + k))
    ≡ option_map (λ b. record { reader = i; writer = b }) (slice_get bs k)
numbered i n [] k = refl
numbered i n (b ∷ bs) zero =
    ap
    (λ t. option_map (λ (o : Obligation). o.pair) (
    cond t (Some (to_writer_branch i (n, b))) (owed_by (map (to_writer_branch i) (enumerate_from (n + 1) bs)) (hop.Writer (n + 0)))))
    (eq-eqb (n + 0) n (omega arith))
numbered i n (b ∷ bs) (suc k) =
    ap
    (λ t.
    option_map (λ (o : Obligation). o.pair)
    (cond t (Some (to_writer_branch i (n, b)))
    (owed_by (map (to_writer_branch i) (enumerate_from (n + 1) bs)) (hop.Writer (n + suc k)))))
    (differ (n + suc k) n (eqb (n + suc k) n) refl (omega arith))
    ∙ ap (λ m. pair_by (map (to_writer_branch i) (enumerate_from (n + 1) bs)) (hop.Writer m))
    (let e : n + suc k ≡ n + 1 + k = omega arith in e)
    ∙ numbered i (n + 1) bs k

pub of_branch : (i : NodeId) (bs : List NodeId) (k : ℕ)
    → pair_by (to_writer_branches i bs) (hop.Writer k) ≡ option_map (λ b. record { reader = i; writer = b }) (slice_get bs k)
of_branch i bs k = ap (λ m. pair_by (to_writer_branches i bs) (hop.Writer m)) (let e : k ≡ 0 + k = omega arith in e) ∙ numbered i 0 bs k

no_writer : (h : Hop) (n : ℕ) → ((x : ℕ) → h ≡ hop.Writer x → ⊥) → same_hop h (hop.Writer n) ≡ false
no_writer (hop.Writer k) n other = absurd (other k refl)
no_writer _ n other = refl

other_than_branch : (i : NodeId) (n : ℕ) (bs : List NodeId) (h : Hop) → ((x : ℕ) → h ≡ hop.Writer x → ⊥)
    → owed_by (map (to_writer_branch i) (enumerate_from n bs)) h ≡ None
other_than_branch i n [] h other = refl
other_than_branch i n (b ∷ bs) h other =
    ap (λ t. cond t (Some (to_writer_branch i (n, b))) (owed_by (map (to_writer_branch i) (enumerate_from (n + 1) bs)) h))
    (no_writer h n other)
    ∙ other_than_branch i (n + 1) bs h other

pub of_no_branch : (i : NodeId) (bs : List NodeId) (h : Hop) → ((x : ℕ) → h ≡ hop.Writer x → ⊥) → None ≡ pair_by (to_writer_branches i bs) h
of_no_branch i bs h other = sym (ap (option_map (λ (o : Obligation). o.pair)) (other_than_branch i 0 bs h other))

-- ---- a reader's fields

no_field : (h : Hop) (s : List ℕ) → ((x : List ℕ) → h ≡ hop.Field x → ⊥) → same_hop h (hop.Field s) ≡ false
no_field (hop.Field a) s other = absurd (other a refl)
no_field _ s other = refl

skip_field : (h : Hop) (f : Field) (p : Option Field) (os : List Obligation)
    → ((x : List ℕ) → h ≡ hop.Field x → ⊥) → owed_by (cons_option (option_map (to_field f) p) os) h ≡ owed_by os h
skip_field h f None os other = refl
skip_field h f (Some g) os other = ap (λ t. cond t (Some (to_field f g)) (owed_by os h)) (no_field h f.name other)

other_than_field : (gs fs : List Field) (h : Hop) → ((x : List ℕ) → h ≡ hop.Field x → ⊥) → owed_by (filter_map (to_partner gs) fs) h ≡ None
other_than_field gs [] h other = refl
other_than_field gs (f ∷ fs) h other = skip_field h f (partner gs f) _ other ∙ other_than_field gs fs h other

pub of_no_field : (gs fs : List Field) (h : Hop) → ((x : List ℕ) → h ≡ hop.Field x → ⊥) → None ≡ pair_by (filter_map (to_partner gs) fs) h
of_no_field gs fs h other = sym (ap (option_map (λ (o : Obligation). o.pair)) (other_than_field gs fs h other))

-- ---- the hops of obligations, by their numbers

-- the hop of the obligation of that number
abbrev pub hop_in : List Obligation → ℕ → Option Hop
hop_in os k = option_map (λ o. o.hop) (slice_get os k)

pub hop_below : (os : List Obligation) (k : ℕ) → k < length os → hop_in os k ≡ None → ⊥
hop_below [] k h e = omega arith
hop_below (o ∷ os) zero h e = cc
hop_below (o ∷ os) (suc k) h e = hop_below os k (omega arith) e

branch_hop : (i : NodeId) (n : ℕ) (bs : List NodeId) (k : ℕ) → k < length (map (to_writer_branch i) (enumerate_from n bs))
    → hop_in (map (to_writer_branch i) (enumerate_from n bs)) k ≡ Some (hop.Writer (n + k))
branch_hop i n [] k h = absurd (omega arith)
branch_hop i n (b ∷ bs) zero h = ap (λ m. Some (hop.Writer m)) (let e : n ≡ n + 0 = omega arith in e)
branch_hop i n (b ∷ bs) (suc k) h =
    branch_hop i (n + 1) bs k (omega arith) ∙ ap (λ m. Some (hop.Writer m)) (let e : n + 1 + k ≡ n + suc k = omega arith in e)

pub hop_of_branch : (i : NodeId) (bs : List NodeId) (k : ℕ) → k < length (to_writer_branches i bs)
    → hop_in (to_writer_branches i bs) k ≡ Some (hop.Writer k)
hop_of_branch i bs k h = branch_hop i 0 bs k h ∙ ap (λ m. Some (hop.Writer m)) (let e : 0 + k ≡ k = omega arith in e)

hop_of_paired : (gs fs : List Field) (k : ℕ)
    → hop_in (filter_map (to_partner gs) fs) k ≡ option_map (λ f. hop.Field f.name) (slice_get (filter (λ f. is_some (partner gs f)) fs) k)
hop_of_paired gs [] k = refl
hop_of_paired gs (f ∷ fs) k = go (partner gs f) k (hop_of_paired gs fs)
  where
    go : (p : Option Field) (k : ℕ)
        → ((k : ℕ)
        → hop_in (filter_map (to_partner gs) fs) k
        ≡ option_map (λ f. hop.Field f.name) (slice_get (filter (λ f. is_some (partner gs f)) fs) k))
        → hop_in (cons_option (option_map (to_field f) p) (filter_map (to_partner gs) fs)) k
        ≡ option_map (λ f. hop.Field f.name)
        (slice_get (cond (is_some p) (f ∷ filter (λ f. is_some (partner gs f)) fs) (filter (λ f. is_some (partner gs f)) fs)) k)
    go None k rest = rest k
    go (Some g) zero rest = refl
    go (Some g) (suc k) rest = rest k

-- where there is an obligation, no field lacks a value
abbrev pub unless_lacking : Option Field → Result (List Obligation) ClashKind → Result (List Obligation) ClashKind
unless_lacking f o = option_map_or (λ g. Err (clash.ReaderFieldMissingDefaultValue g.name)) f o

none_lacks : (o : Option Field) (os : List Obligation) (k : ℕ)
    → k < length (owed_in (unless_lacking o (Ok os))) → owed_in (unless_lacking o (Ok os)) ≡ os
none_lacks None os k h = refl
none_lacks (Some f) os k h = absurd (omega arith)

pub hop_of_field : (gs fs : List Field) (k : ℕ) → k < length (owed_in (to_fields fs gs))
    → hop_in (owed_in (to_fields fs gs)) k ≡ option_map (λ f. hop.Field f.name) (slice_get (filter (λ f. is_some (partner gs f)) fs) k)
hop_of_field gs fs k h =
    ap (λ os. hop_in os k) (none_lacks (find (lacks_value gs) fs) (filter_map (to_partner gs) fs) k h) ∙ hop_of_paired gs fs k

-- ---- one hop names one obligation

same_hop-≡ : (a b : Hop) → same_hop a b ≡ true → a ≡ b
same_hop-≡ (hop.Field a) (hop.Field b) h = ap hop.Field ((bytes_eq-Decides a b).0 h)
same_hop-≡ hop.Items hop.Items h = refl
same_hop-≡ hop.Values hop.Values h = refl
same_hop-≡ (hop.Writer a) (hop.Writer b) h = ap hop.Writer (eqb-true a b h)
same_hop-≡ (hop.Reader a) (hop.Reader b) h = ap hop.Reader (eqb-true a b h)
same_hop-≡ _ _ h = cc

same_hop_itself : (h : Hop) → same_hop h h ≡ true
same_hop_itself (hop.Field a) = (bytes_eq-Decides a a).1 refl
same_hop_itself hop.Items = refl
same_hop_itself hop.Values = refl
same_hop_itself (hop.Writer k) = eq-eqb k k refl
same_hop_itself (hop.Reader k) = eq-eqb k k refl

-- what a hop names is among the obligations
owed_at : (h : Hop) (os : List Obligation) (o : Obligation) → owed_by os h ≡ Some o → (k : ℕ) × (slice_get os k ≡ Some o) × (h ≡ o.hop)
owed_at h [] o e = cc
owed_at h (x ∷ os) o e = go (same_hop h x.hop) refl (owed_at h os o)
  where
    go : (b : Bool) → same_hop h x.hop ≡ b → (owed_by os h ≡ Some o → (k : ℕ) × (slice_get os k ≡ Some o) × (h ≡ o.hop))
        → (k : ℕ) × (slice_get (x ∷ os) k ≡ Some o) × (h ≡ o.hop)
    go true same ih =
        let is : Some x ≡ Some o = subst (λ b. cond b (Some x) (owed_by os h) ≡ Some o) same e in
        let one : x ≡ o = cc in
        (0, is, same_hop-≡ h x.hop same ∙ ap (λ (y : Obligation). y.hop) one)
    go false same ih = let (k, at, is) = ih (subst (λ b. cond b (Some x) (owed_by os h) ≡ Some o) same e) in (suc k, at, is)

-- an obligation's hop names some obligation
owed_some : (os : List Obligation) (k : ℕ) (o : Obligation) → slice_get os k ≡ Some o → (x : Obligation) × (owed_by os o.hop ≡ Some x)
owed_some [] k o e = cc
owed_some (y ∷ os) zero o e =
    let one : y ≡ o = cc in
    (y, ap (λ t. cond t (Some y) (owed_by os o.hop)) (ap (λ (z : Obligation). same_hop o.hop z.hop) one ∙ same_hop_itself o.hop))
owed_some (y ∷ os) (suc k) o e = go (same_hop o.hop y.hop) refl (owed_some os k o e)
  where
    go : (b : Bool) → same_hop o.hop y.hop ≡ b → (x : Obligation) × (owed_by os o.hop ≡ Some x)
        → (x : Obligation) × (owed_by (y ∷ os) o.hop ≡ Some x)
    go true same ih = (y, ap (λ t. cond t (Some y) (owed_by os o.hop)) same)
    go false same ih = let (x, is) = ih in (x, ap (λ t. cond t (Some y) (owed_by os o.hop)) same ∙ is)

module _ (r w : List Node) (once : HopsNameOne r w) where
  -- and that is the obligation itself
  owed_itself : (p : Pair) (k : ℕ) (o : Obligation) → slice_get (obligations r w p) k ≡ Some o
      → pair_by (obligations r w p) o.hop ≡ Some o.pair
  owed_itself p k o e =
      let (x, is) = owed_some (obligations r w p) k o e in
      let (l, at, same) = owed_at o.hop (obligations r w p) x is in
      let one : k ≡ l = once p k l o x e at same in
      let two : Some o ≡ Some x = sym e ∙ ap (slice_get (obligations r w p)) one ∙ at in
      let three : o ≡ x = cc in
      ap (option_map (λ (y : Obligation). y.pair)) is ∙ ap (λ (y : Obligation). Some y.pair) (sym three)

-- ---- hops in a row

abbrev pub end_at : ClashKind → Trail
end_at c = record { hops = []; kind = c }

abbrev pub after_hop : Hop → Trail → Trail
after_hop h t = record t { hops = h ∷ t.hops }

module _ (r w : List Node) where
  -- the clash at the end of these hops
  abbrev pub clash_after : Pair → List Hop → Option ClashKind
  clash_after p [] = clash_of r w p
  clash_after p (h ∷ hs) = option_and_then (λ q. clash_after q hs) (pair_by (obligations r w p) h)

module _ (r w : List Node) (once : HopsNameOne r w) where
  ends : (o : Option ClashKind) (t : Trail) → option_map end_at o ≡ Some t → (t.hops ≡ []) × (o ≡ Some t.kind)
  ends None t e = cc
  ends (Some c) t e = let same : end_at c ≡ t = cc in (sym (ap (λ (u : Trail). u.hops) same), ap (λ (u : Trail). Some u.kind) same)

  split : (h : Hop) (o : Option Trail) (t : Trail) → option_map (after_hop h) o ≡ Some t → (u : Trail) × (o ≡ Some u) × (t ≡ after_hop h u)
  split h None t e = cc
  split h (Some u) t e = (u, refl, cc)

  -- a trail along numbers is one by its hops
  follows : (ks : List ℕ) (p : Pair) (t : Trail) → trail_from r w p ks ≡ Some t → clash_after r w p t.hops ≡ Some t.kind
  follows [] p t e = let q = ends (clash_of r w p) t e in ap (clash_after r w p) q.0 ∙ q.1
  follows (k ∷ ks) p t e = through (slice_get (obligations r w p) k) refl (λ o u f. follows ks o.pair u f)
    where
      through : (q : Option Obligation) → slice_get (obligations r w p) k ≡ q
          → ((o : Obligation) (u : Trail) → trail_from r w o.pair ks ≡ Some u → clash_after r w o.pair u.hops ≡ Some u.kind)
          → clash_after r w p t.hops ≡ Some t.kind
      through None found ih =
          let no : None ≡ Some t =
          subst (λ q. option_and_then (λ o. option_map (after_hop o.hop) (trail_from r w o.pair ks)) q ≡ Some t) found e in
          cc
      through (Some o) found ih =
          let (u, is_u, is_t) = split o.hop (trail_from r w o.pair ks) t
          (subst (λ q. option_and_then (λ o. option_map (after_hop o.hop) (trail_from r w o.pair ks)) q ≡ Some t) found e) in
          ap (λ (v : Trail). clash_after r w p v.hops) is_t
          ∙ ap (option_and_then (λ q. clash_after r w q u.hops)) (owed_itself r w once p k o found)
          ∙ ih o u is_u
          ∙ ap (λ (v : Trail). Some v.kind) (sym is_t)

-- hops that lead to a clash are those of a trail
is_followed : (r w : List Node) (hs : List Hop) (p : Pair) (c : ClashKind) → clash_after r w p hs ≡ Some c
    → (ks : List ℕ) × (trail_from r w p ks ≡ Some (record { hops = hs; kind = c }))
is_followed r w [] p c e = ([], ap (option_map end_at) e)
is_followed r w (h ∷ hs) p c e = through (owed_by (obligations r w p) h) refl (λ o f. is_followed r w hs o.pair c f)
  where
    onward : Option Obligation → Option ClashKind
    onward q = option_and_then (λ p. clash_after r w p hs) (option_map (λ (o : Obligation). o.pair) q)

    through : (q : Option Obligation) → owed_by (obligations r w p) h ≡ q
        → ((o : Obligation) → clash_after r w o.pair hs ≡ Some c
        → (ks : List ℕ) × (trail_from r w o.pair ks ≡ Some (record { hops = hs; kind = c })))
        →
        (ks : List ℕ) × (trail_from r w p ks ≡ Some (record { hops = h ∷ hs; kind = c }))
    through None found ih =
        let no : None ≡ Some c =
        subst (λ q. option_and_then (λ p. clash_after r w p hs) (option_map (λ (o : Obligation). o.pair) q) ≡ Some c) found e in
        cc
    through (Some o) found ih =
        let (k, at, is) = owed_at h (obligations r w p) o found in
        let (ks, leads) =
        ih o (subst (λ q. option_and_then (λ p. clash_after r w p hs) (option_map (λ (o : Obligation). o.pair) q) ≡ Some c) found e) in (
          k ∷ ks,
          ap (option_and_then (λ o. option_map (after_hop o.hop) (trail_from r w o.pair ks))) at
              ∙ ap (option_map (after_hop o.hop)) leads
              ∙ ap (λ g. Some (record { hops = g ∷ hs; kind = c })) (sym is),
        )

-- a trail is exactly what its hops lead to
pub trail_by_hops : (r w : List Node) → HopsNameOne r w → (t : Trail) → IsTrail r w t → clash_after r w roots t.hops ≡ Some t.kind
trail_by_hops r w once t (ks, is) = follows r w once ks roots t is

pub hops_of_trail : (r w : List Node) (t : Trail) → clash_after r w roots t.hops ≡ Some t.kind → IsTrail r w t
hops_of_trail r w t e = is_followed r w t.hops roots t.kind e

-- ---- the loop of `Trail::check`

-- what it keeps: the pair that the hops so far lead to, and the hops that are left
pub record IsOnTrail (r w : List Node) (hs : List Hop) (p : Pair) (rest : List Hop) : Type 0 where
  pub within : IsWithin r w p
  pub leads : clash_after r w roots hs ≡ clash_after r w p rest

pub on_trail_next : (r w : List Node) → IsSound r → IsSound w → (hs : List Hop) (p q : Pair) (h : Hop) (rest : List Hop)
    → IsOnTrail r w hs p (h ∷ rest) → Some q ≡ pair_by (obligations r w p) h → IsOnTrail r w hs q rest
on_trail_next r w s t hs p q h rest now e = record {
  within = within_next (owed_by (obligations r w p) h) refl (sym e);
  leads = now.leads ∙ ap (option_and_then (λ x. clash_after r w x rest)) (sym e);
}
  where
    within_next : (o : Option Obligation) → owed_by (obligations r w p) h ≡ o
        → option_map (λ (x : Obligation). x.pair) o ≡ Some q → IsWithin r w q
    within_next None is e = cc
    within_next (Some o) is e =
        let (k, at, same) = owed_at h (obligations r w p) o is in
        let one : o.pair ≡ q = cc in
        subst (IsWithin r w) one (obligations_within r w s t p now.within k o at)

-- a hop that leads nowhere
pub on_trail_lost : (r w : List Node) (hs : List Hop) (p : Pair) (h : Hop) (rest : List Hop)
    → IsOnTrail r w hs p (h ∷ rest) → None ≡ pair_by (obligations r w p) h → clash_after r w roots hs ≡ None
on_trail_lost r w hs p h rest now e = now.leads ∙ ap (option_and_then (λ x. clash_after r w x rest)) (sym e)

-- the element at a place begins what is left from there
pub drop_at : {A : Type 0} (xs : List A) (i : ℕ) (x : A) → i < length xs → x ≡ get_or xs i x → drop i xs ≡ x ∷ drop (i + 1) xs
drop_at xs i x h e = rw (add-one, drop-cons xs i x) (ap (λ y. y ∷ drop (suc i) xs) (sym e))

-- what the answer says of the trail, where it says it of the clash at the end of the hops
pub trail_from_answer : (r w : List Node) → IsSound r → (t : Trail) (b : Bool)
    → (IsTrue b ↔ (clash_after r w roots t.hops ≡ Some t.kind)) → IsTrue b ↔ IsTrail r w t
trail_from_answer r w s t b answer =
    (λ yes. hops_of_trail r w t (answer.0 yes), λ is. answer.1 (trail_by_hops r w (hops_name_one r w s) t is))

pub no_clash : (o : Option ClashKind) (c : ClashKind) → o ≡ None → IsTrue false ↔ (o ≡ Some c)
no_clash o c e = (λ no. cc, λ is. cc)

-- where no hop is left, the clash is that of the pair
pub on_trail_end : (r w : List Node) (hs : List Hop) (p : Pair) (rest : List Hop) (c : ClashKind) (b : Bool)
    → IsOnTrail r w hs p rest → rest ≡ [] → (IsTrue b ↔ (clash_of r w p ≡ Some c)) → IsTrue b ↔ (clash_after r w roots hs ≡ Some c)
on_trail_end r w hs p rest c b now e answer =
    let same = now.leads ∙ ap (clash_after r w p) e in (λ yes. same ∙ answer.0 yes, λ is. answer.1 (sym same ∙ is))
