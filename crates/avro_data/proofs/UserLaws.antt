-- Lists of users, made one after another.
use Rattle.std.proofs.Common.{◌≡◌, ◌⊎◌, inl, inr, ℕ, zero, suc, ◌+◌, ◌<◌, ◌≤◌, List, [], ◌∷◌, ◌++◌}
use Rattle.std.proofs.Common.{length, map, set, Contains, Some, slice_get, sym, ◌∙◌, ap, subst, arith}
use Rattle.std.specs.Global.{Vec}
use Rattle.std.proofs.lemmas.List.Elements.{Contains-append_left, Contains-append_right}
use Rattle.std.proofs.lemmas.Bool.{cases_eq}
use Rattle.std.proofs.lemmas.Option.{slice_get_within}
use Rattle.avro_schema.specs.declared.node.NodeId.{NodeId}
use Rattle.avro_schema.specs.declared.node.Field.{Field}
use Rattle.avro_schema.specs.declared.node.Node.{Node}
use Rattle.avro_data.specs.Users.{awaited, HasUser, AreGrown, IsUserOf}
use Rattle.avro_data.proofs.Options.{here, later, contains_at, set_same, set_other, same_id}

pub pushed_kept : {A : Type 0} (xs : List A) (x y : A) → Contains xs y → Contains (xs ++ x ∷ []) y
pushed_kept xs x y c = Contains-append_left xs (x ∷ []) y c

pub pushed_there : {A : Type 0} (xs : List A) (x : A) → Contains (xs ++ x ∷ []) x
pushed_there xs x = Contains-append_right xs (x ∷ []) x (here x [])

pub at_contains : {A : Type 0} (xs : List A) (k : ℕ) (x : A) → slice_get xs k ≡ Some x → Contains xs x
at_contains [] k x e = absurd (cc)
at_contains (y ∷ xs) zero x e = (0, omega arith, cc)
at_contains (y ∷ xs) (suc k) x e = let (n, lt, at) = at_contains xs k x e in (suc n, omega arith, at)

-- a fact of each of the first k, and of the one at k
pub one_further : {A : Type 0} (xs : List A) (k : ℕ) (x : A) (P : A → Type 0) → slice_get xs k ≡ Some x
    → ((n : ℕ) (y : A) → n < k → slice_get xs n ≡ Some y → P y) → P x → (n : ℕ) (y : A) → n < k + 1 → slice_get xs n ≡ Some y → P y
one_further xs k x P at before now n y lt here_at = go (cases_eq n k)
  where
    go : (n ≡ k) ⊎ (n ≡ k → ⊥) → P y
    go (inl e) = let both : Some x ≡ Some y = sym at ∙ sym (ap (slice_get xs) e) ∙ here_at in let same : x ≡ y = cc in subst P same now
    go (inr other) = before n y (omega arith) here_at

-- and of all of them
pub all_of : {A : Type 0} (xs : List A) (k : ℕ) (P : A → Type 0) → length xs ≤ k
    → ((n : ℕ) (y : A) → n < k → slice_get xs n ≡ Some y → P y) → (y : A) → Contains xs y → P y
all_of xs k P le each y c = let (n, lt, at) = contains_at xs y c in each n y (omega arith) at

-- ---- one list among the others

module _ (users : List (Vec NodeId)) (at : ℕ) (old list : Vec NodeId) (is : slice_get users at ≡ Some old)
    (kept : (i : NodeId) → Contains old.items i → Contains list.items i) where
  pub list_grown : AreGrown users (set users at list)
  list_grown j i (own, own_is, has) = go (cases_eq j.index at)
    where
      go : (j.index ≡ at) ⊎ (j.index ≡ at → ⊥) → HasUser (set users at list) j i
      go (inl e) =
          let both : Some old ≡ Some own = sym is ∙ sym (ap (slice_get users) e) ∙ own_is in
          let same : own ≡ old = cc in (
            list,
            ap (slice_get (set users at list)) e ∙ set_same users at list old is,
            kept i (subst (λ (v : Vec NodeId). Contains v.items i) same has),
          )
      go (inr other) = (own, set_other users at j.index list other ∙ own_is, has)

  pub list_has : (j i : NodeId) → j.index ≡ at → Contains list.items i → HasUser (set users at list) j i
  list_has j i e has = (list, ap (slice_get (set users at list)) e ∙ set_same users at list old is, has)

pub grown_on : (a b c : List (Vec NodeId)) → AreGrown a b → AreGrown b c → AreGrown a c
grown_on a b c f g j i h = g j i (f j i h)

-- ---- a step of each walk

pub users_step : (users : List (Vec NodeId)) (given : List NodeId) (k : ℕ) (j : NodeId) → slice_get given k ≡ Some j
    → (list : Vec NodeId) → slice_get users j.index ≡ Some list → (before found : List NodeId)
    → ((n : ℕ) (j i : NodeId) → n < k → slice_get given n ≡ Some j → HasUser users j i → Contains before i)
    → ((i : NodeId) → Contains before i → Contains found i) → ((i : NodeId) → Contains list.items i → Contains found i)
    → (n : ℕ) (j i : NodeId) → n < k + 1 → slice_get given n ≡ Some j → HasUser users j i → Contains found i
users_step users given k j at list list_is before found so_far kept added n l i lt l_at has =
    one_further given k j (λ x. HasUser users x i → Contains found i) at (λ m x m_lt x_at x_has. kept i (so_far m x i m_lt x_at x_has))
    (λ (own, own_is, own_has).
    let both : Some list ≡ Some own = sym list_is ∙ own_is in
    let same : own ≡ list = cc in added i (subst (λ (v : Vec NodeId). Contains v.items i) same own_has))
    n l lt l_at has

pub users_skip : (users : List (Vec NodeId)) (given : List NodeId) (k : ℕ) (j : NodeId)
    → slice_get given k ≡ Some j → length users ≤ j.index → (found : List NodeId)
    → ((n : ℕ) (j i : NodeId) → n < k → slice_get given n ≡ Some j → HasUser users j i → Contains found i)
    → (n : ℕ) (j i : NodeId) → n < k + 1 → slice_get given n ≡ Some j → HasUser users j i → Contains found i
users_skip users given k j at past found so_far n l i lt l_at has =
    one_further given k j (λ x. HasUser users x i → Contains found i) at (λ m x m_lt x_at x_has. so_far m x i m_lt x_at x_has)
    (λ (own, own_is, own_has). absurd (let lt : j.index < length users = slice_get_within users j.index own own_is in omega arith))
    n l lt l_at has

pub awaited_fields : (fs : List Field) (j : NodeId) → Contains (map (λ f. f.node) fs) j → (f : Field) × Contains fs f × (f.node ≡ j)
awaited_fields [] j (k, lt, at) = absurd (omega arith)
awaited_fields (f ∷ fs) j (zero, lt, at) = (f, here f fs, at)
awaited_fields (f ∷ fs) j (suc k, lt, at) = let (g, has, is) = awaited_fields fs j (k, omega arith, at) in (g, later f fs g has, is)

pub uses_of_fields : (users : List (Vec NodeId)) (i : NodeId) (fs : List Field)
    → ((f : Field) → Contains fs f → f.node.index < length users → HasUser users f.node i) → IsUserOf users i (map (λ f. f.node) fs)
uses_of_fields users i fs each j has lt =
    let (f, f_has, is) = awaited_fields fs j has in
    subst (λ (x : NodeId). HasUser users x i) is (each f f_has (subst (λ (x : NodeId). x.index < length users) (sym is) lt))

pub uses_step : (nodes : List Node) (before users : List (Vec NodeId)) (k : ℕ) (id : NodeId) (node : Node)
    → id.index ≡ k → slice_get nodes k ≡ Some node → length users ≡ length before → AreGrown before users
    → ((i : NodeId) (n : Node) → i.index < k → slice_get nodes i.index ≡ Some n → IsUserOf before i (awaited n))
    → IsUserOf users id (awaited node)
    → (i : NodeId) (n : Node) → i.index < k + 1 → slice_get nodes i.index ≡ Some n → IsUserOf users i (awaited n)
uses_step nodes before users k id node is at size grown so_far now i n lt n_at = go (cases_eq i.index k)
  where
    go : (i.index ≡ k) ⊎ (i.index ≡ k → ⊥) → IsUserOf users i (awaited n)
    go (inl e) =
        let both : Some node ≡ Some n = sym at ∙ sym (ap (slice_get nodes) e) ∙ n_at in
        let same : node ≡ n = cc in
        let same_i : id ≡ i = same_id id i (is ∙ sym e) in
        subst (λ (x : Node). IsUserOf users i (awaited x)) same (subst (λ (x : NodeId). IsUserOf users x (awaited node)) same_i now)
    go (inr other) = λ j has j_lt. grown j i (so_far i n (omega arith) n_at j has (omega arith))
