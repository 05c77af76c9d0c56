-- What an event does, or why it does nothing.
use Rattle.std.proofs.Common.{◌≡◌, ◌⊎◌, inl, inr, ℕ, suc, zero, true, false, List, [], ◌∷◌, Option, Some}
use Rattle.std.proofs.Common.{None, MatchBool, is_some, slice_get, set, refl, sym, ap, subst, ◌∙◌}
use Rattle.std.proofs.lemmas.Bool.{false≢true}
use Rattle.std.specs.Option.{option_map_or}
use Rattle.reg_alike.specs.reg_floored.Floored.{Floored}
use Rattle.reg_world.specs.Happens.{Does, Happens, floors_agree, is_allowed}
use Rattle.reg_world.specs.State.{State, changed, has_node, no_records, set_at, with_node}
use Rattle.reg_world.specs.declared.event.Event.{Event}
use Rattle.reg_world.specs.declared.event.Outcome.{Outcome}
use Rattle.reg_world.specs.declared.event.Outcome.TheVariants as outcomes
use Rattle.reg_world.specs.declared.node.WorldNode.{WorldNode}

-- the three ways that an event can go
pub record Did (s t : State) (e : Event) (o : Outcome) : Type 0 where
  pub fine : is_allowed s e ≡ true
  pub agree : floors_agree s e ≡ true
  pub does : Does s e o t

pub record Differed (s t : State) (e : Event) (o : Outcome) : Type 0 where
  pub fine : is_allowed s e ≡ true
  pub differ : floors_agree s e ≡ false
  pub told : o ≡ outcomes.FloorsDiffer
  pub same : t ≡ s

pub record Refused (s t : State) (e : Event) (o : Outcome) : Type 0 where
  pub no : is_allowed s e ≡ false
  pub told : o ≡ outcomes.NotAllowed
  pub same : t ≡ s

abbrev pub Went : State → State → Event → Outcome → Type 0
Went s t e o = Did s t e o ⊎ Differed s t e o ⊎ Refused s t e o

pub went : (s t : State) (e : Event) (o : Outcome) → Happens s e o t → Went s t e o
unfolding Happens
went s t e o happens =
    elim (is_allowed s e) as (λ b. is_allowed s e ≡ b
    → MatchBool b (MatchBool (floors_agree s e) (Does s e o t) ((o ≡ outcomes.FloorsDiffer) × (t ≡ s)))
    ((o ≡ outcomes.NotAllowed) × (t ≡ s))
    → Went s t e o) [
      | true ↦ λ fine h.
          elim (floors_agree s e) as (λ b.
          floors_agree s e ≡ b → MatchBool b (Does s e o t) ((o ≡ outcomes.FloorsDiffer) × (t ≡ s)) → Went s t e o) [
            | true ↦ λ agree d. inl (record { fine = fine; agree = agree; does = d })
            | false ↦ λ differ d. inr (inl (record { fine = fine; differ = differ; told = d.0; same = d.1 }))
          ] refl h
      | false ↦ λ no d. inr (inr (record { no = no; told = d.0; same = d.1 }))
    ] refl happens

pub allowed : (s t : State) (e : Event) (o : Outcome) → is_allowed s e ≡ true → floors_agree s e ≡ true → Does s e o t → Happens s e o t
unfolding Happens
allowed s t e o fine agree d =
    subst
    (λ b.
    MatchBool b (MatchBool (floors_agree s e) (Does s e o t) ((o ≡ outcomes.FloorsDiffer) × (t ≡ s)))
    ((o ≡ outcomes.NotAllowed) × (t ≡ s)))
    (sym fine)
    (subst (λ b. MatchBool b (Does s e o t) ((o ≡ outcomes.FloorsDiffer) × (t ≡ s))) (sym agree) d)

pub differing : (s t : State) (e : Event) → is_allowed s e ≡ true → floors_agree s e ≡ false → t ≡ s → Happens s e outcomes.FloorsDiffer t
unfolding Happens
differing s t e fine differ same =
    let told : outcomes.FloorsDiffer ≡ outcomes.FloorsDiffer = refl in
    subst
    (λ b. MatchBool b
    (MatchBool (floors_agree s e) (Does s e outcomes.FloorsDiffer t) ((outcomes.FloorsDiffer ≡ outcomes.FloorsDiffer) × (t ≡ s)))
    ((outcomes.FloorsDiffer ≡ outcomes.NotAllowed) × (t ≡ s)))
    (sym fine)
    (subst (λ b. MatchBool b (Does s e outcomes.FloorsDiffer t) ((outcomes.FloorsDiffer ≡ outcomes.FloorsDiffer) × (t ≡ s)))
    (sym differ) (told, same))

pub not_allowed : (s t : State) (e : Event) → is_allowed s e ≡ false → t ≡ s → Happens s e outcomes.NotAllowed t
unfolding Happens
not_allowed s t e refused same =
    let told : outcomes.NotAllowed ≡ outcomes.NotAllowed = refl in
    subst
    (λ b.
    MatchBool b
    (MatchBool (floors_agree s e) (Does s e outcomes.NotAllowed t) ((outcomes.NotAllowed ≡ outcomes.FloorsDiffer) × (t ≡ s)))
    ((outcomes.NotAllowed ≡ outcomes.NotAllowed) × (t ≡ s)))
    (sym refused) (told, same)

-- Nodes.
pub node-set : (f : WorldNode → WorldNode) (i : ℕ) (ns : List WorldNode) (n : WorldNode) → slice_get ns i ≡ Some n → set ns i (f n) ≡ changed i f ns
node-set f i [] n e = let no : None ≡ Some n = e in cc
node-set f zero (m ∷ ns) n e = let same : m ≡ n = cc in ap (λ x. f x ∷ ns) (sym same)
node-set f (suc i) (m ∷ ns) n e = ap (λ l. m ∷ l) (node-set f i ns n e)

pub node-done : (s t : State) (f : WorldNode → WorldNode) (i : ℕ) (n x : WorldNode) → slice_get s.nodes i ≡ Some n → x ≡ f n
    → t ≡ record { base = s.base; items = s.items; unsettled = s.unsettled; nodes = set s.nodes i x } → t ≡ with_node s i f
node-done s t f i n x there is written =
    written
    ∙ ap (λ ns. record { base = s.base; items = s.items; unsettled = s.unsettled; nodes = ns })
    (ap (set s.nodes i) is ∙ node-set f i s.nodes n there)

pub no_node : (s : State) (i : ℕ) → slice_get s.nodes i ≡ None → has_node s i ≡ false
no_node s i none = ap is_some none

pub a_node : (s : State) (i : ℕ) (n : WorldNode) → slice_get s.nodes i ≡ Some n → has_node s i ≡ true
a_node s i n there = ap is_some there

some_node : (o : Option WorldNode) → is_some o ≡ true → (n : WorldNode) × (o ≡ Some n)
some_node None e = absurd (false≢true e)
some_node (Some n) e = (n, refl)

pub node-there : (s : State) (i : ℕ) → has_node s i ≡ true → (n : WorldNode) × (slice_get s.nodes i ≡ Some n)
node-there s i has = some_node (slice_get s.nodes i) has

pub set_there : (s : State) (i : ℕ) (n : WorldNode) → slice_get s.nodes i ≡ Some n → set_at s i ≡ n.set
set_there s i n there = ap (λ o. option_map_or (λ (m : WorldNode). m.set) o no_records.set) there
