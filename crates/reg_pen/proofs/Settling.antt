-- A pen whose pending items are published, and one that an item is held for.
use Rattle.std.proofs.Common.{◌≡◌, Bool, Option, None, option_to_list, List, [], ◌∷◌, ◌++◌, refl, sym, ap, subst, ◌∙◌}
use Rattle.std.proofs.lemmas.List.{append-nil}
use Rattle.reg_topic.specs.Laws.{LawfulListsGoOn}
use Rattle.reg_topic.specs.Topic.{IsLawful, MayFollow, after_items}
use Rattle.reg_topic.specs.declared.published.Item.{Item}
use Rattle.reg_topic.specs.declared.topic.Topic.{Topic}
use Rattle.reg_pen.specs.Pen.{IsPen, PenState}
use Rattle.reg_pen.specs.Pending.{IsPending}
use Rattle.reg_pen.specs.declared.pen.Pending.{Pending}

pub settled_pen : LawfulListsGoOn → (base : Topic) (xs ys : List Item) → IsPen base xs ys → IsPen base (xs ++ ys) []
settled_pen go base xs [] p = record { adopted = p.adopted; lawful = subst (IsLawful base) (sym (append-nil xs)) p.lawful; pends = tt }
settled_pen go base xs (i ∷ []) p = record { adopted = p.adopted; lawful = go base xs i p.lawful p.pends; pends = tt }
settled_pen go base xs (i ∷ j ∷ ys) p = absurd p.pends

-- the writer has the pending items once none is held
pub handed_over : (ws ys : List Item) (held : Option Item) → ws ++ option_to_list held ≡ ys → held ≡ None → ws ≡ ys
handed_over ws ys held e none = sym (append-nil ws) ∙ subst (λ (o : Option Item). ws ++ option_to_list o ≡ ys) none e

pub none_pending : (ws : List Item) (held : Option Item) → ws ≡ [] → held ≡ None → ws ++ option_to_list held ≡ []
none_pending ws held e none = subst (λ (o : Option Item). ws ++ option_to_list o ≡ []) (sym none) (append-nil ws ∙ e)

-- the item is all that is pending where nothing was
pub held_alone : (ws ys : List Item) (i : Item) → ws ++ ys ≡ [] → ws ++ i ∷ [] ≡ i ∷ []
held_alone [] ys i clear = refl
held_alone (w ∷ ws) ys i clear = absurd (cc clear)

pub held_pen : (base : Topic) (xs ws ys : List Item) (i : Item) (p : Pending) → IsPen base xs (ws ++ ys)
    → ws ++ ys ≡ [] → MayFollow (after_items base xs) i → IsPending p (i ∷ [])
    → IsPen base xs (ws ++ i ∷ []) × IsPending p (ws ++ i ∷ [])
held_pen base xs [] ys i p pen clear may pending = (record { adopted = pen.adopted; lawful = pen.lawful; pends = may }, pending)
held_pen base xs (w ∷ ws) ys i p pen clear may pending = absurd (cc clear)

abbrev state_of : {K : Type 0} → List Item → List Item → Bool → K → PenState K
state_of published pending lost keep = record { published = published; pending = pending; lost = lost; keep = keep }

pub same_state : {K : Type 0} (xs xs' ys ys' : List Item) (lost : Bool) (k k' : K)
    → xs ≡ xs' → ys ≡ ys' → k ≡ k' → state_of xs ys lost k ≡ state_of xs' ys' lost k'
same_state xs xs' ys ys' lost k k' a b c = cc

-- where nothing is pending, all is published
pub all_published : (xs ys zs : List Item) → xs ≡ zs → ys ≡ [] → xs ++ ys ≡ zs
all_published xs ys zs whole none = ap (λ (w : List Item). xs ++ w) none ∙ (append-nil xs ∙ whole)
