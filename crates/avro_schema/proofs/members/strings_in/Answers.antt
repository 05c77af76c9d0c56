use Rattle.std.proofs.Common.{◌≡◌, ◌∙◌, ◌++◌, ◌∷◌, [], ◌+◌, ℕ, List, Option, None, Some, drop}
use Rattle.std.proofs.Common.{option_map, option_and_then, append_assoc, refl, sym, ap, arith}
use Rattle.std.proofs.lemmas.List.{append-nil}
use Rattle.json_tree.specs.View.{items_view}
use Rattle.avro_schema.specs.Form.{strings}
use Rattle.avro_schema.proofs.Answering.{next_strings, no_strings_left}
use Rattle.avro_schema.proofs.members.strings_in.Goals as goal

nothing_before : (l : List (List ℕ)) (o : Option (List (List ℕ))) → l ≡ [] → option_map (λ ss. l ++ ss) o ≡ o
nothing_before l None e = refl
nothing_before l (Some ss) e = ap (λ k. Some (k ++ ss)) e

one_more : (l : List (List ℕ)) (s : List ℕ) (o : Option (List (List ℕ)))
    → option_map (λ ss. (l ++ s ∷ []) ++ ss) o ≡ option_map (λ ss. l ++ ss) (option_map (λ ss. s ∷ ss) o)
one_more l s None = refl
one_more l s (Some ss) = ap Some (append_assoc l (s ∷ []) ss)

pub returns-in_default : goal.returns-in_default
returns-in_default c = ap (option_and_then strings) c.in_default.ensures

pub loop-item-init : goal.loop-item-init
loop-item-init c = nothing_before c.new-texts.result.items (strings (items_view c.deref-item-items.result.now)) c.new-texts.ensures.items

pub loop-item-preserved : goal.loop-item-preserved
loop-item-preserved c =
    let vs = c.deref-item-items.result.now in
    let i = c.loop-item.item-index in
    let texts = c.loop-item.texts.items in
    let rest = strings (items_view (drop (i + 1) vs)) in
    ap (λ l. option_map (λ ss. l ++ ss) rest) c.in_ok-push.ensures.items
    ∙ one_more texts c.in_ok-copy_of.field-0 rest
    ∙ ap (λ s. option_map (λ ss. texts ++ ss) (option_map (λ ss. s ∷ ss) rest)) c.in_ok-copy_of.ensures
    ∙ ap (λ o. option_map (λ ss. texts ++ ss) (option_and_then (λ s. option_map (λ ss. s ∷ ss) rest) o)) c.in-Some-as_str.ensures
    ∙ ap (option_map (λ ss. texts ++ ss)) (sym (next_strings vs i c.item-item.result (omega arith) c.item-item.is))
    ∙ c.loop-item.invariant

pub returns-in_default-as_str : goal.returns-in_default-as_str
returns-in_default-as_str c =
    let vs = c.deref-item-items.result.now in
    let i = c.loop-item.item-index in
    let texts = c.loop-item.texts.items in
    let rest = strings (items_view (drop (i + 1) vs)) in
    ap (λ o. option_map (λ ss. texts ++ ss) (option_and_then (λ s. option_map (λ ss. s ∷ ss) rest) o)) c.in_default-as_str.ensures
    ∙ ap (option_map (λ ss. texts ++ ss)) (sym (next_strings vs i c.item-item.result (omega arith) c.item-item.is))
    ∙ c.loop-item.invariant
    ∙ ap (λ l. strings (items_view l)) c.deref-item-items.ensures.value
    ∙ ap (option_and_then strings) c.in-Some.ensures

pub returns : goal.returns
returns c =
    let vs = c.deref-item-items.result.now in
    let texts = c.loop-item.texts.items in
    ap Some (sym (append-nil texts))
    ∙ ap (option_map (λ ss. texts ++ ss)) (sym (no_strings_left vs c.loop-item.item-index (omega arith)))
    ∙ c.loop-item.invariant
    ∙ ap (λ l. strings (items_view l)) c.deref-item-items.ensures.value
    ∙ ap (option_and_then strings) c.in-Some.ensures
