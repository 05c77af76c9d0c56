-- What is judged.
use Rattle.std.proofs.Common.{◌≡◌, ◌≢◌, ◌↔◌, inl, inr, ℕ, Bor, ◌+◌, ◌<◌, Bool, true, IsTrue, List, length}
use Rattle.std.proofs.Common.{map, get_or, take, Some, is_some, refl, sym, ap, subst, ◌∙◌, arith}
use Rattle.std.proofs.lemmas.List.{take_more_same, get_or-map, length-map}
use Rattle.std.proofs.lemmas.Simd.{map-map}
use Rattle.std.specs.List.Sorted.{IsStrictlyIncreasing}
use Rattle.reg_entries.specs.Sought as sought
use Rattle.reg_entries.specs.declared.entry.Entry.{Entry}
use Rattle.reg_fold.specs.InForce.{level}
use Rattle.reg_fold.specs.Standing.{live}
use Rattle.reg_level_names.specs.declared.level.Level.{Level}
use Rattle.reg_judge.proofs.LookedAt.{looked_at-map}
use Rattle.reg_levels.specs.RequiredPairs.{HasRisingVersions, looked_at}
use Rattle.reg_levels.specs.Texts.{VersionText}
use Rattle.reg_entries.specs.Sought.{texts_of}
use Rattle.reg_set.specs.Records.{Records}
use Rattle.avro_schema.specs.Schema.{Meaning, is_schema, schema_of}
use Rattle.reg_leader.specs.declared.command.Command.{Command}
use Rattle.reg_leader.specs.declared.command.Command.TheVariants as commands
use Rattle.reg_levels.specs.Judgement.{first_unread}
use Rattle.reg_levels.specs.JudgedError.{IsJudgedRefusal}
use Rattle.reg_levels.specs.declared.judged_error.JudgedError.{JudgedError}
use Rattle.reg_levels.specs.declared.judged_error.JudgedError.TheVariants.{NewText, OldText, OutOfMemory}
use Rattle.reg_view.specs.Judging.{HasNoJudgement, HasNoMatter, IsMatterOf, Matter, Standing, against}

-- texts of entries whose versions rise
pub texts_rise : (es : List Entry) → sought.AreInVersionOrder es → HasRisingVersions (texts_of es)
texts_rise es rise = subst IsStrictlyIncreasing (sym (map-map (λ old. old.0) (λ (e : Entry). (e.version, e.text)) es)) rise

-- the texts of those entries that a level looks at
pub texts_looked_at : (l : Level) (es : List Entry) → texts_of (looked_at l es) ≡ looked_at l (texts_of es)
texts_looked_at l es = looked_at-map (λ (e : Entry). (e.version, e.text)) l es

pub stands : (l k : Level) (olds texts : List VersionText) → l ≡ k → olds ≡ texts
    → ◌≡◌ {A = Standing} (record { level = l; olds = olds }) (record { level = k; olds = texts })
stands l k olds texts at same =
    let standing : Level → List VersionText → Standing = λ m all. record { level = m; olds = all } in
    ap (λ (m : Level). standing m olds) at ∙ ap (standing k) same

pub matter_is : (rs : Records) (found : Matter) (s subject t text : List ℕ) (a : Standing)
    → found ≡ record { subject = s; new_text = t; standing = a } → s ≡ subject → t ≡ text → a ≡ against rs s
    → found ≡ record { subject = subject; new_text = text; standing = against rs subject }
matter_is rs found s subject t text a made same_subject same_text is =
    let matter : List ℕ → List ℕ → Standing → Matter = λ x y z. record { subject = x; new_text = y; standing = z } in
    made
    ∙ ap (matter s t) is
    ∙ ap (λ (y : List ℕ). matter s y (against rs s)) same_text
    ∙ ap (λ (x : List ℕ). matter x text (against rs x)) same_subject

-- the same matter against what else stands
pub matter_anew : (rs : Records) (before : Matter) (s t : List ℕ) (a b : Standing)
    → record { subject = s; new_text = t; standing = a } ≡ before → b ≡ against rs s
    → ◌≡◌ {A = Matter} (record { subject = s; new_text = t; standing = b }) (record before { standing = against rs before.subject })
matter_anew rs before s t a b view is =
    let matter : Standing → Matter = λ z. record { subject = s; new_text = t; standing = z } in
    ap matter is ∙ ap (λ (m : Matter). record m { standing = against rs m.subject }) view

-- the place behind of two lists, one of which is made of what is lent
pub alike_more : {X Y : Type 0} (ys : List Y) (xs : List X) (f : X → Y) (i : ℕ) (y : Y) (x : X) → i < length ys → length ys ≡ length xs
    → y ≡ get_or ys i y → y ≡ f (get_or xs i x) → take i ys ≡ take i (map f xs) → take (i + 1) ys ≡ take (i + 1) (map f xs)
alike_more ys xs f i y x within same_length at same before =
    let n = length-map xs f in
    take_more_same ys (map f xs) i y within (omega arith) before (sym at ∙ same ∙ sym (get_or-map f xs i x y (omega arith)))

-- what stands is that of a registry where the level is, and the texts that it looks at
pub stands_over : (rs : Records) (subject : List ℕ) (held : Standing) (l : Level)
    (olds : List VersionText) (looked : List (Bor Entry)) (agree : Bool)
    → record { level = l; olds = olds } ≡ held → l ≡ level rs (Some subject) → map (λ e. e.now) looked ≡ looked_at l (live rs subject)
    → (IsTrue agree ↔ (olds ≡ map (λ e. (e.now.version, e.now.text)) looked))
    → (agree ≡ true) ↔ (against rs subject ≡ held)
stands_over rs subject held l olds looked agree is at all told =
    let k : Level = level rs (Some subject) in
    let standing : List VersionText = texts_of (live rs subject) in
    let texts : looked_at k standing ≡ map {B = VersionText} (λ e. (e.now.version, e.now.text)) looked =
    ap (λ (m : Level). looked_at m standing) (sym at)
    ∙ sym (texts_looked_at l (live rs subject))
    ∙ ap texts_of (sym all)
    ∙ map-map (λ (e : Entry). (e.version, e.text)) (λ (e : Bor Entry). e.now) looked in (
      λ same. stands k l (looked_at k standing) olds (sym at) (texts ∙ sym (told.0 same)) ∙ is,
      λ same. told.1 (sym (ap (λ (s : Standing). s.olds) (same ∙ sym is)) ∙ texts),
    )

-- a matter that isn't judged for want of a schema is one of a registration that has no judgement
pub no_judgement : ((text : List ℕ) (m : Meaning) → schema_of text ≡ Some m → schema_of m.normal_text ≡ Some m)
    → (rs : Records) (c : Command) (m : Matter) (e : JudgedError) → IsMatterOf rs c m → IsJudgedRefusal m.new_text m.standing.olds e
    → e ≢ OutOfMemory → HasNoJudgement rs c
no_judgement read rs (commands.Register subject text) m NewText h refused other =
    let same : m.new_text ≡ h.0.normal_text = ap (λ (x : Matter). x.new_text) h.2 in
    let is : is_schema m.new_text ≡ true = ap is_some (ap schema_of same ∙ read text h.0 h.1) in
    absurd (cc (sym is ∙ refused))
no_judgement read rs (commands.Register subject text) m (OldText version) h refused other =
    inr (ap is_some (ap (λ (x : Matter). first_unread x.standing.olds) (sym h.2) ∙ refused.1))
no_judgement read rs (commands.Register subject text) m OutOfMemory h refused other = absurd (other refl)
no_judgement read rs c m e h refused other = tt

-- where there is nothing to judge, there is no judgement
pub nothing_judged : (rs : Records) (c : Command) → HasNoMatter c → HasNoJudgement rs c
nothing_judged rs (commands.Register subject text) h = inl h
nothing_judged rs c h = tt

-- of no registration there is nothing to judge
pub no_matter : (c : Command) → ((subject text : List ℕ) → c ≡ commands.Register subject text → ⊥) → HasNoMatter c
no_matter (commands.Register subject text) h = absurd (h subject text refl)
no_matter c h = tt
