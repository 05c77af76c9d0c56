-- Whatever a command writes is harmless.
use Rattle.std.proofs.Common.{◌≡◌, ◌⊎◌, inl, inr, ℕ, suc, ◌+◌, false, List, [], ◌∷◌, ◌++◌, length}
use Rattle.std.proofs.Common.{map, None, All, option_and_then, refl, sym, ap, subst, ◌∙◌, arith}
use Rattle.std.proofs.lemmas.List.Elements.{All-nil}
use Rattle.std.specs.List.{AllByRecursion}
use Rattle.reg_rules.specs.reg_entries.TwoSchemas.{NoneIsOneTextEach}
use Rattle.reg_rules.specs.reg_entries.declared.entry.Entry.{Entry}
use Rattle.reg_rules.specs.reg_fold.Entries.{EntriesAreInLimits, EntriesAreRead}
use Rattle.reg_rules.specs.reg_fold.Opaque.{is_version}
use Rattle.reg_rules.specs.reg_records.WrittenValue.{written_value}
use Rattle.reg_rules.specs.reg_records.declared.record.Record.{Record}
use Rattle.reg_rules.specs.Writings.{numbered, removed, written_at}
use Rattle.reg_rules.specs.declared.writing.Writing.{Writing}
use Rattle.reg_rules.specs.reg_set.Records.{Records}
use Rattle.reg_leader.specs.Harmless.{IsHarmless, IsQuiet, StepsAreHarmless}
use Rattle.reg_leader.specs.Step.{IsStep, course_of, marked}
use Rattle.reg_leader.specs.declared.reply.Reply.{Reply}
use Rattle.reg_leader.proofs.Below.{NormalTextsReadBack}
use Rattle.reg_leader.proofs.Courses.{numbered-all, outcome-of}
use Rattle.reg_leader.proofs.Sorted.{AreSorted, IsFirst, IsOther, MayBeGiven, course-sorted}

-- a writing whose record is quiet
abbrev QuietWriting : Writing → Type 0
QuietWriting w = (w.value ≡ None) ⊎ (is_version w.key ≡ false)

numbered-quiet : (n : ℕ) (ws : List Writing) → AllByRecursion QuietWriting ws → All IsQuiet (numbered n ws)
numbered-quiet =
    numbered-all IsQuiet (λ n w quiet. elim quiet [ inl none ↦ inl (ap (option_and_then written_value) none) | inr other ↦ inr other ])

others-quiet : (ws : List Writing) → AllByRecursion IsOther ws → AllByRecursion QuietWriting ws
others-quiet [] all = tt
others-quiet (w ∷ ws) all = (inr all.0.0, others-quiet ws all.1)

removed-quiet : (es : List Entry) → AllByRecursion QuietWriting (map removed es)
removed-quiet [] = tt
removed-quiet (e ∷ es) = (inl refl, removed-quiet es)

first-quiet : (rs : Records) (first : List Writing) (subject : List ℕ) (version id : ℕ)
    → IsFirst rs first subject version id → AllByRecursion QuietWriting first
first-quiet rs first subject version id (inl nothing) = subst (AllByRecursion QuietWriting) (sym nothing.0) tt
first-quiet rs first subject version id (inr mark) = subst (AllByRecursion QuietWriting) (sym mark.0) (inr refl, tt)

-- the last of several records has the offset after theirs
numbered-last : (n : ℕ) (ws : List Writing) (w : Writing)
    → numbered n (ws ++ w ∷ []) ≡ numbered n ws ++ written_at (n + length (numbered n ws)) w ∷ []
numbered-last n [] w = let same : n ≡ n + 0 = omega arith in ap (λ k. written_at k w ∷ []) same
numbered-last n (v ∷ ws) w =
    let same : suc n + length (numbered (suc n) ws) ≡ n + suc (length (numbered (suc n) ws)) = omega arith in
    ap (λ rs. written_at n v ∷ rs) (numbered-last (suc n) ws w ∙ ap (λ k. numbered (suc n) ws ++ written_at k w ∷ []) same)

-- an id that the batch gives may be given
abbrev pub GivesIds : (rs : Records) (n : ℕ) (batch : List Record) → IsHarmless rs n batch → Type 0
GivesIds rs n batch (inl quiet) = Unit {0}
GivesIds rs n batch (inr v) = MayBeGiven rs v.id

pub numbered-harmless : (rs : Records) (reply : Reply) (n : ℕ) (ws : List Writing) → AreSorted rs reply ws
    → (harmless : IsHarmless rs n (numbered n ws)) × GivesIds rs n (numbered n ws) harmless
numbered-harmless rs reply n ws (inl others) = (inl (numbered-quiet n ws (others-quiet ws others)), tt)
numbered-harmless rs reply n ws (inr (inl one)) = (
  inr (record {
    subject = one.subject;
    version = one.version;
    id = one.id;
    text = one.text;
    deleted = one.deleted;
    first = numbered n one.first;
    are_quiet = numbered-quiet n one.first (first-quiet rs one.first one.subject one.version one.id one.is_first);
    one_record = ap (numbered n) one.one_writing ∙ numbered-last n one.first _;
    version_fits = one.version_fits;
    id_fits = one.id_fits;
    schema = one.schema;
    is_read = one.is_read;
    names_no_other = one.names_no_other;
  }),
  one.may_be_given,
)
numbered-harmless rs reply n ws (inr (inr gone)) = (
  inl (
      subst (λ ws. All IsQuiet (numbered n ws)) (sym gone.are_removed)
      (numbered-quiet n (marked rs ∷ map removed gone.removed_ones) (inr refl, removed-quiet gone.removed_ones))),
  tt,
)

pub steps_are_harmless : NoneIsOneTextEach → EntriesAreRead → EntriesAreInLimits → NormalTextsReadBack → StepsAreHarmless
unfolding IsStep
steps_are_harmless one read fits again rs n c reply batch step =
    elim (outcome-of (AreSorted rs) n (course_of rs n c) reply batch (course-sorted one read fits again rs n c) step) [
      | inl none ↦ inl (subst (All IsQuiet) (sym none) (All-nil IsQuiet))
      | inr some ↦ subst (IsHarmless rs n) (sym some.1) (numbered-harmless rs reply n some.0 some.2).0
    ]
