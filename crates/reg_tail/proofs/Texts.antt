-- Lines behind lines.
use Rattle.std.proofs.Common.{◌≡◌, ◌<◌, ◌≤◌, ◌+◌, ◌-◌, Option, Some, None, Ok, bytes_eq, codes, ℕ, suc, max, Bool, cond, true, false}
use Rattle.std.proofs.Common.{decimal, List, [], ◌∷◌, ◌++◌, length, take, drop, refl, sym, ap, subst, ◌∙◌, arith, append_assoc}
use Rattle.std.proofs.Common.{length-append, nat_le}
use Rattle.std.specs.List.{fold}
use Rattle.std.proofs.lemmas.List.{drop_at, take_all, take_at}
use Rattle.std.proofs.lemmas.List.Sums.{fold-append}
use Rattle.reg_journal.specs.Lines.{Say, SayLog, SaysFloor, text_of}
use Rattle.reg_records.proofs.Floors.{one_line}
use Rattle.reg_records.proofs.Grammar.{Spells-reading}
use Rattle.std.specs.Option.{option_map_or}
use Rattle.reg_records.specs.Floor.{floor_mark}
use Rattle.reg_records.specs.Log.{next_after, offset_in}
use Rattle.reg_records.specs.Pieces.{HasNoLineFeed}
use Rattle.reg_records.specs.Key.{key_of}
use Rattle.reg_records.specs.Line.{reading}
use Rattle.reg_records.specs.declared.key.Key.{Key}
use Rattle.reg_records.specs.declared.limits.TheConstants.{OFFSET_LIMIT}
use Rattle.reg_records.specs.declared.record.Read.{Read}
use Rattle.reg_records.specs.declared.record.Read.TheVariants as reads
use Rattle.reg_tail.specs.Source.{AreLines}
use Rattle.reg_tail.specs.Tail.{lines_from}

pub text_of-append : (lines more : List (List ℕ)) → text_of (lines ++ more) ≡ text_of lines ++ text_of more
text_of-append [] more = refl
text_of-append (line ∷ lines) more =
    ap (λ (l : List ℕ). line ++ 10 ∷ l) (text_of-append lines more) ∙ sym (append_assoc line (10 ∷ text_of lines) (text_of more))

pub Say-append : (lines more : List (List ℕ)) (read next : List Read) → Say lines read → Say more next → Say (lines ++ more) (read ++ next)
Say-append [] more [] next say then = then
Say-append [] more (r ∷ read) next say then = absurd say
Say-append (line ∷ lines) more [] next say then = absurd say
Say-append (line ∷ lines) more (r ∷ read) next say then = (say.0, say.1, say.2, Say-append lines more read next say.3 then)

pick : (b : Bool) (line : List ℕ) (xs ys : List (List ℕ)) → cond b (line ∷ (xs ++ ys)) (xs ++ ys) ≡ cond b (line ∷ xs) xs ++ ys
pick true line xs ys = refl
pick false line xs ys = refl

pub lines_from-append : (from : ℕ) (lines more : List (List ℕ)) (read next : List Read) → Say lines read
    → lines_from from (lines ++ more) (read ++ next) ≡ lines_from from lines read ++ lines_from from more next
lines_from-append from [] more [] next say = refl
lines_from-append from [] more (r ∷ read) next say = absurd say
lines_from-append from (line ∷ lines) more [] next say = absurd say
lines_from-append from (line ∷ lines) more (r ∷ read) next say =
    ap (λ (l : List (List ℕ)). cond (nat_le from (offset_in r)) (line ∷ l) l) (lines_from-append from lines more read next say.3)
    ∙ pick (nat_le from (offset_in r)) line (lines_from from lines read) (lines_from from more next)

-- one more than the greatest offset, from a number on
next_from : (n : ℕ) (read : List Read) → fold (λ next r. max next (suc (offset_in r))) n read ≡ max n (next_after read)
next_from n [] = omega arith
next_from n (r ∷ read) = omega (arith, next_from (max n (suc (offset_in r))) read, next_from (max 0 (suc (offset_in r))) read)

pub next_after-append : (read next : List Read) → next_after (read ++ next) ≡ max (next_after read) (next_after next)
next_after-append read next = fold-append (λ n r. max n (suc (offset_in r))) 0 read next ∙ next_from (next_after read) next

-- lines that say something are lines
pub lines_say : (lines : List (List ℕ)) (read : List Read) → Say lines read → AreLines lines
lines_say [] read say = tt
lines_say (line ∷ lines) [] say = absurd say
lines_say (line ∷ lines) (r ∷ read) say = (say.0, say.1, lines_say lines read say.3)

pub lines-append : (lines more : List (List ℕ)) → AreLines lines → AreLines more → AreLines (lines ++ more)
lines-append [] more is then = then
lines-append (line ∷ lines) more is then = (is.0, is.1, lines-append lines more is.2 then)

floor_lines : (front : List (List ℕ)) (floor : ℕ) → SaysFloor front floor → AreLines front
floor_lines [] floor says = tt
floor_lines (line ∷ []) floor says =
    let P : List ℕ → Type 0 = λ l. (0 < length l) × HasNoLineFeed l × AreLines [] in
    subst P (sym says.0) (omega (arith, length-append floor_mark (decimal floor)), one_line floor says.1, tt)
floor_lines (line ∷ next ∷ front) floor says = absurd says

pub lines_log : (lines : List (List ℕ)) (floor : ℕ) (read : List Read) → SayLog lines floor read → AreLines lines
lines_log lines floor read s =
    subst AreLines (sym s.parts) (lines-append s.front s.others (floor_lines s.front floor s.floor) (lines_say s.others read s.say))

-- ---- the line at the front

pub line_of : (line behind rest : List ℕ) (len : ℕ) → rest ≡ line ++ 10 ∷ behind → len ≡ length line + 1 → take len rest ≡ line ++ 10 ∷ []
line_of line behind rest len is size =
    ap (λ (l : List ℕ). take len l) (is ∙ sym (append_assoc line (10 ∷ []) behind))
    ∙ take_at (line ++ 10 ∷ []) behind len (omega (arith, size, length-append line (10 ∷ [])))

pub rest_of : (line behind rest : List ℕ) (len : ℕ) → rest ≡ line ++ 10 ∷ behind
    → len ≡ length line + 1 → behind ≡ take (length rest - len) (drop len rest)
rest_of line behind rest len is size =
    let back : drop len rest ≡ behind =
    ap (λ (l : List ℕ). drop len l) (is ∙ sym (append_assoc line (10 ∷ []) behind))
    ∙ drop_at (line ++ 10 ∷ []) behind len (omega (arith, size, length-append line (10 ∷ []))) in
    sym (ap (λ (l : List ℕ). take (length rest - len) l) back
    ∙ take_all (length rest - len) behind (omega (arith, ap length is, length-append line (10 ∷ behind), size)))

-- ---- its offset

offset_at : (offset : ℕ) (found : Option Key) (value : Option (List ℕ))
    → offset_in (option_map_or (λ key. reads.Record (record { offset = offset; key = key; value = value })) found (reads.Foreign offset))
    ≡ offset
offset_at offset None value = refl
offset_at offset (Some key) value = refl

pub offset_fits : (line : List ℕ) (read : Read) → reading line ≡ Ok read → offset_in read ≤ OFFSET_LIMIT
offset_fits line read says =
    let s = Spells-reading line read says in
    let same : offset_in read ≡ s.0 = ap offset_in s.4 ∙ offset_at s.0 (key_of s.1) (cond (bytes_eq s.2 (codes "null")) None (Some s.2)) in
    omega (arith, same, s.3.offset_fits)
