-- The text that is written for a key reads back.
use Rattle.std.proofs.Common.{◌≡◌, ◌≤◌, ℕ, List, [], Option, Some, None, cond, option_map}
use Rattle.std.proofs.Common.{option_and_then, codes, sym, ap, ◌∙◌, append-nil, arith}
use Rattle.std.proofs.lemmas.Bool.{le-leb}
use Rattle.std.specs.Prelude.{bytes_eq}
use Rattle.json.specs.Json as json
use Rattle.json.specs.Lex.{tokens}
use Rattle.json.specs.Tree.{json_tokens, depth, HasNumbers}
use Rattle.json.proofs.Printed.Tokens.{tokens-print}
use Rattle.json.proofs.Printed.Trees.{value-json_tokens, ArePrintable-json_tokens}
use Rattle.json.proofs.Printed.Decimals.{IsNumber-decimal}
use Rattle.serde_json.specs.Data.{Data}
use Rattle.serde_json.specs.Find.{get, as_number, as_u64}
use Rattle.serde_json.specs.Read.{read, of_json, max_depth}
use Rattle.serde_json.specs.Written.{compact_text, outline}
use Rattle.serde_json.proofs.Texts.{print-outline}
use Rattle.serde_json.proofs.Numbers.{number_of-decimal}
use Rattle.reg_records.specs.declared.key.Key.{Key}
use Rattle.reg_records.specs.declared.key.Key.TheVariants.{Schema, Config, Mode, DeleteSubject, Noop, IdMark}
use Rattle.reg_records.specs.Json.{text_at}
use Rattle.reg_records.specs.Key.{scope_in, key_of_kind, key_of}
use Rattle.reg_records.specs.Written.{key_data, written_key, IsOf32Bits, IsInLimits}

-- the compact text of a value reads as what its outline is
pub read-compact_text : (d : Data) → HasNumbers (outline d) → depth (outline d) ≤ max_depth → read (compact_text d) ≡ of_json (outline d)
read-compact_text d numbers shallow =
    let j = outline d in
    let same : tokens (compact_text d) ≡ json_tokens j =
    ap tokens (sym (print-outline d)) ∙ tokens-print _ (ArePrintable-json_tokens j numbers) in
    ap (λ ts. option_and_then of_json (option_and_then (λ p. json.if_last p.0 p.1) (json.value max_depth ts)))
    (same ∙ sym (append-nil (json_tokens j)))
    ∙ ap (λ o. option_and_then of_json (option_and_then (λ p. json.if_last p.0 p.1) o)) (value-json_tokens j max_depth [] shallow)

pub HasNumbers-key_data : (k : Key) → IsOf32Bits k → HasNumbers (outline (key_data k))
HasNumbers-key_data (Schema subject version) h =
    (tt, (tt, (IsNumber-decimal version (omega arith), (IsNumber-decimal 1 (omega arith), tt))))
HasNumbers-key_data (Config None) h = (tt, (tt, (IsNumber-decimal 0 (omega arith), tt)))
HasNumbers-key_data (Config (Some subject)) h = (tt, (tt, (IsNumber-decimal 0 (omega arith), tt)))
HasNumbers-key_data (Mode None) h = (tt, (tt, (IsNumber-decimal 0 (omega arith), tt)))
HasNumbers-key_data (Mode (Some subject)) h = (tt, (tt, (IsNumber-decimal 0 (omega arith), tt)))
HasNumbers-key_data (DeleteSubject subject) h = (tt, (tt, (IsNumber-decimal 0 (omega arith), tt)))
HasNumbers-key_data Noop h = (tt, (IsNumber-decimal 0 (omega arith), tt))
HasNumbers-key_data IdMark h = (tt, (IsNumber-decimal 0 (omega arith), tt))

shallow_key : (k : Key) → depth (outline (key_data k)) ≤ max_depth
shallow_key (Schema subject version) = omega arith
shallow_key (Config None) = omega arith
shallow_key (Config (Some subject)) = omega arith
shallow_key (Mode None) = omega arith
shallow_key (Mode (Some subject)) = omega arith
shallow_key (DeleteSubject subject) = omega arith
shallow_key Noop = omega arith
shallow_key IdMark = omega arith

pub read-written_key : (k : Key) → IsOf32Bits k → read (written_key k) ≡ of_json (outline (key_data k))
unfolding written_key
read-written_key k h = read-compact_text (key_data k) (HasNumbers-key_data k h) (shallow_key k)

-- the key that a JSON value is
abbrev key_in : Data → Option Key
key_in d = option_and_then (λ kind. key_of_kind kind d) (text_at (codes "keytype") d)

-- the key that members give, whatever number its version is
abbrev any_schema_key : Data → Option Key
any_schema_key d =
    option_and_then (λ subject. option_map (λ version. Schema subject version)
    (option_and_then as_u64 (option_and_then as_number (get (codes "version") d)))) (text_at (codes "subject") d)

abbrev any_key_of_kind : List ℕ → Data → Option Key
any_key_of_kind kind d =
    cond (bytes_eq kind (codes "SCHEMA")) (any_schema_key d)
    (cond (bytes_eq kind (codes "CONFIG")) (option_map Config (scope_in d))
    (cond (bytes_eq kind (codes "MODE")) (option_map Mode (scope_in d))
    (cond (bytes_eq kind (codes "DELETE_SUBJECT")) (option_map DeleteSubject (text_at (codes "subject") d))
    (cond (bytes_eq kind (codes "NOOP")) (Some Noop) (Some IdMark)))))

abbrev any_key : Option Data → Option Key
any_key o = option_and_then (λ d. option_and_then (λ kind. any_key_of_kind kind d) (text_at (codes "keytype") d)) o

any_key-outline : (k : Key) → IsOf32Bits k → any_key (of_json (outline (key_data k))) ≡ Some k
any_key-outline (Schema subject version) h = rw (number_of-decimal version (omega arith), number_of-decimal 1 (omega arith))
any_key-outline (Config None) h = rw (number_of-decimal 0 (omega arith))
any_key-outline (Config (Some subject)) h = rw (number_of-decimal 0 (omega arith))
any_key-outline (Mode None) h = rw (number_of-decimal 0 (omega arith))
any_key-outline (Mode (Some subject)) h = rw (number_of-decimal 0 (omega arith))
any_key-outline (DeleteSubject subject) h = rw (number_of-decimal 0 (omega arith))
any_key-outline Noop h = rw (number_of-decimal 0 (omega arith))
any_key-outline IdMark h = rw (number_of-decimal 0 (omega arith))

pub key_of-written_key : (k : Key) → IsInLimits k → key_of (written_key k) ≡ Some k
key_of-written_key (Schema subject version) h =
    ap (option_and_then key_in) (read-written_key (Schema subject version) (omega (arith, h.1)))
    ∙ rw (number_of-decimal version (omega (arith, h.1)), number_of-decimal 1 (omega arith), le-leb 1 version h.0, le-leb version _ h.1)
key_of-written_key (Config None) h =
    ap (option_and_then key_in) (read-written_key (Config None) tt) ∙ rw (number_of-decimal 0 (omega arith))
key_of-written_key (Config (Some subject)) h =
    ap (option_and_then key_in) (read-written_key (Config (Some subject)) tt) ∙ rw (number_of-decimal 0 (omega arith))
key_of-written_key (Mode None) h = ap (option_and_then key_in) (read-written_key (Mode None) tt) ∙ rw (number_of-decimal 0 (omega arith))
key_of-written_key (Mode (Some subject)) h =
    ap (option_and_then key_in) (read-written_key (Mode (Some subject)) tt) ∙ rw (number_of-decimal 0 (omega arith))
key_of-written_key (DeleteSubject subject) h =
    ap (option_and_then key_in) (read-written_key (DeleteSubject subject) tt) ∙ rw (number_of-decimal 0 (omega arith))
key_of-written_key Noop h = ap (option_and_then key_in) (read-written_key Noop tt) ∙ rw (number_of-decimal 0 (omega arith))
key_of-written_key IdMark h = ap (option_and_then key_in) (read-written_key IdMark tt) ∙ rw (number_of-decimal 0 (omega arith))

pub written_key-apart : (a b : Key) → IsOf32Bits a → IsOf32Bits b → written_key a ≡ written_key b → a ≡ b
written_key-apart a b ha hb same =
    let again : Some a ≡ Some b =
    sym (ap any_key (read-written_key a ha) ∙ any_key-outline a ha)
    ∙ ap (λ text. any_key (read text)) same
    ∙ ap any_key (read-written_key b hb)
    ∙ any_key-outline b hb in
    cc
