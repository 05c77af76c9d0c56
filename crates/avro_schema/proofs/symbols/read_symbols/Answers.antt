use Rattle.std.proofs.Common.{◌≡◌, ◌∙◌, ◌&&◌, sym, ap, subst, ℕ, List, Option, true, false}
use Rattle.std.proofs.Common.{bytes_eq, Some, option_map, option_and_then, codes, refl}
use Rattle.std.specs.List.{list_all}
use Rattle.std.specs.Option.{option_map_or}
use Rattle.serde_json.specs.Data.{Data}
use Rattle.serde_json.specs.Find.{get, as_str}
use Rattle.json_tree.specs.View.{view}
use Rattle.avro_schema.specs.declared.error.SchemaError.TheVariants as fault
use Rattle.avro_schema.specs.Names.{is_name, all_distinct, has_text}
use Rattle.avro_schema.specs.Form.{strings_in}
use Rattle.avro_schema.specs.Faults.{symbols_faults, fits_enum, if_written, unless}
use Rattle.avro_schema.specs.Schema.{IsRefusalBy}
use Rattle.avro_schema.proofs.Reading.{no_memory}
use Rattle.avro_schema.proofs.Refused.{refused_no_symbols, refused_symbol_list, refused_default}
use Rattle.avro_schema.proofs.Lookups.{exit_err}
use Rattle.avro_schema.proofs.symbols.read_symbols.Goals as goal

enum_fits : (ss ts us : List (List ℕ)) (d : Option Data) → ss ≡ ts → us ≡ ts → list_all is_name ts && all_distinct bytes_eq ts ≡ true
    → if_written (λ e. option_map_or (has_text us) (as_str e) false) d ≡ true → fits_enum d ss ≡ true
enum_fits ss ts us d p q a b = rw (p, a) (subst (λ l. if_written (λ e. option_map_or (has_text l) (as_str e) false) d ≡ true) q b)

pub returns-in_err-written-clause-err : goal.returns-in_err-written-clause-err
returns-in_err-written-clause-err c =
    let d = view c.args.value.now in
    exit_err c.from_residual.result
    (IsRefusalBy (symbols_faults (option_and_then strings_in (get (codes "symbols") d)) (get (codes "default") d)))
    fault.OutOfMemory c.from_residual.ensures.1 (no_memory _ _ refl)

pub returns-in_default-clause-err : goal.returns-in_default-clause-err
returns-in_default-clause-err c =
    let d = view c.args.value.now in
    refused_no_symbols (option_and_then strings_in (get (codes "symbols") d)) (get (codes "default") d)
    (sym c.in_ok-written.ensures ∙ ap (option_map (λ v. v.items)) c.in_default.is)

pub returns-in_err-symbols-clause-err : goal.returns-in_err-symbols-clause-err
returns-in_err-symbols-clause-err c =
    let d = view c.args.value.now in
    let e = c.in_err-symbols.field-0.0 in
    let is : Some c.in-Some.written.items ≡ option_and_then strings_in (get (codes "symbols") d) =
    ap (option_map (λ v. v.items)) (sym c.in-Some.is) ∙ c.in_ok-written.ensures in
    exit_err c.from_residual-in_err-symbols.result
    (IsRefusalBy (symbols_faults (option_and_then strings_in (get (codes "symbols") d)) (get (codes "default") d)))
    e c.from_residual-in_err-symbols.ensures.1
    (subst (λ ss. IsRefusalBy (symbols_faults ss (get (codes "default") d)) e) is
    (refused_symbol_list c.in-Some.written.items (get (codes "default") d) e c.in_err-symbols.ensures.err))

pub returns-in_err-default-clause-err : goal.returns-in_err-default-clause-err
returns-in_err-default-clause-err c =
    let d = view c.args.value.now in
    let e = c.in_err-default.field-0.0 in
    let ss = c.in-Some.written.items in
    let is : Some ss ≡ option_and_then strings_in (get (codes "symbols") d) =
    ap (option_map (λ v. v.items)) (sym c.in-Some.is) ∙ c.in_ok-written.ensures in
    let same : c.as_slice.result.now ≡ ss = c.as_slice.ensures.items ∙ c.in_ok-symbols.ensures.ok.0 in
    exit_err c.from_residual-in_err-default.result
    (IsRefusalBy (symbols_faults (option_and_then strings_in (get (codes "symbols") d)) (get (codes "default") d)))
    e c.from_residual-in_err-default.ensures.1
    (subst (λ o. IsRefusalBy (symbols_faults o (get (codes "default") d)) e) is
    (refused_default ss (get (codes "default") d) e
    (subst (λ l.
    IsRefusalBy (unless (if_written (λ e. option_map_or (has_text l) (as_str e) false) (get (codes "default") d)) fault.BadEnum)
    e) same c.in_err-default.ensures.err)))

pub returns-clause-ok : goal.returns-clause-ok
returns-clause-ok c =
    let d = view c.args.value.now in
    let ss = c.in-Some.written.items in
    let is : Some ss ≡ option_and_then strings_in (get (codes "symbols") d) =
    ap (option_map (λ v. v.items)) (sym c.in-Some.is) ∙ c.in_ok-written.ensures in
    let same : c.as_slice.result.now ≡ ss = c.as_slice.ensures.items ∙ c.in_ok-symbols.ensures.ok.0 in
    record {
      symbols = sym is ∙ ap Some (sym c.in_ok-symbols.ensures.ok.0);
      default = c.in_ok-default.ensures.ok.0;
      fits = enum_fits c.in_ok-symbols.symbols ss c.as_slice.result.now
          (get (codes "default") d) c.in_ok-symbols.ensures.ok.0 same c.in_ok-symbols.ensures.ok.1 c.in_ok-default.ensures.ok.1;
    }
