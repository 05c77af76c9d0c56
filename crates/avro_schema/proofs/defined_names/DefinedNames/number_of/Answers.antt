use Rattle.std.proofs.Common.{rules, ◌≡◌, ◌∙◌, sym, ap, length, Some, cond, bytes_eq}
use Rattle.std.proofs.Common.{string_bytes, option_and_then, slice_get, arith, length-append}
use Rattle.std.specs.BTreeMap.{get_by_text}
use Rattle.std.proofs.lemmas.Map.Text.{btree_map_updates_text}
use Rattle.avro_schema.specs.DefinedNames.{number_of}
use Rattle.avro_schema.proofs.NameLemmas.{IsNumberedToo, kept_numbers, defined_too, none_past}
use Rattle.avro_schema.proofs.defined_names.DefinedNames.number_of.Goals as goal

-- a namespace that had no number
too : (c : goal.In_ok-insert)
    → IsNumberedToo c.args.self.now (record { numbers = c.insert.new.self; nodes = c.push.new.self }) c.args.namespace.now
too c =
    let number : c.len-number.result ≡ length c.args.self.now.nodes.items =
    omega (arith, c.len-number.ensures, c.args.self.now.nodes.ok.0) in
    record {
      new = sym c.in_default.ensures.value;
      numbers = λ ms.
          btree_map_updates_text (string_bytes c.in_ok-from_str.field-0) c.args.self.now.numbers c.insert.new.self
          (Some c.len-number.result) c.in_ok-insert.ensures.updates ms
          ∙ ap (λ t. cond (bytes_eq t ms) (Some c.len-number.result) (number_of c.args.self.now ms)) c.in_ok-from_str.ensures.ok
          ∙ ap (λ k. cond (bytes_eq c.args.namespace.now ms) (Some k) (number_of c.args.self.now ms)) number;
      count = ap length c.in_ok-push.ensures.items ∙ grind (arith, length-append);
      nodes = λ i s.
          ap (λ l. option_and_then (λ m. get_by_text m s) (slice_get l i)) c.in_ok-push.ensures.items
          ∙ none_past c.args.self.now.nodes.items c.new.result i s (search rules);
    }

pub returns-clause-kept : goal.returns-clause-kept
returns-clause-kept c = kept_numbers c.args.self.now _ c.args.namespace.now (too c)

pub returns-clause-defined : goal.returns-clause-defined
returns-clause-defined c = defined_too c.args.self.now _ c.args.namespace.now (too c)
