use Rattle.std.proofs.Common.{◌≡◌, ℕ, Bor, List, [], Some, is_some, map, sym, ap, subst, ◌∙◌}
use Rattle.std.proofs.lemmas.Simd.{map-map}
use Rattle.std.specs.List.Sorted.{IsStrictlyIncreasing}
use Rattle.std.specs.Option.{option_map_or}
use Rattle.avro_schema.specs.Schema.{schema_of}
use Rattle.reg_levels.specs.LevelVerdict.{IsLevelVerdict}
use Rattle.reg_levels.specs.Texts.{VersionText, versions_in}
use Rattle.reg_view.proofs.against.verdict_on.Goals as goal

pub returns-clause-verdict : goal.returns-clause-verdict
returns-clause-verdict c =
    let texts : List VersionText = map {A = ℕ × Bor (List ℕ)} (λ old. (old.0, old.1.now)) c.args.olds.now in
    let means : schema_of c.args.new_text.now ≡ Some c.in-Some.new = sym c.in_ok-new.ensures ∙ c.in-Some.is in
    record {
      new_is_read = ap is_some means;
      olds_are_read = c.requires.read;
      versions_rise = subst IsStrictlyIncreasing
          (sym (map-map (λ (o : VersionText). o.0) (λ (o : ℕ × Bor (List ℕ)). (o.0, o.1.now)) c.args.olds.now)) c.requires.rising;
      is_verdict = subst (λ nodes. IsLevelVerdict c.args.level nodes (versions_in texts) c.in_ok-check_read_texts.field-0)
          (sym (ap (λ m. option_map_or (λ s. s.nodes) m []) means)) c.in_ok-check_read_texts.ensures;
    }
