use Rattle.std.proofs.Common.{◌≡◌, ◌∙◌, sym, ap, subst, refl, false, is_some, [], ◌∷◌, ◌++◌}
use Rattle.avro_schema.specs.Names.{joined}
use Rattle.avro_schema.specs.Places.{defined}
use Rattle.avro_schema.specs.DefinedNames.{number_of, node_in}
use Rattle.avro_schema.specs.Building.{HasMet, opened}
use Rattle.std.proofs.lemmas.Result.{err_from_is_err_and}
use Rattle.avro_schema.proofs.Reading.{left, right, alone}
use Rattle.avro_schema.proofs.NameLemmas.{IsDefinedToo}
use Rattle.avro_schema.proofs.Lookups.{not_new, met_named, is_undefined, no_value}
use Rattle.avro_schema.proofs.builder.Builder.open_named.Goals as goal

pub returns-then-is_some-clause-err : goal.returns-then-is_some-clause-err
returns-then-is_some-clause-err c = λ ds met.
    left _ _ _ (
    alone _ _ (
    not_new c.args.self.now ds c.args.namespace.now.text c.args.namespace.now.number c.args.last.now met c.requires.numbered
    c.requires.last (ap is_some (sym c.node_in.ensures) ∙ sym c.is_some.ensures ∙ c.if-is_some.true)))

pub returns-in_err-index-clause-err : goal.returns-in_err-index-clause-err
returns-in_err-index-clause-err c =
    let p = err_from_is_err_and c.from_residual.result c.from_residual.ensures.1 in
    rw (p.1, p.2) (λ ds met. right _ _ _ c.in_err-index.ensures.err)

pub returns-clause-met : goal.returns-clause-met
returns-clause-met c = λ ds met.
    let a = c.args.self.now in
    let ns = c.args.namespace.now in
    let last = c.args.last.now in
    let absent : is_some (node_in a.names ns.number last) ≡ false =
    ap is_some (sym c.node_in.ensures) ∙ sym c.is_some.ensures ∙ c.if-is_some.false in
    let is : c.in_ok-index.index ≡ opened a = c.in_ok-index.ensures.ok.0 in
    let kept = c.reserve.ensures.names in
    let number = ap (λ m. number_of m ns.text) kept ∙ c.requires.numbered in
    let too : IsDefinedToo c.reserve.new.self.names c.define.new.self ns.text ns.number last c.in_ok-index.index = record {
      number = number;
      dotless = c.requires.last;
      new = ap (λ m. node_in m ns.number last) kept ∙ no_value _ absent;
      numbers = c.define.ensures.numbers;
      count = c.define.ensures.count;
      put = c.in_ok-define.ensures.put ((c.in_ok-index.ensures.met ds met).names.within ns.text ns.number number);
    } in
    let after : HasMet (record { nodes = c.reserve.new.self.nodes; names = c.define.new.self })
    (ds ++ record { name = joined ns.text last; node = opened a } ∷ []) =
    met_named a c.reserve.new.self _ ds _ ns.text ns.number last c.in_ok-index.ensures.ok.1 met (c.in_ok-index.ensures.met ds met) refl
    (subst (IsDefinedToo c.reserve.new.self.names c.define.new.self ns.text ns.number last) is too) in (
      subst
          (λ i.
          HasMet (record { nodes = c.reserve.new.self.nodes; names = c.define.new.self })
          (ds ++ record { name = joined ns.text last; node = i } ∷ []))
          (sym is) after,
      ap (λ i. defined ds i (joined ns.text last)) is
          ∙ is_undefined a ds ns.text ns.number last met c.requires.numbered c.requires.last absent,
    )
