use Rattle.std.proofs.Common.{◌≡◌, ◌≤◌, ◌<◌, ◌∙◌, ◌+◌, ◌++◌, ◌∷◌, [], ℕ, suc, List, length, drop}
use Rattle.std.proofs.Common.{get_or, map, true, false, bytes_eq, refl, sym, ap, subst, arith, codes}
use Rattle.std.proofs.lemmas.Result.{IfOk-weaker, IfErr-weaker}
use Rattle.serde_json.specs.Data.{depth, items_depth}
use Rattle.json_tree.specs.View.{view, items_view}
use Rattle.avro_schema.specs.declared.error.SchemaError.TheVariants as fault
use Rattle.avro_schema.specs.declared.word.TypeWord.TheVariants as word
use Rattle.avro_schema.specs.Form.{Fields, ill_fields, union_of, form, forms, form_of_name}
use Rattle.avro_schema.specs.Form.{fields_of_items, field_heading_of, heading_of, record_of}
use Rattle.avro_schema.specs.Plain.{IsPlain}
use Rattle.avro_schema.specs.Schema.{IsRefusalBy}
use Rattle.avro_schema.specs.Names.{all_distinct}
use Rattle.avro_schema.specs.Faults.{unless, field_list_faults}
use Rattle.avro_schema.specs.Branches.{HoldsKinds, branch_kind, may_stand}
use Rattle.avro_schema.specs.Building.{nodes_of, names_of, ClosesRecord, ReadsType, opened, form_in, written_fields, fields_or_ill}
use Rattle.avro_schema.specs.Building.{array_in, map_in, record_in, enum_in, fixed_in, RefusesType, RefusesField, ReadsFields}
use Rattle.avro_schema.specs.Building.{RefusesFields, RefusesBranches, AreBranchesRead, AreFieldsRead, branches_faults, fields_faults}
use Rattle.avro_schema.specs.Building.{type_faults, field_faults}
use Rattle.avro_schema.proofs.Reading.{left, right}
use Rattle.avro_schema.proofs.Types.{opened-more, definition_of}
use Rattle.avro_schema.proofs.Refused.{refused_open, refused_opening_record, refused_ill_formed, refused_array, refused_map}
use Rattle.avro_schema.proofs.Refused.{refused_union, refused_list, refused_no_fields, refused_same_names, refused_fields}
use Rattle.avro_schema.proofs.Lookups.{exit_err}
use Rattle.avro_schema.proofs.ObjectForms.{get-depth, get-plain, items_at-depth}
use Rattle.avro_schema.proofs.ObjectForms.{items_at-plain, item-depth, item-plain}
use Rattle.avro_schema.proofs.ObjectForms.{inner_type, worded_type}
use Rattle.avro_schema.proofs.Answering.{type_ok, type_err, still_there, array_read, map_read, union_read, record_read, defined_at}
use Rattle.avro_schema.proofs.Answering.{tested_names, BranchesFit, fit_start, keeps_from, keeps_same, branches_next, branches_no}
use Rattle.avro_schema.proofs.Answering.{branches_twice, branches_done, fields_next, fields_no, fields_done, tests_read, next_forms}
use Rattle.avro_schema.proofs.Answering.{next_fields, no_forms_left, no_fields_left}
use Rattle.avro_schema.proofs.Along.{FieldsAlong, fields_start, tests_start}
use Rattle.avro_schema.proofs.builder.Builder.+types.Goals as goal

pub read_array-returns-in_err-index-clause-err : goal.read_array-returns-in_err-index-clause-err
read_array-returns-in_err-index-clause-err t c =
    let a = c.args.self.now in
    exit_err c.from_residual.result
    (RefusesType a c.args.namespace.now.text (array_in (view c.args.value.now))) c.in_err-index.field-0.0 c.from_residual.ensures.1
    (λ ds met.
    refused_open ds c.args.namespace.now.text (array_in (view c.args.value.now)) (opened a) _ (omega arith) c.in_err-index.ensures.err)

pub read_array-returns-in_err-items-clause-err : goal.read_array-returns-in_err-items-clause-err
read_array-returns-in_err-items-clause-err t c =
    let a = c.args.self.now in
    exit_err c.from_residual-in_err-items.result (RefusesType a c.args.namespace.now.text (array_in (view c.args.value.now)))
    c.in_err-items.field-0.0 c.from_residual-in_err-items.ensures.1
    (λ ds met.
    refused_array ds c.args.namespace.now.text (form_in (codes "items") (view c.args.value.now)) (opened a)
    (opened c.reserve.new.self) _ (opened-more _ a c.reserve.new.self c.in_ok-index.ensures.ok.1)
    (c.in_err-items.ensures.err ds (c.in_ok-index.ensures.met ds met)))

pub read_array-close-requires : goal.read_array-close-requires
read_array-close-requires t c =
    let lt : c.in_ok-index.index < opened c.read_member.new.self = still_there c.args.self.now c.reserve.new.self
    c.read_member.new.self _ c.in_ok-index.index c.in_ok-index.ensures.ok.0 c.in_ok-index.ensures.ok.1 c.in_ok-items.ensures.ok.0 in
    lt

pub read_array-returns-clause-ok : goal.read_array-returns-clause-ok
read_array-returns-clause-ok t c =
    array_read c.args.self.now c.reserve.new.self c.read_member.new.self _ c.args.namespace.now.text
    (form_in (codes "items") (view c.args.value.now)) _ c.in_ok-index.index c.in_ok-items.items
    c.in_ok-index.ensures.ok.0 c.in_ok-index.ensures.ok.1 c.in_ok-index.ensures.met
    c.in_ok-index.ensures.names c.in_ok-items.ensures.ok c.close.ensures.nodes c.close.ensures.names

pub read_map-returns-in_err-index-clause-err : goal.read_map-returns-in_err-index-clause-err
read_map-returns-in_err-index-clause-err t c =
    let a = c.args.self.now in
    exit_err c.from_residual.result
    (RefusesType a c.args.namespace.now.text (map_in (view c.args.value.now))) c.in_err-index.field-0.0 c.from_residual.ensures.1
    (λ ds met.
    refused_open ds c.args.namespace.now.text (map_in (view c.args.value.now)) (opened a) _ (omega arith) c.in_err-index.ensures.err)

pub read_map-returns-in_err-values-clause-err : goal.read_map-returns-in_err-values-clause-err
read_map-returns-in_err-values-clause-err t c =
    let a = c.args.self.now in
    exit_err c.from_residual-in_err-values.result (RefusesType a c.args.namespace.now.text (map_in (view c.args.value.now)))
    c.in_err-values.field-0.0 c.from_residual-in_err-values.ensures.1
    (λ ds met.
    refused_map ds c.args.namespace.now.text (form_in (codes "values") (view c.args.value.now)) (opened a)
    (opened c.reserve.new.self) _ (opened-more _ a c.reserve.new.self c.in_ok-index.ensures.ok.1)
    (c.in_err-values.ensures.err ds (c.in_ok-index.ensures.met ds met)))

pub read_map-close-requires : goal.read_map-close-requires
read_map-close-requires t c =
    let lt : c.in_ok-index.index < opened c.read_member.new.self = still_there c.args.self.now c.reserve.new.self c.read_member.new.self
    _ c.in_ok-index.index c.in_ok-index.ensures.ok.0 c.in_ok-index.ensures.ok.1 c.in_ok-values.ensures.ok.0 in
    lt

pub read_map-returns-clause-ok : goal.read_map-returns-clause-ok
read_map-returns-clause-ok t c =
    map_read c.args.self.now c.reserve.new.self c.read_member.new.self _ c.args.namespace.now.text
    (form_in (codes "values") (view c.args.value.now)) _ c.in_ok-index.index c.in_ok-values.values
    c.in_ok-index.ensures.ok.0 c.in_ok-index.ensures.ok.1 c.in_ok-index.ensures.met
    c.in_ok-index.ensures.names c.in_ok-values.ensures.ok c.close.ensures.nodes c.close.ensures.names

pub read_union-returns-in_err-index-clause-err : goal.read_union-returns-in_err-index-clause-err
read_union-returns-in_err-index-clause-err t c =
    let a = c.args.self.now in
    let f = union_of (forms (items_view c.args.items.now.items)) in
    exit_err c.from_residual.result (RefusesType a c.args.namespace.now.text f) c.in_err-index.field-0.0 c.from_residual.ensures.1
    (λ ds met. refused_open ds c.args.namespace.now.text f (opened a) _ (omega arith) c.in_err-index.ensures.err)

pub read_union-returns-in_err-branches-clause-err : goal.read_union-returns-in_err-branches-clause-err
read_union-returns-in_err-branches-clause-err t c =
    let a = c.args.self.now in
    let fs = forms (items_view c.args.items.now.items) in
    exit_err c.from_residual-in_err-branches.result
    (RefusesType a c.args.namespace.now.text (union_of fs)) c.in_err-branches.field-0.0 c.from_residual-in_err-branches.ensures.1
    (λ ds met.
    refused_union ds c.args.namespace.now.text fs (opened a) (opened c.reserve.new.self) _
    (opened-more _ a c.reserve.new.self c.in_ok-index.ensures.ok.1)
    (c.in_err-branches.ensures.err ds (c.in_ok-index.ensures.met ds met)))

pub read_union-close-requires : goal.read_union-close-requires
read_union-close-requires t c =
    let lt : c.in_ok-index.index < opened c.read_branches.new.self = still_there c.args.self.now c.reserve.new.self c.read_branches.new.self
    _ c.in_ok-index.index c.in_ok-index.ensures.ok.0 c.in_ok-index.ensures.ok.1 c.in_ok-branches.ensures.ok.0 in
    lt

pub read_union-returns-clause-ok : goal.read_union-returns-clause-ok
read_union-returns-clause-ok t c =
    union_read c.args.self.now c.reserve.new.self c.read_branches.new.self _ c.args.namespace.now.text
    (forms (items_view c.args.items.now.items)) _ c.in_ok-index.index c.in_ok-branches.branches.items c.from.result
    c.in_ok-index.ensures.ok.0 c.in_ok-index.ensures.ok.1 c.in_ok-index.ensures.met c.in_ok-index.ensures.names
    c.in_ok-branches.ensures.ok c.from.ensures c.close.ensures.nodes c.close.ensures.names

pub read_member-read_type-requires : goal.read_member-read_type-requires
read_member-read_type-requires t c =
    let d = view c.args.value.now in
    let e = view c.in-Some.member.now in
    let h : depth e < depth d = get-depth c.args.name.now d e (sym c.in-Some.ensures) in
    (omega arith, (get-plain c.args.name.now d e (sym c.in-Some.ensures) c.requires.1.1.0, c.requires.1.1.1))

pub read_object-returns-in_default-clause-ok : goal.read_object-returns-in_default-clause-ok
read_object-returns-in_default-clause-ok t c =
    let d = view c.args.value.now in
    type_ok c.read_member.result c.args.self.now c.read_member.new.self c.args.namespace.now.text (form_in (codes "type") d)
    (form d) (inner_type d c.requires.object (sym c.in_default.ensures)) c.read_member.ensures.ok

pub read_object-returns-in_default-clause-err : goal.read_object-returns-in_default-clause-err
read_object-returns-in_default-clause-err t c =
    let d = view c.args.value.now in
    type_err c.read_member.result c.args.self.now c.args.namespace.now.text (form_in (codes "type") d)
    (form d) (inner_type d c.requires.object (sym c.in_default.ensures)) c.read_member.ensures.err

pub read_object-returns-in-Record-clause-ok : goal.read_object-returns-in-Record-clause-ok
read_object-returns-in-Record-clause-ok t c =
    let d = view c.args.value.now in
    type_ok c.read_record.result c.args.self.now c.read_record.new.self c.args.namespace.now.text (record_in d) (form d)
    (worded_type d c.in-Some.name.now word.Record c.requires.object
    (sym c.in-Some.ensures) (sym c.in-Record.ensures)) c.read_record.ensures.ok

pub read_object-returns-in-Record-clause-err : goal.read_object-returns-in-Record-clause-err
read_object-returns-in-Record-clause-err t c =
    let d = view c.args.value.now in
    type_err c.read_record.result c.args.self.now c.args.namespace.now.text (record_in d) (form d)
    (worded_type d c.in-Some.name.now word.Record c.requires.object
    (sym c.in-Some.ensures) (sym c.in-Record.ensures)) c.read_record.ensures.err

pub read_object-returns-in-Enum-clause-ok : goal.read_object-returns-in-Enum-clause-ok
read_object-returns-in-Enum-clause-ok t c =
    let d = view c.args.value.now in
    type_ok c.read_enum.result c.args.self.now c.read_enum.new.self c.args.namespace.now.text (enum_in d) (form d) (
    worded_type d c.in-Some.name.now word.Enum c.requires.object (sym c.in-Some.ensures) (sym c.in-Enum.ensures)) c.read_enum.ensures.ok

pub read_object-returns-in-Enum-clause-err : goal.read_object-returns-in-Enum-clause-err
read_object-returns-in-Enum-clause-err t c =
    let d = view c.args.value.now in
    type_err c.read_enum.result c.args.self.now c.args.namespace.now.text (enum_in d) (form d) (
    worded_type d c.in-Some.name.now word.Enum c.requires.object (sym c.in-Some.ensures) (sym c.in-Enum.ensures)) c.read_enum.ensures.err

pub read_object-returns-in-Fixed-clause-ok : goal.read_object-returns-in-Fixed-clause-ok
read_object-returns-in-Fixed-clause-ok t c =
    let d = view c.args.value.now in
    type_ok c.read_fixed.result c.args.self.now c.read_fixed.new.self c.args.namespace.now.text (fixed_in d) (form d)
    (worded_type d c.in-Some.name.now word.Fixed c.requires.object
    (sym c.in-Some.ensures) (sym c.in-Fixed.ensures)) c.read_fixed.ensures.ok

pub read_object-returns-in-Fixed-clause-err : goal.read_object-returns-in-Fixed-clause-err
read_object-returns-in-Fixed-clause-err t c =
    let d = view c.args.value.now in
    type_err c.read_fixed.result c.args.self.now c.args.namespace.now.text (fixed_in d) (form d)
    (worded_type d c.in-Some.name.now word.Fixed c.requires.object
    (sym c.in-Some.ensures) (sym c.in-Fixed.ensures)) c.read_fixed.ensures.err

pub read_object-returns-in-Array-clause-ok : goal.read_object-returns-in-Array-clause-ok
read_object-returns-in-Array-clause-ok t c =
    let d = view c.args.value.now in
    type_ok c.read_array.result c.args.self.now c.read_array.new.self c.args.namespace.now.text (array_in d) (form d)
    (worded_type d c.in-Some.name.now word.Array c.requires.object
    (sym c.in-Some.ensures) (sym c.in-Array.ensures)) c.read_array.ensures.ok

pub read_object-returns-in-Array-clause-err : goal.read_object-returns-in-Array-clause-err
read_object-returns-in-Array-clause-err t c =
    let d = view c.args.value.now in
    type_err c.read_array.result c.args.self.now c.args.namespace.now.text (array_in d) (form d)
    (worded_type d c.in-Some.name.now word.Array c.requires.object
    (sym c.in-Some.ensures) (sym c.in-Array.ensures)) c.read_array.ensures.err

pub read_object-returns-in-Map-clause-ok : goal.read_object-returns-in-Map-clause-ok
read_object-returns-in-Map-clause-ok t c =
    let d = view c.args.value.now in
    type_ok c.read_map.result c.args.self.now c.read_map.new.self c.args.namespace.now.text (map_in d) (form d)
    (worded_type d c.in-Some.name.now word.Map c.requires.object (sym c.in-Some.ensures) (sym c.in-Map.ensures)) c.read_map.ensures.ok

pub read_object-returns-in-Map-clause-err : goal.read_object-returns-in-Map-clause-err
read_object-returns-in-Map-clause-err t c =
    let d = view c.args.value.now in
    type_err c.read_map.result c.args.self.now c.args.namespace.now.text (map_in d) (form d)
    (worded_type d c.in-Some.name.now word.Map c.requires.object (sym c.in-Some.ensures) (sym c.in-Map.ensures)) c.read_map.ensures.err

pub read_object-returns-in-Other-clause-ok : goal.read_object-returns-in-Other-clause-ok
read_object-returns-in-Other-clause-ok t c =
    let d = view c.args.value.now in
    type_ok c.read_name.result c.args.self.now c.read_name.new.self c.args.namespace.now.text (form_of_name c.in-Some.name.now) (form d)
    (worded_type d c.in-Some.name.now word.Other c.requires.object
    (sym c.in-Some.ensures) (sym c.in-Other.ensures)) c.read_name.ensures.ok

pub read_object-returns-in-Other-clause-err : goal.read_object-returns-in-Other-clause-err
read_object-returns-in-Other-clause-err t c =
    let d = view c.args.value.now in
    type_err c.read_name.result c.args.self.now c.args.namespace.now.text (form_of_name c.in-Some.name.now) (form d)
    (worded_type d c.in-Some.name.now word.Other c.requires.object
    (sym c.in-Some.ensures) (sym c.in-Other.ensures)) c.read_name.ensures.err

pub read_object-returns-in-Error-clause-err : goal.read_object-returns-in-Error-clause-err
read_object-returns-in-Error-clause-err t c =
    let d = view c.args.value.now in
    λ ds met.
    subst (λ f. IsRefusalBy (type_faults ds c.args.namespace.now.text f (opened c.args.self.now)) fault.BadForm)
    (sym (worded_type d c.in-Some.name.now word.Error c.requires.object (sym c.in-Some.ensures) (sym c.in-Error.ensures)))
    (refused_ill_formed ds c.args.namespace.now.text (opened c.args.self.now))

pub read_field-returns-in_err-names-clause-err : goal.read_field-returns-in_err-names-clause-err
read_field-returns-in_err-names-clause-err t c =
    let d = view c.args.value.now in
    exit_err c.from_residual.result (RefusesField c.args.self.now c.args.namespace.now.text (field_heading_of d) (form_in (codes "type") d))
    c.in_err-names.field-0.0 c.from_residual.ensures.1
    (λ ds met. left _ _ _ c.in_err-names.ensures.err)

pub read_field-returns-in_err-node-clause-err : goal.read_field-returns-in_err-node-clause-err
read_field-returns-in_err-node-clause-err t c =
    let d = view c.args.value.now in
    exit_err c.from_residual-in_err-node.result (
    RefusesField c.args.self.now c.args.namespace.now.text (field_heading_of d)
    (form_in (codes "type") d)) c.in_err-node.field-0.0 c.from_residual-in_err-node.ensures.1
    (λ ds met. right (field_faults (field_heading_of d)) _ _ (c.in_err-node.ensures.err ds met))

pub read_record-returns-in_default-clause-err : goal.read_record-returns-in_default-clause-err
read_record-returns-in_default-clause-err t c =
    let d = view c.args.value.now in
    let none : written_fields d ≡ ill_fields = ap fields_or_ill (sym c.in_default.ensures) in
    λ ds met.
    refused_list ds c.args.namespace.now.text (heading_of d) (written_fields d) (opened c.args.self.now) fault.BadForm
    (subst (λ (fs : Fields). IsRefusalBy (field_list_faults fs) fault.BadForm) (sym none) refused_no_fields)

pub read_record-read_fields-requires : goal.read_record-read_fields-requires
read_record-read_fields-requires t c =
    let d = view c.args.value.now in
    let ds = items_view c.in-Some.items.now.items in
    let h : suc (items_depth ds) < depth d = items_at-depth (codes "fields") d ds (sym c.in-Some.ensures) in
    (omega arith, (items_at-plain (codes "fields") d ds (sym c.in-Some.ensures) c.requires.plain, c.in_ok-record.ensures.ok.numbered))

pub read_record-returns-in_err-fields-clause-err : goal.read_record-returns-in_err-fields-clause-err
read_record-returns-in_err-fields-clause-err t c =
    let d = view c.args.value.now in
    let a = c.args.self.now in
    let b = c.open_type.new.self in
    let o = c.in_ok-record.ensures.ok in
    let r = names_of c.in_ok-record.record in
    let ns = c.args.namespace.now.text in
    let given = fields_of_items (items_view c.in-Some.items.now.items) in
    let fs : written_fields d ≡ given = ap fields_or_ill (sym c.in-Some.ensures) in
    let e = c.in_err-fields.field-0.0 in
    exit_err c.from_residual-in_err-fields.result (RefusesType a ns (record_in d)) e c.from_residual-in_err-fields.ensures.1
    (λ ds met. subst (λ (gs : Fields). IsRefusalBy (type_faults ds ns (record_of (heading_of d) gs) (opened a)) e) (sym fs)
    (refused_fields ds ns (heading_of d) r given (opened a) (opened b) _ o.has (opened-more _ a b o.opens)
    (subst (λ (m : List ℕ). RefusesFields b m given e) o.inside c.in_err-fields.ensures.err _
    (defined_at b ds r _ _ o.place (o.met ds met).0))))

pub read_record-close_record-requires : goal.read_record-close_record-requires
read_record-close_record-requires t c =
    let o = c.in_ok-record.ensures.ok in
    let lt : c.in_ok-record.record.index < opened c.read_fields.new.self = still_there c.args.self.now c.open_type.new.self
    c.read_fields.new.self _ c.in_ok-record.record.index o.place o.opens c.in_ok-fields.ensures.ok.0 in
    lt

pub read_record-returns-clause-ok : goal.read_record-returns-clause-ok
read_record-returns-clause-ok t c =
    let d = view c.args.value.now in
    let a = c.args.self.now in
    let b = c.open_type.new.self in
    let o = c.in_ok-record.ensures.ok in
    let r = names_of c.in_ok-record.record in
    let gs = c.in_ok-fields.fields.items in
    let given = fields_of_items (items_view c.in-Some.items.now.items) in
    let fs : written_fields d ≡ given = ap fields_or_ill (sym c.in-Some.ensures) in
    let reads : ReadsFields b c.read_fields.new.self r.name.namespace given gs =
    subst (λ (m : List ℕ). ReadsFields b c.read_fields.new.self m given gs) o.inside c.in_ok-fields.ensures.ok in
    let all : ReadsFields b c.read_fields.new.self r.name.namespace (written_fields d) gs =
    subst (λ (hs : Fields). ReadsFields b c.read_fields.new.self r.name.namespace hs gs) (sym fs) reads in
    IfOk-weaker c.close_record.result (ClosesRecord c.read_fields.new.self c.close_record.new.self c.in_ok-record.record gs)
    (ReadsType a c.close_record.new.self c.args.namespace.now.text (record_in d)) (λ i closes.
    subst (ReadsType a c.close_record.new.self c.args.namespace.now.text (record_in d)) (sym closes.id)
    (record_read a b c.read_fields.new.self c.close_record.new.self c.args.namespace.now.text (heading_of d) r
    (written_fields d) o.first c.in_ok-record.record.index gs gs r.aliases.items true o.has o.place o.opens o.met o.keeps all
    (sym closes.distinct) refl refl refl closes.nodes closes.names)) c.close_record.ensures.ok

pub read_branches-read_type-requires : goal.read_branches-read_type-requires
read_branches-read_type-requires t c =
    let vs = c.args.items.now.items in
    let i = c.loop-item.item-index in
    let lt : i < length vs = omega (arith, ap length c.deref-item-items.ensures.value) in
    let is : c.item-item.result ≡ get_or vs i c.item-item.result =
    c.item-item.is ∙ ap (λ l. get_or l i c.item-item.result) c.deref-item-items.ensures.value in
    let h : depth (view c.item-item.result) ≤ items_depth (items_view vs) =
    subst (λ v. depth (view v) ≤ items_depth (items_view vs)) (sym is) (item-depth vs i c.item-item.result lt) in (
      omega arith,
      (
        subst (λ v. IsPlain (view v)) (sym is) (item-plain vs i c.item-item.result lt c.requires.plain),
        c.loop-item.invariant.3 _ _ c.requires.numbered,
      ),
    )

pub read_fields-read_field-requires : goal.read_fields-read_field-requires
read_fields-read_field-requires t c =
    let vs = c.args.items.now.items in
    let i = c.loop-item.item-index in
    let lt : i < length vs = omega (arith, ap length c.deref-item-items.ensures.value) in
    let is : c.item-item.result ≡ get_or vs i c.item-item.result =
    c.item-item.is ∙ ap (λ l. get_or l i c.item-item.result) c.deref-item-items.ensures.value in
    let h : depth (view c.item-item.result) ≤ items_depth (items_view vs) =
    subst (λ v. depth (view v) ≤ items_depth (items_view vs)) (sym is) (item-depth vs i c.item-item.result lt) in (
      omega arith,
      (
        subst (λ v. IsPlain (view v)) (sym is) (item-plain vs i c.item-item.result lt c.requires.plain),
        c.loop-item.invariant.1 _ _ c.requires.numbered,
      ),
    )

pub read_branches-loop-item-init : goal.read_branches-loop-item-init
read_branches-loop-item-init t c = (
  [],
  c.new-kinds.ensures,
  omega arith,
  λ ns i h. h,
  λ ds met.
      subst
      (λ l.
      BranchesFit c.args.self.now c.args.namespace.now.text (forms (items_view c.deref-item-items.result.now)) c.args.self.now
      (forms (items_view c.deref-item-items.result.now)) l [] ds)
      (sym c.in_ok-branches.ensures.items)
      (fit_start c.args.self.now c.args.namespace.now.text (forms (items_view c.deref-item-items.result.now)) ds met),
)

pub read_branches-returns-then-not-branch-clause-err : goal.read_branches-returns-then-not-branch-clause-err
read_branches-returns-then-not-branch-clause-err t c =
    let a = c.args.self.now in
    let now = c.loop-item.self in
    let next = c.read_type.new.self in
    let ns = c.args.namespace.now.text in
    let vs = c.deref-item-items.result.now in
    let i = c.loop-item.item-index in
    let inv = c.loop-item.invariant in
    let j = c.in_ok-branch.branch in
    let before : c.len-before.result ≡ opened now = omega (arith, c.len-before.ensures, now.nodes.ok.0) in
    let kind : c.branch_kind.result ≡ branch_kind (opened now) (nodes_of next) j =
    c.branch_kind.ensures ∙ ap (λ n. branch_kind n (nodes_of next) j) before in
    let may : may_stand (branch_kind (opened now) (nodes_of next) j) inv.0 ≡ false =
    ap (λ k. may_stand k inv.0) (sym kind) ∙ sym (c.in_ok-add.ensures inv.0 inv.1).1 ∙ c.if-not-branch.true in
    λ ds met.
    subst (λ ws. IsRefusalBy (branches_faults ds ns (forms (items_view ws)) (opened a)) fault.BadUnion) c.deref-item-items.ensures.value
    (branches_twice a now next ns (forms (items_view vs)) (forms (items_view (drop i vs)))
    (forms (items_view (drop (i + 1) vs))) (form (view c.item-item.result)) c.loop-item.branches.items inv.0 j ds
    (next_forms vs i c.item-item.result (omega arith) c.item-item.is) (inv.4 ds met) c.in_ok-branch.ensures.ok may)

pub read_branches-returns-in_err-branch-clause-err : goal.read_branches-returns-in_err-branch-clause-err
read_branches-returns-in_err-branch-clause-err t c =
    let a = c.args.self.now in
    let ns = c.args.namespace.now.text in
    let vs = c.deref-item-items.result.now in
    let i = c.loop-item.item-index in
    let e = c.in_err-branch.field-0.0 in
    exit_err c.from_residual-in_err-branch.result (RefusesBranches a ns
    (forms (items_view c.args.items.now.items))) e c.from_residual-in_err-branch.ensures.1
    (λ ds met. subst (λ ws. IsRefusalBy (branches_faults ds ns (forms (items_view ws)) (opened a)) e) c.deref-item-items.ensures.value
    (branches_no a c.loop-item.self ns (forms (items_view vs)) (forms (items_view (drop i vs))) (forms (items_view (drop (i + 1) vs)))
    (form (view c.item-item.result)) c.loop-item.branches.items c.loop-item.invariant.0 ds e
    (next_forms vs i c.item-item.result (omega arith) c.item-item.is) (c.loop-item.invariant.4 ds met) c.in_err-branch.ensures.err))

pub read_branches-loop-item-preserved : goal.read_branches-loop-item-preserved
read_branches-loop-item-preserved t c =
    let a = c.args.self.now in
    let now = c.loop-item.self in
    let next = c.read_type.new.self in
    let ns = c.args.namespace.now.text in
    let vs = c.deref-item-items.result.now in
    let i = c.loop-item.item-index in
    let inv = c.loop-item.invariant in
    let j = c.in_ok-branch.branch in
    let m = branch_kind (opened now) (nodes_of next) j in
    let added = c.in_ok-add.ensures inv.0 inv.1 in
    let before : c.len-before.result ≡ opened now = omega (arith, c.len-before.ensures, now.nodes.ok.0) in
    let kind : c.branch_kind.result ≡ m = c.branch_kind.ensures ∙ ap (λ n. branch_kind n (nodes_of next) j) before in
    let may : may_stand m inv.0 ≡ true = ap (λ k. may_stand k inv.0) (sym kind) ∙ sym added.1 ∙ c.if-not-branch.false in
    let le : opened a ≤ opened next = omega (arith, inv.2, c.in_ok-branch.ensures.ok.0) in (
      inv.0 ++ m ∷ [],
      subst (λ k. HoldsKinds c.add.new.self (inv.0 ++ k ∷ [])) kind added.0,
      le,
      keeps_from a now next inv.3 c.in_ok-branch.ensures.ok.2,
      λ ds met.
          subst (λ l. BranchesFit a ns (forms (items_view vs)) next (forms (items_view (drop (i + 1) vs))) l (inv.0 ++ m ∷ []) ds)
          (sym c.in_ok-push.ensures.items)
          (branches_next a now next ns (forms (items_view vs)) (forms (items_view (drop i vs)))
          (forms (items_view (drop (i + 1) vs))) (form (view c.item-item.result)) c.loop-item.branches.items inv.0 j ds
          (next_forms vs i c.item-item.result (omega arith) c.item-item.is) (inv.4 ds met) c.in_ok-branch.ensures.ok may),
    )

pub read_branches-returns-clause-ok : goal.read_branches-returns-clause-ok
read_branches-returns-clause-ok t c =
    let a = c.args.self.now in
    let ns = c.args.namespace.now.text in
    let vs = c.deref-item-items.result.now in
    let i = c.loop-item.item-index in
    let inv = c.loop-item.invariant in (
      inv.2,
      λ ds met.
          subst (λ ws.
          AreBranchesRead ds ns (forms (items_view ws)) a c.loop-item.self c.loop-item.branches.items) c.deref-item-items.ensures.value
          (branches_done a c.loop-item.self ns (forms (items_view vs))
          (forms (items_view (drop i vs))) c.loop-item.branches.items inv.0 ds (no_forms_left vs i (omega arith)) (inv.4 ds met)),
      inv.3,
    )

pub read_fields-loop-item-init : goal.read_fields-loop-item-init
read_fields-loop-item-init t c =
    let fs = fields_of_items (items_view c.deref-item-items.result.now) in (
      omega arith,
      λ ns i h. h,
      λ ds met. (
        subst (λ l. FieldsAlong c.args.self.now c.args.namespace.now.text fs c.args.self.now fs l ds)
            (sym c.in_ok-fields.ensures.items) (fields_start c.args.self.now c.args.namespace.now.text fs ds met),
        tests_start fs,
      ),
    )

pub read_fields-returns-in_err-field-clause-err : goal.read_fields-returns-in_err-field-clause-err
read_fields-returns-in_err-field-clause-err t c =
    let a = c.args.self.now in
    let ns = c.args.namespace.now.text in
    let vs = c.deref-item-items.result.now in
    let i = c.loop-item.item-index in
    let d = view c.item-item.result in
    let e = c.in_err-field.field-0.0 in
    exit_err c.from_residual-in_err-field.result (RefusesFields a ns
    (fields_of_items (items_view c.args.items.now.items))) e c.from_residual-in_err-field.ensures.1
    (λ ds met.
    let now = c.loop-item.invariant.2 ds met in
    subst (λ ws. IsRefusalBy (fields_faults ds ns (fields_of_items (items_view ws)) (opened a)) e) c.deref-item-items.ensures.value
    (fields_no a c.loop-item.self ns (fields_of_items (items_view vs)) (fields_of_items (items_view (drop i vs)))
    (fields_of_items (items_view (drop (i + 1) vs))) (field_heading_of d) (form_in (codes "type") d) c.loop-item.fields.items ds e
    (next_fields vs i c.item-item.result (omega arith) c.item-item.is) now.0 now.1 c.in_err-field.ensures.err))

pub read_fields-loop-item-preserved : goal.read_fields-loop-item-preserved
read_fields-loop-item-preserved t c =
    let a = c.args.self.now in
    let ns = c.args.namespace.now.text in
    let vs = c.deref-item-items.result.now in
    let i = c.loop-item.item-index in
    let d = view c.item-item.result in
    let all = fields_of_items (items_view vs) in
    let rest = fields_of_items (items_view (drop i vs)) in
    let more = fields_of_items (items_view (drop (i + 1) vs)) in
    let le : opened a ≤ opened c.read_field.new.self = omega (arith, c.loop-item.invariant.0, c.in_ok-field.ensures.ok.0) in
    let is = next_fields vs i c.item-item.result (omega arith) c.item-item.is in (
      le,
      keeps_from a c.loop-item.self c.read_field.new.self c.loop-item.invariant.1 c.in_ok-field.ensures.ok.2,
      λ ds met.
          let now = c.loop-item.invariant.2 ds met in (
            subst (λ l. FieldsAlong a ns all c.read_field.new.self more l ds) (sym c.in_ok-push.ensures.items)
                (fields_next a c.loop-item.self c.read_field.new.self ns all rest more (field_heading_of d)
                (form_in (codes "type") d) c.loop-item.fields.items c.in_ok-field.field ds is now.0 c.in_ok-field.ensures.ok),
            tests_read all rest more (field_heading_of d) (form_in (codes "type") d) a c.loop-item.self c.read_field.new.self
                ns c.loop-item.fields.items c.in_ok-field.field ds is now.0 now.1 c.in_ok-field.ensures.ok,
          ),
    )

pub read_fields-returns-clause-ok : goal.read_fields-returns-clause-ok
read_fields-returns-clause-ok t c =
    let a = c.args.self.now in
    let ns = c.args.namespace.now.text in
    let vs = c.deref-item-items.result.now in
    let i = c.loop-item.item-index in (
      c.loop-item.invariant.0,
      λ ds met.
          let now = c.loop-item.invariant.2 ds met in
          subst (λ ws. AreFieldsRead ds ns (fields_of_items (items_view ws)) a c.loop-item.self c.loop-item.fields.items)
          c.deref-item-items.ensures.value
          (fields_done a c.loop-item.self ns (fields_of_items (items_view vs))
          (fields_of_items (items_view (drop i vs))) c.loop-item.fields.items ds (no_fields_left vs i (omega arith)) now.0 now.1),
      c.loop-item.invariant.1,
    )

pub read_record-returns-clause-err : goal.read_record-returns-clause-err
read_record-returns-clause-err t c =
    let d = view c.args.value.now in
    let a = c.args.self.now in
    let b = c.open_type.new.self in
    let o = c.in_ok-record.ensures.ok in
    let r = names_of c.in_ok-record.record in
    let gs = c.in_ok-fields.fields.items in
    let given = fields_of_items (items_view c.in-Some.items.now.items) in
    let fs : written_fields d ≡ given = ap fields_or_ill (sym c.in-Some.ensures) in
    let reads : ReadsFields b c.read_fields.new.self r.name.namespace given gs =
    subst (λ (m : List ℕ). ReadsFields b c.read_fields.new.self m given gs) o.inside c.in_ok-fields.ensures.ok in
    IfErr-weaker c.close_record.result (IsRefusalBy (unless (all_distinct bytes_eq (map (λ g. g.name) gs)) fault.BadForm))
    (RefusesType a c.args.namespace.now.text (record_in d)) (λ e refused ds met.
    let read = reads.1 (ds ++ definition_of r (opened a) ∷ []) (defined_at b ds r _ _ o.place (o.met ds met).0) in
    let tests = tested_names _ r.name.namespace given b c.read_fields.new.self _ _ read refl in
    refused_list ds c.args.namespace.now.text (heading_of d) (written_fields d) (opened a) e
    (subst (λ (hs : Fields). IsRefusalBy (field_list_faults hs) e) (sym fs) (refused_same_names given _ e tests refused)))
    c.close_record.ensures.err

pub read_array-read_member-requires : goal.read_array-read_member-requires
read_array-read_member-requires t c =
    (omega arith, (c.requires.plain, keeps_same c.args.self.now c.reserve.new.self c.reserve.ensures.names _ _ c.requires.numbered))

pub read_map-read_member-requires : goal.read_map-read_member-requires
read_map-read_member-requires t c =
    (omega arith, (c.requires.plain, keeps_same c.args.self.now c.reserve.new.self c.reserve.ensures.names _ _ c.requires.numbered))

pub read_union-read_branches-requires : goal.read_union-read_branches-requires
read_union-read_branches-requires t c =
    (omega arith, (c.requires.plain, keeps_same c.args.self.now c.reserve.new.self c.reserve.ensures.names _ _ c.requires.numbered))

pub read_field-read_member-requires : goal.read_field-read_member-requires
read_field-read_member-requires t c = (omega arith, (c.requires.plain, c.requires.numbered))

pub read_object-read_member-requires : goal.read_object-read_member-requires
read_object-read_member-requires t c = (omega arith, (c.requires.plain, c.requires.numbered))

pub read_object-read_array-requires : goal.read_object-read_array-requires
read_object-read_array-requires t c = (omega arith, (c.requires.plain, c.requires.numbered))

pub read_object-read_map-requires : goal.read_object-read_map-requires
read_object-read_map-requires t c = (omega arith, (c.requires.plain, c.requires.numbered))

pub read_object-read_record-requires : goal.read_object-read_record-requires
read_object-read_record-requires t c = (omega arith, (c.requires.plain, c.requires.numbered))

pub read_record-returns-in_err-record-clause-err : goal.read_record-returns-in_err-record-clause-err
read_record-returns-in_err-record-clause-err t c =
    let d = view c.args.value.now in
    let a = c.args.self.now in
    let ns = c.args.namespace.now.text in
    exit_err c.from_residual.result (RefusesType a ns (record_in d)) c.in_err-record.field-0.0 c.from_residual.ensures.1
    (λ ds met. refused_opening_record ds ns (heading_of d) (written_fields d) (opened a) _ (c.in_err-record.ensures.err ds met))
