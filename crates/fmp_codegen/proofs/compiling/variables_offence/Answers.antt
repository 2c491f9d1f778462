use Rattle.std.proofs.Common.{◌≡◌, ◌+◌, ◌≤◌, ◌∷◌, [], true, false, None, map, take, get_or, refl, sym, ◌∙◌, arith}
use Rattle.std.specs.Str.{bytes_eq}
use Rattle.std.proofs.lemmas.List.{get_or_default}
use Rattle.fmp_base.specs.Names.{name_text}
use Rattle.fmp_base.specs.Systems.{tables_of}
use Rattle.fmp_tasklang.specs.declared.trees.Declaration.{Declaration}
use Rattle.fmp_tasklang.specs.Layout.{places_of, exinf_name, exinf_local, total_places}
use Rattle.fmp_codegen.specs.Compiling.{is_among, length_offence, variables_offence}
use Rattle.fmp_scopes.specs.Scopes.{is_object, locals_with}
use Rattle.fmp_scopes.proofs.Sums.{no_declaration}
use Rattle.fmp_codegen.proofs.Bodies.{length_some}
use Rattle.fmp_codegen.proofs.Variables.{places-on, variable-on, variable-twice, variable-length}
use Rattle.fmp_codegen.proofs.compiling.variables_offence.Goals as goal
use Rattle.fmp_codegen.proofs.compiling.variables_offence.Goals.{then-is_exinf-via-then-is_exinf}
use Rattle.fmp_codegen.proofs.compiling.variables_offence.Goals.{then-is_exinf-via-else-is_exinf+then-is_named_before}
use Rattle.fmp_codegen.proofs.compiling.variables_offence.Goals.{then-is_exinf-via-else-is_exinf+else-is_named_before+then-is_object}

pub loop-i-preserved : goal.loop-i-preserved
loop-i-preserved c =
    let tables = tables_of c.args.objects.now.system.now in
    let variables = c.args.variables.now in
    let i = c.loop-i.i in
    let d = get_or variables i no_declaration in
    let read = get_or_default variables i no_declaration d c.loop-i-test.true in
    let few : total_places (locals_with (take i variables)) + places_of d.length ≤ 64 =
    omega (
      arith,
      c.loop-i.invariant.counted,
      c.places_of_length-places.ensures.places,
      c.if-places-gt-MOST_PLACES.false,
    ) in
    let first : bytes_eq (name_text d.name.name) (name_text exinf_name) ≡ false = sym c.is_exinf.ensures
    ∙ c.if-is_exinf.false in
    let among : is_among d.name.name (map (λ (v : Declaration). v.name.name) (take i variables)) ≡ false =
    sym c.is_named_before.ensures ∙ c.if-is_named_before.false in
    let object : is_object tables d.name.name ≡ false = sym c.is_object.ensures ∙ c.if-is_object.false in
    let right : length_offence d.length ≡ None = sym c.length_offence.ensures ∙ c.in_default.is in
    let some = length_some d.length right in
    record {
      rest = variable-on tables variables i d c.loop-i-test.true read (variables_offence tables
          (exinf_local ∷ []) variables) few
          first among object right c.loop-i.invariant.rest;
      counted = omega (
        arith,
        c.loop-i.invariant.counted,
        c.places_of_length-places.ensures.places,
        places-on tables
            variables i d c.loop-i-test.true read,
      );
      low = c.if-places-gt-MOST_PLACES.false;
      few = omega (arith, some, c.places_of_length-places.ensures.places, c.loop-i.invariant.few);
    }

pub returns-then-is_exinf-clause-first : goal.returns-then-is_exinf-clause-first
returns-then-is_exinf-clause-first c =
    let tables = tables_of c.args.objects.now.system.now in
    let variables = c.args.variables.now in
    let i = c.loop-i.i in
    let d = get_or variables i no_declaration in
    let read = get_or_default variables i no_declaration d c.loop-i-test.true in
    let few : total_places (locals_with (take i variables)) + places_of d.length ≤ 64 =
    omega (
      arith,
      c.loop-i.invariant.counted,
      c.places_of_length-places.ensures.places,
      c.if-places-gt-MOST_PLACES.false,
    ) in
    let whole = variables_offence tables (exinf_local ∷ []) variables in
    let among = is_among d.name.name (map (λ (v : Declaration). v.name.name) (take i variables)) in
    let object = is_object tables d.name.name in
    elim c.then-is_exinf.branch [
      | then-is_exinf-via-then-is_exinf w ↦
          variable-twice tables variables i d c.loop-i-test.true read whole true among object few
          (sym c.is_exinf.ensures ∙ w.if-is_exinf.true) refl refl refl c.loop-i.invariant.rest
      | then-is_exinf-via-else-is_exinf+then-is_named_before w ↦
          variable-twice tables variables i d c.loop-i-test.true read whole false true object few
          (sym c.is_exinf.ensures ∙ w.if-is_exinf.false)
          (sym w.is_named_before.ensures ∙ w.if-is_named_before.true) refl refl c.loop-i.invariant.rest
      | then-is_exinf-via-else-is_exinf+else-is_named_before+then-is_object w ↦
          variable-twice tables variables i d c.loop-i-test.true read whole false false true few
          (sym c.is_exinf.ensures ∙ w.if-is_exinf.false)
          (sym w.is_named_before.ensures ∙ w.if-is_named_before.false)
          (sym w.is_object.ensures ∙ w.if-is_object.true) refl c.loop-i.invariant.rest
    ]

pub returns-in-Some-clause-first : goal.returns-in-Some-clause-first
returns-in-Some-clause-first c =
    let tables = tables_of c.args.objects.now.system.now in
    let variables = c.args.variables.now in
    let i = c.loop-i.i in
    let d = get_or variables i no_declaration in
    let read = get_or_default variables i no_declaration d c.loop-i-test.true in
    let few : total_places (locals_with (take i variables)) + places_of d.length ≤ 64 =
    omega (
      arith,
      c.loop-i.invariant.counted,
      c.places_of_length-places.ensures.places,
      c.if-places-gt-MOST_PLACES.false,
    ) in
    variable-length tables variables i d c.loop-i-test.true read (variables_offence tables (exinf_local ∷ []) variables)
    c.in-Some.offence few (sym c.is_exinf.ensures ∙ c.if-is_exinf.false)
    (sym c.is_named_before.ensures ∙ c.if-is_named_before.false)
    (sym c.is_object.ensures ∙ c.if-is_object.false) (sym c.in-Some.is ∙ c.length_offence.ensures)
    c.loop-i.invariant.rest
