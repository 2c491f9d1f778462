-- Only the names of objects matter to the bodies of a text.
use Rattle.std.proofs.Common.{◌≡◌, ℕ, ◌+◌, ◌||◌, nat_le, nat_lt, List, [], ◌∷◌, ◌++◌, Bool, length, Option, Some, map}
use Rattle.std.proofs.Common.{refl, sym, ap, ap₂, ◌∙◌, subst}
use Rattle.std.specs.Prelude.{if◌then◌else◌}
use Rattle.fmp_base.specs.declared.events.Event.{Event}
use Rattle.fmp_base.specs.declared.names.Name.{Name}
use Rattle.fmp_base.specs.Names.{name_text}
use Rattle.fmp_base.specs.Systems.{SystemTables}
use Rattle.fmp_lex.specs.declared.fault.FaultKind.TheVariants as fault
use Rattle.fmp_tasklang.specs.declared.trees.Declaration.{Declaration}
use Rattle.fmp_tasklang.specs.Layout.{Local, local_of, places_of, exinf_local, locals_of, total_places}
use Rattle.fmp_tasklang.specs.Trees.{BodyTree}
use Rattle.fmp_tasklang.specs.Scopes.{Scope, object_names, object_number, scope_of}
use Rattle.fmp_instructions.specs.declared.instructions.Instruction.TheVariants.{End}
use Rattle.fmp_instructions.specs.Instructions.{BodyTables}
use Rattle.fmp_scopes.specs.declared.offences.Offence.{Offence}
use Rattle.fmp_codegen.specs.Compiling.{is_among, length_offence, variables_offence, size_offence, body_offence}
use Rattle.fmp_codegen.specs.Compiling.{bodies_offence, compiled_body, compiled, IsAccepted}
use Rattle.fmp_scopes.specs.Scopes.{is_object}
use Rattle.fmp_scopes.specs.DepthTables.{body_depths}
use Rattle.fmp_scopes.specs.Naming.{is_known, first_offence, uses_offence, block_uses}
use Rattle.fmp_codegen.specs.Laws.{DoesText}
use Rattle.fmp_codegen.specs.Runs.{PrintsText}
use Rattle.fmp_scopes.specs.Scheme.{block_code}
use Rattle.fmp_scopes.specs.Sizes.{block_size}
use Rattle.fmp_image_bytes.specs.Images.{ImageTables}
use Rattle.fmp_image.specs.Building.{built_task, built_cyclic, built_tables, built_image}

-- a change of rows that keeps what f sees of them
pub kept : {A B : Type 0} (f : A → B) (change : A → A) (same : (a : A) → f (change a) ≡ f a) (rows : List A)
    → map f (map change rows) ≡ map f rows
kept f change same [] = refl
kept f change same (r ∷ rs) = ap₂ (λ b bs. b ∷ bs) (same r) (kept f change same rs)

pub names_kept : (bodies : List BodyTree) (tables : SystemTables) → object_names (built_tables bodies tables)
    ≡ object_names tables
names_kept bodies tables =
    let tasks = kept (λ t. t.name) (built_task bodies) (λ t. refl) tables.tasks in
    let cyclics = kept (λ c. c.name) (built_cyclic bodies) (λ c. refl) tables.cyclics in
    cc

module _ (a b : SystemTables) (same : object_names a ≡ object_names b) where
  object_same : (name : Name) → is_object a name ≡ is_object b name
  object_same name = ap (λ objects. is_known (object_number (name_text name) objects)) same

  variables_same : (ls : List Local) (ds : List Declaration) → variables_offence a ls ds ≡ variables_offence b ls ds
  variables_same ls [] = refl
  variables_same ls (d ∷ ds) =
      let limit : Offence = record { at = d.name.at; why = fault.Limit } in
      let twice : Offence = record { at = d.name.at; why = fault.TwiceNamed } in
      let names = map (λ (l : Local). l.name) ls in
      ap₂ (λ (object : Bool) (rest : Option Offence).
      if nat_lt 64 (total_places ls + places_of d.length) then Some limit
      else (if is_among d.name.name names || object then Some twice else first_offence (length_offence d.length) rest))
      (object_same d.name.name) (variables_same (ls ++ local_of d ∷ []) ds)

  scope_same : (body : BodyTree) → scope_of a body ≡ scope_of b body
  scope_same body =
      let with_objects : List (List Name) → Scope = λ objects. record { objects = objects; locals = locals_of body } in
      ap with_objects same

  body_same : (names : List Name) (body : BodyTree) → body_offence a names body ≡ body_offence b names body
  body_same names body =
      let limit : Offence = record { at = body.at; why = fault.Limit } in
      let twice : Offence = record { at = body.name.at; why = fault.TwiceNamed } in
      ap₂ (λ (variables : Option Offence) (scope : Scope).
      if nat_le 255 (length names) then Some limit
      else (if is_among body.name.name names then Some twice
      else first_offence variables (first_offence (uses_offence scope (block_uses body.statements))
      (size_offence body))))
      (variables_same (exinf_local ∷ []) body.variables) (scope_same body)

  pub bodies_same : (names : List Name) (bodies : List BodyTree) → bodies_offence a names bodies
      ≡ bodies_offence b names bodies
  bodies_same names [] = refl
  bodies_same names (x ∷ xs) = ap₂ first_offence (body_same names x) (bodies_same (names ++ x.name.name ∷ []) xs)

  compiled_body_same : (body : BodyTree) → compiled_body a body ≡ compiled_body b body
  compiled_body_same body =
      let with_scope : Scope → BodyTables = λ scope. record {
        locals = total_places (locals_of body);
        instructions = block_code scope body.statements 0 (block_size body.statements) (block_size body.statements)
            ++ End ∷ [];
        depths = body_depths body;
      } in
      ap with_scope (scope_same body)

  pub compiled_same : (bodies : List BodyTree) → compiled a bodies ≡ compiled b bodies
  compiled_same [] = refl
  compiled_same (x ∷ xs) = ap₂ (λ y ys. y ∷ ys) (compiled_body_same x) (compiled_same xs)

-- so running the code over the tables with numbers of bodies prints what the text means
pub built_prints :
    (tables : SystemTables) (bodies : List BodyTree) (i : ImageTables) (n : ℕ) (es : List Event) →
    (IsAccepted (built_tables bodies tables) bodies →
    PrintsText (built_tables bodies tables) bodies (compiled (built_tables bodies tables) bodies) n es) →
    IsAccepted tables bodies → i ≡ built_image tables bodies → PrintsText i.system bodies i.code n es
built_prints tables bodies i n es run accepted is =
    let built = built_tables bodies tables in
    let same = names_kept bodies tables in
    let prints = run (bodies_same built tables same [] bodies ∙ accepted) in
    subst (λ (j : ImageTables). PrintsText j.system bodies j.code n es) (sym is)
    (subst (λ (code : List BodyTables). PrintsText built bodies code n es)
    (compiled_same built tables same bodies) prints)

-- and so it does what the text does
pub built_does :
    (tables : SystemTables) (bodies : List BodyTree) (i : ImageTables) →
    (IsAccepted (built_tables bodies tables) bodies →
    DoesText (built_tables bodies tables) bodies (compiled (built_tables bodies tables) bodies)) →
    IsAccepted tables bodies → i ≡ built_image tables bodies → DoesText i.system bodies i.code
built_does tables bodies i law accepted is =
    let built = built_tables bodies tables in
    let same = names_kept bodies tables in
    let does = law (bodies_same built tables same [] bodies ∙ accepted) in
    subst (λ (j : ImageTables). DoesText j.system bodies j.code) (sym is)
    (subst (λ (code : List BodyTables). DoesText built bodies code) (compiled_same built tables same bodies) does)
