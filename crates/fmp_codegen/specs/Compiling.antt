-- What compiling a text answers: the code of its bodies, or the first fault in order of text.
use Rattle.std.specs.Prelude.{◌≡◌, ◌+◌, List, [], ◌∷◌, ◌++◌, length, map, Option, Some, None, Result, Ok, Err, Bool}
use Rattle.std.specs.Prelude.{◌||◌, ◌&&◌, nat_le, nat_lt, is_some, if◌then◌else◌}
use Rattle.fmp_base.specs.declared.names.Name.{Name}
use Rattle.fmp_base.specs.Names.{name_text}
use Rattle.fmp_base.specs.Systems.{SystemTables}
use Rattle.fmp_lex.specs.declared.fault.BuildFault.{BuildFault}
use Rattle.fmp_lex.specs.declared.fault.BuildFault.TheVariants as build
use Rattle.fmp_lex.specs.declared.fault.FaultKind.TheVariants as fault
use Rattle.fmp_lex.specs.declared.fault.TextFile.TheVariants as file
use Rattle.fmp_lex.specs.declared.token.Token.{Token}
use Rattle.fmp_tasklang.specs.declared.trees.Declaration.{Declaration}
use Rattle.fmp_tasklang.specs.declared.trees.Length.{Length}
use Rattle.fmp_tasklang.specs.Layout.{Local, magnitude, places_of, local_of, exinf_local, locals_of, total_places}
use Rattle.fmp_tasklang.specs.Trees.{BodyTree}
use Rattle.fmp_tasklang.specs.Scopes.{place_of, scope_of}
use Rattle.fmp_instructions.specs.declared.instructions.Code as declared
use Rattle.fmp_instructions.specs.Instructions.{BodyTables, code_tables}
use Rattle.fmp_scopes.specs.Depths.{body_depth}
use Rattle.fmp_scopes.specs.DepthTables.{body_depths}
use Rattle.fmp_scopes.specs.declared.offences.Offence.{Offence}
use Rattle.fmp_scopes.specs.Naming.{fault_in, first_offence, uses_offence, block_uses}
use Rattle.fmp_scopes.specs.Scheme.{body_code}
use Rattle.fmp_scopes.specs.Scopes.{is_object}
use Rattle.fmp_scopes.specs.Sizes.{body_size}

-- one of these names is the same
abbrev pub is_among : Name → List Name → Bool
is_among name names = is_some (place_of (name_text name) names)

-- the fault of a length that is not 1 to 63
abbrev pub length_offence : Option Length → Option Offence
length_offence None = None
length_offence (Some l) =
    let n = magnitude l.places in
    if nat_le 1 n && nat_le n 63 then None else Some (record { at = l.at; why = fault.Limit })

-- The first fault of declared variables, after these locals: the 65th place, a name of another variable or of an
-- object, or the length of an array.
abbrev pub variables_offence : SystemTables → List Local → List Declaration → Option Offence
variables_offence tables locals [] = None
variables_offence tables locals (d ∷ ds) =
    if nat_lt 64 (total_places locals + places_of d.length) then Some (record { at = d.name.at; why = fault.Limit })
    else (if is_among d.name.name (map (λ (l : Local). l.name) locals) || is_object tables d.name.name
    then Some (record { at = d.name.at; why = fault.TwiceNamed })
    else first_offence (length_offence d.length) (variables_offence tables (locals ++ local_of d ∷ []) ds))

-- more than 65535 instructions, or more than 64 operands
abbrev pub size_offence : BodyTree → Option Offence
size_offence body =
    if nat_lt 65535 (body_size body) || nat_lt 64 (body_depth body)
    then Some (record { at = body.at; why = fault.Limit })
    else None

-- the first fault of a body, after bodies of these names: the 256th, a name of another body, then those of its
-- variables, of the names that it uses, and of its size
abbrev pub body_offence : SystemTables → List Name → BodyTree → Option Offence
body_offence tables names body =
    if nat_le 255 (length names) then Some (record { at = body.at; why = fault.Limit })
    else (if is_among body.name.name names then Some (record { at = body.name.at; why = fault.TwiceNamed })
    else first_offence (variables_offence tables (exinf_local ∷ []) body.variables)
    (first_offence (uses_offence (scope_of tables body) (block_uses body.statements)) (size_offence body)))

-- the first fault of the bodies of a text, after bodies of these names
abbrev pub bodies_offence : SystemTables → List Name → List BodyTree → Option Offence
bodies_offence tables names [] = None
bodies_offence tables names (b ∷ bs) =
    first_offence (body_offence tables names b) (bodies_offence tables (names ++ b.name.name ∷ []) bs)

-- the code of a body
abbrev pub compiled_body : SystemTables → BodyTree → BodyTables
compiled_body tables body =
    record { locals = total_places (locals_of body); instructions = body_code tables body; depths = body_depths body }

-- the code of the bodies of a text
abbrev pub compiled : SystemTables → List BodyTree → List BodyTables
compiled tables bodies = map (compiled_body tables) bodies

-- no body has a fault
abbrev pub IsAccepted : SystemTables → List BodyTree → Type 0
IsAccepted tables bodies = bodies_offence tables [] bodies ≡ None

-- what compiling answers: the code of bodies without a fault, or the first fault, where these are the tokens of the
-- text
abbrev pub IsCompiled : SystemTables → List Token → List BodyTree → Result declared.Code BuildFault → Type 0
IsCompiled tables ts bodies (Ok code) = IsAccepted tables bodies × (code_tables code ≡ compiled tables bodies)
IsCompiled tables ts bodies (Err build.Memory) = Unit {0}
IsCompiled tables ts bodies (Err (build.At f place why)) =
    (o : Offence) × (bodies_offence tables [] bodies ≡ Some o) × (build.At f place why ≡ fault_in file.Source ts o)
