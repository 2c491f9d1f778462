-- An accepted text has few bodies, and none of them needs many operands.
use Rattle.std.proofs.Common.{◌≡◌, ◌+◌, ◌<◌, ◌≤◌, nat_le, List, [], ◌∷◌, ◌++◌, Some, None, length, map, arith}
use Rattle.std.proofs.Common.{length-append}
use Rattle.std.specs.Prelude.{if◌then◌else◌}
use Rattle.std.specs.List.{AllByRecursion}
use Rattle.std.proofs.lemmas.Bool.{leb-false}
use Rattle.std.proofs.lemmas.List.{length-map}
use Rattle.fmp_base.specs.declared.names.Name.{Name}
use Rattle.fmp_base.specs.Systems.{SystemTables}
use Rattle.fmp_lex.specs.declared.fault.FaultKind.TheVariants as fault
use Rattle.fmp_tasklang.specs.declared.trees.Body.{Body}
use Rattle.fmp_tasklang.specs.Trees.{BodyTree}
use Rattle.fmp_tasklang.specs.Layout.{exinf_local}
use Rattle.fmp_tasklang.specs.Scopes.{scope_of}
use Rattle.fmp_tasklang.specs.Views.{body_view}
use Rattle.fmp_scopes.specs.declared.offences.Offence.{Offence}
use Rattle.fmp_codegen.specs.Compiling.{is_among, variables_offence, size_offence, body_offence, bodies_offence}
use Rattle.fmp_codegen.specs.Compiling.{IsAccepted}
use Rattle.fmp_scopes.specs.Depths.{body_depth}
use Rattle.fmp_scopes.specs.Naming.{first_offence, uses_offence, block_uses}
use Rattle.fmp_codegen.proofs.Bodies.{not-taken, body-accepted}
use Rattle.fmp_scopes.proofs.KnownNames.{none-first, none-second}
use Rattle.fmp_codegen.proofs.VerifiedBodies.{is_small}

-- a body without a fault is no 256th
not-last : (tables : SystemTables) (names : List Name) (body : BodyTree) → body_offence tables names body ≡ None
    → length names < 255
not-last tables names body h =
    let limit : Offence = record { at = body.at; why = fault.Limit } in
    let twice : Offence = record { at = body.name.at; why = fault.TwiceNamed } in
    let uses = uses_offence (scope_of tables body) (block_uses body.statements) in
    let after = first_offence (variables_offence tables (exinf_local ∷ []) body.variables)
    (first_offence uses (size_offence body)) in
    let rest = if is_among body.name.name names then Some twice else after in
    leb-false 255 (length names) (not-taken (nat_le 255 (length names)) limit rest h)

few-after :
    (tables : SystemTables) (names : List Name) (bodies : List BodyTree) → bodies_offence tables names bodies ≡ None →
    length names ≤ 255 → length names + length bodies ≤ 255
few-after tables names [] h le = omega (arith, le)
few-after tables names (b ∷ bs) h le =
    let first = body_offence tables names b in
    let rest = bodies_offence tables (names ++ b.name.name ∷ []) bs in
    let below = not-last tables names b (none-first first rest h) in
    let one = length-append names (b.name.name ∷ []) in
    omega (
      arith,
      one,
      few-after tables (names ++ b.name.name ∷ []) bs (none-second first rest h)
          (omega (arith, one, below)),
    )

pub few-bodies : (tables : SystemTables) (bodies : List BodyTree) → IsAccepted tables bodies → length bodies ≤ 255
few-bodies tables bodies h = omega (arith, few-after tables [] bodies h (omega arith))

pub few-viewed : (tables : SystemTables) (bodies : List Body) → IsAccepted tables (map body_view bodies)
    → length bodies ≤ 255
few-viewed tables bodies h = omega (arith, few-bodies tables (map body_view bodies) h, length-map bodies body_view)

low-after :
    (tables : SystemTables) (names : List Name) (bodies : List Body)
    → bodies_offence tables names (map body_view bodies) ≡ None →
    AllByRecursion (λ (b : Body). body_depth (body_view b) ≤ 64) bodies
low-after tables names [] h = tt
low-after tables names (b ∷ bs) h =
    let body = body_view b in
    let first = body_offence tables names body in
    let rest = bodies_offence tables (names ++ body.name.name ∷ []) (map body_view bs) in
    let small = is_small body (body-accepted tables names body (none-first first rest h)).size in
    (small.depth, low-after tables (names ++ body.name.name ∷ []) bs (none-second first rest h))

pub low-bodies :
    (tables : SystemTables) (bodies : List Body) → IsAccepted tables (map body_view bodies) →
    AllByRecursion (λ (b : Body). body_depth (body_view b) ≤ 64) bodies
low-bodies tables bodies h = low-after tables [] bodies h
