-- The headings of an accepted text need few operands.
use Rattle.std.proofs.Common.{◌≡◌, ℕ, ◌≤◌, min, List, [], ◌∷◌, ◌++◌, None, map, arith}
use Rattle.std.specs.List.{AllByRecursion}
use Rattle.fmp_base.specs.declared.names.Name.{Name}
use Rattle.fmp_base.specs.Systems.{SystemTables}
use Rattle.fmp_tasklang.specs.Trees.{BodyTree}
use Rattle.fmp_scopes.specs.declared.headings.Heading.{Heading}
use Rattle.fmp_scopes.specs.Depths.{body_depth}
use Rattle.fmp_scopes.specs.Headings.{heading_of, AreHeadings}
use Rattle.fmp_scopes.proofs.KnownNames.{none-first, none-second}
use Rattle.fmp_codegen.specs.Compiling.{body_offence, bodies_offence, IsAccepted}
use Rattle.fmp_codegen.proofs.Bodies.{body-accepted}
use Rattle.fmp_codegen.proofs.VerifiedBodies.{is_small}

low-min : (d : ℕ) → d ≤ 64 → min d 1073741824 ≤ 64
low-min d h = omega (arith, h)

low-after :
    (tables : SystemTables) (names : List Name) (bodies : List BodyTree) → bodies_offence tables names bodies ≡ None →
    AllByRecursion (λ (h : Heading). h.depth ≤ 64) (map heading_of bodies)
low-after tables names [] h = tt
low-after tables names (b ∷ bs) h =
    let first = body_offence tables names b in
    let rest = bodies_offence tables (names ++ b.name.name ∷ []) bs in
    let small = is_small b (body-accepted tables names b (none-first first rest h)).size in
    (low-min (body_depth b) small.depth, low-after tables (names ++ b.name.name ∷ []) bs (none-second first rest h))

-- no body of an accepted text needs many operands
pub low-headed :
    (tables : SystemTables) (bodies : List BodyTree) (headings : List Heading) → IsAccepted tables bodies
    → AreHeadings headings bodies →
    AllByRecursion (λ (h : Heading). h.depth ≤ 64) headings
low-headed tables bodies headings h are = rw are (low-after tables [] bodies h)
