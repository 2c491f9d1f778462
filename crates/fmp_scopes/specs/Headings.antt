-- What is known of bodies without their statements.
use Rattle.std.specs.Prelude.{◌≡◌, List, map, min}
use Rattle.fmp_tasklang.specs.Trees.{BodyTree}
use Rattle.fmp_scopes.specs.declared.headings.Heading.{Heading}
use Rattle.fmp_scopes.specs.Depths.{body_depth}

-- the kind of a body, its name, and how many operands it needs, counted up to 2^30
abbrev pub heading_of : BodyTree → Heading
heading_of b = record { kind = b.kind; name = b.name.name; depth = min (body_depth b) 1073741824 }

-- these are the headings of the bodies, in order
abbrev pub AreHeadings : List Heading → List BodyTree → Type 0
AreHeadings headings bodies = headings ≡ map heading_of bodies
