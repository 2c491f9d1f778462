-- The function of a body in C.
use Rattle.std.specs.Prelude.{ℕ, List, [], ◌∷◌, ◌++◌, codes, Option, Some, None}
use Rattle.fmp_base.specs.declared.names.Name.{Name}
use Rattle.fmp_base.specs.Names.{name_text}
use Rattle.fmp_tasklang.specs.declared.trees.Declaration.{Declaration}
use Rattle.fmp_tasklang.specs.declared.trees.Length.{Length}
use Rattle.fmp_tasklang.specs.Trees.{BodyTree}
use Rattle.fmp_export.specs.declared.source.Landmark.TheVariants as landmark
use Rattle.fmp_export.specs.Pieces.{number_text}
use Rattle.fmp_export.specs.Remarks.{c_above, c_after, c_directive, other_lines, own_lines}
use Rattle.fmp_export.specs.Sources.{SourceText, place_after, gaps, no_source}
use Rattle.fmp_export.specs.Statements.{block_end, c_block}
use Rattle.fmp_export.specs.Words.{c_function, c_name, tab}

-- the values of a variable when its body begins
abbrev pub c_initial : SourceText → Option Length → List ℕ
c_initial s None = codes " = 0;"
c_initial s (Some l) = codes "[" ++ (number_text s l.at l.places ++ codes "] = {0};")

unfoldable pub c_variable : SourceText → Declaration → List ℕ
c_variable s d = codes "    int32_t " ++ (c_name d.name.name ++ c_initial s d.length)

-- a declaration below the comments of a gap, with the comment of another after it
unfoldable pub c_declared : SourceText → (before gap : List ℕ) → Declaration → List ℕ
c_declared s before gap d = c_above tab before ++ (c_variable s d ++ (c_after gap ++ codes "\n"))

-- The declarations of variables from a place on, and an empty line. What stands before the place is a gap whose first
-- line is written already.
abbrev pub c_variables : SourceText → (before : List ℕ) → (at : ℕ) → List Declaration → List ℕ
c_variables s before at [] = codes "\n" ++ c_above tab before
c_variables s before at (d ∷ ds) =
    c_declared s before (gaps s at (place_after landmark.Semicolon s at)) d
    ++ c_variables s (gaps s at (place_after landmark.Semicolon s at)) (place_after landmark.Semicolon s at) ds

-- the place after the declarations
abbrev pub variables_end : SourceText → (at : ℕ) → List Declaration → ℕ
variables_end s at [] = at
variables_end s at (d ∷ ds) = variables_end s (place_after landmark.Semicolon s at) ds

-- the first lines of a body, after which its variables stand
unfoldable pub c_heading : Name → (before : List ℕ) → List ℕ
c_heading name before =
    codes "void "
    ++ (c_function name
    ++ (codes "(intptr_t fmp_exinf)\n{" ++ (c_after before ++ codes "\n    int32_t exinf = (int32_t)fmp_exinf;\n")))

-- what a body has from a place on, up to its `}`
unfoldable pub c_inside : SourceText → (before : List ℕ) → (at : ℕ) → BodyTree → List ℕ
c_inside s before at b =
    c_heading b.name.name before
    ++ (c_variables s before at b.variables
    ++ (c_block s tab (variables_end s at b.variables) b.statements ++ codes "}"))

-- the place of the `}` of a body whose variables begin at this one
abbrev pub inside_end : SourceText → (at : ℕ) → BodyTree → ℕ
inside_end s at b = block_end s (variables_end s at b.variables) b.statements

abbrev pub c_body : SourceText → BodyTree → List ℕ
c_body s b =
    c_directive s b.at
    ++ c_inside s (gaps s b.at (place_after landmark.LeftBrace s b.at)) (place_after landmark.LeftBrace s b.at) b

abbrev pub body_end : SourceText → BodyTree → ℕ
body_end s b = inside_end s (place_after landmark.LeftBrace s b.at) b

-- what stands after a body
abbrev pub gap_after : SourceText → BodyTree → List ℕ
gap_after s b = gaps s (body_end s b) (place_after landmark.RightBrace s (body_end s b))

-- a body below the comments of these lines
unfoldable pub c_commented : SourceText → (above : List ℕ) → BodyTree → List ℕ
c_commented s above b =
    codes "\n" ++ (own_lines [] [] above ++ (c_body s b ++ (c_after (gap_after s b) ++ codes "\n")))

-- bodies, and the comments that stand above, between and below them
abbrev pub c_commented_bodies : SourceText → (above : List ℕ) → List BodyTree → List ℕ
c_commented_bodies s above [] = own_lines [] [] above
c_commented_bodies s above (b ∷ bs) =
    c_commented s above b ++ c_commented_bodies s (other_lines (gap_after s b)) bs

-- bodies without their text: numbers are written by their values, and there are no comments
abbrev pub c_bodies : List BodyTree → List ℕ
c_bodies bs = c_commented_bodies no_source [] bs

-- the prototype of the function of a body
unfoldable pub c_prototype : BodyTree → List ℕ
c_prototype b = codes "void " ++ (c_function b.name.name ++ codes "(intptr_t exinf);\n")

abbrev pub c_prototypes : List BodyTree → List ℕ
c_prototypes [] = []
c_prototypes (b ∷ bs) = c_prototype b ++ c_prototypes bs

-- a row of the table of bodies: a name and its function
unfoldable pub c_row : BodyTree → List ℕ
c_row b =
    codes "    {\"" ++ (name_text b.name.name ++ (codes "\", " ++ (c_function b.name.name ++ codes "},\n")))

abbrev pub c_rows : List BodyTree → List ℕ
c_rows [] = []
c_rows (b ∷ bs) = c_row b ++ c_rows bs
