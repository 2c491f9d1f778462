-- Laws of the compiled code.
use Rattle.std.specs.Prelude.{ℕ, max, List, [], ◌∷◌}
use Rattle.fmp_base.specs.KeptTies.{Follows}
use Rattle.fmp_base.specs.Systems.{SystemTables}
use Rattle.fmp_tasklang.specs.Trees.{BodyTree}
use Rattle.fmp_tasklang.specs.Scopes.{scope_of}
use Rattle.fmp_tasklang.specs.Texts.{body_at, text_meaning}
use Rattle.fmp_instructions.specs.Instructions.{BodyTables}
use Rattle.fmp_instructions.specs.Machine.{code_meaning}
use Rattle.fmp_codegen.specs.Tie.{CodeTied, SameLocals, longest}

-- Code does what the bodies of a text do. What the code ends within n instructions the text ends within n turns of
-- loops, in the same way; and what the text ends within t turns the code ends within (t + 1) times the instructions of
-- the longest body. What is cut goes on as if there had been no bound. Where a stretch ends or faults, the locals are
-- the same.
abbrev pub DoesText : SystemTables → List BodyTree → List BodyTables → Type 0
DoesText tables bodies code =
    Follows (CodeTied tables bodies code) (λ body. SameLocals (scope_of tables (body_at bodies body)))
    (code_meaning code) (text_meaning tables bodies) (longest code)

-- the greatest entry of a depth table
abbrev pub greatest : List ℕ → ℕ
greatest [] = 0
greatest (d ∷ ds) = max d (greatest ds)
