-- Blocks of more than one statement.
use Rattle.std.proofs.Common.{◌≡◌, ◌≤◌, false, List, [], ◌∷◌, length, refl, arith}
use Rattle.fmp_tasklang.specs.declared.trees.Statement.{Statement}
use Rattle.fmp_tasklang.specs.Views.{block_view}
use Rattle.fmp_export.specs.Statements.{is_chain}

pub many : (ss : List Statement) → 2 ≤ length ss → false ≡ is_chain (block_view ss)
many [] h = refl
many (s ∷ []) h = absurd (omega (arith, h))
many (s ∷ t ∷ more) h = refl
