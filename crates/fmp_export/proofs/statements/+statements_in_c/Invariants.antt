use Rattle.std.proofs.Common.{◌≡◌, ◌++◌, drop}
use Rattle.fmp_tasklang.specs.Views.{block_view}
use Rattle.fmp_export.specs.Sources.{source_view}
use Rattle.fmp_export.specs.Statements.{block_end, c_block, c_chained}
use Rattle.fmp_export.proofs.statements.+statements_in_c.Given as goal

abbrev pub invariant-append_block-loop-s : goal.invariant-append_block-loop-s
invariant-append_block-loop-s l =
    (l.out.items ++ c_block (source_view l.source) l.margin l.next (block_view (drop l.s-index l.statements))
    ≡ l.fn.out.items ++ c_block (source_view l.source) l.margin l.at (block_view l.statements))
    × (block_end (source_view l.source) l.next (block_view (drop l.s-index l.statements))
    ≡ block_end (source_view l.source) l.at (block_view l.statements))

abbrev pub invariant-append_chained-loop-s : goal.invariant-append_chained-loop-s
invariant-append_chained-loop-s l =
    (l.out.items ++ c_chained (source_view l.source) l.margin l.next (block_view (drop l.s-index l.statements))
    ≡ l.fn.out.items ++ c_chained (source_view l.source) l.margin l.at (block_view l.statements))
    × (block_end (source_view l.source) l.next (block_view (drop l.s-index l.statements))
    ≡ block_end (source_view l.source) l.at (block_view l.statements))
