use Rattle.std.proofs.Common.{◌≡◌, ◌++◌, drop, map}
use Rattle.fmp_import.specs.Written.{block_view, blocks_text}
use Rattle.fmp_import.proofs.writing.append_blocks.Given as goal

abbrev pub invariant-loop-block : goal.invariant-loop-block
invariant-loop-block l =
    l.out.items ++ blocks_text l.source (map block_view (drop l.block-index l.blocks))
    ≡ l.initial.out.items ++ blocks_text l.source (map block_view l.blocks)
