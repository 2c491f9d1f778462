use Rattle.std.proofs.Common.{◌≡◌, drop, map}
use Rattle.fmp_tasklang.specs.Views.{link_view}
use Rattle.fmp_export.specs.Expressions.{c_chain}
use Rattle.fmp_export.specs.Pieces.{piece_view}
use Rattle.fmp_export.specs.Sources.{source_view}
use Rattle.fmp_export.proofs.expressions.+expressions_in_c.Given as goal

abbrev pub invariant-chain-loop-link : goal.invariant-chain-loop-link
invariant-chain-loop-link l =
    c_chain (source_view l.source) (piece_view l.piece) (map link_view (drop l.link-index l.links))
    ≡ c_chain (source_view l.source) (piece_view l.fn.first) (map link_view l.links)
