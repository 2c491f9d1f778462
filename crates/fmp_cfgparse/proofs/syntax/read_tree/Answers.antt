use Rattle.std.proofs.Common.{◌≤◌, ◌<◌, length, arith}
use Rattle.std.proofs.lemmas.List.{length-map}
use Rattle.std.proofs.lemmas.Result.{err_from_is_err_and}
use Rattle.fmp_lex.specs.Reading.{kinds_of}
use Rattle.fmp_cfgparse.specs.Trees.{configuration_view}
use Rattle.fmp_cfgparse.proofs.Classes.{verdict_found, verdict_longer, verdict_stopped}
use Rattle.fmp_cfgparse.proofs.syntax.read_tree.Goals as goal

pub returns-in_err-tree : goal.returns-in_err-tree
returns-in_err-tree c =
    let e = err_from_is_err_and c.from_residual.result c.from_residual.ensures.1 in
    rw (e.1, e.2) (verdict_stopped (kinds_of c.args.tokens.now) c.in_err-tree.field-0.0 c.in_err-tree.ensures)

pub returns-then-next-len : goal.returns-then-next-len
returns-then-next-len c =
    let ts = kinds_of c.args.tokens.now in
    let lt : c.in_ok-tree.next < length ts = simp length-map (omega (arith, c.len.ensures)) in
    verdict_longer ts (configuration_view c.in_ok-tree.tree) c.in_ok-tree.next lt c.in_ok-tree.ensures

pub returns : goal.returns
returns c =
    let ts = kinds_of c.args.tokens.now in
    let past : length ts ≤ c.in_ok-tree.next = simp length-map (omega (arith, c.len.ensures)) in
    verdict_found ts (configuration_view c.in_ok-tree.tree) c.in_ok-tree.next past c.in_ok-tree.ensures
