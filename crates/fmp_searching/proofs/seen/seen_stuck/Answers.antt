use Rattle.std.proofs.Common.{refl, rules}
use Rattle.fmp_searching.specs.Sources.{source_tables}
use Rattle.fmp_searching.proofs.FindingTexts.{seen_of_stuck}
use Rattle.fmp_searching.proofs.seen.seen_stuck.Goals as goal

pub returns : goal.returns
returns c =
    seen_of_stuck (source_tables c.args.sources.now) c.args.finding.now c.args.task _ c.requires refl refl
    (search rules) (search rules)
