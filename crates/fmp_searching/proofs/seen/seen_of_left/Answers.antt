use Rattle.std.proofs.Common.{refl}
use Rattle.fmp_searching.specs.Sources.{source_tables}
use Rattle.fmp_searching.proofs.FindingTexts.{seen_of_shown}
use Rattle.fmp_searching.proofs.seen.seen_of_left.Goals as goal

pub returns : goal.returns
returns c =
    seen_of_shown (source_tables c.args.sources.now) c.args.finding.now c.args.left.now _ c.in_ok-broken.broken _ _
    c.requires.others c.requires.shown c.deref.ensures.value c.in_ok-broken.ensures c.deref-2.ensures.value refl refl
    refl refl c.in_ok-text.ensures
