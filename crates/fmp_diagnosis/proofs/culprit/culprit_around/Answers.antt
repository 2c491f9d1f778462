use Rattle.std.proofs.Common.{refl, length, min, slice_range}
use Rattle.fmp_diagnosis.specs.declared.culprit.Aim.TheVariants as aim
use Rattle.fmp_diagnosis.proofs.culprit.culprit_around.Goals as goal

pub returns-in-Here : goal.returns-in-Here
returns-in-Here c =
    let text = c.args.text.now in
    let cut = c.a_text_has_one_cut.ensures (slice_range text 0 (min (length text) 1048576)) in
    record {
      before = c.args.around.now.before.tokens;
      tokens = cut.0;
      aim = aim.Here;
      has_before = c.requires;
      has_tokens = cut.1;
      fits = refl;
      is = refl;
    }
