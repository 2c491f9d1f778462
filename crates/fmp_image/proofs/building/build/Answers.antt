use Rattle.std.proofs.Common.{refl, ◌∙◌}
use Rattle.fmp_base.specs.Systems.{tables_of}
use Rattle.fmp_image.specs.Building.{IsBuildFault, built_image}
use Rattle.fmp_image.proofs.Judged.{err_is, text_refused, collected, entries_refused, builds}
use Rattle.fmp_image.proofs.building.build.Goals as goal

pub compile_text-requires : goal.compile_text-requires
compile_text-requires c = c.in_ok-configured.ensures.rules.ranges

pub returns-in_err-text-clause-refuses : goal.returns-in_err-text-clause-refuses
returns-in_err-text-clause-refuses c =
    let refused : IsBuildFault c.args.cfg.now c.args.src.now c.in_err-text.field-0.0 =
    text_refused c.args.cfg.now c.args.src.now c.in_ok-configured.configured c.in_ok-configured.ensures.reads
    c.in_err-text.field-0.0 c.in_err-text.ensures.compiled in
    err_is (IsBuildFault c.args.cfg.now c.args.src.now) c.from_residual-in_err-text.result c.in_err-text.field-0.0
    c.from_residual-in_err-text.ensures.1 refused

pub returns-in_err-check_headings-clause-refuses : goal.returns-in_err-check_headings-clause-refuses
returns-in_err-check_headings-clause-refuses c =
    let configured = c.in_ok-configured.configured in
    let reads = c.in_ok-configured.ensures.reads in
    let made = c.in_ok-text.ensures.compiled in
    let are = collected c.args.cfg.now c.args.src.now configured reads c.in_ok-text.text made c.deref-2.result.now
    c.in_ok-entries.entries.items
    c.deref-2.ensures.value c.in_ok-entries.ensures in
    let refused : IsBuildFault c.args.cfg.now c.args.src.now c.in_err-check_headings.field-0.0 =
    entries_refused c.args.cfg.now c.args.src.now configured reads c.in_ok-text.text made c.deref-2.result.now are
    c.in_err-check_headings.field-0.0 (c.in_err-check_headings.ensures made.1 (c.deref.ensures.value ∙ made.4)) in
    err_is (IsBuildFault c.args.cfg.now c.args.src.now) c.from_residual-in_err-check_headings.result
    c.in_err-check_headings.field-0.0
    c.from_residual-in_err-check_headings.ensures.1 refused

pub image_of-requires-clause-lawful : goal.image_of-requires-clause-lawful
image_of-requires-clause-lawful c =
    let configured = c.in_ok-configured.configured in
    let reads = c.in_ok-configured.ensures.reads in
    let made = c.in_ok-text.ensures.compiled in
    let image = built_image (tables_of configured.system) made.1 in
    let are = collected c.args.cfg.now c.args.src.now configured reads c.in_ok-text.text made c.deref-2.result.now
    c.in_ok-entries.entries.items
    c.deref-2.ensures.value c.in_ok-entries.ensures in (
      made.1,
      made.4,
      made.5,
      c.what_is_built_is_an_image.ensures c.args.cfg.now c.args.src.now image
          (builds c.args.cfg.now c.args.src.now configured reads c.in_ok-text.text made c.deref-2.result.now are image
          (c.in_ok-check_headings.ensures made.1 (c.deref.ensures.value ∙ made.4)) refl),
    )

pub returns-clause-builds : goal.returns-clause-builds
returns-clause-builds c =
    let configured = c.in_ok-configured.configured in
    let reads = c.in_ok-configured.ensures.reads in
    let made = c.in_ok-text.ensures.compiled in
    let are = collected c.args.cfg.now c.args.src.now configured reads c.in_ok-text.text made c.deref-2.result.now
    c.in_ok-entries.entries.items
    c.deref-2.ensures.value c.in_ok-entries.ensures in
    builds c.args.cfg.now c.args.src.now configured reads c.in_ok-text.text made c.deref-2.result.now are
    c.in_ok-image_of.field-0 (c.in_ok-check_headings.ensures made.1 (c.deref.ensures.value ∙ made.4))
    (c.in_ok-image_of.ensures made.1 made.4 made.5)
