use Rattle.std.proofs.Common.{subst, sym, ◌∙◌, arith}
use Rattle.std.proofs.lemmas.Result.{err_from_is_err_and}
use Rattle.fmp_base.specs.Systems.{tables_of}
use Rattle.fmp_instructions.specs.Instructions.{code_tables}
use Rattle.fmp_image_bytes.specs.Fields.{Fails}
use Rattle.fmp_image_bytes.specs.Images.{ImageTables, image_tables}
use Rattle.fmp_image_bytes.proofs.ImageLaws.{image_takes, image_again}
use Rattle.fmp_image_bytes.proofs.loading.load.Goals as goal

pub returns-in_err-version-clause-only : goal.returns-in_err-version-clause-only
returns-in_err-version-clause-only c =
    let p = err_from_is_err_and c.from_residual.result c.from_residual.ensures.1 in
    λ i spells. rw (p.1, p.2) (subst (λ reading. Fails c.in_err-version.field-0.0 reading)
    (image_again c.args.bytes.now i spells) c.in_err-version.ensures)

pub new-requires : goal.new-requires
new-requires c =
    let image : ImageTables = image_tables c.in_ok-version.version (tables_of c.in_ok-version.system)
    c.in_ok-version.heads.items (code_tables c.in_ok-version.code) in
    (image_takes c.args.bytes.now image (λ i. omega (arith, c.type_inv.bytes i)) c.in_ok-version.ensures).lawful

pub returns-clause-found : goal.returns-clause-found
returns-clause-found c =
    let image : ImageTables = image_tables c.in_ok-version.version (tables_of c.in_ok-version.system)
    c.in_ok-version.heads.items (code_tables c.in_ok-version.code) in
    rw c.new.ensures (image_takes c.args.bytes.now image (λ i. omega (arith, c.type_inv.bytes i))
    c.in_ok-version.ensures)

pub returns-clause-only : goal.returns-clause-only
returns-clause-only c = λ i spells. rw c.new.ensures (sym (image_again c.args.bytes.now i spells)
    ∙ c.in_ok-version.ensures)

pub returns-clause-older : goal.returns-clause-older
returns-clause-older c = λ old. c.older_images_mean_the_same.ensures c.new.result c.args.bytes.now
    (returns-clause-found c) old
