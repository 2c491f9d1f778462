use Rattle.std.proofs.Common.{ℕ, ◌∙◌, subst, sym}
use Rattle.fmp_base.specs.Systems.{tables_of}
use Rattle.fmp_instructions.specs.Instructions.{code_tables}
use Rattle.fmp_image_bytes.specs.Images.{IsImage, image_tables}
use Rattle.fmp_image.proofs.Lawful.{lawful_made}
use Rattle.fmp_image.proofs.building.image_of.Goals as goal

pub new-requires : goal.new-requires
new-requires c =
    let given = c.requires.lawful in
    let bodies = given.0 in
    subst
    (λ (version : ℕ). IsImage (image_tables version (tables_of c.build_tables.new.system) c.in_ok-heads.heads.items
    (code_tables c.args.text.code)))
    (sym c.newest.ensures)
    (lawful_made (tables_of c.build_tables.new.system) c.in_ok-heads.heads.items (code_tables c.args.text.code)
    (tables_of c.args.system)
    bodies (c.build_tables.ensures bodies (c.deref-2.ensures.value ∙ given.1))
    (c.in_ok-heads.ensures bodies (c.deref.ensures.value ∙ given.1)) given.2 given.3)
