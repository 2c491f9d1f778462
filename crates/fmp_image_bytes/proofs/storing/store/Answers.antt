use Rattle.std.proofs.Common.{◌≡◌, ◌++◌, [], append_assoc, rules}
use Rattle.fmp_base.specs.Systems.{tables_of}
use Rattle.fmp_instructions.specs.Instructions.{code_tables}
use Rattle.fmp_image_bytes.specs.Rows.{context_of}
use Rattle.fmp_image_bytes.specs.Bodies.{bodies}
use Rattle.fmp_image_bytes.specs.Header.{header, magic}
use Rattle.fmp_image_bytes.specs.Images.{tables, tables_in, spelling}
use Rattle.fmp_image_bytes.proofs.storing.store.Goals as goal

pub returns : goal.returns
unfolding spelling
returns c =
    let i = c.image.inside in
    let h = header.spell (magic, (i.version, i.system.processors)) in
    let b = (bodies i.version).spell (i.heads.items, code_tables i.code) in
    let t = (tables (context_of 0 0 []) []).spell (tables_in (tables_of i.system)) in
    let e1 : c.put_header.new.out.items ≡ h = search rules in
    let e2 : c.put_bodies.new.out.items ≡ c.put_header.new.out.items ++ b = search rules in
    let e3 : c.put_tables.new.out.items ≡ c.put_bodies.new.out.items ++ t = search rules in
    rw (← c.image.view_is, e3, e2, e1) (append_assoc h b t)
