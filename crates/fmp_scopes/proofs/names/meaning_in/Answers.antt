use Rattle.std.proofs.Common.{◌≡◌, false, sym, ◌∙◌}
use Rattle.std.specs.Str.{bytes_eq}
use Rattle.fmp_base.specs.Names.{name_text}
use Rattle.fmp_base.specs.Systems.{tables_of}
use Rattle.fmp_tasklang.specs.Layout.{exinf_name}
use Rattle.fmp_tasklang.specs.Scopes.{object_names}
use Rattle.fmp_scopes.proofs.LocalMeanings.{declared-local, declared-object}
use Rattle.fmp_scopes.proofs.Sums.{no_declaration}
use Rattle.fmp_scopes.proofs.names.meaning_in.Goals as goal

pub returns-in-Some : goal.returns-in-Some
returns-in-Some c =
    let names = c.args.names.now in
    let n = c.args.name.now in
    let other : bytes_eq (name_text n) (name_text exinf_name) ≡ false = sym c.is_exinf.ensures ∙ c.if-is_exinf.false in
    c.local_meaning.ensures
    ∙ declared-local (object_names (tables_of names.objects.system.now)) names.variables.now n other c.in-Some.place
    no_declaration c.in-Some.ensures.place c.in-Some.ensures.below

pub returns-in-None : goal.returns-in-None
returns-in-None c =
    let names = c.args.names.now in
    let n = c.args.name.now in
    let other : bytes_eq (name_text n) (name_text exinf_name) ≡ false = sym c.is_exinf.ensures ∙ c.if-is_exinf.false in
    c.object_in.ensures
    ∙ declared-object (object_names (tables_of names.objects.system.now)) names.variables.now n other
    c.in-None.ensures.place
