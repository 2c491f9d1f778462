use Rattle.std.proofs.Common.{◌++◌, codes}
use Rattle.std.proofs.lemmas.Result.{on_ok_weaker}
use Rattle.fmp_export.proofs.Appended.{two}
use Rattle.fmp_toppers.specs.Declarations.{filled_message_table, message_rows}
use Rattle.fmp_toppers.proofs.tables.append_filled_message_table.Goals as goal

pub returns : goal.returns
unfolding filled_message_table
returns c =
    let t1 = codes "\nstruct fmp_message fmp_messages[FMP_MESSAGES] = {\n" in
    let t2 = message_rows 1 c.args.messages.now in
    let t3 = codes "};\n" in
    on_ok_weaker c.append-2.result
    (λ e. two c.args.out.now.items t1 (t2 ++ t3) _ _ c.in_ok-append.ensures
    (two c.append.new.out.items t2 t3 _ _ c.in_ok-append_message_rows.ensures e)) c.append-2.ensures
