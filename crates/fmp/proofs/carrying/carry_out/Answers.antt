use Rattle.std.proofs.Common.{map, subst, sym}
use Rattle.fmp.specs.Commands.{output_of}
use Rattle.fmp.specs.Runs.{AreInputs, BeginsFile, Performs, faulty, unwritten}
use Rattle.fmp_files.specs.PrintsLaws.{does_nothing}
use Rattle.fmp.proofs.Carried.{err_from, err_is, failed_is}
use Rattle.fmp.proofs.carrying.carry_out.Goals as goal

pub returns-in_err-file-clause-err : goal.returns-in_err-file-clause-err
returns-in_err-file-clause-err g c =
    let files = g.O.Outside.files c.args.outside.now in
    let cmd = c.args.cmd.now in
    let texts = map (λ t. t.items) c.deref.result.now in
    let read = subst (λ ts. AreInputs files cmd (map (λ t. t.items) ts))
    (sym c.deref.ensures.value) c.in_ok-texts.ensures.texts in
    err_is _ _ _ c.from_residual-in_err-file.ensures.1 (faulty texts read c.in_err-file.ensures.err (does_nothing _))

pub returns-in_err-write_output-clause-err : goal.returns-in_err-write_output-clause-err
returns-in_err-write_output-clause-err g c =
    let files = g.O.Outside.files c.args.outside.now in
    let cmd = c.args.cmd.now in
    let texts = map (λ t. t.items) c.deref.result.now in
    let read = subst (λ ts. AreInputs files cmd (map (λ t. t.items) ts))
    (sym c.deref.ensures.value) c.in_ok-texts.ensures.texts in
    let file = c.in_ok-file.field-0.file.items in
    let out = c.in_ok-file.field-0.out.items in
    let performs : Performs files cmd file out = record {
      inputs = texts;
      read = read;
      made = c.in_ok-file.ensures.ok;
    } in
    let begun =
    subst (λ bytes. BeginsFile (output_of cmd) bytes (g.O.Outside.done c.args.outside.now)
    (g.O.Outside.done c.write_output.new.outside)) c.deref-2.ensures.value
    c.in_err-write_output.ensures.begun in
    err_from _ _ _ c.from_residual-in_err-write_output.ensures.1
    (λ exit is. unwritten file out performs (failed_is _ exit _ is c.in_err-write_output.ensures.failure) begun)
