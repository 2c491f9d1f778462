use Rattle.std.proofs.Common.{◌∙◌, ◌-◌, ◌++◌, ap, sym, subst, length, take, drop, rules, arith, length-take}
use Rattle.std.proofs.Math.Seq.{take-add, take-take}
use Rattle.std.specs.Io.KnownBytes.{Appends}
use Rattle.std.proofs.KnownBytes.{Appends-trans}
use Rattle.fmp_files.specs.declared.device.Failed.{Failed}
use Rattle.fmp_files.proofs.Written.{took_some}
use Rattle.fmp_files.proofs.writing.write_out.Goals as goal

pub loop-done-preserved : goal.loop-done-preserved
loop-done-preserved g c =
    let done = c.loop-done.done in
    let count = c.in-Ok.count in
    let all = c.args.bytes.now in
    let before = c.loop-done.invariant in
    let fits = c.in-Ok.ensures.bound in
    let most = length-take (length all - done) (drop done all) in
    let joined = ap (λ l. take done all ++ l) (take-take count (length all - done) (drop done all) (omega arith))
    ∙ sym (take-add done count all) in
    record {
      within = omega arith;
      written = subst (Appends _ _) joined (Appends-trans _ _ _ _ _ before.written c.in-Ok.ensures.bytes);
      failed = took_some Failed _ _ count c.in-Ok.ensures.failed (search rules) ∙ before.failed;
    }
