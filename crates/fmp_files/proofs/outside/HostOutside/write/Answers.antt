use Rattle.std.proofs.Common.{inl}
use Rattle.fmp_files.proofs.HostDeeds.{unknown_begins}
use Rattle.fmp_files.specs.Deeds.{wrote}
use Rattle.fmp_files.proofs.outside.HostOutside.write.Goals as goal

pub returns-in-Ok-clause-err : goal.returns-in-Ok-clause-err
returns-in-Ok-clause-err g c = unknown_begins c.write_out.result (wrote c.args.name.now) c.args.bytes.now

pub returns-in-Err-clause-err : goal.returns-in-Err-clause-err
returns-in-Err-clause-err g c = inl tt
