use Rattle.std.proofs.Common.{◌≡◌, ◌∙◌, ◌+◌, ◌++◌, ◌≤◌, IfSome, length, arith, length-append, length-take, inl, inr}
use Rattle.std.proofs.Common.{subst, sym, take}
use Rattle.std.proofs.KnownBytes.{Consumes-trans}
use Rattle.std.proofs.Math.Bool.{or-false}
use Rattle.fmp_files.specs.Files.{IsPast, IsWithin, front}
use Rattle.fmp_files.proofs.Fronts.{one_more, read_front, within_less}
use Rattle.fmp_files.proofs.reading.read_in.Goals.{then-most-eq0-via-then-most-eq0}
use Rattle.fmp_files.proofs.reading.read_in.Goals.{then-most-eq0-via-else-most-eq0+in_ok-read_more+then-branch-eq0}
use Rattle.fmp_files.proofs.reading.read_in.Goals as goal

pub returns-in_err-read_more-clause-taken : goal.returns-in_err-read_more-clause-taken
returns-in_err-read_more-clause-taken g c =
    let so_far = c.loop-limit.bytes.items in
    let most = c.room_after-most.result in
    let (more, taken, few) = c.in_err-read_more.ensures.err in
    let counted : c.len.result ≡ length so_far = omega (arith, c.len.ensures, c.loop-limit.bytes.ok) in (
      so_far ++ more,
      Consumes-trans _ _ _ _ _ c.loop-limit.invariant.taken taken,
      within_less c.args.limit (length (so_far ++ more)) (c.len.result + most)
          (omega (arith, length-append so_far more, length-take most c.loop-limit.buffer))
          c.room_after-most.ensures.within,
    )

pub returns-then-most-eq0-clause-bytes : goal.returns-then-most-eq0-clause-bytes
returns-then-most-eq0-clause-bytes g c =
    let left = g.S.Source.left in
    let most = c.room_after-most.result in
    let so_far = c.loop-limit.bytes.items in
    let counted : c.len.result ≡ length so_far = omega (arith, c.len.ensures, c.loop-limit.bytes.ok) in
    let within = subst (λ n. IsWithin c.args.limit (n + most)) counted c.room_after-most.ensures.within in
    let fits : length (take most c.loop-limit.buffer) ≤ most = omega (arith, length-take most c.loop-limit.buffer) in
    elim c.then-most-eq0.branch [
      | then-most-eq0-via-then-most-eq0 w ↦ subst (λ v. IfSome (left c.args.source.now)
          (λ all. v.items ≡ front c.args.limit all)) (sym w.bytes-is)
          (read_front _ (left c.loop-limit.source) c.args.limit so_far c.loop-limit.invariant.taken
          c.loop-limit.invariant.within
          (inr (subst (IsPast c.args.limit) counted (c.room_after-most.ensures.past w.if-most-eq0.true))))
      | then-most-eq0-via-else-most-eq0+in_ok-read_more+then-branch-eq0 w ↦
          let (taken, stays) = one_more _ _ _ c.args.limit most _ _ so_far _ c.loop-limit.invariant.taken within fits
          w.in_ok-read_more.ensures.ok in
          subst (λ v. IfSome (left c.args.source.now) (λ all. v.items ≡ front c.args.limit all)) (sym w.bytes-is)
          (read_front _ (left w.read_more.new.source) c.args.limit _ taken stays
          (inl (w.in_ok-read_more.ensures.ok.end w.if-branch-eq0.true)))
    ]

pub loop-limit-preserved : goal.loop-limit-preserved
loop-limit-preserved g c =
    let most = c.room_after-most.result in
    let so_far = c.loop-limit.bytes.items in
    let counted : c.len.result ≡ length so_far = omega (arith, c.len.ensures, c.loop-limit.bytes.ok) in
    let within = subst (λ n. IsWithin c.args.limit (n + most)) counted c.room_after-most.ensures.within in
    let fits : length (take most c.loop-limit.buffer) ≤ most = omega (arith, length-take most c.loop-limit.buffer) in
    let (taken, stays) = one_more _ _ _ c.args.limit most _ _ so_far _ c.loop-limit.invariant.taken within fits
    c.in_ok-read_more.ensures.ok in
    record {
      within = stays;
      taken = taken;
      failed = c.in_ok-read_more.ensures.device ∙ or-false _ ∙ c.loop-limit.invariant.failed;
    }
