use Rattle.std.proofs.Common.{◌≡◌, ℕ, arith, subst}
use Rattle.std.specs.List.{Contains}
use Rattle.fmp_fields.specs.declared.field.What.TheVariants as what
use Rattle.fmp_fields.specs.Listing.{AreAmong}
use Rattle.fmp_fields.proofs.Lists.{among-more, places-more, pushed}
use Rattle.fmp_fields.proofs.listing.add_cyclics.Goals as goal

pub loop-c-preserved : goal.loop-c-preserved
loop-c-preserved c =
    let a = c.loop-c.fields.items in
    let b = c.push.new.self.items in
    let d = c.push-in-loop-c.new.self.items in
    let lt = c.loop-c-test.true in
    let first : c.low_byte.result ≡ c.loop-c.c =
    omega (arith, c.low_byte.ensures, lt, c.len-c-end.ensures, c.requires) in
    let second : c.low_byte-in-loop-c.result ≡ c.loop-c.c =
    omega (arith, c.low_byte-in-loop-c.ensures, lt, c.len-c-end.ensures, c.requires) in
    let bd : AreAmong b d = among-more b d _ c.in_ok-push-2.ensures.items in
    let ad : AreAmong a d = λ f there. bd f (among-more a b _ c.in_ok-push.ensures.items f there) in
    record {
      kept = λ f there. ad f (c.loop-c.invariant.kept f there);
      ticks = places-more (λ (k : ℕ). Contains d (what.TicksToDue k)) c.loop-c.c
          (λ k less. ad (what.TicksToDue k) (c.loop-c.invariant.ticks k less))
          (subst (λ (k : ℕ). Contains d (what.TicksToDue k)) first
          (bd (what.TicksToDue c.low_byte.result) (pushed a b _ c.in_ok-push.ensures.items)));
      pending = places-more (λ (k : ℕ). Contains d (what.PendingCyclic k)) c.loop-c.c
          (λ k less. ad (what.PendingCyclic k) (c.loop-c.invariant.pending k less))
          (subst (λ (k : ℕ). Contains d (what.PendingCyclic k)) second (pushed b d _ c.in_ok-push-2.ensures.items));
    }
