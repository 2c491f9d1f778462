use Rattle.std.proofs.Common.{◌≡◌, ℕ, arith, subst}
use Rattle.std.specs.List.{Contains}
use Rattle.fmp_fields.specs.declared.field.What.{What}
use Rattle.fmp_fields.proofs.Lists.{among-more, places-more, pushed}
use Rattle.fmp_fields.proofs.listing.add_each.Goals as goal

pub loop-place-preserved : goal.loop-place-preserved
loop-place-preserved g c =
    let before = c.loop-place.fields.items in
    let after = c.push.new.self.items in
    let items = c.in_ok-push.ensures.items in
    let at : c.low_byte.result ≡ c.loop-place.place =
    omega (arith, c.low_byte.ensures, c.loop-place-test.true, c.requires.few) in
    record {
      kept = λ f there. among-more before after _ items f (c.loop-place.invariant.kept f there);
      added = places-more
          (λ (i : ℕ). (f : What) × goal.F-post g c.args.field i f × Contains after f) c.loop-place.place
          (λ i lt. let old = c.loop-place.invariant.added i lt in
          (old.0, old.1, among-more before after _ items old.0 old.2)) (
            c.field.result,
            subst (λ (i : ℕ). goal.F-post g c.args.field i c.field.result) at c.field.ensures,
            pushed before after c.field.result items,
          );
    }

pub returns-clause-added : goal.returns-clause-added
returns-clause-added g c = λ f gives i lt.
    let at = c.loop-place.invariant.added i (omega (arith, lt, c.loop-place-test.false)) in
    subst (λ (x : What). Contains c.loop-place.fields.items x) (gives i at.0 lt at.1) at.2
