use Rattle.std.proofs.Common.{refl, sym}
use Rattle.fmp_looking.specs.declared.wanted.ImageTest.{ImageTest}
use Rattle.fmp_looking.proofs.TestImages.{ends_test}
use Rattle.fmp_looking.proofs.testing.test_image.Goals as goal

pub returns-in-Ok : goal.returns-in-Ok
returns-in-Ok g c = λ ended.
    let done = g.O.Outside.done in
    let built = c.args.built.now in
    let test : ImageTest
    = record {
      image = built.image;
      configured = built.configured;
      expect = c.in-Ok.expect;
      rates = c.deref-in-Ok.result;
      testing = c.args.testing.now;
    } in
    ends_test (g.O.Outside.files c.args.outside.now) built c.args.testing.now _ test c.sources_of-sources.result
    (done c.args.outside.now) (done c.say_unhandled.new.outside) (done c.run_test.new.outside) c.run_test.result
    (sym (rw c.in-Ok-Some.field-0-is at c.in-Ok-Some.ensures))
    (record {
      image = refl;
      configured = refl;
      expect = c.in-Ok.ensures.expect;
      rates = c.deref-in-Ok.ensures.value;
      asked = refl;
      right = rw c.deref.ensures.value at c.in-Ok.ensures.right;
    })
    c.sources_of-sources.ensures.src c.sources_of-sources.ensures.expectations c.say_unhandled.ensures
    (c.run_test.ensures ended)
