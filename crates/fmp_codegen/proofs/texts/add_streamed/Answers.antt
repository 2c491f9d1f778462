use Rattle.std.proofs.Common.{◌≡◌, length, ◌∙◌, arith, rules}
use Rattle.fmp_base.specs.Systems.{tables_of}
use Rattle.fmp_lex.specs.Windows.{Streams}
use Rattle.fmp_tasklang.specs.Grammar.{OneBody}
use Rattle.fmp_tasklang.specs.Views.{body_view}
use Rattle.fmp_codegen.proofs.StreamMaking.{none-made, one-more-made, few-read, body-further, all-made}
use Rattle.fmp_codegen.proofs.TextMaking.{none-there}
use Rattle.fmp_codegen.proofs.texts.add_streamed.Goals as goal

pub bodies-init : goal.bodies-init
bodies-init c = record {
  window = c.in_ok-hold_heading.ensures.window;
  text = c.in_ok-hold_heading.ensures.text;
  few = omega arith;
  fine = c.requires.made.offence;
  goes = none-made (tables_of c.args.objects.now.system.now) c.args.window.now c.args.made.now c.hold_heading.new.window
      c.requires.made c.in_ok-hold_heading.ensures.passed;
}

pub bodies-preserved : goal.bodies-preserved
bodies-preserved c =
    let tables = tables_of c.args.objects.now.system.now in
    let first = c.args.window.now in
    let read = c.stream_body.new.window in
    let made = c.add_body.new.made in
    let window = c.hold_heading-in-Some.new.window in
    let held = c.in_ok-hold_heading-2.ensures in
    let next = c.in-Some-2.next in
    let b = body_view c.in-Some-2.one in
    let reads : Streams OneBody c.bodies.window read c.bodies.i b next =
    rw c.in-Some-2.is at c.in_ok-one.ensures.body in
    let same = held.text ∙ c.in_ok-one.ensures.text ∙ c.bodies.invariant.text in
    let goes = one-more-made tables first c.bodies.made made c.bodies.window read window c.bodies.i next b
    c.bodies.invariant.goes c.in_ok-add_body.ensures reads held.passed in
    record {
      window = held.window;
      text = same;
      few = few-read tables first c.requires.passed made window same held.window next goes;
      fine = none-there made.offence (search rules);
      goes = goes;
    }

pub bodies-smaller : goal.bodies-smaller
bodies-smaller c =
    let read = c.stream_body.new.window in
    let next = c.in-Some-2.next in
    let b = body_view c.in-Some-2.one in
    let before = c.bodies.invariant in
    let reads : Streams OneBody c.bodies.window read c.bodies.i b next =
    rw c.in-Some-2.is at c.in_ok-one.ensures.body in
    let further = body-further (tables_of c.args.objects.now.system.now) c.args.window.now c.requires.passed
    c.bodies.made c.bodies.window before.text before.window c.bodies.i before.goes read b next reads in
    let few = (bodies-preserved c).few in
    omega arith

pub returns-then-i-len : goal.returns-then-i-len
returns-then-i-len c = λ last.
    let made = c.bodies.made in
    let window = c.bodies.window in
    let is = c.bodies.invariant in
    let at_end : c.bodies.i ≡ length window.tokens = omega (arith, c.if-i-len.true, c.len.ensures) in
    all-made (tables_of c.args.objects.now.system.now) c.args.window.now c.requires.passed made window is.text is.window
    c.bodies.i is.goes at_end (c.is_last.ensures.0 last) is.fine
