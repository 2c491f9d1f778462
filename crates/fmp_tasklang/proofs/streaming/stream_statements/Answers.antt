use Rattle.std.proofs.Common.{false, ◌∙◌, inl, inr, rules}
use Rattle.fmp_lex.specs.Reading.{Star}
use Rattle.fmp_lex.proofs.Streaming.{streams_hold}
use Rattle.fmp_tasklang.specs.Reading.{OneStatement, statements_view}
use Rattle.fmp_tasklang.proofs.StreamedBodies.{streams_all, streams_part, statements_stuck}
use Rattle.fmp_tasklang.proofs.streaming.stream_statements.Goals as goal

pub returns-in-Ok-clause-statements : goal.returns-in-Ok-clause-statements
returns-in-Ok-clause-statements c =
    streams_all c.args.window.now c.parts.window c.args.at c.parts.i c.add_statements.new.at
    (statements_view c.parts.found) (statements_view c.add_statements.new.found) c.parts.invariant.statements
    c.in-Ok.ensures

pub parts-preserved : goal.parts-preserved
parts-preserved c =
    let held = c.in_ok-hold.ensures in
    let part = streams_part c.args.window.now c.parts.window c.args.at c.parts.i c.add_statements.new.at
    (statements_view c.parts.found) (statements_view c.add_statements.new.found) c.parts.invariant.statements
    c.in-Err-Fault.fault (rw c.in-Err-Fault.field-0-is at c.in-Err-Fault.ensures) in
    record {
      text = held.text ∙ c.parts.invariant.text;
      window = held.window;
      within = held.within (search rules);
      statements = streams_hold (Star (OneStatement 0 false)) c.args.window.now c.parts.window c.hold.new.self c.args.at
          (statements_view c.add_statements.new.found) c.add_statements.new.at part held.passed;
    }

pub returns-then-not-branch-clause-none : goal.returns-then-not-branch-clause-none
returns-then-not-branch-clause-none c =
    let w0 = c.args.window.now in
    let w1 = c.parts.window in
    let after = statements_view c.add_statements.new.found in
    let j = c.add_statements.new.at in
    let part = streams_part w0 w1 c.args.at c.parts.i j (statements_view c.parts.found) after
    c.parts.invariant.statements c.in-Err-Fault.fault
    (rw c.in-Err-Fault.field-0-is at c.in-Err-Fault.ensures) in
    let stuck = c.in_ok-hold.ensures.stuck (search rules) in
    λ before passed. inl (statements_stuck w0 w1 c.hold.new.self c.args.at j after part c.parts.invariant.window stuck
    before passed)
