use Rattle.std.proofs.Common.{◌⊎◌, inr}
use Rattle.fmp_lex.specs.Reading.{kinds_of}
use Rattle.fmp_tasklang.specs.Reading.{statements_view}
use Rattle.fmp_tasklang.specs.Streaming.{IsStuck, LacksStatements, heading_view}
use Rattle.fmp_tasklang.proofs.StatementFrames.{close_brace}
use Rattle.fmp_tasklang.proofs.StreamedBodies.{body_lacks, body_streams, no_fault}
use Rattle.fmp_tasklang.proofs.Views.{block_view-is}
use Rattle.fmp_tasklang.proofs.streaming.stream_body.Goals as goal

pub returns-in_default-clause-none : goal.returns-in_default-clause-none
returns-in_default-clause-none c =
    let window = c.stream_statements.new.window in
    let lacks = rw c.in_default.is at c.in_ok-statements.ensures.none in
    λ before passed. inr (body_lacks (IsStuck window ⊎ LacksStatements (kinds_of window.tokens)) c.args.window.now
    c.args.at c.in-Ok.found.1 (heading_view c.in-Ok.found.0) c.requires.at c.in-Ok.ensures lacks before passed)

pub returns-in_default-expect_symbol-clause-none : goal.returns-in_default-expect_symbol-clause-none
returns-in_default-expect_symbol-clause-none c =
    let end = rw c.in-Some.is at c.in_ok-statements.ensures.end in
    let fault = c.in_default-expect_symbol in
    λ before passed. absurd (no_fault (kinds_of c.stream_statements.new.window.tokens) close_brace c.in-Some.next
    fault.field-0.at fault.field-0.why end fault.ensures)

pub returns-clause-body : goal.returns-clause-body
returns-clause-body c =
    let statements = rw c.in-Some.is at c.in_ok-statements.ensures.statements in
    rw (block_view-is c.in-Some.statements.items) (body_streams c.args.at c.args.kind c.in-Ok.found.0.name
    c.in-Ok.found.0.variables.items (statements_view c.in-Some.statements) c.in-Ok-expect_symbol.next
    c.args.window.now c.stream_statements.new.window c.in-Ok.found.1 c.in-Some.next c.requires.at c.requires.first
    c.in-Ok.ensures statements c.in-Ok-expect_symbol.ensures)
