use Rattle.std.proofs.Common.{◌≡◌, ◌+◌, [], ◌++◌, append-nil, append_assoc, cond, drop, true, false, sym, ap, ◌∙◌}
use Rattle.fmp_frames.proofs.Bodies.{call_positions_at}
use Rattle.fmp_frames.proofs.call_positions.calls_after.Goals as goal
use Rattle.fmp_frames.specs.CallPositions.{call_position_at, call_positions, head_at}

pub returns-then-begins_at : goal.returns-then-begins_at
returns-then-begins_at c =
    let begins = c.args.text.begins.now in
    let ts = c.args.text.tokens.now in
    let i = c.loop-at.at in
    let head : head_at ts i ≡ true = sym c.begins_at.ensures ∙ c.if-begins_at.true in
    let none : call_positions begins (drop i ts) ≡ [] =
    call_positions_at begins ts i
    ∙ ap (λ b. cond b [] (call_position_at begins ts i ++ call_positions begins (drop (i + 1) ts))) head in
    sym (append-nil c.loop-at.calls.items)
    ∙ ap (λ r. c.loop-at.calls.items ++ r) (sym none)
    ∙ c.loop-at.invariant

pub loop-at-preserved : goal.loop-at-preserved
loop-at-preserved c =
    let begins = c.args.text.begins.now in
    let ts = c.args.text.tokens.now in
    let i = c.loop-at.at in
    let calls = c.loop-at.calls.items in
    let more = call_positions begins (drop (i + 1) ts) in
    let head : head_at ts i ≡ false = sym c.begins_at.ensures ∙ c.if-begins_at.false in
    let here : call_positions begins (drop i ts) ≡ call_position_at begins ts i ++ more =
    call_positions_at begins ts i ∙ ap (λ b. cond b [] (call_position_at begins ts i ++ more)) head in
    ap (λ xs. xs ++ more) c.in_ok-add_call_at.ensures
    ∙ append_assoc calls (call_position_at begins ts i) more
    ∙ ap (λ r. calls ++ r) (sym here)
    ∙ c.loop-at.invariant
