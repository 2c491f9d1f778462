use Rattle.std.proofs.Common.{◌≡◌, ℕ, suc, List, ◌+◌, ◌++◌, ◌∙◌, ap, sym, arith, drop, get_or, take}
use Rattle.std.proofs.Math.Seq.{drop-cons}
use Rattle.fmp_base.specs.declared.events.Line.{Line}
use Rattle.fmp_base.specs.declared.events.Line.TheVariants as line
use Rattle.fmp_base.specs.Systems.{tables_of}
use Rattle.fmp_base.specs.Texts.{line_text, lines_text}
use Rattle.fmp_trace.proofs.Appending.{begins_through, left_behind, one_more}
use Rattle.fmp_trace.proofs.lines.put_lines.Goals as goal

pub returns-in_err-end-clause-kept : goal.returns-in_err-end-clause-kept
returns-in_err-end-clause-kept c = begins_through c.loop-line.invariant.kept c.make_room.ensures.kept

pub loop-line-preserved : goal.loop-line-preserved
loop-line-preserved c =
    let i = c.loop-line.invariant in
    let sys = tables_of c.args.sys.now in
    let number = c.args.number.now in
    let k = c.loop-line.line-index in
    let lines = c.args.lines.now in
    let printed = get_or lines k (line.Tick 0) in
    let before = c.loop-line.out.items in
    let piece = take c.loop-line.end c.loop-line.bytes in
    let rest = lines_text sys number (drop (k + 1) lines) in
    let one : suc k ≡ k + 1 = omega arith in
    let whole = c.args.out.now.items ++ (take c.args.end c.args.bytes.now ++ lines_text sys number lines) in
    let next : lines_text sys number (drop k lines) ≡ line_text sys number printed ++ rest =
    ap (λ (ls : List Line). lines_text sys number ls) (drop-cons lines k (line.Tick 0)
    (omega (arith, c.loop-line-test.true)))
    ∙ ap (λ (j : ℕ). line_text sys number printed ++ lines_text sys number (drop j lines)) one in
    let put : take c.put_line-end.result c.put_line-end.new.line ≡ piece ++ line_text sys number printed =
    c.put_line-end.ensures.text ∙ ap (λ (n : ℕ). piece ++ line_text sys n printed) i.same in
    let joined : before ++ (piece ++ (line_text sys number printed ++ rest)) ≡ whole =
    ap (λ (xs : List ℕ). before ++ (piece ++ xs)) (sym next) ∙ i.text in
    record {
      same = c.put_line-end.ensures.kept ∙ i.same;
      text =
          left_behind before _ _ _ rest c.in_ok-end.ensures.text
          ∙ one_more before piece (take c.put_line-end.result c.put_line-end.new.line) _ rest whole put joined;
      kept = begins_through i.kept c.make_room.ensures.kept;
      room = c.in_ok-end.ensures.room;
      size = omega (arith, i.size, c.put_line-end.ensures.short, c.in_ok-end.ensures.len);
      capacity = omega (arith, i.capacity, c.make_room.ensures.capacity);
    }
