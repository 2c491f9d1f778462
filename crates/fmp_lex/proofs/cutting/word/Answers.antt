use Rattle.std.proofs.Common.{◌≡◌, ◌+◌, ◌-◌, slice_range, arith}
use Rattle.fmp_lex.proofs.Spellings.{name_short, name_long, range_length}
use Rattle.fmp_lex.proofs.cutting.word.Goals as goal

pub returns-then-end-start-gt-MAX-clause-piece : goal.returns-then-end-start-gt-MAX-clause-piece
returns-then-end-start-gt-MAX-clause-piece c =
    let text = c.args.text.now in
    let size = range_length text c.args.start c.args.end c.requires.within in
    name_long (slice_range text c.args.start c.args.end) c.args.end (c.in_default.ensures.word text)
    (omega (arith, size, c.if-end-start-gt-MAX.true))

pub returns-clause-piece : goal.returns-clause-piece
returns-clause-piece c =
    let text = c.args.text.now in
    let some = c.requires.some in
    let whole : c.args.start + (c.args.end - c.args.start) ≡ c.args.end = omega arith in
    let size = range_length text c.args.start c.args.end c.requires.within in
    rw (c.new.ensures, whole) (name_short (slice_range text c.args.start c.args.end) c.args.end
    (c.in_default.ensures.word text) (omega (arith, size, c.if-end-start-gt-MAX.false)))
