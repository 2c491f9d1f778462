use Rattle.std.proofs.Common.{◌≡◌, ◌∙◌, List, ℕ, ap, arith, get_or, length, nat_eq, sym, true}
use Rattle.std.proofs.lemmas.Fmt.{decimal_nonempty, first_decimal}
use Rattle.std.proofs.lemmas.Str.Pattern.{starts_char}
use Rattle.std.specs.Char.{is_ascii_digit}
use Rattle.std.specs.Fmt.{decimal}
use Rattle.std.specs.List.{list_all}
use Rattle.fmp_searching.proofs.StepsNames.{all_digits, digits_written, not_empty}
use Rattle.fmp_searching.proofs.steps_files.is_count.Goals as goal

pub returns-then-is_empty : goal.returns-then-is_empty
returns-then-is_empty c = λ n low small is.
    let empty : nat_eq (length (decimal n)) 0 ≡ true =
    ap (λ (t : List ℕ). nat_eq (length t) 0) (sym is) ∙ sym c.is_empty.ensures ∙ c.if-is_empty.true in
    absurd (not_empty (decimal n) empty (decimal_nonempty n small))

pub returns-then-starts_with : goal.returns-then-starts_with
returns-then-starts_with c = λ n low small is.
    let text = c.args.text.now in
    let tells = starts_char 48 text c.starts_with.result c.starts_with.ensures.cases (omega arith) (omega arith) in
    let first : get_or (decimal n) 0 0 ≡ 48 =
    ap (λ (t : List ℕ). get_or t 0 0) (sym is) ∙ tells.0 c.if-starts_with.true in
    absurd (omega (arith, first, first_decimal n low small))

pub returns : goal.returns
returns c = λ n low small is.
    c.are_digits.ensures
    ∙ ap (λ (t : List ℕ). list_all is_ascii_digit t) (c.as_bytes.ensures.value ∙ is)
    ∙ all_digits (decimal n)
    ∙ digits_written n small
