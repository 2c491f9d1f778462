-- What is right about an operand that is a name, and about one that does not begin.
use Rattle.std.proofs.Common.{◌≡◌, ℕ, ◌+◌, ◌<◌, ◌≤◌, List, length, slice_get, Option, Some, None, sym, subst, ap, arith}
use Rattle.fmp_lex.specs.declared.reading.GrammarFault.TheVariants.{Syntax}
use Rattle.fmp_lex.specs.declared.token.TokenKind.{TokenKind}
use Rattle.fmp_lex.specs.Reading.{ParseResult, found, stopped, map_result}
use Rattle.fmp_tasklang.specs.declared.trees.Word.{Word}
use Rattle.fmp_tasklang.specs.Trees.{ExpressionTree, named, element}
use Rattle.fmp_tasklang.specs.Expressions.{reference, IsWord}
use Rattle.fmp_tasklang.specs.Reading.{RightWord, RightOperand, RightIndex, RightBracketed}
use Rattle.fmp_tasklang.specs.Starts.{Starts}
use Rattle.fmp_tasklang.proofs.Families.{name_excludes}
use Rattle.fmp_tasklang.proofs.Operands.{open_bracket, word_here, word_missing, word_found, name_stop, name_then}
use Rattle.fmp_tasklang.proofs.Operands.{without_index, with_index}

module _ (ts : List TokenKind) (d i : ℕ) where
  pub operand_missing : Starts (slice_get ts i) None → i ≤ length ts → RightOperand ts d i (stopped i Syntax)
  operand_missing none within = name_stop ts d i none.0 none.2 none.3 i Syntax (word_missing ts i (sym none.1) within)

  module _ (w : Word) (lt : i < length ts) (is : IsWord ts i w (i + 1)) where
    word_there : RightWord ts i (found w (i + 1))
    word_there =
        let same : word_here i w.name ≡ w = ap (λ n. record { name = w.name; at = n }) (sym is.0) in
        subst (λ v. RightWord ts i (found v (i + 1))) same (word_found ts i w.name lt is.1.0)

    reference_then : (o : ParseResult (Option ExpressionTree)) → RightIndex ts d (i + 1) o →
        RightOperand ts d i (map_result (reference w) o)
    reference_then o x =
        let no = name_excludes (slice_get ts i) w.name is.1.0 in
        name_then ts d i no.0 no.1 no.2 w (i + 1) word_there o x

    pub named_found : (slice_get ts (i + 1) ≡ Some open_bracket → ⊥) → RightOperand ts d i (found (named w) (i + 1))
    named_found is_not = reference_then (found None (i + 1)) (without_index ts d (i + 1) is_not (omega (arith, lt)))

    pub element_then : slice_get ts (i + 1) ≡ Some open_bracket → (o : ParseResult ExpressionTree) →
        RightBracketed ts d (i + 1) o → RightOperand ts d i (map_result (element w) o)
    element_then at (found e j) x = reference_then (found (Some e) j) (with_index ts d (i + 1) at (found e j) x)
    element_then at (stopped j why) x = reference_then (stopped j why) (with_index ts d (i + 1) at (stopped j why) x)
