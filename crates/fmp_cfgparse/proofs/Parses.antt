-- The first fault of a text from that of its tokens.
use Rattle.std.proofs.Common.{◌≡◌, ℕ, ◌≤◌, List, length, slice_get, Err, inr, ap, ◌∙◌}
use Rattle.fmp_lex.specs.declared.token.Token.{Token}
use Rattle.fmp_lex.specs.declared.reading.GrammarFault.{GrammarFault}
use Rattle.fmp_lex.specs.declared.position.TokenPosition.{TokenPosition}
use Rattle.fmp_lex.specs.Cutting.{Cuts}
use Rattle.fmp_lex.specs.Faults.{text_max, fault_of, IsSyntaxFault}
use Rattle.fmp_lex.specs.Positions.{text_end}
use Rattle.fmp_lex.specs.Reading.{kinds_of, IsFirstFault}
use Rattle.fmp_lex.specs.declared.fault.BuildFault.{BuildFault}
use Rattle.fmp_lex.specs.declared.fault.BuildFault.TheVariants as build
use Rattle.fmp_lex.specs.declared.fault.TextFile.TheVariants as file
use Rattle.fmp_cfgparse.specs.Grammar.{Config}
use Rattle.fmp_cfgparse.specs.Parsing.{IsParse}

is_parse : (text : List ℕ) (f : BuildFault) → IsSyntaxFault file.Configuration Config text f → IsParse text (Err f)
is_parse text build.Memory x = tt
is_parse text (build.At f place why) x = x

pub parse_stopped : (text : List ℕ) (ts : List Token) (j : ℕ) (end : TokenPosition) (why : GrammarFault)
    (f : BuildFault)
    → length text ≤ text_max → Cuts text 0 ts →
    IsFirstFault Config (kinds_of ts) j why → end ≡ text_end text → f
    ≡ fault_of file.Configuration end (slice_get ts j) why → IsParse text (Err f)
parse_stopped text ts j end why f short cut first there is =
    is_parse text f (inr (
      short,
      (
        ts,
        cut,
        j,
        why,
        first,
        is ∙ ap (λ p. fault_of file.Configuration p
            (slice_get ts j) why) there,
      ),
    ))
