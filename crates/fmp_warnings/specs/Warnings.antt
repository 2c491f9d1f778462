-- The warnings of two texts that have no fault.
use Rattle.std.specs.Prelude.{◌≡◌, List, ◌++◌}
use Rattle.fmp_lex.specs.declared.token.Token.{Token}
use Rattle.fmp_diagnosis.specs.declared.sentence.Texts.{Texts}
use Rattle.fmp_diagnosis.specs.Culprits.{HasTokens}
use Rattle.fmp_warnings.specs.declared.found.Warning.{Warning}
use Rattle.fmp_warnings.specs.Marks.{structure}
use Rattle.fmp_warnings.specs.Unreached.{WarnsOfUnreached}
use Rattle.fmp_warnings.specs.Warned.{ArePicked}

-- Among the warnings of two texts stands one of each statement of the task text that nothing reaches, in order of text.
-- Those before are of calls, indices, expressions and loops, and those after of locks, bits, sleeps, bodies, constants
-- and objects: nothing more is said of them.
pub record AreWarningsOf (t : Texts) (ws : List Warning) : Type 0 where
  pub src : List Token
  pub is_src : HasTokens t.src.now src
  pub before : List Warning
  pub unreached : List Warning
  pub after : List Warning
  pub are : ws ≡ before ++ (unreached ++ after)
  pub are_unreached : ArePicked (WarnsOfUnreached t.src.now src) (structure src) unreached
