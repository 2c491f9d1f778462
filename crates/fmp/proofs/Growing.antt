-- Commands of known forms that grow by arguments and by subcommands.
use Rattle.std.proofs.Common.{◌≡◌, ◌∙◌, Result, Ok, Err, IfOk, IsOkAnd, true, ap, ap₂}
use Rattle.std.proofs.lemmas.Result.{IfOk-weaker}
use Rattle.clap.specs.Words.{App, Rule, app_of, with_rule, with_subcommand}
use Rattle.clap.specs.declared.builder.command.Command.{Command}

-- one more argument of a known rule
pub one_rule : {E : Type 0} (made grown : Result Command E) (form : App) (given rule : Rule)
    → IfOk made (λ b. app_of b ≡ form) → given ≡ rule
    → IfOk grown (λ c. IsOkAnd made (λ b. app_of c ≡ with_rule (app_of b) given))
    → IfOk grown (λ c. app_of c ≡ with_rule form rule)
one_rule made (Err e) form given rule is same grows = tt
one_rule (Err e) (Ok c) form given rule is same grows = absurd grows
one_rule (Ok b) (Ok c) form given rule is same grows = grows ∙ ap₂ (λ (a : App) (r : Rule). with_rule a r) is same

-- one more subcommand of a known form
pub one_command : {E : Type 0} (made sub grown : Result Command E) (form part : App)
    → IfOk made (λ b. app_of b ≡ form) → IfOk sub (λ s. app_of s ≡ part)
    → IfOk grown (λ c. IsOkAnd made (λ b. IsOkAnd sub (λ s. app_of c ≡ with_subcommand (app_of b) (app_of s).top)))
    → IfOk grown (λ c. app_of c ≡ with_subcommand form part.top)
one_command made sub (Err e) form part is same grows = tt
one_command (Err e) sub (Ok c) form part is same grows = absurd grows
one_command (Ok b) (Err e) (Ok c) form part is same grows = absurd grows
one_command (Ok b) (Ok s) (Ok c) form part is same grows = grows ∙ ap₂ (λ (a p : App). with_subcommand a p.top) is same

pub plain : {E : Type 0} (made : Result Command E) (part : App) → part.top.is_plain ≡ true
    → IfOk made (λ s. app_of s ≡ part)
    → IfOk made (λ s. (app_of s).top.is_plain ≡ true)
plain made part certain is = IfOk-weaker made _ _ (λ s e. ap (λ (a : App). a.top.is_plain) e ∙ certain) is
