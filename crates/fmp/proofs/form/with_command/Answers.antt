use Rattle.std.proofs.Common.{◌≡◌, ◌&&◌, Bool, false, IfOk, IsOkAnd, not, Ok, refl, subst, sym, true}
use Rattle.std.proofs.lemmas.Result.{IfOk-weaker}
use Rattle.clap.specs.Words.{app_of, with_subcommand}
use Rattle.clap.specs.declared.builder.command.Command.TheViews.{out-Command}
use Rattle.fmp.proofs.form.with_command.Goals as goal

third : (a b x rest : Bool) → (a && (b && (not x && rest))) ≡ true → x ≡ false
third true true true rest all = cc
third true true false rest all = refl
third true false x rest all = cc
third false b x rest all = cc

pub returns : goal.returns
returns c =
    let base = c.in_ok-command.field-0 in
    let made = c.in_ok-subcommand.field-0 in
    let was : c.args.subcommand ≡ Ok made = c.in_ok-subcommand.was in
    let plain : (app_of made).top.is_plain ≡ true = subst (λ r. IfOk r (λ s. (app_of s).top.is_plain ≡ true)) was
    c.requires in
    let local : (out-Command made).has_globals ≡ false = third _ _ _ _ plain in
    subst (λ b. IfOk c.subcommand.result (λ c'. IsOkAnd b (λ b'. IsOkAnd c.args.subcommand
    (λ s. app_of c' ≡ with_subcommand (app_of b') (app_of s).top)))) (sym c.in_ok-command.was)
    (subst (λ r. IfOk c.subcommand.result (λ c'. IsOkAnd r (λ s. app_of c'
    ≡ with_subcommand (app_of base) (app_of s).top))) (sym was)
    (IfOk-weaker c.subcommand.result _ _ (λ new adds. adds.shape local) c.subcommand.ensures))
