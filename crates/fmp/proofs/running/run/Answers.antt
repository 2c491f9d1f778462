use Rattle.std.proofs.Common.{◌≡◌, ◌∙◌, ap, map, string_bytes, subst}
use Rattle.clap.specs.Words.{kind_of}
use Rattle.fmp.specs.Asked.{AsksFor, IsRefused}
use Rattle.fmp.specs.Runs.{ran, refused}
use Rattle.fmp.proofs.running.run.Goals as goal

pub returns-in-Ok-command : goal.returns-in-Ok-command
returns-in-Ok-command g c =
    let same : map (λ word. word.now) c.deref.result.now ≡ map string_bytes c.args.words.now = ap
    (map (λ word. word.now)) c.deref.ensures.value ∙ c.in-Ok.ensures in
    let cmd = c.in-Ok-command.cmd in
    ran cmd (subst (λ words. AsksFor words cmd) same c.in-Ok-command.ensures.asked) c.run_command.ensures

pub returns : goal.returns
returns g c =
    let same : map (λ word. word.now) c.deref.result.now ≡ map string_bytes c.args.words.now = ap
    (map (λ word. word.now)) c.deref.ensures.value ∙ c.in-Ok.ensures in
    let kind = kind_of c.in-Err-command.error in
    refused kind (subst (λ words. IsRefused words kind) same c.in-Err-command.ensures.refused) c.refuse_form.ensures
