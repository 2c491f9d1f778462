use Rattle.std.proofs.Common.{◌≡◌, ◌≢◌, ◌∙◌, ◌++◌, ◌<◌, ◌^◌, IfSome, List, Option, ℕ, ap, codes, option_map, subst, sym}
use Rattle.std.proofs.Common.{true≢false}
use denote.Ref.{Bor}
use Rattle.fmp_searching.specs.Files.{out_name}
use Rattle.fmp_searching.specs.Sources.{steps_name}
use Rattle.fmp_searching.proofs.steps_files.is_report_of_steps.Goals as goal

pub returns : goal.returns
unfolding steps_name
returns g c = λ apart.
    let e = c.args.exploring.now in
    let out = out_name e.cfg.now (option_map (λ n. n.now) e.out) in
    let text = c.in-Some-number_of.number.now in
    subst
    (λ (o : Option (Bor (List ℕ))). IfSome o (λ name. (n : ℕ) → 0 < n → n < 2 ^ 64 → name.now ≢ steps_name out n))
    (sym c.in-Some.is)
    (λ n low small is.
    let same : c.in-Some.report.now ≡ c.as_str-2.result.now =
    is
    ∙ ap (λ (t : List ℕ). out ++ (codes "." ++ t)) (sym (c.in-Some-number_of.ensures out n low small is))
    ∙ ap (λ (o : List ℕ). o ++ (codes "." ++ text)) (sym (c.as_str.ensures.value ∙ c.in_ok-out.ensures))
    ∙ sym c.in_ok-steps.ensures
    ∙ sym c.as_str-2.ensures.value in
    true≢false (sym (c.is_one_file.ensures.equal same) ∙ apart))
