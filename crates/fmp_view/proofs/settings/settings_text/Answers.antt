use Rattle.std.proofs.Common.{◌≡◌, ◌≤◌, arith, length, rules, vec_len}
use Rattle.fmp_view.proofs.SettingsLemmas.{whole_text}
use Rattle.fmp_view.proofs.settings.settings_text.Goals as goal

pub returns : goal.returns
returns g c =
    let text = c.in_ok-text.text in
    let count : vec_len text ≡ length text.items = search rules in
    let few : length text.items ≤ 16384 = omega (arith, c.len.ensures, count, c.if-len-gt-SETTINGS_MAX.false) in
    whole_text ((g.O.Outside.files c.args.outside.now).bytes c.args.file.now) text.items 16384 few
    c.in_ok-text.ensures.bytes
