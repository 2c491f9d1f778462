use Rattle.std.proofs.Common.{◌≡◌, ◌∙◌, sym, ap, subst, arith, rules, inr, List, [], ◌∷◌, ◌++◌, map, string_bytes}
use Rattle.std.proofs.lemmas.Grind.{common_steps}
use Rattle.toml.specs.View.{members_view, view}
use Rattle.toml.proofs.Views.{Entry}
use Rattle.fmp_arguments.specs.declared.reading.Setting.{Setting}
use Rattle.fmp_arguments.specs.SettingsFaults.{IsWrongAmong}
use Rattle.fmp_arguments.specs.Settings.{members_settings, prepend, setting_view}
use Rattle.fmp_arguments.proofs.Members.{settings_more, words_known}
use Rattle.fmp_arguments.proofs.reading.table_settings.Goals as goal

pub members-preserved : goal.members-preserved
members-preserved c =
    let folder = c.args.folder.now in
    let keys = c.args.keys.now in
    let e : Entry = (c.in-Some.name.now, c.in-Some.value.now) in
    let iter : c.members.name-iterator ≡ e ∷ c.next.new.self = grind (arith, common_steps) in
    let s : Setting = record { name = c.in_ok-clone-in-Some-2.field-0; words = c.in-Some-2.words } in
    let pushed : c.push.new.self.items ≡ c.members.settings.items ++ s ∷ [] = search rules in
    let named : string_bytes c.in_ok-clone-in-Some-2.field-0 ≡ string_bytes c.in-Some.name.now = search rules in
    let words =
    words_known folder keys c.as_str.result.now (string_bytes c.in-Some.name.now) (view c.in-Some.value.now)
    c.in_ok-words.field-0 c.in-Some-2.words c.as_str.ensures.value c.in-Some-2.is c.in_ok-words.ensures
    in
    let says =
    ap
    (λ (es : List Entry). prepend (map setting_view c.members.settings.items)
    (members_settings folder keys (members_view es)))
    (sym iter)
    ∙ c.members.invariant.says
    in
    record {
      says =
          ap
          (λ (items : List Setting). prepend (map setting_view items)
          (members_settings folder keys (members_view c.next.new.self)))
          pushed
          ∙ settings_more folder keys c.members.settings.items s (string_bytes c.in-Some.name.now)
          (view c.in-Some.value.now) (members_view c.next.new.self)
          (members_settings folder keys (members_view c.args.table.now.entries)) words named says;
      among =
          λ w h. c.members.invariant.among w
          (subst (λ (es : List Entry). IsWrongAmong folder keys (members_view es) w) (sym iter) (inr h));
    }
