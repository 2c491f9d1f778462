-- What is read of one more member of a document.
use Rattle.std.proofs.Common.{◌≡◌, ◌∙◌, sym, ap, List, [], ◌∷◌, ◌++◌, map, Option, Some, option_map}
use Rattle.std.proofs.Common.{string_bytes, String, Vec, Global}
use Rattle.std.proofs.lemmas.List.{map-append}
use Rattle.toml.specs.Data.{Data, Members, member}
use Rattle.fmp_arguments.specs.declared.keys.Key.{Key}
use Rattle.fmp_arguments.specs.declared.reading.Setting.{Setting}
use Rattle.fmp_arguments.specs.Settings.{Text, member_words, members_settings, prepend, setting_then}
use Rattle.fmp_arguments.specs.Settings.{setting_view, texts_of}
use Rattle.fmp_arguments.proofs.More.{prepend_more}

-- the words for a member, whose name is read as a text
pub words_known : (folder : Text) (keys : List Key) (a b : Text) (d : Data) (o : Option (Vec (String Global) Global))
    (ws : Vec (String Global) Global) → a ≡ b → o ≡ Some ws
    → option_map texts_of o ≡ member_words folder keys a d → member_words folder keys b d ≡ Some (texts_of ws)
words_known folder keys a b d o ws same is says =
    ap (λ (n : Text). member_words folder keys n d) (sym same) ∙ sym says
    ∙ ap (λ (x : Option (Vec (String Global) Global)). option_map texts_of x) is

pub settings_more : (folder : Text) (keys : List Key) (done : List Setting) (s : Setting) (name : Text) (d : Data)
    (ms : Members) (all : Option (List (Text × List Text)))
    → member_words folder keys name d ≡ Some (texts_of s.words) → string_bytes s.name ≡ name
    → prepend (map setting_view done) (members_settings folder keys (member name d ms)) ≡ all
    → prepend (map setting_view (done ++ s ∷ [])) (members_settings folder keys ms) ≡ all
settings_more folder keys done s name d ms all words named says =
    let rest = members_settings folder keys ms in
    let seen = map setting_view done in
    ap (λ (v : List (Text × List Text)). prepend v rest) (map-append setting_view done (s ∷ []))
    ∙ sym (prepend_more seen (setting_view s) rest)
    ∙ ap (λ (n : Text). prepend seen (prepend ((n, texts_of s.words) ∷ []) rest)) named
    ∙ ap (λ (o : Option (List Text)). prepend seen (setting_then name o rest)) (sym words)
    ∙ says
