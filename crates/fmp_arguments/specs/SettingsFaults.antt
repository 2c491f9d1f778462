-- Where a text of settings is refused.
use Rattle.std.specs.Prelude.{ℕ, ◌≡◌, ◌<◌, ◌≤◌, ◌⊎◌, ◌==◌, ◌+◌, IsSome, IsUtf8, List}
use Rattle.std.specs.Prelude.{Some, None, length, map, string_bytes, take}
use Rattle.std.specs.List.{count_by}
use Rattle.toml.specs.Data.{Members, member, no_members}
use Rattle.toml.specs.Parse.{parse_document}
use Rattle.toml.specs.Errors.{IsWithin}
use Rattle.fmp_arguments.specs.declared.keys.Key.{Key}
use Rattle.fmp_arguments.specs.declared.settings_faults.Look.{Look}
use Rattle.fmp_arguments.specs.declared.settings_faults.Look.TheVariants as look
use Rattle.fmp_arguments.specs.declared.reading.Wrong.{Wrong}
use Rattle.fmp_arguments.specs.declared.reading.Wrong.TheVariants as wrong
use Rattle.fmp_arguments.specs.declared.settings_faults.Lines.{Lines}
use Rattle.fmp_arguments.specs.declared.settings_faults.Lines.TheVariants as lines
use Rattle.fmp_arguments.specs.declared.settings_faults.Refusal.{Refusal}
use Rattle.fmp_arguments.specs.declared.settings_faults.Refusal.TheVariants as refusal
use Rattle.fmp_arguments.specs.Settings.{Text, kind_of, member_words, members_settings}
use Rattle.fmp_arguments.specs.Settings.{setting_view, settings_of}

-- the number of the line, from 1, that begins after this many bytes
abbrev pub line_after : List ℕ → ℕ → ℕ
line_after text before = count_by (λ byte. byte == 10) (take before text) + 1

-- what is wrong with a member of this name, for which there are no words
abbrev pub IsWrongOf : List Key → (name : Text) → Wrong → Type 0
IsWrongOf keys name (wrong.Key key) = (string_bytes key ≡ name) × (kind_of keys name ≡ None)
IsWrongOf keys name (wrong.Value key kind) = (string_bytes key ≡ name) × (kind_of keys name ≡ Some kind)

-- what is wrong with one of these members
abbrev pub IsWrongAmong : (folder : Text) → List Key → Members → Wrong → Type 0
IsWrongAmong folder keys no_members w = ⊥
IsWrongAmong folder keys (member name d ms) w =
    ((member_words folder keys name d ≡ None) × IsWrongOf keys name w) ⊎ IsWrongAmong folder keys ms w

-- a text is a document, and this is wrong with a member of it
pub record IsWrong (folder : Text) (keys : List Key) (text : List ℕ) (w : Wrong) : Type 0 where
  pub members : Members
  pub document : parse_document text ≡ Some members
  pub none : members_settings folder keys members ≡ None
  pub among : IsWrongAmong folder keys members w

-- a text is no document
abbrev pub IsNoDocument : (text : List ℕ) → Type 0
IsNoDocument text = IsUtf8 text → parse_document text ≡ None

-- what a look at a text finds
abbrev pub LooksAt : (folder : Text) → List Key → (text : List ℕ) → Look → Type 0
LooksAt folder keys text (look.Read settings) = settings_of folder keys text ≡ Some (map setting_view settings.items)
LooksAt folder keys text (look.Wrong w) = IsWrong folder keys text w
LooksAt folder keys text (look.Unfinished e) = IsNoDocument text × IsWithin text e

-- a line begins after what is read, or at the beginning
pub record BeginsAt (folder : Text) (keys : List Key) (text : List ℕ) (line : ℕ) : Type 0 where
  pub before : ℕ
  pub is_line : line ≡ line_after text before
  pub read : 0 < before → IsSome (settings_of folder keys (take before text))

-- What stands before this line is read, and with some of what follows this is wrong with a member.
pub record IsMemberFault (folder : Text) (keys : List Key) (text : List ℕ) (line : ℕ) (w : Wrong) : Type 0 where
  pub begins : BeginsAt folder keys text line
  pub through : ℕ
  pub wrong : IsWrong folder keys (take through text) w

-- a text is no document, and its reader stops at this line
pub record IsFormFault (text : List ℕ) (line : ℕ) : Type 0 where
  pub none : IsNoDocument text
  pub before : ℕ
  pub within : before ≤ length text
  pub is_line : line ≡ line_after text before

-- where a text is refused, and why
abbrev pub IsRefusal : (folder : Text) → List Key → (text : List ℕ) → Refusal → Type 0
IsRefusal folder keys text (refusal.Member line w) = IsMemberFault folder keys text line w
IsRefusal folder keys text (refusal.Form line message) = IsFormFault text line

-- a text is refused before the end of a line of it; or a line begins after all lines that are read
abbrev pub GoesThrough : (folder : Text) → List Key → (text : List ℕ) → Lines → Type 0
GoesThrough folder keys text (lines.Refused line w) = IsMemberFault folder keys text line w
GoesThrough folder keys text (lines.Through line) = BeginsAt folder keys text line
