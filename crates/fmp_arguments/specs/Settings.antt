-- What a text of settings says for the options of a command.
use Rattle.std.specs.Prelude.{ℕ, ℤ, pos, Bool, true, false, ◌&&◌, ◌==◌, if◌then◌else◌, List, [], ◌∷◌, ◌++◌, map, nat_le}
use Rattle.std.specs.Prelude.{Option, Some, None, option_map, option_and_then, String, Vec, codes, decimal}
use Rattle.std.specs.Prelude.{bytes_eq, slice_get, string_bytes}
use Rattle.std.specs.declared.alloc.Global.{Global}
use Rattle.std.specs.List.{list_any}
use Rattle.toml.specs.Data.{Data, Items, Members, as_array, as_bool, as_integer, as_str}
use Rattle.toml.specs.Data.{item, member, no_items, no_members}
use Rattle.toml.specs.Parse.{parse_document}
use Rattle.fmp_arguments.specs.declared.keys.Key.{Key}
use Rattle.fmp_arguments.specs.declared.keys.ValueKind.{ValueKind}
use Rattle.fmp_arguments.specs.declared.keys.ValueKind.TheVariants as kind
use Rattle.fmp_arguments.specs.declared.reading.Setting.{Setting}

abbrev pub Text : Type 0
Text = List ℕ

-- a list after another one, if there is one
abbrev pub prepend : {A : Type 0} → List A → Option (List A) → Option (List A)
prepend xs None = None
prepend xs (Some ys) = Some (xs ++ ys)

-- the kind of the values of the key of this name
abbrev pub kind_of : List Key → Text → Option ValueKind
kind_of [] name = None
kind_of (key ∷ keys) name = if bytes_eq key.name.now name then Some key.kind else kind_of keys name

-- an option, and an option with a value, as the command line has them
abbrev pub flag_word : (name : Text) → Text
flag_word name = codes "--" ++ name

abbrev pub value_word : (name value : Text) → Text
value_word name value = (flag_word name ++ codes "=") ++ value

-- a name of a file that settings in this folder give
abbrev pub is_slash : Option ℕ → Bool
is_slash None = false
is_slash (Some byte) = byte == 47

abbrev pub file_in : (folder name : Text) → Text
file_in folder name = if is_slash (slice_get name 0) then name else folder ++ name

-- the words for a value of each kind; none for a value that is not of the kind
abbrev pub flag_words : (name : Text) → Bool → List Text
flag_words name true = flag_word name ∷ []
flag_words name false = []

abbrev pub choice_words : (name : Text) → List Text → Text → Option (List Text)
choice_words name choices word =
    if list_any (λ choice. bytes_eq choice word) choices then Some (value_word name word ∷ []) else None

abbrev pub natural : ℤ → Option ℕ
natural (pos n) = Some n
natural _ = None

abbrev pub range_words : (name : Text) → (low high n : ℕ) → Option (List Text)
range_words name low high n =
    if nat_le low n && nat_le n high then Some (value_word name (decimal n) ∷ []) else None

abbrev pub number_words : (name : Text) → (low high : ℕ) → ℤ → Option (List Text)
number_words name low high z = option_and_then (range_words name low high) (natural z)

abbrev pub word_then : (name : Text) → Option Text → Option (List Text) → Option (List Text)
word_then name None rest = None
word_then name (Some text) rest = prepend (value_word name text ∷ []) rest

abbrev pub list_words : (name : Text) → Items → Option (List Text)
list_words name no_items = Some []
list_words name (item d ds) = word_then name (as_str d) (list_words name ds)

abbrev pub value_words : (folder name : Text) → ValueKind → Data → Option (List Text)
value_words folder name kind.Flag d = option_map (flag_words name) (as_bool d)
value_words folder name (kind.OneOf words) d =
    option_and_then (choice_words name (map (λ word. word.now) words.now)) (as_str d)
value_words folder name (kind.Number low high) d = option_and_then (number_words name low high) (as_integer d)
value_words folder name kind.File d = option_map (λ file. value_word name (file_in folder file) ∷ []) (as_str d)
value_words folder name kind.Texts d = option_and_then (list_words name) (as_array d)

-- the words for a member of a document; none for a key that there is not, and for a value of another kind
abbrev pub member_words : (folder : Text) → List Key → (name : Text) → Data → Option (List Text)
member_words folder keys name d = option_and_then (λ k. value_words folder name k d) (kind_of keys name)

-- each member's name with its words, in the order of the names; none where there are none for a member
abbrev pub setting_then : (name : Text) → Option (List Text) → Option (List (Text × List Text))
    → Option (List (Text × List Text))
setting_then name None rest = None
setting_then name (Some words) rest = prepend ((name, words) ∷ []) rest

abbrev pub members_settings : (folder : Text) → List Key → Members → Option (List (Text × List Text))
members_settings folder keys no_members = Some []
members_settings folder keys (member name d ms) =
    setting_then name (member_words folder keys name d) (members_settings folder keys ms)

-- what a text says; none where it is no document, or a member of it is wrong
abbrev pub settings_of : (folder : Text) → List Key → (text : List ℕ) → Option (List (Text × List Text))
settings_of folder keys text = option_and_then (members_settings folder keys) (parse_document text)

-- the texts of strings, and a setting as a name with its words
abbrev pub texts_of : Vec (String Global) Global → List Text
texts_of words = map string_bytes words.items

abbrev pub setting_view : Setting → Text × List Text
setting_view s = (string_bytes s.name, texts_of s.words)
