-- The names of a text in C.
use Rattle.std.specs.Prelude.{ℕ, List, [], ◌++◌, codes, nat_eq, Bool, true, false, ◌||◌}
use Rattle.std.specs.List.{list_any, starts_with, ends_with}
use Rattle.std.specs.Str.{bytes_eq}
use Rattle.fmp_base.specs.declared.names.Name.{Name}
use Rattle.fmp_base.specs.Names.{name_text}
use Rattle.fmp_export.specs.declared.words.TheConstants.{TAKEN}

-- what a block is indented by
abbrev pub tab : List ℕ
tab = codes "    "

-- the name begins or ends as names of C, of the port or of what is exported
abbrev pub looks_taken : List ℕ → Bool
looks_taken name =
    starts_with nat_eq name (codes "_")
    || (starts_with nat_eq name (codes "fmp_")
    || (starts_with nat_eq name (codes "FMP_")
    || (ends_with nat_eq name (codes "_body")
    || (ends_with nat_eq name (codes "_t")
    || (ends_with nat_eq name (codes "_MAX")
    || (ends_with nat_eq name (codes "_MIN") || ends_with nat_eq name (codes "_")))))))

-- C has the name, or may have it
abbrev pub is_taken : List ℕ → Bool
is_taken name = looks_taken name || list_any (λ word. bytes_eq word.now name) TAKEN

abbrev pub ending : (taken : Bool) → List ℕ
ending true = codes "_"
ending false = []

-- a variable or an object
unfoldable pub c_name : Name → List ℕ
c_name n = name_text n ++ ending (is_taken (name_text n))

-- the function of a body
unfoldable pub c_function : Name → List ℕ
c_function n = name_text n ++ codes "_body"
