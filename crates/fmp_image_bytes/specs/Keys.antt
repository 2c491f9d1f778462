-- Names that an object can have, and what may stand only once in an image.
use Rattle.std.specs.Prelude.{ℕ, List, [], ◌∷◌, ◌++◌, length, Option, Some, None, Bool, true, false, not, is_some, ◌&&◌}
use Rattle.std.specs.Prelude.{◌||◌, nat_eq, nat_le}
use Rattle.std.specs.List.{list_all, list_any}
use Rattle.std.specs.Str.{bytes_eq}
use Rattle.std.specs.Hash as fed
use Rattle.fmp_base.specs.declared.services.Service.{Service}
use Rattle.fmp_base.specs.Names.{name_text}
use Rattle.fmp_base.specs.Words.{is_letter, is_word}
use Rattle.fmp_base.specs.Words.{constant_named, api_named, service_named, keyword_named}
use Rattle.fmp_image_bytes.specs.Versions.{has_service}
use Rattle.fmp_image_bytes.specs.declared.keys.Key.{Key}
use Rattle.fmp_image_bytes.specs.declared.keys.Key.TheVariants as key

-- a letter or `_`, then letters, digits and `_`
abbrev pub begins_and_goes_on : List ℕ → Bool
begins_and_goes_on [] = false
begins_and_goes_on (b ∷ bs) = is_letter b && list_all is_word bs

-- whether this is a service, and a version has it
abbrev pub is_service_of : (version : ℕ) → Option Service → Bool
is_service_of version None = false
is_service_of version (Some service) = has_service version service

-- a word of the texts of a version
abbrev pub is_reserved : (version : ℕ) → List ℕ → Bool
is_reserved version text =
    is_some (constant_named text) || is_some (api_named text) || is_service_of version (service_named text)
    || is_some (keyword_named text)

-- whether an object in an image of a version can have this name
unfoldable pub is_name : (version : ℕ) → List ℕ → Bool
is_name version text = nat_le (length text) 31 && begins_and_goes_on text && not (is_reserved version text)

-- whether two keys are the same
abbrev pub same_key : Key → Key → Bool
same_key (key.Name a) (key.Name b) = bytes_eq (name_text a) (name_text b)
same_key (key.Name a) (key.Interrupt j) = false
same_key (key.Interrupt i) (key.Name b) = false
same_key (key.Interrupt i) (key.Interrupt j) = nat_eq i j

-- what a key is hashed by
abbrev pub key_input : Key → List (List ℕ)
key_input (key.Name a) = fed.slice fed.u8 (name_text a)
key_input (key.Interrupt i) = fed.u8 i

-- whether a key is among those that stand already
abbrev pub is_taken : Key → List Key → Bool
is_taken k taken = list_any (same_key k) taken

-- whether each of these keys is new, after those that stand already
unfoldable pub are_new : List Key → List Key → Bool
are_new taken [] = true
are_new taken (k ∷ ks) = not (is_taken k taken) && are_new (taken ++ k ∷ []) ks
