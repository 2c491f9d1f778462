-- What is written of a text has no mark of XML.
use Rattle.std.proofs.Common.{◌≡◌, ◌∙◌, ℕ, true, List, [], ◌∷◌, refl, arith}
use Rattle.std.proofs.lemmas.Bool.Decides.{nat_tests}
use Rattle.std.proofs.lemmas.List.Folds.{list_all-append}
use Rattle.std.specs.List.{list_all}
use Rattle.fmp_json.specs.Xml.{content, content_byte, escaped, escaped_byte, is_plain, is_plain_content}

byte_plain : (b : ℕ) → list_all is_plain (escaped_byte b) ≡ true
unfolding escaped_byte
byte_plain b = grind (arith, nat_tests)

content_plain : (b : ℕ) → list_all is_plain_content (content_byte b) ≡ true
unfolding content_byte escaped_byte
content_plain b = grind (arith, nat_tests)

pub escaped_plain : (bs : List ℕ) → list_all is_plain (escaped bs) ≡ true
escaped_plain [] = refl
escaped_plain (b ∷ bs) = list_all-append is_plain (escaped_byte b) (escaped bs) ∙ rw (byte_plain b, escaped_plain bs)

pub content_text_plain : (bs : List ℕ) → list_all is_plain_content (content bs) ≡ true
content_text_plain [] = refl
content_text_plain (b ∷ bs) =
    list_all-append is_plain_content (content_byte b) (content bs) ∙ rw (content_plain b, content_text_plain bs)
