-- What two texts build is an image.
use Rattle.std.proofs.Common.{◌≡◌, ℕ, List, length, refl, sym, subst}
use Rattle.fmp_base.specs.Systems.{SystemTables}
use Rattle.fmp_lex.specs.Reading.{kinds_of}
use Rattle.fmp_tasklang.specs.CallForms.{CallsFit}
use Rattle.fmp_tasklang.specs.Trees.{BodyTree}
use Rattle.fmp_tasklang.proofs.CallForms.{calls_fit}
use Rattle.fmp_instructions.specs.Verify.{Verified}
use Rattle.fmp_codegen.specs.Compiling.{compiled, IsAccepted}
use Rattle.fmp_scopes.specs.Depths.{body_depth}
use Rattle.fmp_scopes.specs.DepthTables.{body_depths}
use Rattle.fmp_codegen.specs.Laws as codegen
use Rattle.fmp_codegen.proofs.Limits.{few-bodies}
use Rattle.fmp_image_bytes.specs.Images.{ImageTables, IsImage}
use Rattle.fmp_image.specs.Building.{ReadTasks, Builds}
use Rattle.fmp_image.proofs.CodeWords.{compiled_words}
use Rattle.fmp_image.proofs.Judged.{read_keeps}
use Rattle.fmp_image.proofs.Lawful.{lawful}
use Rattle.fmp_image.proofs.TextNumbers.{text_words}
use Rattle.fmp_image.proofs.Walks.{each_enters}

text_calls : (src : List ℕ) (t : ReadTasks src) → CallsFit t.bodies
text_calls src t =
    let n = length (kinds_of t.tokens) in
    calls_fit (kinds_of t.tokens) n t.bodies 0 n t.spelled.2

pub built_is_image :
    ((body : BodyTree) → codegen.greatest (body_depths body) ≡ body_depth body) →
    ((tables : SystemTables) (bodies : List BodyTree) → IsAccepted tables bodies → CallsFit bodies
    → Verified (compiled tables bodies)) →
    (cfg src : List ℕ) (i : ImageTables) → Builds cfg src i → IsImage i
built_is_image needed verified cfg src i b =
    let c = b.configuration in
    let t = c.making.tables in
    let bodies = b.tasks.bodies in
    let rules = read_keeps cfg c in
    subst IsImage (sym b.image)
    (lawful needed t bodies (compiled t bodies) rules (each_enters bodies c.tree c.making c.makes b.entered)
    (few-bodies t bodies b.accepted) refl (verified t bodies b.accepted (text_calls src b.tasks))
    (compiled_words t rules.ranges bodies (text_words src b.tasks)))
