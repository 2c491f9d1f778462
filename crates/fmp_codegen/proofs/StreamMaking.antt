-- Bodies are read through a window on their text, and made one after another.
use Rattle.std.proofs.Common.{◌≡◌, ℕ, ◌<◌, ◌≤◌, List, [], ◌∷◌, ◌++◌, None, length, subst, arith}
use Rattle.fmp_base.specs.Systems.{SystemTables}
use Rattle.fmp_lex.specs.declared.token.Token.{Token}
use Rattle.fmp_lex.specs.declared.window.Window.{Window}
use Rattle.fmp_lex.specs.Reading.{Star}
use Rattle.fmp_lex.specs.Windows.{IsWindow, Passed, Streams}
use Rattle.fmp_lex.proofs.Streaming.{streams_none, streams_hold, streams_push, streams_whole}
use Rattle.fmp_lex.proofs.Windows.{passed_length}
use Rattle.fmp_tasklang.specs.Grammar.{OneBody}
use Rattle.fmp_tasklang.specs.Trees.{BodyTree}
use Rattle.fmp_tasklang.proofs.BodyPaths.{body_framed, body_longer}
use Rattle.fmp_codegen.specs.declared.texts.MadeBodies.{MadeBodies}
use Rattle.fmp_codegen.specs.Texts.{AreMade, IsStreamed}

-- these bodies were read up to a place, and are made
abbrev pub IsMadeSoFar : SystemTables → MadeBodies → (first window : Window) → ℕ → Type 0
IsMadeSoFar tables made first window i =
    (bodies : List BodyTree) × AreMade tables made bodies × Streams (Star OneBody) first window 0 bodies i

module _ (tables : SystemTables) (first : Window) where
  -- the window moves on before the first body
  pub none-made : (made : MadeBodies) (window : Window) → AreMade tables made [] →
      ((before : List Token) → Passed first before 0 → Passed window before 0) → IsMadeSoFar tables made first window 0
  none-made made window are hold =
      ([], are, streams_hold (Star OneBody) first first window 0 [] 0 (streams_none OneBody first 0) hold)

  -- one more body is read and added, and the window moves on after it
  pub one-more-made :
      (made new : MadeBodies) (w0 w1 w2 : Window) (i j : ℕ) (b : BodyTree) → IsMadeSoFar tables made first w0 i →
      ((bodies : List BodyTree) → AreMade tables made bodies → AreMade tables new (bodies ++ b ∷ [])) →
      Streams OneBody w0 w1 i b j → ((before : List Token) → Passed w1 before j → Passed w2 before j) →
      IsMadeSoFar tables new first w2 j
  one-more-made made new w0 w1 w2 i j b so_far adds reads hold =
      let bodies = so_far.0 in
      let all = bodies ++ b ∷ [] in (
        all,
        adds bodies so_far.1,
        streams_hold (Star OneBody) first w1 w2 0 all j
            (streams_push OneBody first w0 w1 0 bodies i b j body_framed so_far.2 reads) hold,
      )

  module _ (start : Passed first [] 0) (made : MadeBodies) (window : Window) (same : window.text.now ≡ first.text.now)
      (is : IsWindow window) (i : ℕ) (so_far : IsMadeSoFar tables made first window i) where
    -- no more tokens were read than the text has bytes
    pub few-read : i ≤ length first.text.now
    few-read =
        let (before, passed, reads) = so_far.2 [] start in
        let within = passed.within in
        let long = passed_length window before i passed in
        let short : window.next ≤ length first.text.now = subst (λ bs. window.next ≤ length bs) same is.1 in
        omega arith

    -- a body has tokens
    pub body-further : (next : Window) (b : BodyTree) (j : ℕ) → Streams OneBody window next i b j → i < j
    body-further next b j reads =
        let (before, passed, read) = so_far.2 [] start in
        let more = reads before passed in
        body_longer _ 0 i b j (more.2 0)

    -- these are all bodies of the text
    pub all-made : i ≡ length window.tokens → length window.text.now ≤ window.next → made.offence ≡ None →
        IsStreamed tables first.text.now made
    all-made at_end past fine =
        let bodies = so_far.0 in
        let whole = streams_whole (Star OneBody) first.text.now first window bodies i start so_far.2 same is at_end
        (subst (λ bs. length bs ≤ window.next) same past) in
        (whole.0, bodies, whole.1, so_far.1, fine)
