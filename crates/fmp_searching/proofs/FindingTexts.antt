-- What is seen and said of a finding, by its kind.
use Rattle.std.proofs.Common.{ℕ, ◌≡◌, ◌∙◌, ◌++◌, List, [], Bool, false, Option, ap, inl, refl, subst, sym}
use Rattle.std.specs.Prelude.{option_and_then}
use Rattle.fmp_base.specs.declared.events.Line.{Line}
use Rattle.fmp_question.specs.declared.site.CallSite.{CallSite}
use Rattle.fmp_witness.specs.declared.finding.Finding.{Finding}
use Rattle.fmp_witness.specs.declared.finding.FindingKind.{FindingKind}
use Rattle.fmp_witness.specs.declared.finding.FindingKind.TheVariants as finding
use Rattle.fmp_witness.specs.declared.finding.Left.{Left}
use Rattle.fmp_searching.specs.Said.{first_broken, left_text}
use Rattle.fmp_searching.specs.Seen.{IsBroken, IsLeftSaid, IsSaid, IsSeen, IsShown, IsStuckSaid, answer_told, breaks}
use Rattle.fmp_searching.specs.Seen.{broken_sentences, call_line, forbidding_at, is_stuck, kind_by, kind_of, line_found}
use Rattle.fmp_searching.specs.Seen.{sentence_alone}
use Rattle.fmp_searching.specs.Sources.{SourceTables}
use Rattle.fmp_searching.specs.declared.seen.Broken.{Broken}
use Rattle.fmp_searching.specs.declared.seen.Seen.{Seen}
use Rattle.fmp_searching.specs.declared.seen.SeenKind.{SeenKind}
use Rattle.fmp_searching.specs.declared.seen.SeenKind.TheVariants as kind

module _ (s : SourceTables) (f : Finding) (told : List Line) (site : Option CallSite) (text : List ℕ) where
  pub said_of_left : (k : FindingKind) → is_stuck k ≡ false → IsLeftSaid s f told site text
      → IsSaid s f k told site text
  said_of_left (finding.Line place) h said = said
  said_of_left finding.Deadlock h said = said
  said_of_left (finding.Endless p) h said = said
  said_of_left (finding.Breach b) h said = said
  said_of_left (finding.State place) h said = said
  said_of_left (finding.Stuck t) h said = absurd (cc)

  pub said_of_stuck : (t : ℕ) → f.kind ≡ finding.Stuck t → IsStuckSaid s f t site text
      → IsSaid s f f.kind told site text
  said_of_stuck t is said = subst (λ (k : FindingKind). IsSaid s f k told site text) (sym is) said

pub kind_of_stuck : (s : SourceTables) (f : Finding) (t : ℕ) → f.kind ≡ finding.Stuck t
    → kind.Stuck ≡ kind_of s f []
kind_of_stuck s f t is = sym (ap (λ (k : FindingKind). kind_by s.sections k [] (sentence_alone s f [])) is)

pub none_of_stuck : (s : SourceTables) (f : Finding) (t : ℕ) → f.kind ≡ finding.Stuck t → [] ≡ broken_sentences s f []
none_of_stuck s f t is =
    sym (ap (λ (k : FindingKind). forbidding_at (option_and_then answer_told (line_found k []))
    (call_line s.claim f) s.call_sentences) is)

-- what is seen of a finding that is no stuck task, whose steps leave this
pub seen_of_shown : (s : SourceTables) (f : Finding) (left : Left) (told : List Line) (b : Broken)
    (sentences : List ℕ) (x : Seen) → is_stuck f.kind ≡ false → IsShown s.claim f left → told ≡ left.lines.items
    → IsBroken s f told b → sentences ≡ b.sentences.items → x.found ≡ f.kind → x.kind ≡ b.kind
    → x.call_sentences.items ≡ b.sentences.items → x.site ≡ f.site
    → x.text.items ≡ left_text s f.kind left.number left.lines.items left.started.items ++ first_broken s sentences
    → IsSeen s f x
seen_of_shown s f left told b sentences x others shown lines broken same found breaks_this calls site text =
    let lasts = left.lines.items in
    let broken_by : IsBroken s f lasts b = subst (λ (t : List Line). IsBroken s f t b) lines broken in
    record {
      found = found;
      broken =
          ap (λ (k : FindingKind). breaks s.sections k x.kind) found
          ∙ ap (λ (k : SeenKind). breaks s.sections f.kind k) breaks_this
          ∙ broken_by.fits;
      told = lasts;
      are_told = shown.lines;
      kind = breaks_this ∙ broken_by.kind;
      sentences = calls ∙ broken_by.sentences;
      said =
          said_of_left s f lasts x.site x.text.items f.kind others
          (record {
            call = site;
            number = left.number;
            counted = shown.number;
            started = left.started.items;
            is =
                text
                ∙ ap (λ (ps : List ℕ). left_text s f.kind left.number lasts left.started.items ++ first_broken s ps)
                (same ∙ broken_by.sentences);
          });
    }

-- what is seen of a finding that is the stuck task t
pub seen_of_stuck : (s : SourceTables) (f : Finding) (t : ℕ) (x : Seen) → f.kind ≡ finding.Stuck t
    → x.found ≡ finding.Stuck t → x.kind ≡ kind.Stuck → x.call_sentences.items ≡ []
    → IsStuckSaid s f t x.site x.text.items → IsSeen s f x
seen_of_stuck s f t x is found breaks_this calls said =
    record {
      found = found ∙ sym is;
      broken =
          ap (λ (k : FindingKind). breaks s.sections k x.kind) found
          ∙ ap (λ (k : SeenKind). breaks s.sections (finding.Stuck t) k) breaks_this;
      told = [];
      are_told = inl refl;
      kind = breaks_this ∙ kind_of_stuck s f t is;
      sentences = calls ∙ none_of_stuck s f t is;
      said = said_of_stuck s f [] x.site x.text.items t is said;
    }
