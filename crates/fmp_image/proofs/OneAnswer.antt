-- Two texts have one answer.
use Rattle.std.proofs.Common.{◌≡◌, ℕ, List, [], Some, None, Option, Result, Ok, Err, inl, inr, sym, ap, ap₂, subst, ◌∙◌}
use Rattle.std.proofs.Common.{slice_get, arith}
use Rattle.fmp_lex.specs.declared.fault.BuildFault.{BuildFault}
use Rattle.fmp_lex.specs.declared.fault.BuildFault.TheVariants as build
use Rattle.fmp_lex.specs.declared.fault.TextFile.TheVariants as file
use Rattle.fmp_lex.specs.declared.token.Token.{Token}
use Rattle.fmp_lex.specs.Faults.{IsSyntaxFault, fault_of}
use Rattle.fmp_lex.specs.Positions.{text_end}
use Rattle.fmp_lex.specs.Reading.{kinds_of, IsWhole, IsFirstFault}
use Rattle.fmp_lex.proofs.Repetitions.{star_framed}
use Rattle.fmp_lex.proofs.Sequences.{Framed}
use Rattle.fmp_lex.proofs.Unique.{cuts_unique}
use Rattle.fmp_cfgparse.specs.Apis.{Making}
use Rattle.fmp_cfgparse.specs.Configured.{ReadConfiguration}
use Rattle.fmp_cfgparse.specs.Configurations.{IsFault}
use Rattle.fmp_cfgparse.specs.Configuring as walk
use Rattle.fmp_cfgparse.specs.Configuring.{configured}
use Rattle.fmp_cfgparse.proofs.OneAnswer.{one_first, not_whole, one_spelled, not_spelled, one_answer}
use Rattle.fmp_tasklang.specs.Grammar.{Bodies}
use Rattle.fmp_tasklang.specs.Trees.{BodyTree}
use Rattle.fmp_tasklang.proofs.BodyPaths.{body_framed}
use Rattle.fmp_tasklang.proofs.Single.{one_program}
use Rattle.fmp_scopes.specs.declared.offences.Offence.{Offence}
use Rattle.fmp_codegen.specs.Compiling.{bodies_offence}
use Rattle.fmp_scopes.specs.Entries.{entries_offence}
use Rattle.fmp_scopes.specs.Naming.{fault_in}
use Rattle.fmp_image_bytes.specs.Images.{ImageTables}
use Rattle.fmp_image.specs.Building.{ReadTasks, built_image, Builds, IsBuildFault, of_memory, of_configuration}
use Rattle.fmp_image.specs.Building.{of_tasks, of_bodies, of_entries}
use Rattle.fmp_image.specs.Entries.{entry_uses}
use Rattle.fmp_image.specs.Laws.{HaveOneAnswer}

-- ---- the configuration

record SameConfiguration {cfg : List ℕ} (a b : ReadConfiguration cfg) : Type 0 where
  tokens : a.tokens ≡ b.tokens
  tree : a.tree ≡ b.tree
  making : a.making ≡ b.making

module _ {cfg : List ℕ} where
  one_configuration : (a b : ReadConfiguration cfg) → SameConfiguration a b
  one_configuration a b =
      let one = one_spelled cfg b.tokens a.tokens b.tree a.tree b.spelled a.spelled in
      let both : ◌≡◌ {A = Result Making walk.Offence} (Ok a.making) (Ok b.making) = sym a.makes
      ∙ (ap configured one.1 ∙ b.makes) in
      record { tokens = one.0; tree = one.1; making = cc }

  no_fault : (a : ReadConfiguration cfg) (f : BuildFault) → IsFault cfg f → ⊥
  no_fault a f (inl x) = not_spelled cfg f a.tokens a.tree x a.spelled
  no_fault a f (inr x) =
      let one = one_spelled cfg a.tokens x.0 a.tree x.1 a.spelled x.2 in
      let both : ◌≡◌ {A = Result Making walk.Offence} (Err x.3) (Ok a.making) = sym x.4
      ∙ (ap configured one.1 ∙ a.makes) in
      absurd (cc)

-- ---- the task text

tasks_framed : Framed Bodies
tasks_framed = star_framed _ body_framed

record SameTasks {src : List ℕ} (a b : ReadTasks src) : Type 0 where
  tokens : a.tokens ≡ b.tokens
  bodies : a.bodies ≡ b.bodies

module _ {src : List ℕ} where
  one_text : (a b : ReadTasks src) → SameTasks a b
  one_text a b =
      let same = cuts_unique src 0 a.tokens b.tokens a.spelled.1 b.spelled.1 in
      record {
        tokens = same;
        bodies = one_program (kinds_of b.tokens) b.bodies a.bodies b.spelled.2
            (subst (λ zs. IsWhole Bodies (kinds_of zs) a.bodies) same a.spelled.2);
      }

  no_syntax_fault : (t : ReadTasks src) (f : BuildFault) → IsSyntaxFault file.Source Bodies src f → ⊥
  no_syntax_fault t f (inl x) = let short = t.spelled.0 in let long = x.0 in absurd (omega arith)
  no_syntax_fault t f (inr x) =
      let same = cuts_unique src 0 x.1.0 t.tokens x.1.1 t.spelled.1 in
      let first = subst (λ zs. IsFirstFault Bodies (kinds_of zs) x.1.2 x.1.3) same x.1.4 in
      not_whole Bodies tasks_framed (kinds_of t.tokens) x.1.2 x.1.3 t.bodies first t.spelled.2

  one_syntax_fault : (f g : BuildFault) → IsSyntaxFault file.Source Bodies src f
      → IsSyntaxFault file.Source Bodies src g → f ≡ g
  one_syntax_fault f g (inl a) (inl b) = a.1 ∙ sym b.1
  one_syntax_fault f g (inl a) (inr b) = let long = a.0 in let short = b.0 in absurd (omega arith)
  one_syntax_fault f g (inr a) (inl b) = let short = a.0 in let long = b.0 in absurd (omega arith)
  one_syntax_fault f g (inr a) (inr b) =
      let x = a.1 in
      let y = b.1 in
      let same = cuts_unique src 0 y.0 x.0 y.1 x.1 in
      let first = subst (λ zs. IsFirstFault Bodies (kinds_of zs) y.2 y.3) same y.4 in
      let one = one_first Bodies tasks_framed (kinds_of x.0) x.2 y.2 x.3 y.3 x.4 first in
      x.5 ∙ (ap₂ (λ j why. fault_of file.Source (text_end src) (slice_get x.0 j) why) one.0 one.1 ∙
      (ap (λ zs. fault_of file.Source (text_end src) (slice_get zs y.2) y.3) (sym same) ∙ sym y.5))

-- ---- both

module _ {cfg src : List ℕ} (c d : ReadConfiguration cfg) (t u : ReadTasks src) where
  same_bodies_offence : bodies_offence c.making.tables [] t.bodies ≡ bodies_offence d.making.tables [] u.bodies
  same_bodies_offence =
      ap₂ (λ (m : Making) (bs : List BodyTree). bodies_offence m.tables [] bs) (one_configuration c d).making
      (one_text t u).bodies

  same_entries_offence : entries_offence t.bodies (entry_uses c.tree) ≡ entries_offence u.bodies (entry_uses d.tree)
  same_entries_offence =
      ap₂ entries_offence (one_text t u).bodies (ap entry_uses (one_configuration c d).tree)

  same_image : built_image c.making.tables t.bodies ≡ built_image d.making.tables u.bodies
  same_image = ap₂ (λ (m : Making) (bs : List BodyTree). built_image m.tables bs) (one_configuration c d).making
      (one_text t u).bodies

differ : (a b : Option Offence) (o : Offence) → a ≡ b → a ≡ None → b ≡ Some o → ⊥
differ a b o same none some = absurd (cc)

agree : (a b : Option Offence) (o p : Offence) → a ≡ b → a ≡ Some o → b ≡ Some p → o ≡ p
agree a b o p same x y = cc

one_image : (cfg src : List ℕ) (i j : ImageTables) → Builds cfg src i → Builds cfg src j → i ≡ j
one_image cfg src i j a b = a.image ∙ (same_image a.configuration b.configuration a.tasks b.tasks ∙ sym b.image)

not_both : (cfg src : List ℕ) (i : ImageTables) (f : BuildFault) → Builds cfg src i → IsBuildFault cfg src f → f
    ≡ build.Memory
not_both cfg src i f b (of_memory is) = is
not_both cfg src i f b (of_configuration x) = absurd (no_fault b.configuration f x)
not_both cfg src i f b (of_tasks c x) = absurd (no_syntax_fault b.tasks f x)
not_both cfg src i f b (of_bodies c t o x is) =
    absurd (differ _ _ o (same_bodies_offence b.configuration c b.tasks t) b.accepted x)
not_both cfg src i f b (of_entries c t o accepted x is) =
    absurd (differ _ _ o (same_entries_offence b.configuration c b.tasks t) b.entered x)

module _ (cfg src : List ℕ) where
  one_fault :
      (f g : BuildFault) → IsBuildFault cfg src f → IsBuildFault cfg src g → (f ≡ build.Memory → ⊥)
      → (g ≡ build.Memory → ⊥) → f ≡ g
  one_fault f g (of_memory is) y m n = absurd (m is)
  one_fault f g x (of_memory is) m n = absurd (n is)
  one_fault f g (of_configuration x) (of_configuration y) m n = (one_answer cfg).one_fault f g x y
  one_fault f g (of_configuration x) (of_tasks d y) m n = absurd (no_fault d f x)
  one_fault f g (of_configuration x) (of_bodies d u p y is) m n = absurd (no_fault d f x)
  one_fault f g (of_configuration x) (of_entries d u p ok y is) m n = absurd (no_fault d f x)
  one_fault f g (of_tasks c x) (of_configuration y) m n = absurd (no_fault c g y)
  one_fault f g (of_tasks c x) (of_tasks d y) m n = one_syntax_fault f g x y
  one_fault f g (of_tasks c x) (of_bodies d u p y is) m n = absurd (no_syntax_fault u f x)
  one_fault f g (of_tasks c x) (of_entries d u p ok y is) m n = absurd (no_syntax_fault u f x)
  one_fault f g (of_bodies c t o x is) (of_configuration y) m n = absurd (no_fault c g y)
  one_fault f g (of_bodies c t o x is) (of_tasks d y) m n = absurd (no_syntax_fault t g y)
  one_fault f g (of_bodies c t o x is) (of_bodies d u p y js) m n =
      is ∙ (ap₂ (fault_in file.Source) (one_text t u).tokens (agree _ _ o p (same_bodies_offence c d t u) x y) ∙ sym js)
  one_fault f g (of_bodies c t o x is) (of_entries d u p ok y js) m n = absurd
      (differ _ _ o (same_bodies_offence d c u t) ok x)
  one_fault f g (of_entries c t o ok x is) (of_configuration y) m n = absurd (no_fault c g y)
  one_fault f g (of_entries c t o ok x is) (of_tasks d y) m n = absurd (no_syntax_fault t g y)
  one_fault f g (of_entries c t o ok x is) (of_bodies d u p y js) m n = absurd
      (differ _ _ p (same_bodies_offence c d t u) ok y)
  one_fault f g (of_entries c t o ok x is) (of_entries d u p also y js) m n =
      is ∙ (ap₂ (fault_in file.Configuration) (one_configuration c d).tokens
      (agree _ _ o p (same_entries_offence c d t u) x y) ∙ sym js)

pub one_answer_of_both : (cfg src : List ℕ) → HaveOneAnswer cfg src
one_answer_of_both cfg src = record {
  one_image = one_image cfg src;
  one_fault = one_fault cfg src;
  not_both = not_both cfg src;
}
