-- What a call answered, handed on.
use Rattle.std.proofs.Common.{ℕ, Result, Ok, Err}
use Rattle.fmp_lex.specs.declared.reading.FirstFault.{FirstFault}
use Rattle.fmp_lex.specs.declared.reading.GrammarFault.{GrammarFault}
use Rattle.fmp_lex.specs.declared.reading.ReadError.{ReadError}
use Rattle.fmp_lex.specs.declared.reading.ReadError.TheVariants.{Memory, Fault}
use Rattle.fmp_lex.specs.Reading.{ParseResult, found, stopped, Answers, Finds, Steps}

pub answers_as : {V A : Type 0} (view : V → A) (r : Result (V × ℕ) ReadError) (P Q : ParseResult A → Type 0) →
    ((o : ParseResult A) → P o → Q o) → Answers view r P → Answers view r Q
answers_as view (Ok x) P Q f a = f (found (view x.0) x.1) a
answers_as view (Err Memory) P Q f a = tt
answers_as view (Err (Fault e)) P Q f a = f (stopped e.at e.why) a

pub err_as : {V A W B : Type 0} (view : V → A) (other : W → B) (e : ReadError) (P : ParseResult A → Type 0)
    (Q : ParseResult B → Type 0) →
    ((j : ℕ) (why : GrammarFault) → P (stopped j why) → Q (stopped j why)) → Answers view (Err e) P
    → Answers other (Err e) Q
err_as view other Memory P Q f a = tt
err_as view other (Fault e) P Q f a = f e.at e.why a

-- the same where the call takes no memory: it answered a value and a place, or a place alone
pub find_as : {V A W B : Type 0} (view : V → A) (other : W → B) (e : FirstFault) (P : ParseResult A → Type 0)
    (Q : ParseResult B → Type 0) →
    ((j : ℕ) (why : GrammarFault) → P (stopped j why) → Q (stopped j why)) → Finds view (Err e) P
    → Answers other (Err (Fault e)) Q
find_as view other e P Q f a = f e.at e.why a

pub step_as : {W B : Type 0} (other : W → B) (e : FirstFault) (P : ParseResult (Unit {0}) → Type 0)
    (Q : ParseResult B → Type 0) →
    ((j : ℕ) (why : GrammarFault) → P (stopped j why) → Q (stopped j why)) → Steps (Err e) P
    → Answers other (Err (Fault e)) Q
step_as other e P Q f a = f e.at e.why a
