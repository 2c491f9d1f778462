-- Which id a message has.
use Rattle.std.proofs.Common.{◌≡◌, ℤ, ℕ, List, Option, Some, None, Err, refl, subst}
use Rattle.std.specs.Prelude.{MatchOption, ok_or}
use Rattle.std.specs.Int.{w64}
use Rattle.std.specs.Str.Parse.{ParsesSigned}
use Rattle.json.specs.Find.{as_number, as_str}
use Rattle.json.specs.Json.{Json}
use Rattle.fmp_server.specs.declared.messages.RequestId.TheVariants as request
use Rattle.fmp_server.specs.Messages.{IsId, IsNoId}

-- what is parsed of a number, if there is one
abbrev pub Parsed : Option (List ℕ) → Option ℤ → Type 0
Parsed o n = MatchOption o (n ≡ None) (λ s. ParsesSigned w64 10 s (ok_or n s))

some_number : (j : Json) (x : ℤ) (o : Option (List ℕ)) → as_str j ≡ None → as_number j ≡ o → Parsed o (Some x)
    → IsId j (request.Number x)
some_number j x None text is h = absurd (cc h)
some_number j x (Some digits) text is h = (digits, text, is, h)

-- a value that is a number is that id
pub number_id : (j : Json) (n : Option ℤ) (x : ℤ) → as_str j ≡ None → Parsed (as_number j) n → n ≡ Some x
    → IsId j (request.Number x)
number_id j n x text h is =
    some_number j x (as_number j) text refl (subst (λ (m : Option ℤ). Parsed (as_number j) m) is h)

no_number : (o : Option (List ℕ)) → Parsed o None
    → MatchOption o (Unit {0}) (λ digits. ParsesSigned w64 10 digits (Err digits))
no_number None h = tt
no_number (Some digits) h = h

-- a value that is neither a text nor a number that fits is none
pub no_id : (j : Json) (n : Option ℤ) → as_str j ≡ None → Parsed (as_number j) n → n ≡ None → IsNoId j
no_id j n text h is = (text, no_number (as_number j) (subst (λ (m : Option ℤ). Parsed (as_number j) m) is h))
