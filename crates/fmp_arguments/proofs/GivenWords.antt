-- From what clap's getters say to what the words of a command line say.
use Rattle.std.proofs.Common.{◌≡◌, ℕ, List, Option, None, Some, Result, Ok, Err, Bor, map, option_map, refl, subst}
use Rattle.std.specs.Option.{unwrap_or}
use Rattle.std.specs.Str.Parse.{ParsesUnsigned}
use Rattle.clap.specs.Matches.{ReadsOne}
use Rattle.clap.specs.Words.{Text}
use Rattle.fmp_arguments.specs.Given.{IsNumber}

-- a number that is read of a word is the one that the word spells
pub number_is : {E : Type 0} (bits : ℕ) (gives : Text → Result ℕ E → Type 0) (text word : Option Text)
    (read : Option ℕ) → text ≡ word
    → (text ≡ None → read ≡ None) → ((t : Text) → text ≡ Some t → ReadsOne {T = ℕ} {E = E} gives t read)
    → ((t : Text) (r : Result ℕ E) → gives t r → ParsesUnsigned bits 10 t r) → IsNumber bits word read
number_is {E} bits gives text word read same none some parses =
    subst (λ w. IsNumber bits w read) same (go text read none some)
  where
    read_of : (t : Text) (n : Option ℕ) → ReadsOne {T = ℕ} {E = E} gives t n → IsNumber bits (Some t) n
    read_of t None given = λ spells. parses t (Err given.0) given.1 spells
    read_of t (Some n) given = parses t (Ok n) given

    go : (o : Option Text) (n : Option ℕ) → (o ≡ None → n ≡ None)
        → ((t : Text) → o ≡ Some t → ReadsOne {T = ℕ} {E = E} gives t n) → IsNumber bits o n
    go None n none some = none refl
    go (Some t) n none some = read_of t n (some t refl)

-- the text that is given, or another one
pub word_by : (o : Option (Bor Text)) (d : Bor Text) (f : Option Text) → option_map (λ w. w.now) o ≡ f
    → (unwrap_or o d).now ≡ unwrap_or f d.now
word_by o d f e = subst (λ x. (unwrap_or o d).now ≡ unwrap_or x d.now) e (go o)
  where
    go : (x : Option (Bor Text)) → (unwrap_or x d).now ≡ unwrap_or (option_map (λ w. w.now) x) d.now
    go None = refl
    go (Some w) = refl

-- the same of several texts
pub words_by : (o : Option (Bor (List (Bor Text)))) (d : Bor (List (Bor Text))) (f : Option (List Text))
    → option_map (λ s. map (λ v. v.now) s.now) o ≡ f
    → map (λ v. v.now) (unwrap_or o d).now ≡ unwrap_or f (map (λ v. v.now) d.now)
words_by o d f e = subst (λ x. map (λ v. v.now) (unwrap_or o d).now ≡ unwrap_or x (map (λ v. v.now) d.now)) e (go o)
  where
    go : (x : Option (Bor (List (Bor Text))))
        → map (λ v. v.now) (unwrap_or x d).now
        ≡ unwrap_or (option_map (λ s. map (λ v. v.now) s.now) x) (map (λ v. v.now) d.now)
    go None = refl
    go (Some w) = refl
