-- How often interrupts come in random runs, by words.
use Rattle.std.specs.Prelude.{ℕ, ◌+◌, ◌^◌, List, [], ◌∷◌, length, take, drop, map, Bool, Option, Some, None, ◌&&◌}
use Rattle.std.specs.Prelude.{◌||◌, count_by, nat_eq, nat_lt, option_and_then, option_map, position, if◌then◌else◌}
use Rattle.std.specs.List.{list_any}
use Rattle.std.specs.Str.{all_ascii_digits}
use Rattle.std.specs.Str.Parse.{digits_value, without_leading_plus}
use denote.Ref.{Bor}
use Rattle.fmp_base.specs.Systems.{SystemTables}
use Rattle.fmp_looking.specs.declared.asking.TestMistake.{TestMistake}
use Rattle.fmp_looking.specs.declared.asking.TestMistake.TheVariants as mistake
use Rattle.fmp_trials.specs.declared.choices.InterruptRate.{InterruptRate}

-- what stands before and after the first colon of a word, if there is one
unfoldable pub parts_at_colon : List ℕ → Option (List ℕ × List ℕ)
parts_at_colon word = option_map (λ k. (take k word, drop (k + 1) word)) (position (λ b. nat_eq b 58) word)

-- one decimal digit or more, and nothing else
abbrev pub are_digits : List ℕ → Bool
are_digits text = nat_lt 0 (length text) && all_ascii_digits text

-- the number below 2^bits that a text spells in decimal digits, after a plus or without one
unfoldable pub number_named : (bits : ℕ) → List ℕ → Option ℕ
number_named bits text =
    if are_digits (without_leading_plus text) && nat_lt (digits_value 10 (without_leading_plus text)) (2 ^ bits)
    then Some (digits_value 10 (without_leading_plus text))
    else None

-- an interrupt has a number from 1 to 32, and it comes once in two events or more
abbrev pub rate_of : Option ℕ → Option ℕ → Option InterruptRate
rate_of (Some i) (Some n) =
    if nat_eq i 0 || (nat_lt 32 i || nat_lt n 2) then None else Some (record { interrupt = i; every = n })
rate_of (Some i) None = None
rate_of None n = None

-- the rate of a word `3:50`: interrupt 3 comes once in 50 events
unfoldable pub rate_named : List ℕ → Option InterruptRate
rate_named word =
    option_and_then (λ parts. rate_of (number_named 8 parts.0) (number_named 32 parts.1)) (parts_at_colon word)

abbrev pub and_rates : Option InterruptRate → Option (List InterruptRate) → Option (List InterruptRate)
and_rates None rest = None
and_rates (Some x) rest = option_map (λ xs. x ∷ xs) rest

-- those of words, of which each must say one
abbrev pub each_rate : List (Bor (List ℕ)) → Option (List InterruptRate)
each_rate [] = Some []
each_rate (word ∷ words) = and_rates (rate_named word.now) (each_rate words)

-- each interrupt of a system that has a handler comes once in 50 events
abbrev pub usual_rates : SystemTables → List InterruptRate
usual_rates sys = map (λ x. record { interrupt = x.number; every = 50 }) sys.interrupts

-- those of words, or the usual ones where there are no words
abbrev pub rates_named : SystemTables → List (Bor (List ℕ)) → Option (List InterruptRate)
rates_named sys [] = Some (usual_rates sys)
rates_named sys (word ∷ words) = each_rate (word ∷ words)

-- a rate is of this interrupt
abbrev pub is_of : (interrupt : ℕ) → InterruptRate → Bool
is_of i r = nat_eq r.interrupt i

-- several of these rates are of the interrupt of this one
abbrev pub is_twice : List InterruptRate → InterruptRate → Bool
is_twice rates r = nat_lt 1 (count_by (is_of r.interrupt) rates)

-- two of these rates are of one interrupt
abbrev pub names_twice : List InterruptRate → Bool
names_twice rates = list_any (is_twice rates) rates

-- what is wrong with how often the clock advances, and interrupts come
abbrev pub rate_mistake : (tick : ℕ) → List InterruptRate → Option TestMistake
rate_mistake tick rates =
    if nat_eq tick 1
    then Some mistake.TickEveryEvent
    else (if names_twice rates then Some mistake.InterruptTwice else None)
