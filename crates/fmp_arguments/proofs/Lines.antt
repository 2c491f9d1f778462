-- The number of a line, as a walk through a text counts it.
use Rattle.std.proofs.Common.{◌≡◌, ◌≢◌, ◌+◌, ◌<◌, ◌≤◌, ℕ, true, false, eqb, List}
use Rattle.std.proofs.Common.{length, get_or, take, min, arith, ap, refl, subst, sym, Some, IsSome}
use Rattle.std.proofs.lemmas.Bool.Decides.{nat_tests}
use Rattle.std.proofs.lemmas.List.{length-take, take_all}
use Rattle.std.proofs.lemmas.List.Sums.{count_by-le-length, count_by_more_no, count_by_more_yes}
use Rattle.fmp_arguments.specs.declared.keys.Key.{Key}
use Rattle.fmp_arguments.specs.declared.reading.Wrong.{Wrong}
use Rattle.fmp_arguments.specs.SettingsFaults.{BeginsAt, IsMemberFault, IsWrong, line_after}
use Rattle.fmp_arguments.specs.Settings.{Text, settings_of}

pub line_more : (text : List ℕ) (i : ℕ) → i < length text → get_or text i 0 ≡ 10
    → line_after text (i + 1) ≡ line_after text i + 1
line_more text i h e =
    ap (λ n. n + 1) (count_by_more_yes (λ byte. eqb byte 10) text i 0 h (grind (arith, nat_tests)))

pub line_same : (text : List ℕ) (i : ℕ) → i < length text → get_or text i 0 ≢ 10
    → line_after text (i + 1) ≡ line_after text i
line_same text i h e =
    ap (λ n. n + 1) (count_by_more_no (λ byte. eqb byte 10) text i 0 h (grind (arith, nat_tests)))

pub line_small : (text : List ℕ) (i : ℕ) → line_after text i ≤ length text + 1
line_small text i =
    omega (arith, count_by-le-length (λ byte. eqb byte 10) (take i text), length-take i text)

pub ruleset line_steps = (line_more, line_same, line_small)

-- a text begins with its first line
pub begins_first : (folder : Text) (keys : List Key) (text : List ℕ) → BeginsAt folder keys text 1
begins_first folder keys text = record { before = 0; is_line = refl; read = λ h. absurd (omega arith) }

-- a line begins after what is read
pub begins_after : (folder : Text) (keys : List Key) (text : List ℕ) (line end : ℕ)
    → line ≡ line_after text end → IsSome (settings_of folder keys (take end text)) → BeginsAt folder keys text line
begins_after folder keys text line end is some = record { before = end; is_line = is; read = λ h. some }

pub is_read : (folder : Text) (keys : List Key) (text : List ℕ) (all : List (Text × List Text))
    → settings_of folder keys text ≡ Some all → IsSome (settings_of folder keys text)
is_read folder keys text all e = rw e

-- what is wrong with a whole text is wrong after the last line that is read
pub whole_wrong : (folder : Text) (keys : List Key) (text : List ℕ) (line : ℕ) (w : Wrong)
    → BeginsAt folder keys text line → IsWrong folder keys text w → IsMemberFault folder keys text line w
whole_wrong folder keys text line w begins wrong =
    let all : take (length text) text ≡ text = take_all (length text) text (omega arith) in
    record {
      begins = begins;
      through = length text;
      wrong = subst (λ (t : List ℕ). IsWrong folder keys t w) (sym all) wrong;
    }
