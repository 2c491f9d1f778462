-- Reports of tests as JUnit writes them.
use Rattle.std.specs.Prelude.{ℕ, Bool, true, false, List, [], ◌∷◌, ◌++◌, codes, decimal, length}
use Rattle.std.specs.List.{count_by}
use Rattle.fmp_json.specs.declared.junit.TestCase.{TestCase}
use Rattle.fmp_json.specs.declared.junit.TestSuite.{TestSuite}
use Rattle.fmp_json.specs.declared.junit.Verdict.{Verdict}
use Rattle.fmp_json.specs.declared.junit.Verdict.TheVariants as verdict
use Rattle.fmp_json.specs.Xml.{content, escaped, fit}

-- a test failed; whether it would pass is not known
abbrev pub is_failure : Verdict → Bool
is_failure (verdict.Failure message text) = true
is_failure _ = false

abbrev pub is_error : Verdict → Bool
is_error (verdict.Error message) = true
is_error _ = false

-- what stands in front of the value of an attribute
abbrev pub name_text : (name : List ℕ) → List ℕ
name_text name = codes " " ++ (name ++ codes "=\"")

-- an attribute whose value is a text, and one whose value is a number
unfoldable pub text_attribute : (name text : List ℕ) → List ℕ
text_attribute name text = name_text name ++ (escaped (fit text) ++ codes "\"")

unfoldable pub number_attribute : (name : List ℕ) → ℕ → List ℕ
number_attribute name n = name_text name ++ (decimal n ++ codes "\"")

-- what stands after the attributes of a test, by its verdict
unfoldable pub failure_text : (message text : List ℕ) → List ℕ
failure_text message text =
    codes ">\n      <failure" ++ (text_attribute (codes "message") message
    ++ (codes ">" ++ (content (fit text) ++ codes "</failure>\n    </testcase>\n")))

unfoldable pub error_text : (message : List ℕ) → List ℕ
error_text message =
    codes ">\n      <error" ++ (text_attribute (codes "message") message ++ codes "/>\n    </testcase>\n")

abbrev pub verdict_text : Verdict → List ℕ
verdict_text verdict.Passed = codes "/>\n"
verdict_text (verdict.Failure message text) = failure_text message.now text.now
verdict_text (verdict.Error message) = error_text message.now

-- the name of a test, and the file and the line that it stands in
unfoldable pub place_text : (file : List ℕ) → TestCase → List ℕ
place_text file c =
    text_attribute (codes "classname") file ++ (text_attribute (codes "name") c.name.now
    ++ (text_attribute (codes "file") file ++ number_attribute (codes "line") c.line))

-- a test of a file
unfoldable pub case_text : (file : List ℕ) → TestCase → List ℕ
case_text file c = codes "    <testcase" ++ (place_text file c ++ verdict_text c.verdict)

-- tests in their order, each once
abbrev pub cases_text : (file : List ℕ) → List TestCase → List ℕ
cases_text file [] = []
cases_text file (c ∷ cs) = case_text file c ++ cases_text file cs

-- how many tests there are, how many fail, and of how many it is not known
unfoldable pub counts_text : List TestCase → List ℕ
counts_text cs =
    number_attribute (codes "tests") (length cs)
    ++ (number_attribute (codes "failures") (count_by (λ c. is_failure c.verdict) cs)
    ++ number_attribute (codes "errors") (count_by (λ c. is_error c.verdict) cs))

-- what stands in front of the tests of a suite
unfoldable pub head_text : TestSuite → List ℕ
head_text s =
    codes "  <testsuite" ++ (text_attribute (codes "name") s.name.now ++ (counts_text s.cases.now ++ codes ">\n"))

-- a suite: the tests of a file
unfoldable pub suite_text : TestSuite → List ℕ
suite_text s = head_text s ++ (cases_text s.name.now s.cases.now ++ codes "  </testsuite>\n")

abbrev pub suites_text : List TestSuite → List ℕ
suites_text [] = []
suites_text (s ∷ ss) = suite_text s ++ suites_text ss

-- a report: suites in their order
unfoldable pub report_text : List TestSuite → List ℕ
report_text ss =
    codes "<?xml version=\"1.0\" encoding=\"UTF-8\"?>\n<testsuites>\n" ++ (suites_text ss ++ codes "</testsuites>\n")
