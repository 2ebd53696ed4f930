-- No line of a script's text is `---`: it is read nowhere.
use Rattle.std.proofs.Common.{◌≡◌, ◌∙◌, ℕ, Bool, true, false, cond, eqb, List, [], ◌∷◌, ◌++◌, length, Result, Ok, Err, refl, sym, ap}
use Rattle.std.specs.Prelude.{codes}
use Rattle.std.specs.Option.{is_some}
use Rattle.ft_model.specs.declared.script.ScriptParts.{ScriptParts}
use Rattle.ft_script.specs.Drafts.{Draft}
use Rattle.ft_script.specs.declared.fault.Fault.{Fault}
use Rattle.ft_script.specs.declared.fault.Fault.TheVariants as fault
use Rattle.ft_script.specs.declared.fault.ScriptFault.{ScriptFault}
use Rattle.ft_script.specs.Drafts.{empty_draft}
use Rattle.ft_script.specs.Lines.{lines_of, with_first, words_from}
use Rattle.ft_script.specs.CallWords.{call_word_of}
use Rattle.ft_script.specs.ScriptLines.{declaration, first_line, open_line, other_statement, plain_statement, read_line, statement, thread_statement, unordered_statement, words_line}
use Rattle.ft_script.specs.ReadScripts.{line_after, read_lines, read_script, reported_at}
use Rattle.ft_script.proofs.ReadScripts.{is_read}

-- ---- the line

abbrev dashes : List ℕ
dashes = codes "---"

plain_refused : (d : Draft) → plain_statement d dashes [] ≡ Err fault.UnknownWord
unfolding plain_statement thread_statement declaration call_word_of first_line
plain_refused d = elim (is_some d.name) as (λ b. cond b (thread_statement d dashes []) (declaration d dashes []) ≡ Err fault.UnknownWord) [ true ↦ refl | false ↦ refl ]

statement_refused : (d : Draft) → statement d (dashes ∷ []) ≡ Err fault.UnknownWord
unfolding statement other_statement unordered_statement
statement_refused d = elim (eqb (length d.order) 0) as (λ b. cond b (unordered_statement d dashes []) (Err fault.UnknownWord) ≡ Err fault.UnknownWord) [ true ↦ plain_refused d | false ↦ refl ]

line_refused : (d : Draft) → read_line d dashes ≡ Err fault.UnknownWord
unfolding read_line open_line words_line words_from
line_refused d = statement_refused d

-- ---- the lines of a text

-- a line that has ended is followed by the lines of what is left
abbrev Begins : List (List ℕ) → List (List ℕ) → List (List ℕ) → Type 0
Begins front rest all = (first : List ℕ) × (others : List (List ℕ)) × (front ≡ first ∷ others) × (all ≡ (first ∷ others) ++ rest)

one_more : (b : ℕ) (front rest all : List (List ℕ)) → Begins front rest all → Begins (with_first b front) rest (with_first b all)
one_more b front rest all begins = (b ∷ begins.0, begins.1, ap (with_first b) begins.2, ap (with_first b) begins.3)

fed_by : (b : ℕ) (bytes rest : List ℕ) (is : Bool) → eqb b 10 ≡ is → Begins (lines_of (bytes ++ 10 ∷ [])) (lines_of rest) (lines_of (bytes ++ 10 ∷ rest))
    → Begins (cond is ([] ∷ lines_of (bytes ++ 10 ∷ [])) (with_first b (lines_of (bytes ++ 10 ∷ [])))) (lines_of rest) (cond is ([] ∷ lines_of (bytes ++ 10 ∷ rest)) (with_first b (lines_of (bytes ++ 10 ∷ rest))))
fed_by b bytes rest true is begins = ([], begins.0 ∷ begins.1, ap (λ (ls : List (List ℕ)). [] ∷ ls) begins.2, ap (λ (ls : List (List ℕ)). [] ∷ ls) begins.3)
fed_by b bytes rest false is begins = one_more b _ _ _ begins

fed_lines : (bytes rest : List ℕ) → Begins (lines_of (bytes ++ 10 ∷ [])) (lines_of rest) (lines_of (bytes ++ 10 ∷ rest))
unfolding lines_of
fed_lines [] rest = ([], [], refl, refl)
fed_lines (b ∷ bytes) rest = fed_by b bytes rest (eqb b 10) refl (fed_lines bytes rest)

dashes_first : (rest : List ℕ) → lines_of (codes "---\n" ++ rest) ≡ dashes ∷ lines_of rest
unfolding lines_of
dashes_first rest = refl

-- ---- where it stands, nothing is read

-- what comes of a line's answer, where this comes of the draft after it
abbrev onward : ℕ → Result Draft Fault → (Draft → Result Draft ScriptFault) → Result Draft ScriptFault
onward number read then = elim (reported_at number read) [ Ok next ↦ then next | Err found ↦ Err found ]

stopped : (number : ℕ) (read : Result Draft Fault) (then : Draft → Result Draft ScriptFault) (draft : Draft) → read ≡ Err fault.UnknownWord → onward number read then ≡ Ok draft → ⊥
stopped number (Ok next) then draft refused is = absurd cc
stopped number (Err found) then draft refused is = absurd cc

goes_on : (number : ℕ) (read : Result Draft Fault) (then : Draft → Result Draft ScriptFault) (draft : Draft) → onward number read then ≡ Ok draft → (next : Draft) × (then next ≡ Ok draft)
goes_on number (Ok next) then draft is = (next, is)
goes_on number (Err found) then draft is = absurd cc

not_read : (front lines : List (List ℕ)) (number : ℕ) (d draft : Draft) → read_lines number d (front ++ dashes ∷ lines) ≡ Ok draft → ⊥
unfolding read_lines
not_read [] lines number d draft is = stopped number (read_line d dashes) (λ next. read_lines (line_after number) next lines) draft (line_refused d) is
not_read (line ∷ front) lines number d draft is =
    let there = goes_on number (read_line d line) (λ next. read_lines (line_after number) next (front ++ dashes ∷ lines)) draft is in
    not_read front lines (line_after number) there.0 draft there.1

-- at the beginning of a text, or after a line feed, no script has it
pub no_separator_first : (rest : List ℕ) (script : ScriptParts) → read_script (codes "---\n" ++ rest) ≡ Ok script → ⊥
no_separator_first rest script read =
    let is = is_read (codes "---\n" ++ rest) script read in
    not_read [] (lines_of rest) 1 empty_draft is.draft (ap (read_lines 1 empty_draft) (sym (dashes_first rest)) ∙ is.lines)

pub no_separator_after : (front rest : List ℕ) (script : ScriptParts) → read_script (front ++ 10 ∷ (codes "---\n" ++ rest)) ≡ Ok script → ⊥
no_separator_after front rest script read =
    let is = is_read (front ++ 10 ∷ (codes "---\n" ++ rest)) script read in
    let begins = fed_lines front (codes "---\n" ++ rest) in
    let lines : lines_of (front ++ 10 ∷ (codes "---\n" ++ rest)) ≡ (begins.0 ∷ begins.1) ++ dashes ∷ lines_of rest = begins.3 ∙ ap (λ (ls : List (List ℕ)). (begins.0 ∷ begins.1) ++ ls) (dashes_first rest) in
    not_read (begins.0 ∷ begins.1) (lines_of rest) 1 empty_draft is.draft (ap (read_lines 1 empty_draft) (sym lines) ∙ is.lines)
