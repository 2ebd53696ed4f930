-- Going over the lines of a text and the names of an `order` line.
use Rattle.std.proofs.Common.{◌≡◌, ◌⊎◌, ℕ, suc, ◌+◌, ◌<◌, ◌≤◌, List, [], ◌∷◌, length, drop, map, get_or, Result, Ok, Err, Bor, refl, sym, ap, ◌∙◌, inl, inr, arith, drop-cons}
use Rattle.std.proofs.Math.ListN.{drop_of_length-le}
use Rattle.ft_script.specs.Drafts.{Draft}
use Rattle.ft_script.specs.declared.fault.Fault.{Fault}
use Rattle.ft_script.specs.declared.fault.LineError.{LineError}
use Rattle.ft_script.specs.declared.fault.LineError.TheVariants as error
use Rattle.ft_script.specs.declared.fault.ScriptFault.{ScriptFault}
use Rattle.ft_script.specs.Faults.{no_memory, fault_at}
use Rattle.ft_script.specs.Internal.Outcomes.{Fails, LeavesDraft, reported}
use Rattle.ft_script.specs.Drafts.{◌>>=◌, end_thread}
use Rattle.ft_script.specs.ScriptLines.{read_turn, read_turns, read_line}
use Rattle.ft_script.specs.ReadScripts.{line_after, reported_at, read_lines}

-- ---- names of an `order` line

abbrev shown : List (Bor (List ℕ)) → List (List ℕ)
shown names = map (λ (word : Bor (List ℕ)). word.now) names

abbrev pub after_name : List (List ℕ) → Result Draft Fault → Result Draft Fault
after_name names next = elim next [ Ok d ↦ read_turns d names | Err e ↦ Err e ]

at_name : (draft : Draft) (name : List ℕ) (names : List (List ℕ)) (next : Result Draft Fault) → read_turn draft name ≡ next → (read_turn draft name >>= λ d. read_turns d names) ≡ after_name names next
at_name draft name names (Ok d) is = rw is refl
at_name draft name names (Err e) is = rw is refl

turns_first : (draft : Draft) (name : List ℕ) (names : List (List ℕ)) → read_turns draft (name ∷ names) ≡ (read_turn draft name >>= λ d. read_turns d names)
unfolding read_turns
turns_first draft name names = refl

pub turns_cons : (draft : Draft) (name : List ℕ) (names : List (List ℕ)) (next : Result Draft Fault) → read_turn draft name ≡ next → read_turns draft (name ∷ names) ≡ after_name names next
turns_cons draft name names next is = turns_first draft name names ∙ at_name draft name names next is

pub no_turns : (draft : Draft) → read_turns draft [] ≡ Ok draft
unfolding read_turns
no_turns draft = refl

next_name : (names : List (Bor (List ℕ))) (i : ℕ) (d : Bor (List ℕ)) → i < length names → shown (drop i names) ≡ (get_or names i d).now ∷ shown (drop (i + 1) names)
next_name names i d low = let next : suc i ≡ i + 1 = omega arith in ap shown (drop-cons names i d low) ∙ ap (λ (k : ℕ). (get_or names i d).now ∷ shown (drop k names)) next

pub turns_on : (draft next : Draft) (names : List (Bor (List ℕ))) (i : ℕ) (d : Bor (List ℕ)) (whole : Result Draft Fault) → i < length names → read_turn draft (get_or names i d).now ≡ Ok next
    → read_turns draft (shown (drop i names)) ≡ whole → read_turns next (shown (drop (i + 1) names)) ≡ whole
turns_on draft next names i d whole low read so_far =
    sym (ap (read_turns draft) (next_name names i d low) ∙ turns_cons draft (get_or names i d).now (shown (drop (i + 1) names)) (Ok next) read) ∙ so_far

pub turns_end : (e : LineError) (draft : Draft) (names : List (Bor (List ℕ))) (i : ℕ) (d : Bor (List ℕ)) (whole : Result Draft Fault) → i < length names → Fails e (read_turn draft (get_or names i d).now)
    → read_turns draft (shown (drop i names)) ≡ whole → Fails e whole
turns_end error.Memory draft names i d whole low read so_far = tt
turns_end (error.Fault found) draft names i d whole low read so_far =
    sym so_far ∙ ap (read_turns draft) (next_name names i d low) ∙ turns_cons draft (get_or names i d).now (shown (drop (i + 1) names)) (Err found) read

pub turns_done : (draft : Draft) (names : List (Bor (List ℕ))) (i : ℕ) (whole : Result Draft Fault) → length names ≤ i → read_turns draft (shown (drop i names)) ≡ whole → whole ≡ Ok draft
turns_done draft names i whole past so_far =
    sym so_far ∙ ap (λ (l : List (Bor (List ℕ))). read_turns draft (shown l)) (drop_of_length-le names past) ∙ no_turns draft

-- ---- lines

abbrev pub after_line : ℕ → List (List ℕ) → Result Draft Fault → Result Draft ScriptFault
after_line number lines read = elim (reported_at number read) [ Ok d ↦ read_lines (line_after number) d lines | Err found ↦ Err found ]

lines_first : (number : ℕ) (draft : Draft) (line : List ℕ) (lines : List (List ℕ)) → read_lines number draft (line ∷ lines) ≡ after_line number lines (read_line draft line)
unfolding read_lines
lines_first number draft line lines = refl

pub lines_cons : (number : ℕ) (draft : Draft) (line : List ℕ) (lines : List (List ℕ)) (next : Result Draft Fault) → read_line draft line ≡ next → read_lines number draft (line ∷ lines) ≡ after_line number lines next
lines_cons number draft line lines next is = lines_first number draft line lines ∙ ap (after_line number lines) is

lines_none : (number : ℕ) (draft : Draft) → read_lines number draft [] ≡ reported_at number (end_thread draft)
unfolding read_lines
lines_none number draft = refl

pub lines_nil : (number : ℕ) (draft : Draft) (ended : Result Draft Fault) → end_thread draft ≡ ended → read_lines number draft [] ≡ reported_at number ended
lines_nil number draft ended is = lines_none number draft ∙ ap (reported_at number) is

abbrev refused : ScriptFault → Result Draft ScriptFault
refused found = Err found

-- a line was read
pub lines_on : (read : Result (Unit {0}) LineError) (number : ℕ) (draft next : Draft) (line : List ℕ) (rest lines : List (List ℕ)) (whole : Result Draft ScriptFault) →
    reported read number ≡ Ok tt → LeavesDraft read next (read_line draft line) → rest ≡ line ∷ lines → read_lines number draft rest ≡ whole → read_lines (line_after number) next lines ≡ whole
lines_on (Ok x) number draft next line rest lines whole is read cut so_far =
    sym (ap (read_lines number draft) cut ∙ lines_cons number draft line lines (Ok next) read) ∙ so_far
lines_on (Err error.Memory) number draft next line rest lines whole is read cut so_far = absurd cc
lines_on (Err (error.Fault found)) number draft next line rest lines whole is read cut so_far = absurd cc

-- a line wasn't
pub lines_end : (read : Result (Unit {0}) LineError) (number : ℕ) (draft next : Draft) (line : List ℕ) (rest lines : List (List ℕ)) (whole : Result Draft ScriptFault) (answer : ScriptFault) →
    reported read number ≡ Err answer → LeavesDraft read next (read_line draft line) → rest ≡ line ∷ lines → read_lines number draft rest ≡ whole → (answer ≡ no_memory) ⊎ (whole ≡ Err answer)
lines_end (Ok x) number draft next line rest lines whole answer is read cut so_far = absurd cc
lines_end (Err error.Memory) number draft next line rest lines whole answer is read cut so_far = inl cc
lines_end (Err (error.Fault found)) number draft next line rest lines whole answer is read cut so_far =
    let same : fault_at number found ≡ answer = cc in
    inr (sym so_far ∙ ap (read_lines number draft) cut ∙ lines_cons number draft line lines (Err found) read ∙ ap refused same)

-- the end of the text
pub text_end : (read : Result (Unit {0}) LineError) (number : ℕ) (draft next : Draft) (rest : List (List ℕ)) (whole : Result Draft ScriptFault) (answer : ScriptFault) →
    reported read number ≡ Err answer → LeavesDraft read next (end_thread draft) → rest ≡ [] → read_lines number draft rest ≡ whole → (answer ≡ no_memory) ⊎ (whole ≡ Err answer)
text_end (Ok x) number draft next rest whole answer is read cut so_far = absurd cc
text_end (Err error.Memory) number draft next rest whole answer is read cut so_far = inl cc
text_end (Err (error.Fault found)) number draft next rest whole answer is read cut so_far =
    let same : fault_at number found ≡ answer = cc in
    inr (sym so_far ∙ ap (read_lines number draft) cut ∙ lines_nil number draft (Err found) read ∙ ap refused same)

pub text_done : (read : Result (Unit {0}) LineError) (number : ℕ) (draft next : Draft) (rest : List (List ℕ)) (whole : Result Draft ScriptFault) →
    reported read number ≡ Ok tt → LeavesDraft read next (end_thread draft) → rest ≡ [] → read_lines number draft rest ≡ whole → whole ≡ Ok next
text_done (Ok x) number draft next rest whole is read cut so_far =
    sym so_far ∙ ap (read_lines number draft) cut ∙ lines_nil number draft (Ok next) read
text_done (Err error.Memory) number draft next rest whole is read cut so_far = absurd cc
text_done (Err (error.Fault found)) number draft next rest whole is read cut so_far = absurd cc
