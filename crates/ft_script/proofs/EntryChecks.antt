-- What the checks of an entry and of a content say.
use Rattle.std.proofs.Common.{◌≡◌, ℕ, ◌≤◌, Bool, true, false, List, drop, Result, Ok, Err, refl, sym, ap, ◌∙◌, subst}
use Rattle.std.specs.Prelude.{◌↔◌, IsTrue, MatchBool, IfOk, codes}
use Rattle.ft_model.specs.declared.entry.Entry.{Entry}
use Rattle.ft_model.specs.declared.reply.Reply.{Reply}
use Rattle.ft_model.specs.declared.script.ScriptParts.{ScriptParts}
use Rattle.ft_model.specs.Histories.{cursors_of}
use Rattle.ft_model.specs.Landed.{is_landed_call}
use Rattle.ft_model.specs.Scripts.{IsScript, IsCallOf}
use Rattle.ft_script.specs.declared.fault.Fault.{Fault}
use Rattle.ft_script.specs.declared.fault.LineError.{LineError}
use Rattle.ft_script.specs.declared.fault.LineError.TheVariants as error
use Rattle.ft_script.specs.Internal.Candidates.{read_entry, read_content}
use Rattle.ft_script.specs.Internal.Outcomes.{Fails}
use Rattle.ft_script.specs.Internal.Readers.{NoEntry, NoContent, IfFault, IsLine, AddsNothing, but_feed, refused}
use Rattle.ft_script.specs.Texts.{entry_line}
use Rattle.ft_script.specs.Internal.Tokens.{tokens_of, before_word}
use Rattle.ft_script.specs.Transcripts.{content_line, IsReadable, IsContentReply, IsWideCall, IsContentLine}
use Rattle.ft_script.proofs.EntryTexts.{entry_adds_nothing}
use Rattle.ft_script.proofs.LineCases.{readable_by, entry_fits, no_entry_by_fault, no_entry_by_other, content_fits, content_by, no_content_by_fault, no_content_by_other}

abbrev Checked : ScriptParts → Entry → Bool → Type 0
Checked script entry b = IsTrue b ↔ ((1 ≤ entry.index) × IsCallOf script (cursors_of script entry.thread) entry.call × (is_landed_call entry.call ≡ true))

pub readable_checked : (script : ScriptParts) (tokens : List (List ℕ)) (entry : Entry) (b : Bool) → read_entry script tokens ≡ Ok entry → Checked script entry b → (IsTrue b → IsWideCall entry.call) → b ≡ true → IsReadable script entry
readable_checked script tokens entry b read checked wide is =
    let both = checked.0 is in
    readable_by script entry (entry_fits script tokens entry read) both.0 both.1 both.2 (wide is)

pub not_both : (b : Bool) → b ≡ false → b ≡ true → ⊥
not_both b f t = let e : false ≡ true = sym f ∙ t in absurd cc

pub no_entry_checked : (script : ScriptParts) (line : List ℕ) (tokens : List (List ℕ)) (entry : Entry) (b : Bool) → IsScript script → tokens ≡ tokens_of line → read_entry script tokens ≡ Ok entry → Checked script entry b → b ≡ false → NoEntry script line
no_entry_checked script line tokens entry b rule are read checked is =
    no_entry_by_other script line entry rule (ap (read_entry script) (sym are) ∙ read) (λ h same. not_both b is (checked.1 (h.first_index, h.of_script.call, h.landed)))

pub no_entry_printed : (script : ScriptParts) (line : List ℕ) (tokens : List (List ℕ)) (entry : Entry) → IsScript script → tokens ≡ tokens_of line → read_entry script tokens ≡ Ok entry → (entry_line script entry ≡ line → ⊥) → NoEntry script line
no_entry_printed script line tokens entry rule are read differs =
    no_entry_by_other script line entry rule (ap (read_entry script) (sym are) ∙ read) (λ h same. differs (sym same))

pub no_entry_failed : (script : ScriptParts) (line : List ℕ) (tokens : List (List ℕ)) (e : LineError) → IsScript script → tokens ≡ tokens_of line → Fails e (read_entry script tokens) → IfFault e (NoEntry script line)
no_entry_failed script line tokens error.Memory rule are fails = tt
no_entry_failed script line tokens (error.Fault found) rule are fails = no_entry_by_fault script line found rule (ap (read_entry script) (sym are) ∙ fails)

abbrev Prints : ScriptParts → ℕ → Reply → List ℕ → Bool → Type 0
Prints script container content line b = IsTrue b ↔ (IsContentReply content × (line ≡ content_line script container content))

pub content_checked : (script : ScriptParts) (line : List ℕ) (tokens : List (List ℕ)) (container : ℕ) (content : Reply) (b : Bool) → IsScript script → tokens ≡ tokens_of line → IsLine line → read_content script tokens ≡ Ok (container, content) → Prints script container content line b →
    MatchBool b (IsContentLine script (but_feed line)) (NoContent script line)
content_checked script line tokens container content true rule are is read prints =
    let both = prints.0 refl in
    content_by script line container content is (content_fits script tokens (container, content) read) both.0 both.1
content_checked script line tokens container content false rule are is read prints =
    no_content_by_other script line container content rule (ap (read_content script) (sym are) ∙ read) (λ whole same. not_both false refl (prints.1 (whole, same)))

pub content_failed : (script : ScriptParts) (line : List ℕ) (tokens : List (List ℕ)) (found : Fault) → IsScript script → tokens ≡ tokens_of line → read_content script tokens ≡ Err found → NoContent script line
content_failed script line tokens found rule are fails = no_content_by_fault script line found rule (ap (read_content script) (sym are) ∙ fails)

pub content_answer : (script : ScriptParts) (line : List ℕ) (tokens : List (List ℕ)) (container : ℕ) (content : Reply) (r : Result Bool LineError) → IsScript script → tokens ≡ tokens_of line → IsLine line → read_content script tokens ≡ Ok (container, content) → IfOk r (Prints script container content line) →
    IfOk r (λ b. MatchBool b (IsContentLine script (but_feed line)) (NoContent script line))
content_answer script line tokens container content (Ok b) rule are is read prints = content_checked script line tokens container content b rule are is read prints
content_answer script line tokens container content (Err e) rule are is read prints = tt

pub content_refused : (script : ScriptParts) (line : List ℕ) (tokens : List (List ℕ)) (e : LineError) → IsScript script → tokens ≡ tokens_of line → Fails e (read_content script tokens) → IfOk (refused e) (λ b. MatchBool b (IsContentLine script (but_feed line)) (NoContent script line))
content_refused script line tokens error.Memory rule are fails = tt
content_refused script line tokens (error.Fault found) rule are fails = content_failed script line tokens found rule are fails

-- the call of an entry that is read leaves the reader as it was
pub kept_by : (script : ScriptParts) (line : List ℕ) (tokens : List (List ℕ)) (entry : Entry) → IsScript script → tokens ≡ tokens_of line → IsReadable script entry → line ≡ entry_line script entry → AddsNothing script entry.thread (before_word (codes "=") (drop 2 tokens))
kept_by script line tokens entry rule are readable same =
    subst (λ (l : List (List ℕ)). AddsNothing script entry.thread (before_word (codes "=") (drop 2 l))) (sym are) (entry_adds_nothing script entry line rule readable same)
