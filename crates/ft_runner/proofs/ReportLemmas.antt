-- From the parts of a call to its report.
use Rattle.std.proofs.Common.{◌≡◌, ℕ, true, false, List, [], ◌++◌, length, Option, Some, None, Result, Ok, Err, refl, sym, ap, subst, ◌∙◌, ◌⊎◌, inl, inr, arith, if◌then◌else◌}
use Rattle.std.specs.Prelude.{◌==◌, is_some, All, Vec}
use Rattle.std.specs.declared.alloc.Global.{Global}
use Rattle.std.specs.List.{flat_map}
use Rattle.std.proofs.lemmas.Bool.{eqb-false, le-ltb, false≢true, true≢false}
use Rattle.std.proofs.lemmas.List.{append-nil}
use Rattle.ft_bank.specs.declared.closed.Closed.{Closed}
use Rattle.ft_io.specs.Streams.{Stream}
use Rattle.ft_io.specs.declared.source.Failed.{Failed}
use Rattle.ft_model.specs.declared.content.Content.{Content}
use Rattle.ft_model.specs.declared.entry.Entry.{Entry}
use Rattle.ft_model.specs.declared.script.ScriptParts.{ScriptParts}
use Rattle.ft_model.specs.Histories.{writes, world_at, IsLegal}
use Rattle.ft_model.specs.Numbers.{AreFitting}
use Rattle.ft_script.specs.declared.fault.ScriptFault.{ScriptFault}
use Rattle.ft_script.specs.Faults.{no_memory}
use Rattle.ft_script.specs.ReadScripts.{read_script}
use Rattle.ft_runner.specs.LeftBanks.{LeavesBank}
use Rattle.ft_runner.specs.Making.{IsMadeScript, IsSummary}
use Rattle.ft_script.specs.Texts.{entry_line, world_text}
use Rattle.ft_run_turns.specs.OrderedHistories.{IsOrderRunFor}
use Rattle.ft_turns.specs.ShortReplies.{HasShortReply}
use Rattle.ft_history.specs.declared.verdict.Verdict.TheVariants as verdict
use Rattle.ft_model.specs.declared.entry.Rule.{Rule}
use Rattle.ft_runner.specs.declared.command.Subcommand.{Subcommand}
use Rattle.ft_runner.specs.declared.command.Subcommand.TheVariants as subcommand
use Rattle.ft_runner.specs.declared.outcome.Outcome.{Outcome}
use Rattle.ft_runner.specs.declared.outcome.Outcome.TheVariants as outcome
use Rattle.ft_runner.specs.declared.reading.ReadFault.{ReadFault}
use Rattle.ft_runner.specs.declared.reading.ReadFault.TheVariants as read
use Rattle.ft_runner.specs.Checking.{IsReadToItsEnd, IsScriptPart, IsWithinLimits, StopsInput}
use Rattle.ft_runner.specs.Commands.{runs_script}
use Rattle.ft_runner.specs.Findings.{broken_line, legal_line, stored, IsBadAt, IsFound}
use Rattle.ft_runner.specs.Transfers.{GivesBytes, Receives, PutsPrefix, PutsText, Reported, StopsReading, IsWholeInput, has_failed, is_too_much}
use Rattle.ft_runner.specs.Reports.{is_read_outcome, is_too_long_outcome, is_usage_outcome, has_ended, comes_of_text, refusal_of, stopped, ComesTo, DoesCommand, DoesMake, DoesRun, IsCommandHistory, IsCommandDone, MeansChecked, MeansMade, MeansRun, PutsFor}
use Rattle.ft_runner.proofs.OpenLines.{few_fits, fit_in_time}
use Rattle.ft_runner.proofs.StreamLemmas.{GivesBytes-none, Receives-none}

-- ---- what was put

pub reported : (a b : Stream) (text : List ℕ) (r : Result (Unit {0}) Failed) → PutsText a text r b → Reported a text b
reported a b text (Ok u) p = inl p
reported a b text (Err e) p = inr p

-- ---- the command

pub some_none : {X : Type 0} {x : X} → Some x ≡ None → ⊥
some_none same = true≢false (ap is_some same)

-- what a command that runs a script does
pub does_run : (command : Subcommand) → runs_script command ≡ true → (ended : Outcome) (source : Stream) (came : List ℕ) (source' : Stream) (put : List ℕ) → DoesRun command ended came source' put → DoesCommand (Some command) ended source came source' put
does_run subcommand.Run runs ended source came source' put does = does
does_run subcommand.Turns runs ended source came source' put does = does
does_run subcommand.Check runs ended source came source' put does = absurd (false≢true runs)
does_run (subcommand.Make calls) runs ended source came source' put does = absurd (false≢true runs)
does_run (subcommand.MakeTurns calls) runs ended source came source' put does = absurd (false≢true runs)

-- ---- reading stops

-- that reading has stopped says nothing but that
record IsStop (stop : ReadFault) (sink : Stream) : Type 0 where
  usage : is_usage_outcome (stopped stop) ≡ false
  read : is_read_outcome (stopped stop) ≡ has_failed stop
  too_long : is_too_long_outcome (stopped stop) ≡ is_too_much stop
  ended : has_ended (stopped stop) ≡ false
  writing : PutsFor (stopped stop) sink [] sink
  run : (command : Subcommand) (came : List ℕ) → MeansRun command came (stopped stop) []
  checked : (came : List ℕ) → MeansChecked came (stopped stop) []

stop_of : (stop : ReadFault) (sink : Stream) → IsStop stop sink
stop_of read.Failed sink = record { usage = refl; read = refl; too_long = refl; ended = refl; writing = Receives-none sink; run = λ command came. refl; checked = λ came. refl }
stop_of read.TooLong sink = record { usage = refl; read = refl; too_long = refl; ended = refl; writing = Receives-none sink; run = λ command came. refl; checked = λ came. refl }
stop_of read.Memory sink = record { usage = refl; read = refl; too_long = refl; ended = refl; writing = Receives-none sink; run = λ command came. inl refl; checked = λ came. refl }

module _ (source source' sink : Stream) where
  pub stops_reading_done : (command : Subcommand) → runs_script command ≡ true → (stop : ReadFault) → StopsReading stop source source' → IsCommandDone (Some command) source source' sink sink (stopped stop)
  stops_reading_done command runs stop p =
      let it = stop_of stop sink in
      record {
        came = p.came;
        put = [];
        usage = λ known. it.usage;
        reading = subst (λ failed. GivesBytes source p.came failed source') (sym it.read) p.gives;
        writing = it.writing;
        own = does_run command runs (stopped stop) source p.came source' [] (record { too_long = it.too_long ∙ p.too_long; few = p.few; to_end = λ h. absurd (false≢true (sym it.ended ∙ h)); means = it.run command p.came });
      }

  pub stops_input_done : (stop : ReadFault) → StopsInput stop source source' → IsCommandDone (Some subcommand.Check) source source' sink sink (stopped stop)
  stops_input_done stop p =
      let it = stop_of stop sink in
      record {
        came = p.came;
        put = [];
        usage = λ known. it.usage;
        reading = subst (λ failed. GivesBytes source p.came failed source') (sym it.read) p.gives;
        writing = it.writing;
        own = record {
          too_long = λ long. p.too_long (sym it.too_long ∙ long);
          fits = λ failed. p.fits (sym it.read ∙ failed);
          within = λ h. absurd (false≢true (sym it.ended ∙ h));
          few = p.few;
          in_time = p.in_time;
          to_end = λ h. absurd (false≢true (sym it.ended ∙ h));
          means = it.checked p.came;
        };
      }

-- ---- what was read whole

-- what comes of bytes that were read whole
text_outcome : (ended : Outcome) → comes_of_text ended ≡ true → (is_usage_outcome ended ≡ false) × (is_read_outcome ended ≡ false) × (is_too_long_outcome ended ≡ false)
text_outcome (outcome.Clean history closed) h = (refl, refl, refl)
text_outcome (outcome.Script refused) h = (refl, refl, refl)
text_outcome (outcome.Write history closed) h = (refl, refl, refl)
text_outcome outcome.Memory h = (refl, refl, refl)
text_outcome outcome.Usage h = absurd (false≢true h)
text_outcome outcome.Read h = absurd (false≢true h)
text_outcome outcome.TooLong h = absurd (false≢true h)
text_outcome (outcome.NotLegal place rule) h = (refl, refl, refl)
text_outcome (outcome.Transcript line) h = (refl, refl, refl)

module _ (source source' sink sink' : Stream) (bytes : List ℕ) (ended : Outcome) where
  pub text_done : (command : Subcommand) → runs_script command ≡ true → IsWholeInput source bytes source' → ComesTo (MeansRun command bytes) sink sink' ended → IsCommandDone (Some command) source source' sink sink' ended
  text_done command runs p q =
      let kind = text_outcome ended q.cause in
      record {
        came = bytes;
        put = q.put;
        usage = λ known. kind.0;
        reading = subst (λ failed. GivesBytes source bytes failed source') (sym kind.1) p.gives;
        writing = q.writing;
        own = does_run command runs ended source bytes source' q.put (record { too_long = kind.2 ∙ sym (le-ltb 4194304 (length bytes) p.few); few = omega (arith, p.few); to_end = λ h. p.ended; means = q.means });
      }

  pub input_done : IsReadToItsEnd source bytes source' → IsWithinLimits bytes → ComesTo (MeansChecked bytes) sink sink' ended → IsCommandDone (Some subcommand.Check) source source' sink sink' ended
  input_done p within q =
      let kind = text_outcome ended q.cause in
      record {
        came = bytes;
        put = q.put;
        usage = λ known. kind.0;
        reading = subst (λ failed. GivesBytes source bytes failed source') (sym kind.1) p.gives;
        writing = q.writing;
        own = record {
          too_long = λ long. absurd (true≢false (sym long ∙ kind.2));
          fits = λ failed. absurd (true≢false (sym failed ∙ kind.1));
          within = λ h. within;
          few = omega (arith, within.few);
          in_time = fit_in_time bytes ([], subst IsWithinLimits (sym (append-nil bytes)) within);
          to_end = λ h. p.ended;
          means = q.means;
        };
      }

-- ---- words that are no command, or out of memory before they are known

pub usage_done : (source sink : Stream) → IsCommandDone None source source sink sink outcome.Usage
usage_done source sink =
    record {
      came = [];
      put = [];
      usage = λ known. refl;
      reading = GivesBytes-none source;
      writing = Receives-none sink;
      own = (refl, refl);
    }

unsaid_run : (command : Subcommand) (source : Stream) → DoesRun command outcome.Memory [] source []
unsaid_run command source = record { too_long = refl; few = omega arith; to_end = λ h. absurd (false≢true h); means = inl refl }

unsaid : (command : Option Subcommand) (source : Stream) → DoesCommand command outcome.Memory source [] source []
unsaid None source = (refl, refl)
unsaid (Some subcommand.Run) source = unsaid_run subcommand.Run source
unsaid (Some subcommand.Turns) source = unsaid_run subcommand.Turns source
unsaid (Some subcommand.Check) source = record { too_long = λ h. absurd (false≢true h); fits = λ h. absurd (false≢true h); within = λ h. absurd (false≢true h); few = omega arith; in_time = fit_in_time [] (few_fits [] (omega arith)); to_end = λ h. absurd (false≢true h); means = refl }
unsaid (Some (subcommand.Make calls)) source = record { nothing_came = refl; untouched = refl; means = refl }
unsaid (Some (subcommand.MakeTurns calls)) source = record { nothing_came = refl; untouched = refl; means = refl }

pub memory_done : (command : Option Subcommand) (source sink : Stream) → IsCommandDone command source source sink sink outcome.Memory
memory_done command source sink =
    record {
      came = [];
      put = [];
      usage = λ known. absurd (true≢false known);
      reading = GivesBytes-none source;
      writing = Receives-none sink;
      own = unsaid command source;
    }

-- ---- what a script comes to

module _ (command : Subcommand) (bytes : List ℕ) where
  pub run_refused : (sink : Stream) (refused : ScriptFault) → (refused ≡ no_memory) ⊎ (read_script bytes ≡ Err refused) → ComesTo (MeansRun command bytes) sink sink (refusal_of refused)
  run_refused sink refused cause =
      elim (refused.kind == 14) as (λ b. (refused.kind == 14) ≡ b → ComesTo (MeansRun command bytes) sink sink (if b then outcome.Memory else outcome.Script refused)) [
        | true ↦ λ memory. record { put = []; writing = Receives-none sink; means = inl refl; cause = refl }
        | false ↦ λ other. elim cause [
          | inl memory ↦ absurd (eqb-false refused.kind 14 other (ap (λ (f : ScriptFault). f.kind) memory))
          | inr first ↦ record { put = []; writing = Receives-none sink; means = (record { first = first; in_text = eqb-false refused.kind 14 other }, refl); cause = refl }
        ]
      ] refl

  pub run_forgotten : (sink : Stream) → ComesTo (MeansRun command bytes) sink sink outcome.Memory
  run_forgotten sink = record { put = []; writing = Receives-none sink; means = inl refl; cause = refl }

  -- a history of the script, and the contents after its writes
  pub record IsRun (script : ScriptParts) (history : List Entry) (world : List Content) : Type 0 where
    pub read : read_script bytes ≡ Ok script
    pub legal : IsLegal stored script history
    pub order : command ≡ subcommand.Turns → IsOrderRunFor script history
    pub fitting : AreFitting stored script history
    pub short : All HasShortReply history
    pub last : world ≡ world_at script history (length (writes history))

  module _ (script : ScriptParts) (history : List Entry) (world : List Content) (is : IsRun script history world) where
    abbrev text : List ℕ
    text = flat_map (entry_line script) history ++ world_text script world

    history_is : IsCommandHistory command bytes history text
    history_is = record { script = script; read = is.read; legal = is.legal; order = is.order; fitting = is.fitting; short = is.short; written = ap (λ (w : List Content). flat_map (entry_line script) history ++ world_text script w) is.last }

    pub run_short : (sink sink' : Stream) → PutsPrefix sink text false sink' → ComesTo (MeansRun command bytes) sink sink' outcome.Memory
    run_short sink sink' part = record { put = part.prefix; writing = part.receives; means = inr (history, record { text = text; whole = history_is; prefix = part.is_prefix }); cause = refl }

    module _ (sink sink' : Stream) (made : Vec Entry Global) (made_is : made.items ≡ history) (closed : Option Closed) (left : LeavesBank bytes history closed) where
      leaves : LeavesBank bytes made.items closed
      leaves = subst (λ (es : List Entry). LeavesBank bytes es closed) (sym made_is) left

      pub run_written : Receives sink text false sink' → ComesTo (MeansRun command bytes) sink sink' (outcome.Clean made closed)
      run_written all = record { put = text; writing = all; means = (subst (λ (es : List Entry). IsCommandHistory command bytes es text) (sym made_is) history_is, leaves); cause = refl }

      pub run_failed : PutsPrefix sink text true sink' → ComesTo (MeansRun command bytes) sink sink' (outcome.Write made closed)
      run_failed part = record { put = part.prefix; writing = part.receives; means = (record { text = text; whole = subst (λ (es : List Entry). IsCommandHistory command bytes es text) (sym made_is) history_is; prefix = part.is_prefix }, leaves); cause = refl }

-- ---- what a transcript comes to

pub script_refused : (bytes text : List ℕ) (refused : ScriptFault) → IsScriptPart bytes text → (refused ≡ no_memory) ⊎ (read_script text ≡ Err refused) → (sink : Stream) → ComesTo (MeansChecked bytes) sink sink (refusal_of refused)
script_refused bytes text refused part cause sink =
    elim (refused.kind == 14) as (λ b. (refused.kind == 14) ≡ b → ComesTo (MeansChecked bytes) sink sink (if b then outcome.Memory else outcome.Script refused)) [
      | true ↦ λ memory. record { put = []; writing = Receives-none sink; means = refl; cause = refl }
      | false ↦ λ other. elim cause [
        | inl memory ↦ absurd (eqb-false refused.kind 14 other (ap (λ (f : ScriptFault). f.kind) memory))
        | inr first ↦ record { put = []; writing = Receives-none sink; means = ((text, part, record { first = first; in_text = eqb-false refused.kind 14 other }), refl); cause = refl }
      ]
    ] refl

pub line_refused : (bytes : List ℕ) (line : ℕ) → IsBadAt bytes line → (sink : Stream) → ComesTo (MeansChecked bytes) sink sink (outcome.Transcript line)
line_refused bytes line bad sink = record { put = []; writing = Receives-none sink; means = (bad, refl); cause = refl }

pub check_forgotten : (bytes : List ℕ) (sink : Stream) → ComesTo (MeansChecked bytes) sink sink outcome.Memory
check_forgotten bytes sink = record { put = []; writing = Receives-none sink; means = refl; cause = refl }

module _ (bytes : List ℕ) (sink sink' : Stream) where
  pub legal_found : (history : Vec Entry Global) → history.items ≡ [] → IsFound bytes verdict.Legal → Receives sink legal_line false sink' → ComesTo (MeansChecked bytes) sink sink' (outcome.Clean history None)
  legal_found history none found all = record { put = legal_line; writing = all; means = (found, none, refl, refl); cause = refl }

  pub legal_begun : (history : Vec Entry Global) → history.items ≡ [] → IsFound bytes verdict.Legal → PutsPrefix sink legal_line true sink' → ComesTo (MeansChecked bytes) sink sink' (outcome.Write history None)
  legal_begun history none found part = record { put = part.prefix; writing = part.receives; means = (found, none, refl, part.is_prefix); cause = refl }

  pub broken_found : (place : ℕ) (rule : Rule) → IsFound bytes (verdict.Not place rule) → Reported sink (broken_line place rule) sink' → ComesTo (MeansChecked bytes) sink sink' (outcome.NotLegal place rule)
  broken_found place rule found (inl all) = record { put = broken_line place rule; writing = inl (refl, all); means = found; cause = refl }
  broken_found place rule found (inr part) = record { put = part.prefix; writing = inr (part.is_prefix, part.receives); means = found; cause = refl }

-- ---- what a script that is made comes to

module _ (sink sink' : Stream) (text : List ℕ) (history : Vec Entry Global) (closed : Option Closed) where
  pub made_whole : Receives sink text false sink' → ComesTo (MeansMade (λ entries left made. (made ≡ text) × (entries ≡ history.items) × (left ≡ closed))) sink sink' (outcome.Clean history closed)
  made_whole all = record { put = text; writing = all; means = (refl, refl, refl); cause = refl }

  pub made_part : PutsPrefix sink text true sink' → ComesTo (MeansMade (λ entries left made. (made ≡ text) × (entries ≡ history.items) × (left ≡ closed))) sink sink' (outcome.Write history closed)
  made_part part = record { put = part.prefix; writing = part.receives; means = (text, (refl, refl, refl), part.is_prefix); cause = refl }

module _ (IsWhole : List Entry → Option Closed → List ℕ → Type 0) (history : List Entry) (closed : Option Closed) (text : List ℕ) (whole : IsWhole history closed text) where
  -- what is this one is whole
  just_whole : (entries : List Entry) (left : Option Closed) (made : List ℕ) → (made ≡ text) × (entries ≡ history) × (left ≡ closed) → IsWhole entries left made
  just_whole entries left made is =
      subst (λ (t : List ℕ). IsWhole entries left t) (sym is.0)
      (subst (λ (es : List Entry). IsWhole es left text) (sym is.1)
      (subst (λ (c : Option Closed). IsWhole history c text) (sym is.2) whole))

  means_made : (ended : Outcome) (put : List ℕ) → MeansMade (λ entries left made. (made ≡ text) × (entries ≡ history) × (left ≡ closed)) ended put → MeansMade IsWhole ended put
  means_made (outcome.Clean entries left) put means = just_whole entries.items left put means
  means_made (outcome.Write entries left) put means = (means.0, just_whole entries.items left means.0 means.1, means.2)
  means_made outcome.Memory put means = means
  means_made (outcome.Script refused) put means = means
  means_made outcome.Usage put means = means
  means_made outcome.Read put means = means
  means_made outcome.TooLong put means = means
  means_made (outcome.NotLegal place rule) put means = means
  means_made (outcome.Transcript line) put means = means

  made_done : (command : Subcommand) (sink sink' : Stream) (ended : Outcome) → ComesTo (MeansMade (λ entries left made. (made ≡ text) × (entries ≡ history) × (left ≡ closed))) sink sink' ended → (source : Stream) → ((put : List ℕ) → DoesMake IsWhole ended source [] source put → DoesCommand (Some command) ended source [] source put) → IsCommandDone (Some command) source source sink sink' ended
  made_done command sink sink' ended comes source does =
      let kind = text_outcome ended comes.cause in
      record {
        came = [];
        put = comes.put;
        usage = λ known. kind.0;
        reading = subst (λ failed. GivesBytes source [] failed source) (sym kind.1) (GivesBytes-none source);
        writing = comes.writing;
        own = does comes.put (record { nothing_came = refl; untouched = refl; means = means_made ended comes.put comes.means });
      }

pub script_made : (calls : ℕ) (text : List ℕ) (history : List Entry) (closed : Option Closed) → IsMadeScript calls history closed text → (sink sink' : Stream) (ended : Outcome) → ComesTo (MeansMade (λ entries left made. (made ≡ text) × (entries ≡ history) × (left ≡ closed))) sink sink' ended → (source : Stream) → IsCommandDone (Some (subcommand.Make calls)) source source sink sink' ended
script_made calls text history closed is sink sink' ended comes source = made_done (IsMadeScript calls) history closed text is (subcommand.Make calls) sink sink' ended comes source (λ put does. does)

pub summary_made : (calls : ℕ) (text : List ℕ) (history : List Entry) (closed : Option Closed) → IsSummary calls history closed text → (sink sink' : Stream) (ended : Outcome) → ComesTo (MeansMade (λ entries left made. (made ≡ text) × (entries ≡ history) × (left ≡ closed))) sink sink' ended → (source : Stream) → IsCommandDone (Some (subcommand.MakeTurns calls)) source source sink sink' ended
summary_made calls text history closed is sink sink' ended comes source = made_done (IsSummary calls) history closed text is (subcommand.MakeTurns calls) sink sink' ended comes source (λ put does. does)
