-- What a run has made is a legal history, and what it read of the containers is what these have then. Its MemoryErrors
-- fit.
use Rattle.std.proofs.Common.{◌≡◌, ◌∙◌, ℕ, Bool, true, false, List, Ok, Option, Some, None, map, get_or, refl, sym, ap, subst, inl, inr, take}
use Rattle.std.specs.Prelude.{All, length}
use Rattle.std.proofs.lemmas.Bool.{cases_eq, false≢true}
use Rattle.std.proofs.lemmas.Grind.{not_there}
use Rattle.std.proofs.lemmas.List.Elements.{All-map}
use Rattle.std.proofs.Math.Seq.{take-length}
use Rattle.std.proofs.lemmas.Option.{none-some}
use Rattle.ft_history.proofs.Equality.{reply_alike, reply_exact}
use Rattle.ft_model.specs.declared.call.Call.{Call}
use Rattle.ft_model.specs.declared.content.Content.{Content}
use Rattle.ft_model.specs.declared.content.Content.TheVariants as content
use Rattle.ft_model.specs.declared.content.DictPair.{DictPair}
use Rattle.ft_model.specs.declared.content.Element.{Element}
use Rattle.ft_model.specs.declared.data.Key.{Key}
use Rattle.ft_model.specs.declared.data.Value.{Value}
use Rattle.ft_model.specs.declared.entry.Entry.{Entry}
use Rattle.ft_model.specs.declared.entry.Storage.TheVariants as storage
use Rattle.ft_model.specs.declared.reply.Raise.TheVariants as raise
use Rattle.ft_model.specs.declared.reply.Reply.{Reply}
use Rattle.ft_model.specs.declared.reply.Reply.TheVariants as reply
use Rattle.ft_model.specs.declared.reply.Shown.{Shown}
use Rattle.ft_model.specs.declared.script.ScriptParts.{ScriptParts}
use Rattle.ft_model.specs.Answers.{shown_of, world_by}
use Rattle.ft_model.specs.Boxings.{boxes}
use Rattle.ft_model.specs.Histories.{writes, world_at, IsLegal}
use Rattle.ft_model.specs.Numbers.{AreFitting, IsHistoryOf}
use Rattle.ft_model.specs.Parts.{IsContentOf, IsEntryOf, IsShownOf}
use Rattle.ft_model.specs.Scripts.{IsKeyOf, IsValueOf}
use Rattle.ft_model.specs.TableUses.{stored_after, takes_in, IsFittingReply, StoredWorld}
use Rattle.ft_model.specs.Worlds.{starts_of}
use Rattle.ft_model.specs.contracts.reply.ReplyPartialEq.TheImpl as replies
use Rattle.ft_engine.specs.Contents.{IsLegalWith}
use Rattle.ft_script.specs.ReadScripts.{read_script}
use Rattle.ft_script.specs.ShownLines.{shown_lines}
use Rattle.ft_script.specs.Texts.{world_text}
use Rattle.ft_script.specs.Transcripts.{IsReadable}
use Rattle.ft_script.proofs.ReadScripts.{script_read, script_wide}
use Rattle.ft_script.proofs.ShownLines.{shown_world}
use Rattle.ft_turns.specs.ShortReplies.{HasShortReply}
use Rattle.ft_run_turns.specs.OrderedHistories.{IsOrderRunFor}
use Rattle.ft_runner.specs.declared.command.Subcommand.{Subcommand}
use Rattle.ft_runner.specs.declared.command.Subcommand.TheVariants as subcommand
use Rattle.ft_runner.proofs.ReadableEntries.{readable_entries, short_entries}
use Rattle.ft_runner.proofs.ReportLemmas.{IsRun}
use Rattle.ft_runner.proofs.WorldLemmas.{world_of_legal}

-- ---- what is said of a history that there is

class_there : (taken : Option ℕ) (class : ℕ) → ¬ (¬ (taken ≡ Some class)) → taken ≡ Some class
class_there None class twice = absurd (twice (λ same. none-some class same))
class_there (Some other) class twice =
    elim (cases_eq other class) [
      | inl same ↦ ap (λ (c : ℕ). Some c) same
      | inr differs ↦ absurd (twice (λ same. differs (let is : other ≡ class = cc in is)))
    ]

is_there : (b : Bool) → ¬ (¬ (b ≡ true)) → b ≡ true
is_there true twice = refl
is_there false twice = absurd (twice (λ same. false≢true same))

fits_there : (stored : StoredWorld) (called : Call) (said : Reply) → ¬ (¬ (IsFittingReply stored called said)) → IsFittingReply stored called said
fits_there stored called (reply.Raised (raise.Memory class)) twice = class_there (takes_in stored called) class twice
fits_there stored called (reply.Raised raise.Heap) twice = is_there (boxes stored.world called) twice
fits_there stored called other twice = tt

-- its MemoryErrors fit
pub fitting_made : (script : ScriptParts) (history : List Entry) → ∥ ((calls : List Call) × IsHistoryOf storage.Tables script calls history) ∥₁ → AreFitting storage.Tables script history
fitting_made script history made place entry at =
    fits_there (stored_after script (writes (take place history))) entry.call entry.reply
    (λ no. not_there made (λ is. no (is.1.fitting place entry at)))

-- it is legal
pub legal_made : (script : ScriptParts) (history : List Entry) → ∥ ((calls : List Call) × IsHistoryOf storage.Tables script calls history) ∥₁ → ¬ (¬ (IsLegal storage.Tables script history))
legal_made script history made never = not_there made (λ is. never is.1.legal)

-- ---- what was read

-- whether the same is shown can be told
shown_told : (a b : List Shown) → ¬ (¬ (a ≡ b)) → a ≡ b
shown_told a b twice =
    elim ((replies.ghosts).eq (reply.World a) (reply.World b)) as (λ same. (replies.ghosts).eq (reply.World a) (reply.World b) ≡ same → a ≡ b) [
      | true ↦ λ same. let e : reply.World a ≡ reply.World b = reply_exact (reply.World a) (reply.World b) same in cc
      | false ↦ λ other. absurd (twice (λ e. false≢true (sym other ∙ reply_alike (reply.World a) (reply.World b) (ap (λ (all : List Shown). reply.World all) e))))
    ] refl

-- it is what the containers have after the writes of the history
pub contents_made : (script : ScriptParts) (history : List Entry) (contents : List Shown) → IsLegalWith script history contents → contents ≡ map shown_of (world_at script history (length (writes history)))
contents_made script history contents made =
    let starts = starts_of script.containers in
    shown_told contents (map shown_of (world_at script history (length (writes history))))
    (λ no. not_there made (λ x. no (x.2 ∙ ap (λ (calls : List Call). map shown_of (world_by starts calls)) (sym (take-length (writes history) ∙ x.1.written)))))

-- what is shown of contents whose strings are declared
shown_of_one : (n : ℕ) (there : Content) → IsContentOf n there → IsShownOf n (shown_of there)
shown_of_one n (content.Dict dict) of = All-map (λ (pair : Key × Value). IsKeyOf n pair.0 × IsValueOf n pair.1) (λ (pair : DictPair). (pair.key, pair.value)) dict.pairs of
shown_of_one n (content.List items) of = of
shown_of_one n (content.Set set) of = All-map (IsKeyOf n) (λ (element : Element). element.key) set.elements of
shown_of_one n (content.Deque deque) of = of

module _ (bytes : List ℕ) (script : ScriptParts) (read : read_script bytes ≡ Ok script) (history : List Entry) (legal : IsLegal storage.Tables script history) where
  readable : All (IsReadable script) history
  readable = readable_entries script (script_read bytes script read) (script_wide bytes script read) history legal

  -- its entries are of the script
  pub entries_made : All (IsEntryOf script) history
  entries_made place d low = (readable place d low).of_script

  pub short_made : All HasShortReply history
  short_made = short_entries script history readable

  -- the contents that it leaves
  abbrev left : List Content
  left = world_at script history (length (writes history))

  -- and so is what is shown of the contents that it leaves
  pub shown_made : (contents : List Shown) → contents ≡ map shown_of left → All (IsShownOf (length script.strings)) contents
  shown_made contents is =
      let n = length script.strings in
      subst (All (IsShownOf n)) (sym is) (All-map (IsShownOf n) shown_of left (λ place d low. shown_of_one n (get_or left place d) ((world_of_legal script history entries_made legal).strings place d low)))

  -- what is written of them
  pub lines_made : (contents : List Shown) → contents ≡ map shown_of left → shown_lines script contents ≡ world_text script left
  lines_made contents is = ap (shown_lines script) is ∙ shown_world script left

  -- and all of it is what a command that runs a script comes to
  pub run_made : (command : Subcommand) → (command ≡ subcommand.Turns → IsOrderRunFor script history) → AreFitting storage.Tables script history → IsRun command bytes script history left
  run_made command order fitting = record { read = read; legal = legal; order = order; fitting = fitting; short = short_made; last = refl }
