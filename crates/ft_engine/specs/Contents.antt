-- What all containers of an engine have, as a caller reads it that has the floor.
use Rattle.std.specs.Prelude.{◌≡◌, ℕ, List, map, Some, slice_get}
use Rattle.ft_model.specs.declared.call.Call.{Call}
use Rattle.ft_model.specs.declared.entry.Entry.{Entry as NamedEntry}
use Rattle.ft_model.specs.declared.entry.Storage.TheVariants as storage
use Rattle.ft_model.specs.declared.reply.Shown.{Shown}
use Rattle.ft_model.specs.declared.script.ScriptParts.{ScriptParts}
use Rattle.ft_model.specs.Answers.{shown_of, world_by}
use Rattle.ft_model.specs.Numbers.{IsHistoryOf}
use Rattle.ft_model.specs.Worlds.{starts_of}
use Rattle.ft_trace.specs.declared.Act.{Act}
use Rattle.ft_trace.specs.declared.Shape.{Shape}
use Rattle.ft_bank.specs.declared.pass.Pass.{Pass}
use Rattle.ft_bank.specs.Passes.{view}
use Rattle.ft_bank.specs.Series.{DidAll}
use Rattle.ft_reads.specs.Reads.{ShowsRead}
use Rattle.ft_search.specs.KeyLooks.{AreLooks}
use Rattle.ft_bank_history.specs.LastContents.{AreShownTo, IsShownAs}
use Rattle.ft_engine.specs.declared.caller.Caller.{Caller}
use Rattle.ft_engine.specs.DoneCallers.{WereAnswered}
use Rattle.ft_engine.specs.Resting.{IsAsBefore, KeepsFloor}
use Rattle.ft_engine.specs.Presences.{WereOnline}

-- ---- reads of one container after the other

-- these are shown of the first containers, in the order of declaration, by all words that answer as the loads did, as
-- they read
abbrev pub AreReadBy : Shape → List Act → List Shown → Type 0
AreReadBy k part all =
    (o : ℕ) (shown : Shown) → slice_get all o ≡ Some shown → ShowsRead k o part (IsShownAs k o shown)

-- the pass only loaded words, and these are shown by them
abbrev pub ReadsFirst : Shape → List Shown → Pass → Pass → Type 0
ReadsFirst k all p q = (part : List Act) × AreLooks part × DidAll part p q × AreReadBy k part all

-- ---- a caller that reads

-- The caller only loaded words: it is in the same call and sections, has the floor as before, and was answered the same
-- entries, as were those that it took in, and was online as they were.
pub record HasOnlyRead (c d : Caller) : Type 0 where
  pub same : IsAsBefore c d
  pub floor : KeepsFloor c d
  pub kept : (lists : List (List NamedEntry)) → WereAnswered c lists → WereAnswered d lists
  pub online : WereOnline c → WereOnline d

-- these are shown of the containers by the words that the caller knows, which has the floor
abbrev pub AreShownIn : Caller → List Shown → Type 0
AreShownIn c all = AreShownTo (view c.pass) all

-- ---- the end

-- A legal history of the script, with containers on tables, in which MemoryErrors fit; and this is shown of what the
-- plain containers have after its writes.
abbrev pub IsLegalWith : ScriptParts → List NamedEntry → List Shown → Type 0
IsLegalWith script history all =
    ∥ ((calls : List Call) × IsHistoryOf storage.Tables script calls history
    × (all ≡ map shown_of (world_by (starts_of script.containers) calls))) ∥₁
