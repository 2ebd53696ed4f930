-- What is said of the keys and values of a legal history's calls is so of those of the contents that it leaves.
use Rattle.std.proofs.Common.{◌≡◌, ◌∙◌, ℕ, true, false, cond, List, [], ◌∷◌, map, length, get_or, take, refl, sym}
use Rattle.std.specs.Prelude.{All}
use Rattle.std.specs.List.{fold, filter}
use Rattle.std.proofs.lemmas.Bool.{and_parts}
use Rattle.std.proofs.lemmas.List.{length-map}
use Rattle.std.proofs.lemmas.List.Elements.{All-cons, All-head, All-map, All-nil, All-tail, All-take}
use Rattle.std.proofs.lemmas.Option.{slice_get-get_or}
use Rattle.ft_model.specs.declared.call.Call.{Call}
use Rattle.ft_model.specs.declared.content.Content.{Content}
use Rattle.ft_model.specs.declared.data.Key.{Key}
use Rattle.ft_model.specs.declared.data.Value.{Value}
use Rattle.ft_model.specs.declared.entry.Entry.{Entry}
use Rattle.ft_model.specs.declared.script.Declaration.{Declaration}
use Rattle.ft_model.specs.declared.script.Kind.{Kind}
use Rattle.ft_model.specs.declared.script.Kind.TheVariants as kind
use Rattle.ft_model.specs.declared.script.ScriptParts.{ScriptParts}
use Rattle.ft_model.specs.declared.script.Start.{Start}
use Rattle.ft_model.specs.Answers.{after_write}
use Rattle.ft_model.specs.Calls.{is_changing}
use Rattle.ft_model.specs.Histories.{cursors_of, writes, world_at, IsLegal}
use Rattle.ft_model.specs.Parts.{IsEntryOf, IsWorldOf}
use Rattle.ft_model.specs.Scripts.{IsKeyOf, IsValueOf, NamesOf}
use Rattle.ft_model.specs.Worlds.{empty_content, kind_of, no_hands, start_world, starts_of}
use Rattle.ft_history.proofs.StartLemmas.{kinds_at_start}
use Rattle.ft_turns.proofs.AnswerFacts.{IsAny, contents_of, plain_answer, strings_together}
use Rattle.ft_turns.proofs.CallParts.{IsCallBy, strings_of}
use Rattle.ft_turns.proofs.ContentFacts.{GoTogether, IsContentBy, IsElementBy, IsPairBy}
use Rattle.ft_turns.proofs.Going.{asked_of}
use Rattle.ft_runner.specs.Findings.{stored}

module _ (script : ScriptParts) (K : Key → Type 0) (V : Value → Type 0) (together : GoTogether K V) where
  -- contents of the kinds that are declared, of whose keys and values it is said
  pub record IsServed (world : List Content) : Type 0 where
    pub contents : All (IsContentBy K V) world
    pub containers : length world ≡ length script.containers
    pub kinds : map kind_of world ≡ map (λ (declared : Declaration). declared.start.kind) script.containers

  -- a call that changes, which names what the script declares, and of whose keys and values it is said
  pub record IsFair (called : Call) : Type 0 where
    pub cursors : ℕ
    pub names : NamesOf script.containers cursors called
    pub said : IsCallBy K V called
    pub changes : is_changing called ≡ true

  after_one : (world : List Content) (called : Call) → IsFair called → IsServed world → IsServed (after_write world called)
  after_one world called fair served =
      let plain = plain_answer K V IsAny together world served.contents no_hands called fair.said (asked_of script.containers world served.kinds fair.cursors called fair.names) (λ _ _ _. tt) in
      record { contents = plain.contents; containers = plain.containers ∙ served.containers; kinds = plain.kinds ∙ served.kinds }

  after_all : (calls : List Call) (world : List Content) → All IsFair calls → IsServed world → IsServed (fold after_write world calls)
  after_all [] world fair served = served
  after_all (called ∷ calls) world fair served = after_all calls (after_write world called) (All-tail IsFair called calls fair) (after_one world called (All-head IsFair called calls fair) served)

  nothing_in : (k : Kind) → IsContentBy K V (empty_content k)
  nothing_in kind.Dict = All-nil (IsPairBy K V)
  nothing_in kind.List = All-nil V
  nothing_in kind.Set = All-nil (IsElementBy K)
  nothing_in (kind.Deque bound) = All-nil V

  at_start : IsServed (start_world script.containers)
  at_start =
      record {
        contents = All-map (IsContentBy K V) (λ (start : Start). empty_content start.kind) (starts_of script.containers) (λ place d low. nothing_in (get_or (starts_of script.containers) place d).kind);
        containers = length-map (starts_of script.containers) (λ (start : Start). empty_content start.kind) ∙ length-map script.containers (λ (c : Declaration). c.start);
        kinds = kinds_at_start script.containers;
      }

  -- an entry that is marked as a write is such a call
  abbrev pub HasFairCall : Entry → Type 0
  HasFairCall entry = entry.wrote ≡ true → IsFair entry.call

  fair_writes : (entries : List Entry) → All HasFairCall entries → All IsFair (writes entries)
  fair_writes [] fair = All-nil IsFair
  fair_writes (entry ∷ entries) fair =
      let rest = fair_writes entries (All-tail HasFairCall entry entries fair) in
      elim entry.wrote as (λ b. entry.wrote ≡ b → All IsFair (map (λ (e : Entry). e.call) (cond b (entry ∷ filter (λ (e : Entry). e.wrote) entries) (filter (λ (e : Entry). e.wrote) entries)))) [
        | true ↦ λ wrote. All-cons IsFair entry.call (writes entries) (All-head HasFairCall entry entries fair wrote) rest
        | false ↦ λ read. rest
      ] refl

  pub served_at : (entries : List Entry) → All HasFairCall entries → (n : ℕ) → IsServed (world_at script entries n)
  served_at entries fair n = after_all (take n (writes entries)) (start_world script.containers) (All-take IsFair n (writes entries) (fair_writes entries fair)) at_start

-- an entry of a legal history that is marked as a write is a call that changes
pub changes_where_marked : (script : ScriptParts) (entries : List Entry) → IsLegal stored script entries → All (λ (e : Entry). e.wrote ≡ true → is_changing e.call ≡ true) entries
changes_where_marked script entries legal place d low =
    λ wrote. (and_parts _ _ (sym (legal.chronicle.answered place (get_or entries place d) (slice_get-get_or entries place d low)).wrote ∙ wrote)).0

-- the contents that a legal history leaves are the script's
pub world_of_legal : (script : ScriptParts) (entries : List Entry) → All (IsEntryOf script) entries → IsLegal stored script entries → IsWorldOf script (world_at script entries (length (writes entries)))
world_of_legal script entries of legal =
    let n = length script.strings in
    let left = world_at script entries (length (writes entries)) in
    let fair : All (HasFairCall script (IsKeyOf n) (IsValueOf n) (strings_together n)) entries = λ place d low wrote.
    let entry = get_or entries place d in
    record {
      cursors = cursors_of script entry.thread;
      names = (of place d low).call.names;
      said = strings_of n entry.call (of place d low).call.strings;
      changes = changes_where_marked script entries legal place d low wrote;
    } in
    let served = served_at script (IsKeyOf n) (IsValueOf n) (strings_together n) entries fair (length (writes entries)) in
    record { containers = served.containers; strings = contents_of n left served.contents }
