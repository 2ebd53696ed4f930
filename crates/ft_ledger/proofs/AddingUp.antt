-- The tables of a class that are free, current and retired are all tables of the script.
use Rattle.std.proofs.Common.{◌≡◌, ◌↔◌, ℕ, ◌+◌, ◌≤◌, Bool, true, false, not, List, [], ◌∷◌, ◌++◌, length, map, take, Option, Some, None, refl, sym, ap, subst, ◌∙◌, arith, cond, inl, inr}
use Rattle.std.specs.Prelude.{◌&&◌, is_some, slice_get, if◌then◌else◌}
use Rattle.std.specs.Option.{option_map_or}
use Rattle.std.proofs.lemmas.Bool.{and_from, and_parts, both_ways, cases_lt, cases_Bool, not-true, not_from_false, true≢false}
use Rattle.std.proofs.lemmas.List.{append-nil, take_all}
use Rattle.std.proofs.lemmas.List.Elements.{All-nil}
use Rattle.std.proofs.lemmas.List.Sums.{fold_push, sum_by-cons}
use Rattle.std.proofs.lemmas.Option.{none-some, slice_get_cases}
use Rattle.ft_model.specs.declared.entry.Entry.{Entry}
use Rattle.ft_model.specs.declared.reply.Reply.{Reply}
use Rattle.ft_model.specs.declared.reply.Reply.TheVariants as reply
use Rattle.ft_model.specs.declared.reply.Raise.TheVariants as raise
use Rattle.ft_model.specs.declared.script.ScriptParts.{ScriptParts}
use Rattle.ft_model.specs.declared.script.Start.{Start}
use Rattle.ft_model.specs.Answers.{is_raised, is_write}
use Rattle.ft_model.specs.Calls.{is_changing}
use Rattle.ft_model.specs.Classes.{IsClass}
use Rattle.ft_model.specs.Histories.{EachAt, writes, cursors_of}
use Rattle.ft_model.specs.Scripts.{IsScript}
use Rattle.ft_model.specs.TableUses.{StoredWorld, TableUse, after_stored, is_class, start_table, stored_after, table_count, takes, takes_in}
use Rattle.ft_history.proofs.AccountLemmas.{start_stored}
use Rattle.ft_model.specs.Worlds.{starts_of}
use Rattle.ft_model.proofs.StoredLaws.{takes_push}
use Rattle.ft_history.proofs.HistoryPlaces.{by_places, writes_next}
use Rattle.ft_history.proofs.ScriptLemmas.{call_of_thread, no_calls}
use Rattle.ft_ledger.specs.Ledgers.{Ledger, Retired, HasLedgerErrors, class_had, collected, given_up, is_out_of, lacked_by, lacks_in, ledger_after, raises_else, wanted}
use Rattle.ft_ledger.specs.LedgerLaws.{AddUp, AreAnswered, CountsClasses}
use Rattle.ft_ledger.proofs.Exchanges.{IsClassOf, gave, idle, took, step_exchanges}
use Rattle.ft_ledger.proofs.Leaving.{ledger_next}
use Rattle.ft_ledger.proofs.Places.{made_before, call_there}
use Rattle.ft_ledger.proofs.TableChanges.{ChangesWithin, changes_within, count_changed, having, leaves_class, once, takes_none}
use Rattle.ft_ledger.proofs.TableClasses.{AreTableClasses, classes_at_start, classes_next, had_class, takes_class}

-- ---- replies

not_else : (said : Reply) → is_raised said ≡ false → raises_else said ≡ false
not_else (reply.Raised (raise.Memory class)) none = refl
not_else _ none = none

not_raised : (said : Reply) → raises_else said ≡ false → ((class : ℕ) → said ≡ reply.Raised (raise.Memory class) → ⊥) → is_raised said ≡ false
not_raised (reply.Raised (raise.Memory class)) none not_memory = absurd (not_memory class refl)
not_raised _ none not_memory = none

lacked_is : (said : Reply) (class : ℕ) → lacked_by said ≡ Some class → said ≡ reply.Raised (raise.Memory class)
lacked_is (reply.Raised (raise.Memory of)) class is = ap (λ c. reply.Raised (raise.Memory c)) (let same : of ≡ class = cc in same)
lacked_is _ class none = absurd (none-some class none)

-- ---- an entry whose reply is the ledger's

pub none_else : (b : Bool) (other : Option ℕ) (class : ℕ) → (if b then None else other) ≡ Some class → (b ≡ false) × (other ≡ Some class)
none_else true other class is = absurd (none-some class is)
none_else false other class is = (refl, is)

abbrev pub IsLedgerReply : StoredWorld → Ledger → Entry → Type 0
IsLedgerReply stored ledger entry = (class : ℕ) → (entry.reply ≡ reply.Raised (raise.Memory class)) ↔ (lacks_in stored ledger entry ≡ Some class)

module _ (stored : StoredWorld) (ledger : Ledger) (entry : Entry) (errors : IsLedgerReply stored ledger entry) (wrote : entry.wrote ≡ is_write entry.call entry.reply) where
  abbrev lacks_if : Option ℕ → Option ℕ
  lacks_if o = option_map_or (λ class. if is_out_of (collected entry.thread ledger) class then Some class else None) o None

  -- a call that finds a table of the class that it wants is a write
  served_writes : (new : ℕ) → wanted stored entry ≡ Some new → is_out_of (collected entry.thread ledger) new ≡ false → entry.wrote ≡ true
  served_writes new wants some =
      let parts = none_else (raises_else entry.reply) (takes_in stored entry.call) new wants in
      let lacks : lacks_in stored ledger entry ≡ None = ap lacks_if wants ∙ ap (λ b. if b then Some new else None) some in
      let quiet : is_raised entry.reply ≡ false = not_raised entry.reply parts.0 (λ class memory. none-some class (sym lacks ∙ (errors class).0 memory)) in
      let changing : is_changing entry.call ≡ true = elim (cases_Bool (is_changing entry.call)) [
        | inl is ↦ is
        | inr not_so ↦ absurd (none-some new (sym (takes_none stored entry.call not_so) ∙ parts.1))
      ] in
      wrote ∙ and_from (is_changing entry.call) (not (is_raised entry.reply)) changing (not_from_false (is_raised entry.reply) quiet)

  abbrev took_if : Option ℕ → Option ℕ
  took_if o = option_map_or (λ class. if is_out_of (collected entry.thread ledger) class then None else Some class) o None

  abbrev gave_if : Option ℕ → Option ℕ
  gave_if o = option_map_or (λ class. if is_out_of (collected entry.thread ledger) class then None else class_had stored.tables entry.call) o (given_up stored entry)

  -- what is no write takes nothing and gives nothing up
  pub read_exchanges : entry.wrote ≡ false → (took stored ledger entry ≡ None) × (gave stored ledger entry ≡ None)
  read_exchanges read =
      let nothing : given_up stored entry ≡ None = ap (λ b. if b && not (is_some (class_had (after_stored stored entry.call).tables entry.call)) then class_had stored.tables entry.call else None) read in
      elim (wanted stored entry) as (λ o. wanted stored entry ≡ o → (took_if o ≡ None) × (gave_if o ≡ None)) [
        | None ↦ λ none. (refl, nothing)
        | Some new ↦ λ wants.
            elim (is_out_of (collected entry.thread ledger) new) as (λ b. is_out_of (collected entry.thread ledger) new ≡ b → ((if b then None else Some new) ≡ None) × ((if b then None else class_had stored.tables entry.call) ≡ None)) [
              | true ↦ λ out. (refl, refl)
              | false ↦ λ some. absurd (true≢false (sym (served_writes new wants some) ∙ read))
            ] refl
      ] refl

  module _ (writes_it : entry.wrote ≡ true) where
    quiet : is_raised entry.reply ≡ false
    quiet = not-true (is_raised entry.reply) (and_parts (is_changing entry.call) (not (is_raised entry.reply)) (sym wrote ∙ writes_it)).1

    pub wants_what_it_takes : wanted stored entry ≡ takes_in stored entry.call
    wants_what_it_takes = ap (λ b. if b then None else takes_in stored entry.call) (not_else entry.reply quiet)

    -- a write finds a table of the class that it takes
    pub served : (new : ℕ) → takes_in stored entry.call ≡ Some new → is_out_of (collected entry.thread ledger) new ≡ false
    served new takes =
        elim (cases_Bool (is_out_of (collected entry.thread ledger) new)) [
          | inr some ↦ some
          | inl out ↦
              let lacks : lacks_in stored ledger entry ≡ Some new = ap lacks_if (wants_what_it_takes ∙ takes) ∙ ap (λ b. if b then Some new else None) out in
              absurd (both_ways (is_raised entry.reply) quiet (ap is_raised ((errors new).1 lacks)))
        ]

    -- so the ledger takes what the write takes
    pub write_takes : took stored ledger entry ≡ takes_in stored entry.call
    write_takes =
        elim (takes_in stored entry.call) as (λ o. takes_in stored entry.call ≡ o → took stored ledger entry ≡ o) [
          | None ↦ λ none. ap took_if (wants_what_it_takes ∙ none)
          | Some new ↦ λ takes. ap took_if (wants_what_it_takes ∙ takes) ∙ ap (λ b. if b then None else Some new) (served new takes)
        ] refl

    -- and gives up what the container gives up
    pub write_gives : (class : ℕ) → ChangesWithin stored.tables entry.call
        → having class (after_stored stored entry.call).tables + once class (gave stored ledger entry) ≡ having class stored.tables + once class (took stored ledger entry)
    write_gives class within =
        let had = class_had stored.tables entry.call in
        let has = class_had (after_stored stored entry.call).tables entry.call in
        let leaves = leaves_class stored entry.call within in
        let count = count_changed stored entry.call class within in
        elim (takes_in stored entry.call) as (λ o. takes_in stored entry.call ≡ o → having class (after_stored stored entry.call).tables + once class (gave stored ledger entry) ≡ having class stored.tables + once class (took stored ledger entry)) [
          | Some new ↦ λ takes.
              let gives : gave stored ledger entry ≡ had = ap gave_if (wants_what_it_takes ∙ takes) ∙ ap (λ b. if b then None else had) (served new takes) in
              let gives_once = ap (once class) gives in
              let takes_once = ap (once class) (write_takes ∙ takes) in
              let has_once = ap (once class) (leaves.taken new takes) in
              omega (arith, count, gives_once, takes_once, has_once)
          | None ↦ λ none.
              let gives : gave stored ledger entry ≡ (if not (is_some has) then had else None) = ap gave_if (wants_what_it_takes ∙ none) ∙ ap (λ b. if b && not (is_some has) then had else None) writes_it in
              let takes_once = ap (once class) (write_takes ∙ none) in
              elim has as (λ o. has ≡ o → gave stored ledger entry ≡ (if not (is_some o) then had else None) → having class (after_stored stored entry.call).tables + once class (gave stored ledger entry) ≡ having class stored.tables + once class (took stored ledger entry)) [
                | None ↦ λ gone same.
                    let gives_once = ap (once class) same in
                    let has_once = ap (once class) gone in
                    omega (arith, count, gives_once, takes_once, has_once)
                | Some kept ↦ λ there same.
                    let gives_once = ap (once class) same in
                    elim (leaves.not_taken none) [
                      | inl old ↦ let has_once = ap (once class) old in omega (arith, count, gives_once, takes_once, has_once)
                      | inr gone ↦ absurd (none-some kept (sym gone ∙ there))
                    ]
              ] refl gives
        ] refl

wants_class : (stored : StoredWorld) (entry : Entry) → IsClassOf (wanted stored entry)
wants_class stored entry class is = takes_class stored entry.call class (none_else (raises_else entry.reply) (takes_in stored entry.call) class is).1

-- each MemoryError of a class is the ledger's
pub ledger_reply : (script : ScriptParts) (entries : List Entry) → HasLedgerErrors script entries → EachAt entries (λ place entry. IsLedgerReply (stored_after script (writes (take place entries))) (ledger_after script (take place entries)) entry)
ledger_reply script entries errors place entry at class =
    (λ memory. sym (errors place entry at) ∙ ap lacked_by memory, λ lacks. lacked_is entry.reply class (errors place entry at ∙ lacks))

-- ---- one entry further

-- of what containers have and their tables, and of how many tables of a class were taken
module _ (script : ScriptParts) (entries : List Entry) (place : ℕ) (entry : Entry) (at : slice_get entries place ≡ Some entry) where
  pub stored_next : stored_after script (writes (take (place + 1) entries)) ≡ (if entry.wrote then after_stored (stored_after script (writes (take place entries))) entry.call else stored_after script (writes (take place entries)))
  stored_next =
      let before = writes (take place entries) in
      ap (stored_after script) (writes_next entries place entry at)
      ∙ elim entry.wrote as (λ b. stored_after script (before ++ cond b (entry.call ∷ []) []) ≡ (if b then after_stored (stored_after script before) entry.call else stored_after script before)) [
        | true ↦ fold_push after_stored (start_stored script) before entry.call
        | false ↦ ap (stored_after script) (append-nil before)
      ]

  pub takes_next : (class : ℕ) → takes script class (writes (take (place + 1) entries)) ≡ takes script class (writes (take place entries)) + (if entry.wrote then once class (takes_in (stored_after script (writes (take place entries))) entry.call) else 0)
  takes_next class =
      let before = writes (take place entries) in
      ap (takes script class) (writes_next entries place entry at)
      ∙ elim entry.wrote as (λ b. takes script class (before ++ cond b (entry.call ∷ []) []) ≡ takes script class before + (if b then once class (takes_in (stored_after script before) entry.call) else 0)) [
        | true ↦ takes_push (starts_of script.containers) class before entry.call
        | false ↦ ap (takes script class) (append-nil before) ∙ (let same : takes script class before ≡ takes script class before + 0 = omega arith in same)
      ]

-- ---- over all entries

-- before so many entries
pub record IsEven (script : ScriptParts) (before : List Entry) : Type 0 where
  pub kept : CountsClasses (ledger_after script before)
  pub classes : AreTableClasses (stored_after script (writes before)).tables
  pub sum : (class : ℕ) → IsClass class
      → idle class (ledger_after script before) + having class (stored_after script (writes before)).tables ≡ table_count script.tables class
  pub taken : (class : ℕ) → IsClass class
      → table_count script.tables class ≤ table_count (ledger_after script before).free class + takes script class (writes before)

none_having : (class : ℕ) (starts : List Start) → having class (map start_table starts) ≡ 0
none_having class [] = refl
none_having class (start ∷ starts) =
    let rest = none_having class starts in
    let first = sum_by-cons (λ (table : TableUse). cond (is_class class table.class) 1 0) (start_table start) (map start_table starts) in
    omega (arith, rest, first)

even_at_start : (script : ScriptParts) → IsScript script → IsEven script []
even_at_start script rule =
    record {
      kept = record { counts = rule.classes; classes = All-nil (λ (one : Retired). IsClass one.class) };
      classes = classes_at_start (starts_of script.containers);
      sum = λ class is. (let none = none_having class (starts_of script.containers) in omega (arith, none));
      taken = λ class is. omega arith;
    }

module _ (script : ScriptParts) (entries : List Entry) (rule : IsScript script) (are : AreAnswered script entries) (errors : HasLedgerErrors script entries) where
  within_at : (place : ℕ) (entry : Entry) → slice_get entries place ≡ Some entry → ChangesWithin (stored_after script (writes (take place entries))).tables entry.call
  within_at place entry at =
      let here = call_there script entries are.whole place entry at in
      elim (slice_get_cases script.threads entry.thread).1 [
        | inl found ↦ changes_within script (cursors_of script entry.thread) entry.call (writes (take place entries)) (call_of_thread script rule entry.thread found.0 found.2 (made_before entries place entry.thread) entry.call here).names
        | inr past ↦ absurd (no_calls script entry.thread (made_before entries place entry.thread) entry.call past.0 here)
      ]

  even_next : (place : ℕ) (entry : Entry) → slice_get entries place ≡ Some entry → IsEven script (take place entries) → IsEven script (take (place + 1) entries)
  even_next place entry at so_far =
      let before = take place entries in
      let ledger = ledger_after script before in
      let stored = stored_after script (writes before) in
      let replied = ledger_reply script entries errors place entry at in
      let wrote = (are.answered place entry at).wrote in
      let within = within_at place entry at in
      let next = ledger_next script entries are.whole place entry at in
      let stored_is = stored_next script entries place entry at in
      let step = λ (class : ℕ) (is : IsClass class). step_exchanges class is script stored ledger entry so_far.kept (wants_class stored entry) (had_class stored.tables entry.call so_far.classes) in
      let kept_next = subst CountsClasses (sym next) (step 3 (record { least = omega arith; greatest = omega arith })).kept in
      elim (cases_Bool entry.wrote) [
        | inl written ↦
            let after = after_stored stored entry.call in
            let same : stored_after script (writes (take (place + 1) entries)) ≡ after = stored_is ∙ ap (λ b. if b then after else stored) written in
            record {
              kept = kept_next;
              classes = subst (λ (s : StoredWorld). AreTableClasses s.tables) (sym same) (classes_next stored entry.call within so_far.classes);
              sum = λ class is.
                  (let idle_is = ap (idle class) next in
                  let having_is = ap (λ (s : StoredWorld). having class s.tables) same in
                  let total = (step class is).total in
                  let gives = write_gives stored ledger entry replied wrote written class within in
                  let old = so_far.sum class is in
                  omega (arith, idle_is, having_is, total, gives, old));
              taken = λ class is.
                  (let free_is = ap (λ (l : Ledger). table_count l.free class) next in
                  let takes_is = takes_next script entries place entry at class ∙ ap (λ b. takes script class (writes before) + (if b then once class (takes_in stored entry.call) else 0)) written in
                  let took_is = ap (once class) (write_takes stored ledger entry replied wrote written) in
                  let free = (step class is).free in
                  let old = so_far.taken class is in
                  omega (arith, free_is, takes_is, took_is, free, old));
            }
        | inr read ↦
            let same : stored_after script (writes (take (place + 1) entries)) ≡ stored = stored_is ∙ ap (λ b. if b then after_stored stored entry.call else stored) read in
            let none = read_exchanges stored ledger entry replied wrote read in
            record {
              kept = kept_next;
              classes = subst (λ (s : StoredWorld). AreTableClasses s.tables) (sym same) so_far.classes;
              sum = λ class is.
                  (let idle_is = ap (idle class) next in
                  let having_is = ap (λ (s : StoredWorld). having class s.tables) same in
                  let total = (step class is).total in
                  let took_is = ap (once class) none.0 in
                  let gave_is = ap (once class) none.1 in
                  let old = so_far.sum class is in
                  omega (arith, idle_is, having_is, total, took_is, gave_is, old));
              taken = λ class is.
                  (let free_is = ap (λ (l : Ledger). table_count l.free class) next in
                  let takes_is = takes_next script entries place entry at class ∙ ap (λ b. takes script class (writes before) + (if b then once class (takes_in stored entry.call) else 0)) read in
                  let took_is = ap (once class) none.0 in
                  let free = (step class is).free in
                  let old = so_far.taken class is in
                  omega (arith, free_is, takes_is, took_is, free, old));
            }
      ]

  pub even_before : (place : ℕ) → IsEven script (take place entries)
  even_before place =
      elim (cases_lt place (length entries)) [
        | inl low ↦ by_places (λ n. IsEven script (take n entries)) entries (even_at_start script rule) even_next place (omega arith)
        | inr past ↦
            subst (IsEven script) (take_all (length entries) entries (omega arith) ∙ sym (take_all place entries past))
            (by_places (λ n. IsEven script (take n entries)) entries (even_at_start script rule) even_next (length entries) (omega arith))
      ]

  pub adds_up : (place : ℕ) → AddUp script (take place entries)
  adds_up place class is = let sum = (even_before place).sum class is in omega (arith, sum)
