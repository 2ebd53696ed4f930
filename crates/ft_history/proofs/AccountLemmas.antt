-- What is kept of tables, one write further.
use Rattle.std.proofs.Common.{◌≡◌, ℕ, zero, suc, ◌+◌, ◌-◌, ◌<◌, true, false, List, [], ◌∷◌, ◌++◌, map, length, get_or, None, refl, sym, ap, subst, ◌∙◌, arith, cond, inl, inr, replicate}
use Rattle.std.specs.Prelude.{All, ◌^◌}
use Rattle.std.specs.Option.{option_map_or}
use Rattle.std.proofs.lemmas.Bool.{and_parts, false≢true}
use Rattle.std.proofs.lemmas.List.Elements.{All-head, All-tail}
use Rattle.std.proofs.lemmas.List.{get_or-replicate, get_or_default}
use Rattle.std.proofs.lemmas.List.Sums.{fold_push}
use Rattle.ft_model.specs.declared.call.Call.{Call}
use Rattle.ft_model.specs.declared.call.Call.TheVariants as call
use Rattle.ft_model.specs.declared.call.DictCall.{DictCall}
use Rattle.ft_model.specs.declared.call.DictCall.TheVariants as dict
use Rattle.ft_model.specs.declared.call.ListCall.{ListCall}
use Rattle.ft_model.specs.declared.call.ListCall.TheVariants as list
use Rattle.ft_model.specs.declared.call.SetCall.{SetCall}
use Rattle.ft_model.specs.declared.call.SetCall.TheVariants as set_call
use Rattle.ft_model.specs.declared.call.DequeCall.{DequeCall}
use Rattle.ft_model.specs.declared.call.DequeCall.TheVariants as deque
use Rattle.ft_model.specs.declared.content.Content.{Content}
use Rattle.ft_model.specs.declared.entry.Entry.{Entry}
use Rattle.ft_model.specs.declared.entry.Storage.{Storage}
use Rattle.ft_model.specs.declared.entry.Storage.TheVariants as storage
use Rattle.ft_model.specs.declared.reply.Reply.{Reply}
use Rattle.ft_model.specs.declared.reply.Reply.TheVariants as reply
use Rattle.ft_model.specs.declared.reply.Raise.TheVariants as raise
use Rattle.ft_model.specs.declared.script.Declaration.{Declaration}
use Rattle.ft_model.specs.declared.script.ScriptParts.{ScriptParts}
use Rattle.ft_model.specs.Calls.{cursor_of_dict, cursor_of_list, cursor_of_set, cursor_of_deque, dict_change, list_change, set_change, deque_change, adds, can_add}
use Rattle.ft_model.specs.Classes.{least_class, class_count}
use Rattle.ft_model.proofs.StoredLaws.{takes_push}
use Rattle.ft_model.proofs.Takings.{takes_class_few}
use Rattle.ft_model.proofs.SplitDicts.{unsplit_takes, unsplit_leaves}
use Rattle.ft_model.specs.declared.script.Start.{Start}
use Rattle.ft_model.specs.declared.table.KeptTable.{KeptTable}
use Rattle.ft_model.specs.Scripts.{cursor_of}
use Rattle.ft_model.specs.Worlds.{starts_of, start_in, dict_at}
use Rattle.ft_model.specs.Answers.{after_write, is_memory}
use Rattle.ft_model.specs.Boxings.{boxes, is_boxed, stored_in_dict, stored_in_list, stored_in_deque}
use Rattle.ft_model.specs.Contents.{DictContent}
use Rattle.ft_model.specs.TableUses.{TableUse, no_table, start_table, table_at, StoredWorld, takes_class, leaves_tables, after_stored, stored_by, stored_after, takings, is_class, is_split, takes_out, can_leave_split, takes, Supply, supply_of, IsEarned, IsEarnedReply, table_count, empty_stored}
use Rattle.ft_history.specs.declared.account.TableAccount.{TableAccount}
use Rattle.ft_history.specs.Internal.Accounts.{tables_of, IsAccount, CountsTaking, CountsCall, plain_takes, plain_leaves, CountsDict}

-- what the containers of a script are stored as at the start
abbrev pub start_stored : ScriptParts → StoredWorld
start_stored script = empty_stored (starts_of script.containers)

-- ---- one write further

module _ (script : ScriptParts) (calls : List Call) (called : Call) (old new : List Content) (before after : TableAccount) (old_is : old ≡ (stored_after script calls).world) (new_is : new ≡ after_write old called) (kept : IsAccount script calls before) (goes : CountsCall old new called before after) where
  stored : StoredWorld
  stored = stored_after script calls

  -- what depends on the two worlds and the tables is the same for what is stored
  same_for_stored : {X : Type 0} (f : List Content → List Content → List TableUse → X) → f old new (tables_of before.tables.items) ≡ f stored.world (after_write stored.world called) stored.tables
  unfolding stored
  same_for_stored f = ap (f old new) kept.tables ∙ ap (λ (w : List Content). f old w (stored_after script calls).tables) new_is ∙ ap (λ (w : List Content). f w (after_write w called) (stored_after script calls).tables) old_is

  pub account_next : IsAccount script (calls ++ called ∷ []) after
  unfolding stored
  account_next =
      record {
        tables = goes.tables ∙ same_for_stored (λ o n ts. leaves_tables o n ts called (takes_class o n ts called)) ∙ ap (λ (s : StoredWorld). s.tables) (sym (fold_push after_stored (start_stored script) calls called));
        classes = goes.takings.classes ∙ kept.classes;
        takings = λ class is.
            goes.takings.takings class is
            ∙ ap (λ n. n + cond (is_class class (takes_class old new (tables_of before.tables.items) called)) 1 0) (kept.takings class is)
            ∙ ap (λ n. takes script class calls + n) (same_for_stored (λ o n ts. cond (is_class class (takes_class o n ts called)) 1 0))
            ∙ sym (takes_push (starts_of script.containers) class calls called);
      }

-- no class is taken more often than there are writes
pub few_takings : (script : ScriptParts) (calls : List Call) (account : TableAccount) → IsAccount script calls account → length calls < 2 ^ 63 → All (λ taken. taken < 2 ^ 63) account.takings.items
few_takings script calls account is few k d low =
    let items = account.takings.items in
    let within : k < 14 = omega (arith, is.classes) in
    let same : k ≡ (k + 3) - 3 = omega arith in
    let counted : get_or items k 0 ≡ takes script (k + 3) calls = ap (λ n. get_or items n 0) same ∙ is.takings (k + 3) (record { least = omega arith; greatest = omega arith }) in
    omega (arith, get_or_default items k d 0 low, counted, takes_class_few (starts_of script.containers) (k + 3) calls, few)

-- ---- a call that can add makes no cursor

adding_dict : (called : DictCall) → adds (dict_change called) ≡ true → cursor_of_dict called ≡ None
adding_dict (dict.Iter cursor) can = absurd (false≢true can)
adding_dict (dict.Reversed cursor) can = absurd (false≢true can)
adding_dict _ can = refl

adding_list : (called : ListCall) → adds (list_change called) ≡ true → cursor_of_list called ≡ None
adding_list (list.Iter cursor) can = absurd (false≢true can)
adding_list (list.Reversed cursor) can = absurd (false≢true can)
adding_list _ can = refl

adding_set : (called : SetCall) → adds (set_change called) ≡ true → cursor_of_set called ≡ None
adding_set (set_call.Iter cursor) can = absurd (false≢true can)
adding_set _ can = refl

adding_deque : (called : DequeCall) → adds (deque_change called) ≡ true → cursor_of_deque called ≡ None
adding_deque (deque.Iter cursor) can = absurd (false≢true can)
adding_deque _ can = refl

adding : (called : Call) → can_add called ≡ true → cursor_of called ≡ None
adding (call.Dict place dict_call) can = adding_dict dict_call can
adding (call.List place list_call) can = adding_list list_call can
adding (call.Set place set_call) can = adding_set set_call can
adding (call.Deque place deque_call) can = adding_deque deque_call can
adding _ can = refl

taking_dict : (called : DictCall) → takes_out called ≡ true → cursor_of_dict called ≡ None
taking_dict (dict.Iter cursor) can = absurd (false≢true can)
taking_dict (dict.Reversed cursor) can = absurd (false≢true can)
taking_dict _ can = refl

leaving : (starts : List Start) (called : Call) → can_leave_split starts called ≡ true → cursor_of called ≡ None
leaving starts (call.Dict place dict_call) can = taking_dict dict_call (and_parts (takes_out dict_call) (is_split (start_in starts place).keys) can).0
leaving starts _ can = absurd (false≢true can)

-- nor does one that puts a value in a box
boxing_dict : (old : DictContent) (called : DictCall) → option_map_or is_boxed (stored_in_dict old called) false ≡ true → cursor_of_dict called ≡ None
boxing_dict old (dict.Iter cursor) boxed = absurd (false≢true boxed)
boxing_dict old (dict.Reversed cursor) boxed = absurd (false≢true boxed)
boxing_dict old _ boxed = refl

boxing_list : (called : ListCall) → option_map_or is_boxed (stored_in_list called) false ≡ true → cursor_of_list called ≡ None
boxing_list (list.Iter cursor) boxed = absurd (false≢true boxed)
boxing_list (list.Reversed cursor) boxed = absurd (false≢true boxed)
boxing_list _ boxed = refl

boxing_deque : (called : DequeCall) → option_map_or is_boxed (stored_in_deque called) false ≡ true → cursor_of_deque called ≡ None
boxing_deque (deque.Iter cursor) boxed = absurd (false≢true boxed)
boxing_deque _ boxed = refl

boxing : (world : List Content) (called : Call) → boxes world called ≡ true → cursor_of called ≡ None
boxing world (call.Dict place dict_call) boxed = boxing_dict (dict_at world place) dict_call boxed
boxing world (call.List place list_call) boxed = boxing_list list_call boxed
boxing world (call.Set place set_call) boxed = absurd (false≢true boxed)
boxing world (call.Deque place deque_call) boxed = boxing_deque deque_call boxed
boxing world _ boxed = refl

earned_makes_none : (starts : List Start) (supply : Supply) (calls : List Call) (mine : List Entry) (called : Call) (said : Reply) → IsEarnedReply starts supply calls mine called said → is_memory said ≡ true → cursor_of called ≡ None
earned_makes_none starts supply calls mine called (reply.Raised (raise.Memory class)) (inl lacks, passes, class_earned) memory = adding called lacks.adds
earned_makes_none starts supply calls mine called (reply.Raised (raise.Memory class)) (inr leaves, passes, class_earned) memory = leaving starts called leaves.leaves
earned_makes_none starts supply calls mine called (reply.Raised raise.Over) earned memory = adding called earned.0.adds
earned_makes_none starts supply calls mine called (reply.Raised raise.Heap) earned memory = boxing (stored_by starts calls).world called earned.boxes
earned_makes_none starts supply calls mine called _ earned memory = absurd (false≢true memory)

-- a call that raises a MemoryError makes no cursor
pub earned_no_cursor : (s : Storage) (script : ScriptParts) (calls : List Call) (mine : List Entry) (entry : Entry) → IsEarned s script calls mine entry → is_memory entry.reply ≡ true → cursor_of entry.call ≡ None
earned_no_cursor storage.Plain script calls mine entry earned memory = absurd (false≢true (sym earned ∙ memory))
earned_no_cursor storage.Tables script calls mine entry earned memory =
    earned_makes_none (starts_of script.containers) (supply_of script) calls mine entry.call entry.reply earned memory

-- ---- a dict that is not split

unsplit_at : (kept : List KeptTable) (place : ℕ) → (table_at (tables_of kept) place).keys ≡ []
unsplit_at [] place = refl
unsplit_at (first ∷ kept) zero = refl
unsplit_at (first ∷ kept) (suc place) = unsplit_at kept place

-- what is kept of a call of a dict that is not split is what is kept of any
pub counts_of_dict : (old new : List Content) (place : ℕ) (called : DictCall) (before after : TableAccount) → CountsDict old new place called before after → CountsCall old new (call.Dict place called) before after
counts_of_dict old new place called before after counts =
    let tables = tables_of before.tables.items in
    let none : (table_at tables place).keys ≡ [] = unsplit_at before.tables.items place in
    let grown = plain_takes (table_at tables place) called (dict_at old place) (dict_at new place) in
    let takes : takes_class old new tables (call.Dict place called) ≡ grown = unsplit_takes (table_at tables place) called (dict_at old place) (dict_at new place) none in
    let left = plain_leaves tables place called (dict_at old place) (dict_at new place) grown in
    let leaves : leaves_tables old new tables (call.Dict place called) (takes_class old new tables (call.Dict place called)) ≡ left =
    ap (leaves_tables old new tables (call.Dict place called)) takes
    ∙ unsplit_leaves tables place called (dict_at old place) (dict_at new place) grown none in
    record {
      tables = counts.tables ∙ sym leaves;
      takings = subst (λ taking. CountsTaking taking before.takings.items after.takings.items) (sym takes) counts.takings;
    }

-- ---- at the start

pub tables_at_start : (containers : List Declaration) → All (λ (container : Declaration). container.start.keys ≡ []) containers → replicate (length containers) no_table ≡ map start_table (starts_of containers)
tables_at_start [] unsplit = refl
tables_at_start (container ∷ containers) unsplit =
    let none : container.start.keys ≡ [] = All-head (λ (c : Declaration). c.start.keys ≡ []) container containers unsplit in
    λ i. (let table : TableUse = record { class = None; fill = 0; keys = sym none i } in table) ∷ tables_at_start containers (All-tail (λ (c : Declaration). c.start.keys ≡ []) container containers unsplit) i

pub account_at_start : (script : ScriptParts) (account : TableAccount) → All (λ (container : Declaration). container.start.keys ≡ []) script.containers → tables_of account.tables.items ≡ replicate (length script.containers) no_table → account.takings.items ≡ replicate class_count 0 → IsAccount script [] account
account_at_start script account unsplit tables takings =
    record {
      tables = tables ∙ tables_at_start script.containers unsplit;
      classes = ap (λ (counts : List ℕ). length counts) takings;
      takings = λ class is. ap (λ (counts : List ℕ). table_count counts class) takings ∙ get_or-replicate class_count (class - least_class) 0 0 (let low = is.least in let high = is.greatest in omega arith);
    }
