-- Worked scripts, and the entries that their turns come to. (profile)
use Rattle.std.specs.Prelude.{ℕ, true, false, ◌-◌, List, [], ◌∷◌, ◌++◌, map, drop, None, pos}
use Rattle.std.specs.List.{range_with_len}
use Rattle.ft_model.specs.declared.call.Call.{Call}
use Rattle.ft_model.specs.declared.call.Call.TheVariants as call
use Rattle.ft_model.specs.declared.call.DictCall.TheVariants as dict
use Rattle.ft_model.specs.declared.data.Key.TheVariants as key
use Rattle.ft_model.specs.declared.data.Value.TheVariants as value
use Rattle.ft_model.specs.declared.entry.Entry.{Entry}
use Rattle.ft_model.specs.declared.reply.Raise.TheVariants as raise
use Rattle.ft_model.specs.declared.reply.Reply.TheVariants as reply
use Rattle.ft_model.specs.declared.script.Declaration.{Declaration}
use Rattle.ft_model.specs.declared.script.Kind.TheVariants as kind
use Rattle.ft_model.specs.declared.script.ScriptParts.{ScriptParts}
use Rattle.ft_model.specs.declared.script.Thread.{Thread}
use Rattle.ft_model.specs.Limits.{heap_step}
use Rattle.ft_model.specs.Scripts.{default_tables}
use Rattle.ft_model.specs.Worlds.{start_as}

-- ---- parts of scripts

-- `dict N`, whose name is one letter
abbrev pub dict_named : ℕ → Declaration
dict_named letter = record { start = start_as kind.Dict; name = letter ∷ [] }

-- `thread N` with these calls
abbrev pub thread_named : ℕ → List Call → Thread
thread_named letter calls = record { name = letter ∷ []; cursors = []; calls = calls }

-- a script of these dicts, threads, tables and turns
abbrev pub script_of : List Declaration → List Thread → List ℕ → List ℕ → ScriptParts
script_of dicts threads tables order =
    record {
      containers = dicts;
      shared = [];
      threads = threads;
      strings = [];
      tables = tables;
      heap = heap_step;
      order = order;
    }

-- `set N K 0`, of the dict at a place
abbrev pub set_zero : ℕ → ℕ → Call
set_zero place k = call.Dict place (dict.Set (key.Int (pos k)) (value.Int (pos 0)))

-- `set d K 0` for K from 1 to 6
abbrev pub six_keys : List Call
six_keys = map (set_zero 0) (range_with_len 1 6)

-- ---- the sixth key

-- `dict d`, `thread A` that sets six keys, `thread B` with `quiesce`, and the turns of A first
abbrev pub sixth_key : ScriptParts
sixth_key =
    script_of (dict_named 100 ∷ []) (thread_named 65 six_keys ∷ thread_named 66 (call.Quiesce ∷ []) ∷ []) default_tables
    (0 ∷ 0 ∷ 0 ∷ 0 ∷ 0 ∷ 0 ∷ [])

-- ---- tables that are used again

-- with one table of class 3, `dict d` and `dict e`: A sets six keys of d and one of e, comes to a quiescent point and
-- sets another key of e; B comes to a quiescent point before A does
abbrev pub used_again : ScriptParts
used_again =
    script_of (dict_named 100 ∷ dict_named 101 ∷ [])
    (thread_named 65 (six_keys ++ set_zero 1 1 ∷ call.Quiesce ∷ set_zero 1 2 ∷ [])
    ∷ thread_named 66 (call.Quiesce ∷ [])
    ∷ []) (1 ∷ drop 1 default_tables) (0 ∷ 0 ∷ 0 ∷ 0 ∷ 0 ∷ 0 ∷ 0 ∷ 1 ∷ 0 ∷ 0 ∷ [])

-- an entry of A that sets a key of d
abbrev pub key_set : ℕ → Entry
key_set k =
    record {
      thread = 0;
      index = k;
      stamp = k - 1;
      wrote = true;
      call = set_zero 0 k;
      reply = reply.Done;
      waited = None;
    }

-- an entry of a quiescent point, after six writes
abbrev pub quiesced_by : ℕ → ℕ → Entry
quiesced_by thread index =
    record {
      thread = thread;
      index = index;
      stamp = 6;
      wrote = false;
      call = call.Quiesce;
      reply = reply.Done;
      waited = None;
    }

-- the first key of e finds no table of class 3, and the second one does
abbrev pub used_again_entries : List Entry
used_again_entries =
    map key_set (range_with_len 1 6)
    ++ record {
      thread = 0;
      index = 7;
      stamp = 6;
      wrote = false;
      call = set_zero 1 1;
      reply = reply.Raised (raise.Memory 3);
      waited = None;
    }
    ∷ quiesced_by 1 1
    ∷ quiesced_by 0 8
    ∷ record {
      thread = 0;
      index = 9;
      stamp = 6;
      wrote = true;
      call = set_zero 1 2;
      reply = reply.Done;
      waited = None;
    }
    ∷ []
