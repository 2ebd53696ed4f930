-- How many pairs, items or elements a container has, as its words say it.
use Rattle.std.proofs.Common.{◌≡◌, ◌≢◌, ◌⊎◌, ℕ, zero, suc, ◌%◌, ◌<◌, true, false, List, [], ◌∷◌, ◌++◌, length, None, refl, sym, ap, ◌∙◌, subst, inr, arith, append_assoc}
use Rattle.std.specs.Prelude.{slice_index, slice_index_or}
use Rattle.ft_model.specs.Answers.{answer}
use Rattle.ft_model.specs.Contents.{DictContent, SetContent, empty_dict, empty_set}
use Rattle.ft_model.specs.TableUses.{StoredWorld, TableUse}
use Rattle.ft_model.specs.Worlds.{no_hands, dict_of, list_of, set_of, kind_of, length_of, deque_of, start_as}
use Rattle.ft_model.specs.declared.call.Call.{Call}
use Rattle.ft_model.specs.declared.content.Content.{Content}
use Rattle.ft_model.specs.declared.content.Content.TheVariants as content
use Rattle.ft_model.specs.declared.reply.Reply.{Reply}
use Rattle.ft_model.specs.declared.reply.Reply.TheVariants as reply
use Rattle.ft_model.specs.declared.script.Kind.{Kind}
use Rattle.ft_model.specs.declared.script.Kind.TheVariants as kind
use Rattle.ft_model.specs.Answers.{is_write, is_memory}
use Rattle.ft_model.specs.Calls.{can_add, moved_cursor}
use Rattle.ft_model.specs.Histories.{IsReplied}
use Rattle.ft_layout.specs.Containers.{StandsAs}
use Rattle.ft_trace.specs.declared.Act.{Act}
use Rattle.ft_trace.specs.declared.Act.TheVariants.{ReadBlock, ReadCounter, Version}
use Rattle.ft_trace.specs.declared.Shape.{Shape}
use Rattle.ft_trace.specs.declared.View.{View}
use Rattle.ft_trace.specs.Acts.{has_lock, view_after}
use Rattle.ft_trace.specs.Addresses.{container_count}
use Rattle.ft_trace.specs.Causes.{HasCause}
use Rattle.ft_trace.specs.Holds.{known_state}
use Rattle.ft_trace.specs.LoggedReads.{Between, LookedAtOne}
use Rattle.ft_trace.specs.Pictures.{ContainerWords, Represents}
use Rattle.ft_trace.specs.Unboxed.{unboxed}
use Rattle.ft_trace.specs.ContainerStates.{ContainerState, state_at, kind_in, reply_in}
use Rattle.ft_trace.proofs.Known.{mapped}
use Rattle.ft_bank.specs.declared.pass.Pass.{Pass}
use Rattle.ft_bank.specs.Reads.{IsShown}
use Rattle.ft_bank.specs.Series.{DidAll}
use Rattle.ft_bank.specs.Shown.{MayAsk}
use Rattle.ft_bank.specs.Whole.{OnlyLoaded}
use Rattle.ft_bank.specs.WriteSteps.{MayHave}
use Rattle.ft_bank.proofs.ShownReplies.{looks_are_shown}
use Rattle.ft_bank.proofs.KnownAfterWrites.{work_knows}
use Rattle.ft_search.specs.Lengths.{len_of, ShowsCount, StopsAtVersion}
use Rattle.ft_search.proofs.Asking.{held_shown}
use Rattle.ft_search.proofs.Running.{did_trans}
use Rattle.ft_search.proofs.ReadMidst.{LeavesSections}
use Rattle.ft_model.specs.Deques.{DequeContent, empty_deque}
use Rattle.ft_model.specs.declared.script.Start.{Start}

-- ---- the plain containers

dict_there : (world : List Content) (o : ℕ) (dict : DictContent) → slice_index_or world o (content.List []) ≡ content.Dict dict → slice_index_or world o (content.Dict empty_dict) ≡ content.Dict dict
dict_there [] o dict e = absurd (cc)
dict_there (x ∷ world) zero dict e = e
dict_there (x ∷ world) (suc o) dict e = dict_there world o dict e

set_there : (world : List Content) (o : ℕ) (set : SetContent) → slice_index_or world o (content.List []) ≡ content.Set set → slice_index_or world o (content.Set empty_set) ≡ content.Set set
set_there [] o set e = absurd (cc)
set_there (x ∷ world) zero set e = e
set_there (x ∷ world) (suc o) set e = set_there world o set e

deque_there : (world : List Content) (o : ℕ) (deque : DequeContent) → slice_index_or world o (content.List []) ≡ content.Deque deque → slice_index_or world o (content.Deque (empty_deque None)) ≡ content.Deque deque
deque_there [] o deque e = absurd (cc)
deque_there (x ∷ world) zero deque e = e
deque_there (x ∷ world) (suc o) deque e = deque_there world o deque e

-- `len` is the number of pairs, items or elements
len_is : (world : List Content) (o : ℕ) (c : Content) → slice_index_or world o (content.List []) ≡ c → (answer world no_hands (len_of (kind_of c) o)).reply ≡ reply.Count (length_of c)
len_is world o (content.Dict dict) e = ap (λ (z : Content). reply.Count (length (dict_of z).pairs)) (dict_there world o dict e)
len_is world o (content.List items) e = ap (λ (z : Content). reply.Count (length (list_of z))) e
len_is world o (content.Deque deque) e = ap (λ (z : Content). reply.Count (length (deque_of z).items)) (deque_there world o deque e)
len_is world o (content.Set set) e = ap (λ (z : Content). reply.Count (length (set_of z).elements)) (set_there world o set e)

pub len_replied : (kind : Kind) (stored : StoredWorld) (o : ℕ) → kind_of (state_at stored o).content ≡ kind → reply_in stored (len_of kind o) ≡ reply.Count (length_of (state_at stored o).content)
len_replied kind stored o is = ap (λ (z : Kind). reply_in stored (len_of z o)) (sym is) ∙ len_is stored.world o (state_at stored o).content refl

-- the words of a container say it
pub count_is : (texts : List ℕ) (x : ContainerWords) (kept : ContainerState) → Represents texts x kept → slice_index x.block 1 ≡ length_of kept.content
count_is texts x kept stands = by kept.content kept.table stands
  where
    by : (c : Content) (table : TableUse) → StandsAs texts x.block (0 ∷ 0 ∷ x.table) table c → slice_index x.block 1 ≡ length_of c
    by (content.Dict dict) table s = s.head.count_is
    by (content.List items) table s = s.0.head.count_is
    by (content.Set set) table s = s.head.count_is
    by (content.Deque deque) table s = ap (λ (block : List ℕ). slice_index block 1) s.0 ∙ ap (λ (z : DequeContent). length z.items) (sym s.2)

-- ---- the call

-- it asks no more than that
pub record IsPlain (called : Call) (said : Reply) : Type 0 where
  pub reads : is_write called said ≡ false
  pub cursor : moved_cursor called ≡ None
  pub adds : can_add called ≡ false
  pub memory : is_memory said ≡ false
  pub replied : (plain : Reply) → said ≡ plain → IsReplied called said plain
  pub cause : (stored : StoredWorld) (w : View) (n : ℕ) → HasCause stored w called said n

pub len_plain : (kind : Kind) (o count : ℕ) → IsPlain (len_of kind o) (reply.Count count)
len_plain kind.Dict o count = record { reads = refl; cursor = refl; adds = refl; memory = refl; replied = λ plain is. inr is; cause = λ stored log n. refl }
len_plain kind.List o count = record { reads = refl; cursor = refl; adds = refl; memory = refl; replied = λ plain is. inr is; cause = λ stored log n. refl }
len_plain (kind.Deque bound) o count = record { reads = refl; cursor = refl; adds = refl; memory = refl; replied = λ plain is. inr is; cause = λ stored log n. refl }
len_plain kind.Set o count = record { reads = refl; cursor = refl; adds = refl; memory = refl; replied = λ plain is. inr is; cause = λ stored log n. refl }

pub len_sections : (kind : Kind) (o : ℕ) → LeavesSections (len_of kind o)
len_sections kind.Dict o = λ n l sections. refl
len_sections kind.List o = λ n l sections. refl
len_sections (kind.Deque bound) o = λ n l sections. refl
len_sections kind.Set o = λ n l sections. refl

-- ---- without the lock

abbrev pub count_acts : ℕ → ℕ → ℕ → ℕ → ℕ → List Act
count_acts o closed n count opened = Version o closed ∷ (ReadCounter n ∷ (ReadBlock o 1 count ∷ (Version o opened ∷ [])))

pub count_did : (o closed n count opened : ℕ) (p q1 q2 q3 q4 : Pass) → DidAll (Version o opened ∷ []) p q1 → DidAll (ReadBlock o 1 count ∷ []) q1 q2 → DidAll (ReadCounter n ∷ []) q2 q3 → DidAll (Version o closed ∷ []) q3 q4 → DidAll (count_acts o closed n count opened) p q4
count_did o closed n count opened p q1 q2 q3 q4 a b c d =
    did_trans (Version o closed ∷ []) (ReadCounter n ∷ (ReadBlock o 1 count ∷ (Version o opened ∷ []))) p q3 q4
    (did_trans (ReadCounter n ∷ []) (ReadBlock o 1 count ∷ (Version o opened ∷ [])) p q2 q3 (did_trans (ReadBlock o 1 count ∷ []) (Version o opened ∷ []) p q1 q2 a b) c) d

pub count_stops : (o closed n count opened : ℕ) → (opened % 2 ≢ 0) ⊎ (closed ≢ opened) → StopsAtVersion o opened closed (count_acts o closed n count opened)
count_stops o closed n count opened why = record { newer = []; mid = ReadCounter n ∷ (ReadBlock o 1 count ∷ []); rest = []; is = refl; moved = why }

pub count_shows : (o closed n count opened : ℕ) → closed ≡ opened → opened % 2 ≡ 0 → ShowsCount o count n (count_acts o closed n count opened)
count_shows o closed n count opened same even =
    let mid : List Act = ReadCounter n ∷ (ReadBlock o 1 count ∷ []) in
    record {
      mid = mid;
      between = record { version = opened; even = even; newer = []; rest = []; is = λ d. Version o (same d) ∷ (mid ++ Version o opened ∷ []) };
      read = record { newer = ReadCounter n ∷ []; rest = []; is = refl };
      counted = record { newer = []; rest = ReadBlock o 1 count ∷ []; is = refl };
      last = record {
        version = opened;
        even = even;
        newer = [];
        mid = [];
        older = ReadBlock o 1 count ∷ [];
        rest = [];
        is = λ d. Version o (same d) ∷ (mid ++ Version o opened ∷ []);
        none = refl;
        none_between = refl;
      };
    }

-- the loads of a call are those of the log
pub between_own : (o : ℕ) (mid part old log : List Act) → log ≡ part ++ old → Between part o mid → Between log o mid
between_own o mid part old log own b =
    let x = Version o b.version in
    record {
      version = b.version;
      even = b.even;
      newer = b.newer;
      rest = b.rest ++ old;
      is = own ∙ (ap (λ (z : List Act). z ++ old) b.is ∙ (append_assoc b.newer (x ∷ (mid ++ x ∷ b.rest)) old ∙ ap (λ (z : List Act). b.newer ++ x ∷ z) (append_assoc mid (x ∷ b.rest) old)));
    }

pub len_shown : (v w : View) (called : Call) (o count n : ℕ) (part : List Act) → MayAsk w o n → w.log ≡ part ++ v.log → called ≡ len_of (kind_in w.shape.starts o) o → ShowsCount o count n part → IsShown w called (reply.Count count) n
len_shown v w called o count n part ask own is s =
    let k = w.shape in
    let kind = kind_in k.starts o in
    let plain = len_plain kind o count in
    let looked : LookedAtOne k (len_of kind o) o (reply.Count count) n w.log = record {
      mid = s.mid;
      between = between_own o s.mid part v.log w.log own s.between;
      stamp = s.counted;
      answers = λ x box stored is_kind stands agrees boxes. len_replied kind stored o is_kind ∙ ap reply.Count (sym (agrees.block 1 count (omega arith) s.read ∙ count_is k.texts (unboxed box kind x) (state_at stored o) stands));
    } in
    subst (λ (z : Call). IsShown w z (reply.Count count) n) (sym is) (looks_are_shown w (len_of kind o) o (reply.Count count) n ask plain.reads plain.cursor plain.cause (plain.replied (reply.Count count) refl) looked)

-- ---- under the lock

-- the kind of what is stored
pub kind_had : (v : View) (stored : StoredWorld) (o : ℕ) → MayHave v stored → kind_of (state_at stored o).content ≡ kind_in v.shape.starts o
kind_had v stored o may = sym (mapped kind_of stored.world o (content.List [])) ∙ (ap (λ (l : List Kind). slice_index_or l o kind.List) may.kinds ∙ mapped (λ (start : Start). start.kind) v.shape.starts o (start_as kind.List))

pub len_held : (v u : View) (called : Call) (o count n : ℕ) → OnlyLoaded v u → 0 < v.left → o < container_count v.shape → has_lock o v.log ≡ true → called ≡ len_of (kind_in v.shape.starts o) o → count ≡ length_of (known_state o v).content → IsShown (view_after (ReadCounter n) u) called (reply.Count count) n
len_held v u called o count n loaded left low mine is counts =
    let kind = kind_in v.shape.starts o in
    let w = view_after (ReadCounter n) u in
    let plain = len_plain kind o count in
    let right : (stored : StoredWorld) → MayHave w stored → IsReplied (len_of kind o) (reply.Count count) (reply_in stored (len_of kind o)) = λ stored may.
    let kinds : kind_of (state_at stored o).content ≡ kind = kind_had w stored o may ∙ ap (λ (k : Shape). kind_in k.starts o) loaded.work.pass.shape in
    let kept : state_at stored o ≡ known_state o v = may.agrees o (subst (λ (k : Shape). o < container_count k) (sym loaded.work.pass.shape) low) (loaded.work.pass.locks o ∙ mine) ∙ work_knows v u o loaded.work in
    plain.replied (reply_in stored (len_of kind o)) (ap reply.Count (counts ∙ ap (λ (z : ContainerState). length_of z.content) (sym kept)) ∙ sym (len_replied kind stored o kinds)) in
    subst (λ (z : Call). IsShown w z (reply.Count count) n) (sym is)
    (held_shown v u n loaded left (len_of kind o) (reply.Count count) plain.reads plain.cursor right (λ stored. plain.cause stored (view_after (ReadCounter n) u) n))
