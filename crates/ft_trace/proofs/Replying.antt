-- That replies may be given to calls that aren't writes.
use Rattle.std.proofs.Common.{◌≡◌, ℕ, false, List, [], ◌∷◌, length, refl, sym, ap, ◌∙◌, subst, inl, true≢false, arith}
use Rattle.ft_model.specs.declared.call.Call.{Call}
use Rattle.ft_model.specs.declared.reply.Reply.{Reply}
use Rattle.ft_model.specs.declared.call.Call.TheVariants as call
use Rattle.ft_model.specs.declared.call.DictCall.{DictCall}
use Rattle.ft_model.specs.declared.call.DictCall.TheVariants as dict
use Rattle.ft_model.specs.declared.call.ListCall.{ListCall}
use Rattle.ft_model.specs.declared.call.ListCall.TheVariants as list
use Rattle.ft_model.specs.declared.call.DequeCall.{DequeCall}
use Rattle.ft_model.specs.declared.call.DequeCall.TheVariants as deque
use Rattle.ft_model.specs.declared.content.Content.{Content}
use Rattle.ft_model.specs.declared.reply.Reply.TheVariants as reply
use Rattle.ft_model.specs.declared.reply.Raise.TheVariants as raise
use Rattle.ft_model.specs.Answers.{is_memory}
use Rattle.ft_model.specs.Boxings.{boxes, is_boxed, stored_in_dict, stored_in_list, stored_in_deque}
use Rattle.ft_model.specs.Calls.{is_changing, can_add, moved_cursor, cursor_of_dict, cursor_of_list, cursor_of_deque}
use Rattle.ft_model.specs.Contents.{DictContent}
use Rattle.ft_model.specs.Histories.{IsReplied}
use Rattle.ft_model.specs.TableUses.{stored_newest}
use Rattle.ft_model.specs.Worlds.{dict_at}
use Rattle.std.specs.Option.{option_map_or}
use Rattle.std.specs.Prelude.{Bool, true, ◌&&◌, None}
use Rattle.ft_trace.specs.declared.Shape.{Shape}
use Rattle.ft_trace.specs.declared.Act.{Act}
use Rattle.ft_trace.specs.declared.Act.TheVariants.{Answer, AnswerCursor, ReadCounter}
use Rattle.ft_trace.specs.Addresses.{counter}
use Rattle.ft_trace.specs.Acts.{view_after}
use Rattle.ft_trace.specs.ContainerStates.{first_writes, reply_in}
use Rattle.ft_trace.specs.Causes.{HeapIsFull, Loaded, HasCause}
use Rattle.ft_trace.specs.Hands.{cursor_in, MovesCursor}
use Rattle.ft_trace.specs.Traces.{Event, did, run, word, history, May}
use Rattle.ft_trace.specs.Replies.{lacks, RepliesMayBeGiven, CursorsMayBeMoved, HeapErrorsMayBeAnswered, MemoryErrorsMayBeAnswered}
use Rattle.ft_trace.proofs.Sizes.{set_at}
use Rattle.ft_trace.proofs.OneWord.{loaded}
use Rattle.ft_trace.proofs.Contents.{counted}
use Rattle.ft_trace.proofs.Stamps.{all_writes}
use Rattle.ft_trace.proofs.Held.{agrees_now}
use Rattle.ft_trace.proofs.CursorAnswers.{adds_no_cursor}

pub replies_may_be_given : RepliesMayBeGiven
replies_may_be_given v call said live p some_call not_write no_cursor right =
    let k = v.shape in
    let es = p.0 in
    let id = p.1 in
    let n = word k es counter in
    let a : Act = ReadCounter n in
    let u = view_after a v in
    let now : List Event = did id v a ∷ es in
    let at = set_at (run k es).views id v u p.2.1 in
    let same : word k now counter ≡ n = loaded k es id v a (λ m. refl) counter in
    let number : n ≡ length (history es) = counted k es p.2.0 in
    let all : first_writes n (history es) ≡ history es = ap (λ (z : ℕ). first_writes z (history es)) number ∙ all_writes (history es) in
    let r = right (history es) n (agrees_now v es id p.2) in
    let replied : IsReplied call said (reply_in (stored_newest k.starts (first_writes n (history es))) call) = subst (λ (z : List Call). IsReplied call said (reply_in (stored_newest k.starts z) call)) (sym all) r.0 in
    let cause : HasCause (stored_newest k.starts (first_writes n (history es))) u call said n = subst (λ (z : List Call). HasCause (stored_newest k.starts z) u call said n) (sym all) r.1 in
    let own : Loaded n u.log = record { newer = []; rest = v.log; is = refl; own = tt } in
    let may : May k (run k now) (history now) u (Answer call said n) = (not_write, omega (arith, same), replied, own, cause, some_call, no_cursor) in
    (n, (did id u (Answer call said n) ∷ now, id, (((p.2.0, (p.2.1, live.0, refl, tt, live.1)), (at, live.0, tt, may, live.1)), set_at (run k now).views id u (view_after (Answer call said n) u) at)))

pub cursors_may_be_moved : CursorsMayBeMoved
cursors_may_be_moved v call said number left live p some_call moved right =
    let k = v.shape in
    let es = p.0 in
    let id = p.1 in
    let n = word k es counter in
    let a : Act = ReadCounter n in
    let u = view_after a v in
    let now : List Event = did id v a ∷ es in
    let at = set_at (run k es).views id v u p.2.1 in
    let same : word k now counter ≡ n = loaded k es id v a (λ m. refl) counter in
    let count_is : n ≡ length (history es) = counted k es p.2.0 in
    let all : first_writes n (history es) ≡ history es = ap (λ (z : ℕ). first_writes z (history es)) count_is ∙ all_writes (history es) in
    let had = cursor_in number v.log in
    let is : MovesCursor (stored_newest k.starts (first_writes n (history es))).world call number had said left = subst (λ (z : List Call). MovesCursor (stored_newest k.starts z).world call number had said left) (sym all) (right (history es) (agrees_now v es id p.2)) in
    let own : Loaded n u.log = record { newer = []; rest = v.log; is = refl; own = tt } in
    let b : Act = AnswerCursor call said n number had left in
    let may : May k (run k now) (history now) u b = (moved, omega (arith, same), is, own, refl, some_call) in
    (n, (did id u b ∷ now, id, (((p.2.0, (p.2.1, live.0, refl, tt, live.1)), (at, live.0, tt, may, live.1)), set_at (run k now).views id u (view_after b u) at)))

-- a call that boxes may raise one, and asks no cursor
boxes_changes : (world : List Content) (called : Call) → boxes world called ≡ true → (said : Reply) → is_memory said ≡ true → (plain : Reply) → IsReplied called said plain
boxes_changes world (call.Dict o c) boxed said memory plain = inl memory
boxes_changes world (call.List o c) boxed said memory plain = inl memory
boxes_changes world (call.Deque o c) boxed said memory plain = inl memory
boxes_changes world called boxed said memory plain = absurd (let e : false ≡ true = boxed in cc)

boxing_dict : (old : DictContent) (c : DictCall) → option_map_or is_boxed (stored_in_dict old c) false ≡ true → cursor_of_dict c ≡ None
boxing_dict old (dict.Set key value) boxed = refl
boxing_dict old (dict.SetDefault key default) boxed = refl
boxing_dict old c boxed = absurd (let e : false ≡ true = boxed in cc)

boxing_list : (c : ListCall) → option_map_or is_boxed (stored_in_list c) false ≡ true → cursor_of_list c ≡ None
boxing_list (list.Append value) boxed = refl
boxing_list (list.Insert index value) boxed = refl
boxing_list (list.Set index value) boxed = refl
boxing_list c boxed = absurd (let e : false ≡ true = boxed in cc)

boxing_deque : (c : DequeCall) → option_map_or is_boxed (stored_in_deque c) false ≡ true → cursor_of_deque c ≡ None
boxing_deque (deque.Append value) boxed = refl
boxing_deque (deque.AppendLeft value) boxed = refl
boxing_deque c boxed = absurd (let e : false ≡ true = boxed in cc)

pub boxing_plain : (world : List Content) (called : Call) → boxes world called ≡ true → moved_cursor called ≡ None
boxing_plain world (call.Dict o c) boxed = boxing_dict (dict_at world o) c boxed
boxing_plain world (call.List o c) boxed = boxing_list c boxed
boxing_plain world (call.Deque o c) boxed = boxing_deque c boxed
boxing_plain world called boxed = absurd (let e : false ≡ true = boxed in cc)

pub boxes_replied : (world : List Content) (called : Call) → boxes world called ≡ true → (plain : Reply) → IsReplied called (reply.Raised raise.Heap) plain
boxes_replied world called boxed plain = boxes_changes world called boxed (reply.Raised raise.Heap) refl plain

pub never_writes : (b : Bool) → (b && false) ≡ false
never_writes true = refl
never_writes false = refl

-- a call that can add may raise a MemoryError
pub memory_replied : (said : Reply) → is_memory said ≡ true → (called : Call) → can_add called ≡ true → (plain : Reply) → IsReplied called said plain
memory_replied said memory (call.Dict o c) adds plain = inl memory
memory_replied said memory (call.List o c) adds plain = inl memory
memory_replied said memory (call.Set o c) adds plain = inl memory
memory_replied said memory (call.Deque o c) adds plain = inl memory
memory_replied said memory (call.Next cursor) adds plain = absurd (true≢false (sym adds))
memory_replied said memory (call.Begin one other) adds plain = absurd (true≢false (sym adds))
memory_replied said memory call.End adds plain = absurd (true≢false (sym adds))
memory_replied said memory call.Quiesce adds plain = absurd (true≢false (sym adds))
memory_replied said memory (call.Await thread index) adds plain = absurd (true≢false (sym adds))
memory_replied said memory call.Dump adds plain = absurd (true≢false (sym adds))

pub memory_errors_may_be_answered : MemoryErrorsMayBeAnswered
memory_errors_may_be_answered v call class newer rest live p some_call is own none right =
    let agreed = agrees_now v p.0 p.1 p.2 in
    let adds = (right (history p.0) agreed).0.adds in
    replies_may_be_given v call (lacks class) live p some_call (never_writes (is_changing call)) (adds_no_cursor call adds)
    (λ calls number agree.
    let r = right calls agree in
    (memory_replied (lacks class) refl call r.0.adds (reply_in (stored_newest v.shape.starts calls) call), (r.0, r.1, r.2, record { newer = []; mid = newer; rest = rest; is = ap (λ (l : List Act). ReadCounter number ∷ l) is; own = (tt, own); none = none })))

-- a load leaves it that a heap was found full
full_on : (k : Shape) (number n : ℕ) (log : List Act) → HeapIsFull k number log → HeapIsFull k number (ReadCounter n ∷ log)
full_on k number n log full = record {
  words = λ w low. let f = full.words w low in record { newer = ReadCounter n ∷ f.newer; rest = f.rest; is = ap (λ (l : List Act). ReadCounter n ∷ l) f.is; own = f.own; kept = f.kept };
  untaken = full.untaken;
}

pub heap_errors_may_be_answered : HeapErrorsMayBeAnswered
heap_errors_may_be_answered v called live p some_call full right =
    let agreed = agrees_now v p.0 p.1 p.2 in
    let boxed = (right (history p.0) agreed).0.boxes in
    replies_may_be_given v called (reply.Raised raise.Heap) live p some_call (never_writes (is_changing called)) (boxing_plain (stored_newest v.shape.starts (history p.0)).world called boxed)
    (λ calls number agree.
    let r = right calls agree in
    (boxes_replied (stored_newest v.shape.starts calls).world called r.0.boxes (reply_in (stored_newest v.shape.starts calls) called), (r.0, r.1, full_on v.shape v.number number v.log full)))
