-- That the plain containers answer `iter` and `next` so, in whatever the bank may have that agrees with what a pass knows.
use Rattle.std.proofs.Common.{◌≡◌, ℕ, ◌<◌, true, List, [], length, Option, Some, None, refl, sym, ap, ◌∙◌, subst, true≢false}
use Rattle.std.specs.Prelude.{Bool, false, ◌==◌, slice_get, slice_index_or, if◌then◌else◌}
use Rattle.std.specs.Option.{option_map_or}
use Rattle.ft_trace.proofs.Known.{at_any}
use Rattle.ft_model.specs.declared.content.Content.{Content}
use Rattle.ft_model.specs.declared.content.Content.TheVariants as content
use Rattle.ft_model.specs.declared.content.DictPair.{DictPair}
use Rattle.ft_model.specs.declared.content.Element.{Element}
use Rattle.ft_model.specs.declared.data.Value.{Value}
use Rattle.ft_model.specs.declared.cursor.Cursor.{Cursor}
use Rattle.ft_model.specs.declared.cursor.Cursor.TheVariants as cursor
use Rattle.ft_model.specs.declared.cursor.CursorState.TheVariants as walk
use Rattle.ft_model.specs.declared.call.Call.TheVariants as call
use Rattle.ft_model.specs.declared.reply.Reply.TheVariants as reply
use Rattle.ft_model.specs.declared.script.Kind.{Kind}
use Rattle.ft_model.specs.declared.script.Kind.TheVariants as kind
use Rattle.ft_model.specs.Answers.{moves, shows, cursor_step}
use Rattle.ft_model.specs.Calls.{moved_cursor}
use Rattle.ft_model.specs.Contents.{empty_dict, empty_set}
use Rattle.ft_model.specs.Cursors.{CursorStep, dict_next, dict_walk, next_pair, list_next, list_walk, set_next, set_walk, next_element, deque_next, dict_back_next, list_back_next}
use Rattle.ft_model.specs.TableUses.{StoredWorld}
use Rattle.ft_model.specs.Worlds.{container_of, cursor_kind, dict_of, list_of, set_of, kind_of, length_of, deque_of}
use Rattle.ft_trace.specs.Acts.{has_lock}
use Rattle.ft_trace.specs.Addresses.{container_count}
use Rattle.ft_trace.specs.Hands.{MovesCursor}
use Rattle.ft_trace.specs.Holds.{known_state}
use Rattle.ft_trace.specs.ContainerStates.{ContainerState}
use Rattle.ft_trace.specs.declared.View.{View}
use Rattle.ft_bank.specs.WriteSteps.{MayHave}
use Rattle.ft_iter.specs.CursorCalls.{step_in, iter_call, iter_cursor, IsOver, is_landed_cursor}
use Rattle.ft_model.specs.Deques.{empty_deque}
use Rattle.ft_trace.specs.Kinds.{HasVersions}

-- what stands at the container's place is this, whatever stands for a place that isn't there
abbrev pub Holds : List Content → ℕ → Content → Type 0
Holds world o c = (d : Content) → slice_index_or world o d ≡ c

pub holds-known : (v : View) (o : ℕ) (stored : StoredWorld) → MayHave v stored → o < container_count v.shape → has_lock o v.log ≡ true → Holds stored.world o (known_state o v).content
holds-known v o stored may low mine d =
    at_any stored.world o d (content.List []) (subst (λ (n : ℕ). o < n) (sym may.containers) low) ∙ ap (λ (z : ContainerState). z.content) (may.agrees o low mine)

step-known : (world : List Content) (c : Content) (walker : Cursor) → Holds world (container_of walker) c → cursor_step world walker ≡ step_in c walker
step-known world c (cursor.Dict o walk size expected last) holds = ap (λ (z : Content). dict_next (dict_of z).pairs o walk size expected last) (holds (content.Dict empty_dict))
step-known world c (cursor.List o index ended) holds = ap (λ (z : Content). list_next (list_of z) o index ended) (holds (content.List []))
step-known world c (cursor.Set o walk size last) holds = ap (λ (z : Content). set_next (set_of z).elements o walk size last) (holds (content.Set empty_set))
step-known world c (cursor.Deque o moves index) holds = ap (λ (z : Content). deque_next (deque_of z) o moves index) (holds (content.Deque (empty_deque None)))
step-known world c (cursor.DictBack o walk size last) holds = ap (λ (z : Content). dict_back_next (dict_of z).pairs o walk size last) (holds (content.Dict empty_dict))
step-known world c (cursor.ListBack o index) holds = ap (λ (z : Content). list_back_next (list_of z) o index) (holds (content.List []))

-- `next` of a cursor that the thread has
pub next-moves : (world : List Content) (c : Content) (walker : Cursor) (number : ℕ) (had : Option Cursor) → Holds world (container_of walker) c → had ≡ Some walker
    → MovesCursor world (call.Next number) number had (step_in c walker).reply (step_in c walker).cursor
next-moves world c walker number had holds had_is hands is =
    ap (λ (z : Option Cursor). option_map_or (λ (y : Cursor). moves world hands number (cursor_step world y).cursor (cursor_step world y).reply) z (shows world hands reply.Stop)) (is ∙ had_is)
    ∙ ap (λ (s : CursorStep). moves world hands number s.cursor s.reply) (step-known world c walker holds)

-- ---- iter

dict-length : (c : Content) → kind_of c ≡ kind.Dict → length (dict_of c).pairs ≡ length_of c
dict-length (content.Dict dict) is = refl
dict-length (content.List items) is = absurd (cc)
dict-length (content.Deque deque) is = absurd (cc)
dict-length (content.Set set) is = absurd (cc)

set-length : (c : Content) → kind_of c ≡ kind.Set → length (set_of c).elements ≡ length_of c
set-length (content.Dict dict) is = absurd (cc)
set-length (content.List items) is = absurd (cc)
set-length (content.Deque deque) is = absurd (cc)
set-length (content.Set set) is = refl

pub iter-moves : (world : List Content) (c : Content) (k : Kind) (o count number : ℕ) (had : Option Cursor) → HasVersions k → Holds world o c → kind_of c ≡ k → count ≡ length_of c → MovesCursor world (iter_call k o number) number had reply.Done (iter_cursor k o count)
iter-moves world c kind.Dict o count number had versions holds is counts hands same =
    ap (λ (n : ℕ). moves world hands number (cursor.Dict o walk.Live n n None) reply.Done) (ap (λ (z : Content). length (dict_of z).pairs) (holds (content.Dict empty_dict)) ∙ (dict-length c is ∙ sym counts))
iter-moves world c kind.List o count number had versions holds is counts hands same = refl
iter-moves world c (kind.Deque bound) o count number had versions holds is counts hands same = absurd versions
iter-moves world c kind.Set o count number had versions holds is counts hands same =
    ap (λ (n : ℕ). moves world hands number (cursor.Set o walk.Live n None) reply.Done) (ap (λ (z : Content). length (set_of z).elements) (holds (content.Set empty_set)) ∙ (set-length c is ∙ sym counts))

-- which cursor they make
pub iter-asks : (k : Kind) (o number : ℕ) → moved_cursor (iter_call k o number) ≡ Some number
iter-asks kind.Dict o number = refl
iter-asks kind.List o number = refl
iter-asks (kind.Deque bound) o number = refl
iter-asks kind.Set o number = refl

-- ---- the container and its kind stay

pub starts-over : (k : Kind) (o size : ℕ) → HasVersions k → IsOver k o (iter_cursor k o size)
starts-over kind.Dict o size versions = (refl, refl, refl)
starts-over kind.List o size versions = (refl, refl, refl)
starts-over (kind.Deque bound) o size versions = absurd versions
starts-over kind.Set o size versions = (refl, refl, refl)

over-either : (k : Kind) (o : ℕ) (b : Bool) (one other : CursorStep) → IsOver k o one.cursor → IsOver k o other.cursor → IsOver k o (if b then one else other).cursor
over-either k o true one other first second = first
over-either k o false one other first second = second

dict-over : (found : Option DictPair) (o size expected : ℕ) (last : Option ℕ) → IsOver kind.Dict o (dict_walk found o size expected last).cursor
dict-over None o size expected last = (refl, refl, refl)
dict-over (Some pair) o size expected last = over-either kind.Dict o (expected == 0) _ _ (refl, refl, refl) (refl, refl, refl)

set-over : (found : Option Element) (o size : ℕ) (last : Option ℕ) → IsOver kind.Set o (set_walk found o size last).cursor
set-over None o size last = (refl, refl, refl)
set-over (Some element) o size last = (refl, refl, refl)

list-over : (found : Option Value) (o index : ℕ) → IsOver kind.List o (list_walk found o index).cursor
list-over None o index = (refl, refl, refl)
list-over (Some value) o index = (refl, refl, refl)

pub step-over : (c : Content) (walker : Cursor) → is_landed_cursor walker ≡ true → IsOver (cursor_kind walker) (container_of walker) (step_in c walker).cursor
step-over c (cursor.Dict o walk.Ended size expected last) landed = (refl, refl, refl)
step-over c (cursor.Dict o walk.Reported size expected last) landed = (refl, refl, refl)
step-over c (cursor.Dict o walk.Live size expected last) landed = over-either kind.Dict o (length (dict_of c).pairs == size) _ _ (dict-over (next_pair (dict_of c).pairs last) o size expected last) (refl, refl, refl)
step-over c (cursor.List o index true) landed = (refl, refl, refl)
step-over c (cursor.List o index false) landed = list-over (slice_get (list_of c) index) o index
step-over c (cursor.Set o walk.Ended size last) landed = (refl, refl, refl)
step-over c (cursor.Set o walk.Reported size last) landed = (refl, refl, refl)
step-over c (cursor.Set o walk.Live size last) landed = over-either kind.Set o (length (set_of c).elements == size) _ _ (set-over (next_element (set_of c).elements last) o size last) (refl, refl, refl)
step-over c (cursor.Deque o moves index) landed = absurd (true≢false (sym landed))
step-over c (cursor.DictBack o walk size last) landed = absurd (true≢false (sym landed))
step-over c (cursor.ListBack o index) landed = absurd (true≢false (sym landed))
