-- In a legal history on tables the tables are in order at each place.
use Rattle.std.proofs.Common.{◌≡◌, ℕ, suc, zero, ◌<◌, Bool, true, false, not, List, [], ◌∷◌, ◌++◌, length, map, take, Option, Some, None, refl, sym, ap, subst, ◌∙◌, arith, inl, inr}
use Rattle.std.specs.Prelude.{◌==◌, ◌⊎◌, if◌then◌else◌, All, IfSome, filter, option_map, slice_get}
use Rattle.std.specs.Option.{option_map_or}
use Rattle.std.proofs.lemmas.Bool.{eq-eqb, false≢true, not-true, and_parts}
use Rattle.std.proofs.Math.ListN.{get_or-map}
use Rattle.std.proofs.lemmas.List.{length-map, map-append, append-nil}
use Rattle.std.proofs.lemmas.List.Elements.{filter-append, All-nil}
use Rattle.std.proofs.lemmas.List.Sums.{fold_push}
use Rattle.std.proofs.lemmas.Option.{slice_get-map}
use Rattle.ft_model.specs.declared.call.Call.{Call}
use Rattle.ft_model.specs.declared.call.Call.TheVariants as call
use Rattle.ft_model.specs.declared.entry.Entry.{Entry}
use Rattle.ft_model.specs.declared.entry.Storage.TheVariants as storage
use Rattle.ft_model.specs.declared.reply.Reply.{Reply}
use Rattle.ft_model.specs.declared.reply.Reply.TheVariants as reply
use Rattle.ft_model.specs.declared.script.Declaration.{Declaration}
use Rattle.ft_model.specs.declared.script.Kind.{Kind}
use Rattle.ft_model.specs.declared.script.Start.{Start}
use Rattle.ft_model.specs.declared.script.Kind.TheVariants as kind
use Rattle.ft_model.specs.declared.call.DictCall.{DictCall}
use Rattle.ft_model.specs.declared.call.DictCall.TheVariants as dict
use Rattle.ft_model.specs.declared.call.ListCall.{ListCall}
use Rattle.ft_model.specs.declared.call.ListCall.TheVariants as list
use Rattle.ft_model.specs.declared.call.SetCall.{SetCall}
use Rattle.ft_model.specs.declared.call.SetCall.TheVariants as set_call
use Rattle.ft_model.specs.declared.call.DequeCall.{DequeCall}
use Rattle.ft_model.specs.declared.call.DequeCall.TheVariants as deque
use Rattle.ft_model.specs.declared.script.ScriptParts.{ScriptParts}
use Rattle.ft_model.specs.Calls.{is_changing, is_changing_dict, is_changing_list, is_changing_set, is_changing_deque, other_dict, other_list, other_set, other_deque, cursor_of_dict, cursor_of_list, cursor_of_set, cursor_of_deque}
use Rattle.ft_model.specs.Scripts.{IsScript, IsThread, NamesOf, IsDeclaredAs, kind_at}
use Rattle.ft_model.specs.Worlds.{WorldContent, kind_of, starts_of, no_hands, empty_content, empty_world, IsOfKind, IsDeclared}
use Rattle.ft_model.specs.Answers.{is_raised}
use Rattle.ft_model.specs.TableUses.{StoredWorld, empty_stored, after_stored, stored_by, stored_after, would_pass, Supply, supply_of, IsEarnedReply}
use Rattle.ft_model.specs.Histories.{writes, entries_of, calls_of, cursors_of, IsLegal, IsWhole}
use Rattle.ft_model.specs.TablesInOrder.{AreTablesInOrder}
use Rattle.ft_model.proofs.AnswerLaws.{answer_containers}
use Rattle.ft_model.proofs.TableOrder.{order-start, order-step}

-- of the elements that pass a test, what holds of all holds of each
pub each_passed : {X : Type 0} (P : X → Type 0) (test : X → Bool) (xs : List X) → All P (filter test xs) → (place : ℕ) (x : X) → slice_get xs place ≡ Some x → test x ≡ true → P x
each_passed P test [] each place x at passes = absurd (let none : None ≡ Some x = at in cc)
each_passed {X = X} P test (first ∷ xs) each zero x at passes =
    let is : first ≡ x = let some : Some first ≡ Some x = at in cc in
    let here : test first ≡ true = subst (λ (y : X). test y ≡ true) (sym is) passes in
    subst P is (let whole = simp here at each in whole zero first (omega arith))
each_passed P test (first ∷ xs) each (suc place) x at passes =
    elim (test first) as (λ b. test first ≡ b → P x) [
      | true ↦ λ here. each_passed P test xs (let rest = simp here at each in λ k d low. rest (suc k) d (omega arith)) place x at passes
      | false ↦ λ gone. each_passed P test xs (simp gone at each) place x at passes
    ] refl

pub each_some : {X : Type 0} (P : X → Type 0) (xs : List X) → All P xs → (place : ℕ) (x : X) → slice_get xs place ≡ Some x → P x
each_some P [] each place x at = absurd (let none : None ≡ Some x = at in cc)
each_some P (first ∷ xs) each zero x at = subst P (let some : Some first ≡ Some x = at in let is : first ≡ x = cc in is) (each zero first (omega arith))
each_some P (first ∷ xs) each (suc place) x at = each_some P xs (λ k d low. each (suc k) d (omega arith)) place x at

-- ---- each call of a history names what is declared

calls_named : (script : ScriptParts) → IsScript script → (thread : ℕ) → All (NamesOf script.containers (cursors_of script thread)) (calls_of script thread)
calls_named script is thread =
    elim (slice_get script.threads thread) as (λ o. slice_get script.threads thread ≡ o → All (NamesOf script.containers (option_map_or (λ found. length found.cursors) o 0)) (option_map_or (λ found. found.calls) o [])) [
      | None ↦ λ at. All-nil _
      | Some found ↦ λ at. λ k d low. ((each_some (IsThread script) script.threads is.threads thread found at).calls k d low).names
    ] refl

entry_named : (script : ScriptParts) (entries : List Entry) → IsScript script → IsWhole script entries → (place : ℕ) (entry : Entry) → slice_get entries place ≡ Some entry → NamesOf script.containers (cursors_of script entry.thread) entry.call
entry_named script entries is whole place entry at =
    let named : All (NamesOf script.containers (cursors_of script entry.thread)) (map (λ (e : Entry). e.call) (entries_of entry.thread entries)) = subst (All (NamesOf script.containers (cursors_of script entry.thread))) (sym (whole.calls entry.thread)) (calls_named script is entry.thread) in
    each_passed (λ e. NamesOf script.containers (cursors_of script entry.thread) e.call) (λ e. e.thread == entry.thread) entries
    (λ k d low. subst (NamesOf script.containers (cursors_of script entry.thread)) (get_or-map (λ (e : Entry). e.call) (entries_of entry.thread entries) k d) (named k d.call (omega (arith, length-map (entries_of entry.thread entries) (λ (e : Entry). e.call)))))
    place entry at (eq-eqb entry.thread entry.thread refl)

-- no call of a changing kind makes a cursor
no_cursor_dict : (c : DictCall) → is_changing_dict c ≡ true → IfSome (cursor_of_dict c) (λ number. number < 0)
no_cursor_dict (dict.Iter cursor) changes = absurd (false≢true changes)
no_cursor_dict (dict.Reversed cursor) changes = absurd (false≢true changes)
no_cursor_dict other changes = tt

no_cursor_list : (c : ListCall) → is_changing_list c ≡ true → IfSome (cursor_of_list c) (λ number. number < 0)
no_cursor_list (list.Iter cursor) changes = absurd (false≢true changes)
no_cursor_list (list.Reversed cursor) changes = absurd (false≢true changes)
no_cursor_list other changes = tt

no_cursor_set : (c : SetCall) → is_changing_set c ≡ true → IfSome (cursor_of_set c) (λ number. number < 0)
no_cursor_set (set_call.Iter cursor) changes = absurd (false≢true changes)
no_cursor_set other changes = tt

no_cursor_deque : (c : DequeCall) → is_changing_deque c ≡ true → IfSome (cursor_of_deque c) (λ number. number < 0)
no_cursor_deque (deque.Iter cursor) changes = absurd (false≢true changes)
no_cursor_deque other changes = tt

-- the kinds of containers that start so
abbrev kinds_in : List Start → List Kind
kinds_in starts = map (λ start. start.kind) starts

module _ (containers : List Declaration) (world : WorldContent) (kinds : map kind_of world ≡ kinds_in (starts_of containers)) (cursors : ℕ) where
  same_kind : (place : ℕ) → option_map kind_of (slice_get world place) ≡ kind_at containers place
  same_kind place = sym (slice_get-map kind_of world place) ∙ ap (λ (ks : List Kind). slice_get ks place) kinds ∙ slice_get-map (λ (s : Start). s.kind) (starts_of containers) place ∙ ap (option_map (λ (s : Start). s.kind)) (slice_get-map (λ (c : Declaration). c.start) containers place) ∙ mapped (slice_get containers place)
    where
      mapped : (found : Option Declaration) → option_map (λ (s : Start). s.kind) (option_map (λ (c : Declaration). c.start) found) ≡ option_map (λ (c : Declaration). c.start.kind) found
      mapped None = refl
      mapped (Some found) = refl

  of_kind : (kind : Kind) (place : ℕ) → IsDeclaredAs containers kind place → IsOfKind world kind place
  of_kind kind.Dict place is = same_kind place ∙ is
  of_kind kind.List place is = same_kind place ∙ is
  of_kind kind.Set place is = same_kind place ∙ is
  of_kind (kind.Deque bound) place is = (is.0, same_kind place ∙ is.1)

  if_some : {X : Type 0} (P Q : X → Type 0) (o : Option X) → ((x : X) → P x → Q x) → IfSome o P → IfSome o Q
  if_some P Q None f h = tt
  if_some P Q (Some x) f h = f x h

  -- a call of a changing kind that names what is declared
  write_declared : (called : Call) → is_changing called ≡ true → NamesOf containers cursors called → IsDeclared world no_hands called
  write_declared (call.Dict place c) changes names = record { one = of_kind kind.Dict place names.container; both = if_some _ _ (other_dict c) (of_kind kind.Dict) names.second; room = no_cursor_dict c changes }
  write_declared (call.List place c) changes names = record { one = of_kind kind.List place names.container; both = if_some _ _ (other_list c) (of_kind kind.List) names.second; room = no_cursor_list c changes }
  write_declared (call.Set place c) changes names = record { one = of_kind kind.Set place names.container; both = if_some _ _ (other_set c) (of_kind kind.Set) names.second; room = no_cursor_set c changes }
  write_declared (call.Deque place c) changes names = record { one = of_kind (kind.Deque None) place names.container; both = if_some _ _ (other_deque c) (of_kind (kind.Deque None)) names.second; room = no_cursor_deque c changes }
  write_declared (call.Next number) changes names = absurd (false≢true changes)
  write_declared (call.Begin first second) changes names = absurd (false≢true changes)
  write_declared call.End changes names = absurd (false≢true changes)
  write_declared call.Quiesce changes names = absurd (false≢true changes)
  write_declared (call.Await thread index) changes names = absurd (false≢true changes)
  write_declared call.Dump changes names = absurd (false≢true changes)

-- a write that is right passes no cap
write_within : (starts : List Start) (supply : Supply) (calls : List Call) (mine : List Entry) (called : Call) (said : Reply) → is_raised said ≡ false → IsEarnedReply starts supply calls mine called said → would_pass (stored_by starts calls).world called ≡ false
write_within starts supply calls mine called reply.Done well earned = earned
write_within starts supply calls mine called (reply.Raised raise) well earned = absurd (false≢true (sym well))
write_within starts supply calls mine called said well earned = earned

-- ---- place by place

take_next : {X : Type 0} (xs : List X) (place : ℕ) → (take (suc place) xs ≡ take place xs) ⊎ ((x : X) × (slice_get xs place ≡ Some x) × (take (suc place) xs ≡ take place xs ++ x ∷ []))
take_next [] zero = inl refl
take_next [] (suc place) = inl refl
take_next (first ∷ xs) zero = inr (first, refl, refl)
take_next {X = X} (first ∷ xs) (suc place) =
    elim (take_next xs place) [
      | inl same ↦ inl (ap (λ (rest : List X). first ∷ rest) same)
      | inr next ↦ inr (next.0, next.1, ap (λ (rest : List X). first ∷ rest) next.2)
    ]

writes_push : (entries : List Entry) (entry : Entry) → writes (entries ++ entry ∷ []) ≡ writes entries ++ (if entry.wrote then entry.call ∷ [] else [])
writes_push entries entry =
    ap (map (λ (e : Entry). e.call)) (filter-append (λ (e : Entry). e.wrote) entries (entry ∷ [])) ∙ map-append (λ (e : Entry). e.call) (filter (λ (e : Entry). e.wrote) entries) (filter (λ (e : Entry). e.wrote) (entry ∷ [])) ∙
    elim entry.wrote as (λ b. writes entries ++ map (λ (e : Entry). e.call) (if b then entry ∷ [] else []) ≡ writes entries ++ (if b then entry.call ∷ [] else [])) [
      | true ↦ refl
      | false ↦ refl
    ]

-- the tables are in order there, and the containers are of their kinds
pub record IsSound (script : ScriptParts) (calls : List Call) : Type 0 where
  pub tables : AreTablesInOrder (stored_after script calls)
  pub kinds : map kind_of (stored_after script calls).world ≡ kinds_in (starts_of script.containers)

kind_empty : (kind : Kind) → kind_of (empty_content kind) ≡ kind
kind_empty kind.Dict = refl
kind_empty kind.List = refl
kind_empty kind.Set = refl
kind_empty (kind.Deque bound) = refl

kinds_at_start : (starts : List Start) → map kind_of (empty_world starts) ≡ kinds_in starts
kinds_at_start [] = refl
kinds_at_start (start ∷ starts) = ap (λ (k : Kind). k ∷ map kind_of (empty_world starts)) (kind_empty start.kind) ∙ ap (λ (rest : List Kind). start.kind ∷ rest) (kinds_at_start starts)

sound_start : (script : ScriptParts) → IsSound script []
sound_start script = record { tables = order-start (starts_of script.containers); kinds = kinds_at_start (starts_of script.containers) }

sound_write : (script : ScriptParts) (calls : List Call) (cursors : ℕ) (called : Call) → is_changing called ≡ true → NamesOf script.containers cursors called → would_pass (stored_after script calls).world called ≡ false → IsSound script calls → IsSound script (calls ++ called ∷ [])
sound_write script calls cursors called changes names few sound =
    let stored = stored_after script calls in
    let declared = write_declared script.containers stored.world sound.kinds cursors called changes names in
    let next : stored_after script (calls ++ called ∷ []) ≡ after_stored stored called = fold_push after_stored (empty_stored (starts_of script.containers)) calls called in
    record {
      tables = subst AreTablesInOrder (sym next) (order-step stored no_hands called declared few sound.tables);
      kinds = ap (λ (s : StoredWorld). map kind_of s.world) next ∙ answer_containers stored.world no_hands called declared ∙ sound.kinds;
    }

sound_place : (script : ScriptParts) (entries : List Entry) → IsScript script → IsLegal storage.Tables script entries → (place : ℕ) → IsSound script (writes (take place entries))
sound_place script entries is legal zero = sound_start script
sound_place script entries is legal (suc place) =
    let before = sound_place script entries is legal place in
    elim (take_next entries place) [
      | inl same ↦ subst (λ (es : List Entry). IsSound script (writes es)) (sym same) before
      | inr next ↦ sound_next next.0 next.1 next.2 before
    ]
  where
    sound_next : (entry : Entry) → slice_get entries place ≡ Some entry → take (suc place) entries ≡ take place entries ++ entry ∷ [] → IsSound script (writes (take place entries)) → IsSound script (writes (take (suc place) entries))
    sound_next entry at more before =
        let chronicle = legal.chronicle in
        subst (λ (es : List Entry). IsSound script (writes es)) (sym more) (subst (IsSound script) (sym (writes_push (take place entries) entry))
        (elim entry.wrote as (λ b. entry.wrote ≡ b → IsSound script (writes (take place entries) ++ (if b then entry.call ∷ [] else []))) [
          | false ↦ λ reads. subst (IsSound script) (sym (append-nil (writes (take place entries)))) before
          | true ↦ λ wrote.
              let write = and_parts (is_changing entry.call) (not (is_raised entry.reply)) (sym (chronicle.answered place entry at).wrote ∙ wrote) in
              sound_write script (writes (take place entries)) (cursors_of script entry.thread) entry.call write.0 (entry_named script entries is chronicle.whole place entry at)
              (write_within (starts_of script.containers) (supply_of script) (writes (take place entries)) (entries_of entry.thread (take place entries)) entry.call entry.reply (not-true (is_raised entry.reply) write.1) (chronicle.earned place entry at))
              before
        ] refl))

pub order-legal : (script : ScriptParts) (entries : List Entry) (place : ℕ) → IsScript script → IsLegal storage.Tables script entries → AreTablesInOrder (stored_after script (writes (take place entries)))
order-legal script entries place is legal = (sound_place script entries is legal place).tables
