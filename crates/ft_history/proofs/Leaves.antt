-- What a call leaves of the kinds of containers, and of the hands.
use Rattle.std.proofs.Common.{◌≡◌, ℕ, zero, suc, ◌<◌, Bool, true, false, not, ◌&&◌, List, [], ◌∷◌, map, length, Option, Some, None, refl, sym, ap, subst, ◌∙◌, arith, cond, set, inl, inr, ◌==◌, ◌-◌}
use Rattle.std.specs.Prelude.{slice_get, option_map, IfSome, IsSome, IsSomeAnd}
use Rattle.std.specs.Option.{option_map_or}
use Rattle.std.proofs.lemmas.Bool.{false≢true, cases_eq, cases_lt}
use Rattle.std.proofs.lemmas.List.{map-set, length-set, get_or-set_same, get_or-set_other, set_past}
use Rattle.std.proofs.lemmas.Option.{slice_get-map, IfSome_then}
use Rattle.ft_model.specs.declared.call.Call.{Call}
use Rattle.ft_model.specs.declared.call.Call.TheVariants as call
use Rattle.ft_model.specs.declared.content.Content.{Content}
use Rattle.ft_model.specs.declared.content.DictPair.{DictPair}
use Rattle.ft_model.specs.declared.content.Element.{Element}
use Rattle.ft_model.specs.declared.data.Value.{Value}
use Rattle.ft_model.specs.declared.cursor.Cursor.{Cursor}
use Rattle.ft_model.specs.declared.cursor.Cursor.TheVariants as cursor
use Rattle.ft_model.specs.declared.cursor.CursorState.{CursorState}
use Rattle.ft_model.specs.declared.cursor.CursorState.TheVariants as walk
use Rattle.ft_model.specs.declared.reply.Reply.TheVariants as reply
use Rattle.ft_model.specs.declared.reply.Raise.TheVariants as raise
use Rattle.ft_model.specs.declared.script.Declaration.{Declaration}
use Rattle.ft_model.specs.declared.script.Kind.{Kind}
use Rattle.ft_model.specs.declared.script.Kind.TheVariants as kind
use Rattle.ft_model.specs.Calls.{is_changing}
use Rattle.ft_model.specs.Scripts.{IsDeclaredAs, NamesOf, cursor_of}
use Rattle.ft_model.specs.Cursors.{CursorStep, dict_next, dict_walk, next_pair, set_next, set_walk, next_element, list_next, list_walk, deque_next, deque_walk, dict_back_next, dict_back_walk, prior_pair, list_back_next, list_back_walk}
use Rattle.ft_model.specs.Worlds.{IsOfKind, kind_of, cursor_kind, container_of, cursor_at, no_hands, dict_at, list_at, set_at, deque_at}
use Rattle.ft_model.specs.Answers.{Answer, answer, cursor_step, is_raised, is_write, shows, moves, shown_of}
use Rattle.ft_history.specs.Internal.Accounts.{AreOfKind}
use Rattle.ft_history.specs.Internal.States.{IsAskable}
use Rattle.ft_model.specs.Deques.{DequeContent}
use Rattle.ft_history.proofs.Effects.{HasKind, Effect, shown, put, moved, deque_kind, effect_dict, effect_list, effect_set, effect_deque}

-- ---- one write into a list

set_there : {X : Type 0} (xs : List X) (i : ℕ) (x : X) → slice_get xs i ≡ Some x → set xs i x ≡ xs
set_there [] i x at = absurd (let none : None ≡ Some x = at in cc)
set_there (y ∷ xs) zero x at = let same : y ≡ x = cc in ap (λ z. z ∷ xs) (sym same)
set_there (y ∷ xs) (suc i) x at = ap (λ zs. y ∷ zs) (set_there xs i x at)

kinds_of_set : (world : List Content) (place : ℕ) (content : Content) → HasKind world (kind_of content) place → map kind_of (set world place content) ≡ map kind_of world
kinds_of_set world place content is = map-set kind_of world place content ∙ set_there (map kind_of world) place (kind_of content) (slice_get-map kind_of world place ∙ is)

-- ---- hands

-- this is so of each cursor that is made
abbrev Each : (Cursor → Type 0) → List (Option Cursor) → Type 0
Each P hands = (number : ℕ) → IfSome (cursor_at hands number) P

each_set : (P : Cursor → Type 0) (hands : List (Option Cursor)) (number : ℕ) (c : Cursor) → P c → Each P hands → Each P (set hands number (Some c))
each_set P hands number c is each m =
    elim (cases_eq m number) [
      | inr differ ↦ subst (λ o. IfSome o P) (sym (get_or-set_other hands number m (Some c) None differ)) (each m)
      | inl same ↦ elim (cases_lt number (length hands)) [
        | inl low ↦ subst (λ o. IfSome o P) (sym (ap (λ k. cursor_at (set hands number (Some c)) k) same ∙ get_or-set_same hands number (Some c) None low)) is
        | inr past ↦ subst (λ (hs : List (Option Cursor)). IfSome (cursor_at hs m) P) (sym (set_past hands number (Some c) past)) (each m)
      ]
    ]

kept_set : (hands : List (Option Cursor)) (number : ℕ) (c : Cursor) (m : ℕ) → IsSome (cursor_at hands m) → IsSome (cursor_at (set hands number (Some c)) m)
kept_set hands number c m there =
    elim (cases_eq m number) [
      | inr differ ↦ subst IsSome (sym (get_or-set_other hands number m (Some c) None differ)) there
      | inl same ↦ elim (cases_lt number (length hands)) [
        | inl low ↦ subst IsSome (sym (ap (λ k. cursor_at (set hands number (Some c)) k) same ∙ get_or-set_same hands number (Some c) None low)) refl
        | inr past ↦ subst (λ (hs : List (Option Cursor)). IsSome (cursor_at hs m)) (sym (set_past hands number (Some c) past)) there
      ]
    ]

made_set : (hands : List (Option Cursor)) (number : ℕ) (c : Cursor) → number < length hands → IsSome (cursor_at (set hands number (Some c)) number)
made_set hands number c low = subst IsSome (sym (get_or-set_same hands number (Some c) None low)) refl

-- ---- what a call leaves

pub record Leaves (containers : List Declaration) (world : List Content) (hands : List (Option Cursor)) (called : Call) : Type 0 where
  -- what a changing call does to the world is the same for all hands
  pub alike : is_changing called ≡ true → (answer world hands called).world ≡ (answer world no_hands called).world
  pub quiet : is_write called (answer world hands called).reply ≡ false → (answer world hands called).world ≡ world
  pub kinds : map kind_of (answer world hands called).world ≡ map kind_of world
  pub room : length (answer world hands called).hands ≡ length hands
  pub fits : Each (λ c. IsDeclaredAs containers (cursor_kind c) (container_of c)) hands → Each (λ c. IsDeclaredAs containers (cursor_kind c) (container_of c)) (answer world hands called).hands
  pub stay : (number : ℕ) → IsSome (cursor_at hands number) → IsSome (cursor_at (answer world hands called).hands number)
  pub made : (number : ℕ) → cursor_of called ≡ Some number → number < length hands → IsSome (cursor_at (answer world hands called).hands number)

module _ (containers : List Declaration) (world : List Content) (same : map kind_of world ≡ map (λ (c : Declaration). c.start.kind) containers) where
  -- a container of the world is of its declaration's kind
  has_declared : (k : Kind) (place : ℕ) → option_map (λ (c : Declaration). c.start.kind) (slice_get containers place) ≡ Some k → HasKind world k place
  has_declared k place is = sym (slice_get-map kind_of world place) ∙ ap (λ (ks : List Kind). slice_get ks place) same ∙ slice_get-map (λ (c : Declaration). c.start.kind) containers place ∙ is

  declared_of : (k : Kind) (place : ℕ) → HasKind world k place → option_map (λ (c : Declaration). c.start.kind) (slice_get containers place) ≡ Some k
  declared_of k place is = sym (slice_get-map (λ (c : Declaration). c.start.kind) containers place) ∙ ap (λ (ks : List Kind). slice_get ks place) (sym same) ∙ slice_get-map kind_of world place ∙ is

  pub declared : (k : Kind) (place : ℕ) → IsDeclaredAs containers k place → IsOfKind world k place
  declared kind.Dict place is = has_declared kind.Dict place is
  declared kind.List place is = has_declared kind.List place is
  declared kind.Set place is = has_declared kind.Set place is
  declared (kind.Deque _) place is = (is.0, has_declared (kind.Deque is.0) place is.1)

  of_kind : (k : Kind) (place : ℕ) → IsOfKind world k place → IsDeclaredAs containers k place
  of_kind kind.Dict place is = declared_of kind.Dict place is
  of_kind kind.List place is = declared_of kind.List place is
  of_kind kind.Set place is = declared_of kind.Set place is
  of_kind (kind.Deque _) place is = (is.0, declared_of (kind.Deque is.0) place is.1)

  module _ (hands : List (Option Cursor)) where
    write_of : Bool → Bool → Bool
    write_of changing raised = changing && not raised

    leaves : (called : Call) (f : List (Option Cursor) → Answer) → Effect world (is_changing called) (cursor_of called) f → (f hands ≡ answer world hands called) → (f no_hands ≡ answer world no_hands called) → Leaves containers world hands called
    leaves called f (shown none reply) is is_none =
        record {
          alike = λ _. sym (ap (λ (a : Answer). a.world) is) ∙ ap (λ (a : Answer). a.world) is_none;
          quiet = λ _. sym (ap (λ (a : Answer). a.world) is);
          kinds = ap (map kind_of) (sym (ap (λ (a : Answer). a.world) is));
          room = ap length (sym (ap (λ (a : Answer). a.hands) is));
          fits = λ each. subst (Each (λ c. IsDeclaredAs containers (cursor_kind c) (container_of c))) (ap (λ (a : Answer). a.hands) is) each;
          stay = λ number there. subst (λ (hs : List (Option Cursor)). IsSome (cursor_at hs number)) (ap (λ (a : Answer). a.hands) is) there;
          made = λ number makes. absurd (let e : None ≡ Some number = sym none ∙ makes in cc);
        }
    leaves called f (put none changes place content reply done of) is is_none =
        let worlds : set world place content ≡ (answer world hands called).world = ap (λ (a : Answer). a.world) is in
        record {
          alike = λ _. sym worlds ∙ ap (λ (a : Answer). a.world) is_none;
          quiet = λ calm. absurd (false≢true (sym calm ∙ ap (λ r. is_changing called && not (is_raised r)) (sym (ap (λ (a : Answer). a.reply) is)) ∙ (ap (λ b. b && not (is_raised reply)) changes ∙ ap not done)));
          kinds = ap (map kind_of) (sym worlds) ∙ kinds_of_set world place content of;
          room = ap length (sym (ap (λ (a : Answer). a.hands) is));
          fits = λ each. subst (Each (λ c. IsDeclaredAs containers (cursor_kind c) (container_of c))) (ap (λ (a : Answer). a.hands) is) each;
          stay = λ number there. subst (λ (hs : List (Option Cursor)). IsSome (cursor_at hs number)) (ap (λ (a : Answer). a.hands) is) there;
          made = λ number makes. absurd (let e : None ≡ Some number = sym none ∙ makes in cc);
        }
    leaves called f (moved n makes_it c reply of) is is_none =
        let after : set hands n (Some c) ≡ (answer world hands called).hands = ap (λ (a : Answer). a.hands) is in
        record {
          alike = λ _. sym (ap (λ (a : Answer). a.world) is) ∙ ap (λ (a : Answer). a.world) is_none;
          quiet = λ _. sym (ap (λ (a : Answer). a.world) is);
          kinds = ap (map kind_of) (sym (ap (λ (a : Answer). a.world) is));
          room = ap length (sym after) ∙ length-set hands n (Some c);
          fits = λ each. subst (Each (λ c. IsDeclaredAs containers (cursor_kind c) (container_of c))) after (each_set _ hands n c (of_kind (cursor_kind c) (container_of c) of) each);
          stay = λ number there. subst (λ (hs : List (Option Cursor)). IsSome (cursor_at hs number)) after (kept_set hands n c number there);
          made = λ number makes low. let e : n ≡ number = let s : Some n ≡ Some number = sym makes_it ∙ makes in cc in subst (λ (hs : List (Option Cursor)). IsSome (cursor_at hs number)) after (subst (λ k. IsSome (cursor_at (set hands n (Some c)) k)) e (made_set hands n c (omega arith)));
        }

-- ---- cursors

-- a step of a cursor leaves one over the same container
record SameWalk (before after : Cursor) : Type 0 where
  kind : cursor_kind after ≡ cursor_kind before
  container : container_of after ≡ container_of before

same_dict : (pairs : List DictPair) (container : ℕ) (w : CursorState) (size expected : ℕ) (last : Option ℕ) → SameWalk (cursor.Dict container w size expected last) (dict_next pairs container w size expected last).cursor
same_dict pairs container walk.Ended size expected last = record { kind = refl; container = refl }
same_dict pairs container walk.Reported size expected last = record { kind = refl; container = refl }
same_dict pairs container walk.Live size expected last =
    elim (length pairs == size) as (λ b. SameWalk (cursor.Dict container walk.Live size expected last) (cond {A = CursorStep} b (dict_walk (next_pair pairs last) container size expected last) (record { reply = reply.Raised raise.Size; cursor = cursor.Dict container walk.Reported size expected last })).cursor) [
      | false ↦ record { kind = refl; container = refl }
      | true ↦ elim (next_pair pairs last) as (λ o. SameWalk (cursor.Dict container walk.Live size expected last) (dict_walk o container size expected last).cursor) [
        | None ↦ record { kind = refl; container = refl }
        | Some pair ↦ elim (expected == 0) as (λ b. SameWalk (cursor.Dict container walk.Live size expected last) (cond {A = CursorStep} b (record { reply = reply.Raised raise.Keys; cursor = cursor.Dict container walk.Ended size expected last }) (record { reply = reply.Pair pair.key pair.value; cursor = cursor.Dict container walk.Live size (expected - 1) (Some pair.serial) })).cursor) [
          | true ↦ record { kind = refl; container = refl }
          | false ↦ record { kind = refl; container = refl }
        ]
      ]
    ]

same_set : (elements : List Element) (container : ℕ) (w : CursorState) (size : ℕ) (last : Option ℕ) → SameWalk (cursor.Set container w size last) (set_next elements container w size last).cursor
same_set elements container walk.Ended size last = record { kind = refl; container = refl }
same_set elements container walk.Reported size last = record { kind = refl; container = refl }
same_set elements container walk.Live size last =
    elim (length elements == size) as (λ b. SameWalk (cursor.Set container walk.Live size last) (cond {A = CursorStep} b (set_walk (next_element elements last) container size last) (record { reply = reply.Raised raise.Size; cursor = cursor.Set container walk.Reported size last })).cursor) [
      | false ↦ record { kind = refl; container = refl }
      | true ↦ elim (next_element elements last) as (λ o. SameWalk (cursor.Set container walk.Live size last) (set_walk o container size last).cursor) [
        | None ↦ record { kind = refl; container = refl }
        | Some element ↦ record { kind = refl; container = refl }
      ]
    ]

same_list : (items : List Value) (container index : ℕ) (ended : Bool) → SameWalk (cursor.List container index ended) (list_next items container index ended).cursor
same_list items container index true = record { kind = refl; container = refl }
same_list items container index false =
    elim (slice_get items index) as (λ o. SameWalk (cursor.List container index false) (list_walk o container index).cursor) [
      | None ↦ record { kind = refl; container = refl }
      | Some value ↦ record { kind = refl; container = refl }
    ]

same_deque : (deque : DequeContent) (container moves index : ℕ) → SameWalk (cursor.Deque container moves index) (deque_next deque container moves index).cursor
same_deque deque container moves index =
    elim (deque.moves == moves) as (λ b. SameWalk (cursor.Deque container moves index) (cond {A = CursorStep} b (deque_walk (slice_get deque.items index) container moves index) (record { reply = reply.Raised raise.Moved; cursor = cursor.Deque container moves index })).cursor) [
      | false ↦ record { kind = refl; container = refl }
      | true ↦ elim (slice_get deque.items index) as (λ o. SameWalk (cursor.Deque container moves index) (deque_walk o container moves index).cursor) [
        | None ↦ record { kind = refl; container = refl }
        | Some value ↦ record { kind = refl; container = refl }
      ]
    ]

same_dict_back : (pairs : List DictPair) (container : ℕ) (w : CursorState) (size : ℕ) (last : Option ℕ) → SameWalk (cursor.DictBack container w size last) (dict_back_next pairs container w size last).cursor
same_dict_back pairs container walk.Ended size last = record { kind = refl; container = refl }
same_dict_back pairs container walk.Reported size last = record { kind = refl; container = refl }
same_dict_back pairs container walk.Live size last =
    elim (length pairs == size) as (λ b. SameWalk (cursor.DictBack container walk.Live size last) (cond {A = CursorStep} b (dict_back_walk (prior_pair pairs last) container size last) (record { reply = reply.Raised raise.Size; cursor = cursor.DictBack container walk.Reported size last })).cursor) [
      | false ↦ record { kind = refl; container = refl }
      | true ↦ elim (prior_pair pairs last) as (λ o. SameWalk (cursor.DictBack container walk.Live size last) (dict_back_walk o container size last).cursor) [
        | None ↦ record { kind = refl; container = refl }
        | Some pair ↦ record { kind = refl; container = refl }
      ]
    ]

same_list_back : (items : List Value) (container : ℕ) (index : Option ℕ) → SameWalk (cursor.ListBack container index) (list_back_next items container index).cursor
same_list_back items container None = record { kind = refl; container = refl }
same_list_back items container (Some index) =
    elim (slice_get items index) as (λ o. SameWalk (cursor.ListBack container (Some index)) (list_back_walk o container index).cursor) [
      | None ↦ record { kind = refl; container = refl }
      | Some value ↦ record { kind = refl; container = refl }
    ]

same_walk : (world : List Content) (c : Cursor) → SameWalk c (cursor_step world c).cursor
same_walk world (cursor.Dict container w size expected last) = same_dict (dict_at world container).pairs container w size expected last
same_walk world (cursor.List container index ended) = same_list (list_at world container) container index ended
same_walk world (cursor.Set container w size last) = same_set (set_at world container).elements container w size last
same_walk world (cursor.Deque container moves index) = same_deque (deque_at world container) container moves index
same_walk world (cursor.DictBack container w size last) = same_dict_back (dict_at world container).pairs container w size last
same_walk world (cursor.ListBack container index) = same_list_back (list_at world container) container index

-- ---- all calls

some_and : (P : Cursor → Type 0) (o : Option Cursor) → IsSome o → IfSome o P → IsSomeAnd o P
some_and P None there is = absurd (false≢true there)
some_and P (Some c) there is = is

module _ (containers : List Declaration) (world : List Content) (same : map kind_of world ≡ map (λ (c : Declaration). c.start.kind) containers) (hands : List (Option Cursor)) where
  leaves_next : (number : ℕ) → Each (λ c. IsDeclaredAs containers (cursor_kind c) (container_of c)) hands → Leaves containers world hands (call.Next number)
  leaves_next number fits =
      elim (cursor_at hands number) as (λ o. cursor_at hands number ≡ o → Leaves containers world hands (call.Next number)) [
        | None ↦ λ none.
            let is : answer world hands (call.Next number) ≡ shows world hands reply.Stop = ap (λ o. option_map_or (λ c. moves world hands number (cursor_step world c).cursor (cursor_step world c).reply) o (shows world hands reply.Stop)) none in
            record {
              alike = λ changing. absurd (false≢true changing);
              quiet = λ _. ap (λ (a : Answer). a.world) is;
              kinds = ap (λ (a : Answer). map kind_of a.world) is;
              room = ap (λ (a : Answer). length a.hands) is;
              fits = λ each. subst (Each _) (sym (ap (λ (a : Answer). a.hands) is)) each;
              stay = λ m there. subst (λ (hs : List (Option Cursor)). IsSome (cursor_at hs m)) (sym (ap (λ (a : Answer). a.hands) is)) there;
              made = λ m makes. absurd (let e : None ≡ Some m = makes in cc);
            }
        | Some c ↦ λ some.
            let after = (cursor_step world c).cursor in
            let is : answer world hands (call.Next number) ≡ moves world hands number after (cursor_step world c).reply = ap (λ o. option_map_or (λ c. moves world hands number (cursor_step world c).cursor (cursor_step world c).reply) o (shows world hands reply.Stop)) some in
            let fit : IsDeclaredAs containers (cursor_kind c) (container_of c) = subst (λ o. IfSome o (λ c. IsDeclaredAs containers (cursor_kind c) (container_of c))) some (fits number) in
            let fit_after : IsDeclaredAs containers (cursor_kind after) (container_of after) = subst (λ k. IsDeclaredAs containers k (container_of after)) (sym (same_walk world c).kind) (subst (IsDeclaredAs containers (cursor_kind c)) (sym (same_walk world c).container) fit) in
            record {
              alike = λ changing. absurd (false≢true changing);
              quiet = λ _. ap (λ (a : Answer). a.world) is;
              kinds = ap (λ (a : Answer). map kind_of a.world) is;
              room = ap (λ (a : Answer). length a.hands) is ∙ length-set hands number (Some after);
              fits = λ each. subst (Each (λ c. IsDeclaredAs containers (cursor_kind c) (container_of c))) (sym (ap (λ (a : Answer). a.hands) is)) (each_set _ hands number after fit_after each);
              stay = λ m there. subst (λ (hs : List (Option Cursor)). IsSome (cursor_at hs m)) (sym (ap (λ (a : Answer). a.hands) is)) (kept_set hands number after m there);
              made = λ m makes. absurd (let e : None ≡ Some m = makes in cc);
            }
      ] refl

  -- what a call of the script leaves
  pub leaves_of : (cursors : ℕ) (called : Call) → NamesOf containers cursors called → Each (λ c. IsDeclaredAs containers (cursor_kind c) (container_of c)) hands → Leaves containers world hands called
  leaves_of cursors (call.Dict place dict_call) names fits = leaves containers world same hands _ _ (effect_dict world place (dict_at world place) dict_call (declared containers world same kind.Dict place names.container) (IfSome_then _ names.second (λ other is. declared containers world same kind.Dict other is))) refl refl
  leaves_of cursors (call.List place list_call) names fits = leaves containers world same hands _ _ (effect_list world place (list_at world place) list_call (declared containers world same kind.List place names.container) (IfSome_then _ names.second (λ other is. declared containers world same kind.List other is))) refl refl
  leaves_of cursors (call.Set place set_call) names fits = leaves containers world same hands _ _ (effect_set world place (set_at world place) set_call (declared containers world same kind.Set place names.container) (IfSome_then _ names.second (λ other is. declared containers world same kind.Set other is))) refl refl
  leaves_of cursors (call.Deque place deque_call) names fits = leaves containers world same hands _ _ (effect_deque world place (deque_at world place) deque_call (declared containers world same (kind.Deque None) place names.container) (deque_kind world place None (declared containers world same (kind.Deque None) place names.container))) refl refl
  leaves_of cursors (call.Next number) names fits = leaves_next number fits
  leaves_of cursors (call.Begin first second) names fits = leaves containers world same hands (call.Begin first second) (λ hs. shows world hs reply.Done) (shown refl reply.Done) refl refl
  leaves_of cursors call.End names fits = leaves containers world same hands call.End (λ hs. shows world hs reply.Done) (shown refl reply.Done) refl refl
  leaves_of cursors call.Quiesce names fits = leaves containers world same hands call.Quiesce (λ hs. shows world hs reply.Done) (shown refl reply.Done) refl refl
  leaves_of cursors (call.Await other index) names fits = leaves containers world same hands (call.Await other index) (λ hs. shows world hs reply.Done) (shown refl reply.Done) refl refl
  leaves_of cursors call.Dump names fits = leaves containers world same hands call.Dump (λ hs. shows world hs (reply.World (map shown_of world))) (shown refl (reply.World (map shown_of world))) refl refl

  -- a call of the script may be made there
  pub askable : (cursors : ℕ) (called : Call) → length hands ≡ cursors → NamesOf containers cursors called → Each (λ c. IsDeclaredAs containers (cursor_kind c) (container_of c)) hands → ((number : ℕ) → called ≡ call.Next number → IsSome (cursor_at hands number)) → IsAskable world hands called
  askable cursors (call.Dict place dict_call) room names fits made = record { one = declared containers world same kind.Dict place names.container; both = IfSome_then _ names.second (λ other is. declared containers world same kind.Dict other is); room = IfSome_then _ names.made (λ number low. let l : number < length hands = omega arith in l) }
  askable cursors (call.List place list_call) room names fits made = record { one = declared containers world same kind.List place names.container; both = IfSome_then _ names.second (λ other is. declared containers world same kind.List other is); room = IfSome_then _ names.made (λ number low. let l : number < length hands = omega arith in l) }
  askable cursors (call.Set place set_call) room names fits made = record { one = declared containers world same kind.Set place names.container; both = IfSome_then _ names.second (λ other is. declared containers world same kind.Set other is); room = IfSome_then _ names.made (λ number low. let l : number < length hands = omega arith in l) }
  askable cursors (call.Deque place deque_call) room names fits made = record { one = declared containers world same (kind.Deque None) place names.container; both = IfSome_then _ names.second (λ other is. declared containers world same (kind.Deque None) other is); room = IfSome_then _ names.made (λ number low. let l : number < length hands = omega arith in l) }
  askable cursors (call.Next number) room names fits made = some_and (λ c. IsOfKind world (cursor_kind c) (container_of c)) (cursor_at hands number) (made number refl) (IfSome_then (cursor_at hands number) (fits number) (λ c is. declared containers world same (cursor_kind c) (container_of c) is))
  askable cursors (call.Begin first second) room names fits made = tt
  askable cursors call.End room names fits made = tt
  askable cursors call.Quiesce room names fits made = tt
  askable cursors (call.Await other index) room names fits made = tt
  askable cursors call.Dump room names fits made = tt

-- a call of the script names containers of its kind
pub of_kinds : (containers : List Declaration) (world : List Content) → map kind_of world ≡ map (λ (c : Declaration). c.start.kind) containers → (cursors : ℕ) (called : Call) → NamesOf containers cursors called → AreOfKind world called
of_kinds containers world same cursors (call.Dict place dict_call) names = (declared containers world same kind.Dict place names.container, IfSome_then _ names.second (λ other is. declared containers world same kind.Dict other is))
of_kinds containers world same cursors (call.List place list_call) names = (declared containers world same kind.List place names.container, IfSome_then _ names.second (λ other is. declared containers world same kind.List other is))
of_kinds containers world same cursors (call.Set place set_call) names = (declared containers world same kind.Set place names.container, IfSome_then _ names.second (λ other is. declared containers world same kind.Set other is))
of_kinds containers world same cursors (call.Deque place deque_call) names = (declared containers world same (kind.Deque None) place names.container, IfSome_then _ names.second (λ other is. declared containers world same (kind.Deque None) other is))
of_kinds containers world same cursors _ names = tt
