-- The reversal of a list that has nothing, as a whole write.
use Rattle.std.proofs.Common.{◌≡◌, ℕ, ◌<◌, ◌≤◌, true, false, true≢false, List, [], ◌∷◌, length, Option, Some, None, refl, sym, ap, ◌∙◌, subst, inr, arith, get_or-set_same}
use Rattle.std.specs.Prelude.{reverse, slice_index_or, IfSome}
use Rattle.std.proofs.lemmas.List.{length-reverse}
use Rattle.std.proofs.Math.Nat.{ℕ_set}
use Rattle.std.proofs.Math.Logic.{∥∥₁_elim}
use Rattle.ft_model.specs.declared.call.Call.{Call}
use Rattle.ft_model.specs.declared.call.Call.TheVariants as call
use Rattle.ft_model.specs.declared.call.ListCall.TheVariants as list
use Rattle.ft_model.specs.declared.content.Content.{Content}
use Rattle.ft_model.specs.declared.content.Content.TheVariants as content
use Rattle.ft_model.specs.declared.data.Value.{Value}
use Rattle.ft_model.specs.declared.reply.Reply.TheVariants as reply
use Rattle.ft_model.specs.declared.script.Kind.{Kind}
use Rattle.ft_model.specs.declared.script.Kind.TheVariants as kind
use Rattle.ft_model.specs.Answers.{after_write}
use Rattle.ft_model.specs.TableUses.{StoredWorld, after_stored}
use Rattle.ft_model.specs.Worlds.{kind_of, length_of, list_of, list_at}
use Rattle.ft_trace.specs.declared.Act.{Act}
use Rattle.ft_trace.specs.declared.Act.TheVariants.{Lock, Unlock, StartWrite, Commit, StopWrite}
use Rattle.ft_trace.specs.declared.Shape.{Shape}
use Rattle.ft_trace.specs.declared.Snap.{Snap}
use Rattle.ft_trace.specs.declared.View.{View}
use Rattle.ft_trace.specs.Addresses.{container_count}
use Rattle.ft_trace.specs.Acts.{is_writing, has_emptied, view_after, seen_writes}
use Rattle.ft_trace.specs.Traces.{IsReachable}
use Rattle.ft_trace.specs.ContainerStates.{ContainerState, state_at, kind_in}
use Rattle.ft_trace.specs.Pictures.{ContainerWords, root_in, Represents}
use Rattle.ft_trace.specs.Holds.{held_words, held_unboxed, known_state}
use Rattle.ft_trace.proofs.Cases.{hit}
use Rattle.ft_trace.proofs.Known.{declared_at, kind_known}
use Rattle.ft_trace.proofs.Naming.{one_locked}
use Rattle.ft_trace.proofs.NoTable.{no_table_stands}
use Rattle.ft_bank.specs.SameBoxes.{times_raised, SameMade, SameReferences}
use Rattle.ft_bank.specs.WriteSteps.{Committed, IsShut, MayCommit}
use Rattle.ft_bank.specs.Whole.{OnlyLoaded, Wrote}
use Rattle.ft_bank.proofs.KnownAfterWrites.{plain_write, put_same, put_written, work_knows, write_ends}
use Rattle.ft_trace.specs.Boxes.{made_state, HasMergedBoxes, IsDoneWithBoxes}
use Rattle.ft_bank.proofs.DoneBoxes.{done_as, done_same, done_stays, fewer_named, none_named}
use Rattle.ft_bank_tests.specs.SmallestWrites.{MayReverse, Reversed}

-- the call
abbrev pub reversal : ℕ → Call
reversal l = call.List l list.Reverse

-- 1 for a list
list_code : Kind → ℕ
list_code kind.Dict = 0
list_code kind.List = 1
list_code kind.Set = 0
list_code (kind.Deque bound) = 0

no_items : (values : List Value) → length values ≡ 0 → values ≡ []
no_items [] none = refl
no_items (x ∷ values) none = absurd (omega (arith, none))

as_empty : (c : Content) → list_code (kind_of c) ≡ 1 → length_of c ≡ 0 → c ≡ content.List []
unfolding list_code
as_empty (content.List values) is none = ap content.List (no_items values none)
as_empty (content.Dict dict) is none = absurd (omega (arith, is))
as_empty (content.Set set) is none = absurd (omega (arith, is))
as_empty (content.Deque deque) is none = absurd (omega (arith, is))

module _ (k : Shape) (l : ℕ) (v : View) (possible : ∥ IsReachable v ∥₁) (shape : v.shape ≡ k) (may : MayReverse k l v) (bare : root_in (held_words l v) ≡ 0) where
  low : l < container_count v.shape
  low = subst (λ (z : Shape). l < container_count z) (sym shape) may.container

  is_kind : kind_in v.shape.starts l ≡ kind.List
  is_kind = ap (λ (z : Shape). kind_in z.starts l) shape ∙ may.kind

  -- the list has nothing
  empty : (known_state l v).content ≡ content.List []
  unfolding list_code
  empty =
      let nothing = no_table_stands k.texts (held_unboxed l v) (known_state l v) bare may.stands in
      let code : list_code (kind_of (known_state l v).content) ≡ 1 = ∥∥₁_elim {P = list_code (kind_of (known_state l v).content) ≡ 1} possible (ℕ_set _ _) (λ p. ap list_code (kind_known v l may.locked p ∙ is_kind)) in
      as_empty (known_state l v).content code nothing.1

  module _ (stored : StoredWorld) (agrees : state_at stored l ≡ known_state l v) (containers : length stored.world ≡ container_count v.shape) where
    there : slice_index_or stored.world l (content.List []) ≡ content.List []
    there = ap (λ (z : ContainerState). z.content) agrees ∙ empty

    in_world : l < length stored.world
    in_world = subst (λ (n : ℕ). l < n) (sym containers) low

    turned : reverse (list_at stored.world l) ≡ []
    turned =
        let none : length (list_at stored.world l) ≡ 0 = ap (λ (z : Content). length (list_of z)) there in
        no_items (reverse (list_at stored.world l)) (length-reverse (list_at stored.world l) ∙ none)

    content_after : slice_index_or (after_write stored.world (reversal l)) l (content.List []) ≡ content.List []
    content_after = get_or-set_same stored.world l (content.List (reverse (list_at stored.world l))) (content.List []) in_world ∙ ap content.List turned

    -- it leaves the list as it is
    kept_after : state_at (after_stored stored (reversal l)) l ≡ known_state l v
    kept_after =
        let c = content_after ∙ sym empty in
        let t = ap (λ (z : ContainerState). z.table) agrees in
        λ d. record { content = c d; table = t d }

  module _ (f : ℕ) where
    abbrev begun : View
    begun = view_after (StartWrite l f) v

    may_commit_begun : MayCommit begun (reversal l) reply.Done
    may_commit_begun = record {
      write = refl;
      container = low;
      odd = hit l true (is_writing l v.log);
      left = may.left;
      locks = one_locked l begun.log may.locked;
      words = tt;
      reply_is = λ stored has. inr refl;
      declared = λ stored has. record {
        one = declared_at stored.world l (content.List []) (in_world stored (has.agrees l low may.locked) has.containers) (there stored (has.agrees l low may.locked) has.containers);
        both = tt;
        room = tt;
      };
      fits = λ stored has. refl;
      clear = λ stored t has names. absurd (omega (arith, names, bare));
      takes = λ stored class has e. let o = may.owes in absurd (omega (arith, e, o));
      empties = λ e. absurd (true≢false (sym e ∙ hit l false (has_emptied l v.log)));
      stores = λ stored has. ((λ b taken. absurd (may.stored b taken)), (λ b c taken. absurd (may.stored b taken)));
    }

    pub may_commit : (s : View) → s ≡ begun → MayCommit s (reversal l) reply.Done
    may_commit s is = subst (λ (z : View). MayCommit z (reversal l) reply.Done) (sym is) may_commit_begun

    module _ (number : ℕ) (snap : Snap) (c : View) (committed : Committed begun c (reversal l)) (is : c ≡ view_after (Commit (reversal l) reply.Done number snap) begun) where
      known_after : known_state l c ≡ known_state l v
      known_after = committed.left l ∙ kept_after committed.found (committed.has.agrees l low may.locked) committed.has.containers

      held_after : held_words l c ≡ held_words l v
      held_after = ap (λ (z : View). held_words l z) is

      unboxed_after : held_unboxed l c ≡ held_unboxed l v
      unboxed_after = ap (λ (z : View). held_unboxed l z) is

      stands_begun : Represents k.texts (held_unboxed l c) (known_state l c)
      stands_begun = subst (λ (z : ContainerWords × ContainerState). Represents k.texts z.0 z.1) (λ d. (sym unboxed_after d, sym known_after d)) may.stands

      shut_begun : IsShut l c
      shut_begun t names = let root = ap root_in held_after ∙ bare in absurd (omega (arith, names, root))

      wrote_begun : seen_writes begun ≤ number → (g : ℕ) (w : View) → w ≡ view_after (StopWrite l g) c → Wrote (reversal l) reply.Done number v w × (root_in (held_words l w) ≡ 0)
      wrote_begun seen g w stopped = (
        plain_write (reversal l) reply.Done number f v begun begun w refl (may.even l) (put_written l begun begun (put_same begun l))
            (write_ends (reversal l) reply.Done number g snap begun c c w seen is committed may.left (put_same c l)
            (ap root_in held_after)
            (subst (λ (z : Shape). Represents z.texts (held_unboxed l c) (known_state l c)) (sym shape) stands_begun)
            stopped) refl,
        ap (λ (z : View). root_in (held_words l z)) stopped ∙ (ap root_in held_after ∙ bare),
      )

    module _ (s : View) (is_begun : s ≡ begun) (number : ℕ) (snap : Snap) (c : View) (committed : Committed s c (reversal l)) (is : c ≡ view_after (Commit (reversal l) reply.Done number snap) s) where
      committed_begun : Committed begun c (reversal l)
      committed_begun = subst (λ (z : View). Committed z c (reversal l)) is_begun committed

      is_at : c ≡ view_after (Commit (reversal l) reply.Done number snap) begun
      is_at = is ∙ ap (λ (z : View). view_after (Commit (reversal l) reply.Done number snap) z) is_begun

      pub stands_after : Represents k.texts (held_unboxed l c) (known_state l c)
      stands_after = stands_begun number snap c committed_begun is_at

      pub shut_after : IsShut l c
      shut_after = shut_begun number snap c committed_begun is_at

      pub wrote : seen_writes s ≤ number → (g : ℕ) (w : View) → w ≡ view_after (StopWrite l g) c → Wrote (reversal l) reply.Done number v w × (root_in (held_words l w) ≡ 0)
      wrote seen g w stopped = wrote_begun number snap c committed_begun is_at (subst (λ (z : View). seen_writes z ≤ number) is_begun seen) g w stopped

-- no step of it makes a box
pub writes_merged : (l : ℕ) (v s c w : View) (f n g : ℕ) (snap : Snap) → s ≡ view_after (StartWrite l f) v → c ≡ view_after (Commit (reversal l) reply.Done n snap) s → w ≡ view_after (StopWrite l g) c → HasMergedBoxes v.log → HasMergedBoxes w.log
writes_merged l v s c w f n g snap started committed stopped merged b own =
    merged b (ap (λ (z : View). made_state b z.log) (sym (stopped ∙ (ap (view_after (StopWrite l g)) committed ∙ ap (λ (z : View). view_after (StopWrite l g) (view_after (Commit (reversal l) reply.Done n snap) z)) started))) ∙ own)

-- and none raises a count
pub writes_raised : (l : ℕ) (v s c w : View) (f n g : ℕ) (snap : Snap) → s ≡ view_after (StartWrite l f) v → c ≡ view_after (Commit (reversal l) reply.Done n snap) s → w ≡ view_after (StopWrite l g) c → (b : ℕ) → times_raised b w.log ≡ times_raised b v.log
writes_raised l v s c w f n g snap started committed stopped b =
    ap (λ (z : View). times_raised b z.log) (stopped ∙ (ap (view_after (StopWrite l g)) committed ∙ ap (λ z. view_after (StopWrite l g) (view_after (Commit (reversal l) reply.Done n snap) z)) started))

-- a load of the root leaves all that
pub may_loaded : (k : Shape) (l : ℕ) (v w : View) → v.shape ≡ k → OnlyLoaded v w → MayReverse k l v → MayReverse k l w
may_loaded k l v w shape only may =
    let h = only.unboxed l (subst (λ (z : Shape). l < container_count z) (sym shape) may.container) may.locked in
    let n = work_knows v w l only.work in
    record {
      container = may.container;
      kind = may.kind;
      locked = only.work.pass.locks l ∙ may.locked;
      even = λ p. only.work.pass.writes p ∙ may.even p;
      stands = subst (λ (z : ContainerWords × ContainerState). Represents k.texts z.0 z.1) (λ d. (sym h d, sym n d)) may.stands;
      owes = only.work.owes ∙ may.owes;
      stored = λ b taken. may.stored b (sym (only.boxes.made.uses b) ∙ taken);
      left = subst (λ (z : ℕ). 0 < z) (sym only.work.left) may.left;
    }

-- a whole write of a list that has nothing moves no reference
pub reversed_done : (l number : ℕ) (v w : View) → Reversed l number v w → IsDoneWithBoxes v.shape v.log → IsDoneWithBoxes w.shape w.log
reversed_done l number v w r done =
    let loaded = done_same v r.loaded r.only.boxes done in
    done_stays r.loaded w r.wrote.made
    (fewer_named l r.loaded w r.wrote.loses r.raised (λ b. none_named b (kind_in w.shape.starts l) (held_words l w) r.still_bare ∙ sym (none_named b (kind_in r.loaded.shape.starts l) (held_words l r.loaded) r.bare)) loaded.none)
    loaded

-- ---- what a pass has to do with boxes

abbrev pub IsDone : View → Type 0
IsDone v = IsDoneWithBoxes v.shape v.log × HasMergedBoxes v.log

-- a lock that is taken or let go leaves that
step_done : (a : Act) (v w : View) → w ≡ view_after a v → SameMade v (view_after a v) → SameReferences v (view_after a v) → IsDone v → IsDone w
step_done a v w is made references done =
    subst IsDone (sym is) (done_as v (view_after a v) references made done.0, λ b own. done.1 b (sym (made.state b) ∙ own))

pub lock_done : (l f : ℕ) (snap : Snap) (v w : View) → w ≡ view_after (Lock l f snap) v → IsDone v → IsDone w
lock_done l f snap v w is =
    step_done (Lock l f snap) v w is (record { state = λ b. refl; local = λ b. refl; taken = λ b. refl; places = λ b. refl; uses = λ b. refl; raised = λ b. refl }) (λ b. refl)

pub unlock_done : (l : ℕ) (v w : View) → w ≡ view_after (Unlock l) v → IsDone v → IsDone w
unlock_done l v w is =
    step_done (Unlock l) v w is (record { state = λ b. refl; local = λ b. refl; taken = λ b. refl; places = λ b. refl; uses = λ b. refl; raised = λ b. refl }) (λ b. refl)

-- and so does a list that was reversed, or loaded
pub tried_done : (l : ℕ) (result : Option ℕ) (v w : View) → IfSome result (λ number. Reversed l number v w) → (result ≡ None → OnlyLoaded v w) → IsDone v → IsDone w
tried_done l None v w some_ none done = let only = none refl in (done_same v w only.boxes done.0, λ b own. done.1 b (sym (only.boxes.made.state b) ∙ own))
tried_done l (Some number) v w r none done = (reversed_done l number v w r done.0, r.merged done.1)
