-- That a pass may make a whole write of a container whose lock it has, whatever the container's kind is: what is to be
-- shown of the words, of the call, and of each history that agrees with what the pass knows.
use Rattle.std.proofs.Common.{◌≡◌, ℕ, suc, ◌<◌, ◌≤◌, true, false, List, [], ◌∷◌, Some, sym, ap, ◌∙◌, subst, arith}
use Rattle.std.specs.Prelude.{slice_index}
use Rattle.ft_model.specs.declared.call.Call.{Call}
use Rattle.ft_model.specs.declared.content.Content.{Content}
use Rattle.ft_model.specs.declared.content.Content.TheVariants as content
use Rattle.ft_model.specs.declared.reply.Reply.{Reply}
use Rattle.ft_model.specs.declared.script.Kind.{Kind}
use Rattle.ft_model.specs.Answers.{Answer, answer, puts, is_write}
use Rattle.ft_model.specs.Histories.{IsReplied}
use Rattle.ft_model.specs.Worlds.{kind_of, no_hands, IsDeclared, IsOfKind}
use Rattle.ft_model.specs.TableUses.{TableUse, StoredWorld, stored_newest, takes_in, table_at, would_pass, after_stored}
use Rattle.ft_layout.specs.Containers.{StandsAs}
use Rattle.ft_trace.specs.declared.Snap.{Snap}
use Rattle.ft_trace.specs.declared.View.{View}
use Rattle.ft_trace.specs.Addresses.{class_of, IsTableName}
use Rattle.ft_trace.specs.Acts.{owes, stage}
use Rattle.ft_trace.specs.ContainerStates.{container_after, kind_in, changes, reply_in}
use Rattle.ft_trace.specs.Pictures.{root_in, Represents}
use Rattle.ft_trace.specs.Kinds.{rows, version_at, SoundAs, ClearAs}
use Rattle.ft_trace.specs.FitCalls.{FitsCall}
use Rattle.ft_trace.specs.BegunSections.{HasLocksOf}
use Rattle.ft_trace.specs.OddVersions.{Shut}
use Rattle.ft_trace.specs.Holds.{held_words, known_state, hand_unboxed, AgreesWith}
use Rattle.ft_trace.specs.declared.Act.TheVariants.{PutRoot}
use Rattle.ft_trace.specs.Boxes.{HasReferences}
use Rattle.ft_trace.specs.Traces.{IsReachable}
use Rattle.ft_trace.specs.WholeWrites.{MayPuts, HasBoxes, spare_references, WholeWrite, with_root_put, at_commit, at_end, after_write_of, MayBegin, MayReplace, MayCommitWrite, MayWriteSo}
use Rattle.ft_trace.proofs.Known.{kind_known, declared_at}
use Rattle.ft_trace.proofs.KnownContents.{in_world, content_there, content_left}
use Rattle.ft_trace.proofs.Writing.{write_possible}

-- a call that one container answers, and whose keys and values fit words
pub record CallFacts (v : View) (o : ℕ) (kind : Kind) (called : Call) (said : Reply) : Type 0 where
  pub of : changes called ≡ o
  pub wrote : is_write called said ≡ true
  pub fits : FitsCall called
  pub locks : HasLocksOf called v.log
  pub replied : (r : Reply) → said ≡ r → IsReplied called said r
  pub declared : (world : List Content) → IsOfKind world kind o → IsDeclared world no_hands called

-- what the call does in a history: it puts the new content, and leaves the container's table so
pub record PutsContent (v : View) (o : ℕ) (news : Content) (table : TableUse) (write : WholeWrite) (stored : StoredWorld) : Type 0 where
  pub answered : answer stored.world no_hands write.call ≡ puts stored.world no_hands o news write.reply
  pub table_after : table_at (after_stored stored write.call).tables o ≡ table
  pub within : would_pass stored.world write.call ≡ false
  pub takes : (class : ℕ) → owes v.log ≡ suc class → takes_in stored write.call ≡ Some class

-- a write of a container that has x, whose table is t from the commit on, and which leaves `news`
pub record WriteFacts (v : View) (o t : ℕ) (x news : Content) (table : TableUse) (write : WholeWrite) : Type 0 where
  pub called : CallFacts v o (kind_of x) write.call write.reply
  pub root : MayReplace v o write.call write.root
  pub early : MayPuts (kind_of x) t x false (with_root_put v o write.root) write.early
  pub boxes : HasBoxes v.shape v.log (spare_references v write.root) write.early
  pub names : root_in (at_commit v o write) ≡ suc t
  pub clear : ClearAs (kind_of x) v.shape.texts (class_of t) (at_commit v o write).table x news
  pub late : MayPuts (kind_of x) t news true (at_commit v o write) write.late
  pub names_still : root_in (at_end v o write) ≡ suc t
  pub ends : StandsAs v.shape.texts (at_end v o write).block (0 ∷ 0 ∷ (at_end v o write).table) table news
  pub shut : Shut (version_at (kind_of x) (class_of t)) (rows (kind_of x) (class_of t)) (at_end v o write).table
  pub history : (calls : List Call) → AgreesWith v (stored_newest v.shape.starts calls) → PutsContent v o news table write (stored_newest v.shape.starts calls)

-- a fresh table may be put in the root that holds for readers what the container has
pub replaces : (v : View) (o t : ℕ) (x : Content) (called : Call) (begin : MayBegin v o) → (known_state o v).content ≡ x → IsTableName v.shape t → stage t v.log ≡ 1 → SoundAs (kind_of x) v.shape.texts (class_of t) (hand_unboxed o t v) x → ((q : ℕ) → q < rows (kind_of x) (class_of t) → slice_index (hand_unboxed o t v) (version_at (kind_of x) (class_of t) q) ≤ 1)
    → HasReferences v.shape v.log (PutRoot o (suc t) (root_in (held_words o v))) o → MayReplace v o called (Some (suc t))
replaces v o t x called begin is named fresh sound young refs =
    let kind_eq : kind_of x ≡ kind_in v.shape.starts o = sym (ap kind_of is) ∙ kind_known v o begin.mine begin.possible in
    let sound_as : SoundAs (kind_in v.shape.starts o) v.shape.texts (class_of t) (hand_unboxed o t v) (known_state o v).content = subst (λ (z : Kind × Content). SoundAs z.0 v.shape.texts (class_of t) (hand_unboxed o t v) z.1) (λ d. (kind_eq d, sym is d)) sound in
    let low_as : (q : ℕ) → q < rows (kind_in v.shape.starts o) (class_of t) → slice_index (hand_unboxed o t v) (version_at (kind_in v.shape.starts o) (class_of t) q) ≤ 1 = subst (λ (z : Kind). (q : ℕ) → q < rows z (class_of t) → slice_index (hand_unboxed o t v) (version_at z (class_of t) q) ≤ 1) kind_eq young in
    (named, fresh, sound_as, low_as, refs)

module _ (v : View) (o t : ℕ) (x news : Content) (table : TableUse) (write : WholeWrite) (begin : MayBegin v o) (is : (known_state o v).content ≡ x) (facts : WriteFacts v o t x news table write) where
  kind_eq : kind_of x ≡ kind_in v.shape.starts o
  kind_eq = sym (ap kind_of is) ∙ kind_known v o begin.mine begin.possible

  commits : (calls : List Call) → AgreesWith v (stored_newest v.shape.starts calls) → MayCommitWrite v o t write calls
  commits calls agree =
      let past = facts.history calls agree in
      let content_after = content_left v o x begin.low begin.mine is calls agree write.call write.reply news past.answered (content.List []) in
      let table_after = past.table_after in
      let after : container_after v.shape.starts (write.call ∷ calls) o ≡ record { content = news; table = table } = λ d. record { content = content_after d; table = table_after d } in
      let clear_as : ClearAs (kind_in v.shape.starts o) v.shape.texts (class_of t) (at_commit v o write).table (known_state o v).content (container_after v.shape.starts (write.call ∷ calls) o).content = subst (λ (z : Kind × Content × Content). ClearAs z.0 v.shape.texts (class_of t) (at_commit v o write).table z.1 z.2) (λ d. (kind_eq d, sym is d, sym content_after d)) facts.clear in
      record {
        replied = facts.called.replied (reply_in (stored_newest v.shape.starts calls) write.call) (sym (ap (λ (z : Answer). z.reply) past.answered));
        within = past.within;
        declared = facts.called.declared (stored_newest v.shape.starts calls).world (declared_at (stored_newest v.shape.starts calls).world o x (in_world v o x begin.low begin.mine is calls agree) (content_there v o x begin.low begin.mine is calls agree (content.List [])));
        takes = past.takes;
        clear = λ q root. let same : t ≡ q = let r : suc t ≡ suc q = sym facts.names ∙ root in omega (arith, r) in subst (λ (z : ℕ). ClearAs (kind_in v.shape.starts o) v.shape.texts (class_of z) (at_commit v o write).table (known_state o v).content (container_after v.shape.starts (write.call ∷ calls) o).content) same clear_as;
        late = subst (λ (z : Kind × Content). MayPuts z.0 t z.1 true (at_commit v o write) write.late) (λ d. (kind_eq d, sym content_after d)) facts.late;
        stands = subst (Represents v.shape.texts (at_end v o write)) (sym after) facts.ends;
      }

  may_write : MayWriteSo v o t write
  may_write = record {
    of = facts.called.of;
    wrote = facts.called.wrote;
    fits = facts.called.fits;
    locks = facts.called.locks;
    root = facts.root;
    early = subst (λ (z : Kind × Content). MayPuts z.0 t z.1 false (with_root_put v o write.root) write.early) (λ d. (kind_eq d, sym is d)) facts.early;
    boxes = facts.boxes;
    commit = commits;
    shut = λ q root. let same : t ≡ q = let r : suc t ≡ suc q = sym facts.names_still ∙ root in omega (arith, r) in subst (λ (z : Kind × ℕ). Shut (version_at z.0 (class_of z.1)) (rows z.0 (class_of z.1)) (at_end v o write).table) (λ d. (kind_eq d, same d)) facts.shut;
  }

  pub facts_suffice : (start number : ℕ) × (s : Snap) × (stop : ℕ) × IsReachable (after_write_of v o t write start number s stop)
  facts_suffice = write_possible v o t write begin may_write
