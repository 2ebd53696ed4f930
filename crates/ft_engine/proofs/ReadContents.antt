-- `contents`: loads of all containers by a caller with the floor show what their words stand for.
use Rattle.std.proofs.Common.{◌≡◌, ◌≢◌, ◌-◌, ◌/◌, ◌<◌, ℕ, zero, suc, List, [], ◌∷◌, ◌++◌, get_or, length, map, refl, sym, ap, ◌∙◌, subst, arith, inl, inr, ◌⊎◌}
use Rattle.std.specs.Prelude.{slice_get, slice_index, None, Some, Option, Ok, Vec}
use Rattle.std.specs.declared.alloc.Global.{Global}
use Rattle.std.proofs.Math.Bridge.{le_prop}
use Rattle.std.proofs.Math.Logic.{∥∥₁_elim}
use Rattle.std.proofs.Math.Nat.{ℕ_set}
use Rattle.ft_model.specs.declared.content.Content.{Content}
use Rattle.ft_model.specs.declared.content.Content.TheVariants as content
use Rattle.ft_model.specs.declared.data.Value.{Value}
use Rattle.ft_model.specs.declared.entry.Entry.{Entry as NamedEntry}
use Rattle.ft_model.specs.declared.reply.Reply.{Reply}
use Rattle.ft_model.specs.declared.reply.Reply.TheVariants as reply
use Rattle.ft_model.specs.declared.reply.Shown.{Shown}
use Rattle.ft_model.specs.declared.reply.Shown.TheVariants as shown
use Rattle.ft_model.specs.declared.script.Kind.{Kind}
use Rattle.ft_model.specs.declared.script.Kind.TheVariants as kind
use Rattle.ft_model.specs.declared.content.Element.{Element}
use Rattle.ft_model.specs.declared.data.Key.{Key}
use Rattle.ft_model.specs.Answers.{items_of, shown_of}
use Rattle.ft_model.specs.Deques.{DequeContent}
use Rattle.ft_model.specs.TableUses.{TableUse}
use Rattle.ft_model.specs.Worlds.{dict_of, kind_of, list_of, set_of, start_as}
use Rattle.ft_keys.specs.declared.walk.Way.{Way}
use Rattle.ft_keys.specs.declared.walk.Way.TheVariants as way
use Rattle.ft_layout.specs.Containers.{StandsAs}
use Rattle.ft_trace.specs.declared.Act.{Act}
use Rattle.ft_trace.specs.declared.Act.TheVariants.{ReadBlock, ReadCounter, ReadBox, ReadRoot, ReadTable, Version}
use Rattle.ft_trace.specs.declared.Entry.{Entry}
use Rattle.ft_trace.specs.declared.Owner.{Owner}
use Rattle.ft_trace.specs.declared.Told.{Told}
use Rattle.ft_trace.specs.declared.Shape.{Shape}
use Rattle.ft_trace.specs.declared.View.{View}
use Rattle.ft_trace.specs.Acts.{floor_words, place, told_in, Reports}
use Rattle.ft_trace.specs.Addresses.{at, container_count, maker_of, place_in, place_word_of, IsBoxName}
use Rattle.ft_trace.specs.ContainerStates.{kind_in}
use Rattle.ft_trace.specs.LoggedReads.{Agrees, Among}
use Rattle.ft_trace.specs.Boxes.{named_in_all, named_in_root}
use Rattle.ft_trace.specs.BoxTraces.{references}
use Rattle.ft_trace.specs.Unboxed.{box_word_in, unboxed}
use Rattle.ft_trace.specs.Pictures.{ContainerWords, inner, picture, root_in, root_of}
use Rattle.ft_trace.specs.Traces.{IsReachable, run, word}
use Rattle.ft_trace.proofs.BoxValues.{box_name, box_there}
use Rattle.ft_trace.proofs.Floored.{floored}
use Rattle.ft_trace.proofs.NamedBoxes.{named_low}
use Rattle.ft_trace.proofs.Pieces.{block_at, table_at}
use Rattle.ft_trace.proofs.PlainPuts.{named_is}
use Rattle.ft_bank.specs.declared.pass.Pass.{Pass}
use Rattle.ft_bank.specs.Passes.{shape_of, view, IsPassOf}
use Rattle.ft_bank.specs.PassSections.{stack_of}
use Rattle.ft_bank.specs.Whole.{OnlyLoaded}
use Rattle.ft_bank_history.specs.LastContents.{AreShownBy, IsLast, IsShownAs}
use Rattle.ft_bank_history.specs.Numbering.{HaveNamedEntries}
use Rattle.ft_section.specs.Ready.{IsStill}
use Rattle.ft_search.specs.Floors.{LooksWithFloor}
use Rattle.ft_search.specs.Rounds.{kind_by}
use Rattle.ft_search.proofs.ReadMidst.{still_loaded}
use Rattle.ft_search.proofs.LoadedLooks.{looks_append, looks_did}
use Rattle.ft_search.proofs.LookMoments.{value_lasts, Lasts}
use Rattle.ft_search.proofs.LookSteps.{loads_are_steps}
use Rattle.ft_search.specs.KeyLooks.{AreLooks}
use Rattle.ft_search.proofs.Running.{did_log, did_none, did_trans}
use Rattle.ft_search.proofs.Undisturbed.{among_found}
use Rattle.ft_list.specs.Scans.{IsOfItems}
use Rattle.ft_reads.specs.Copies.{AreCopied}
use Rattle.ft_reads.specs.Reads.{AgreesRead, Reads, ShowsRead}
use Rattle.ft_reads.proofs.Agreeing.{read_newer, read_older}
use Rattle.ft_whole_tables.specs.Items.{IsAllIn}
use Rattle.ft_engine.specs.declared.caller.Caller.{Caller}
use Rattle.ft_engine.specs.declared.engine.Engine.{Engine}
use Rattle.ft_engine.specs.Callers.{IsCallerOf}
use Rattle.ft_engine.specs.Contents.{AreReadBy, AreShownIn, HasOnlyRead, ReadsFirst}
use Rattle.ft_engine.specs.DoneCallers.{WereAnswered}
use Rattle.ft_engine.specs.Resting.{HasFloor}
use Rattle.ft_engine.proofs.AtRest.{as_before, still_of}
use Rattle.ft_engine.proofs.Callers.{same_but_pass, steady_caller, steady_kept}
use Rattle.ft_engine.proofs.PassesAfter.{IsSteady}
use Rattle.ft_engine.proofs.Presences.{same_online}

-- ---- one container

dict_all : (said : Reply) (all : Shown) (there : Content) → kind_of there ≡ kind.Dict → said ≡ reply.Dict (items_of (dict_of there).pairs) → ((pairs : List (Key × Value)) → said ≡ reply.Dict pairs → all ≡ shown.Dict pairs) → all ≡ shown_of there
dict_all said all (content.Dict dict) of_kind is pairs = pairs (items_of dict.pairs) is
dict_all said all (content.List items) of_kind is pairs = absurd (let e : kind.List ≡ kind.Dict = of_kind in cc)
dict_all said all (content.Set set) of_kind is pairs = absurd (let e : kind.Set ≡ kind.Dict = of_kind in cc)
dict_all said all (content.Deque deque) of_kind is pairs = absurd (let e : kind.Deque deque.bound ≡ kind.Dict = of_kind in cc)

set_all : (said : Reply) (all : Shown) (there : Content) → kind_of there ≡ kind.Set → said ≡ reply.Set (map (λ (element : Element). element.key) (set_of there).elements) → ((keys : List Key) → said ≡ reply.Set keys → all ≡ shown.Set keys) → all ≡ shown_of there
set_all said all (content.Set set) of_kind is keys = keys (map (λ (element : Element). element.key) set.elements) is
set_all said all (content.Dict dict) of_kind is keys = absurd (let e : kind.Dict ≡ kind.Set = of_kind in cc)
set_all said all (content.List items) of_kind is keys = absurd (let e : kind.List ≡ kind.Set = of_kind in cc)
set_all said all (content.Deque deque) of_kind is keys = absurd (let e : kind.Deque deque.bound ≡ kind.Set = of_kind in cc)

-- what the copy of a dict or a set shows of words
pub copy_shown : (w : Way) (k : Shape) (o : ℕ) (said : Reply) (all : Shown) (x : ContainerWords) → kind_in k.starts o ≡ kind_by w → ((pairs : List (Key × Value)) → said ≡ reply.Dict pairs → all ≡ shown.Dict pairs) → ((keys : List Key) → said ≡ reply.Set keys → all ≡ shown.Set keys) → IsAllIn w k (Ok said) x → IsShownAs k o all x
copy_shown way.Dict k o said all x is pairs keys copied kept of_kind stands = dict_all said all kept.content (of_kind ∙ is) (copied kept (of_kind ∙ is) stands).0 pairs
copy_shown way.Set k o said all x is pairs keys copied kept of_kind stands = set_all said all kept.content (of_kind ∙ is) (copied kept (of_kind ∙ is) stands).0 keys

list_all : (items : List Value) (there : Content) → kind_of there ≡ kind.List → items ≡ list_of there → shown.List items ≡ shown_of there
list_all items (content.List own) of_kind is = ap shown.List is
list_all items (content.Dict dict) of_kind is = absurd (let e : kind.Dict ≡ kind.List = of_kind in cc)
list_all items (content.Set set) of_kind is = absurd (let e : kind.Set ≡ kind.List = of_kind in cc)
list_all items (content.Deque deque) of_kind is = absurd (let e : kind.Deque deque.bound ≡ kind.List = of_kind in cc)

-- and that of a list
pub items_shown : (k : Shape) (o : ℕ) (items : Vec Value Global) (x : ContainerWords) → kind_in k.starts o ≡ kind.List → IsOfItems k (AreCopied (Ok items)) x → IsShownAs k o (shown.List items.items) x
items_shown k o items x is copied kept of_kind stands = list_all items.items kept.content (of_kind ∙ is) (copied kept (of_kind ∙ is) stands).0

deque_all : (texts block words : List ℕ) (table : TableUse) (bound : Option ℕ) (there : Content) → kind_of there ≡ kind.Deque bound → StandsAs texts block words table there → shown.List [] ≡ shown_of there
deque_all texts block words table bound (content.Deque deque) of_kind stands = ap (λ (d : DequeContent). shown.List d.items) (sym stands.2)
deque_all texts block words table bound (content.List own) of_kind stands = absurd (let e : kind.List ≡ kind.Deque bound = of_kind in cc)
deque_all texts block words table bound (content.Dict dict) of_kind stands = absurd (let e : kind.Dict ≡ kind.Deque bound = of_kind in cc)
deque_all texts block words table bound (content.Set set) of_kind stands = absurd (let e : kind.Set ≡ kind.Deque bound = of_kind in cc)

-- no words stand for a deque that has an item
pub deque_shown : (k : Shape) (o : ℕ) (bound : Option ℕ) (x : ContainerWords) → kind_in k.starts o ≡ kind.Deque bound → IsShownAs k o (shown.List []) x
deque_shown k o bound x is kept of_kind stands = deque_all k.texts x.block (0 ∷ 0 ∷ x.table) kept.table bound kept.content (of_kind ∙ is) stands

-- ---- all of them

pub kind_there : (kinds : List Kind) (o : ℕ) (d : Kind) → o < length kinds → kind_in (map start_as kinds) o ≡ get_or kinds o d
kind_there [] o d low = absurd (omega (arith, low))
kind_there (one ∷ kinds) zero d low = refl
kind_there (one ∷ kinds) (suc o) d low = kind_there kinds o d (omega (arith, low))

pub push_found : {A : Type 0} (l : List A) (x y : A) (n : ℕ) → slice_get (l ++ x ∷ []) n ≡ Some y → (slice_get l n ≡ Some y) ⊎ ((n ≡ length l) × (x ≡ y))
push_found [] x y zero at = inr (refl, (let same : Some x ≡ Some y = at in cc))
push_found [] x y (suc n) at = absurd (let none : None ≡ Some y = at in cc)
push_found (z ∷ l) x y zero at = inl at
push_found (z ∷ l) x y (suc n) at =
    elim (push_found l x y n at) [
      | inl found ↦ inl found
      | inr last ↦ inr (ap suc last.0, last.1)
    ]

push_read : (k : Shape) (a b : List Act) (all : List Shown) (one : Shown) → AreReadBy k a all → ShowsRead k (length all) b (IsShownAs k (length all) one) → AreReadBy k (b ++ a) (all ++ one ∷ [])
push_read k a b all one each last o shown at x box agrees =
    elim (push_found all one shown o at) [
      | inl found ↦ each o shown found x box (read_older k o x box b a agrees)
      | inr new ↦
          let same = sym new.0 in
          subst (λ (z : ℕ × Shown). IsShownAs k z.0 z.1 (unboxed box (kind_in k.starts z.0) x)) (λ d. (same d, new.1 d)) (last x box (subst (λ (z : ℕ). AgreesRead k z b x box) new.0 (read_newer k o x box b a agrees)))
    ]

-- what is at a place is below the length
shown_low : (all : List Shown) (o : ℕ) (one : Shown) → slice_get all o ≡ Some one → o < length all
shown_low [] o one at = absurd (let none : None ≡ Some one = at in cc)
shown_low (first ∷ all) zero one at = omega arith
shown_low (first ∷ all) (suc o) one at = let low = shown_low all o one at in omega (arith, low)

none_read : (k : Shape) (part : List Act) → AreReadBy k part []
none_read k part o shown at x box agrees = absurd (let none : None ≡ Some shown = at in cc)

-- nothing was read yet
pub reads_start : (k : Shape) (p : Pass) → ReadsFirst k [] p p
reads_start k p = ([], tt, did_none p, none_read k [])

-- one container more
pub reads_more : (k : Shape) (all : List Shown) (one : Shown) (p q r : Pass) → ReadsFirst k all p q → Reads k (length all) (λ x. IsShownAs k (length all) one x) q r → ReadsFirst k (all ++ one ∷ []) p r
reads_more k all one p q r a b = (b.0 ++ a.0, looks_append b.0 a.0 b.1 a.1, did_trans b.0 a.0 p q r a.2 b.2, push_read k a.0 b.0 all one a.3 b.3)

-- whatever was read
pub reads_on : (k : Shape) (all : List Shown) (o : ℕ) (P : ContainerWords → Type 0) (p q r : Pass) → ReadsFirst k all p q → Reads k o P q r → ReadsFirst k [] p r
reads_on k all o P p q r a b = (b.0 ++ a.0, looks_append b.0 a.0 b.1 a.1, did_trans b.0 a.0 p q r a.2 b.2, none_read k (b.0 ++ a.0))

pub reads_some : (k : Shape) (all : List Shown) (p q : Pass) → ReadsFirst k all p q → ReadsFirst k [] p q
reads_some k all p q a = (a.0, a.1, a.2, none_read k a.0)

-- ---- with the floor

module _ (w : View) (part : List Act) (possible : ∥ IsReachable w ∥₁) (l : LooksWithFloor w part) where
  abbrev ws : List ℕ
  ws = floor_words w.shape w.number w.log

  -- each load of a word that no look changes found the word that the pass knows
  found_known : (a : Act) (f : ℕ) → Lasts (place a) → ((n : ℕ) → Reports a n → f ≡ n) → Among a part → f ≡ slice_index ws (at w.shape (place a))
  found_known a f lasts says m =
      ∥∥₁_elim possible (ℕ_set f (slice_index ws (at w.shape (place a))))
      (λ p. says (word w.shape p.0 (place a)) (among_found w part p l a lasts m) ∙ ap (λ (xs : List ℕ). slice_index xs (at w.shape (place a))) (sym ((floored w.shape p.0 p.2.0 p.1 w p.2.1).has l.floor).1))

  agrees_known : (o : ℕ) → Agrees w.shape o part (picture w.shape o ws)
  agrees_known o =
      let k = w.shape in
      record {
        root = λ f m. found_known (ReadRoot o f) f tt (λ n says. says) m ∙ sym (block_at k o ws 0 (omega arith));
        block = λ i f low m. found_known (ReadBlock o i f) f tt (λ n says. says) m ∙ sym (block_at k o ws i low);
        table = λ t i f is low names m.
            let root : root_of k o ws ≡ suc t = sym (block_at k o ws 0 (omega arith)) ∙ names in
            found_known (ReadTable t i f) f tt (λ n says. says) m ∙ (sym (table_at k t ws i low) ∙ ap (λ (r : ℕ). slice_index (inner k r ws) i) (sym root));
      }

  -- each box that the words of a container name is one of the bank
  names_known : (o b : ℕ) → o < container_count w.shape → named_in_root b (kind_in w.shape.starts o) (root_in (picture w.shape o ws)) (picture w.shape o ws).table ≢ 0 → IsBoxName w.shape b
  names_known o b low names =
      let k = w.shape in
      let by : IsReachable w → IsBoxName k b = λ p.
      let es = p.0 in
      let now : ws ≡ (run k es).words = ((floored k es p.2.0 p.1 w p.2.1).has l.floor).1 in
      let n = named_is k o b ws in
      let all = named_low k b o ws low in
      let same : named_in_all k b ws ≡ named_in_all k b (run k es).words = ap (named_in_all k b) now in
      let some_ : references k b es ≢ 0 = λ z. names (omega (arith, n, all, same, z)) in
      let up = box_there k b es p.2.0 some_ in
      box_name k b es p.2.0 (λ z. absurd (omega (arith, up, z))) in (
        ∥∥₁_elim {P = maker_of b < k.passes} possible le_prop (λ p. (by p).0),
        ∥∥₁_elim {P = place_in b < k.heap} possible le_prop (λ p. (by p).1),
        ∥∥₁_elim {P = place_word_of b < k.heap / 64} possible le_prop (λ p. (by p).2),
      )

  pub read_known : (o : ℕ) → o < container_count w.shape → AgreesRead w.shape o part (picture w.shape o ws) (box_word_in w.shape ws)
  read_known o low = (
    agrees_known o,
    λ b names. (names_known o b low names, λ i f which m. found_known (ReadBox b i f) f (value_lasts b i which) (λ n says. says) m),
  )

-- ---- a caller

loaded_steady : (v w : View) → OnlyLoaded v w → IsStill v → IsSteady v w
loaded_steady v w l s = record {
  number = l.work.pass.number;
  next = l.work.pass.next;
  parts = l.work.pass.parts;
  shape = l.work.pass.shape;
  lists = l.work.pass.lists;
  entries = l.work.entries;
  left = l.work.left;
  locks = l.work.pass.locks;
  begun = l.work.pass.begun;
  cursors = l.work.pass.cursors;
  owners = l.work.pass.owners;
  seen = l.work.pass.seen;
  merged = λ merged b own. merged b (sym (l.boxes.made.state b) ∙ own);
  still = still_loaded v w l s;
}

-- loads tell it nothing
looks_told : (l rest : List Act) → AreLooks l → told_in (l ++ rest) ≡ told_in rest
looks_told [] rest q = refl
looks_told (Version o f ∷ l) rest q = looks_told l rest q
looks_told (ReadBlock o i f ∷ l) rest q = looks_told l rest q
looks_told (ReadRoot o f ∷ l) rest q = looks_told l rest q
looks_told (ReadTable t i f ∷ l) rest q = looks_told l rest q
looks_told (ReadCounter f ∷ l) rest q = looks_told l rest q
looks_told (ReadBox c j f ∷ l) rest q = looks_told l rest q
looks_told (act ∷ l) rest q = absurd q

-- the lists of a caller and of those that it took in, where its pass has done nothing that they speak of
pub steady_all : (c d : Caller) (lists : List (List NamedEntry)) → IsSteady (view c.pass) (view d.pass) → stack_of d.pass ≡ stack_of c.pass → d.flight ≡ c.flight → told_in (view d.pass).log ≡ told_in (view c.pass).log → WereAnswered c lists → WereAnswered d lists
steady_all c d [] steady stack flies told are = absurd are
steady_all c d (mine ∷ others) steady stack flies told are = (
  steady_kept c d mine steady stack flies are.0,
  subst (λ (x : ℕ × List (List Entry) × List Owner × List Owner × List Told). HaveNamedEntries (suc (x.0 - 1)) others x.1 x.2 x.3 x.4)
      (λ d. (sym steady.number d, sym steady.lists d, sym steady.owners.had d, sym steady.owners.found d, sym told d)) are.1,
)

-- who has taken in all others and has the floor
pub last_known : (e : Engine) (c : Caller) → IsCallerOf e c → (view c.pass).parts ≡ (shape_of e.bank).passes → HasFloor c → IsLast (view c.pass)
last_known e c is all has = record { all = all ∙ sym (ap (λ (k : Shape). k.passes) is.pass.1); floor = has; still = (still_of e c is).even }

module _ (e : Engine) (c : Caller) (q : Pass) (all : List Shown) (is : IsCallerOf e c) (pass : IsPassOf e.bank q) (r : ReadsFirst (shape_of e.bank) all c.pass q) where
  abbrev now : Caller
  now = record c { pass = q }

  only_loaded : OnlyLoaded (view c.pass) (view q)
  only_loaded = looks_did r.0 c.pass q r.1 r.2

  read_steady : IsSteady (view c.pass) (view q)
  read_steady = loaded_steady (view c.pass) (view q) only_loaded (still_of e c is)

  pub read_caller : IsCallerOf e now
  read_caller = steady_caller e c now is (same_but_pass c q) pass r.2.2 read_steady

  pub only_read : HasOnlyRead c now
  only_read = record {
    same = as_before c now (same_but_pass c q) r.2.2 read_steady only_loaded.work.pass.announced only_loaded.work.presence;
    floor = record { floor = only_loaded.work.pass.floor; since = only_loaded.work.pass.since };
    kept = λ lists. steady_all c now lists read_steady r.2.2 refl (ap told_in (did_log r.0 c.pass q r.2) ∙ looks_told r.0 (view c.pass).log r.1);
    online = same_online c now read_steady.number read_steady.lists only_loaded.work.presence (ap told_in (did_log r.0 c.pass q r.2) ∙ looks_told r.0 (view c.pass).log r.1);
  }

  looks_now : HasFloor c → LooksWithFloor (view q) r.0
  looks_now has = record {
    older = (view c.pass).log;
    is = did_log r.0 c.pass q r.2;
    looks = loads_are_steps r.0 r.1;
    floor = only_loaded.work.pass.floor ∙ has;
    still = read_steady.still.even;
  }

  pub shown_known : HasFloor c → length all ≡ container_count (shape_of e.bank) → AreShownIn now all
  shown_known has count =
      let k = shape_of e.bank in
      let w = view q in
      subst (λ (s : Shape). AreShownBy s (floor_words s w.number w.log) all) (sym pass.1)
      (record {
        count = count;
        each = λ o shown at.
            let here : o < container_count k = subst (λ (n : ℕ). o < n) count (shown_low all o shown at) in
            let low : o < container_count w.shape = subst (λ (s : Shape). o < container_count s) (sym pass.1) here in
            let agrees = read_known w r.0 q.possible (looks_now has) o low in
            r.3 o shown at (picture k o (floor_words k w.number w.log)) (box_word_in k (floor_words k w.number w.log)) (subst (λ (s : Shape). AgreesRead s o r.0 (picture s o (floor_words s w.number w.log)) (box_word_in s (floor_words s w.number w.log))) pass.1 agrees);
      })
