-- What a pass with the lock of a set knows of it, and what its words say under its keys.
use Rattle.std.proofs.Common.{◌≡◌, ◌≢◌, ℕ, suc, ◌+◌, ◌*◌, ◌%◌, ◌<◌, ◌≤◌, Bool, true, false, List, [], ◌∷◌, length, find, Some, ap, ◌∙◌, arith}
use Rattle.std.specs.Prelude.{◌&&◌, ◌||◌, All, slice_index_or, option_map}
use Rattle.ft_model.specs.declared.call.Call.{Call}
use Rattle.ft_model.specs.declared.content.Content.{Content}
use Rattle.ft_model.specs.declared.content.Content.TheVariants as content
use Rattle.ft_model.specs.declared.data.Key.{Key}
use Rattle.ft_model.specs.declared.script.Kind.TheVariants as kind
use Rattle.ft_model.specs.Classes.{IsClass, set_entries, most_elements}
use Rattle.ft_model.specs.Contents.{SetContent, empty_set, set_add}
use Rattle.ft_model.specs.Worlds.{set_of, set_at, no_hands}
use Rattle.ft_model.specs.TableUses.{StoredWorld, stored_newest, passes_cap, would_pass}
use Rattle.ft_hash.specs.Probes.{set_slots}
use Rattle.ft_hash.proofs.Walks.{set_slots-within}
use Rattle.ft_layout.specs.Words.{FitsKey}
use Rattle.ft_layout.specs.Tables.{UsedEntry, is_live, set_room}
use Rattle.ft_layout.specs.Containers.{class_mask, used_element, AreSetEntries, IsSetWords}
use Rattle.ft_layout.proofs.FieldLaws.{sizes_of_class}
use Rattle.ft_layout.proofs.Powers.{slots_range}
use Rattle.ft_trace.specs.declared.View.{View}
use Rattle.ft_trace.specs.Addresses.{container_count, class_of, slots, places}
use Rattle.ft_trace.specs.Acts.{has_lock}
use Rattle.ft_trace.specs.Pictures.{root_in, index_field, entry_field, walk_of}
use Rattle.ft_trace.specs.Carefuls.{said_of, HasLiveKey, Reached, Clear, OpensChanged}
use Rattle.ft_trace.specs.Kinds.{under}
use Rattle.ft_trace.specs.Holds.{held_unboxed, known_state, AgreesWith}
use Rattle.ft_trace.proofs.Known.{table_is_long}
use Rattle.ft_trace.proofs.Tellings.{live_is_right, live_below, few_live, key_reached, key_named, words_clear}
use Rattle.ft_trace.proofs.KnownContents.{content_there, content_left}
use Rattle.ft_model.specs.Answers.{answer, answer_set, puts, after_write}
use Rattle.ft_model.specs.declared.call.Call.TheVariants as call
use Rattle.ft_model.specs.declared.call.SetCall.TheVariants as set
use Rattle.ft_model.specs.declared.reply.Reply.TheVariants as reply
use Rattle.std.proofs.lemmas.Bool.{le-ltb}

abbrev pub FirstEntriesAreElements : Type 0
FirstEntriesAreElements = (used : List UsedEntry) (elements : SetContent) (test : UsedEntry → Bool) → AreSetEntries used elements → find (λ entry. is_live entry && test entry) used ≡ option_map used_element (find (λ element. test (used_element element)) elements.elements)

-- ---- what words that stand for a set say under its keys

module _ (first : FirstEntriesAreElements) (texts block : List ℕ) (c fill : ℕ) (is_class : IsClass c) (elements : SetContent) (ws : List ℕ) (says : IsSetWords texts block (0 ∷ 0 ∷ ws) (Some c) fill elements) where
  abbrev tried : ℕ → List ℕ
  tried hash = set_slots hash (class_mask c) (class_mask c + 14)

  pub room_is : set_room (class_mask c) ≡ set_entries c
  room_is = (sizes_of_class c is_class).1

  pub set_right : (p : ℕ) (key : Key) → p < set_entries c → HasLiveKey (slots c) ws p key → under (content.Set elements) key ≡ said_of (slots c) ws p
  set_right p key low live = live_is_right tried (set_room (class_mask c)) texts c is_class says.used ws says.table used_element elements.elements (λ test. first says.used elements test says.entries) p key (let r = room_is in omega (arith, r, low)) live

  pub set_live : (key : Key) → under (content.Set elements) key ≢ [] → (p : ℕ) × (p < set_entries c) × HasLiveKey (slots c) ws p key
  set_live key some = live_below tried (set_room (class_mask c)) texts c is_class says.used ws says.table used_element elements.elements (λ test. first says.used elements test says.entries) (set_entries c) (let r = room_is in omega (arith, r)) key some

  within_mask : (hash : ℕ) → All (λ slot. slot ≤ class_mask c) (tried hash)
  within_mask hash = set_slots-within hash (class_mask c) (class_mask c + 14)

  pub set_reached : (key : Key) → FitsKey key → under (content.Set elements) key ≢ [] → Reached (slots c) (set_entries c) ws (walk_of kind.Set texts c key) key
  unfolding walk_of
  set_reached key fits some = key_reached tried (set_room (class_mask c)) texts c is_class says.used ws says.table within_mask used_element elements.elements (λ test. first says.used elements test says.entries) (set_entries c) (let r = room_is in omega (arith, r)) key fits some

  pub set_named : (s p : ℕ) → s < slots c → index_field ws s ≡ suc p → entry_field (slots c) ws p 2 ≢ 0
  set_named s p less names = key_named tried (set_room (class_mask c)) texts c is_class says.used ws says.table within_mask s p less names

  -- no more elements than entries, and so than the largest table has
  pub set_short : length elements.elements ≤ most_elements
  set_short =
      let a = few_live tried (set_room (class_mask c)) texts c is_class says.used ws says.table used_element elements.elements says.entries.live in
      let e = (sizes_of_class c is_class).1 in
      let r = (slots_range c is_class).1 in
      omega (arith, a, e, r)

-- words that stand for what a call leaves, where entries with even versions are as they were while they stood for what
-- it found
pub set_clear : (first : FirstEntriesAreElements) (texts block before : List ℕ) (c fill more : ℕ) (is_class : IsClass c) (elements news : SetContent) (ws zs : List ℕ) (says : IsSetWords texts before (0 ∷ 0 ∷ ws) (Some c) fill elements) (now : IsSetWords texts block (0 ∷ 0 ∷ zs) (Some c) more news)
    → ((q w : ℕ) → q < set_entries c → entry_field (slots c) zs q 0 % 2 ≡ 0 → w < 8 → entry_field (slots c) zs q w ≡ entry_field (slots c) ws q w) → OpensChanged (slots c) (set_entries c) zs (under (content.Set elements)) (under (content.Set news)) → Clear (walk_of kind.Set texts c) (slots c) (set_entries c) zs (under (content.Set elements)) (under (content.Set news))
set_clear first texts block before c fill more is_class elements news ws zs says now same opens =
    words_clear (walk_of kind.Set texts c) (slots c) (set_entries c) ws zs (under (content.Set elements)) (under (content.Set news)) (set_right first texts before c fill is_class elements ws says) (set_right first texts block c more is_class news zs now) (set_reached first texts block c more is_class news zs now) same opens

-- ---- s.add(k), in each history that agrees with what a pass with the lock of the set knows

module _ (v : View) (o : ℕ) (elements : SetContent) (low : o < container_count v.shape) (mine : has_lock o v.log ≡ true) (is_set : (known_state o v).content ≡ content.Set elements) (calls : List Call) (agree : AgreesWith v (stored_newest v.shape.starts calls)) where
  abbrev stored : StoredWorld
  stored = stored_newest v.shape.starts calls

  pub set_found : set_at stored.world o ≡ elements
  set_found = ap set_of (content_there v o (content.Set elements) low mine is_set calls agree (content.Set empty_set))

  module _ (key : Key) where
    abbrev news_is : SetContent
    news_is = set_add elements key

    abbrev add_call : Call
    add_call = call.Set o (set.Add key)

    pub set_answered : answer stored.world no_hands add_call ≡ puts stored.world no_hands o (content.Set news_is) reply.Done
    set_answered = ap (λ (z : SetContent). answer_set stored.world no_hands o z (set.Add key)) set_found

    set_left_at : (d : Content) → slice_index_or (after_write stored.world add_call) o d ≡ content.Set news_is
    set_left_at = content_left v o (content.Set elements) low mine is_set calls agree add_call reply.Done (content.Set news_is) set_answered

    pub set_left : set_at (after_write stored.world add_call) o ≡ news_is
    set_left = ap set_of (set_left_at (content.Set empty_set))

    pub set_passes_not : length news_is.elements ≤ most_elements → would_pass stored.world add_call ≡ false
    set_passes_not short = ap (λ (z : Content). passes_cap z || false) (set_left_at (content.List [])) ∙ ap (λ (z : Bool). z || false) (le-ltb most_elements (length news_is.elements) short)

-- the words of the table that a set's root names
module _ (v : View) (o t : ℕ) where
  pub set_is_long : root_in (held_unboxed o v) ≡ suc t → slots (class_of t) + 8 * set_entries (class_of t) ≤ length (held_unboxed o v).table
  unfolding places
  set_is_long names = let l = table_is_long v o t names in omega (arith, l)
