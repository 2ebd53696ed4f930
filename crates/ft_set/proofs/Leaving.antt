-- What calls on a set leave of it, in the words of the plain containers.
use Rattle.std.proofs.Common.{◌≡◌, ◌≢◌, ℕ, ◌+◌, ◌-◌, ◌<◌, ◌≤◌, Bool, true, false, List, [], ◌∷◌, ◌++◌, length, filter, Option, Some, None, refl, sym, ap, ◌∙◌, subst, inr, arith, get_or-set_same}
use Rattle.std.proofs.lemmas.Bool.{le-ltb}
use Rattle.std.specs.Prelude.{◌&&◌, ◌||◌, map, not, cond, IfSome, slice_index_or, if◌then◌else◌}
use Rattle.std.specs.List.{list_any}
use Rattle.std.specs.Option.{unwrap_or}
use Rattle.ft_model.specs.declared.call.Call.{Call}
use Rattle.ft_model.specs.declared.call.Call.TheVariants as call
use Rattle.ft_model.specs.declared.call.SetCall.{SetCall}
use Rattle.ft_model.specs.declared.call.SetCall.TheVariants as set
use Rattle.ft_model.specs.declared.call.TableChange.{TableChange}
use Rattle.ft_model.specs.declared.call.TableChange.TheVariants as change
use Rattle.ft_model.specs.declared.content.Content.{Content}
use Rattle.ft_model.specs.declared.content.Content.TheVariants as content
use Rattle.ft_model.specs.declared.content.Element.{Element}
use Rattle.ft_model.specs.declared.data.Key.{Key}
use Rattle.ft_model.specs.declared.reply.Reply.{Reply}
use Rattle.ft_model.specs.declared.reply.Reply.TheVariants as reply
use Rattle.ft_model.specs.declared.reply.Raise.TheVariants as raise
use Rattle.ft_model.specs.declared.script.Kind.TheVariants as kind
use Rattle.ft_model.specs.Answers.{Answer, answer, answer_set, puts, shows, after_write, is_raised}
use Rattle.ft_model.specs.Calls.{is_changing_set, other_set, cursor_of_set, set_change, adds, one_or_two}
use Rattle.ft_model.specs.TablesInOrder.{HasTableFor, IsTableFor}
use Rattle.ft_model.specs.Classes.{set_class, set_entries, most_elements}
use Rattle.ft_layout.proofs.Powers.{slots_range}
use Rattle.ft_model.specs.Contents.{SetContent, empty_set, has_element, set_discard}
use Rattle.ft_model.specs.Keys.{same_key}
use Rattle.ft_model.specs.TableUses.{StoredWorld, TableUse, no_table, takes_in, table_at, change_takes, change_leaves, set_takes, outgrows_set, grown_table, passes_cap, would_pass, after_stored}
use Rattle.ft_model.specs.Worlds.{set_of, set_at, named_in, no_hands, IsOfKind, IsDeclared}
use Rattle.ft_layout.specs.Words.{FitsKey}
use Rattle.ft_trace.specs.declared.Shape.{Shape}
use Rattle.ft_trace.specs.declared.View.{View}
use Rattle.ft_trace.specs.Acts.{has_lock}
use Rattle.ft_trace.specs.Addresses.{container_count}
use Rattle.ft_trace.specs.FitCalls.{FitsSetCall, FitsContent}
use Rattle.ft_trace.specs.Holds.{known_state}
use Rattle.ft_trace.specs.Kinds.{under}
use Rattle.ft_trace.specs.Traces.{IsReachable}
use Rattle.ft_trace.specs.ContainerStates.{ContainerState, state_at, kind_in, reply_in}
use Rattle.ft_trace.proofs.Known.{declared_at, at_any}
use Rattle.ft_trace.proofs.LookReplies.{element_there}
use Rattle.ft_trace.proofs.Naming.{named_locked}
use Rattle.ft_bank.specs.WriteSteps.{MayHave}
use Rattle.ft_search.specs.MadeCalls.{IsShownBy}
use Rattle.ft_search.specs.Held.{IsHeldAt}
use Rattle.ft_search.specs.OneEntryWrites.{Leaves, MayWriteEntries, without_key}
use Rattle.ft_search.proofs.FoundInContents.{set_known}

some_words : (words : List ℕ) (a b c : ℕ) → words ≡ a ∷ b ∷ c ∷ [] → words ≢ []
some_words words a b c is none = let e = sym is ∙ none in absurd (cc)

-- a pass that may write a set knows that it is one
pub known_set : (k : Shape) (v : View) (s : ℕ) → v.shape ≡ k → ∥ IsReachable v ∥₁ → MayWriteEntries k s v → kind_in k.starts s ≡ kind.Set → (elements : SetContent) × ((known_state s v).content ≡ content.Set elements) × (s < container_count v.shape)
known_set k v s shape possible may is =
    let p = set_known v s possible may.locked (ap (λ (z : Shape). kind_in z.starts s) shape ∙ is) in
    (p.0, p.1, subst (λ (z : Shape). s < container_count z) (sym shape) may.container)

-- nothing is taken out that isn't there
discard_same : (elements : List Element) (key : Key) → has_element elements key ≡ false → filter (λ (element : Element). not (same_key element.key key)) elements ≡ elements
discard_same [] key none = refl
discard_same (element ∷ elements) key none =
    elim (same_key element.key key) as (λ b. (b || has_element elements key) ≡ false → cond (not b) (element ∷ filter (λ (element : Element). not (same_key element.key key)) elements) (filter (λ (element : Element). not (same_key element.key key)) elements) ≡ element ∷ elements) [
      | true ↦ λ yes. absurd (cc)
      | false ↦ λ no. ap (λ (z : List Element). element ∷ z) (discard_same elements key no)
    ] none

module _ (s : ℕ) (v : View) (elements : SetContent) (low : s < container_count v.shape) (mine : has_lock s v.log ≡ true) (is_set : (known_state s v).content ≡ content.Set elements) (stored : StoredWorld) (has : MayHave v stored) where
  abbrev world : List Content
  world = stored.world

  pub there : slice_index_or world s (content.List []) ≡ content.Set elements
  there = ap (λ (z : ContainerState). z.content) (has.agrees s low mine) ∙ is_set

  pub many : s < length world
  many = subst (λ (n : ℕ). s < n) (sym has.containers) low

  pub many_tables : s < length stored.tables
  many_tables = subst (λ (n : ℕ). s < n) (sym (has.order.as_many ∙ has.containers)) low

  pub set_is : set_at world s ≡ elements
  set_is = ap set_of (at_any world s (content.Set empty_set) (content.List []) many ∙ there)

  each_fits : FitsContent (content.Set elements)
  each_fits = subst FitsContent there (has.words s (content.List []) many)

  pub table_is : table_at stored.tables s ≡ (known_state s v).table
  table_is = ap (λ (z : ContainerState). z.table) (has.agrees s low mine)

  module _ (sc : SetCall) (said : Reply) where
    pub replies : (a : Answer) → answer_set world no_hands s elements sc ≡ a → a.reply ≡ said → reply_in stored (call.Set s sc) ≡ said
    replies a answered is = ap (λ (z : SetContent). (answer_set world no_hands s z sc).reply) set_is ∙ (ap (λ (z : Answer). z.reply) answered ∙ is)

    pub declared : other_set sc ≡ None → cursor_of_set sc ≡ None → IsDeclared world no_hands (call.Set s sc)
    declared other cursor = record {
      one = declared_at world s (content.Set elements) many there;
      both = subst (λ (z : Option ℕ). IfSome z (λ p. IsOfKind world kind.Set p)) (sym other) tt;
      room = subst (λ (z : Option ℕ). IfSome z (λ (n : ℕ). n < 0)) (sym cursor) tt;
    }

    module _ (news : SetContent) (answered : answer_set world no_hands s elements sc ≡ puts world no_hands s (content.Set news) said) where
      answer_is : answer world no_hands (call.Set s sc) ≡ puts world no_hands s (content.Set news) said
      answer_is = ap (λ (z : SetContent). answer_set world no_hands s z sc) set_is ∙ answered

      pub left_at : (e : Content) → slice_index_or (after_write world (call.Set s sc)) s e ≡ content.Set news
      left_at e = ap (λ (z : Answer). slice_index_or z.world s e) answer_is ∙ get_or-set_same world s (content.Set news) e many

      stays : set_change sc ≡ change.Stays → state_at (after_stored stored (call.Set s sc)) s ≡ record { content = content.Set news; table = (known_state s v).table }
      stays same =
          let c = left_at (content.List []) in
          let t = ap (λ (z : TableChange). table_at (change_leaves stored.tables s z (grown_table (table_at stored.tables s) (takes_in stored (call.Set s sc)) ((set_at (after_write world (call.Set s sc)) s).next - (set_at world s).next) (length (set_at (after_write world (call.Set s sc)) s).elements)) no_table) s) same ∙ table_is in
          λ i. record { content = c i; table = t i }

-- a call that stores nothing new
pub leaves_stay : (s : ℕ) (v : View) (elements news : SetContent) (sc : SetCall) (said : Reply) → s < container_count v.shape → has_lock s v.log ≡ true → (known_state s v).content ≡ content.Set elements → is_changing_set sc ≡ true → is_raised said ≡ false → other_set sc ≡ None → cursor_of_set sc ≡ None → set_change sc ≡ change.Stays → FitsSetCall sc
    → ((stored : StoredWorld) → MayHave v stored → answer_set stored.world no_hands s elements sc ≡ puts stored.world no_hands s (content.Set news) said)
    → Leaves s (call.Set s sc) said (record { content = content.Set news; table = (known_state s v).table }) v
leaves_stay s v elements news sc said low mine is_set changing quiet other cursor same fits answered = record {
  write = (λ i. changing i && not (quiet i));
  changed = (λ i. unwrap_or (if changing i then Some s else None) 0);
  words = fits;
  locks = named_locked s (other_set sc) v.log mine (subst (λ (z : Option ℕ). IfSome z (λ q. has_lock q v.log ≡ true)) (sym other) tt);
  replied = λ stored has. replies s v elements low mine is_set stored has sc said (puts stored.world no_hands s (content.Set news) said) (answered stored has) refl;
  declared = λ stored has. declared s v elements low mine is_set stored has sc said other cursor;
  fits = λ stored has. ap (λ (z : TableChange). adds z && list_any passes_cap (named_in (after_write stored.world (call.Set s sc)) (call.Set s sc))) same;
  left_is = λ stored has. stays s v elements low mine is_set stored has sc said news (answered stored has) same;
}

-- ---- calls that take an element out

module _ (s : ℕ) (v : View) (elements : SetContent) (low : s < container_count v.shape) (mine : has_lock s v.log ≡ true) (is_set : (known_state s v).content ≡ content.Set elements) (key : Key) (fits : FitsKey key) where
  pub has_there : (kind payload : ℕ) → IsHeldAt (content.Set elements) key (Some (kind, payload)) → (stored : StoredWorld) → MayHave v stored → has_element elements.elements key ≡ true
  has_there kind payload held stored has = element_there elements key fits (each_fits s v elements low mine is_set stored has) (some_words (under (content.Set elements) key) kind payload held.0 held.1)

  abbrev left : ContainerState
  left = record { content = without_key (known_state s v).content key; table = (known_state s v).table }

  left_is : record { content = content.Set (set_discard elements key); table = (known_state s v).table } ≡ left
  left_is = λ i. record { content = without_key (sym is_set i) key; table = (known_state s v).table }

  pub discard_leaves : Leaves s (call.Set s (set.Discard key)) reply.Done left v
  discard_leaves =
      subst (λ (z : ContainerState). Leaves s (call.Set s (set.Discard key)) reply.Done z v) left_is
      (leaves_stay s v elements (set_discard elements key) (set.Discard key) reply.Done low mine is_set refl refl refl refl refl fits (λ stored has. refl))

  pub remove_leaves : (kind payload : ℕ) → IsHeldAt (known_state s v).content key (Some (kind, payload)) → Leaves s (call.Set s (set.Remove key)) reply.Done left v
  remove_leaves kind payload held =
      let h = subst (λ (z : Content). IsHeldAt z key (Some (kind, payload))) is_set held in
      subst (λ (z : ContainerState). Leaves s (call.Set s (set.Remove key)) reply.Done z v) left_is
      (leaves_stay s v elements (set_discard elements key) (set.Remove key) reply.Done low mine is_set refl refl refl refl refl fits
      (λ stored has. ap (λ (b : Bool). if b then puts stored.world no_hands s (content.Set (set_discard elements key)) reply.Done else shows stored.world no_hands (reply.Raised raise.NoKey)) (has_there kind payload h stored has)))

  module _ (none : IsHeldAt (known_state s v).content key None) where
    missing : has_element elements.elements key ≡ false
    missing = subst (λ (z : Content). IsHeldAt z key None) is_set none

    pub nothing_leaves : Leaves s (call.Set s (set.Discard key)) reply.Done (known_state s v) v
    nothing_leaves =
        let same : left ≡ known_state s v = sym left_is ∙ ((λ i. record { content = content.Set (record { next = elements.next; elements = discard_same elements.elements key missing i }); table = (known_state s v).table }) ∙ (λ i. record { content = sym is_set i; table = (known_state s v).table })) in
        subst (λ (z : ContainerState). Leaves s (call.Set s (set.Discard key)) reply.Done z v) same discard_leaves

    pub remove_raises : IsShownBy (call.Set s (set.Remove key)) (reply.Raised raise.NoKey) v
    remove_raises = record {
      read = refl;
      cursor = refl;
      plain = λ stored is. inr (sym is);
      replied = λ stored has.
          replies s v elements low mine is_set stored has (set.Remove key) (reply.Raised raise.NoKey) (shows stored.world no_hands (reply.Raised raise.NoKey))
          (ap (λ (b : Bool). if b then puts stored.world no_hands s (content.Set (set_discard elements key)) reply.Done else shows stored.world no_hands (reply.Raised raise.NoKey)) missing) refl;
      cause = λ stored log n. refl;
    }

-- ---- a call that may grow, and draws no serial

table_short : (n : ℕ) (class : Option ℕ) (fill : ℕ) → HasTableFor n class fill set_entries → n ≤ most_elements
table_short n None fill h = let z = h.0 in omega (arith, z)
table_short n (Some c) fill h = let a = h.1 in let b = h.2 in let r = (slots_range c h.0).1 in omega (arith, a, b, r)

module _ (s : ℕ) (v : View) (elements news : SetContent) (sc : SetCall) (said : Reply) (low : s < container_count v.shape) (mine : has_lock s v.log ≡ true) (is_set : (known_state s v).content ≡ content.Set elements) (other : other_set sc ≡ None) (grows : set_change sc ≡ change.Grows) (draws : news.next ≡ elements.next) (count : length news.elements ≡ length elements.elements) (stored : StoredWorld) (has : MayHave v stored)
    (answered : answer_set stored.world no_hands s elements sc ≡ puts stored.world no_hands s (content.Set news) said) where
  abbrev called : Call
  called = call.Set s sc

  abbrev after : List Content
  after = after_write stored.world called

  abbrev T : TableUse
  T = table_at stored.tables s

  left_now : (e : Content) → slice_index_or after s e ≡ content.Set news
  left_now = left_at s v elements low mine is_set stored has sc said news answered

  none_drawn : (set_at after s).next - (set_at stored.world s).next ≡ 0
  none_drawn =
      let a : (set_at after s).next ≡ news.next = ap (λ (z : Content). (set_of z).next) (left_now (content.Set empty_set)) in
      let e : (set_at stored.world s).next ≡ elements.next = ap (λ (z : SetContent). z.next) (set_is s v elements low mine is_set stored has) in
      omega (arith, a, e, draws)

  takes_none : takes_in stored called ≡ None
  takes_none =
      ap (λ (z : TableChange). change_takes z (set_takes T (set_at stored.world s) (set_at after s)) None) grows
      ∙ ap (λ (z : ℕ). if outgrows_set T z then Some (set_class (length (set_at after s).elements)) else None) none_drawn

  pub same_kept : state_at (after_stored stored called) s ≡ record { content = content.Set news; table = (known_state s v).table }
  same_kept =
      let drawn = (set_at after s).next - (set_at stored.world s).next in
      let many_elements = length (set_at after s).elements in
      let fill_is : T.fill + drawn ≡ T.fill = let e = none_drawn in omega (arith, e) in
      let c = left_now (content.List []) in
      let t : table_at (after_stored stored called).tables s ≡ (known_state s v).table =
      ap (λ (z : TableChange). table_at (change_leaves stored.tables s z (grown_table T (takes_in stored called) drawn many_elements) no_table) s) grows
      ∙ (get_or-set_same stored.tables s (grown_table T (takes_in stored called) drawn many_elements) no_table (many_tables s v elements low mine is_set stored has)
      ∙ (ap (λ (z : Option ℕ). grown_table T z drawn many_elements) takes_none
      ∙ ((λ i. record { class = T.class; fill = fill_is i; keys = T.keys }) ∙ table_is s v elements low mine is_set stored has))) in
      λ i. record { content = c i; table = t i }

  few : length news.elements ≤ most_elements
  few =
      let each : HasTableFor (length elements.elements) T.class T.fill set_entries = subst (λ (z : Content). IsTableFor z T) (there s v elements low mine is_set stored has) (has.order.each s) in
      let low_count = table_short (length elements.elements) T.class T.fill each in
      subst (λ (z : ℕ). z ≤ most_elements) (sym count) low_count

  pub passes_not : would_pass stored.world called ≡ false
  passes_not =
      (λ i. adds (grows i) && list_any passes_cap (map (λ place. slice_index_or after place (content.List [])) (one_or_two s (other i))))
      ∙ (ap (λ (z : Content). passes_cap z || false) (left_now (content.List [])) ∙ ap (λ (z : Bool). z || false) (le-ltb most_elements (length news.elements) few))

pub leaves_same : (s : ℕ) (v : View) (elements news : SetContent) (sc : SetCall) (said : Reply) → s < container_count v.shape → has_lock s v.log ≡ true → (known_state s v).content ≡ content.Set elements → is_changing_set sc ≡ true → is_raised said ≡ false → other_set sc ≡ None → cursor_of_set sc ≡ None → set_change sc ≡ change.Grows → FitsSetCall sc
    → ((stored : StoredWorld) → MayHave v stored → (news.next ≡ elements.next) × (length news.elements ≡ length elements.elements) × (answer_set stored.world no_hands s elements sc ≡ puts stored.world no_hands s (content.Set news) said))
    → Leaves s (call.Set s sc) said (record { content = content.Set news; table = (known_state s v).table }) v
leaves_same s v elements news sc said low mine is_set changing quiet other cursor grows fits all = record {
  write = (λ i. changing i && not (quiet i));
  changed = (λ i. unwrap_or (if changing i then Some s else None) 0);
  words = fits;
  locks = named_locked s (other_set sc) v.log mine (subst (λ (z : Option ℕ). IfSome z (λ q. has_lock q v.log ≡ true)) (sym other) tt);
  replied = λ stored has. replies s v elements low mine is_set stored has sc said (puts stored.world no_hands s (content.Set news) said) (all stored has).2 refl;
  declared = λ stored has. declared s v elements low mine is_set stored has sc said other cursor;
  fits = λ stored has. let a = all stored has in passes_not s v elements news sc said low mine is_set other grows a.0 a.1 stored has a.2;
  left_is = λ stored has. let a = all stored has in same_kept s v elements news sc said low mine is_set other grows a.0 a.1 stored has a.2;
}

-- s.add(k) where the element is there
module _ (s : ℕ) (v : View) (elements : SetContent) (low : s < container_count v.shape) (mine : has_lock s v.log ≡ true) (is_set : (known_state s v).content ≡ content.Set elements) (key : Key) (fits : FitsKey key) where
  pub add_leaves : (kind payload : ℕ) → IsHeldAt (known_state s v).content key (Some (kind, payload)) → Leaves s (call.Set s (set.Add key)) reply.Done (known_state s v) v
  add_leaves kind payload held =
      let h = subst (λ (z : Content). IsHeldAt z key (Some (kind, payload))) is_set held in
      let grown : SetContent = record { next = elements.next + 1; elements = elements.elements ++ record { serial = elements.next; key = key } ∷ [] } in
      let same : record { content = content.Set elements; table = (known_state s v).table } ≡ known_state s v = λ i. record { content = sym is_set i; table = (known_state s v).table } in
      subst (λ (z : ContainerState). Leaves s (call.Set s (set.Add key)) reply.Done z v) same
      (leaves_same s v elements elements (set.Add key) reply.Done low mine is_set refl refl refl refl refl fits
      (λ stored has. (
        refl,
        refl,
        ap (λ (b : Bool). puts stored.world no_hands s (content.Set (if b then elements else grown)) reply.Done) (has_there s v elements low mine is_set key fits kind payload h stored has),
      )))
