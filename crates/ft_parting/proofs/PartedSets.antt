-- Calls that part two sets: how many elements stay and how many are new, what a call leaves where none is new, and the
-- calls later than they were asked for.
use Rattle.std.proofs.Common.{◌≡◌, ℕ, ◌+◌, ◌-◌, ◌≤◌, Bool, true, false, true≢false, List, [], ◌++◌, length, Option, Some, None, refl, sym, ap, ◌∙◌, subst, arith, le-ltb, ltb-false}
use Rattle.std.specs.Prelude.{is_some, not, if◌then◌else◌}
use Rattle.std.specs.Option.{unwrap_or}
use Rattle.std.proofs.lemmas.List.{append-nil, length-append}
use Rattle.ft_model.specs.declared.call.Call.{Call}
use Rattle.ft_model.specs.declared.content.Content.{Content}
use Rattle.ft_model.specs.declared.content.Content.TheVariants as content
use Rattle.ft_model.specs.declared.content.Element.{Element}
use Rattle.ft_model.specs.declared.reply.Reply.TheVariants as reply
use Rattle.ft_model.specs.declared.script.Kind.TheVariants as kind
use Rattle.ft_model.specs.Classes.{most_elements, set_class, set_entries}
use Rattle.ft_model.specs.Contents.{SetContent, elements_from, has_element, set_xor, those_not_in}
use Rattle.ft_model.specs.TableUses.{StoredWorld, grown_table, outgrows_set, passes_cap}
use Rattle.ft_model.specs.Worlds.{serial_of, set_of}
use Rattle.ft_model.proofs.ClassRooms.{set_fits}
use Rattle.ft_model.proofs.KnownKeys.{length-filter-le}
use Rattle.ft_trace.specs.declared.Shape.{Shape}
use Rattle.ft_trace.specs.declared.View.{View}
use Rattle.ft_trace.specs.Acts.{has_lock}
use Rattle.ft_trace.specs.Holds.{known_state}
use Rattle.ft_trace.specs.Kinds.{rows}
use Rattle.ft_trace.specs.ContainerStates.{ContainerState}
use Rattle.ft_bank.specs.Whole.{OnlyLoaded}
use Rattle.ft_bank.specs.WriteSteps.{MayHave}
use Rattle.ft_bank.proofs.KnownAfterWrites.{loaded_then, work_knows}
use Rattle.ft_table_calls.specs.declared.adding.Added.{Added}
use Rattle.ft_table_calls.specs.Adding.{IsAdded, KeepsCursors}
use Rattle.ft_table_calls.proofs.Cursors.{added_cursors}
use Rattle.ft_search.specs.OneEntryWrites.{Leaves}
use Rattle.ft_merging.specs.Joining.{joined, new_keys}
use Rattle.ft_merging.specs.Parting.{PartsBy, PartsSets, part_takes, parted, parted_state}
use Rattle.ft_merging.specs.Thinning.{thinned, thinned_state}
use Rattle.ft_merging.proofs.JoinedContents.{from_length}
use Rattle.ft_merging.proofs.JoinedSame.{no_length}
use Rattle.ft_replacing.specs.Replacing.{Replaces}

-- ---- numbers

-- as many serials are drawn as elements are new
pub new_length : (d others : Content) (first : SetContent) → d ≡ content.Set first → new_keys d others ≡ length (those_not_in first.elements (set_of others).elements)
new_length d others first is =
    let n = length (those_not_in first.elements (set_of others).elements) in
    let e : first.next + n - first.next ≡ n = omega arith in
    ap (λ (z : Content). new_keys z others) is ∙ e

-- none is, where joining the other one changes nothing
pub none_drawn : (d others : Content) → joined d others ≡ d → new_keys d others ≡ 0
none_drawn d others same = let s = ap serial_of same in omega (arith, s)

-- that many are there then
pub parted_length : (d others : Content) (first : SetContent) (stay more : ℕ) → d ≡ content.Set first → stay ≡ length (those_not_in (set_of others).elements first.elements) → more ≡ new_keys d others → length (parted d others).elements ≡ stay + more
parted_length d others first stay more is stays news =
    let a = length-append (those_not_in (set_of others).elements first.elements) (elements_from first.next (those_not_in first.elements (set_of others).elements)) in
    let b = from_length first.next (those_not_in first.elements (set_of others).elements) in
    let n = new_length d others first is in
    ap (λ (z : Content). length (parted z others).elements) is ∙ omega (arith, a, b, n, stays, news)

-- the next serial then
pub parted_next : (d others : Content) (first : SetContent) (next more : ℕ) → d ≡ content.Set first → next ≡ first.next → more ≡ new_keys d others → (parted d others).next ≡ next + more
parted_next d others first next more is starts news =
    let n = new_length d others first is in
    ap (λ (z : Content). (parted z others).next) is ∙ omega (arith, n, news, starts)

-- those of a set that another one hasn't are few
pub few_apart : (d : Content) (first : SetContent) (others : List Element) → d ≡ content.Set first → passes_cap d ≡ false → length (those_not_in others first.elements) ≤ 65536
few_apart d first others is few =
    let had = ltb-false most_elements (length first.elements) (sym (ap passes_cap is) ∙ few) in
    let less = length-filter-le (λ (element : Element). not (has_element others element.key)) first.elements in
    omega (arith, had, less)

-- the new ones are few
pub part_few : (d others : Content) (first : SetContent) (more : ℕ) → d ≡ content.Set first → more ≡ new_keys d others → passes_cap (content.Set (parted d others)) ≡ false → more ≤ 65536
part_few d others first more is news few =
    let n = parted_length d others first (length (those_not_in (set_of others).elements first.elements)) more is refl news in
    let low = ltb-false most_elements (length (parted d others).elements) few in
    omega (arith, n, low)

-- the table that is taken has room
pub part_room : (kept : ContainerState) (others : Content) (class : ℕ) → passes_cap (content.Set (parted kept.content others)) ≡ false → part_takes kept others ≡ Some class → length (parted kept.content others).elements ≤ rows kind.Set class
part_room kept others class few takes =
    let all = length (parted kept.content others).elements in
    let is = if_some (outgrows_set kept.table ((parted kept.content others).next - (set_of kept.content).next)) (set_class all) class takes in
    subst (λ (c : ℕ). all ≤ set_entries c) is (set_fits all (ltb-false most_elements all few)).1
  where
    if_some : (b : Bool) (x c : ℕ) → (if b then Some x else None) ≡ Some c → x ≡ c
    if_some true x c e = ap (λ (z : Option ℕ). unwrap_or z 0) e
    if_some false x c e = absurd (true≢false (sym (ap is_some e)))

-- ---- where none is new

module _ (kept others : ContainerState) (first : SetContent) (is : kept.content ≡ content.Set first) (none : new_keys kept.content others.content ≡ 0) where
  abbrev oth : SetContent
  oth = set_of others.content

  no_news : those_not_in first.elements oth.elements ≡ []
  no_news = let n = new_length kept.content others.content first is in no_length (those_not_in first.elements oth.elements) (omega (arith, n, none))

  same_set : set_xor first oth.elements ≡ thinned false oth first
  same_set =
      let n : first.next + 0 ≡ first.next = omega arith in
      let l = append-nil (those_not_in oth.elements first.elements) in
      (λ i. record { next = first.next + length (no_news i); elements = those_not_in oth.elements first.elements ++ elements_from first.next (no_news i) }) ∙ (λ i. record { next = n i; elements = l i })

  pub thin_same : parted kept.content others.content ≡ thinned false oth (set_of kept.content)
  thin_same = ap (λ (z : Content). parted z others.content) is ∙ (same_set ∙ sym (ap (λ (z : Content). thinned false oth (set_of z)) is))

  drawn : (parted kept.content others.content).next - (set_of kept.content).next ≡ 0
  drawn =
      let n = new_length kept.content others.content first is in
      let l = length (those_not_in first.elements oth.elements) in
      let e : first.next + l - first.next ≡ 0 = omega (arith, n, none) in
      ap (λ (z : Content). (parted z others.content).next - (set_of z).next) is ∙ e

  pub thin_takes : part_takes kept others.content ≡ None
  thin_takes = ap (λ (n : ℕ). if outgrows_set kept.table n then Some (set_class (length (parted kept.content others.content).elements)) else None) drawn

  pub thin_kept : parted_state kept others.content ≡ thinned_state false others kept
  thin_kept =
      let fill : kept.table.fill + 0 ≡ kept.table.fill = omega arith in
      let table : (parted_state kept others.content).table ≡ kept.table =
      (λ i. grown_table kept.table (thin_takes i) (drawn i) (length (parted kept.content others.content).elements)) ∙ (λ i. record { class = kept.table.class; fill = fill i; keys = kept.table.keys }) in
      λ i. record { content = content.Set (thin_same i); table = table i }

  pub thin_cap : passes_cap kept.content ≡ false → passes_cap (content.Set (parted kept.content others.content)) ≡ false
  thin_cap few =
      let had = ltb-false most_elements (length first.elements) (sym (ap passes_cap is) ∙ few) in
      let less = length-filter-le (λ (element : Element). not (has_element oth.elements element.key)) first.elements in
      ap (λ (z : Content). passes_cap (content.Set (parted z others.content))) is ∙ (ap (λ (z : SetContent). passes_cap (content.Set z)) same_set
      ∙ le-ltb most_elements (length (those_not_in oth.elements first.elements)) (omega (arith, had, less)))

-- ---- the calls

pub parts_thins : (s t : ℕ) (called : Call) (v : View) → PartsSets s t called v → parted_state (known_state s v) (known_state t v).content ≡ thinned_state false (known_state t v) (known_state s v) → passes_cap (content.Set (parted (known_state s v).content (known_state t v).content)) ≡ false → Leaves s called reply.Done (thinned_state false (known_state t v) (known_state s v)) v
parts_thins s t called v parts same few = record {
  write = parts.write;
  changed = parts.changed;
  words = parts.words;
  locks = parts.locks;
  replied = parts.replied;
  declared = parts.declared;
  fits = λ found has. parts.over found has ∙ few;
  left_is = λ found has. parts.left_is found has ∙ same;
}

-- a call that takes a table puts it in the place of the one that was there
pub parts_replaces : (s t : ℕ) (called : Call) (v : View) (class : ℕ) → PartsSets s t called v → part_takes (known_state s v) (known_state t v).content ≡ Some class → passes_cap (content.Set (parted (known_state s v).content (known_state t v).content)) ≡ false → Replaces s called (content.Set (parted (known_state s v).content (known_state t v).content)) (Some class) v
parts_replaces s t called v class parts takes few = record {
  write = parts.write;
  changed = parts.changed;
  words = parts.words;
  locks = parts.locks;
  empties = parts.empties;
  replied = parts.replied;
  declared = parts.declared;
  lacks = parts.lacks;
  fits = λ found has. parts.over found has ∙ few;
  takes_is = λ found has. parts.takes found has ∙ takes;
  left_is = λ found has. parts.left_is found has ∙ (λ i. record { content = content.Set (parted (known_state s v).content (known_state t v).content); table = grown_table (known_state s v).table (takes i) ((parted (known_state s v).content (known_state t v).content).next - (set_of (known_state s v).content).next) (length (parted (known_state s v).content (known_state t v).content).elements) });
}

-- a call that parts the two parts them later too, where the pass knows the same
pub parts_later : (s t : ℕ) (called : Call) (v u : View) → ((found : StoredWorld) → MayHave u found → MayHave v found) → ((p : ℕ) → has_lock p u.log ≡ has_lock p v.log) → known_state s u ≡ known_state s v → known_state t u ≡ known_state t v → PartsSets s t called v → PartsSets s t called u
parts_later s t called v u has locks mine other parts = record {
  write = parts.write;
  changed = parts.changed;
  words = parts.words;
  locks = λ p e. locks p ∙ parts.locks p e;
  empties = parts.empties;
  replied = λ found h. parts.replied found (has found h);
  declared = λ found h. parts.declared found (has found h);
  lacks = λ found h. parts.lacks found (has found h);
  over = λ found h. parts.over found (has found h) ∙ (λ i. passes_cap (content.Set (parted (sym mine i).content (sym other i).content)));
  takes = λ found h. parts.takes found (has found h) ∙ (λ i. part_takes (sym mine i) (sym other i).content);
  left_is = λ found h. parts.left_is found (has found h) ∙ (λ i. parted_state (sym mine i) (sym other i).content);
}

-- and what it comes to after loads, seen from before them
pub parts_by : (k : Shape) (s t : ℕ) (called : Call) (v u w : View) (what : Added) → OnlyLoaded v u → IsAdded k (part_takes (known_state s u) (known_state t u).content) (passes_cap (content.Set (parted (known_state s u).content (known_state t u).content))) called reply.Done u w what → PartsBy k s t called v w what
parts_by k s t called v u w what only is =
    let mine = work_knows v u s only.work in
    let other = work_knows v u t only.work in
    (u, only, subst (λ (z : ContainerState × ContainerState). IsAdded k (part_takes z.0 z.1.content) (passes_cap (content.Set (parted z.0.content z.1.content))) called reply.Done u w what) (λ i. (mine i, other i)) is)

pub parts_then : (k : Shape) (s t : ℕ) (called : Call) (v u w : View) (what : Added) → OnlyLoaded v u → PartsBy k s t called u w what → PartsBy k s t called v w what
parts_then k s t called v u w what only is =
    parts_by k s t called v is.0 w what (loaded_then v u is.0 only is.1)
    (subst (λ (z : ContainerState × ContainerState). IsAdded k (part_takes z.0 z.1.content) (passes_cap (content.Set (parted z.0.content z.1.content))) called reply.Done is.0 w what) (λ i. (sym (work_knows u is.0 s is.1.work) i, sym (work_knows u is.0 t is.1.work) i)) is.2)

-- it leaves the cursors of its pass
pub parts_cursors : (k : Shape) (s t : ℕ) (called : Call) (v w : View) (what : Added) → PartsBy k s t called v w what → KeepsCursors v w
parts_cursors k s t called v w what x number =
    added_cursors _ k (part_takes (known_state s v) (known_state t v).content) (passes_cap (content.Set (parted (known_state s v).content (known_state t v).content))) called reply.Done x.0 w what x.2 number ∙ x.1.work.pass.cursors number
