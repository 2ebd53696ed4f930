-- What a call on a set leaves of it that adds an element, in the words of the plain containers.
use Rattle.std.proofs.Common.{◌≡◌, ℕ, ◌+◌, ◌-◌, ◌<◌, Bool, true, false, List, [], length, Option, Some, None, refl, sym, ap, ◌∙◌, subst, arith, get_or-set_same}
use Rattle.std.specs.Prelude.{◌&&◌, ◌||◌, map, not, nat_lt, IfSome, slice_index_or, if◌then◌else◌}
use Rattle.std.specs.List.{list_any}
use Rattle.std.specs.Option.{unwrap_or}
use Rattle.ft_model.specs.declared.call.Call.{Call}
use Rattle.ft_model.specs.declared.call.Call.TheVariants as call
use Rattle.ft_model.specs.declared.call.SetCall.{SetCall}
use Rattle.ft_model.specs.declared.call.SetCall.TheVariants as set
use Rattle.ft_model.specs.declared.call.TableChange.{TableChange}
use Rattle.ft_model.specs.declared.call.TableChange.TheVariants as change
use Rattle.ft_model.specs.declared.content.Content.{Content}
use Rattle.ft_model.specs.declared.content.Content.TheVariants as content
use Rattle.ft_model.specs.declared.data.Key.{Key}
use Rattle.ft_model.specs.declared.reply.Reply.{Reply}
use Rattle.ft_model.specs.declared.reply.Reply.TheVariants as reply
use Rattle.ft_model.specs.Answers.{answer_set, puts, after_write, is_raised}
use Rattle.ft_model.specs.Calls.{is_changing_set, other_set, cursor_of_set, set_change, adds, one_or_two}
use Rattle.ft_model.specs.Classes.{set_class, most_elements}
use Rattle.ft_model.specs.Contents.{SetContent, empty_set, has_element, set_add}
use Rattle.ft_model.specs.TableUses.{StoredWorld, TableUse, no_table, CanLackMemory, takes_in, table_at, change_takes, change_leaves, set_takes, outgrows_set, grown_table, passes_cap, would_pass, after_stored}
use Rattle.ft_model.specs.Worlds.{set_of, set_at, length_of, no_hands}
use Rattle.ft_layout.specs.declared.slot.Stored.TheVariants.{Empty}
use Rattle.ft_layout.specs.Words.{FitsKey}
use Rattle.ft_trace.specs.declared.View.{View}
use Rattle.ft_trace.specs.Acts.{has_lock}
use Rattle.ft_trace.specs.Addresses.{container_count}
use Rattle.ft_trace.specs.FitCalls.{FitsSetCall}
use Rattle.ft_trace.specs.Holds.{known_state}
use Rattle.ft_trace.specs.ContainerStates.{state_at}
use Rattle.ft_trace.proofs.SetGrowing.{added_next, added_length}
use Rattle.ft_trace.proofs.Naming.{named_locked}
use Rattle.ft_bank.specs.WriteSteps.{MayHave}
use Rattle.ft_new_keys.specs.KeyGrowth.{AddsKey, key_takes, most_of}
use Rattle.ft_new_keys.specs.Placing.{with_key}
use Rattle.ft_set.proofs.Leaving.{set_is, table_is, many_tables, replies, declared, left_at}

module _ (s : ℕ) (v : View) (elements : SetContent) (low : s < container_count v.shape) (mine : has_lock s v.log ≡ true) (is_set : (known_state s v).content ≡ content.Set elements) (key : Key) (missing : has_element elements.elements key ≡ false) (sc : SetCall) (said : Reply) (other : other_set sc ≡ None) (cursor : cursor_of_set sc ≡ None) (grows : set_change sc ≡ change.Grows) (quiet : is_raised said ≡ false) where
  abbrev called : Call
  called = call.Set s sc

  abbrev news : SetContent
  news = set_add elements key

  abbrev had : TableUse
  had = (known_state s v).table

  module _ (found : StoredWorld) (has : MayHave v found) (answered : answer_set found.world no_hands s elements sc ≡ puts found.world no_hands s (content.Set news) said) where
    abbrev after : List Content
    after = after_write found.world called

    abbrev T : TableUse
    T = table_at found.tables s

    left_is : (e : Content) → slice_index_or after s e ≡ content.Set news
    left_is = left_at s v elements low mine is_set found has sc said news answered

    drawn : (set_at after s).next - (set_at found.world s).next ≡ 1
    drawn =
        let a : (set_at after s).next ≡ news.next = ap (λ (z : Content). (set_of z).next) (left_is (content.Set empty_set)) in
        let e : (set_at found.world s).next ≡ elements.next = ap (λ (z : SetContent). z.next) (set_is s v elements low mine is_set found has) in
        let n = added_next elements key missing in
        omega (arith, a, e, n)

    many : length (set_at after s).elements ≡ length elements.elements + 1
    many = ap (λ (z : Content). length (set_of z).elements) (left_is (content.Set empty_set)) ∙ added_length elements key missing

    takes : takes_in found called ≡ key_takes (content.Set elements) had
    takes =
        let table = table_is s v elements low mine is_set found has in
        let one = drawn in
        let count = many in
        ap (λ (z : TableChange). change_takes z (set_takes T (set_at found.world s) (set_at after s)) None) grows
        ∙ (λ i. if outgrows_set (table i) (one i) then Some (set_class (count i)) else None)

    left_kept : state_at (after_stored found called) s ≡ record { content = content.Set news; table = grown_table had (key_takes (content.Set elements) had) 1 (length elements.elements + 1) }
    left_kept =
        let some = (set_at after s).next - (set_at found.world s).next in
        let all = length (set_at after s).elements in
        let table = table_is s v elements low mine is_set found has in
        let one = drawn in
        let count = many in
        let class = takes in
        let c = left_is (content.List []) in
        let t : table_at (after_stored found called).tables s ≡ grown_table had (key_takes (content.Set elements) had) 1 (length elements.elements + 1) =
        ap (λ (z : TableChange). table_at (change_leaves found.tables s z (grown_table T (takes_in found called) some all) no_table) s) grows
        ∙ (get_or-set_same found.tables s (grown_table T (takes_in found called) some all) no_table (many_tables s v elements low mine is_set found has)
        ∙ (λ i. grown_table (table i) (class i) (one i) (count i))) in
        λ i. record { content = c i; table = t i }

    over : would_pass found.world called ≡ nat_lt most_elements (length elements.elements + 1)
    over =
        (λ i. adds (grows i) && list_any passes_cap (map (λ place. slice_index_or after place (content.List [])) (one_or_two s (other i))))
        ∙ (ap (λ (z : Content). passes_cap z || false) (left_is (content.List []))
        ∙ (by_or (nat_lt most_elements (length news.elements)) ∙ ap (λ (n : ℕ). nat_lt most_elements n) (added_length elements key missing)))
      where
        by_or : (b : Bool) → (b || false) ≡ b
        by_or true = refl
        by_or false = refl

    lacks : CanLackMemory found.world called
    lacks = record {
      adds = ap adds grows;
      raises_nothing = ap is_raised (replies s v elements low mine is_set found has sc said (puts found.world no_hands s (content.Set news) said) answered refl) ∙ quiet;
    }

  pub adds_key : is_changing_set sc ≡ true → FitsSetCall sc → ((found : StoredWorld) → MayHave v found → answer_set found.world no_hands s elements sc ≡ puts found.world no_hands s (content.Set news) said) → AddsKey s called said key Empty v
  adds_key changing fits answered = record {
    write = (λ i. changing i && not (quiet i));
    changed = (λ i. unwrap_or (if changing i then Some s else None) 0);
    words = fits;
    locks = named_locked s (other_set sc) v.log mine (subst (λ (z : Option ℕ). IfSome z (λ q. has_lock q v.log ≡ true)) (sym other) tt);
    replied = λ found has. replies s v elements low mine is_set found has sc said (puts found.world no_hands s (content.Set news) said) (answered found has) refl;
    declared = λ found has. declared s v elements low mine is_set found has sc said other cursor;
    lacks = λ found has. lacks found has (answered found has);
    over = λ found has. over found has (answered found has) ∙ ap (λ (z : Content). nat_lt (most_of z) (length_of z + 1)) (sym is_set);
    takes = λ found has. takes found has (answered found has) ∙ ap (λ (z : Content). key_takes z had) (sym is_set);
    left_is = λ found has. left_kept found has (answered found has) ∙ (λ i. record { content = with_key (sym is_set i) key Empty; table = grown_table had (key_takes (sym is_set i) had) 1 (length_of (sym is_set i) + 1) });
  }

-- s.add(k) for an element that isn't there
module _ (s : ℕ) (v : View) (elements : SetContent) (low : s < container_count v.shape) (mine : has_lock s v.log ≡ true) (is_set : (known_state s v).content ≡ content.Set elements) (key : Key) (fits : FitsKey key) (missing : has_element elements.elements key ≡ false) where
  pub add_adds : AddsKey s (call.Set s (set.Add key)) reply.Done key Empty v
  add_adds = adds_key s v elements low mine is_set key missing (set.Add key) reply.Done refl refl refl refl refl fits (λ found has. refl)
