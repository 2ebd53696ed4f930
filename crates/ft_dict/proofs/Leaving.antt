-- What calls on a dict leave of it, in the words of the plain containers.
use Rattle.std.proofs.Common.{◌≡◌, ℕ, zero, suc, ◌+◌, ◌-◌, ◌<◌, ◌≤◌, Bool, true, false, List, [], ◌∷◌, length, Option, Some, None, refl, sym, ap, ◌∙◌, subst, arith, get_or-set_same}
use Rattle.std.specs.Prelude.{◌&&◌, ◌||◌, map, not, IfSome, slice_index_or, slice_set, if◌then◌else◌}
use Rattle.std.proofs.lemmas.Bool.{le-ltb}
use Rattle.std.specs.List.{list_any}
use Rattle.std.specs.Option.{unwrap_or}
use Rattle.ft_model.specs.declared.call.Call.{Call}
use Rattle.ft_model.specs.declared.call.Call.TheVariants as call
use Rattle.ft_model.specs.declared.call.DictCall.{DictCall}
use Rattle.ft_model.specs.declared.call.TableChange.{TableChange}
use Rattle.ft_model.specs.declared.call.TableChange.TheVariants as change
use Rattle.ft_model.specs.declared.content.Content.{Content}
use Rattle.ft_model.specs.declared.content.Content.TheVariants as content
use Rattle.ft_model.specs.declared.reply.Reply.{Reply}
use Rattle.ft_model.specs.declared.script.Kind.TheVariants as kind
use Rattle.ft_model.specs.Answers.{Answer, answer, answer_dict, puts, shows, after_write, is_raised}
use Rattle.ft_model.specs.Calls.{is_changing_dict, other_dict, cursor_of_dict, dict_change, adds, one_or_two}
use Rattle.ft_model.specs.Classes.{dict_class, dict_entries, most_pairs}
use Rattle.ft_model.specs.TablesInOrder.{changed_dict, HasTableFor, IsTableFor, IsDictTable}
use Rattle.ft_model.specs.Contents.{DictContent, empty_dict}
use Rattle.ft_model.specs.TableUses.{StoredWorld, TableUse, no_table, takes_in, table_at, change_takes, change_leaves, copy_leaves, copy_takes, dict_takes, outgrows_dict, grown_table, passes_cap, would_pass, after_stored}
use Rattle.ft_model.specs.Worlds.{dict_of, dict_at, named_in, no_hands, IsOfKind, IsDeclared}
use Rattle.ft_layout.proofs.Powers.{slots_range}
use Rattle.ft_trace.specs.declared.View.{View}
use Rattle.ft_trace.specs.Acts.{has_lock}
use Rattle.ft_trace.specs.Addresses.{container_count}
use Rattle.ft_trace.specs.FitCalls.{FitsDictCall, FitsContent}
use Rattle.ft_trace.specs.Holds.{known_state}
use Rattle.ft_trace.specs.ContainerStates.{ContainerState, state_at, reply_in}
use Rattle.ft_trace.proofs.Known.{declared_at, at_any}
use Rattle.ft_trace.proofs.Naming.{named_locked}
use Rattle.ft_bank.specs.WriteSteps.{MayHave}
use Rattle.ft_search.specs.OneEntryWrites.{Leaves}
use Rattle.ft_model.specs.declared.data.Key.{Key}
use Rattle.ft_model.proofs.SplitDicts.{unsplit_takes, unsplit_leaves}

set_own : {A : Type 0} (l : List A) (i : ℕ) (x e : A) → i < length l → slice_index_or l i e ≡ x → slice_set l i x ≡ l
set_own [] i x e low is = absurd (omega (arith, low))
set_own (y ∷ l) zero x e low is = ap (λ z. z ∷ l) (sym is)
set_own (y ∷ l) (suc i) x e low is = ap (λ z. y ∷ z) (set_own l i x e (omega (arith, low)) is)

module _ (d : ℕ) (v : View) (pairs : DictContent) (low : d < container_count v.shape) (mine : has_lock d v.log ≡ true) (is_dict : (known_state d v).content ≡ content.Dict pairs) (stored : StoredWorld) (has : MayHave v stored) where
  abbrev world : List Content
  world = stored.world

  pub there : slice_index_or world d (content.List []) ≡ content.Dict pairs
  there = ap (λ (z : ContainerState). z.content) (has.agrees d low mine) ∙ is_dict

  pub many : d < length world
  many = subst (λ (n : ℕ). d < n) (sym has.containers) low

  pub many_tables : d < length stored.tables
  many_tables = subst (λ (n : ℕ). d < n) (sym (has.order.as_many ∙ has.containers)) low

  pub dict_is : dict_at world d ≡ pairs
  dict_is = ap dict_of (at_any world d (content.Dict empty_dict) (content.List []) many ∙ there)

  pub each_fits : FitsContent (content.Dict pairs)
  each_fits = subst FitsContent there (has.words d (content.List []) many)

  pub table_is : table_at stored.tables d ≡ (known_state d v).table
  table_is = ap (λ (z : ContainerState). z.table) (has.agrees d low mine)

  -- a reply that leaves the dict as it is
  pub shows_puts : (said : Reply) → shows world no_hands said ≡ puts world no_hands d (content.Dict pairs) said
  shows_puts said = let own = set_own world d (content.Dict pairs) (content.List []) many there in λ i. record { reply = said; world = sym own i; hands = no_hands }

  module _ (dc : DictCall) (said : Reply) where
    pub replies : (a : Answer) → answer_dict world no_hands d pairs dc ≡ a → a.reply ≡ said → reply_in stored (call.Dict d dc) ≡ said
    replies a answered is = ap (λ (z : DictContent). (answer_dict world no_hands d z dc).reply) dict_is ∙ (ap (λ (z : Answer). z.reply) answered ∙ is)

    pub declared : other_dict dc ≡ None → cursor_of_dict dc ≡ None → IsDeclared world no_hands (call.Dict d dc)
    declared other cursor = record {
      one = declared_at world d (content.Dict pairs) many there;
      both = subst (λ (z : Option ℕ). IfSome z (λ p. IsOfKind world kind.Dict p)) (sym other) tt;
      room = subst (λ (z : Option ℕ). IfSome z (λ (n : ℕ). n < 0)) (sym cursor) tt;
    }

    module _ (news : DictContent) (answered : answer_dict world no_hands d pairs dc ≡ puts world no_hands d (content.Dict news) said) where
      answer_is : answer world no_hands (call.Dict d dc) ≡ puts world no_hands d (content.Dict news) said
      answer_is = ap (λ (z : DictContent). answer_dict world no_hands d z dc) dict_is ∙ answered

      pub left_at : (e : Content) → slice_index_or (after_write world (call.Dict d dc)) d e ≡ content.Dict news
      left_at e = ap (λ (z : Answer). slice_index_or z.world d e) answer_is ∙ get_or-set_same world d (content.Dict news) e many

      stays : dict_change dc ≡ change.Stays → state_at (after_stored stored (call.Dict d dc)) d ≡ record { content = content.Dict news; table = (known_state d v).table }
      stays same =
          let c = left_at (content.List []) in
          let u = unsplit_leaves stored.tables d dc (dict_at world d) (dict_at (after_write world (call.Dict d dc)) d) (takes_in stored (call.Dict d dc)) (has.unsplit d) in
          let t = ap (λ (z : List TableUse). table_at z d) u ∙ (ap (λ (z : TableChange). table_at (change_leaves stored.tables d z (grown_table (table_at stored.tables d) (takes_in stored (call.Dict d dc)) ((dict_at (after_write world (call.Dict d dc)) d).next - (dict_at world d).next) (length (dict_at (after_write world (call.Dict d dc)) d).pairs)) (copy_leaves (length (dict_at world d).pairs))) d) same ∙ table_is) in
          λ i. record { content = c i; table = t i }

-- a call that stores nothing new
pub leaves_stay : (d : ℕ) (v : View) (pairs news : DictContent) (dc : DictCall) (said : Reply) → d < container_count v.shape → has_lock d v.log ≡ true → (known_state d v).content ≡ content.Dict pairs → is_changing_dict dc ≡ true → is_raised said ≡ false → other_dict dc ≡ None → cursor_of_dict dc ≡ None → dict_change dc ≡ change.Stays → FitsDictCall dc
    → ((stored : StoredWorld) → MayHave v stored → answer_dict stored.world no_hands d pairs dc ≡ puts stored.world no_hands d (content.Dict news) said)
    → Leaves d (call.Dict d dc) said (record { content = content.Dict news; table = (known_state d v).table }) v
leaves_stay d v pairs news dc said low mine is_dict changing quiet other cursor same fits answered = record {
  write = (λ i. changing i && not (quiet i));
  changed = (λ i. unwrap_or (if changing i then Some (changed_dict d (same i)) else None) 0);
  words = fits;
  locks = named_locked d (other_dict dc) v.log mine (subst (λ (z : Option ℕ). IfSome z (λ q. has_lock q v.log ≡ true)) (sym other) tt);
  replied = λ stored has. replies d v pairs low mine is_dict stored has dc said (puts stored.world no_hands d (content.Dict news) said) (answered stored has) refl;
  declared = λ stored has. declared d v pairs low mine is_dict stored has dc said other cursor;
  fits = λ stored has. ap (λ (z : TableChange). adds z && list_any passes_cap (named_in (after_write stored.world (call.Dict d dc)) (call.Dict d dc))) same;
  left_is = λ stored has. stays d v pairs low mine is_dict stored has dc said news (answered stored has) same;
}

-- ---- a call that may grow, and draws no serial

table_short : (n : ℕ) (class : Option ℕ) (fill : ℕ) → HasTableFor n class fill dict_entries → n ≤ most_pairs
table_short n None fill h = let z = h.0 in omega (arith, z)
table_short n (Some c) fill h = let a = h.1 in let b = h.2 in let r = (slots_range c h.0).1 in omega (arith, a, b, r)

module _ (d : ℕ) (v : View) (pairs news : DictContent) (dc : DictCall) (said : Reply) (low : d < container_count v.shape) (mine : has_lock d v.log ≡ true) (is_dict : (known_state d v).content ≡ content.Dict pairs) (other : other_dict dc ≡ None) (grows : dict_change dc ≡ change.Grows) (draws : news.next ≡ pairs.next) (count : length news.pairs ≡ length pairs.pairs) (stored : StoredWorld) (has : MayHave v stored)
    (answered : answer_dict stored.world no_hands d pairs dc ≡ puts stored.world no_hands d (content.Dict news) said) where
  abbrev called : Call
  called = call.Dict d dc

  abbrev after : List Content
  after = after_write stored.world called

  abbrev T : TableUse
  T = table_at stored.tables d

  left_is : (e : Content) → slice_index_or after d e ≡ content.Dict news
  left_is = left_at d v pairs low mine is_dict stored has dc said news answered

  none_drawn : (dict_at after d).next - (dict_at stored.world d).next ≡ 0
  none_drawn =
      let a : (dict_at after d).next ≡ news.next = ap (λ (z : Content). (dict_of z).next) (left_is (content.Dict empty_dict)) in
      let e : (dict_at stored.world d).next ≡ pairs.next = ap (λ (z : DictContent). z.next) (dict_is d v pairs low mine is_dict stored has) in
      omega (arith, a, e, draws)

  takes_none : takes_in stored called ≡ None
  takes_none =
      unsplit_takes T dc (dict_at stored.world d) (dict_at after d) (has.unsplit d)
      ∙ (ap (λ (z : TableChange). change_takes z (dict_takes T (dict_at stored.world d) (dict_at after d)) (copy_takes (length (dict_at stored.world d).pairs))) grows
      ∙ ap (λ (z : ℕ). if outgrows_dict T z then Some (dict_class (length (dict_at after d).pairs)) else None) none_drawn)

  pub same_kept : state_at (after_stored stored called) d ≡ record { content = content.Dict news; table = (known_state d v).table }
  same_kept =
      let drawn = (dict_at after d).next - (dict_at stored.world d).next in
      let many_pairs = length (dict_at after d).pairs in
      let fill_is : T.fill + drawn ≡ T.fill = let e = none_drawn in omega (arith, e) in
      let c = left_is (content.List []) in
      let t : table_at (after_stored stored called).tables d ≡ (known_state d v).table =
      ap (λ (z : List TableUse). table_at z d) (unsplit_leaves stored.tables d dc (dict_at stored.world d) (dict_at after d) (takes_in stored called) (has.unsplit d))
      ∙ (ap (λ (z : TableChange). table_at (change_leaves stored.tables d z (grown_table T (takes_in stored called) drawn many_pairs) (copy_leaves (length (dict_at stored.world d).pairs))) d) grows
      ∙ (get_or-set_same stored.tables d (grown_table T (takes_in stored called) drawn many_pairs) no_table (many_tables d v pairs low mine is_dict stored has)
      ∙ (ap (λ (z : Option ℕ). grown_table T z drawn many_pairs) takes_none
      ∙ ((λ i. record { class = T.class; fill = fill_is i; keys = T.keys }) ∙ table_is d v pairs low mine is_dict stored has)))) in
      λ i. record { content = c i; table = t i }

  few : length news.pairs ≤ most_pairs
  few =
      let each : HasTableFor (length pairs.pairs) T.class T.fill dict_entries =
      subst (λ (z : List Key). IsDictTable z pairs T) (has.unsplit d) (subst (λ (z : Content). IsTableFor z T) (there d v pairs low mine is_dict stored has) (has.order.each d)) in
      let s = table_short (length pairs.pairs) T.class T.fill each in
      subst (λ (z : ℕ). z ≤ most_pairs) (sym count) s

  pub passes_not : would_pass stored.world called ≡ false
  passes_not =
      (λ i. adds (grows i) && list_any passes_cap (map (λ place. slice_index_or after place (content.List [])) (one_or_two d (other i))))
      ∙ (ap (λ (z : Content). passes_cap z || false) (left_is (content.List [])) ∙ ap (λ (z : Bool). z || false) (le-ltb most_pairs (length news.pairs) few))

pub leaves_same : (d : ℕ) (v : View) (pairs news : DictContent) (dc : DictCall) (said : Reply) → d < container_count v.shape → has_lock d v.log ≡ true → (known_state d v).content ≡ content.Dict pairs → is_changing_dict dc ≡ true → is_raised said ≡ false → other_dict dc ≡ None → cursor_of_dict dc ≡ None → dict_change dc ≡ change.Grows → FitsDictCall dc
    → ((stored : StoredWorld) → MayHave v stored → (news.next ≡ pairs.next) × (length news.pairs ≡ length pairs.pairs) × (answer_dict stored.world no_hands d pairs dc ≡ puts stored.world no_hands d (content.Dict news) said))
    → Leaves d (call.Dict d dc) said (record { content = content.Dict news; table = (known_state d v).table }) v
leaves_same d v pairs news dc said low mine is_dict changing quiet other cursor grows fits all = record {
  write = (λ i. changing i && not (quiet i));
  changed = (λ i. unwrap_or (if changing i then Some (changed_dict d (grows i)) else None) 0);
  words = fits;
  locks = named_locked d (other_dict dc) v.log mine (subst (λ (z : Option ℕ). IfSome z (λ q. has_lock q v.log ≡ true)) (sym other) tt);
  replied = λ stored has. replies d v pairs low mine is_dict stored has dc said (puts stored.world no_hands d (content.Dict news) said) (all stored has).2 refl;
  declared = λ stored has. declared d v pairs low mine is_dict stored has dc said other cursor;
  fits = λ stored has. let a = all stored has in passes_not d v pairs news dc said low mine is_dict other grows a.0 a.1 stored has a.2;
  left_is = λ stored has. let a = all stored has in same_kept d v pairs news dc said low mine is_dict other grows a.0 a.1 stored has a.2;
}
