-- What a call on a dict leaves of it that adds a key, in the words of the plain containers.
use Rattle.std.proofs.Common.{◌≡◌, ℕ, ◌+◌, ◌-◌, ◌<◌, Bool, true, false, List, [], length, Option, Some, None, refl, sym, ap, ◌∙◌, subst, arith, get_or-set_same}
use Rattle.std.specs.Prelude.{◌&&◌, ◌||◌, map, not, nat_lt, IfSome, slice_index_or, if◌then◌else◌}
use Rattle.std.specs.List.{list_any}
use Rattle.std.specs.Option.{option_map_or, unwrap_or}
use Rattle.ft_model.specs.declared.call.Call.{Call}
use Rattle.ft_model.specs.declared.call.Call.TheVariants as call
use Rattle.ft_model.specs.declared.call.DictCall.{DictCall}
use Rattle.ft_model.specs.declared.call.DictCall.TheVariants as dict
use Rattle.ft_model.specs.declared.call.TableChange.{TableChange}
use Rattle.ft_model.specs.declared.call.TableChange.TheVariants as change
use Rattle.ft_model.specs.declared.content.Content.{Content}
use Rattle.ft_model.specs.declared.content.Content.TheVariants as content
use Rattle.ft_model.specs.declared.data.Key.{Key}
use Rattle.ft_model.specs.declared.data.Value.{Value}
use Rattle.ft_model.specs.declared.reply.Reply.{Reply}
use Rattle.ft_model.specs.declared.reply.Reply.TheVariants as reply
use Rattle.ft_model.specs.Answers.{answer_dict, puts, shows, after_write, is_raised}
use Rattle.ft_model.specs.Calls.{is_changing_dict, other_dict, cursor_of_dict, dict_change, adds, one_or_two}
use Rattle.ft_model.specs.TablesInOrder.{changed_dict}
use Rattle.ft_model.specs.Classes.{dict_class, most_pairs}
use Rattle.ft_model.specs.Contents.{DictContent, empty_dict, has_key, dict_set}
use Rattle.ft_model.specs.TableUses.{StoredWorld, TableUse, no_table, CanLackMemory, takes_in, table_at, change_takes, change_leaves, copy_leaves, copy_takes, dict_takes, outgrows_dict, grown_table, passes_cap, would_pass, after_stored}
use Rattle.ft_model.specs.Worlds.{dict_of, dict_at, length_of, no_hands}
use Rattle.ft_layout.specs.declared.slot.Stored.TheVariants.{Plain}
use Rattle.ft_layout.specs.Words.{FitsKey}
use Rattle.ft_trace.specs.declared.View.{View}
use Rattle.ft_trace.specs.Acts.{has_lock}
use Rattle.ft_trace.specs.Addresses.{container_count}
use Rattle.ft_trace.specs.FitCalls.{FitsDictCall, FitsValue}
use Rattle.ft_trace.specs.Holds.{known_state}
use Rattle.ft_trace.specs.ContainerStates.{state_at}
use Rattle.ft_trace.proofs.GrownDicts.{added_next, added_length}
use Rattle.ft_trace.proofs.Naming.{named_locked}
use Rattle.ft_bank.specs.WriteSteps.{MayHave}
use Rattle.ft_new_keys.specs.KeyGrowth.{AddsKey, key_takes, most_of}
use Rattle.ft_new_keys.specs.Placing.{with_key}
use Rattle.ft_dict.proofs.Reading.{not_found}
use Rattle.ft_dict.proofs.Leaving.{dict_is, table_is, many_tables, replies, declared, left_at}
use Rattle.ft_model.proofs.SplitDicts.{unsplit_takes, unsplit_leaves}

module _ (d : ℕ) (v : View) (pairs : DictContent) (low : d < container_count v.shape) (mine : has_lock d v.log ≡ true) (is_dict : (known_state d v).content ≡ content.Dict pairs) (key : Key) (value : Value) (missing : has_key pairs.pairs key ≡ false) (dc : DictCall) (said : Reply) (other : other_dict dc ≡ None) (cursor : cursor_of_dict dc ≡ None) (grows : dict_change dc ≡ change.Grows) (quiet : is_raised said ≡ false) where
  abbrev called : Call
  called = call.Dict d dc

  abbrev news : DictContent
  news = dict_set pairs key value

  abbrev had : TableUse
  had = (known_state d v).table

  module _ (found : StoredWorld) (has : MayHave v found) (answered : answer_dict found.world no_hands d pairs dc ≡ puts found.world no_hands d (content.Dict news) said) where
    abbrev after : List Content
    after = after_write found.world called

    abbrev T : TableUse
    T = table_at found.tables d

    left_is : (e : Content) → slice_index_or after d e ≡ content.Dict news
    left_is = left_at d v pairs low mine is_dict found has dc said news answered

    drawn : (dict_at after d).next - (dict_at found.world d).next ≡ 1
    drawn =
        let a : (dict_at after d).next ≡ news.next = ap (λ (z : Content). (dict_of z).next) (left_is (content.Dict empty_dict)) in
        let e : (dict_at found.world d).next ≡ pairs.next = ap (λ (z : DictContent). z.next) (dict_is d v pairs low mine is_dict found has) in
        let n = added_next pairs key value missing in
        omega (arith, a, e, n)

    many : length (dict_at after d).pairs ≡ length pairs.pairs + 1
    many = ap (λ (z : Content). length (dict_of z).pairs) (left_is (content.Dict empty_dict)) ∙ added_length pairs key value missing

    takes : takes_in found called ≡ key_takes (content.Dict pairs) had
    takes =
        let table = table_is d v pairs low mine is_dict found has in
        let one = drawn in
        let count = many in
        unsplit_takes T dc (dict_at found.world d) (dict_at after d) (has.unsplit d)
        ∙ (ap (λ (z : TableChange). change_takes z (dict_takes T (dict_at found.world d) (dict_at after d)) (copy_takes (length (dict_at found.world d).pairs))) grows
        ∙ (λ i. if outgrows_dict (table i) (one i) then Some (dict_class (count i)) else None))

    left_kept : state_at (after_stored found called) d ≡ record { content = content.Dict news; table = grown_table had (key_takes (content.Dict pairs) had) 1 (length pairs.pairs + 1) }
    left_kept =
        let some = (dict_at after d).next - (dict_at found.world d).next in
        let all = length (dict_at after d).pairs in
        let table = table_is d v pairs low mine is_dict found has in
        let one = drawn in
        let count = many in
        let class = takes in
        let c = left_is (content.List []) in
        let t : table_at (after_stored found called).tables d ≡ grown_table had (key_takes (content.Dict pairs) had) 1 (length pairs.pairs + 1) =
        ap (λ (z : List TableUse). table_at z d) (unsplit_leaves found.tables d dc (dict_at found.world d) (dict_at after d) (takes_in found called) (has.unsplit d))
        ∙ (ap (λ (z : TableChange). table_at (change_leaves found.tables d z (grown_table T (takes_in found called) some all) (copy_leaves (length (dict_at found.world d).pairs))) d) grows
        ∙ (get_or-set_same found.tables d (grown_table T (takes_in found called) some all) no_table (many_tables d v pairs low mine is_dict found has)
        ∙ (λ i. grown_table (table i) (class i) (one i) (count i)))) in
        λ i. record { content = c i; table = t i }

    over : would_pass found.world called ≡ nat_lt most_pairs (length pairs.pairs + 1)
    over =
        (λ i. adds (grows i) && list_any passes_cap (map (λ place. slice_index_or after place (content.List [])) (one_or_two d (other i))))
        ∙ (ap (λ (z : Content). passes_cap z || false) (left_is (content.List []))
        ∙ (by_or (nat_lt most_pairs (length news.pairs)) ∙ ap (λ (n : ℕ). nat_lt most_pairs n) (added_length pairs key value missing)))
      where
        by_or : (b : Bool) → (b || false) ≡ b
        by_or true = refl
        by_or false = refl

    lacks : CanLackMemory found.world called
    lacks = record {
      adds = ap adds grows;
      raises_nothing = ap is_raised (replies d v pairs low mine is_dict found has dc said (puts found.world no_hands d (content.Dict news) said) answered refl) ∙ quiet;
    }

  pub adds_key : is_changing_dict dc ≡ true → FitsDictCall dc → ((found : StoredWorld) → MayHave v found → answer_dict found.world no_hands d pairs dc ≡ puts found.world no_hands d (content.Dict news) said) → AddsKey d called said key (Plain value) v
  adds_key changing fits answered = record {
    write = (λ i. changing i && not (quiet i));
    changed = (λ i. unwrap_or (if changing i then Some (changed_dict d (grows i)) else None) 0);
    words = fits;
    locks = named_locked d (other_dict dc) v.log mine (subst (λ (z : Option ℕ). IfSome z (λ q. has_lock q v.log ≡ true)) (sym other) tt);
    replied = λ found has. replies d v pairs low mine is_dict found has dc said (puts found.world no_hands d (content.Dict news) said) (answered found has) refl;
    declared = λ found has. declared d v pairs low mine is_dict found has dc said other cursor;
    lacks = λ found has. lacks found has (answered found has);
    over = λ found has. over found has (answered found has) ∙ ap (λ (z : Content). nat_lt (most_of z) (length_of z + 1)) (sym is_dict);
    takes = λ found has. takes found has (answered found has) ∙ ap (λ (z : Content). key_takes z had) (sym is_dict);
    left_is = λ found has. left_kept found has (answered found has) ∙ (λ i. record { content = with_key (sym is_dict i) key (Plain value); table = grown_table had (key_takes (sym is_dict i) had) 1 (length_of (sym is_dict i) + 1) });
  }

module _ (d : ℕ) (v : View) (pairs : DictContent) (low : d < container_count v.shape) (mine : has_lock d v.log ≡ true) (is_dict : (known_state d v).content ≡ content.Dict pairs) (key : Key) (value : Value) (fits : FitsKey key) (fit : FitsValue value) (missing : has_key pairs.pairs key ≡ false) where
  pub set_adds : AddsKey d (call.Dict d (dict.Set key value)) reply.Done key (Plain value) v
  set_adds = adds_key d v pairs low mine is_dict key value missing (dict.Set key value) reply.Done refl refl refl refl refl (fits, fit) (λ found has. refl)

  pub setdefault_adds : AddsKey d (call.Dict d (dict.SetDefault key value)) (reply.Value value) key (Plain value) v
  setdefault_adds =
      adds_key d v pairs low mine is_dict key value missing (dict.SetDefault key value) (reply.Value value) refl refl refl refl refl (fits, fit)
      (λ found has. ap (λ (z : Option Value). option_map_or (λ value. shows found.world no_hands (reply.Value value)) z (puts found.world no_hands d (content.Dict (dict_set pairs key value)) (reply.Value value))) (not_found pairs.pairs key missing))
