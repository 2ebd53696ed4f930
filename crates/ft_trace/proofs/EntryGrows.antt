-- That a dict or a set may get another table by a pass that has its lock, as a whole write: what both share.
use Rattle.std.proofs.Common.{◌≡◌, ◌≢◌, ℕ, suc, ◌+◌, ◌*◌, ◌%◌, ◌<◌, ◌≤◌, true, false, List, [], ◌∷◌, length, Some, refl, sym, ap, ◌∙◌, subst, arith, length-set, get_or-set_same, get_or-set_other, inl}
use Rattle.std.specs.Prelude.{slice_index, slice_set}
use mathlib.Core.Logic.{dite}
use native.Mathlib.Decide.{ℕ_discrete}
use Rattle.ft_model.specs.declared.call.Call.{Call}
use Rattle.ft_model.specs.declared.content.Content.{Content}
use Rattle.ft_model.specs.declared.data.Key.{Key}
use Rattle.ft_model.specs.declared.reply.Reply.TheVariants as reply
use Rattle.ft_model.specs.declared.script.Kind.{Kind}
use Rattle.ft_model.specs.Worlds.{kind_of}
use Rattle.ft_model.specs.TableUses.{stored_newest}
use Rattle.ft_layout.specs.Words.{FitsKey}
use Rattle.ft_layout.specs.Containers.{StandsAs}
use Rattle.ft_layout.proofs.WordLaws.{gone_is, kind_range}
use Rattle.ft_trace.specs.declared.Snap.{Snap}
use Rattle.ft_trace.specs.declared.View.{View}
use Rattle.ft_trace.specs.Addresses.{class_of, slots, IsTableName}
use Rattle.ft_trace.specs.Acts.{stage}
use Rattle.ft_trace.specs.Pictures.{index_field, entry_offset, entry_field, walk_of, root_in}
use Rattle.ft_trace.specs.Carefuls.{said_of, HasLiveKey, Reached, Sound, Clear, OpensChanged}
use Rattle.ft_trace.specs.Kinds.{is_key, under, rows, version_at, IsKeyed}
use Rattle.ft_trace.specs.OddVersions.{Shut}
use Rattle.ft_trace.specs.Holds.{held_unboxed, known_state, hand_unboxed, AgreesWith, held_words}
use Rattle.ft_trace.specs.Traces.{IsReachable}
use Rattle.ft_trace.specs.WholeWrites.{to_table, MayPuts, WholeWrite, with_root_put, at_commit, at_end, after_write_of, MayBegin}
use Rattle.ft_trace.specs.KeyWrites.{count_puts}
use Rattle.ft_trace.proofs.ByKind.{keyed_fit}
use Rattle.ft_trace.proofs.DictWrites.{EntryVersionsChangeNothing, version_stands}
use Rattle.ft_trace.proofs.EntryPuts.{entry_close}
use Rattle.ft_trace.proofs.KeyedWrites.{versions_lie, clear_keyed, sound_keyed, keyed_put, counts_may_be_put, root_stays}
use Rattle.ft_trace.proofs.KnownContents.{use_of}
use Rattle.ft_trace.proofs.Known.{hand_is_long}
use Rattle.ft_trace.proofs.WriteFacts.{CallFacts, PutsContent, replaces, facts_suffice}
use Rattle.ft_trace.proofs.Opened.{only_opens}
use Rattle.ft_trace.specs.declared.Act.TheVariants.{PutRoot}
use Rattle.ft_trace.specs.Boxes.{HasReferences}

-- `count` is how many there are afterwards, `next` the next serial; the fresh table has the new key in the entry p, whose
-- version is 1
module _ (versions : EntryVersionsChangeNothing) (v : View) (o t p count next : ℕ) (key : Key) (x news : Content) (keyed : IsKeyed (kind_of x)) (still : IsKeyed (kind_of news)) (called : Call) (begin : MayBegin v o) (is : (known_state o v).content ≡ x) (named : IsTableName v.shape t) (fresh : stage t v.log ≡ 1) (low : p < rows (kind_of x) (class_of t))
    (live : HasLiveKey (slots (class_of t)) (hand_unboxed o t v) p key) (open_entry : entry_field (slots (class_of t)) (hand_unboxed o t v) p 0 ≡ 1) (others : (q : ℕ) → q < rows (kind_of x) (class_of t) → q ≢ p → entry_field (slots (class_of t)) (hand_unboxed o t v) q 0 ≡ 0) (refs : HasReferences v.shape v.log (PutRoot o (suc t) (root_in (held_words o v))) o) where
  abbrev kind : Kind
  kind = kind_of x

  abbrev c : ℕ
  c = class_of t

  abbrev n : ℕ
  n = slots c

  abbrev m : ℕ
  m = rows kind c

  abbrev zs : List ℕ
  zs = hand_unboxed o t v

  abbrev write : WholeWrite
  write = record { root = Some (suc t); early = count_puts count count next; call = called; reply = reply.Done; late = to_table (entry_offset n p 0) 2 ∷ [] }

  abbrev block : List ℕ
  block = (at_commit v o write).block

  long : n + 8 * m ≤ length zs
  long = let l = hand_is_long v o t in let f = keyed_fit kind keyed c in omega (arith, l, f)

  young : (q : ℕ) → q < m → slice_index zs (version_at kind c q) ≤ 1
  young =
      subst (λ (at : ℕ → ℕ). (q : ℕ) → q < m → slice_index zs (at q) ≤ 1) (versions_lie kind keyed c)
      (λ q less. dite (ℕ_discrete q p) (λ (e : q ≡ p). let one = ap (λ (z : ℕ). entry_field n zs z 0) e ∙ open_entry in omega (arith, one)) (λ ne. let z = others q less ne in omega (arith, z)))

  early : MayPuts kind t x false (with_root_put v o (Some (suc t))) (count_puts count count next)
  early = counts_may_be_put kind t x (slice_set (held_unboxed o v).block 0 (suc t)) zs count count next [] tt

  shut : Shut (λ q. entry_offset n q 0) m (at_end v o write).table
  shut q less =
      let l = long in
      dite (ℕ_discrete q p)
      (λ (e : q ≡ p). let x : entry_field n (at_end v o write).table q 0 ≡ 2 = ap (λ (z : ℕ). entry_field n (at_end v o write).table z 0) e ∙ get_or-set_same zs (entry_offset n p 0) 2 0 (omega (arith, low, l)) in omega (arith, x))
      (λ ne. let x : entry_field n (at_end v o write).table q 0 ≡ 0 = get_or-set_other zs (entry_offset n p 0) (entry_offset n q 0) 2 0 (λ e. ne (omega (arith, e))) ∙ others q less ne in omega (arith, x))

  -- what the words of the new table say, and what is under keys before and after
  module _ (words : StandsAs v.shape.texts block (0 ∷ 0 ∷ zs) (use_of t count) news) (size_is : length block ≡ 6) (right : (q : ℕ) (a : Key) → q < m → HasLiveKey n zs q a → under news a ≡ said_of n zs q) (names_keys : (s q : ℕ) → s < n → index_field zs s ≡ suc q → entry_field n zs q 2 ≢ 0)
      (reached : (a : Key) → FitsKey a → under news a ≢ [] → Reached n m zs (walk_of kind v.shape.texts c a) a) (apart : (q : ℕ) (a : Key) → q < m → q ≢ p → HasLiveKey n zs q a → is_key key a ≡ true → ⊥) (other : (a : Key) → is_key key a ≡ false → under news a ≡ under x a) (there_still : (a : Key) → under x a ≢ [] → under news a ≢ []) (lacks : under x key ≡ [])
      (facts : CallFacts v o kind called reply.Done) (history : (calls : List Call) → AgreesWith v (stored_newest v.shape.starts calls) → PutsContent v o news (use_of t count) write (stored_newest v.shape.starts calls)) where
    -- another entry that is live is of another key
    others_stay : (q : ℕ) (a : Key) → q < m → entry_field n zs q 0 % 2 ≡ 0 → HasLiveKey n zs q a → under news a ≡ under x a
    others_stay q a less two l =
        let ne : q ≢ p = λ (e : q ≡ p). let v1 : entry_field n zs q 0 ≡ 1 = ap (λ (z : ℕ). entry_field n zs z 0) e ∙ open_entry in absurd (omega (arith, v1, two)) in
        elim (is_key key a) as (λ z. is_key key a ≡ z → under news a ≡ under x a) [
          | true ↦ λ yes. absurd (apart q a less ne l yes)
          | false ↦ λ differs. other a differs
        ] refl

    sound : Sound (walk_of kind v.shape.texts c) n m zs (under x)
    sound = record {
      right = λ q a less two l. sym (others_stay q a less two l) ∙ right q a less l;
      named = λ s q less in_table e. names_keys s q less e;
      reached = λ a fits some. reached a fits (there_still a some);
    }

    -- the entry is of the key, under which nothing was
    opens : OpensChanged n m zs (under x) (under news)
    opens =
        only_opens n m zs (under x) (under news) p key (λ q less ne. let z = others q less ne in omega (arith, z)) (inl live)
        (λ same. let e : said_of n zs p ≡ [] = sym (right p key low live) ∙ (same ∙ lacks) in absurd (cc))

    clear : Clear (walk_of kind v.shape.texts c) n m zs (under x) (under news)
    clear = record { keeps = λ q a less two l. others_stay q a less two l; opens = opens; adds = λ a fits none some. reached a fits some }

    names_now : slice_index block 0 ≡ suc t
    names_now = root_stays (slice_set (held_unboxed o v).block 0 (suc t)) count count next ∙ get_or-set_same (held_unboxed o v).block 0 (suc t) 0 wide
      where
        wide : 0 < length (held_unboxed o v).block
        wide =
            let b0 = slice_set (held_unboxed o v).block 0 (suc t) in
            let a = length-set (slice_set (slice_set b0 1 count) 2 count) 3 next in
            let b = length-set (slice_set b0 1 count) 2 count in
            let c = length-set b0 1 count in
            let d = length-set (held_unboxed o v).block 0 (suc t) in
            omega (arith, size_is, a, b, c, d)

    late : MayPuts kind t news true (at_commit v o write) (to_table (entry_offset n p 0) 2 ∷ [])
    late =
        let care =
        entry_close n m zs (under news) p 2 (omega (arith, open_entry)) refl (λ a l. right p a low l)
        (λ a dead. let g = gone_is a in let b = (kind_range a).0 in let h = (kind_range key).1 in let x = live.0 in let e = dead.0 in absurd (omega (arith, g, b, h, x, e))) in
        (keyed_put kind keyed t news true (at_commit v o write) p 0 2 names_now low (omega arith) (λ z. omega (arith, z)) (λ z. omega (arith, z)) care (record { before = λ q less at odd. absurd (omega (arith, odd)); later = λ q less at two. refl }), tt)

    pub grow_possible : (start number : ℕ) × (s : Snap) × (stop : ℕ) × IsReachable (after_write_of v o t write start number s stop)
    grow_possible =
        facts_suffice v o t x news (use_of t count) write begin is
        (record {
          called = facts;
          root = replaces v o t x called begin is named fresh (sound_keyed kind keyed v.shape.texts c zs x sound) young refs;
          early = early;
          boxes = tt;
          names = names_now;
          clear = clear_keyed kind keyed v.shape.texts c zs x news clear;
          late = late;
          names_still = names_now;
          ends = version_stands versions v.shape.texts block zs c count p 2 named.0 news still words;
          shut = subst (λ (at : ℕ → ℕ). Shut at m (at_end v o write).table) (versions_lie kind keyed c) shut;
          history = history;
        })
