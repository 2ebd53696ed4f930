-- That a key may be taken out of a dict or a set by a pass that has its lock, as a whole write: what both share.
use Rattle.std.proofs.Common.{◌≡◌, ℕ, suc, ◌+◌, ◌*◌, ◌%◌, ◌<◌, ◌≤◌, true, false, List, [], ◌∷◌, length, None, refl, sym, ◌∙◌, subst, arith, get_or-set_other, ◌≢◌}
use Rattle.std.specs.Prelude.{slice_index, slice_set}
use Rattle.ft_model.specs.declared.call.Call.{Call}
use Rattle.ft_model.specs.declared.content.Content.{Content}
use Rattle.ft_model.specs.declared.data.Key.{Key}
use Rattle.ft_model.specs.declared.reply.Reply.TheVariants as reply
use Rattle.ft_model.specs.declared.script.Kind.{Kind}
use Rattle.ft_model.specs.Answers.{answer, puts}
use Rattle.ft_model.specs.Classes.{IsClass}
use Rattle.ft_model.specs.Worlds.{kind_of, no_hands}
use Rattle.ft_model.specs.TableUses.{StoredWorld, stored_newest, table_at, would_pass, after_stored}
use Rattle.ft_layout.specs.Words.{key_kind, key_payload, gone_kind}
use Rattle.ft_layout.specs.Containers.{StandsAs}
use Rattle.ft_trace.specs.declared.Snap.{Snap}
use Rattle.ft_trace.specs.declared.View.{View}
use Rattle.ft_trace.specs.Addresses.{class_of, slots}
use Rattle.ft_trace.specs.Pictures.{root_in, entry_offset, entry_field, walk_of}
use Rattle.ft_trace.specs.Carefuls.{HasLiveKey, Clear, OpensChanged}
use Rattle.ft_trace.specs.Kinds.{under, rows, IsKeyed}
use Rattle.ft_trace.specs.OddVersions.{Shut}
use Rattle.ft_trace.specs.Holds.{held_unboxed, known_state, AgreesWith}
use Rattle.ft_trace.specs.Traces.{IsReachable}
use Rattle.ft_trace.specs.Grants.{MayWrite}
use Rattle.ft_trace.specs.WholeWrites.{to_block, MayPut, MayPuts, WholeWrite, at_commit, at_end, after_write_of}
use Rattle.ft_trace.specs.EntryWrites.{entry_closed}
use Rattle.ft_trace.specs.DeleteWrites.{delete_puts}
use Rattle.ft_trace.proofs.ByKind.{keyed_fit}
use Rattle.ft_trace.proofs.Known.{in_bank, table_is_long}
use Rattle.ft_trace.proofs.KnownContents.{use_of, known_use, known_shut, table_there, keys_there}
use Rattle.ft_trace.proofs.KeyedWrites.{versions_lie, clear_keyed, keyed_put}
use Rattle.ft_trace.proofs.EntryPuts.{dead_open, dead_kind, dead_same, dead_late, dead_shut, dead_is, dead_opens}
use Rattle.ft_trace.proofs.ListWrites.{may_begin}
use Rattle.ft_trace.proofs.DictWrites.{EntryVersionsChangeNothing, version_stands}
use Rattle.ft_trace.proofs.WriteFacts.{CallFacts, facts_suffice}

-- `count` is how many there are afterwards
module _ (versions : EntryVersionsChangeNothing) (v : View) (o t p count : ℕ) (key : Key) (x news : Content) (keyed : IsKeyed (kind_of x)) (still : IsKeyed (kind_of news)) (called : Call) (may : MayWrite v o) (is : (known_state o v).content ≡ x) (names : root_in (held_unboxed o v) ≡ suc t) (low : p < rows (kind_of x) (class_of t))
    (live : HasLiveKey (slots (class_of t)) (held_unboxed o v).table p key) where
  abbrev kind : Kind
  kind = kind_of x

  abbrev c : ℕ
  c = class_of t

  abbrev n : ℕ
  n = slots c

  abbrev m : ℕ
  m = rows kind c

  abbrev fill : ℕ
  fill = (known_state o v).table.fill

  abbrev ws : List ℕ
  ws = (held_unboxed o v).table

  abbrev ver : ℕ
  ver = entry_field n ws p 0

  abbrev write : WholeWrite
  write = record { root = None; early = to_block 1 count ∷ delete_puts n ws p key; call = called; reply = reply.Done; late = entry_closed n ws p }

  abbrev block : List ℕ
  block = (at_commit v o write).block

  abbrev put : List ℕ
  put = (at_commit v o write).table

  class_is : IsClass c
  class_is = (in_bank v o t may.low may.possible may.mine names).0

  long : n + 8 * m ≤ length ws
  long = let l = table_is_long v o t names in let f = keyed_fit kind keyed c in omega (arith, l, f)

  shut : Shut (λ q. entry_offset n q 0) m ws
  shut = subst (λ (at : ℕ → ℕ). Shut at m ws) (sym (versions_lie kind keyed c)) (known_shut v o t x may is names)

  even : ver % 2 ≡ 0
  even = shut p low

  names_now : slice_index block 0 ≡ suc t
  names_now = get_or-set_other (held_unboxed o v).block 1 0 count 0 (λ e. absurd (omega (arith, e))) ∙ names

  early : MayPuts kind t x false (held_unboxed o v) (to_block 1 count ∷ delete_puts n ws p key)
  early =
      let e = even in
      let q1 : MayPut kind t x false (held_unboxed o v) (to_block 1 count) = (omega arith, omega arith) in
      let q2 = keyed_put kind keyed t x false (record { block = block; table = ws }) p 0 (ver + 1) names_now low (omega arith) (λ z. omega (arith, z)) (λ z. omega (arith, z)) (dead_open n m ws p key low long even live (under x)) (record { before = λ q less at one. refl; later = λ q less at two. absurd (omega (arith, two, e)) }) in
      let q3 = keyed_put kind keyed t x false (record { block = block; table = slice_set ws (entry_offset n p 0) (ver + 1) }) p 2 (gone_kind key) names_now low (omega arith) (λ z. omega (arith, z)) (λ z. omega (arith, z)) (dead_kind n m ws p key low long even live (under x)) (record { before = λ q less at one. refl; later = λ q less at two. absurd (omega (arith, at)) }) in
      (q1, (q2, (q3, tt)))

  module _ (now : StandsAs v.shape.texts block (0 ∷ 0 ∷ put) (use_of t fill) news) (gone : (a : Key) → (key_kind a ≡ key_kind key) × (key_payload a ≡ key_payload key) → under news a ≡ [])
      (clears : ((q w : ℕ) → q < m → entry_field n put q 0 % 2 ≡ 0 → w < 8 → entry_field n put q w ≡ entry_field n ws q w) → OpensChanged n m put (under x) (under news) → Clear (walk_of kind v.shape.texts c) n m put (under x) (under news)) (there : under x key ≢ []) (facts : CallFacts v o kind called reply.Done)
      (answered : (calls : List Call) → AgreesWith v (stored_newest v.shape.starts calls) → answer (stored_newest v.shape.starts calls).world no_hands called ≡ puts (stored_newest v.shape.starts calls).world no_hands o news reply.Done)
      (stays : (stored : StoredWorld) → (table_at stored.tables o).keys ≡ [] → (would_pass stored.world called ≡ false) × (table_at (after_stored stored called).tables o ≡ table_at stored.tables o)) where
    late : MayPuts kind t news true (at_commit v o write) (entry_closed n ws p)
    late =
        let e = even in
        (keyed_put kind keyed t news true (at_commit v o write) p 0 (ver + 2) names_now low (omega arith) (λ z. omega (arith, z)) (λ z. omega (arith, z)) (dead_late n m ws p key low long even live (under news) (λ a dead. gone a (dead_is n m ws p key low long even live a dead))) (record { before = λ q less at one. absurd (omega (arith, one, e)); later = λ q less at two. refl }), tt)

    pub delete_possible : (start number : ℕ) × (s : Snap) × (stop : ℕ) × IsReachable (after_write_of v o t write start number s stop)
    delete_possible =
        facts_suffice v o t x news (use_of t fill) write (may_begin v o may) is
        (record {
          called = facts;
          root = tt;
          early = early;
          boxes = tt;
          names = names_now;
          clear = clear_keyed kind keyed v.shape.texts c put x news (clears (dead_same n m ws p key low long even live) (dead_opens n m ws p key low long even live (under x) (under news) shut there (gone key (refl, refl))));
          late = late;
          names_still = names_now;
          ends = version_stands versions v.shape.texts block put c fill p (ver + 2) class_is news still now;
          shut = subst (λ (at : ℕ → ℕ). Shut at m (at_end v o write).table) (versions_lie kind keyed c) (dead_shut n m ws p key low long even live shut);
          history = λ calls agree. record {
            answered = answered calls agree;
            table_after = (stays (stored_newest v.shape.starts calls) (keys_there v o x may.low may.mine is calls agree may.possible)).1 ∙ (table_there v o x may.low may.mine is calls agree ∙ known_use v o t x may is names);
            within = (stays (stored_newest v.shape.starts calls) (keys_there v o x may.low may.mine is calls agree may.possible)).0;
            takes = λ class e. absurd (let none = may.none in omega (arith, e, none));
          };
        })
