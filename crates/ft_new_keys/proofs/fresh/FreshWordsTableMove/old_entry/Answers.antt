use Rattle.std.proofs.Common.{◌≡◌, true, false, cond, List, ℕ, ◌+◌, ◌*◌, ◌^◌, ◌<◌, ◌∷◌, refl, sym, ap, ◌∙◌, subst, arith, rules}
use Rattle.std.specs.Prelude.{slice_index}
use Rattle.ft_layout.specs.Tables.{entry_word}
use Rattle.ft_search.proofs.KnownTableWords.{entry_after_header}
use Rattle.ft_trace.specs.declared.Act.TheVariants.{ReadTable}
use Rattle.ft_trace.specs.declared.Shape.{Shape}
use Rattle.ft_trace.specs.declared.View.{View}
use Rattle.ft_trace.specs.Acts.{has_lock}
use Rattle.ft_trace.specs.Addresses.{container_count, class_of, size}
use Rattle.ft_trace.specs.Holds.{held_words, held_unboxed, in_hand}
use Rattle.ft_bank.specs.Passes.{shape_of, view}
use Rattle.ft_bank.specs.Whole.{OnlyLoaded}
use Rattle.ft_bank.proofs.KnownAfterWrites.{loaded_by, loaded_held}
use Rattle.ft_table_calls.proofs.Dropped.{hand_same, keeps_loads}
use Rattle.ft_table_calls.proofs.Rooting.{loaded_filled}
use Rattle.ft_bank.specs.TableNames.{table_id}
use Rattle.ft_search.proofs.WordPlaces.{entry_in}
use Rattle.ft_new_keys.specs.declared.fresh.FreshWords.{FreshWords}
use Rattle.ft_new_keys.specs.Fresh.{CanFill, old_entries}
use Rattle.ft_new_keys.proofs.OldValues.{few_words, row_place, row_value, word_stands}
use Rattle.ft_new_keys.proofs.fresh.FreshWordsTableMove.old_entry.Goals as goal

-- the words of the entry lie inside the table
inside : (s : FreshWords) (place word : ℕ) → CanFill s → place < old_entries s → word < 8 → (8 * place + s.old_mask + 1 + word < 2 ^ 32)
inside s place word can low few =
    let k = shape_of s.bank.now in
    let there = entry_in k s.old s.old_mask place word can.old_in can.old_mask (row_place k s.o s.old s.old_mask place can.keyed can.old_in can.old_mask low) few in
    let size = few_words k s.old can.old_in in
    omega (arith, there, size)

-- loads leave the words
fresh_same : (s : FreshWords) (v w : View) → OnlyLoaded v w → 0 ∷ 0 ∷ in_hand (table_id s.table) w ≡ 0 ∷ 0 ∷ in_hand (table_id s.table) v
fresh_same s v w l = ap (λ (z : List ℕ). 0 ∷ 0 ∷ z) (hand_same v w (table_id s.table) l.work.pass.shape l.words)

old_same : (s : FreshWords) (v w : View) → CanFill s → v ≡ view s.pass.now → OnlyLoaded v w → 0 ∷ 0 ∷ (cond s.in_place (held_unboxed s.o w) (held_words s.o w)).table ≡ 0 ∷ 0 ∷ (cond s.in_place (held_unboxed s.o v) (held_words s.o v)).table
old_same s v w can is l =
    let shape : v.shape ≡ shape_of s.bank.now = ap (λ (z : View). z.shape) is ∙ can.pass.1 in
    let locked : has_lock s.o v.log ≡ true = ap (λ (z : View). has_lock s.o z.log) is ∙ can.locked in
    let reads = l.unboxed s.o (subst (λ (z : Shape). s.o < container_count z) (sym shape) can.container) locked in
    let raw = loaded_held v w s.o l in
    λ d. 0 ∷ 0 ∷ (cond s.in_place (reads d) (raw d)).table

inside_table : (s : FreshWords) (place word : ℕ) → CanFill s → place < old_entries s → word < 8 → 8 * place + s.old_mask + 1 + word < size (class_of (table_id s.old))
inside_table s place word can low few =
    let there = entry_in (shape_of s.bank.now) s.old s.old_mask place word can.old_in can.old_mask (row_place (shape_of s.bank.now) s.o s.old s.old_mask place can.keyed can.old_in can.old_mask low) few in
    omega (arith, there)

pub overflow_mul-at : goal.overflow_mul-at
overflow_mul-at c = let i = inside c.args.self.now c.args.place c.args.word c.requires.can c.requires.place.0 c.requires.place.1 in omega (arith, i)

pub overflow_add-at : goal.overflow_add-at
overflow_add-at c = let i = inside c.args.self.now c.args.place c.args.word c.requires.can c.requires.place.0 c.requires.place.1 in omega (arith, i)

pub overflow_add-at-2 : goal.overflow_add-at-2
overflow_add-at-2 c = let i = inside c.args.self.now c.args.place c.args.word c.requires.can c.requires.place.0 c.requires.place.1 in omega (arith, i)

pub overflow_add-at-then-word-eq-VALUE_KIND : goal.overflow_add-at-then-word-eq-VALUE_KIND
overflow_add-at-then-word-eq-VALUE_KIND c = let i = inside c.args.self.now c.args.place 4 c.requires.can c.requires.place.0 (omega arith) in omega (arith, i)

pub overflow_add-at-then-word-eq-VALUE : goal.overflow_add-at-then-word-eq-VALUE
overflow_add-at-then-word-eq-VALUE c = let i = inside c.args.self.now c.args.place 4 c.requires.can c.requires.place.0 (omega arith) in omega (arith, i)

pub overflow_add-at-3 : goal.overflow_add-at-3
overflow_add-at-3 c = let i = inside c.args.self.now c.args.place c.args.word c.requires.can c.requires.place.0 c.requires.place.1 in omega (arith, i)

pub read_stored-requires-clause-value : goal.read_stored-requires-clause-value
read_stored-requires-clause-value c =
    let s = c.args.self.now in
    let can = c.requires.can in
    (c.args.place, c.requires.place.0, row_value (shape_of s.bank.now) s.o s.old s.old_mask c.args.place can.keyed can.old_in can.old_mask)

pub read_stored-requires-then-word-eq-VALUE-clause-value : goal.read_stored-requires-then-word-eq-VALUE-clause-value
read_stored-requires-then-word-eq-VALUE-clause-value c =
    let s = c.args.self.now in
    let can = c.requires.can in
    (c.args.place, c.requires.place.0, row_value (shape_of s.bank.now) s.o s.old s.old_mask c.args.place can.keyed can.old_in can.old_mask)

-- where a word of an entry is, as rebuilds count it
raw_at_place : (l : List ℕ) (mask place word : ℕ) → entry_word mask (0 ∷ 0 ∷ l) place word ≡ slice_index l (8 * place + mask + 1 + word)
raw_at_place l mask place word = entry_after_header l mask place word ∙ ap (slice_index l) (let e : 8 * place + word + mask + 1 ≡ 8 * place + mask + 1 + word = omega arith in e)

pub overflow_add-at-then-not-self : goal.overflow_add-at-then-not-self
overflow_add-at-then-not-self c = let i = inside c.args.self.now c.args.place c.args.word c.requires.can c.requires.place.0 c.requires.place.1 in omega (arith, i)

pub read_word-requires-clause-word : goal.read_word-requires-clause-word
read_word-requires-clause-word c = inside_table c.args.self.now c.args.place c.args.word c.requires.can c.requires.place.0 c.requires.place.1

pub read_word-requires-2-clause-word : goal.read_word-requires-2-clause-word
read_word-requires-2-clause-word c = inside_table c.args.self.now c.args.place c.args.word c.requires.can c.requires.place.0 c.requires.place.1

-- the word as it stands
pub returns-then-not-self-clause-gave : goal.returns-then-not-self-clause-gave
returns-then-not-self-clause-gave c =
    let s = c.args.self.now in
    let can = c.requires.can in
    let k = shape_of s.bank.now in
    let v = view s.pass.now in
    let w = view c.read_word.new.pass in
    let l = loaded_by (ReadTable (table_id s.old) (8 * c.args.place + s.old_mask + 1 + c.args.word) c.read_word.result) v w tt c.read_word.ensures.did.1 in
    let raw : s.in_place ≡ false = search (rules, c.if-not-self.true) in
    record {
      bank = refl;
      pass = refl;
      stack = c.read_word.ensures.did.2;
      o = refl;
      old = refl;
      old_mask = refl;
      old_start = refl;
      start = refl;
      table = refl;
      mask = refl;
      in_place = refl;
      only = loaded_filled v w l;
      values = keeps_loads v w s.pass.now.possible l;
      tells = tt;
      tells_old = c.read_word.ensures.held s.o can.container can.locked can.old_root
          ∙ (sym (raw_at_place (held_words s.o v).table s.old_mask c.args.place c.args.word)
          ∙ (λ d. entry_word s.old_mask (0 ∷ 0 ∷ (cond (sym raw d) (held_unboxed s.o v) (held_words s.o v)).table) c.args.place c.args.word));
      left = fresh_same s v w l;
      left_old = old_same s v w can refl l;
    }

pub returns-clause-gave : goal.returns-clause-gave
returns-clause-gave c =
    let s = c.args.self.now in
    let can = c.requires.can in
    let k = shape_of s.bank.now in
    let v = view s.pass.now in
    let w = view c.read_word-2.new.pass in
    let l = loaded_by (ReadTable (table_id s.old) (8 * c.args.place + s.old_mask + 1 + c.args.word) c.read_word-2.result) v w tt c.read_word-2.ensures.did.1 in
    let read : s.in_place ≡ true = search (rules, c.if-not-self.false) in
    record {
      bank = refl;
      pass = refl;
      stack = c.read_word-2.ensures.did.2;
      o = refl;
      old = refl;
      old_mask = refl;
      old_start = refl;
      start = refl;
      table = refl;
      mask = refl;
      in_place = refl;
      only = loaded_filled v w l;
      values = keeps_loads v w s.pass.now.possible l;
      tells = tt;
      tells_old = c.read_word-2.ensures.held s.o can.container can.locked can.old_root
          ∙ (word_stands k s.o s.old s.old_mask c.args.place c.args.word v can.pass.1 can.keyed can.old_in can.old_mask can.old_root c.requires.place.1 c.if-word-eq-VALUE_KIND.false c.if-word-eq-VALUE.false
          ∙ (λ d. entry_word s.old_mask (0 ∷ 0 ∷ (cond (sym read d) (held_unboxed s.o v) (held_words s.o v)).table) c.args.place c.args.word));
      left = fresh_same s v w l;
      left_old = old_same s v w can refl l;
    }
