-- Calls that put index words and words of one entry, where neither the value that stands in the entry nor the one that is
-- put names a box: what the table reads then, and which boxes it names.
use Rattle.std.proofs.Common.{◌≡◌, ◌≢◌, ℕ, zero, suc, ◌+◌, ◌*◌, ◌<◌, ◌≤◌, List, [], ◌∷◌, ◌++◌, length, refl, sym, ap, ◌∙◌, subst, arith, length-set, get_or-set_same, get_or-set_other}
use Rattle.std.specs.Prelude.{slice_index, slice_set}
use mathlib.Core.Logic.{dite}
use native.Mathlib.Decide.{ℕ_discrete}
use Rattle.ft_model.specs.declared.script.Kind.{Kind}
use Rattle.ft_model.specs.declared.script.Kind.TheVariants as kind
use Rattle.ft_layout.specs.declared.slot.Pair.{Pair}
use Rattle.ft_layout.specs.Words.{entry_words, stored_kind}
use Rattle.ft_keys.specs.declared.words.Access.{Access}
use Rattle.ft_keys.specs.declared.words.Access.TheVariants.{Index, Entry, PutIndex, PutEntry, OldEntry}
use Rattle.ft_keys.specs.TableChanges.{place_puts, unless_zero}
use Rattle.ft_trace.specs.Addresses.{class_of, slots}
use Rattle.ft_trace.specs.Boxes.{value_at, names_box, names_box_at, named_in_root}
use Rattle.ft_trace.specs.Kinds.{rows, IsKeyed}
use Rattle.ft_trace.specs.Pictures.{entry_offset, entry_field}
use Rattle.ft_trace.specs.Sums.{sum_to}
use Rattle.ft_trace.specs.Unboxed.{unboxed_kind, unboxed_payload, unboxed_rows, with_value}
use Rattle.ft_trace.specs.WholeWrites.{IsNoValue}
use Rattle.ft_trace.proofs.Cases.{miss}
use Rattle.ft_trace.proofs.ReadTables.{rows_at, set_self}
use Rattle.ft_trace.proofs.Sums.{sum_same}
use Rattle.ft_trace.proofs.ValuePlaces.{keyed_far, set_slot_far, slot_far}
use Rattle.ft_trace.proofs.ValuePuts.{value_put, word_put}
use Rattle.ft_search.proofs.Overs.{plain_names}
use Rattle.ft_search.proofs.Puts.{keyed_value}
use Rattle.ft_new_keys.specs.Internal.Laying.{laid}

-- an index word is no value's
pub keyed_slot_far : (kind : Kind) → IsKeyed kind → (c s : ℕ) → s < slots c → IsNoValue kind c s
keyed_slot_far kind.Dict keyed c s low = slot_far c s low
keyed_slot_far kind.Set keyed c s low = set_slot_far c s low
keyed_slot_far kind.List keyed c s low = absurd keyed
keyed_slot_far (kind.Deque bound) keyed c s low = absurd keyed

-- ---- one word of a value that stands in place

module _ (box : ℕ → ℕ → ℕ) (kind : Kind) (c m p x : ℕ) (l : List ℕ) (low : p < m) (long : suc (value_at kind c p) < length l) (plain : slice_index l (value_at kind c p) ≢ 4) where
  abbrev spot : ℕ
  spot = value_at kind c p

  abbrev Read : List ℕ → List ℕ
  Read t = unboxed_rows box kind c m t

  -- the value reads as it stands
  reads_kind : slice_index (Read l) spot ≡ slice_index l spot
  reads_kind = (rows_at box kind c m p l low long).0 ∙ miss (slice_index l spot) 4 (box (slice_index l (suc spot)) 1) (slice_index l spot) plain

  reads_payload : slice_index (Read l) (suc spot) ≡ slice_index l (suc spot)
  reads_payload = (rows_at box kind c m p l low long).1 ∙ miss (slice_index l spot) 4 (box (slice_index l (suc spot)) 2) (slice_index l (suc spot)) plain

  -- and so does another one that names no box
  put_reads : (a b : ℕ) → a ≢ 4 → Read (with_value spot a b l) ≡ with_value spot a b (Read l)
  put_reads a b ne =
      let one : unboxed_kind box a b ≡ a = miss a 4 (box b 1) a ne in
      let two : unboxed_payload box a b ≡ b = miss a 4 (box b 2) b ne in
      value_put box kind c m p a b l low long ∙ (λ d. with_value spot (one d) (two d) (Read l))

  -- a put of one of the two words is a put of both
  kind_as : (t : List ℕ) → slice_set t spot x ≡ with_value spot x (slice_index t (suc spot)) t
  kind_as t =
      let other : slice_index (slice_set t spot x) (suc spot) ≡ slice_index t (suc spot) = get_or-set_other t spot (suc spot) x 0 (λ z. omega (arith, z)) in
      sym (ap (λ (z : ℕ). slice_set (slice_set t spot x) (suc spot) z) (sym other) ∙ set_self (slice_set t spot x) (suc spot))

  payload_as : (t : List ℕ) → slice_set t (suc spot) x ≡ with_value spot (slice_index t spot) x t
  payload_as t = sym (ap (λ (l : List ℕ). slice_set l (suc spot) x) (set_self t spot))

  pub kind_reads : x ≢ 4 → Read (slice_set l spot x) ≡ slice_set (Read l) spot x
  kind_reads ne =
      ap Read (kind_as l)
      ∙ (put_reads x (slice_index l (suc spot)) ne
      ∙ (ap (λ (z : ℕ). with_value spot x z (Read l)) (sym reads_payload) ∙ sym (kind_as (Read l))))

  pub payload_reads : Read (slice_set l (suc spot) x) ≡ slice_set (Read l) (suc spot) x
  payload_reads =
      ap Read (payload_as l)
      ∙ (put_reads (slice_index l spot) x plain
      ∙ (ap (λ (z : ℕ). with_value spot z x (Read l)) (sym reads_kind) ∙ sym (payload_as (Read l))))

-- ---- calls

-- the call puts an index word, or a word of the entry at p, and no kind of a value that names a box
abbrev pub IsPlainCall : ℕ → ℕ → Access → Type 0
IsPlainCall n p (PutIndex slot value) = slot < n
IsPlainCall n p (PutEntry place word value) = (place ≡ p) × (word < 8) × (word ≡ 4 → value ≢ 4)
IsPlainCall n p access = Unit {0}

abbrev pub ArePlainCalls : ℕ → ℕ → List Access → Type 0
ArePlainCalls n p [] = Unit {0}
ArePlainCalls n p (access ∷ earlier) = IsPlainCall n p access × ArePlainCalls n p earlier

pub plain_append : (n p : ℕ) (a b : List Access) → ArePlainCalls n p a → ArePlainCalls n p b → ArePlainCalls n p (a ++ b)
plain_append n p [] b x y = y
plain_append n p (access ∷ a) b x y = (x.0, plain_append n p a b x.1 y)

pub laid_long : (n : ℕ) (calls : List Access) (l : List ℕ) → length (laid n calls l) ≡ length l
laid_long n [] l = refl
laid_long n (PutIndex slot value ∷ calls) l = length-set (laid n calls l) slot value ∙ laid_long n calls l
laid_long n (PutEntry place word value ∷ calls) l = length-set (laid n calls l) (entry_offset n place word) value ∙ laid_long n calls l
laid_long n (Index slot value ∷ calls) l = laid_long n calls l
laid_long n (Entry place word value ∷ calls) l = laid_long n calls l
laid_long n (OldEntry place word value ∷ calls) l = laid_long n calls l

-- words of other entries stay
pub laid_else : (n p q w : ℕ) → q ≢ p → w < 8 → (calls : List Access) → ArePlainCalls n p calls → (l : List ℕ) → entry_field n (laid n calls l) q w ≡ entry_field n l q w
laid_else n p q w ne few [] plain l = refl
laid_else n p q w ne few (PutIndex slot value ∷ calls) plain l =
    let in_index = plain.0 in
    get_or-set_other (laid n calls l) slot (entry_offset n q w) value 0 (λ e. absurd (omega (arith, e, in_index))) ∙ laid_else n p q w ne few calls plain.1 l
laid_else n p q w ne few (PutEntry place word value ∷ calls) plain l =
    let at = plain.0.0 in
    let less = plain.0.1 in
    get_or-set_other (laid n calls l) (entry_offset n place word) (entry_offset n q w) value 0 (λ e. ne (omega (arith, e, at, less, few)))
    ∙ laid_else n p q w ne few calls plain.1 l
laid_else n p q w ne few (Index slot value ∷ calls) plain l = laid_else n p q w ne few calls plain.1 l
laid_else n p q w ne few (Entry place word value ∷ calls) plain l = laid_else n p q w ne few calls plain.1 l
laid_else n p q w ne few (OldEntry place word value ∷ calls) plain l = laid_else n p q w ne few calls plain.1 l

-- the value of the entry names no box still
pub laid_plain : (n p : ℕ) (calls : List Access) → ArePlainCalls n p calls → (l : List ℕ) → entry_offset n p 4 < length l → entry_field n l p 4 ≢ 4 → entry_field n (laid n calls l) p 4 ≢ 4
laid_plain n p [] plain l long before four = before four
laid_plain n p (PutIndex slot value ∷ calls) plain l long before four =
    let in_index = plain.0 in
    laid_plain n p calls plain.1 l long before (sym (get_or-set_other (laid n calls l) slot (entry_offset n p 4) value 0 (λ e. absurd (omega (arith, e, in_index)))) ∙ four)
laid_plain n p (PutEntry place word value ∷ calls) plain l long before four =
    let at = plain.0.0 in
    let less = plain.0.1 in
    dite (ℕ_discrete word 4)
    (λ (e : word ≡ 4).
    let here : entry_offset n place word ≡ entry_offset n p 4 = omega (arith, e, at) in
    let inside : entry_offset n p 4 < length (laid n calls l) = subst (λ (z : ℕ). entry_offset n p 4 < z) (sym (laid_long n calls l)) long in
    plain.0.2 e (sym (ap (λ (z : ℕ). slice_index (slice_set (laid n calls l) z value) (entry_offset n p 4)) here ∙ get_or-set_same (laid n calls l) (entry_offset n p 4) value 0 inside) ∙ four))
    (λ ne. laid_plain n p calls plain.1 l long before (sym (get_or-set_other (laid n calls l) (entry_offset n place word) (entry_offset n p 4) value 0 (λ e. ne (omega (arith, e, at)))) ∙ four))
laid_plain n p (Index slot value ∷ calls) plain l long before four = laid_plain n p calls plain.1 l long before four
laid_plain n p (Entry place word value ∷ calls) plain l long before four = laid_plain n p calls plain.1 l long before four
laid_plain n p (OldEntry place word value ∷ calls) plain l long before four = laid_plain n p calls plain.1 l long before four

module _ (kind : Kind) (keyed : IsKeyed kind) (c p : ℕ) (low : p < rows kind c) (l : List ℕ) (long : slots c + 8 * rows kind c ≤ length l) (before : entry_field (slots c) l p 4 ≢ 4) where
  abbrev n : ℕ
  n = slots c

  abbrev m : ℕ
  m = rows kind c

  -- where the kind of a value lies
  at_value : (q : ℕ) → value_at kind c q ≡ entry_offset n q 4
  at_value q = keyed_value kind keyed c q

  at_payload : (q : ℕ) → suc (value_at kind c q) ≡ entry_offset n q 5
  at_payload q = let a = at_value q in omega (arith, a)

  inside : entry_offset n p 4 < length l
  inside = omega (arith, long, low)

  -- the table names the boxes that it named
  pub laid_names : (calls : List Access) → ArePlainCalls n p calls → (b t : ℕ) → class_of t ≡ c → named_in_root b kind (suc t) (laid n calls l) ≡ named_in_root b kind (suc t) l
  laid_names calls plain b t is =
      subst (λ (z : ℕ). sum_to (names_box_at b kind z (laid n calls l)) (rows kind z) ≡ sum_to (names_box_at b kind z l) (rows kind z)) (sym is)
      (sum_same (names_box_at b kind c (laid n calls l)) (names_box_at b kind c l) m one)
    where
      one : (q : ℕ) → q < m → names_box_at b kind c (laid n calls l) q ≡ names_box_at b kind c l q
      one q less =
          dite (ℕ_discrete q p)
          (λ (e : q ≡ p).
          let here : value_at kind c q ≡ entry_offset n p 4 = at_value q ∙ ap (λ (z : ℕ). entry_offset n z 4) e in
          let after = laid_plain n p calls plain l inside before in
          plain_names b (slice_index (laid n calls l) (value_at kind c q)) (slice_index (laid n calls l) (suc (value_at kind c q))) (λ four. after (ap (slice_index (laid n calls l)) (sym here) ∙ four))
          ∙ sym (plain_names b (slice_index l (value_at kind c q)) (slice_index l (suc (value_at kind c q))) (λ four. before (ap (slice_index l) (sym here) ∙ four))))
          (λ ne.
          let k1 : slice_index (laid n calls l) (value_at kind c q) ≡ slice_index l (value_at kind c q) =
          ap (slice_index (laid n calls l)) (at_value q) ∙ (laid_else n p q 4 ne (omega arith) calls plain l ∙ sym (ap (slice_index l) (at_value q))) in
          let k2 : slice_index (laid n calls l) (suc (value_at kind c q)) ≡ slice_index l (suc (value_at kind c q)) =
          ap (slice_index (laid n calls l)) (at_payload q) ∙ (laid_else n p q 5 ne (omega arith) calls plain l ∙ sym (ap (slice_index l) (at_payload q))) in
          λ d. names_box b (k1 d) (k2 d))

  -- and it reads what was put
  pub laid_reads : (box : ℕ → ℕ → ℕ) (calls : List Access) → ArePlainCalls n p calls → unboxed_rows box kind c m (laid n calls l) ≡ laid n calls (unboxed_rows box kind c m l)
  laid_reads box [] plain = refl
  laid_reads box (PutIndex slot value ∷ calls) plain =
      word_put box kind c m slot value (laid n calls l) (keyed_slot_far kind keyed c slot plain.0) ∙ ap (λ (z : List ℕ). slice_set z slot value) (laid_reads box calls plain.1)
  laid_reads box (PutEntry place word value ∷ calls) plain =
      let at = plain.0.0 in
      let few = plain.0.1 in
      let old = laid n calls l in
      let after = laid_plain n p calls plain.1 l inside before in
      let there : slice_index old (value_at kind c p) ≢ 4 = λ four. after (ap (slice_index old) (sym (at_value p)) ∙ four) in
      let size = laid_long n calls l in
      let next = at_payload p in
      let wide : suc (value_at kind c p) < length old = omega (arith, size, next, long, low) in
      let read : unboxed_rows box kind c m (slice_set old (entry_offset n place word) value) ≡ slice_set (unboxed_rows box kind c m old) (entry_offset n place word) value =
      dite (ℕ_discrete word 4)
      (λ (e : word ≡ 4).
      let here : value_at kind c p ≡ entry_offset n place word = let a = at_value p in omega (arith, a, at, e) in
      subst (λ (i : ℕ). unboxed_rows box kind c m (slice_set old i value) ≡ slice_set (unboxed_rows box kind c m old) i value) here
      (kind_reads box kind c m p value old low wide there (plain.0.2 e)))
      (λ n4. dite (ℕ_discrete word 5)
      (λ (e : word ≡ 5).
      let here : suc (value_at kind c p) ≡ entry_offset n place word = omega (arith, next, at, e) in
      subst (λ (i : ℕ). unboxed_rows box kind c m (slice_set old i value) ≡ slice_set (unboxed_rows box kind c m old) i value) here
      (payload_reads box kind c m p value old low wide there))
      (λ n5. word_put box kind c m (entry_offset n place word) value old (keyed_far kind keyed c place word few n4 n5))) in
      read ∙ ap (λ (z : List ℕ). slice_set z (entry_offset n place word) value) (laid_reads box calls plain.1)
  laid_reads box (Index slot value ∷ calls) plain = laid_reads box calls plain.1
  laid_reads box (Entry place word value ∷ calls) plain = laid_reads box calls plain.1
  laid_reads box (OldEntry place word value ∷ calls) plain = laid_reads box calls plain.1

-- ---- the puts of a pair's entry

unless_plain : (n p word value : ℕ) → word < 8 → (word ≡ 4 → value ≢ 4) → ArePlainCalls n p (unless_zero p word value)
unless_plain n p word zero few ne = tt
unless_plain n p word (suc value) few ne = ((refl, few, ne), tt)

pub place_plain : (n slot p : ℕ) (pair : Pair) → slot < n → stored_kind pair.value ≢ 4 → ArePlainCalls n p (place_puts slot p (entry_words pair))
place_plain n slot p pair low ne =
    let word : ℕ → ℕ = slice_index (entry_words pair) in
    let one : List Access = PutEntry p 1 (word 1) ∷ [] in
    let three : List Access = unless_zero p 3 (word 3) ++ one in
    let four : List Access = unless_zero p 4 (word 4) ++ three in
    let b1 : ArePlainCalls n p one = ((refl, omega arith, λ e. absurd (omega (arith, e))), tt) in
    let b3 = plain_append n p (unless_zero p 3 (word 3)) one (unless_plain n p 3 (word 3) (omega arith) (λ e. absurd (omega (arith, e)))) b1 in
    let b4 = plain_append n p (unless_zero p 4 (word 4)) three (unless_plain n p 4 (word 4) (omega arith) (λ e. ne)) b3 in
    let b5 = plain_append n p (unless_zero p 5 (word 5)) four (unless_plain n p 5 (word 5) (omega arith) (λ e. absurd (omega (arith, e)))) b4 in
    (low, ((refl, omega arith, λ e. absurd (omega (arith, e))), ((refl, omega arith, λ e. absurd (omega (arith, e))), b5)))
