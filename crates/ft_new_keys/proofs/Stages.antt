-- That the puts of a new entry mislead no reader without the lock, and what they leave of the table.
use Rattle.std.proofs.Common.{◌≡◌, ◌≢◌, ℕ, zero, suc, ◌+◌, ◌%◌, ◌<◌, false, List, [], ◌∷◌, ◌++◌, refl, sym, subst, inl, inr, arith}
use Rattle.std.specs.Prelude.{slice_index, slice_set}
use Rattle.std.proofs.lemmas.Bool.{cases_eq}
use Rattle.ft_model.specs.declared.content.Content.{Content}
use Rattle.ft_model.specs.declared.data.Key.{Key}
use Rattle.ft_model.specs.declared.script.Kind.{Kind}
use Rattle.ft_model.specs.declared.script.Kind.TheVariants as kind
use Rattle.ft_layout.specs.declared.slot.Pair.{Pair}
use Rattle.ft_layout.specs.Words.{entry_words, key_kind}
use Rattle.ft_keys.specs.declared.words.Access.{Access}
use Rattle.ft_keys.specs.declared.words.Access.TheVariants.{PutEntry}
use Rattle.ft_keys.specs.TableChanges.{unless_zero, place_puts}
use Rattle.ft_trace.specs.Addresses.{slots}
use Rattle.ft_trace.specs.Carefuls.{Pairs, Careful}
use Rattle.ft_trace.specs.Kinds.{under, rows, version_at, CarefulAs, IsKeyed}
use Rattle.ft_trace.specs.OddVersions.{Timely}
use Rattle.ft_trace.specs.Pictures.{entry_offset, entry_field}
use Rattle.ft_trace.proofs.KeyPuts.{Stage, stage_first, stage_next, new_open, new_key, new_value, new_kind, new_index}
use Rattle.ft_new_keys.specs.Internal.Laying.{IsUnused, laid}
use Rattle.ft_new_keys.proofs.Laid.{IsCarefulCall, AreCarefulCalls}

-- ---- by the kind of the container

pub as_careful : (kind : Kind) → IsKeyed kind → (c : ℕ) (l : List ℕ) (d : Content) (i x : ℕ) → Careful (slots c) (rows kind c) l (under d) i x → CarefulAs kind c l d i x
as_careful kind.Dict keyed c l d i x h = h
as_careful kind.Set keyed c l d i x h = h
as_careful kind.List keyed c l d i x h = absurd keyed
as_careful (kind.Deque bound) keyed c l d i x h = absurd keyed

-- a word that is no version may be put at any time
pub at_any_time : (kind : Kind) → IsKeyed kind → (c i x : ℕ) → ((q : ℕ) → i ≢ entry_offset (slots c) q 0) → Timely (version_at kind c) (rows kind c) i x false
at_any_time kind.Dict keyed c i x other = record { before = λ q low at odd. absurd (other q at); later = λ q low at even. absurd (other q at) }
at_any_time kind.Set keyed c i x other = record { before = λ q low at odd. absurd (other q at); later = λ q low at even. absurd (other q at) }
at_any_time kind.List keyed c i x other = absurd keyed
at_any_time (kind.Deque bound) keyed c i x other = absurd keyed

-- before the commit a version is made odd
pub in_time : (kind : Kind) (c i x : ℕ) → x % 2 ≡ 1 → Timely (version_at kind c) (rows kind c) i x false
in_time kind c i x odd = record { before = λ q low at one. refl; later = λ q low at even. absurd (omega (arith, odd, even)) }

-- ---- the words of an entry before its kind

-- a put of a word of the entry at p that is neither its version nor its kind
abbrev pub IsBodyPut : ℕ → Access → Type 0
IsBodyPut p (PutEntry place word value) = (place ≡ p) × (0 < word) × (word < 8) × (word ≢ 2)
IsBodyPut p access = ⊥

abbrev pub AreBodyPuts : ℕ → List Access → Type 0
AreBodyPuts p [] = Unit {0}
AreBodyPuts p (access ∷ earlier) = IsBodyPut p access × AreBodyPuts p earlier

body_append : (p : ℕ) (a b : List Access) → AreBodyPuts p a → AreBodyPuts p b → AreBodyPuts p (a ++ b)
body_append p [] b x y = y
body_append p (access ∷ a) b x y = (x.0, body_append p a b x.1 y)

body_unless : (p word value : ℕ) → 0 < word → word < 8 → word ≢ 2 → AreBodyPuts p (unless_zero p word value)
body_unless p word zero some few other = tt
body_unless p word (suc value) some few other = ((refl, some, few, other), tt)

-- those of a pair
abbrev pub body : ℕ → List ℕ → List Access
body p entry =
    let word : ℕ → ℕ = slice_index entry in
    PutEntry p 6 (word 6) ∷ (unless_zero p 5 (word 5) ++ (unless_zero p 4 (word 4) ++ (unless_zero p 3 (word 3) ++ (PutEntry p 1 (word 1) ∷ []))))

pub body_puts : (p : ℕ) (entry : List ℕ) → AreBodyPuts p (body p entry)
body_puts p entry =
    let word : ℕ → ℕ = slice_index entry in
    let one : List Access = PutEntry p 1 (word 1) ∷ [] in
    let three : List Access = unless_zero p 3 (word 3) ++ one in
    let four : List Access = unless_zero p 4 (word 4) ++ three in
    let b1 : AreBodyPuts p one = ((refl, omega arith, omega arith, λ e. absurd (omega (arith, e))), tt) in
    let b3 = body_append p (unless_zero p 3 (word 3)) one (body_unless p 3 (word 3) (omega arith) (omega arith) (λ e. absurd (omega (arith, e)))) b1 in
    let b4 = body_append p (unless_zero p 4 (word 4)) three (body_unless p 4 (word 4) (omega arith) (omega arith) (λ e. absurd (omega (arith, e)))) b3 in
    let b5 = body_append p (unless_zero p 5 (word 5)) four (body_unless p 5 (word 5) (omega arith) (omega arith) (λ e. absurd (omega (arith, e)))) b4 in
    ((refl, omega arith, omega arith, λ e. absurd (omega (arith, e))), b5)

-- ---- one after the other

module _ (n m : ℕ) (ws : List ℕ) (slot p : ℕ) (un : IsUnused n m ws slot p) where
  abbrev pub opened : List ℕ
  opened = slice_set ws (entry_offset n p 0) (entry_field n ws p 0 + 1)

  abbrev pub At : List ℕ → Type 0
  At l = Stage n m ws p slot un.low un.in_index un.long un.even un.none un.free l

  pub body_stage : (calls : List Access) → AreBodyPuts p calls → At (laid n calls opened)
  body_stage [] b = stage_first n m ws p slot un.low un.in_index un.long un.even un.none un.free
  body_stage (PutEntry place word value ∷ calls) b =
      let here = b.0 in
      let some = here.1 in
      subst (λ (z : ℕ). At (slice_set (laid n calls opened) (entry_offset n z word) value)) (sym here.0)
      (stage_next n m ws p slot un.low un.in_index un.long un.even un.none un.free (laid n calls opened) (body_stage calls b.1) word value here.2 (λ e. omega (arith, e, some)) here.3)
  body_stage (access ∷ calls) b = absurd b.0

  body_careful : (d : Pairs) (l : List ℕ) → At l → (word value : ℕ) → 0 < word → word < 8 → word ≢ 2 → Careful n m l d (entry_offset n p word) value
  body_careful d l s word value some few other = elim (cases_eq word 1) [
    | inl one ↦ new_key n m ws p slot un.low un.in_index un.long un.even un.none un.free d l s word value (inl one)
    | inr more ↦ elim (cases_eq word 3) [
      | inl three ↦ new_key n m ws p slot un.low un.in_index un.long un.even un.none un.free d l s word value (inr three)
      | inr rest ↦ new_value n m ws p slot un.low un.in_index un.long un.even un.none un.free d l s word value (omega (arith, some, more, other, rest)) few
    ]
  ]

  pub open_careful : (d : Pairs) → Careful n m ws d (entry_offset n p 0) (entry_field n ws p 0 + 1)
  open_careful d = new_open n m ws p slot un.low un.in_index un.long un.even un.none un.free d

  pub open_odd : (entry_field n ws p 0 + 1) % 2 ≡ 1
  open_odd = let e = un.even in omega (arith, e)

  pub kind_careful : (d : Pairs) (key : Key) (l : List ℕ) → At l → Careful n m l d (entry_offset n p 2) (key_kind key)
  kind_careful d key l s = new_kind n m ws p slot un.low un.in_index un.long un.even un.none un.free key l s d

  pub index_careful : (d : Pairs) (key : Key) (l : List ℕ) → At l → Careful n m (slice_set l (entry_offset n p 2) (key_kind key)) d slot (p + 1)
  index_careful d key l s = new_index n m ws p slot un.low un.in_index un.long un.even un.none un.free key l s d

module _ (kind : Kind) (keyed : IsKeyed kind) (c : ℕ) (d : Content) (ws : List ℕ) (slot p : ℕ) (un : IsUnused (slots c) (rows kind c) ws slot p) where
  abbrev n : ℕ
  n = slots c

  abbrev m : ℕ
  m = rows kind c

  other_word : (word : ℕ) → 0 < word → word < 8 → (q : ℕ) → entry_offset n p word ≢ entry_offset n q 0
  other_word word some few q e = omega (arith, some, few, e)

  body_calls : (calls : List Access) → AreBodyPuts p calls → AreCarefulCalls kind c d (opened n m ws slot p un) calls
  body_calls [] b = tt
  body_calls (PutEntry place word value ∷ calls) b =
      let here = b.0 in
      let l = laid n calls (opened n m ws slot p un) in (
        body_calls calls b.1,
        subst (λ (z : ℕ). IsCarefulCall kind c d l (PutEntry z word value)) (sym here.0) (
          as_careful kind keyed c l d (entry_offset n p word) value (body_careful n m ws slot p un (under d) l (body_stage n m ws slot p un calls b.1) word value here.1 here.2 here.3),
          at_any_time kind keyed c (entry_offset n p word) value (other_word word here.1 here.2),
        ),
      )
  body_calls (access ∷ calls) b = absurd b.0

  -- all puts of the pair's entry, and of the index word that names it
  pub place_careful : (pair : Pair) → AreCarefulCalls kind c d (opened n m ws slot p un) (place_puts slot p (entry_words pair))
  place_careful pair =
      let key = pair.key in
      let b = body_puts p (entry_words pair) in
      let l = laid n (body p (entry_words pair)) (opened n m ws slot p un) in
      let s = body_stage n m ws slot p un (body p (entry_words pair)) b in
      let in_index = un.in_index in (
        (
          body_calls (body p (entry_words pair)) b,
          (as_careful kind keyed c l d (entry_offset n p 2) (key_kind key) (kind_careful n m ws slot p un (under d) key l s), at_any_time kind keyed c (entry_offset n p 2) (key_kind key) (other_word 2 (omega arith) (omega arith))),
        ),
        (
          as_careful kind keyed c (slice_set l (entry_offset n p 2) (key_kind key)) d slot (p + 1) (index_careful n m ws slot p un (under d) key l s),
          at_any_time kind keyed c slot (p + 1) (λ q e. absurd (omega (arith, e, in_index))),
        ),
      )
