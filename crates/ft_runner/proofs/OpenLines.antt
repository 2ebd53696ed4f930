-- Lines at the end of the bytes that can still become `---`.
use Rattle.std.proofs.Common.{◌≡◌, ◌∙◌, ℕ, zero, suc, ◌+◌, ◌-◌, ◌<◌, ◌≤◌, ◌==◌, ◌&&◌, ◌||◌, ◌⊎◌, true, false, List, [], ◌∷◌, ◌++◌, length, take, drop, codes, refl, sym, ap, ap₂, subst, arith, inl, inr}
use Rattle.std.proofs.lemmas.Bool.{and_parts, cases_lt, false≢true}
use Rattle.std.proofs.lemmas.List.{append-nil, drop-append-le, get_or_append_left, length-append, length-drop}
use Rattle.std.proofs.lemmas.Slice.Eq.{bytes_eq-Decides}
use Rattle.std.specs.Str.{bytes_eq}
use Rattle.ft_runner.specs.Checking.{begins_line, is_separator, is_separator_at, CanFit, IsReadInTime, IsScriptFew, IsSeparator}
use Rattle.ft_runner.specs.Internal.Filling.{is_begun, is_open_at, HasOpenLine, IsSettled, HasNoOpenLine}
use Rattle.ft_runner.proofs.SeparatorLemmas.{separator_stays}

-- ---- the first such line

-- below a place there is a first line `---`, or none
first_below : (bytes : List ℕ) (end : ℕ) → end ≤ length bytes → ((place : ℕ) × (place < end) × IsSeparator bytes place) ⊎ ((earlier : ℕ) → earlier < end → is_separator_at bytes earlier ≡ false)
first_below bytes zero low = inr (λ earlier before. absurd (omega (arith, before)))
first_below bytes (suc end) low =
    elim (first_below bytes end (omega (arith, low))) [
      | inl there ↦ inl (there.0, omega (arith, there.1), there.2)
      | inr none ↦ elim (is_separator_at bytes end) as (λ b. is_separator_at bytes end ≡ b → ((place : ℕ) × (place < suc end) × IsSeparator bytes place) ⊎ ((earlier : ℕ) → earlier < suc end → is_separator_at bytes earlier ≡ false)) [
        | true ↦ λ here. inl (end, omega arith, record { inside = omega (arith, low); here = here; first = none })
        | false ↦ λ not_here. inr (λ earlier before. elim (cases_lt earlier end) [
          | inl lower ↦ none earlier lower
          | inr not_lower ↦ ap (is_separator_at bytes) (omega (arith, before, not_lower)) ∙ not_here
        ])
      ] refl
    ]

-- where a line is `---` within the limit, the script is not too long
pub few_by : (bytes : List ℕ) (place : ℕ) → place < length bytes → place ≤ 4194304 → is_separator_at bytes place ≡ true → IsScriptFew bytes
few_by bytes place inside low here =
    elim (first_below bytes (suc place) (omega (arith, inside))) [
      | inl there ↦ inr (there.0, omega (arith, there.1, low), there.2)
      | inr none ↦ absurd (false≢true (sym (none place (omega arith)) ∙ here))
    ]

-- ---- what can follow

begins_stays : (bytes more : List ℕ) (place : ℕ) → place < length bytes → begins_line (bytes ++ more) place ≡ begins_line bytes place
begins_stays bytes more place inside = ap (λ b. place == 0 || b == 10) (get_or_append_left bytes more 0 (place - 1) (omega (arith, inside)))

rest_stays : (bytes more : List ℕ) (place : ℕ) → place < length bytes → drop place (bytes ++ more) ≡ drop place bytes ++ more
rest_stays bytes more place inside = drop-append-le place bytes more (omega (arith, inside))

-- what of `---` is missing after bytes of it that have come
record IsMissing (rest : List ℕ) : Type 0 where
  more : List ℕ
  whole : is_separator (take 4 (rest ++ more)) ≡ true
  few : length rest ≤ 3
  short : length more ≤ 3

missing_after : (rest text : List ℕ) → IsMissing text → bytes_eq rest text ≡ true → IsMissing rest
missing_after rest text missing same = subst IsMissing (sym ((bytes_eq-Decides rest text).0 same)) missing

missing_of : (rest : List ℕ) → is_begun rest ≡ true → IsMissing rest
missing_of rest begun =
    elim (bytes_eq rest (codes "-")) as (λ b. bytes_eq rest (codes "-") ≡ b → IsMissing rest) [
      | true ↦ λ one. missing_after rest (codes "-") (record { more = codes "--"; whole = refl; few = omega arith; short = omega arith }) one
      | false ↦ λ no_one. elim (bytes_eq rest (codes "--")) as (λ b. bytes_eq rest (codes "--") ≡ b → IsMissing rest) [
        | true ↦ λ two. missing_after rest (codes "--") (record { more = codes "-"; whole = refl; few = omega arith; short = omega arith }) two
        | false ↦ λ no_two. elim (bytes_eq rest (codes "---")) as (λ b. bytes_eq rest (codes "---") ≡ b → IsMissing rest) [
          | true ↦ λ three. missing_after rest (codes "---") (record { more = []; whole = refl; few = omega arith; short = omega arith }) three
          | false ↦ λ no_three. absurd (false≢true (sym (rw (no_one, no_two, no_three) refl) ∙ begun))
        ] refl
      ] refl
    ] refl

-- where such a line has begun, bytes can follow with which it is `---`
pub open_fits : (bytes : List ℕ) → 4194304 < length bytes → HasOpenLine bytes → CanFit bytes
open_fits bytes far begun =
    let place = begun.0 in
    let inside : place < length bytes = omega (arith, begun.1, far) in
    let both = and_parts (begins_line bytes place) (is_begun (drop place bytes)) begun.2 in
    let missing = missing_of (drop place bytes) both.1 in
    let begins : begins_line (bytes ++ missing.more) place ≡ true = begins_stays bytes missing.more place inside ∙ both.0 in
    let line : is_separator (take 4 (drop place (bytes ++ missing.more))) ≡ true = ap (λ rest. is_separator (take 4 rest)) (rest_stays bytes missing.more place inside) ∙ missing.whole in
    let size : length (bytes ++ missing.more) ≡ length bytes + length missing.more = length-append bytes missing.more in
    let here : is_separator_at (bytes ++ missing.more) place ≡ true = ap₂ (λ a b. a && b) begins line in
    let few : length bytes ≤ place + 3 = omega (arith, missing.few, length-drop place bytes, inside) in (
      missing.more,
      record {
        few = omega (arith, size, few, missing.short, begun.1);
        script_few = few_by (bytes ++ missing.more) place (omega (arith, size, inside)) begun.1 here;
      },
    )

-- and no more bytes are there than have come of the line
pub open_is_few : (bytes : List ℕ) → 4194304 < length bytes → HasOpenLine bytes → length bytes ≤ 4194307
open_is_few bytes far begun =
    let both = and_parts (begins_line bytes begun.0) (is_begun (drop begun.0 bytes)) begun.2 in
    omega (arith, (missing_of (drop begun.0 bytes) both.1).few, length-drop begun.0 bytes, begun.1, far)

-- bytes within a script's limit can fit
pub few_fits : (bytes : List ℕ) → length bytes ≤ 4194304 → CanFit bytes
few_fits bytes few =
    let size : length (bytes ++ []) ≡ length bytes = ap length (append-nil bytes) in
    ([], record { few = omega (arith, size, few); script_few = inl (omega (arith, size, few)) })

-- ---- what is settled

-- fewer than four bytes of a line that aren't those of `---`, whatever follows
not_begun : (rest more : List ℕ) → 0 < length rest → length rest < 4 → is_begun rest ≡ false → (is_separator (take 4 (rest ++ more)) ≡ false) × (is_separator (take 4 rest) ≡ false)
not_begun [] more some few shut = absurd (omega (arith, some))
not_begun (a ∷ []) more some few shut = grind arith
not_begun (a ∷ b ∷ []) more some few shut = grind arith
not_begun (a ∷ b ∷ c ∷ []) more some few shut = grind arith
not_begun (a ∷ b ∷ c ∷ d ∷ rest) more some few shut = absurd (omega (arith, few))

shut_stays : (bytes more : List ℕ) (place : ℕ) → place < length bytes → length bytes < place + 4 → is_open_at bytes place ≡ false → is_separator_at (bytes ++ more) place ≡ is_separator_at bytes place
shut_stays bytes more place inside late shut =
    elim (begins_line bytes place) as (λ b. begins_line bytes place ≡ b → is_separator_at (bytes ++ more) place ≡ is_separator_at bytes place) [
      | true ↦ λ begins.
          let rest = drop place bytes in
          let none : is_begun rest ≡ false = sym (ap (λ b. b && is_begun rest) begins) ∙ shut in
          let both = not_begun rest more (omega (arith, length-drop place bytes, inside)) (omega (arith, length-drop place bytes, late)) none in
          ap₂ (λ b line. b && line) (begins_stays bytes more place inside) (ap (λ line. is_separator (take 4 line)) (rest_stays bytes more place inside) ∙ both.0 ∙ sym both.1)
      | false ↦ λ inner.
          let before : begins_line (bytes ++ more) place ≡ false = begins_stays bytes more place inside ∙ inner in
          ap (λ b. b && is_separator (take 4 (drop place (bytes ++ more)))) before ∙ sym (ap (λ b. b && is_separator (take 4 (drop place bytes))) inner)
    ] refl

-- where no line can still become `---`, it is settled which are
pub shut_settles : (bytes : List ℕ) → 4194304 < length bytes → HasNoOpenLine bytes → IsSettled bytes
shut_settles bytes far shut more place low =
    elim (cases_lt (length bytes) (place + 4)) [
      | inl late ↦ shut_stays bytes more place (omega (arith, low, far)) late (shut place low)
      | inr early ↦ separator_stays bytes more place (omega (arith, early))
    ]

-- a line of more than three bytes can't be one that has begun and hasn't ended
pub long_is_shut : (bytes : List ℕ) (place : ℕ) → place + 3 < length bytes → is_open_at bytes place ≡ false
long_is_shut bytes place far =
    elim (is_open_at bytes place) as (λ b. is_open_at bytes place ≡ b → is_open_at bytes place ≡ false) [
      | true ↦ λ begun. absurd (omega (arith, (missing_of (drop place bytes) (and_parts (begins_line bytes place) (is_begun (drop place bytes)) begun).1).few, length-drop place bytes, far))
      | false ↦ λ shut. shut
    ] refl

-- ---- reading in time

-- one piece more after bytes that can fit
pub piece_in_time : (front last : List ℕ) → CanFit front → length last ≤ 65536 → IsReadInTime (front ++ last)
piece_in_time front last fits piece = record { front = front; last = last; parts = refl; fits = fits; one_piece = piece }

pub fit_in_time : (bytes : List ℕ) → CanFit bytes → IsReadInTime bytes
fit_in_time bytes fits = record { front = bytes; last = []; parts = append-nil bytes; fits = fits; one_piece = omega arith }
