-- Where awaits are read, and what they name.
use Rattle.std.proofs.Common.{◌≡◌, ℕ, ◌^◌, ◌<◌, ◌≤◌, Bool, true, eqb, leb, ltb, ◌&&◌, List, [], ◌∷◌, length, get_or, Option, Some, None, sym, ap, ◌∙◌, inl, inr, arith}
use Rattle.std.specs.Prelude.{IfOk}
use Rattle.std.specs.List.{list_all, before_first, after_first}
use Rattle.std.specs.Fmt.{decimal}
use Rattle.std.specs.Str.{bytes_eq}
use Rattle.std.specs.Str.Parse.{digits_value}
use Rattle.std.proofs.lemmas.Bool.{cases_lt, and_from, and_parts, leb-true, le-leb, ltb-true}
use Rattle.std.proofs.lemmas.Fmt.{decimal-digits_value, decimal_digit}
use Rattle.ft_model.specs.declared.call.Call.{Call}
use Rattle.ft_model.specs.declared.script.Kind.{Kind}
use Rattle.ft_model.specs.declared.script.Kind.TheVariants as kind
use Rattle.ft_model.specs.declared.script.Thread.{Thread}
use Rattle.ft_model.specs.Names.{is_digit, is_thread_name}
use Rattle.ft_script.specs.Arguments.{just_awaited, just_cursor, just_nothing, just_section, kind_at, read_awaited, read_call_index, read_container}
use Rattle.ft_script.specs.Awaits.{MayAwait}
use Rattle.ft_script.specs.CallWords.{call_word_of}
use Rattle.ft_script.specs.declared.call_words.CallWord.{CallWord}
use Rattle.ft_script.specs.declared.call_words.CallWord.TheVariants.{Next, Begin, End, Quiesce, Await, On}
use Rattle.ft_script.specs.declared.call_words.Operation.{Operation}
use Rattle.ft_script.specs.Drafts.{Draft, or_fault, thread_place}
use Rattle.ft_script.specs.LineWords.{is_positive}
use Rattle.ft_script.specs.ScriptLines.{call_at, container_call, dict_call, just_call, list_call, read_call, set_call}
use Rattle.ft_script.proofs.DistinctNames.{place_within}
use Rattle.ft_script.proofs.Kept.{anything, bind_holds, cond_holds, or_holds}
use Rattle.ft_script.proofs.WordLemmas.{AreDigits, own}

-- ---- the call that a word names

-- digits of which the first isn't `0` are no 0
positive_value : (digits : List ℕ) → is_positive digits ≡ true → 1 ≤ digits_value 10 digits
positive_value [] h = absurd cc
positive_value (d ∷ ds) h =
    let low = and_parts (leb 49 d && leb d 57) (list_all is_digit ds) h in
    let ends = and_parts (leb 49 d) (leb d 57) low.0 in
    let from : 49 ≤ d = leb-true 49 d ends.0 in
    let are : AreDigits (d ∷ ds) = and_from (is_digit d) (list_all is_digit ds) (and_from (leb 48 d) (leb d 57) (le-leb 48 d (omega arith)) ends.1) low.1 in
    elim (cases_lt (digits_value 10 (d ∷ ds)) 1) [
      | inl none ↦
          let zero_is : digits_value 10 (d ∷ ds) ≡ 0 = omega arith in
          let back : decimal (digits_value 10 (d ∷ ds)) ≡ d ∷ ds = decimal-digits_value own (d ∷ ds) are (omega arith) (λ e. absurd (omega arith)) (omega arith) in
          let first : 48 ∷ [] ≡ d ∷ ds = sym (ap decimal zero_is ∙ decimal_digit 0 (omega arith)) ∙ back in
          let same : 48 ≡ d = ap (λ (l : List ℕ). get_or l 0 0) first in
          absurd (omega arith)
      | inr some ↦ some
    ]

abbrev IsIndex : ℕ → Type 0
IsIndex index = (1 ≤ index) × (index < 2 ^ 32)

call_index_keeps : (digits : List ℕ) → is_positive digits ≡ true → IfOk (read_call_index digits) IsIndex
unfolding read_call_index
call_index_keeps digits form =
    cond_holds (ltb (digits_value 10 digits) (2 ^ 32)) _ _ IsIndex (λ low. (positive_value digits form, ltb-true (digits_value 10 digits) (2 ^ 32) low)) (λ _. tt)

-- a call of a thread that stands above
abbrev pub IsNamed : Draft → ℕ × ℕ → Type 0
IsNamed d named = (named.0 < length d.threads) × (1 ≤ named.1) × (named.1 < 2 ^ 32)

awaited_keeps : (d : Draft) (word : List ℕ) → IfOk (read_awaited d word) (IsNamed d)
unfolding read_awaited
awaited_keeps d word =
    let is_dot : ℕ → Bool = λ b. eqb b 46 in
    let name : List ℕ = before_first is_dot word in
    let digits : List ℕ = after_first is_dot word in
    cond_holds (is_thread_name name && is_positive digits) _ _ (IsNamed d)
    (λ form. bind_holds (or_fault _ (thread_place d.threads name)) _ (λ thread. thread < length d.threads) (IsNamed d)
    (or_holds _ (thread_place d.threads name) (λ thread. thread < length d.threads) (λ thread found. place_within (λ (t : Thread). bytes_eq t.name name) d.threads thread found))
    (λ thread low. bind_holds (read_call_index digits) _ IsIndex (IsNamed d) (call_index_keeps digits (and_parts (is_thread_name name) (is_positive digits) form).1) (λ index h. (low, h.0, h.1))))
    (λ _. tt)

pub just_awaited_keeps : (d : Draft) (words : List (List ℕ)) → IfOk (just_awaited d words) (IsNamed d)
unfolding just_awaited
just_awaited_keeps d [] = tt
just_awaited_keeps d (word ∷ []) = awaited_keeps d word
just_awaited_keeps d (word ∷ other ∷ words) = tt

-- ---- calls

abbrev pub Awaits : Draft → Call × Draft → Type 0
Awaits d read = MayAwait d.awaits (length d.threads) read.0

at_awaits : (d : Draft) (place : ℕ) (operation : Operation) (words : List (List ℕ)) (found : Option Kind) → IfOk (call_at d place operation words found) (Awaits d)
unfolding call_at
at_awaits d place operation words None = tt
at_awaits d place operation words (Some kind.Dict) = bind_holds (dict_call d operation words) _ (λ _. Unit {0}) (Awaits d) (anything (dict_call d operation words)) (λ read _. tt)
at_awaits d place operation words (Some kind.List) = bind_holds (list_call d operation words) _ (λ _. Unit {0}) (Awaits d) (anything (list_call d operation words)) (λ read _. tt)
at_awaits d place operation words (Some kind.Set) = bind_holds (set_call d operation words) _ (λ _. Unit {0}) (Awaits d) (anything (set_call d operation words)) (λ read _. tt)
at_awaits d place operation words (Some (kind.Deque bound)) = tt

container_awaits : (d : Draft) (operation : Operation) (words : List (List ℕ)) → IfOk (container_call d operation words) (Awaits d)
unfolding container_call
container_awaits d operation [] = tt
container_awaits d operation (name ∷ words) =
    bind_holds (read_container d name) _ (λ _. Unit {0}) (Awaits d) (anything (read_container d name)) (λ place _. at_awaits d place operation words (kind_at d place))

-- a call that is read awaits one only where it may, and names a thread that stands above
pub read_awaits : (d : Draft) (word : CallWord) (words : List (List ℕ)) → IfOk (read_call d word words) (Awaits d)
unfolding read_call
read_awaits d Next words = bind_holds (just_cursor d words) _ (λ _. Unit {0}) (Awaits d) (anything (just_cursor d words)) (λ read _. tt)
read_awaits d Begin words = bind_holds (just_section d words) _ (λ _. Unit {0}) (Awaits d) (anything (just_section d words)) (λ read _. tt)
read_awaits d End words = bind_holds (just_nothing words) _ (λ _. Unit {0}) (Awaits d) (anything (just_nothing words)) (λ read _. tt)
read_awaits d Quiesce words = bind_holds (just_nothing words) _ (λ _. Unit {0}) (Awaits d) (anything (just_nothing words)) (λ read _. tt)
read_awaits d Await words =
    cond_holds d.awaits _ _ (Awaits d) (λ allowed. bind_holds (just_awaited d words) _ (IsNamed d) (Awaits d) (just_awaited_keeps d words) (λ named h. (allowed, h.0, h.1))) (λ _. tt)
read_awaits d (On operation) words = container_awaits d operation words

pub call_awaits : (d : Draft) (words : List (List ℕ)) → IfOk (just_call d words) (Awaits d)
unfolding just_call
call_awaits d [] = tt
call_awaits d (word ∷ words) =
    bind_holds (or_fault _ (call_word_of word)) _ (λ _. Unit {0}) (Awaits d) (anything (or_fault _ (call_word_of word))) (λ found _. read_awaits d found words)
