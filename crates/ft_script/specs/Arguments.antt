-- The words after the word of a call, read from left to right. (profile)
use Rattle.std.specs.Prelude.{ℕ, ℤ, ◌^◌, Bool, true, false, ◌==◌, ◌&&◌, nat_lt, List, [], ◌∷◌, ◌++◌, length, slice_get, codes, Option, option_map, Some, None, Result, Ok, Err, if◌then◌else◌}
use Rattle.std.specs.List.{before_first, after_first}
use Rattle.std.specs.Str.{bytes_eq}
use Rattle.std.specs.Str.Parse.{digits_value}
use Rattle.ft_model.specs.Limits.{most_cursors, most_string_bytes, most_strings}
use Rattle.ft_model.specs.declared.data.Key.{Key}
use Rattle.ft_model.specs.declared.data.Key.TheVariants as key
use Rattle.ft_model.specs.declared.data.Value.{Value}
use Rattle.ft_model.specs.declared.data.Value.TheVariants as value
use Rattle.ft_model.specs.declared.script.Kind.{Kind}
use Rattle.ft_model.specs.declared.script.Kind.TheVariants as kind
use Rattle.ft_model.specs.Keys.{as_value}
use Rattle.ft_model.specs.Names.{is_container_name, is_thread_name}
use Rattle.ft_script.specs.Drafts.{Draft}
use Rattle.ft_script.specs.declared.fault.Fault.{Fault}
use Rattle.ft_script.specs.declared.fault.Fault.TheVariants as fault
use Rattle.ft_script.specs.declared.fault.Which.TheVariants as which
use Rattle.ft_script.specs.LineWords.{integer_of, is_positive, is_string, text_of}
use Rattle.ft_script.specs.Drafts.{◌>>=◌, or_fault, container_place, text_place, thread_place}

-- ---- words

-- the number of a string; one that isn't mentioned above has the next
unfoldable pub read_symbol : Draft → List ℕ → Result (ℕ × Draft) Fault
read_symbol draft text =
    if nat_lt most_string_bytes (length text) then Err (fault.Limit which.StringBytes)
    else (elim (text_place draft.strings text) [
      | Some number ↦ Ok (number, draft)
      | None ↦
          if nat_lt (length draft.strings) most_strings
          then Ok (length draft.strings, record draft { strings = draft.strings ++ text ∷ [] })
          else Err (fault.Limit which.Strings)
    ])

unfoldable pub read_index : List ℕ → Result ℤ Fault
read_index word = or_fault fault.Number (integer_of word)

-- a key: a string or an integer
unfoldable pub read_key : Draft → List ℕ → Result (Key × Draft) Fault
read_key draft word =
    if is_string word
    then (read_symbol draft (text_of word) >>= λ symbol. Ok (key.Text (record { 0 = symbol.0 }), symbol.1))
    else (read_index word >>= λ n. Ok (key.Int n, draft))

-- a value: a key, or `None`
unfoldable pub read_value : Draft → List ℕ → Result (Value × Draft) Fault
read_value draft word =
    if bytes_eq word (codes "None") then Ok (value.Nothing, draft)
    else (read_key draft word >>= λ found. Ok (as_value found.0, found.1))

-- the place of a container that stands above
unfoldable pub read_container : Draft → List ℕ → Result ℕ Fault
read_container draft name = or_fault fault.Name (container_place draft.containers name)

-- whether two containers are of one kind, and their calls are read
abbrev pub same_kind : Kind → Kind → Bool
same_kind kind.Dict kind.Dict = true
same_kind kind.List kind.List = true
same_kind kind.Set kind.Set = true
same_kind one other = false

-- the kind of the container at a place
abbrev pub kind_at : Draft → ℕ → Option Kind
kind_at draft place = option_map (λ container. container.start.kind) (slice_get draft.containers place)

abbrev pub is_of_kind : Kind → Option Kind → Bool
is_of_kind kind None = false
is_of_kind kind (Some found) = same_kind found kind

-- the place of a second container, which is of the first one's kind
unfoldable pub read_other : Draft → Kind → List ℕ → Result ℕ Fault
read_other draft kind name = do
  place ← read_container draft name
  if is_of_kind kind (kind_at draft place) then Ok place else Err fault.WrongKind

-- the number of a cursor that stands above in the thread
unfoldable pub read_cursor : Draft → List ℕ → Result ℕ Fault
read_cursor draft name = or_fault fault.Name (text_place draft.cursors name)

-- the number of a cursor that is made, or made anew
unfoldable pub read_made_cursor : Draft → List ℕ → Result (ℕ × Draft) Fault
read_made_cursor draft name =
    if is_container_name name then (elim (text_place draft.cursors name) [
      | Some number ↦ Ok (number, draft)
      | None ↦
          if nat_lt (length draft.cursors) most_cursors
          then Ok (length draft.cursors, record draft { cursors = draft.cursors ++ name ∷ [] })
          else Err (fault.Limit which.Cursors)
    ])
    else Err fault.Name

-- ---- all words after the container's name

unfoldable pub just_nothing : List (List ℕ) → Result (Unit {0}) Fault
just_nothing [] = Ok tt
just_nothing others = Err fault.WordCount

unfoldable pub just_key : Draft → List (List ℕ) → Result (Key × Draft) Fault
just_key draft (word ∷ []) = read_key draft word
just_key draft others = Err fault.WordCount

unfoldable pub read_key_and_value : Draft → List ℕ → List ℕ → Result ((Key × Value) × Draft) Fault
read_key_and_value draft first second = do
  key ← read_key draft first
  value ← read_value key.1 second
  Ok ((key.0, value.0), value.1)

unfoldable pub just_key_and_value : Draft → List (List ℕ) → Result ((Key × Value) × Draft) Fault
just_key_and_value draft (first ∷ second ∷ []) = read_key_and_value draft first second
just_key_and_value draft others = Err fault.WordCount

unfoldable pub just_value : Draft → List (List ℕ) → Result (Value × Draft) Fault
just_value draft (word ∷ []) = read_value draft word
just_value draft others = Err fault.WordCount

unfoldable pub just_index : List (List ℕ) → Result ℤ Fault
just_index (word ∷ []) = read_index word
just_index others = Err fault.WordCount

unfoldable pub just_some_index : List (List ℕ) → Result (Option ℤ) Fault
just_some_index [] = Ok None
just_some_index (word ∷ []) = read_index word >>= λ n. Ok (Some n)
just_some_index others = Err fault.WordCount

unfoldable pub read_two_indices : List ℕ → List ℕ → Result (ℤ × ℤ) Fault
read_two_indices first second = do
  start ← read_index first
  end ← read_index second
  Ok (start, end)

unfoldable pub just_two_indices : List (List ℕ) → Result (ℤ × ℤ) Fault
just_two_indices (first ∷ second ∷ []) = read_two_indices first second
just_two_indices others = Err fault.WordCount

unfoldable pub read_index_and_value : Draft → List ℕ → List ℕ → Result ((ℤ × Value) × Draft) Fault
read_index_and_value draft first second = do
  index ← read_index first
  value ← read_value draft second
  Ok ((index, value.0), value.1)

unfoldable pub just_index_and_value : Draft → List (List ℕ) → Result ((ℤ × Value) × Draft) Fault
just_index_and_value draft (first ∷ second ∷ []) = read_index_and_value draft first second
just_index_and_value draft others = Err fault.WordCount

unfoldable pub just_other : Draft → Kind → List (List ℕ) → Result ℕ Fault
just_other draft kind (name ∷ []) = read_other draft kind name
just_other draft kind others = Err fault.WordCount

unfoldable pub just_made_cursor : Draft → List (List ℕ) → Result (ℕ × Draft) Fault
just_made_cursor draft (name ∷ []) = read_made_cursor draft name
just_made_cursor draft others = Err fault.WordCount

unfoldable pub just_cursor : Draft → List (List ℕ) → Result ℕ Fault
just_cursor draft (name ∷ []) = read_cursor draft name
just_cursor draft others = Err fault.WordCount

unfoldable pub read_two_containers : Draft → List ℕ → List ℕ → Result (ℕ × Option ℕ) Fault
read_two_containers draft name other = do
  first ← read_container draft name
  second ← read_container draft other
  Ok (first, Some second)

-- the one or two containers of a section
unfoldable pub just_section : Draft → List (List ℕ) → Result (ℕ × Option ℕ) Fault
just_section draft (name ∷ []) = read_container draft name >>= λ first. Ok (first, None)
just_section draft (name ∷ other ∷ []) = read_two_containers draft name other
just_section draft others = Err fault.WordCount

-- ---- awaits

-- the index below 2^32 that digits are; there is no call of a greater one
unfoldable pub read_call_index : List ℕ → Result ℕ Fault
read_call_index digits =
    if nat_lt (digits_value 10 digits) (2 ^ 32) then Ok (digits_value 10 digits) else Err fault.Await

-- the call that a word names: the name of a thread that stands above, a dot, and the index from 1
unfoldable pub read_awaited : Draft → List ℕ → Result (ℕ × ℕ) Fault
read_awaited draft word =
    if is_thread_name (before_first (λ b. b == 46) word) && is_positive (after_first (λ b. b == 46) word)
    then (or_fault fault.Await (thread_place draft.threads (before_first (λ b. b == 46) word)) >>= λ thread.
    read_call_index (after_first (λ b. b == 46) word) >>= λ index. Ok (thread, index))
    else Err fault.Name

unfoldable pub just_awaited : Draft → List (List ℕ) → Result (ℕ × ℕ) Fault
just_awaited draft (word ∷ []) = read_awaited draft word
just_awaited draft others = Err fault.WordCount
