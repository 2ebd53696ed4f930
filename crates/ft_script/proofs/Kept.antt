-- What the reading of words keeps of a draft.
use Rattle.std.proofs.Common.{◌≡◌, ◌≢◌, ◌⊎◌, ℕ, ◌+◌, ◌<◌, ◌≤◌, Bool, true, false, cond, ltb, List, [], ◌∷◌, ◌++◌, length, Option, Some, None, Result, Ok, Err, ℤ, refl, sym, ap, ◌∙◌, subst, inl, inr, arith}
use Rattle.std.specs.Prelude.{All, AllPairs, IfSome, IfOk}
use Rattle.std.specs.List.{list_all, AllByRecursion}
use Rattle.std.specs.Str.{IsUtf8, bytes_eq}
use Rattle.std.specs.Str.Parse.{signed_digits_value}
use Rattle.std.proofs.lemmas.Bool.{cases_lt, false≢true, ltb-true, ltb-false}
use Rattle.std.proofs.lemmas.List.{length-append}
use Rattle.std.proofs.lemmas.List.Elements.{All-push}
use Rattle.ft_model.specs.declared.data.Key.{Key}
use Rattle.ft_model.specs.declared.data.Key.TheVariants as key
use Rattle.ft_model.specs.declared.data.Value.{Value}
use Rattle.ft_model.specs.declared.script.Kind.{Kind}
use Rattle.ft_model.specs.declared.script.Kind.TheVariants as kind
use Rattle.ft_model.specs.Names.{is_container_name, is_text_byte, IsString}
use Rattle.ft_model.specs.Scripts.{IsKeyOf, IsValueOf, IsDeclaredAs}
use Rattle.ft_model.specs.Keys.{as_value}
use Rattle.ft_script.specs.Drafts.{Draft}
use Rattle.ft_script.specs.declared.fault.Fault.{Fault}
use Rattle.ft_script.specs.declared.fault.Fault.TheVariants as fault
use Rattle.ft_script.specs.ScriptTexts.{AreNumbered, key_mentions, value_mentions}
use Rattle.ft_script.specs.Transcripts.{IsWideKey, IsWideValue}
use Rattle.ft_script.specs.LineWords.{integer_of, is_integer, is_string, is_wide, text_of}
use Rattle.ft_script.specs.Drafts.{◌>>=◌, or_fault, container_place, text_place}
use Rattle.ft_script.specs.Arguments.{read_symbol, read_index, read_two_indices, read_key, read_value, read_container, kind_at, is_of_kind, read_other, read_made_cursor, just_key, read_key_and_value, just_key_and_value, just_value, just_index, just_some_index, just_two_indices, read_index_and_value, just_index_and_value, just_other, just_made_cursor, just_cursor, just_section, read_two_containers, read_cursor}
use Rattle.ft_script.proofs.MoreCalls.{key_grows}
use Rattle.ft_script.proofs.DistinctNames.{absent_text, differ_push, place_within}
use Rattle.ft_script.proofs.Numbering.{numbered_join}
use Rattle.ft_script.proofs.WordLemmas.{integer_by}

-- ---- what holds where a step succeeds

pub bind_holds : {A B : Type 0} (r : Result A Fault) (f : A → Result B Fault) (P : A → Type 0) (Q : B → Type 0) → IfOk r P → ((x : A) → P x → IfOk (f x) Q) → IfOk (r >>= f) Q
bind_holds (Ok x) f P Q h then = then x h
bind_holds (Err e) f P Q h then = tt

pub cond_holds : {A : Type 0} (b : Bool) (x y : Result A Fault) (P : A → Type 0) → (b ≡ true → IfOk x P) → (b ≡ false → IfOk y P) → IfOk (cond b x y) P
cond_holds true x y P left right = left refl
cond_holds false x y P left right = right refl

pub or_holds : {A : Type 0} (e : Fault) (o : Option A) (P : A → Type 0) → ((x : A) → o ≡ Some x → P x) → IfOk (or_fault e o) P
or_holds e None P h = tt
or_holds e (Some x) P h = h x refl

pub some_holds : {A X : Type 0} (o : Option X) (f : X → Result A Fault) (y : Result A Fault) (P : A → Type 0) → ((x : X) → o ≡ Some x → IfOk (f x) P) → (o ≡ None → IfOk y P) → IfOk (elim o [ Some x ↦ f x | None ↦ y ]) P
some_holds (Some x) f y P some none = some x refl
some_holds None f y P some none = none refl

pub anything : {A : Type 0} (r : Result A Fault) → IfOk r (λ _. Unit {0})
anything (Ok x) = tt
anything (Err e) = tt

-- ---- integers

wide_by : (token : List ℕ) (form wide : Bool) (n : ℤ) → is_integer token ≡ form → is_wide (signed_digits_value 10 token) ≡ wide → integer_of token ≡ Some n → is_wide n ≡ true
wide_by token true true n is_form is_in found =
    let e : Some (signed_digits_value 10 token) ≡ Some n = sym (integer_by token true true is_form is_in) ∙ found in
    let same : signed_digits_value 10 token ≡ n = cc in
    ap is_wide (sym same) ∙ is_in
wide_by token true false n is_form is_in found = absurd (let e : None ≡ Some n = sym (integer_by token true false is_form is_in) ∙ found in cc)
wide_by token false wide n is_form is_in found = absurd (let e : None ≡ Some n = sym (integer_by token false wide is_form is_in) ∙ found in cc)

pub index_keeps : (token : List ℕ) → IfOk (read_index token) (λ n. is_wide n ≡ true)
unfolding read_index
index_keeps token = or_holds fault.Number (integer_of token) (λ n. is_wide n ≡ true) (λ n found. wide_by token (is_integer token) (is_wide (signed_digits_value 10 token)) n refl refl found)

-- ---- strings

-- what a string of a script says
pub record IsTextual (text : List ℕ) : Type 0 where
  pub encoded : IsUtf8 text
  pub bytes : list_all is_text_byte text ≡ true

abbrev pub IsGoodWord : List ℕ → Type 0
IsGoodWord word = is_string word ≡ true → IsTextual (text_of word)

pub record IsTable (texts : List (List ℕ)) : Type 0 where
  pub few : length texts ≤ 65536
  pub strings : All IsString texts
  pub differ : AllPairs (λ a b. a ≢ b) texts

-- the draft has further strings
pub record StringsRead (d e : Draft) : Type 0 where
  pub to : List (List ℕ)
  pub is : e ≡ record d { strings = to }
  pub table : IsTable to
  pub more : length d.strings ≤ length to

abbrev pub no_strings : (d : Draft) → IsTable d.strings → StringsRead d d
no_strings d table = record { to = d.strings; is = refl; table = table; more = omega arith }

table_push : (strings : List (List ℕ)) (text : List ℕ) → IsTable strings → IsTextual text → length text ≤ 255 → length strings < 65536 → text_place strings text ≡ None → IsTable (strings ++ text ∷ [])
table_push strings text table textual short room none =
    record {
      few = omega (arith, length-append strings (text ∷ []));
      strings = All-push IsString strings text table.strings (record { encoded = textual.encoded; bytes = textual.bytes; short = short });
      differ = differ_push (λ (s : List ℕ). s) strings text table.differ (absent_text (λ (s : List ℕ). s) strings text none);
    }

abbrev pub Symbol : Draft → ℕ × Draft → Type 0
Symbol d p = (read : StringsRead d p.1) × (p.0 < length read.to) × AreNumbered (length d.strings) (p.0 ∷ []) (length read.to)

symbol_keeps : (d : Draft) (text : List ℕ) → IsTable d.strings → IsTextual text → IfOk (read_symbol d text) (Symbol d)
unfolding read_symbol
symbol_keeps d text table textual =
    cond_holds (ltb 255 (length text)) _ _ (Symbol d) (λ _. tt) (λ short.
    some_holds (text_place d.strings text) _ _ (Symbol d)
    (λ n found. (let low = place_within (λ other. bytes_eq text other) d.strings n found in (no_strings d table, low, inl (low, refl))))
    (λ none. cond_holds (ltb (length d.strings) 65536) _ _ (Symbol d)
    (λ room.
    let few : length text ≤ 255 = ltb-false 255 (length text) short in
    let low : length d.strings < 65536 = ltb-true (length d.strings) 65536 room in
    let longer : length (d.strings ++ text ∷ []) ≡ length d.strings + 1 = length-append d.strings (text ∷ []) in
    (record { to = d.strings ++ text ∷ []; is = refl; table = table_push d.strings text table textual few low none; more = omega arith }, omega arith, inr (refl, sym longer)))
    (λ _. tt)))

abbrev pub Keyed : Draft → Key × Draft → Type 0
Keyed d p = (read : StringsRead d p.1) × IsKeyOf (length read.to) p.0 × IsWideKey p.0
    × AreNumbered (length d.strings) (key_mentions p.0) (length read.to)

key_keeps : (d : Draft) (word : List ℕ) → IsTable d.strings → IsGoodWord word → IfOk (read_key d word) (Keyed d)
unfolding read_key
key_keeps d word table good =
    cond_holds (is_string word) _ _ (Keyed d)
    (λ is. bind_holds (read_symbol d (text_of word)) _ (Symbol d) (Keyed d) (symbol_keeps d (text_of word) table (good is)) (λ symbol h. (h.0, h.1, tt, h.2)))
    (λ _. bind_holds (read_index word) _ (λ n. is_wide n ≡ true) (Keyed d) (index_keeps word) (λ n wide. (no_strings d table, tt, wide, refl)))

abbrev pub Valued : Draft → Value × Draft → Type 0
Valued d p = (read : StringsRead d p.1) × IsValueOf (length read.to) p.0 × IsWideValue p.0
    × AreNumbered (length d.strings) (value_mentions p.0) (length read.to)

value_of_key : (strings : ℕ) (k : Key) → IsKeyOf strings k → IsValueOf strings (as_value k)
value_of_key strings (key.Int n) h = tt
value_of_key strings (key.Text symbol) h = h

wide_value_of_key : (k : Key) → IsWideKey k → IsWideValue (as_value k)
wide_value_of_key (key.Int n) h = h
wide_value_of_key (key.Text symbol) h = tt

mentions_of_key : (known all : ℕ) (k : Key) → AreNumbered known (key_mentions k) all → AreNumbered known (value_mentions (as_value k)) all
mentions_of_key known all (key.Int n) h = h
mentions_of_key known all (key.Text symbol) h = h

value_keeps : (d : Draft) (word : List ℕ) → IsTable d.strings → IsGoodWord word → IfOk (read_value d word) (Valued d)
unfolding read_value
value_keeps d word table good =
    cond_holds (bytes_eq word _) _ _ (Valued d) (λ _. (no_strings d table, tt, tt, refl))
    (λ _. bind_holds (read_key d word) _ (Keyed d) (Valued d) (key_keeps d word table good) (λ found h. (h.0, value_of_key (length h.0.to) found.0 h.1, wide_value_of_key found.0 h.2, mentions_of_key (length d.strings) (length h.0.to) found.0 h.3)))

-- ---- containers and cursors

pub container_keeps : (d : Draft) (name : List ℕ) → IfOk (read_container d name) (λ place. place < length d.containers)
unfolding read_container
container_keeps d name = or_holds _ (container_place d.containers name) (λ place. place < length d.containers) (λ place found. place_within (λ container. bytes_eq container.name name) d.containers place found)

of_kind : (kind : Kind) (found : Option Kind) → is_of_kind kind found ≡ true → found ≡ Some kind
of_kind kind None h = absurd (false≢true h)
of_kind kind.Dict (Some kind.Dict) h = refl
of_kind kind.Dict (Some kind.List) h = absurd (false≢true h)
of_kind kind.Dict (Some kind.Set) h = absurd (false≢true h)
of_kind kind.Dict (Some (kind.Deque bound)) h = absurd (false≢true h)
of_kind kind.List (Some kind.Dict) h = absurd (false≢true h)
of_kind kind.List (Some kind.List) h = refl
of_kind kind.List (Some kind.Set) h = absurd (false≢true h)
of_kind kind.List (Some (kind.Deque bound)) h = absurd (false≢true h)
of_kind kind.Set (Some kind.Dict) h = absurd (false≢true h)
of_kind kind.Set (Some kind.List) h = absurd (false≢true h)
of_kind kind.Set (Some kind.Set) h = refl
of_kind kind.Set (Some (kind.Deque bound)) h = absurd (false≢true h)
of_kind (kind.Deque bound) (Some kind.Dict) h = absurd (false≢true h)
of_kind (kind.Deque bound) (Some kind.List) h = absurd (false≢true h)
of_kind (kind.Deque bound) (Some kind.Set) h = absurd (false≢true h)
of_kind (kind.Deque bound) (Some (kind.Deque other)) h = absurd (false≢true h)

declared_as : (d : Draft) (kind : Kind) (place : ℕ) → is_of_kind kind (kind_at d place) ≡ true → IsDeclaredAs d.containers kind place
declared_as d kind.Dict place is = of_kind kind.Dict (kind_at d place) is
declared_as d kind.List place is = of_kind kind.List (kind_at d place) is
declared_as d kind.Set place is = of_kind kind.Set (kind_at d place) is
declared_as d (kind.Deque bound) place is = (bound, of_kind (kind.Deque bound) (kind_at d place) is)

other_keeps : (d : Draft) (kind : Kind) (name : List ℕ) → IfOk (read_other d kind name) (IsDeclaredAs d.containers kind)
unfolding read_other
other_keeps d kind name =
    bind_holds (read_container d name) _ (λ place. place < length d.containers) (IsDeclaredAs d.containers kind) (container_keeps d name) (λ place low.
    cond_holds (is_of_kind kind (kind_at d place)) _ _ (IsDeclaredAs d.containers kind) (λ is. declared_as d kind place is) (λ _. tt))

cursor_keeps : (d : Draft) (name : List ℕ) → IfOk (read_cursor d name) (λ number. number < length d.cursors)
unfolding read_cursor
cursor_keeps d name = or_holds _ (text_place d.cursors name) (λ number. number < length d.cursors) (λ number found. place_within (λ other. bytes_eq name other) d.cursors number found)

pub record IsCursors (names : List (List ℕ)) : Type 0 where
  pub few : length names ≤ 256
  pub form : All (λ cursor. is_container_name cursor ≡ true) names
  pub differ : AllPairs (λ a b. a ≢ b) names

-- the draft has one cursor more, which has the number, or none
pub record CursorRead (d e : Draft) (number : ℕ) : Type 0 where
  pub to : List (List ℕ)
  pub is : e ≡ record d { cursors = to }
  pub cursors : IsCursors to
  pub more : length d.cursors ≤ length to
  pub within : number < length to
  pub fresh : (k : ℕ) → k < length to → (k < length d.cursors) ⊎ (k ≡ number)
  pub numbered : AreNumbered (length d.cursors) (number ∷ []) (length to)

cursors_push : (cursors : List (List ℕ)) (name : List ℕ) → IsCursors cursors → is_container_name name ≡ true → length cursors < 256 → text_place cursors name ≡ None → IsCursors (cursors ++ name ∷ [])
cursors_push cursors name are form room none =
    record {
      few = omega (arith, length-append cursors (name ∷ []));
      form = All-push (λ cursor. is_container_name cursor ≡ true) cursors name are.form form;
      differ = differ_push (λ (s : List ℕ). s) cursors name are.differ (absent_text (λ (s : List ℕ). s) cursors name none);
    }

last_or_before : (k n : ℕ) → k < n + 1 → (k < n) ⊎ (k ≡ n)
last_or_before k n low = elim (cases_lt k n) [ inl lt ↦ inl lt | inr le ↦ inr (omega arith) ]

abbrev pub Made : Draft → ℕ × Draft → Type 0
Made d p = CursorRead d p.1 p.0

made_cursor_keeps : (d : Draft) (name : List ℕ) → IsCursors d.cursors → IfOk (read_made_cursor d name) (Made d)
unfolding read_made_cursor
made_cursor_keeps d name are =
    cond_holds (is_container_name name) _ _ (Made d) (λ form.
    some_holds (text_place d.cursors name) _ _ (Made d)
    (λ n found. let low : n < length d.cursors = place_within (λ other. bytes_eq name other) d.cursors n found in record { to = d.cursors; is = refl; cursors = are; more = omega arith; within = low; fresh = λ k h. inl h; numbered = inl (low, refl) })
    (λ none. cond_holds (ltb (length d.cursors) 256) _ _ (Made d)
    (λ room.
    let low : length d.cursors < 256 = ltb-true (length d.cursors) 256 room in
    let longer : length (d.cursors ++ name ∷ []) ≡ length d.cursors + 1 = length-append d.cursors (name ∷ []) in
    record { to = d.cursors ++ name ∷ []; is = refl; cursors = cursors_push d.cursors name are form low none; more = omega arith; within = omega arith; fresh = λ k h. last_or_before k (length d.cursors) (omega arith); numbered = inr (refl, sym longer) })
    (λ _. tt)))
    (λ _. tt)

-- ---- all words after the container's name

abbrev pub AreGoodWords : List (List ℕ) → Type 0
AreGoodWords words = AllByRecursion IsGoodWord words

pub key_in_keeps : (d : Draft) (words : List (List ℕ)) → IsTable d.strings → AreGoodWords words → IfOk (just_key d words) (Keyed d)
unfolding just_key
key_in_keeps d [] table good = tt
key_in_keeps d (word ∷ []) table good = key_keeps d word table good.0
key_in_keeps d (word ∷ other ∷ words) table good = tt

abbrev pub KeyedAndValued : Draft → (Key × Value) × Draft → Type 0
KeyedAndValued d p = (read : StringsRead d p.1) × IsKeyOf (length read.to) p.0.0 × IsValueOf (length read.to) p.0.1
    × IsWideKey p.0.0 × IsWideValue p.0.1
    × AreNumbered (length d.strings) (key_mentions p.0.0 ++ value_mentions p.0.1) (length read.to)

-- strings that are read after strings
strings_then : (d e f : Draft) (first : StringsRead d e) (second : StringsRead e f) → (both : StringsRead d f) × (both.to ≡ second.to)
strings_then d e f first second =
    let is : f ≡ record d { strings = second.to } = second.is ∙ ap (λ (x : Draft). record x { strings = second.to }) first.is in
    let between : length e.strings ≡ length first.to = ap (λ (x : Draft). length x.strings) first.is in
    (record { to = second.to; is = is; table = second.table; more = omega (arith, first.more, second.more) }, refl)

table_after : (d e : Draft) → StringsRead d e → IsTable e.strings
table_after d e read = subst (λ (x : Draft). IsTable x.strings) (sym read.is) read.table

key_and_value_keeps : (d : Draft) (first second : List ℕ) → IsTable d.strings → IsGoodWord first → IsGoodWord second → IfOk (read_key_and_value d first second) (KeyedAndValued d)
unfolding read_key_and_value
key_and_value_keeps d first second table good_first good_second =
    bind_holds (read_key d first) _ (Keyed d) (KeyedAndValued d) (key_keeps d first table good_first) (λ found h.
    bind_holds (read_value found.1 second) _ (Valued found.1) (KeyedAndValued d) (value_keeps found.1 second (table_after d found.1 h.0) good_second) (λ stored g.
    let both = strings_then d found.1 stored.1 h.0 g.0 in
    let between : length found.1.strings ≡ length h.0.to = ap (λ (x : Draft). length x.strings) h.0.is in (
      both.0,
      key_grows (length h.0.to) (length both.0.to) found.0 (let same : length both.0.to ≡ length g.0.to = ap length both.1 in omega (arith, g.0.more)) h.1,
      subst (λ (l : List (List ℕ)). IsValueOf (length l) stored.0) (sym both.1) g.1,
      h.2,
      g.2,
      numbered_join (length d.strings) (length h.0.to) (length both.0.to) (key_mentions found.0) (value_mentions stored.0) h.3
          (subst (λ (n : ℕ). AreNumbered n (value_mentions stored.0) (length both.0.to)) between (subst (λ (l : List (List ℕ)). AreNumbered (length found.1.strings) (value_mentions stored.0) (length l)) (sym both.1) g.3)),
    )))

pub key_and_value_in_keeps : (d : Draft) (words : List (List ℕ)) → IsTable d.strings → AreGoodWords words → IfOk (just_key_and_value d words) (KeyedAndValued d)
unfolding just_key_and_value
key_and_value_in_keeps d [] table good = tt
key_and_value_in_keeps d (word ∷ []) table good = tt
key_and_value_in_keeps d (word ∷ other ∷ []) table good = key_and_value_keeps d word other table good.0 good.1.0
key_and_value_in_keeps d (word ∷ other ∷ third ∷ words) table good = tt

pub value_in_keeps : (d : Draft) (words : List (List ℕ)) → IsTable d.strings → AreGoodWords words → IfOk (just_value d words) (Valued d)
unfolding just_value
value_in_keeps d [] table good = tt
value_in_keeps d (word ∷ []) table good = value_keeps d word table good.0
value_in_keeps d (word ∷ other ∷ words) table good = tt

abbrev pub Indexed : Draft → (ℤ × Value) × Draft → Type 0
Indexed d p = (read : StringsRead d p.1) × IsValueOf (length read.to) p.0.1 × (is_wide p.0.0 ≡ true) × IsWideValue p.0.1
    × AreNumbered (length d.strings) (value_mentions p.0.1) (length read.to)

index_and_value_keeps : (d : Draft) (first second : List ℕ) → IsTable d.strings → IsGoodWord second → IfOk (read_index_and_value d first second) (Indexed d)
unfolding read_index_and_value
index_and_value_keeps d first second table good =
    bind_holds (read_index first) _ (λ n. is_wide n ≡ true) (Indexed d) (index_keeps first) (λ n wide.
    bind_holds (read_value d second) _ (Valued d) (Indexed d) (value_keeps d second table good) (λ stored h. (h.0, h.1, wide, h.2, h.3)))

pub index_and_value_in_keeps : (d : Draft) (words : List (List ℕ)) → IsTable d.strings → AreGoodWords words → IfOk (just_index_and_value d words) (Indexed d)
unfolding just_index_and_value
index_and_value_in_keeps d [] table good = tt
index_and_value_in_keeps d (word ∷ []) table good = tt
index_and_value_in_keeps d (word ∷ other ∷ []) table good = index_and_value_keeps d word other table good.1.0
index_and_value_in_keeps d (word ∷ other ∷ third ∷ words) table good = tt

pub index_in_keeps : (words : List (List ℕ)) → IfOk (just_index words) (λ n. is_wide n ≡ true)
unfolding just_index
index_in_keeps [] = tt
index_in_keeps (word ∷ []) = index_keeps word
index_in_keeps (word ∷ other ∷ words) = tt

pub some_index_in_keeps : (words : List (List ℕ)) → IfOk (just_some_index words) (λ index. IfSome index (λ n. is_wide n ≡ true))
unfolding just_some_index
some_index_in_keeps [] = tt
some_index_in_keeps (word ∷ []) = bind_holds (read_index word) _ (λ n. is_wide n ≡ true) (λ index. IfSome index (λ n. is_wide n ≡ true)) (index_keeps word) (λ n wide. wide)
some_index_in_keeps (word ∷ other ∷ words) = tt

abbrev AreWide : ℤ × ℤ → Type 0
AreWide ends = (is_wide ends.0 ≡ true) × (is_wide ends.1 ≡ true)

two_indices_keep : (first second : List ℕ) → IfOk (read_two_indices first second) AreWide
unfolding read_two_indices
two_indices_keep first second =
    bind_holds (read_index first) _ (λ n. is_wide n ≡ true) AreWide (index_keeps first) (λ start a.
    bind_holds (read_index second) _ (λ n. is_wide n ≡ true) AreWide (index_keeps second) (λ end b. (a, b)))

pub two_indices_in_keeps : (words : List (List ℕ)) → IfOk (just_two_indices words) (λ ends. (is_wide ends.0 ≡ true) × (is_wide ends.1 ≡ true))
unfolding just_two_indices
two_indices_in_keeps [] = tt
two_indices_in_keeps (word ∷ []) = tt
two_indices_in_keeps (word ∷ other ∷ []) = two_indices_keep word other
two_indices_in_keeps (word ∷ other ∷ third ∷ words) = tt

pub other_in_keeps : (d : Draft) (kind : Kind) (words : List (List ℕ)) → IfOk (just_other d kind words) (IsDeclaredAs d.containers kind)
unfolding just_other
other_in_keeps d kind [] = tt
other_in_keeps d kind (word ∷ []) = other_keeps d kind word
other_in_keeps d kind (word ∷ other ∷ words) = tt

pub made_cursor_in_keeps : (d : Draft) (words : List (List ℕ)) → IsCursors d.cursors → IfOk (just_made_cursor d words) (Made d)
unfolding just_made_cursor
made_cursor_in_keeps d [] are = tt
made_cursor_in_keeps d (word ∷ []) are = made_cursor_keeps d word are
made_cursor_in_keeps d (word ∷ other ∷ words) are = tt

pub cursor_in_keeps : (d : Draft) (words : List (List ℕ)) → IfOk (just_cursor d words) (λ number. number < length d.cursors)
unfolding just_cursor
cursor_in_keeps d [] = tt
cursor_in_keeps d (word ∷ []) = cursor_keeps d word
cursor_in_keeps d (word ∷ other ∷ words) = tt

abbrev pub InSection : Draft → ℕ × Option ℕ → Type 0
InSection d both = (both.0 < length d.containers) × IfSome both.1 (λ place. place < length d.containers)

two_containers_keep : (d : Draft) (first second : List ℕ) → IfOk (read_two_containers d first second) (InSection d)
unfolding read_two_containers
two_containers_keep d first second =
    bind_holds (read_container d first) _ (λ place. place < length d.containers) (InSection d) (container_keeps d first) (λ a low_a.
    bind_holds (read_container d second) _ (λ place. place < length d.containers) (InSection d) (container_keeps d second) (λ b low_b. (low_a, low_b)))

pub section_in_keeps : (d : Draft) (words : List (List ℕ)) → IfOk (just_section d words) (InSection d)
unfolding just_section
section_in_keeps d [] = tt
section_in_keeps d (word ∷ []) = bind_holds (read_container d word) _ (λ place. place < length d.containers) (InSection d) (container_keeps d word) (λ a low. (low, tt))
section_in_keeps d (word ∷ other ∷ []) = two_containers_keep d word other
section_in_keeps d (word ∷ other ∷ third ∷ words) = tt
