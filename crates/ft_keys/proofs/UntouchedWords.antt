-- Which words a put leaves as they were.
use Rattle.std.proofs.Common.{◌≡◌, ◌≢◌, ℕ, ◌<◌, List, [], ◌∷◌, ◌++◌, length, refl, sym, ap, ◌∙◌, arith, get_or-set_same, get_or-set_other, ◌≤◌}
use Rattle.std.specs.Prelude.{slice_index}
use Rattle.ft_layout.specs.Tables.{table_length, index_at, entry_at, entry_word}
use Rattle.ft_layout.specs.Fields.{Field, IsField, field_at}
use Rattle.ft_layout.proofs.FieldLaws.{one_field, field_within}
use Rattle.ft_keys.specs.declared.words.Access.{Access}
use Rattle.ft_keys.specs.declared.words.Access.TheVariants.{Index, Entry, PutIndex, PutEntry, OldEntry}
use Rattle.ft_keys.specs.Accesses.{put_by, after, IsLoad, AreLoads}
use Rattle.ft_keys.specs.Puts.{IsPutOf, PutsBelow, PutBelow}

module _ (mask : ℕ) (words : List ℕ) (field : Field) (value : ℕ) (is-field : IsField mask field) where
  pub put-there : (access : Access) → length words ≡ table_length mask → IsPutOf access field value → slice_index (put_by mask access words) (field_at mask field) ≡ value
  put-there (PutIndex slot number) long is =
      let inside : index_at slot < length words = let low = field_within mask field is-field in let at = ap (field_at mask) is.0 in omega arith in
      ap (slice_index (put_by mask (PutIndex slot number) words)) (ap (field_at mask) is.0) ∙ (get_or-set_same words (index_at slot) number 0 inside ∙ sym is.1)
  put-there (PutEntry place word number) long is =
      let inside : entry_at mask place word < length words = let low = field_within mask field is-field in let at = ap (field_at mask) is.0 in omega arith in
      ap (slice_index (put_by mask (PutEntry place word number) words)) (ap (field_at mask) is.0) ∙ (get_or-set_same words (entry_at mask place word) number 0 inside ∙ sym is.1)
  put-there (Index slot number) long is = absurd is
  put-there (Entry place word number) long is = absurd is
  put-there (OldEntry place word number) long is = absurd is

  pub put-elsewhere : (access : Access) (other : Field) → IsPutOf access field value → IsField mask other → other ≢ field → slice_index (put_by mask access words) (field_at mask other) ≡ slice_index words (field_at mask other)
  put-elsewhere (PutIndex slot number) other is is-other differs =
      get_or-set_other words (index_at slot) (field_at mask other) number 0 (λ same. differs (one_field mask other field is-other is-field (same ∙ sym (ap (field_at mask) is.0))))
  put-elsewhere (PutEntry place word number) other is is-other differs =
      get_or-set_other words (entry_at mask place word) (field_at mask other) number 0 (λ same. differs (one_field mask other field is-other is-field (same ∙ sym (ap (field_at mask) is.0))))
  put-elsewhere (Index slot number) other is is-other differs = absurd is
  put-elsewhere (Entry place word number) other is is-other differs = absurd is
  put-elsewhere (OldEntry place word number) other is is-other differs = absurd is

-- ---- versions, and the entries that are not reached

module _ (mask : ℕ) where
  keeps-version : (limit : ℕ) (access : Access) (words : List ℕ) (place : ℕ) → PutsBelow mask limit access → entry_word mask (put_by mask access words) place 0 ≡ entry_word mask words place 0
  keeps-version limit (PutIndex slot value) words place low = get_or-set_other words (index_at slot) (entry_at mask place 0) value 0 (λ same. omega arith)
  keeps-version limit (PutEntry at word value) words place is =
      let some = is.1 in
      let few = is.2 in
      get_or-set_other words (entry_at mask at word) (entry_at mask place 0) value 0 (λ same. omega arith)
  keeps-version limit (Index slot value) words place is = refl
  keeps-version limit (Entry at word value) words place is = refl
  keeps-version limit (OldEntry at word value) words place is = refl

  pub keep-versions : (limit : ℕ) (calls : List Access) (words : List ℕ) (place : ℕ) → PutBelow mask limit calls → entry_word mask (after mask calls words) place 0 ≡ entry_word mask words place 0
  keep-versions limit [] words place below = refl
  keep-versions limit (access ∷ earlier) words place below = keeps-version limit access (after mask earlier words) place below.0 ∙ keep-versions limit earlier words place below.1

  keeps-later : (limit : ℕ) (access : Access) (words : List ℕ) (place word : ℕ) → limit ≤ place → word < 8 → PutsBelow mask limit access → entry_word mask (put_by mask access words) place word ≡ entry_word mask words place word
  keeps-later limit (PutIndex slot value) words place word least small low = get_or-set_other words (index_at slot) (entry_at mask place word) value 0 (λ same. omega arith)
  keeps-later limit (PutEntry at other value) words place word least small is =
      let low = is.0 in
      let few = is.2 in
      get_or-set_other words (entry_at mask at other) (entry_at mask place word) value 0 (λ same. omega arith)
  keeps-later limit (Index slot value) words place word least small is = refl
  keeps-later limit (Entry at other value) words place word least small is = refl
  keeps-later limit (OldEntry at other value) words place word least small is = refl

  pub keep-later : (limit : ℕ) (calls : List Access) (words : List ℕ) (place word : ℕ) → limit ≤ place → word < 8 → PutBelow mask limit calls → entry_word mask (after mask calls words) place word ≡ entry_word mask words place word
  keep-later limit [] words place word least small below = refl
  keep-later limit (access ∷ earlier) words place word least small below =
      keeps-later limit access (after mask earlier words) place word least small below.0 ∙ keep-later limit earlier words place word least small below.1

  pub below-append : (limit : ℕ) (earlier later : List Access) → PutBelow mask limit earlier → PutBelow mask limit later → PutBelow mask limit (later ++ earlier)
  below-append limit earlier [] below more = below
  below-append limit earlier (access ∷ later) below more = (more.0, below-append limit earlier later below more.1)

  puts-higher : (limit more : ℕ) (access : Access) → limit ≤ more → PutsBelow mask limit access → PutsBelow mask more access
  puts-higher limit more (PutIndex slot value) less is = is
  puts-higher limit more (PutEntry place word value) less is = (let low = is.0 in omega arith, is.1, is.2)
  puts-higher limit more (Index slot value) less is = tt
  puts-higher limit more (Entry place word value) less is = tt
  puts-higher limit more (OldEntry place word value) less is = tt

  pub below-higher : (limit more : ℕ) (calls : List Access) → limit ≤ more → PutBelow mask limit calls → PutBelow mask more calls
  below-higher limit more [] less below = tt
  below-higher limit more (access ∷ earlier) less below = (puts-higher limit more access less below.0, below-higher limit more earlier less below.1)

  load-below : (limit : ℕ) (access : Access) → IsLoad access → PutsBelow mask limit access
  load-below limit (PutIndex slot value) bad = absurd bad
  load-below limit (PutEntry place word value) bad = absurd bad
  load-below limit (Index slot value) load = tt
  load-below limit (Entry place word value) load = tt
  load-below limit (OldEntry place word value) load = tt

  pub loads-below : (limit : ℕ) (calls : List Access) → AreLoads calls → PutBelow mask limit calls
  loads-below limit [] loads = tt
  loads-below limit (access ∷ earlier) loads = (load-below limit access loads.0, loads-below limit earlier loads.1)
