-- The puts of a new entry, each on the words that the earlier ones left.
use Rattle.std.proofs.Common.{◌≡◌, ◌≢◌, ℕ, zero, suc, ◌<◌, ◌≤◌, List, [], ◌∷◌, ◌++◌, length, refl, ◌∙◌, arith, length-set, get_or-set_same, get_or-set_other}
use Rattle.std.specs.Prelude.{slice_index}
use Rattle.ft_layout.specs.declared.slot.Pair.{Pair}
use Rattle.ft_layout.specs.Words.{key_kind, entry_words}
use Rattle.ft_layout.specs.Tables.{dict_room, table_length, index_at, entry_at, index_word, entry_word}
use Rattle.ft_layout.proofs.WordLaws.{kind_range}
use Rattle.ft_keys.specs.declared.words.Access.{Access}
use Rattle.ft_keys.specs.declared.words.Access.TheVariants.{PutEntry}
use Rattle.ft_keys.specs.Accesses.{after}
use Rattle.ft_keys.specs.TableChanges.{unless_zero, entry_puts, place_puts}
use Rattle.ft_keys.specs.Puts.{ArePutsInOrder}

module _ (mask slot place : ℕ) (words : List ℕ) (inside : slot ≤ mask) where
  -- so far the entry has no kind, and the slot names nothing
  record SoFar (calls : List Access) : Type 0 where
    ordered : ArePutsInOrder mask calls words
    long : length (after mask calls words) ≡ length words
    unused : entry_word mask (after mask calls words) place 2 ≡ 0
    free : index_word (after mask calls words) slot ≡ 0

  put-more : (calls : List Access) (word value : ℕ) → word ≢ 2 → word < 8 → SoFar calls → SoFar (PutEntry place word value ∷ calls)
  put-more calls word value other few so =
      let now = after mask calls words in
      let at = entry_at mask place word in
      record {
        ordered = (so.ordered, so.unused);
        long = length-set now at value ∙ so.long;
        unused = get_or-set_other now at (entry_at mask place 2) value 0 (λ same. other (omega arith)) ∙ so.unused;
        free = get_or-set_other now at (index_at slot) value 0 (λ same. omega arith) ∙ so.free;
      }

  unless-more : (calls : List Access) (word value : ℕ) → word ≢ 2 → word < 8 → SoFar calls → SoFar (unless_zero place word value ++ calls)
  unless-more calls word zero other few so = so
  unless-more calls word (suc value) other few so = put-more calls word (suc value) other few so

  pub in-order : (pair : Pair) → length words ≡ table_length mask → place < dict_room mask → index_word words slot ≡ 0 → entry_word mask words place 2 ≡ 0 → ArePutsInOrder mask (place_puts slot place (entry_words pair)) words
  in-order pair long low free unused =
      let e : ℕ → ℕ = slice_index (entry_words pair) in
      let start : SoFar [] = record { ordered = tt; long = refl; unused = unused; free = free } in
      let one = put-more [] 1 (e 1) (λ same. omega arith) (omega arith) start in
      let three = unless-more (PutEntry place 1 (e 1) ∷ []) 3 (e 3) (λ same. omega arith) (omega arith) one in
      let four = unless-more (unless_zero place 3 (e 3) ++ (PutEntry place 1 (e 1) ∷ [])) 4 (e 4) (λ same. omega arith) (omega arith) three in
      let calls4 = unless_zero place 4 (e 4) ++ (unless_zero place 3 (e 3) ++ (PutEntry place 1 (e 1) ∷ [])) in
      let five = unless-more calls4 5 (e 5) (λ same. omega arith) (omega arith) four in
      let calls5 = unless_zero place 5 (e 5) ++ calls4 in
      let six = put-more calls5 6 (e 6) (λ same. omega arith) (omega arith) five in
      let now = after mask (PutEntry place 6 (e 6) ∷ calls5) words in
      let at = entry_at mask place 2 in
      let long-now : at < length now = let all = six.long in omega arith in
      let kind : entry_word mask (after mask (entry_puts place (entry_words pair)) words) place 2 ≡ key_kind pair.key = get_or-set_same now at (key_kind pair.key) 0 long-now in
      let some = kind_range pair.key in
      let still : index_word (after mask (entry_puts place (entry_words pair)) words) slot ≡ 0 = get_or-set_other now at (index_at slot) (key_kind pair.key) 0 (λ same. omega arith) ∙ six.free in
      ((six.ordered, six.unused), (still, place, refl, λ none. let is = kind in let low-kind = some.0 in omega arith))
