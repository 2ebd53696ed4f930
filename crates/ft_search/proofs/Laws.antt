-- Laws of tables and of what they stand for, as they are cited by the proofs of writes.
use Rattle.std.proofs.Common.{◌≡◌, ℕ, ◌+◌, true, List, length, Some}
use Rattle.std.specs.Prelude.{IsTrue, slice_set, slice_get}
use Rattle.ft_model.specs.declared.content.DictPair.{DictPair}
use Rattle.ft_model.specs.declared.content.Element.{Element}
use Rattle.ft_model.specs.Contents.{DictContent, SetContent, IsDict, IsSet, dict_del, has_element, set_add, set_discard}
use Rattle.ft_layout.specs.Tables.{UsedEntry, is_live, deleted}
use Rattle.ft_layout.specs.WordChanges.{with_deleted}
use Rattle.ft_layout.specs.Containers.{class_mask, used_pair, used_element, AreDictEntries, AreSetEntries, IsBlock, IsDictWords, IsSetWords}
use Rattle.ft_trace.proofs.DictWrites.{EntryVersionsChangeNothing, LiveEntriesArePairs, FirstEntriesArePairs}
use Rattle.ft_trace.proofs.SetKnown.{FirstEntriesAreElements}

-- what is known of the entries of a dict, and what a deletion makes of them
pub record DictLaws : Type 0 where
  pub versions : EntryVersionsChangeNothing
  pub first : FirstEntriesArePairs
  pub lives : LiveEntriesArePairs
  pub shrinks : (used : List UsedEntry) (dict : DictContent) (place : ℕ) (pair : DictPair) → AreDictEntries used dict → IsDict dict.next dict.pairs → slice_get used place ≡ Some (used_pair pair)
      → AreDictEntries (slice_set used place (deleted (used_pair pair))) (dict_del dict pair.key) × (length (dict_del dict pair.key).pairs + 1 ≡ length dict.pairs)
  pub deletes : (texts block words other : List ℕ) (class fill : ℕ) (dict : DictContent) (says : IsDictWords texts block words (Some class) fill dict) (place : ℕ) (pair : DictPair) → slice_get says.used place ≡ Some (used_pair pair) → IsBlock other (Some class) (length (dict_del dict pair.key).pairs) fill dict.next
      → IsDictWords texts other (with_deleted (class_mask class) words place pair.key) (Some class) fill (dict_del dict pair.key)

-- of a set likewise
pub record SetLaws : Type 0 where
  pub versions : EntryVersionsChangeNothing
  pub first : FirstEntriesAreElements
  pub lives : (used : List UsedEntry) (set : SetContent) (place : ℕ) (entry : UsedEntry) → AreSetEntries used set → IsSet set.next set.elements → slice_get used place ≡ Some entry → IsTrue (is_live entry)
      → (element : Element) × (entry ≡ used_element element) × (has_element set.elements element.key ≡ true) × (set_add set element.key ≡ set)
  pub shrinks : (used : List UsedEntry) (set : SetContent) (place : ℕ) (element : Element) → AreSetEntries used set → IsSet set.next set.elements → slice_get used place ≡ Some (used_element element)
      → AreSetEntries (slice_set used place (deleted (used_element element))) (set_discard set element.key) × (length (set_discard set element.key).elements + 1 ≡ length set.elements)
  pub deletes : (texts block words other : List ℕ) (class fill : ℕ) (set : SetContent) (says : IsSetWords texts block words (Some class) fill set) (place : ℕ) (element : Element) → slice_get says.used place ≡ Some (used_element element) → IsBlock other (Some class) (length (set_discard set element.key).elements) fill set.next
      → IsSetWords texts other (with_deleted (class_mask class) words place element.key) (Some class) fill (set_discard set element.key)
