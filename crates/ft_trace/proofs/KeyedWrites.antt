-- What may be put, and what is sound and clear, by the kind of a container that has entries under keys.
use Rattle.std.proofs.Common.{◌≡◌, ◌≢◌, ℕ, suc, ◌%◌, ◌<◌, Bool, false, List, ◌++◌, refl, ◌∙◌, subst, arith, get_or-set_other}
use Rattle.std.specs.Prelude.{slice_index, slice_set}
use Rattle.ft_model.specs.declared.content.Content.{Content}
use Rattle.ft_model.specs.declared.script.Kind.{Kind}
use Rattle.ft_model.specs.declared.script.Kind.TheVariants as kind
use Rattle.ft_trace.specs.Addresses.{class_of, slots, size}
use Rattle.ft_trace.specs.Pictures.{ContainerWords, root_in, entry_offset, walk_of}
use Rattle.ft_trace.specs.Carefuls.{Sound, Careful, Clear}
use Rattle.ft_trace.specs.Kinds.{under, rows, version_at, SoundAs, CarefulAs, ClearAs, IsKeyed}
use Rattle.ft_trace.specs.OddVersions.{Timely}
use Rattle.ft_trace.specs.WholeWrites.{Put, to_table, MayPut, MayPuts, IsNoValue}
use Rattle.ft_trace.proofs.ValuePlaces.{keyed_far}
use Rattle.ft_trace.specs.KeyWrites.{count_puts}
use Rattle.ft_trace.proofs.ByKind.{keyed_low}

-- where the version of each entry lies
pub versions_lie : (kind : Kind) → IsKeyed kind → (c : ℕ) → (λ q. entry_offset (slots c) q 0) ≡ version_at kind c
versions_lie kind.Dict is c = refl
versions_lie kind.Set is c = refl
versions_lie kind.List is c = absurd is
versions_lie (kind.Deque bound) is c = absurd is

-- what is careful, clear and sound for entries is so for the kind
pub careful_keyed : (kind : Kind) → IsKeyed kind → (c : ℕ) (ws : List ℕ) (d : Content) (i x : ℕ) → Careful (slots c) (rows kind c) ws (under d) i x → CarefulAs kind c ws d i x
careful_keyed kind.Dict is c ws d i x care = care
careful_keyed kind.Set is c ws d i x care = care
careful_keyed kind.List is c ws d i x care = absurd is
careful_keyed (kind.Deque bound) is c ws d i x care = absurd is

pub clear_keyed : (kind : Kind) → IsKeyed kind → (texts : List ℕ) (c : ℕ) (ws : List ℕ) (d e : Content) → Clear (walk_of kind texts c) (slots c) (rows kind c) ws (under d) (under e) → ClearAs kind texts c ws d e
clear_keyed kind.Dict is texts c ws d e clear = clear
clear_keyed kind.Set is texts c ws d e clear = clear
clear_keyed kind.List is texts c ws d e clear = absurd is
clear_keyed (kind.Deque bound) is texts c ws d e clear = absurd is

pub sound_keyed : (kind : Kind) → IsKeyed kind → (texts : List ℕ) (c : ℕ) (ws : List ℕ) (d : Content) → Sound (walk_of kind texts c) (slots c) (rows kind c) ws (under d) → SoundAs kind texts c ws d
sound_keyed kind.Dict is texts c ws d sound = sound
sound_keyed kind.Set is texts c ws d sound = sound
sound_keyed kind.List is texts c ws d sound = absurd is
sound_keyed (kind.Deque bound) is texts c ws d sound = absurd is

-- a word of an entry may be put
pub keyed_put : (kind : Kind) → IsKeyed kind → (t : ℕ) (d : Content) (committed : Bool) (words : ContainerWords) (p w x : ℕ) → root_in words ≡ suc t → p < rows kind (class_of t) → w < 8 → w ≢ 4 → w ≢ 5 → Careful (slots (class_of t)) (rows kind (class_of t)) words.table (under d) (entry_offset (slots (class_of t)) p w) x
    → Timely (λ q. entry_offset (slots (class_of t)) q 0) (rows kind (class_of t)) (entry_offset (slots (class_of t)) p w) x committed → MayPut kind t d committed words (to_table (entry_offset (slots (class_of t)) p w) x)
keyed_put kind is t d committed words p w x names low few n4 n5 care time =
    let c = class_of t in
    (names, keyed_low kind is c p w low few, careful_keyed kind is c words.table d (entry_offset (slots c) p w) x care, subst (λ (at : ℕ → ℕ). Timely at (rows kind c) (entry_offset (slots c) p w) x committed) (versions_lie kind is c) time, keyed_far kind is c p w few n4 n5)

-- a word of the table may be put before the commit that makes no version even
pub put_while_open : (kind : Kind) → IsKeyed kind → (t : ℕ) (d : Content) (words : ContainerWords) (i x : ℕ) → root_in words ≡ suc t → i < size (class_of t) → Careful (slots (class_of t)) (rows kind (class_of t)) words.table (under d) i x → ((q : ℕ) → i ≡ entry_offset (slots (class_of t)) q 0 → x % 2 ≡ 1) → IsNoValue kind (class_of t) i → MayPut kind t d false words (to_table i x)
put_while_open kind is t d words i x names low care odd far =
    let c = class_of t in
    let time : Timely (λ q. entry_offset (slots c) q 0) (rows kind c) i x false = record { before = λ q less e one. refl; later = λ q less e two. absurd (let o = odd q e in omega (arith, two, o)) } in
    (names, low, careful_keyed kind is c words.table d i x care, subst (λ (at : ℕ → ℕ). Timely at (rows kind c) i x false) (versions_lie kind is c) time, far)

-- the counts of a block may be put, and the root stays
pub counts_may_be_put : (kind : Kind) (t : ℕ) (d : Content) (block table : List ℕ) (count fill next : ℕ) (more : List Put) → MayPuts kind t d false (record { block = slice_set (slice_set (slice_set block 1 count) 2 fill) 3 next; table = table }) more → MayPuts kind t d false (record { block = block; table = table }) (count_puts count fill next ++ more)
counts_may_be_put kind t d block table count fill next more rest = ((omega arith, omega arith), ((omega arith, omega arith), ((omega arith, omega arith), rest)))

pub root_stays : (block : List ℕ) (count fill next : ℕ) → slice_index (slice_set (slice_set (slice_set block 1 count) 2 fill) 3 next) 0 ≡ slice_index block 0
root_stays block count fill next =
    get_or-set_other (slice_set (slice_set block 1 count) 2 fill) 3 0 next 0 (λ e. absurd (omega (arith, e)))
    ∙ (get_or-set_other (slice_set block 1 count) 2 0 fill 0 (λ e. absurd (omega (arith, e))) ∙ get_or-set_other block 1 0 count 0 (λ e. absurd (omega (arith, e))))
