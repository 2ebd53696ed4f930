-- The two words of a value that a pass loads before it puts another: they are the ones that stand there.
use Rattle.std.proofs.Common.{◌≡◌, ℕ, suc, ◌+◌, ◌<◌, true, sym, ap, ◌∙◌}
use Rattle.std.specs.Prelude.{slice_index}
use Rattle.ft_trace.specs.declared.Act.TheVariants.{ReadTable}
use Rattle.ft_trace.specs.declared.Shape.{Shape}
use Rattle.ft_trace.specs.declared.View.{View}
use Rattle.ft_trace.specs.Acts.{has_lock, view_after}
use Rattle.ft_trace.specs.Addresses.{container_count}
use Rattle.ft_trace.specs.Holds.{held_words, held_unboxed}
use Rattle.ft_trace.specs.Pictures.{ContainerWords, root_in}
use Rattle.ft_bank.specs.BoxSteps.{kind_read, payload_read, IsOpenValue}
use Rattle.ft_bank.specs.declared.table.Table.{Table}
use Rattle.ft_bank.specs.TableNames.{table_id}
use Rattle.ft_bank.specs.Whole.{OnlyLoaded}
use Rattle.ft_bank.proofs.KnownAfterWrites.{loaded_by, loaded_held, loaded_then}
use Rattle.ft_search.specs.Boxed.{WritesTable}
use Rattle.ft_search.proofs.Overs.{open_as, reads_now, still_unboxed, table_loaded}

-- what a load of a word of the table answers
abbrev pub FindsWord : Shape → Table → View → ℕ → ℕ → Type 0
FindsWord k table v word n =
    (p : ℕ) → p < container_count k → has_lock p v.log ≡ true → root_in (held_words p v) ≡ suc (table_id table)
    → n ≡ slice_index (held_words p v).table word

module _ (k : Shape) (o : ℕ) (table : Table) (word : ℕ) (u v : View) (shape : u.shape ≡ k) (writes : WritesTable k o table u) (old : ℕ) (first : v ≡ view_after (ReadTable (table_id table) word old) u) (finds : FindsWord k table u word old) where
  pub kind_load : OnlyLoaded u v
  kind_load = loaded_by (ReadTable (table_id table) word old) u v tt first

  -- the kind found is that which stands
  pub kind_found : old ≡ slice_index (held_words o v).table word
  kind_found =
      finds o writes.container writes.locked writes.root
      ∙ sym (ap (λ (x : ContainerWords). slice_index x.table word) (loaded_held u v o kind_load))

  module _ (w : View) (named : ℕ) (second : w ≡ view_after (ReadTable (table_id table) (word + 1) named) v) (finds_next : FindsWord k table v (word + 1) named) where
    next_load : OnlyLoaded v w
    next_load = loaded_by (ReadTable (table_id table) (word + 1) named) v w tt second

    pub both_load : OnlyLoaded u w
    both_load = loaded_then u v w kind_load next_load

    -- after both: what stands
    pub kind_stays : old ≡ slice_index (held_words o w).table word
    kind_stays = kind_found ∙ sym (ap (λ (x : ContainerWords). slice_index x.table word) (loaded_held v w o next_load))

    pub payload_found : named ≡ slice_index (held_words o w).table (word + 1)
    payload_found =
        let now = table_loaded k o table u v shape writes kind_load in
        finds_next o now.container now.locked now.root
        ∙ sym (ap (λ (x : ContainerWords). slice_index x.table (word + 1)) (loaded_held v w o next_load))

    pub writes_still : WritesTable k o table w
    writes_still = table_loaded k o table u w shape writes both_load

    pub open_still : IsOpenValue u o (table_id table) word → IsOpenValue w o (table_id table) word
    open_still open_ = open_as u w o (table_id table) word both_load.work.pass.shape (still_unboxed k o table u w shape writes both_load) open_

    -- what the value reads
    pub value_reads : IsOpenValue u o (table_id table) word → (kind_read w old named ≡ slice_index (held_unboxed o u).table word) × (payload_read w old named ≡ slice_index (held_unboxed o u).table (word + 1))
    value_reads open_ =
        let reads = reads_now k o table word w (both_load.work.pass.shape ∙ shape) writes_still (open_still open_) in
        let same = still_unboxed k o table u w shape writes both_load in (
          (λ d. kind_read w (kind_stays d) (payload_found d)) ∙ (sym reads.0 ∙ ap (λ (x : ContainerWords). slice_index x.table word) same),
          (λ d. payload_read w (kind_stays d) (payload_found d)) ∙ (sym reads.1 ∙ ap (λ (x : ContainerWords). slice_index x.table (word + 1)) same),
        )
