-- That each commit changes what stands in the entries and items whose versions are odd.
use Rattle.std.proofs.Common.{ℕ, List, ◌∷◌}
use Rattle.ft_model.specs.declared.content.Content.{Content}
use Rattle.ft_model.specs.declared.script.Kind.{Kind}
use Rattle.ft_model.specs.declared.script.Kind.TheVariants as kind
use Rattle.ft_trace.specs.declared.Act.TheVariants.{Commit}
use Rattle.ft_trace.specs.Kinds.{ClearAs}
use Rattle.ft_trace.specs.OpenedEntries.{OpensChangedAs, CommitsChangeTheOpened}
use Rattle.ft_trace.specs.Addresses.{class_of}
use Rattle.ft_trace.specs.ContainerStates.{kind_in, changes}
use Rattle.ft_trace.specs.Unboxed.{box_word_in}
use Rattle.ft_trace.specs.Traces.{did, run}
use Rattle.ft_trace.proofs.Contents.{tab}
use Rattle.ft_trace.proofs.ReadTables.{raw_opens}
use Rattle.ft_trace.proofs.EarlierMoments.{valid_rest}

pub clear_opens : (kind : Kind) (texts : List ℕ) (class : ℕ) (ws : List ℕ) (c d : Content) → ClearAs kind texts class ws c d → OpensChangedAs kind class ws c d
clear_opens kind.List texts class ws c d clear = clear.opens
clear_opens kind.Dict texts class ws c d clear = clear.opens
clear_opens kind.Set texts class ws c d clear = clear.opens
clear_opens (kind.Deque bound) texts class ws c d clear = tt

pub commits_change_the_opened : CommitsChangeTheOpened
commits_change_the_opened k newer es id v c r f s valid t names =
    let may = (valid_rest k newer (did id v (Commit c r f s) ∷ es) valid).1.3 in
    raw_opens (kind_in k.starts (changes c)) (class_of t) (box_word_in k (run k es).words) (tab k es t) _ _ (clear_opens _ _ _ _ _ _ (may.5 t names))
