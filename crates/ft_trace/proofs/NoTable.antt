-- Where a root is 0 there is nothing.
use Rattle.std.proofs.Common.{◌≡◌, ℕ, List, [], ◌∷◌, length, Option, Some, None, refl, sym, ap, ◌∙◌, subst, arith}
use Rattle.std.specs.Prelude.{map, filter}
use Rattle.ft_model.specs.declared.content.Content.{Content}
use Rattle.ft_model.specs.declared.content.Content.TheVariants as content
use Rattle.ft_model.specs.Deques.{DequeContent}
use Rattle.ft_model.specs.Worlds.{length_of}
use Rattle.ft_model.specs.TableUses.{TableUse}
use Rattle.ft_layout.specs.Tables.{is_live}
use Rattle.ft_layout.specs.Containers.{IsRoot, block_word, used_pair, used_element, InDictTable, InSetTable, InListTable, StandsAs}
use Rattle.ft_layout.proofs.KindLaws.{head_of}
use Rattle.ft_trace.specs.ContainerStates.{ContainerState}
use Rattle.ft_trace.specs.Pictures.{ContainerWords, root_in, Represents}
use Rattle.ft_trace.specs.LoggedReads.{IsNothing}

no_class : (root : ℕ) (class : Option ℕ) → IsRoot root class → root ≡ 0 → class ≡ None
no_class root None is zero_is = refl
no_class root (Some class) is zero_is = let e = is.1.2 in absurd (omega (arith, e, zero_is))

none_of : {A B : Type 0} (f : A → B) (l : List A) → [] ≡ map f l → length l ≡ 0
none_of f [] e = refl
none_of f (x ∷ xs) e = absurd (cc)

nothing_in : (texts block words : List ℕ) (table : TableUse) (c : Content) → table.class ≡ None → StandsAs texts block words table c → length_of c ≡ 0
nothing_in texts block words table (content.Dict d) none s =
    let used = subst (λ (z : Option ℕ). InDictTable texts words z s.used) none s.table in
    none_of used_pair d.pairs (ap (λ l. filter is_live l) (sym used) ∙ s.entries.live)
nothing_in texts block words table (content.Set d) none s =
    let used = subst (λ (z : Option ℕ). InSetTable texts words z s.used) none s.table in
    none_of used_element d.elements (ap (λ l. filter is_live l) (sym used) ∙ s.entries.live)
nothing_in texts block words table (content.List values) none s =
    let is = subst (λ (z : Option ℕ). InListTable words z values) none s.0.table in
    ap (λ l. length l) is
nothing_in texts block words table (content.Deque deque) none s = ap (λ (d : DequeContent). length_of (content.Deque d)) s.2

pub no_table_stands : (texts : List ℕ) (x : ContainerWords) (kept : ContainerState) → root_in x ≡ 0 → Represents texts x kept → IsNothing kept
no_table_stands texts x kept zero_is s =
    let head = head_of texts x.block (0 ∷ 0 ∷ x.table) kept.table kept.content s in
    let class = no_class (block_word x.block 2) kept.table.class head.root zero_is in
    (class, nothing_in texts x.block (0 ∷ 0 ∷ x.table) kept.table kept.content class s)
