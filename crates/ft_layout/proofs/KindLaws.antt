-- Words stand for one content at most, of each kind of container.
use Rattle.std.proofs.Common.{◌≡◌, ℕ, List, None, refl, sym, ap, ◌∙◌, subst}
use Rattle.ft_model.specs.declared.content.Content.{Content}
use Rattle.ft_model.specs.declared.content.Content.TheVariants as content
use Rattle.ft_model.specs.declared.script.Kind.{Kind}
use Rattle.ft_model.specs.declared.script.Kind.TheVariants as kind
use Rattle.ft_model.specs.TableUses.{TableUse, no_table}
use Rattle.ft_model.specs.Deques.{DequeContent, empty_deque}
use Rattle.ft_model.specs.Worlds.{empty_content, kind_of, length_of, serial_of}
use Rattle.ft_layout.specs.Containers.{IsBlank, IsBlock, StandsAs}
use Rattle.ft_layout.proofs.ContentLaws.{one_dict, one_set, one_list, no_table as no_table_block, no_dict, no_set, no_list}

-- the empty deque of a kind of deques
abbrev bounded_deque : Kind → DequeContent
bounded_deque (kind.Deque bound) = empty_deque bound
bounded_deque kind.Dict = empty_deque None
bounded_deque kind.List = empty_deque None
bounded_deque kind.Set = empty_deque None

pub one_content : (texts block words : List ℕ) (table other : TableUse) (a b : Content) → kind_of a ≡ kind_of b → StandsAs texts block words table a → StandsAs texts block words other b → (table.class ≡ other.class) × (table.fill ≡ other.fill) × (a ≡ b)
one_content texts block words table other (content.Dict dict) (content.Dict second) same f g =
    let one = one_dict texts block words table.class other.class table.fill other.fill dict second f g in
    (one.0, one.1, ap content.Dict one.2)
one_content texts block words table other (content.Set elements) (content.Set second) same f g =
    let one = one_set texts block words table.class other.class table.fill other.fill elements second f g in
    (one.0, one.1, ap content.Set one.2)
one_content texts block words table other (content.List values) (content.List second) same f g =
    let one = one_list block words table.class other.class values second f.0 g.0 in
    (one.0, f.1 ∙ sym g.1, ap content.List one.1)
one_content texts block words table other (content.Dict dict) (content.Set second) same f g = absurd cc
one_content texts block words table other (content.Dict dict) (content.List second) same f g = absurd cc
one_content texts block words table other (content.Set elements) (content.Dict second) same f g = absurd cc
one_content texts block words table other (content.Set elements) (content.List second) same f g = absurd cc
one_content texts block words table other (content.List values) (content.Dict second) same f g = absurd cc
one_content texts block words table other (content.List values) (content.Set second) same f g = absurd cc
one_content texts block words table other (content.Deque deque) (content.Deque second) same f g =
    let same_table = f.1 ∙ sym g.1 in
    (ap (λ (t : TableUse). t.class) same_table, ap (λ (t : TableUse). t.fill) same_table, ap content.Deque (f.2 ∙ (ap (λ (kind : Kind). bounded_deque kind) same ∙ sym g.2)))
one_content texts block words table other (content.Deque deque) (content.Dict second) same f g = absurd cc
one_content texts block words table other (content.Deque deque) (content.Set second) same f g = absurd cc
one_content texts block words table other (content.Deque deque) (content.List second) same f g = absurd cc
one_content texts block words table other (content.Dict dict) (content.Deque second) same f g = absurd cc
one_content texts block words table other (content.Set elements) (content.Deque second) same f g = absurd cc
one_content texts block words table other (content.List values) (content.Deque second) same f g = absurd cc

pub no_content : (texts block words : List ℕ) (kind : Kind) → IsBlank block → StandsAs texts block words no_table (empty_content kind)
no_content texts block words kind.Dict blank = no_dict texts block words blank
no_content texts block words kind.Set blank = no_set texts block words blank
no_content texts block words kind.List blank = (no_list block words blank, refl)
no_content texts block words (kind.Deque bound) blank = (blank, refl, refl)

-- the block has the same words whatever the container is
pub head_of : (texts block words : List ℕ) (table : TableUse) (a : Content) → StandsAs texts block words table a → IsBlock block table.class (length_of a) table.fill (serial_of a)
head_of texts block words table (content.Dict dict) f = f.head
head_of texts block words table (content.Set elements) f = f.head
head_of texts block words table (content.List values) f = subst (λ (n : ℕ). IsBlock block table.class (length_of (content.List values)) n 0) (sym f.1) f.0.head
head_of texts block words table (content.Deque deque) f =
    subst (λ (z : TableUse × DequeContent). IsBlock block z.0.class (length_of (content.Deque z.1)) z.0.fill (serial_of (content.Deque z.1)))
    (λ d. (sym f.1 d, sym f.2 d)) (no_table_block block f.0)
