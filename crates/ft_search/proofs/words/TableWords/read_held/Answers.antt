use Rattle.std.proofs.Common.{◌≡◌, ℕ, ◌<◌, List, ◌∷◌, ◌++◌, sym, ap, ◌∙◌, subst}
use Rattle.ft_keys.specs.Searches.{Searched}
use Rattle.ft_keys.specs.Ways.{walk_slots}
use Rattle.ft_search.specs.Held.{ReadsEntry}
use Rattle.ft_trace.specs.declared.Shape.{Shape}
use Rattle.ft_trace.specs.Addresses.{container_count}
use Rattle.ft_trace.specs.ContainerStates.{kind_in}
use Rattle.ft_trace.specs.Holds.{held_unboxed}
use Rattle.ft_trace.specs.Pictures.{ContainerWords}
use Rattle.ft_bank.specs.Passes.{shape_of, view}
use Rattle.ft_search.specs.TableWords.{known_words, read_words}
use Rattle.ft_search.proofs.Costing.{few_append}
use Rattle.ft_search.proofs.Running.{did_trans}
use Rattle.ft_search.proofs.LoadedLooks.{looks_append, looks_did}
use Rattle.ft_search.proofs.WordPlaces.{mask_is}
use Rattle.ft_search.proofs.words.TableWords.read_held.Goals as goal

pub new-walk-requires : goal.new-walk-requires
new-walk-requires c =
    let s = c.args.self.now in
    mask_is s.table.class s.mask c.requires.can.table.0 c.requires.can.mask

pub returns-clause-looks : goal.returns-clause-looks
returns-clause-looks c =
    let s0 = c.args.self.now in
    let s1 = c.seek_held-found.new.self in
    let s2 = c.read_found-read.new.self in
    let a = c.seek_held-found.ensures.looks in
    let b = c.read_found-read.ensures.looks in
    (b.0 ++ a.0, looks_append b.0 a.0 b.1 a.1, did_trans b.0 a.0 s0.pass.now s1.pass.now s2.pass.now a.2 b.2, few_append c.args.way b.0 a.0 b.3 (a.3 c.args.way c.args.hash (ap (λ z. z.left) c.new-walk.ensures ∙ (λ i. walk_slots c.args.way c.args.hash (sym (ap (λ z. z.mask) c.new-walk.ensures) i)))))

pub returns-clause-searched : goal.returns-clause-searched
returns-clause-searched c =
    let s0 = c.args.self.now in
    let s1 = c.seek_held-found.new.self in
    let found = c.seek_held-found.result in
    let left = c.seek_held-found.new.walk.left in
    let first = ap (λ z. z.left) c.new-walk.ensures in
    let same = c.seek_held-found.ensures.same in
    let looks = c.seek_held-found.ensures.looks in
    let v = view s0.pass.now in
    let l = looks_did looks.0 s0.pass.now s1.pass.now looks.1 looks.2 in
    let unboxed = l.unboxed s0.o (subst (λ (k : Shape). s0.o < container_count k) (sym c.requires.can.pass.1) c.requires.can.container) c.requires.knows.0 in
    let words : read_words s1 ≡ read_words s0 = (λ d. 0 ∷ 0 ∷ (held_unboxed (same.o d) (view s1.pass.now)).table) ∙ ap (λ (x : ContainerWords). 0 ∷ 0 ∷ x.table) unboxed in (
      left,
      subst (λ (l : List ℕ). Searched s0.mask (known_words s0) c.args.key l left found) first c.seek_held-found.ensures.searched,
      c.seek_held-found.ensures.live,
      subst (λ (z : ℕ × List ℕ). ReadsEntry z.0 z.1 found c.read_found-read.result) (λ d. (same.mask d, words d)) c.read_found-read.ensures.reads,
    )

pub read_found-read-requires-clause-way : goal.read_found-read-requires-clause-way
read_found-read-requires-clause-way c =
    let s0 = c.args.self.now in
    let s1 = c.seek_held-found.new.self in
    let same = c.seek_held-found.ensures.same in
    (λ d. kind_in (shape_of (same.bank d).now).starts (same.o d)) ∙ c.requires.way
