use Rattle.std.proofs.Common.{◌≡◌, ℕ, List, [], ◌∷◌, ◌++◌, refl, sym, ap, ◌∙◌, inl, inr, arith}
use Rattle.ft_trace.specs.declared.Act.{Act}
use Rattle.ft_trace.specs.declared.Act.TheVariants.{LowerCount, RaiseCount, ReadCount}
use Rattle.ft_trace.specs.declared.View.{View}
use Rattle.ft_trace.specs.Acts.{view_after}
use Rattle.ft_bank.specs.Passes.{view}
use Rattle.ft_bank.specs.Series.{noted_all}
use Rattle.ft_bank.specs.Takings.{lowered, loads_of_none, Each, StaysIn, StaysInSearch}
use Rattle.ft_bank.proofs.Freeing.{all_then, but_same, but_then}
use Rattle.ft_bank.proofs.Undisturbed.{taking_alone}
use Rattle.ft_bank.specs.declared.takings.Search.TheVariants as search
use Rattle.ft_bank.specs.declared.takings.Took.TheVariants as took
use Rattle.ft_bank.proofs.bank.Bank.take_table.Goals as goal

-- the two first steps, where the count was lowered
began : (u v w : View) (class count found : ℕ) → v ≡ view_after (ReadCount class count) u → w ≡ view_after (LowerCount class count found) v → found ≡ count → w ≡ noted_all (lowered class count) u
began u v w class count found first next same = next ∙ (ap (view_after (LowerCount class count found)) first ∙ ap (λ (z : ℕ). view_after (LowerCount class count z) (view_after (ReadCount class count) u)) same)

pub returns-then-found-count-clause-did : goal.returns-then-found-count-clause-did
returns-then-found-count-clause-did c =
    let first = c.read_count-count.ensures.did in
    let next = c.lower_count-found.ensures.did in
    let n = c.read_count-count.result in
    let f = c.lower_count-found.result in (
      LowerCount c.args.class n f ∷ ReadCount c.args.class n ∷ [],
      (next.0 ∙ first.0, next.1 ∙ ap (view_after (LowerCount c.args.class n f)) first.1, next.2 ∙ first.2),
      inl ((λ e. c.if-found-count.true (sym e)), refl),
    )

pub returns-in-Found-clause-did : goal.returns-in-Found-clause-did
returns-in-Found-clause-did c =
    let u = view c.args.pass.now in
    let n = c.read_count-count.result in
    let first = c.read_count-count.ensures.did in
    let next = c.lower_count-found.ensures.did in
    let last = c.in-Found.ensures.did in
    let start = began u _ _ c.args.class n c.lower_count-found.result first.1 next.1 c.if-found-count.false in (
      last.0 ++ lowered c.args.class n,
      (last.1.0 ∙ (next.0 ∙ first.0), all_then last.0 (lowered c.args.class n) u _ _ last.1.1 start, last.1.2 ∙ (next.2 ∙ first.2)),
      (n, last.0, omega (arith, c.if-count-eq0.false), last.2, refl),
    )

pub returns-in-Lost-clause-did : goal.returns-in-Lost-clause-did
returns-in-Lost-clause-did c =
    let u = view c.args.pass.now in
    let n = c.read_count-count.result in
    let first = c.read_count-count.ensures.did in
    let next = c.lower_count-found.ensures.did in
    let last = c.in-Lost.ensures.did in
    let end = c.raise_count.ensures.did in
    let start = began u _ _ c.args.class n c.lower_count-found.result first.1 next.1 c.if-found-count.false in (
      RaiseCount c.args.class end.0 ∷ (last.0 ++ lowered c.args.class n),
      (
        end.1.0 ∙ (last.1.0 ∙ (next.0 ∙ first.0)),
        end.1.1 ∙ ap (view_after (RaiseCount c.args.class end.0)) (all_then last.0 (lowered c.args.class n) u _ _ last.1.1 start),
        end.1.2 ∙ (last.1.2 ∙ (next.2 ∙ first.2)),
      ),
      inr (inl (n, end.0, last.0, last.2, refl)),
    )

pub returns-in-Nothing-clause-did : goal.returns-in-Nothing-clause-did
returns-in-Nothing-clause-did c =
    let u = view c.args.pass.now in
    let n = c.read_count-count.result in
    let first = c.read_count-count.ensures.did in
    let next = c.lower_count-found.ensures.did in
    let last = c.in-Nothing.ensures.did in
    let end = c.raise_count-in-Nothing.ensures.did in
    let start = began u _ _ c.args.class n c.lower_count-found.result first.1 next.1 c.if-found-count.false in
    let all = all_then last.0 (lowered c.args.class n) u _ _ last.1.1 start in
    let is : noted_all (last.0 ++ lowered c.args.class n) u ≡ noted_all (loads_of_none c.args.class 16 ++ lowered c.args.class n) u = ap (λ (l : List Act). noted_all (l ++ lowered c.args.class n) u) last.2 in (
      RaiseCount c.args.class end.0 ∷ (loads_of_none c.args.class 16 ++ lowered c.args.class n),
      (
        end.1.0 ∙ (last.1.0 ∙ (next.0 ∙ first.0)),
        end.1.1 ∙ ap (view_after (RaiseCount c.args.class end.0)) (all ∙ is),
        end.1.2 ∙ (last.1.2 ∙ (next.2 ∙ first.2)),
      ),
      inr (inr (refl, end.0, refl)),
    )

-- with the floor no other pass comes between
pub returns-then-found-count-clause-floor : goal.returns-then-found-count-clause-floor
returns-then-found-count-clause-floor c has =
    let d = returns-then-found-count-clause-did c in
    taking_alone (view c.args.pass.now) (view c.lower_count-found.new.pass) c.args.class c.read_count-count.result c.lower_count-found.result d.0 c.requires.class d.1.1 d.2 c.lower_count-found.new.pass.possible has

pub returns-in-Lost-clause-floor : goal.returns-in-Lost-clause-floor
returns-in-Lost-clause-floor c has =
    let d = returns-in-Lost-clause-did c in
    taking_alone (view c.args.pass.now) (view c.raise_count.new.pass) c.args.class c.in-Lost.loaded c.in-Lost.found d.0 c.requires.class d.1.1 d.2 c.raise_count.new.pass.possible has

pub returns-in-Nothing-clause-floor : goal.returns-in-Nothing-clause-floor
returns-in-Nothing-clause-floor c has =
    let d = returns-in-Nothing-clause-did c in
    taking_alone (view c.args.pass.now) (view c.raise_count-in-Nothing.new.pass) c.args.class c.read_count-count.result 0 d.0 c.requires.class d.1.1 d.2 c.raise_count-in-Nothing.new.pass.possible has

pub returns-in-Lost-clause-keeps : goal.returns-in-Lost-clause-keeps
returns-in-Lost-clause-keeps c =
    let v = view c.args.pass.now in
    let one = view c.read_count-count.new.pass in
    let two = view c.lower_count-found.new.pass in
    let three = view c.search.new.pass in
    let four = view c.raise_count.new.pass in
    let F : ℕ → Type 0 = StaysIn (took.Moved c.in-Lost.loaded c.in-Lost.found) in
    let G : ℕ → Type 0 = StaysInSearch (search.Lost c.in-Lost.loaded c.in-Lost.found) in
    let found = but_then Each G one two three c.lower_count-found.ensures.keeps c.in-Lost.ensures.keeps (λ t x. x) in
    let all = but_then Each Each v one four c.read_count-count.ensures.keeps (but_then Each Each one three four found c.raise_count.ensures.keeps (λ t x. x)) (λ t x. x) in
    but_then F Each v v four (but_same F v) all (λ t x. x)
