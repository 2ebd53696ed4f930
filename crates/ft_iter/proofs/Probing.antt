-- Loads, one after the other.
use Rattle.std.proofs.Common.{◌≡◌, ℕ, ◌+◌, List, [], ◌∷◌, ◌++◌, refl, ap, subst, arith, length-append}
use Rattle.std.specs.Prelude.{Bool, true, false, ◌&&◌, not, if◌then◌else◌}
use Rattle.ft_layout.specs.Tables.{entry_word}
use Rattle.ft_keys.specs.declared.words.Access.{Access}
use Rattle.ft_keys.specs.declared.words.Access.TheVariants.{Entry}
use Rattle.ft_keys.specs.Accesses.{AreAnswered}
use Rattle.ft_keys.proofs.Shown.{runs-append, loads-append, fits-append, loads-leave}
use Rattle.ft_iter.specs.Seeking.{is_there, gone_load, gone_loads, Probed, FewHalvings, FewPassed, FewProbes}

pub gone-append : (later earlier : List Access) → gone_loads (later ++ earlier) ≡ gone_loads later + gone_loads earlier
gone-append [] earlier = omega arith
gone-append (access ∷ later) earlier = let more = gone-append later earlier in omega (arith, more)

module _ {S : Type 0} (gave : S → Access → S → Type 0) (mask : ℕ) where
  -- no load
  pub probed-none : (state : S) (steps : ℕ) (few : List Access → Type 0) (P : List ℕ → Type 0) → few [] → ((words : List ℕ) → P words) → Probed gave mask state state steps steps few P
  probed-none state steps few P cost given = record { calls = []; runs = refl; loads = tt; steps = omega arith; cost = cost; shown = λ words _. given words }

  -- what follows
  pub probed-as : (start end : S) (before after : ℕ) (few most : List Access → Type 0) (P Q : List ℕ → Type 0) → ((calls : List Access) → few calls → most calls) → ((words : List ℕ) → P words → Q words)
      → Probed gave mask start end before after few P → Probed gave mask start end before after most Q
  probed-as start end before after few most P Q cost implies p = record { calls = p.calls; runs = p.runs; loads = p.loads; steps = p.steps; cost = cost p.calls p.cost; shown = λ words fits. implies words (p.shown words fits) }

  -- one load more, of a word of an entry
  pub probed-more : (start between end : S) (before now after place word value : ℕ) (few most : List Access → Type 0) (P Q : List ℕ → Type 0) → after ≡ now + 1 → ((calls : List Access) → few calls → most (Entry place word value ∷ calls))
      → ((words : List ℕ) → P words → value ≡ entry_word mask words place word → Q words) → Probed gave mask start between before now few P → gave between (Entry place word value) end → Probed gave mask start end before after most Q
  probed-more start between end before now after place word value few most P Q one cost implies p step = record {
    calls = Entry place word value ∷ p.calls;
    runs = (between, p.runs, step);
    loads = (tt, p.loads);
    steps = let s = p.steps in omega (arith, s, one);
    cost = cost p.calls p.cost;
    shown = λ words fits. implies words (p.shown words fits.0) (subst (λ (ws : List ℕ). value ≡ entry_word mask ws place word) (loads-leave mask p.calls words p.loads) fits.1);
  }

  -- loads after loads
  pub probed-both : (start between end : S) (a b c : ℕ) (few most all : List Access → Type 0) (P Q : List ℕ → Type 0) → ((earlier later : List Access) → few earlier → most later → all (later ++ earlier))
      → Probed gave mask start between a b few P → Probed gave mask between end b c most Q → Probed gave mask start end a c all (λ words. P words × Q words)
  probed-both start between end a b c few most all P Q cost one two = record {
    calls = two.calls ++ one.calls;
    runs = runs-append gave start between end one.calls two.calls one.runs two.runs;
    loads = loads-append one.calls two.calls one.loads two.loads;
    steps = let sum = length-append two.calls one.calls in let x = one.steps in let y = two.steps in omega (arith, sum, x, y);
    cost = cost one.calls two.calls one.cost two.cost;
    shown = λ words fits.
        let both = fits-append mask one.calls two.calls words fits in
        (one.shown words both.0, two.shown words (subst (AreAnswered mask two.calls) (loads-leave mask one.calls words one.loads) both.1));
  }

-- halvings, and the entries that are passed then
pub few-both : (fill : ℕ) (earlier later : List Access) → FewHalvings fill earlier → FewPassed later → FewProbes fill (later ++ earlier)
few-both fill earlier later few passed digits low =
    let a = few digits low in
    let sum = length-append later earlier in
    let gone = gone-append later earlier in
    omega (arith, a, passed, sum, gone)

pub few-passed : (fill : ℕ) (calls : List Access) → FewPassed calls → FewProbes fill calls
few-passed fill calls passed digits low = omega (arith, passed)

-- a deleted entry that was met
pub gone-one : (place kind : ℕ) → is_there kind ≡ false → gone_load (Entry place 2 kind) ≡ 1
gone-one place kind gone = ap (λ (b : Bool). if true && not b then 1 else 0) gone
