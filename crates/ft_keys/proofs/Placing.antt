-- A new entry that is put and named in the first slot never used.
use Rattle.std.proofs.Common.{ℕ, zero, suc, ◌^◌, ◌<◌, ◌≤◌, List, [], ◌∷◌, ◌++◌, Some, None, ap, ◌∙◌, arith, ◌+◌}
use Rattle.std.specs.Prelude.{slice_index}
use Rattle.ft_hash.specs.Probes.{IsMask}
use Rattle.ft_layout.specs.declared.slot.Pair.{Pair}
use Rattle.ft_layout.specs.Words.{FitsPair, entry_words}
use Rattle.ft_keys.specs.declared.walk.Way.{Way}
use Rattle.ft_keys.specs.declared.words.Access.{Access}
use Rattle.ft_keys.specs.declared.words.Access.TheVariants.{Index, PutEntry}
use Rattle.ft_keys.specs.Ways.{walk_slots, room}
use Rattle.ft_keys.specs.Accesses.{Runs, after}
use Rattle.ft_keys.specs.TableChanges.{other_calls, Puts, FindsFree, unless_zero, place_puts, MayRebuild, Placed, AddsPair}
use Rattle.ft_keys.proofs.Shown.{runs-append, after-append, fits-append, loads-leave}
use Rattle.ft_keys.specs.Puts.{PutBelow}
use Rattle.ft_keys.proofs.PutsInTurn.{other-calls-append}
use Rattle.ft_keys.proofs.UntouchedWords.{below-append, below-higher, loads-below}
use Rattle.ft_keys.proofs.OneMoreEntry.{adds}

unless-few : (place word value : ℕ) → other_calls (unless_zero place word value) ≤ 1
unless-few place word zero = omega arith
unless-few place word (suc value) = omega arith

-- seven puts at most
puts-few : (slot place : ℕ) (entry : List ℕ) → other_calls (place_puts slot place entry) ≤ 7
puts-few slot place entry =
    let e : ℕ → ℕ = slice_index entry in
    let one = PutEntry place 1 (e 1) ∷ [] in
    let three = unless_zero place 3 (e 3) in
    let four = unless_zero place 4 (e 4) in
    let five = unless_zero place 5 (e 5) in
    let a = other-calls-append one three in
    let b = other-calls-append (three ++ one) four in
    let c = other-calls-append (four ++ (three ++ one)) five in
    let few3 = unless-few place 3 (e 3) in
    let few4 = unless-few place 4 (e 4) in
    let few5 = unless-few place 5 (e 5) in
    omega arith

unless-below : (mask place word value : ℕ) → 1 ≤ word → word < 8 → PutBelow mask (place + 1) (unless_zero place word value)
unless-below mask place word zero some few = tt
unless-below mask place word (suc value) some few = ((omega arith, some, few), tt)

-- none of them of another entry, none a version
pub puts-below : (mask slot place : ℕ) (entry : List ℕ) → slot ≤ mask → PutBelow mask (place + 1) (place_puts slot place entry)
puts-below mask slot place entry inside =
    let e : ℕ → ℕ = slice_index entry in
    let limit = place + 1 in
    let one = PutEntry place 1 (e 1) ∷ [] in
    let three = unless_zero place 3 (e 3) in
    let four = unless_zero place 4 (e 4) in
    let five = unless_zero place 5 (e 5) in
    let a = below-append mask limit one three ((omega arith, omega arith, omega arith), tt) (unless-below mask place 3 (e 3) (omega arith) (omega arith)) in
    let b = below-append mask limit (three ++ one) four a (unless-below mask place 4 (e 4) (omega arith) (omega arith)) in
    let c = below-append mask limit (four ++ (three ++ one)) five b (unless-below mask place 5 (e 5) (omega arith) (omega arith)) in
    (inside, ((omega arith, omega arith, omega arith), ((omega arith, omega arith, omega arith), c)))

module _ {S : Type 0} (gave : S → Access → S → Type 0) (way : Way) (mask fill : ℕ) (pair : Pair) (start middle : S) (is : IsMask mask) (small : pair.hash < 2 ^ 64) (fits : FitsPair pair) (low : fill < room way mask) where
  abbrev Fact : List ℕ → List ℕ → Type 0
  Fact before later = Placed way mask fill (entry_words pair) before later × AddsPair way mask fill pair before later

  both : (before later : List ℕ) → Placed way mask fill (entry_words pair) before later → Fact before later
  both before later placed = (placed, adds way mask fill pair before later is small fits low placed)

  pub placed-some : (slot : ℕ) (end : S) → slot ≤ mask → FindsFree gave mask (walk_slots way pair.hash mask) start middle (Some slot) → Runs gave middle (place_puts slot fill (entry_words pair)) end → Puts gave mask start end 7 (fill + 1) Fact
  placed-some slot end inside finds runs =
      let puts = place_puts slot fill (entry_words pair) in
      record {
        calls = puts ++ finds.calls;
        runs = runs-append gave start middle end finds.calls puts finds.runs runs;
        few = let all = other-calls-append finds.calls puts in let none = finds.few in let few = puts-few slot fill (entry_words pair) in omega arith;
        below = below-append mask (fill + 1) finds.calls puts (loads-below mask (fill + 1) finds.calls finds.loads) (puts-below mask slot fill (entry_words pair) inside);
        done = λ words fits-calls.
            let answers = fits-append mask finds.calls puts words fits-calls in
            let same = after-append mask finds.calls puts words ∙ ap (after mask puts) (loads-leave mask finds.calls words finds.loads) in
            both words (after mask (puts ++ finds.calls) words) (Some slot, finds.shown words answers.0, same);
      }

  pub placed-none : FindsFree gave mask (walk_slots way pair.hash mask) start middle None → Puts gave mask start middle 7 (fill + 1) Fact
  placed-none finds = record {
    calls = finds.calls;
    runs = finds.runs;
    few = let none = finds.few in omega arith;
    below = loads-below mask (fill + 1) finds.calls finds.loads;
    done = λ words fits-calls. both words (after mask finds.calls words) (None, finds.shown words fits-calls, loads-leave mask finds.calls words finds.loads);
  }

-- what may be put from a fill on may be so after calls that put words below a higher fill alone
pub may-after : {S : Type 0} (gave : S → Access → S → Type 0) (may : S → Access → Type 0) (ready : S → Type 0) (mask : ℕ) (start middle : S) (fill more : ℕ) (calls : List Access) → Runs gave start calls middle →
    fill ≤ more → PutBelow mask more calls → MayRebuild gave may ready mask start fill → MayRebuild gave may ready mask middle more
may-after gave may ready mask start middle fill more calls runs less below all later slot place pair between puts inside least low further is =
    all (later ++ calls) slot place pair between (below-append mask place calls later (below-higher mask more place calls least below) puts) inside (omega arith) low
    (runs-append gave start middle between calls (Index slot 0 ∷ later) runs further) is
