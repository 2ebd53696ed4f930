use Rattle.std.proofs.Common.{◌≡◌, ◌≢◌, ℕ, zero, suc, ◌<◌, Bool, true, false, true≢false, cond, List, [], ◌∷◌, length, filter, None, refl, sym, subst, arith}
use Rattle.std.specs.Prelude.{All, slice_index_or}
use Rattle.ft_model.specs.declared.data.Key.{Key}
use Rattle.ft_layout.specs.Tables.{UsedEntry, is_live}
use Rattle.ft_keys.specs.declared.search.Found.{Found}
use Rattle.ft_keys.specs.Searches.{Finds}
use Rattle.ft_bank.specs.Passes.{shape_of}
use Rattle.ft_search.proofs.LoadedLooks.{looks_did}
use Rattle.ft_new_keys.proofs.growth.free_slot.Goals as goal

still : (key : Key) (e : UsedEntry) (es : List UsedEntry) (b : Bool) → All (λ (x : UsedEntry). x.key ≢ key) (cond b (e ∷ es) es) → All (λ (x : UsedEntry). x.key ≢ key) es
still key e es true h = λ k d low. h (suc k) d (omega (arith, low))
still key e es false h = h

here : (key : Key) (e : UsedEntry) (es : List UsedEntry) (b : Bool) → b ≡ true → All (λ (x : UsedEntry). x.key ≢ key) (cond b (e ∷ es) es) → e.key ≢ key
here key e es true is h = h 0 e (omega arith)
here key e es false is h = absurd (true≢false (sym is))

-- no entry that is there has the key
nowhere : (key : Key) (used : List UsedEntry) → All (λ (x : UsedEntry). x.key ≢ key) (filter is_live used) → (place : ℕ) (any : UsedEntry) → place < length used → is_live (slice_index_or used place any) ≡ true → (slice_index_or used place any).key ≢ key
nowhere key [] none place any low live = absurd (omega (arith, low))
nowhere key (e ∷ es) none zero any low live = here key e (filter is_live es) (is_live e) live none
nowhere key (e ∷ es) none (suc place) any low live = nowhere key es (still key e (filter is_live es) (is_live e) none) place any (omega (arith, low)) live

pub unreachable-requires : goal.unreachable-requires
unreachable-requires c =
    let a = c.args in
    let absent = c.requires.absent in
    let r = c.read_in-found.ensures in
    let finds = r.searched.1.finds a.way (shape_of a.bank.now).texts absent.0 absent.1 r.low refl in
    let there = subst (λ (z : Found). Finds absent.0 a.key z) c.in-At.is finds in
    let any : UsedEntry = record { key = a.key; serial = 0; stored = None } in
    let mine = there.1 any in
    nowhere a.key absent.0 absent.2 _ any there.0 mine.1 mine.0

pub returns-clause-only : goal.returns-clause-only
returns-clause-only c =
    let p = c.read_in-found.ensures.looks in
    looks_did p.0 c.args.pass.now c.read_in-found.new.pass p.1 p.2
