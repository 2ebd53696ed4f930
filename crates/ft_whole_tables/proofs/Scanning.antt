-- Loops over the entries of a table, step by step.
use Rattle.std.proofs.Common.{◌≡◌, ℕ, suc, ◌+◌, ◌<◌, Bool, true, false, List, [], ◌∷◌, length, Option, Some, None, refl, sym, ap, ◌∙◌, arith}
use mathlib.Core.Logic.{dite}
use Rattle.std.proofs.Math.Decide.{dec_lt}
use Rattle.std.specs.Prelude.{cond, filter, is_some, option_map, slice_index_or}
use Rattle.ft_layout.specs.declared.slot.Stored.{Stored}
use Rattle.ft_layout.specs.Tables.{UsedEntry, is_live}
use Rattle.ft_model.specs.declared.data.Key.{Key}
use Rattle.ft_model.specs.declared.data.Value.{Value}
use Rattle.ft_trace.specs.declared.Shape.{Shape}
use Rattle.ft_bank.specs.declared.pass.Pass.{Pass}
use Rattle.ft_reads.specs.Reads.{Reads}
use Rattle.ft_reads.proofs.Agreeing.{reads_map, reads_none, reads_then}
use Rattle.ft_whole_tables.specs.TableEntries.{IsKeyAt, IsPlainAt, KeyIs, OfUsed, PlainIs, live_key}
use Rattle.ft_whole_tables.specs.Places.{NoneThere}

-- an entry has a key that is there just where it is live
pub some_live : (e : UsedEntry) → is_some (live_key e) ≡ is_live e
some_live e = by e.stored
  where
    by : (stored : Option Stored) → is_some (option_map (λ (s : Stored). e.key) stored) ≡ is_some stored
    by (Some s) = refl
    by None = refl

module _ (k : Shape) (o t : ℕ) where
  -- before the first load of a loop
  pub scan_none : (holds : List UsedEntry → Type 0) (p : Pass) → ((used : List UsedEntry) → holds used) → Reads k o (OfUsed k t holds) p p
  scan_none holds p all = reads_none k o (OfUsed k t holds) p (λ x names way used table. all used)

  -- one more entry's key was read
  pub scan_key : (holds then : List UsedEntry → Type 0) (place : ℕ) (found : Option Key) (p q r : Pass) → Reads k o (OfUsed k t holds) p q → Reads k o (IsKeyAt k t place found) q r
      → ((used : List UsedEntry) → holds used → KeyIs place found used → then used) → Reads k o (OfUsed k t then) p r
  scan_key holds then place found p q r a b f =
      reads_map k o (λ x. OfUsed k t holds x × IsKeyAt k t place found x) (OfUsed k t then) p r
      (λ x both names way used table. f used (both.0 names way used table) (both.1.0 names way used table))
      (reads_then k o (OfUsed k t holds) (IsKeyAt k t place found) p q r a b)

  -- one more entry's key and value
  pub scan_value : (holds then : List UsedEntry → Type 0) (place : ℕ) (found : Option (Key × Value)) (p q r : Pass) → Reads k o (OfUsed k t holds) p q → Reads k o (IsPlainAt k t place found) q r
      → ((used : List UsedEntry) → holds used → PlainIs place found used → then used) → Reads k o (OfUsed k t then) p r
  scan_value holds then place found p q r a b f =
      reads_map k o (λ x. OfUsed k t holds x × IsPlainAt k t place found x) (OfUsed k t then) p r
      (λ x both names way used table. f used (both.0 names way used table) (both.1.0 names way used table))
      (reads_then k o (OfUsed k t holds) (IsPlainAt k t place found) p q r a b)

  -- what holds of the entries is something else
  pub scan_map : (holds then : List UsedEntry → Type 0) (p q : Pass) → Reads k o (OfUsed k t holds) p q → ((used : List UsedEntry) → holds used → then used) → Reads k o (OfUsed k t then) p q
  scan_map holds then p q a f = reads_map k o (OfUsed k t holds) (OfUsed k t then) p q (λ x h names way used table. f used (h names way used table)) a

-- ---- the first and the last

-- none before the place
pub none_before : (used : List UsedEntry) (place : ℕ) (found : Option Key) → NoneThere 0 place used → KeyIs place found used → place < length used → is_some found ≡ false → NoneThere 0 (place + 1) used
none_before used place found none is low missing q any from below =
    dite (dec_lt q place)
    (λ (less : q < place). none q any from less)
    (λ more.
    let at : q ≡ place = omega (arith, more, below) in
    ap (λ (z : ℕ). is_live (slice_index_or used z any)) at ∙ (sym (some_live (slice_index_or used place any)) ∙ (ap is_some (sym (is any low)) ∙ missing)))

-- none after it
pub none_after : (used : List UsedEntry) (place past : ℕ) (found : Option Key) → NoneThere (place + 1) past used → KeyIs place found used → place < length used → is_some found ≡ false → NoneThere place past used
none_after used place past found none is low missing q any from below =
    dite (dec_lt place q)
    (λ (less : place < q). none q any (omega (arith, less)) below)
    (λ more.
    let at : q ≡ place = omega (arith, more, from) in
    ap (λ (z : ℕ). is_live (slice_index_or used z any)) at ∙ (sym (some_live (slice_index_or used place any)) ∙ (ap is_some (sym (is any low)) ∙ missing)))

pub there_at : (used : List UsedEntry) (place : ℕ) (found : Option Key) → KeyIs place found used → place < length used → is_some found ≡ true → (any : UsedEntry) → is_live (slice_index_or used place any) ≡ true
there_at used place found is low there any = sym (some_live (slice_index_or used place any)) ∙ (ap is_some (sym (is any low)) ∙ there)

-- no entry is there, of all that were used
pub none_live : (used : List UsedEntry) (fill : ℕ) → fill ≡ length used → NoneThere 0 fill used → filter is_live used ≡ []
none_live used fill filled none = by used (λ q any low. none q any (omega arith) (omega (arith, low, filled)))
  where
    by : (l : List UsedEntry) → ((q : ℕ) (any : UsedEntry) → q < length l → is_live (slice_index_or l q any) ≡ false) → filter is_live l ≡ []
    by [] dead = refl
    by (e ∷ l) dead = ap (λ (b : Bool). cond b (e ∷ filter is_live l) (filter is_live l)) (dead 0 e (omega arith)) ∙ by l (λ q any low. dead (suc q) any (omega (arith, low)))
