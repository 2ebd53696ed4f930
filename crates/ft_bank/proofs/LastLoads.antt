-- The load of the counter that a pass made last: it stays the last one after actions that load it not, and is one still
-- where older actions are counted in.
use Rattle.std.proofs.Common.{◌≡◌, ℕ, false, true≢false, List, [], ◌∷◌, ◌++◌, sym, ap, ◌∙◌, append_assoc}
use Rattle.ft_trace.specs.declared.Act.{Act}
use Rattle.ft_trace.specs.declared.Act.TheVariants.{ReadCounter, TakeFloor, Version}
use Rattle.ft_bank.specs.LastLoads.{loads_counter, IsLastBetween, IsLastLoad}

pub loads_none : (a b : List Act) → loads_counter a ≡ false → loads_counter b ≡ false → loads_counter (a ++ b) ≡ false
loads_none [] b first later = later
loads_none (ReadCounter n ∷ a) b first later = absurd (true≢false first)
loads_none (TakeFloor n s ∷ a) b first later = absurd (true≢false first)
loads_none (act ∷ a) b first later = loads_none a b first later

-- after more actions
pub last_newer : (n : ℕ) (more part : List Act) → loads_counter more ≡ false → IsLastLoad n part → IsLastLoad n (more ++ part)
last_newer n more part none last = record {
  newer = more ++ last.newer;
  rest = last.rest;
  is = ap (λ (l : List Act). more ++ l) last.is ∙ sym (append_assoc more last.newer (ReadCounter n ∷ last.rest));
  none = loads_none more last.newer none last.none;
}

-- with older ones
pub last_older : (n : ℕ) (part older : List Act) → IsLastLoad n part → IsLastLoad n (part ++ older)
last_older n part older last = record {
  newer = last.newer;
  rest = last.rest ++ older;
  is = ap (λ (l : List Act). l ++ older) last.is ∙ append_assoc last.newer (ReadCounter n ∷ last.rest) older;
  none = last.none;
}

-- ---- between two loads of a version

pub between_last : (o n : ℕ) (part : List Act) → IsLastBetween o n part → IsLastLoad n part
between_last o n part b =
    let closed = Version o b.version in
    record {
      newer = b.newer ++ closed ∷ b.mid;
      rest = b.older ++ closed ∷ b.rest;
      is = b.is ∙ sym (append_assoc b.newer (closed ∷ b.mid) (ReadCounter n ∷ (b.older ++ closed ∷ b.rest)));
      none = loads_none b.newer (closed ∷ b.mid) b.none b.none_between;
    }

pub between_older : (o n : ℕ) (part older : List Act) → IsLastBetween o n part → IsLastBetween o n (part ++ older)
between_older o n part older b =
    let closed = Version o b.version in
    record {
      version = b.version;
      even = b.even;
      newer = b.newer;
      mid = b.mid;
      older = b.older;
      rest = b.rest ++ older;
      is = ap (λ (l : List Act). l ++ older) b.is
          ∙ (append_assoc b.newer (closed ∷ (b.mid ++ ReadCounter n ∷ (b.older ++ closed ∷ b.rest))) older
          ∙ ap (λ (l : List Act). b.newer ++ closed ∷ l) (append_assoc b.mid (ReadCounter n ∷ (b.older ++ closed ∷ b.rest)) older
          ∙ ap (λ (l : List Act). b.mid ++ ReadCounter n ∷ l) (append_assoc b.older (closed ∷ b.rest) older)));
      none = b.none;
      none_between = b.none_between;
    }
