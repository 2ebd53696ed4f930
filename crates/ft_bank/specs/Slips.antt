-- What a note is among the views of a trace.
use Rattle.std.specs.Prelude.{ℕ, List, [], false}
use Rattle.ft_trace.specs.declared.Told.{Told}
use Rattle.ft_trace.specs.declared.View.{View}
use Rattle.ft_trace.specs.Acts.{no_shape}

-- what a note knows that brings this many tokens, tells of n writes, and has these words: it has no lock, no table, no
-- writes and no entries
abbrev pub slip_with : ℕ → ℕ → List ℕ → List Told → View
slip_with tokens n words told =
    record {
      number = 0;
      next = 0;
      parts = 0;
      left = 0;
      shape = no_shape;
      log = [];
      entries = [];
      lists = [];
      tokens = tokens;
      learnt = n;
      has_floor = false;
      floor = words;
      told = told;
    }

-- what a note knows that says this, and brings no tokens
abbrev pub slip : ℕ → List Told → View
slip n told = slip_with 0 n [] told
