-- What is found at a key of a dict without the lock.
use Rattle.std.specs.Prelude.{◌≡◌, ℕ, List, ◌++◌}
use Rattle.ft_model.specs.declared.data.Key.{Key}
use Rattle.ft_trace.specs.declared.Act.{Act}
use Rattle.ft_trace.specs.declared.View.{View}
use Rattle.ft_bank.specs.LastLoads.{IsLastLoad}
use Rattle.ft_bank.specs.Shown.{KeyIsShown}
use Rattle.ft_search.specs.KeyLooks.{EndsLook, IsKeyContended}
use Rattle.ft_search.specs.LookSteps.{OnlyLooked}
use Rattle.ft_dict.specs.declared.looks.AtKey.{AtKey}
use Rattle.ft_dict.specs.declared.looks.AtKey.TheVariants.{Found, Contended}

-- The pass took only steps of look-ups. They show the value at the key, or that none is there, at the counter that it loaded
-- last; or the version of the key's entry stopped it, or the count of the box that the entry names. (profile)
abbrev pub IsFoundAt : ℕ → Key → View → View → AtKey → Type 0
IsFoundAt d key v w (Found value n) =
    OnlyLooked v w × KeyIsShown w d key value n
    × ((part : List Act) × (w.log ≡ part ++ v.log) × IsLastLoad n part × EndsLook d n part)
IsFoundAt d key v w (Contended a b) = IsKeyContended d key a b v w
