-- Why a text has no number.
use Rattle.std.specs.Prelude.{◌≡◌, ℕ, ◌≤◌, List, length, None}
use Rattle.std.specs.Str.{IsUtf8}
use Rattle.ft_texts.specs.Numbered.{most_texts, text_place}
use Rattle.ft_texts.specs.declared.texts.TextFault.{TextFault}
use Rattle.ft_texts.specs.declared.texts.TextFault.TheVariants as fault

-- the bytes aren't UTF-8; or the text is new, and there are as many as there may be
abbrev pub IsFaultOf : List (List ℕ) → List ℕ → TextFault → Type 0
IsFaultOf texts text fault.NotUtf8 = IsUtf8 text → ⊥
IsFaultOf texts text fault.Full = (most_texts ≤ length texts) × (text_place texts text ≡ None)
IsFaultOf texts text fault.Memory = Unit {0}
