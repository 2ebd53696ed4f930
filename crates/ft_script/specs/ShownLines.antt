-- The lines with which a transcript ends, by what the containers are shown to have.
use Rattle.std.specs.Prelude.{ℕ, List, [], ◌∷◌, codes}
use Rattle.std.specs.List.{flat_map, zip}
use Rattle.ft_model.specs.declared.reply.Shown.{Shown}
use Rattle.ft_model.specs.declared.script.Declaration.{Declaration}
use Rattle.ft_model.specs.declared.script.ScriptParts.{ScriptParts}
use Rattle.ft_script.specs.Texts.{line, shown_text}

abbrev pub shown_line : ScriptParts → Declaration → Shown → List ℕ
shown_line script container shown =
    line (container.name ∷ codes "=" ∷ shown_text script.strings shown ∷ [])

-- a line for each container in the order of declaration
abbrev pub shown_lines : ScriptParts → List Shown → List ℕ
shown_lines script all = flat_map (λ one. shown_line script one.0 one.1) (zip script.containers all)
