-- The notes of a pass that has made a call tell of it.
use Rattle.std.proofs.Common.{◌≡◌, ◌∙◌, ◌≤◌, List, [], ◌∷◌, ◌++◌, length, ap, sym, subst}
use Rattle.std.specs.Prelude.{All}
use Rattle.std.proofs.lemmas.List.Elements.{All-push}
use Rattle.atomic_table.specs.Seated.{TableId}
use Rattle.ft_trace.specs.declared.View.{View}
use Rattle.ft_trace.specs.Acts.{own_told}
use Rattle.ft_bank.specs.declared.bank.Bank.{Bank}
use Rattle.ft_bank.specs.declared.note.Note.{Note}
use Rattle.ft_bank.specs.declared.pass.Pass.{Pass}
use Rattle.ft_bank.specs.Notes.{IsNoteOf, told_by}
use Rattle.ft_bank.specs.Passes.{view, DidNothing}
use Rattle.ft_bank.proofs.Seen.{tells_of}
use Rattle.ft_board.specs.Boards.{IsNoteFor, name_of}
use Rattle.ft_board_tests.specs.Makers.{IsMaker}

pub note_tells : (name : TableId) (b : Bank) (p : Pass) (n : Note) → name ≡ name_of b → IsMaker b p → IsNoteOf b n → told_by n ≡ own_told (view p) → IsNoteFor name 0 1 n
note_tells name b p n named maker of told = record {
  of = of ∙ sym named;
  tells = tells_of (view p) (told_by n) 0 1 told maker.number maker.made;
}

-- a pass that has done nothing is as it was
pub still_maker : (b : Bank) (p q : Pass) → DidNothing p q → IsMaker b p → IsMaker b q
still_maker b p q did maker = record {
  pass = (did.0 ∙ maker.pass.0, ap (λ (v : View). v.shape) did.1 ∙ maker.pass.1);
  number = ap (λ (v : View). v.number) did.1 ∙ maker.number;
  made = subst (λ (v : View). 1 ≤ length v.entries) (sym did.1) maker.made;
}

-- one more note
pub note_more : (name : TableId) (notes more : List Note) (n : Note) → more ≡ notes ++ n ∷ [] → All (IsNoteFor name 0 1) notes → IsNoteFor name 0 1 n → All (IsNoteFor name 0 1) more
note_more name notes more n is all one = subst (All (IsNoteFor name 0 1)) (sym is) (All-push (IsNoteFor name 0 1) notes n all one)
