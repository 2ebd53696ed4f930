use Rattle.std.proofs.Common.{◌<◌, ◌∷◌, refl, sym, ap, ◌∙◌, subst}
use Rattle.ft_trace.specs.declared.Shape.{Shape}
use Rattle.ft_trace.specs.Pictures.{ContainerWords}
use Rattle.ft_bank.specs.Passes.{shape_of, view}
use Rattle.ft_bank.specs.TableNames.{table_id}
use Rattle.ft_trace.specs.Addresses.{container_count}
use Rattle.ft_trace.specs.Holds.{held_words}
use Rattle.ft_bank.proofs.KnownAfterWrites.{loaded_by, loaded_put}
use Rattle.ft_trace.specs.declared.Act.TheVariants.{ReadTable}
use Rattle.ft_search.proofs.WordPlaces.{slot_in}
use Rattle.ft_search.proofs.KnownTableWords.{after_header, loaded_leaves}
use Rattle.ft_search.proofs.words.TableWordsWords.index.Goals as goal

pub read_word-requires-clause-word : goal.read_word-requires-clause-word
read_word-requires-clause-word c =
    let s = c.args.self.now in
    slot_in (shape_of s.bank.now) s.table s.mask c.args.slot c.requires.can.table c.requires.can.mask c.requires.slot

pub returns-clause-gave : goal.returns-clause-gave
returns-clause-gave c =
    let s = c.args.self.now in
    record {
      same = record { bank = refl; pass = refl; o = refl; table = refl; mask = refl; start = refl };
      inside = slot_in (shape_of s.bank.now) s.table s.mask c.args.slot c.requires.can.table c.requires.can.mask c.requires.slot;
      did = c.read_word.ensures.did;
      others = λ o low mine names.
          c.read_word.ensures.held o low mine names ∙ sym (after_header (held_words o (view s.pass.now)).table c.args.slot);
      tells = λ k.
          c.read_word.ensures.held s.o c.requires.can.container k.0 k.1
          ∙ sym (after_header (held_words s.o (view s.pass.now)).table c.args.slot);
      left = λ k.
          loaded_leaves (view s.pass.now) (view c.read_word.new.pass) s.o (table_id s.table) c.args.slot c.read_word.result
          c.read_word.ensures.did.1 k;
      reads = λ k none.
          let l = loaded_by (ReadTable (table_id s.table) c.args.slot c.read_word.result) (view s.pass.now) (view c.read_word.new.pass) tt c.read_word.ensures.did.1 in
          let same = l.unboxed s.o (subst (λ (z : Shape). s.o < container_count z) (sym c.requires.can.pass.1) c.requires.can.container) k.0 in
          (ap (λ (x : ContainerWords). 0 ∷ 0 ∷ x.table) same, ap (λ (x : ContainerWords). x.block) same);
      only = loaded_put (view s.pass.now) (view c.read_word.new.pass) s.o (loaded_by (ReadTable (table_id s.table) c.args.slot c.read_word.result) (view s.pass.now) (view c.read_word.new.pass) tt c.read_word.ensures.did.1);
    }
