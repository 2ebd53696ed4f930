use Rattle.std.proofs.Common.{ℕ, ◌+◌, ◌*◌, ◌∷◌, refl, sym, ap, ◌∙◌, subst}
use Rattle.std.specs.Prelude.{slice_set}
use Rattle.ft_bank.specs.Passes.{shape_of, view, Did}
use Rattle.ft_bank.specs.TableNames.{table_id}
use Rattle.ft_bank.specs.WriteSteps.{IsCareful}
use Rattle.ft_trace.specs.Addresses.{class_of}
use Rattle.ft_trace.specs.ContainerStates.{kind_in}
use Rattle.ft_trace.specs.Holds.{held_words, held_unboxed}
use Rattle.ft_trace.specs.Pictures.{ContainerWords}
use Rattle.ft_trace.specs.WholeWrites.{IsNoValue}
use Rattle.ft_trace.specs.declared.Act.TheVariants.{PutTable}
use Rattle.ft_layout.specs.Tables.{entry_at}
use Rattle.ft_search.specs.TableWords.{known_words}
use Rattle.ft_bank.proofs.KnownAfterWrites.{put_by}
use Rattle.ft_search.proofs.WordPlaces.{entry_in, entry_is}
use Rattle.ft_search.proofs.KnownTableWords.{put_entry_after_header, put_leaves}
use Rattle.ft_search.proofs.words.TableWordsWords.put_entry.Goals as goal

pub put_word-requires-clause-word : goal.put_word-requires-clause-word
put_word-requires-clause-word c =
    let s = c.args.self.now in
    let can = c.requires.can.0 in
    entry_in (shape_of s.bank.now) s.table s.mask c.args.place c.args.word can.table can.mask c.requires.place.0
    c.requires.place.1

pub put_word-requires-clause-care : goal.put_word-requires-clause-care
put_word-requires-clause-care c =
    let s = c.args.self.now in
    let can = c.requires.can.0 in
    subst (λ (i : ℕ). IsCareful (view s.pass.now) s.o (table_id s.table) i c.args.value)
    (sym (entry_is (shape_of s.bank.now) s.table s.mask c.args.place c.args.word can.table can.mask)) c.requires.may

pub returns-clause-gave : goal.returns-clause-gave
returns-clause-gave c =
    let s = c.args.self.now in
    let t = table_id s.table in
    let can = c.requires.can.0 in
    let e = entry_is (shape_of s.bank.now) s.table s.mask c.args.place c.args.word can.table can.mask in
    record {
      same = record { bank = refl; pass = refl; o = refl; table = refl; mask = refl; start = refl };
      inside = tt;
      others = λ o low mine names. tt;
      did = subst (λ (i : ℕ). Did (PutTable s.o t i c.args.value) s.pass.now c.put_word.new.pass) e c.put_word.ensures.did;
      tells = λ k. tt;
      left = λ k.
          put_leaves (view s.pass.now) (view c.put_word.new.pass) s.o t (8 * c.args.place + c.args.word + s.mask + 1)
          c.args.value (slice_set (known_words s) (entry_at s.mask c.args.place c.args.word) c.args.value)
          c.put_word.ensures.did.1 c.put_word.ensures.held
          (put_entry_after_header (held_words s.o (view s.pass.now)).table s.mask c.args.place c.args.word c.args.value) k;
      reads = λ k none.
          let kd = kind_in (shape_of s.bank.now).starts s.o in
          let put = c.put_word.ensures.unboxed (subst (λ (i : ℕ). IsNoValue kd (class_of t) i) (sym e) none) in
          (ap (λ (x : ContainerWords). 0 ∷ 0 ∷ x.table) put ∙ put_entry_after_header (held_unboxed s.o (view s.pass.now)).table s.mask c.args.place c.args.word c.args.value, ap (λ (x : ContainerWords). x.block) put);
      only = put_by (PutTable s.o t (8 * c.args.place + c.args.word + s.mask + 1) c.args.value) (view s.pass.now) (view c.put_word.new.pass) s.o tt c.put_word.ensures.did.1 c.put_word.ensures.keeps c.put_word.ensures.moves;
    }
