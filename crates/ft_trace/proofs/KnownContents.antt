-- What a pass with the lock of a container knows of its content and of its words, whatever its kind is.
use Rattle.std.proofs.Common.{◌≡◌, ℕ, suc, ◌<◌, true, List, [], ◌∷◌, length, Some, sym, ap, ◌∙◌, subst, get_or-set_same}
use Rattle.std.specs.Prelude.{slice_index_or}
use Rattle.ft_model.specs.declared.call.Call.{Call}
use Rattle.ft_model.specs.declared.content.Content.{Content}
use Rattle.ft_model.specs.declared.content.Content.TheVariants as content
use Rattle.ft_model.specs.declared.reply.Reply.{Reply}
use Rattle.ft_model.specs.declared.script.Kind.{Kind}
use Rattle.ft_model.specs.Answers.{Answer, answer, puts, after_write}
use Rattle.ft_model.specs.Worlds.{kind_of, no_hands}
use Rattle.ft_model.specs.TableUses.{TableUse, StoredWorld, stored_newest, table_at}
use Rattle.ft_layout.specs.Containers.{StandsAs}
use Rattle.ft_trace.specs.declared.View.{View}
use Rattle.ft_trace.specs.Addresses.{container_count, class_of}
use Rattle.ft_trace.specs.Acts.{has_lock}
use Rattle.ft_trace.specs.ContainerStates.{ContainerState, kind_in}
use Rattle.ft_trace.specs.Pictures.{root_in}
use Rattle.ft_trace.specs.Kinds.{rows, version_at}
use Rattle.ft_trace.specs.OddVersions.{Shut}
use Rattle.ft_trace.specs.Holds.{held_words, held_unboxed, known_state, AgreesWith}
use Rattle.ft_trace.specs.Boxes.{known_box_word}
use Rattle.ft_trace.specs.Unboxed.{unboxed_table}
use Rattle.ft_trace.proofs.PlainPuts.{read_shut}
use Rattle.ft_trace.specs.Traces.{IsReachable}
use Rattle.ft_trace.specs.Grants.{MayWrite}
use Rattle.ft_trace.proofs.Held.{held_stands}
use Rattle.ft_trace.proofs.Clearing.{held_shut}
use Rattle.ft_trace.proofs.Untouched.{as_many}
use Rattle.ft_trace.proofs.UnsplitTables.{tables_unsplit, known_unsplit}
use Rattle.ft_trace.proofs.Known.{kind_known, class_known, at_any, tables_as_many}

-- a table of the class of its number, with this fill
abbrev pub use_of : ℕ → ℕ → TableUse
use_of t fill = record { class = Some (class_of t); fill = fill; keys = [] }

-- what it knows of one with a table, whose number is t
module _ (v : View) (o t : ℕ) (x : Content) (may : MayWrite v o) (is : (known_state o v).content ≡ x) (names : root_in (held_words o v) ≡ suc t) where
  pub known_kind : kind_of x ≡ kind_in v.shape.starts o
  known_kind = sym (ap kind_of is) ∙ kind_known v o may.mine may.possible

  pub known_use : (known_state o v).table ≡ use_of t (known_state o v).table.fill
  known_use = let e = class_known v.shape.texts (held_unboxed o v) (known_state o v) t (held_stands v o may.low may.possible may.mine (may.quiet o)) names in let none = known_unsplit v o may.mine may.possible in λ d. record { class = e d; fill = (known_state o v).table.fill; keys = none d }

  pub known_says : StandsAs v.shape.texts (held_unboxed o v).block (0 ∷ 0 ∷ (held_unboxed o v).table) (use_of t (known_state o v).table.fill) x
  known_says = let e = known_use in subst (λ (z : TableUse × Content). StandsAs v.shape.texts (held_unboxed o v).block (0 ∷ 0 ∷ (held_unboxed o v).table) z.0 z.1) (λ d. (e d, is d)) (held_stands v o may.low may.possible may.mine (may.quiet o))

  pub known_shut : Shut (version_at (kind_of x) (class_of t)) (rows (kind_of x) (class_of t)) (held_unboxed o v).table
  known_shut =
      let kd : Kind = kind_in v.shape.starts o in
      let box : ℕ → ℕ → ℕ = λ b i. known_box_word v.shape b i v.log in
      let raw = held_shut v o t may.low may.possible may.mine (may.quiet o) names in
      let read = read_shut box kd (class_of t) (held_words o v).table raw in
      let held : Shut (version_at kd (class_of t)) (rows kd (class_of t)) (held_unboxed o v).table = subst (λ (r : ℕ). Shut (version_at kd (class_of t)) (rows kd (class_of t)) (unboxed_table box kd r (held_words o v).table)) (sym names) read in
      subst (λ (z : Kind). Shut (version_at z (class_of t)) (rows z (class_of t)) (held_unboxed o v).table) (sym known_kind) held

-- in each history that agrees with what it knows
module _ (v : View) (o : ℕ) (x : Content) (low : o < container_count v.shape) (mine : has_lock o v.log ≡ true) (is : (known_state o v).content ≡ x) (calls : List Call) (agree : AgreesWith v (stored_newest v.shape.starts calls)) where
  abbrev stored : StoredWorld
  stored = stored_newest v.shape.starts calls

  pub in_world : o < length stored.world
  in_world = subst (λ (z : ℕ). o < z) (sym (as_many v.shape.starts calls)) low

  pub in_tables : o < length stored.tables
  in_tables = subst (λ (z : ℕ). o < z) (sym (tables_as_many v.shape.starts calls)) low

  pub content_there : (d : Content) → slice_index_or stored.world o d ≡ x
  content_there d = at_any stored.world o d (content.List []) in_world ∙ (ap (λ (z : ContainerState). z.content) (agree o low mine) ∙ is)

  pub table_there : table_at stored.tables o ≡ (known_state o v).table
  table_there = ap (λ (z : ContainerState). z.table) (agree o low mine)

  pub keys_there : IsReachable v → (table_at stored.tables o).keys ≡ []
  keys_there p = tables_unsplit v.shape p.0 p.2.0 calls o

  -- what a call leaves that puts another content in its place
  pub content_left : (called : Call) (r : Reply) (news : Content) → answer stored.world no_hands called ≡ puts stored.world no_hands o news r → (d : Content) → slice_index_or (after_write stored.world called) o d ≡ news
  content_left called r news answered d = ap (λ (z : Answer). slice_index_or z.world o d) answered ∙ get_or-set_same stored.world o news d in_world
