use Rattle.std.proofs.Common.{◌≡◌, true, List, length, map, sym, ap, ◌∙◌, subst, arith, rules}
use Rattle.std.specs.Prelude.{All}
use Rattle.std.proofs.lemmas.List.{length-map}
use Rattle.ft_hash.specs.Hashes.{text_hash}
use Rattle.ft_model.specs.declared.script.Declaration.{Declaration}
use Rattle.ft_model.specs.declared.script.Kind.{Kind}
use Rattle.ft_model.specs.declared.script.ScriptParts.{ScriptParts}
use Rattle.ft_model.specs.Landed.{is_landed_kind}
use Rattle.ft_model.specs.Names.{IsString}
use Rattle.ft_model.specs.Worlds.{start_as}
use Rattle.ft_run_threads.proofs.LandedShapes.{kinds_landed, script_landed, starts_kept}
use Rattle.ft_run_threads.proofs.shape.shape_for.Goals as goal

pub texts-requires : goal.texts-requires
texts-requires c = subst (All IsString) (sym (c.as_slice-2.ensures ∙ ap (λ (parts : ScriptParts). parts.strings) c.parts-parts.ensures.parts)) c.parts-parts.ensures.rule.strings

kinds_are : (c : goal.After-max) → c.in_ok-kinds.field-0.items ≡ map (λ (declaration : Declaration). declaration.start.kind) c.args.script.now.containers
kinds_are c =
    c.in_ok-kinds.ensures
    ∙ ap (map (λ (declaration : Declaration). declaration.start.kind)) (c.as_slice.ensures ∙ ap (λ (parts : ScriptParts). parts.containers) c.parts-parts.ensures.parts)

pub returns-clause-shape : goal.returns-clause-shape
returns-clause-shape c =
    let rule = c.parts-parts.ensures.rule in
    let script = c.args.script.now in
    let kinds = ap (λ (all : List Kind). length all) (kinds_are c) ∙ length-map script.containers (λ (declaration : Declaration). declaration.start.kind) in
    let texts = c.in_ok-texts.ensures ∙ ap (map text_hash) (c.as_slice-2.ensures ∙ ap (λ (parts : ScriptParts). parts.strings) c.parts-parts.ensures.parts) in
    let many = ap length texts ∙ length-map script.strings text_hash in
    let few = rule.few_containers in
    let few_texts = rule.few_strings in
    record {
      containers = omega (arith, kinds, few);
      landed = subst (All (λ kind. is_landed_kind kind ≡ true)) (sym (kinds_are c)) (kinds_landed script.containers (script_landed script rule));
      texts = omega (arith, many, few_texts);
      tables = search rules;
      heap = search rules;
      passes = search rules;
      calls = search rules;
    }

pub returns-clause-bank : goal.returns-clause-bank
returns-clause-bank c =
    let script = c.args.script.now in
    record {
      starts = ap (map start_as) (kinds_are c) ∙ starts_kept script.containers (script_landed script c.parts-parts.ensures.rule);
      texts = search rules;
      tables = search rules;
      heap = search rules;
      passes = search rules;
      calls = search rules;
    }
