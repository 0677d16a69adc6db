-- No module has no text.
use Rattle.strm_pair.proofs.Prelude.{sym, ap, ◌∙◌, map, put_nothing}
use Rattle.strm_pair.specs.Prelude.{Second, module_format, put}
use Rattle.std.specs.List.{flat_map}
use Rattle.std.proofs.lemmas.List.{nil_from_length}
use Rattle.strm_pair.specs.AnyModules.{module_in}
use Rattle.strm_pair.proofs.images.modules.+put_each.Goals as goal

pub returns-in_default : goal.returns-in_default
returns-in_default g t c =
    sym (ap (λ xs. put (flat_map (module_format Second).text (map (module_in (g.B.Blocks.value c.args.store.now)) xs)) c.args.out) (nil_from_length c.args.modules.now c.in_default.ensures.cases) ∙ put_nothing c.args.out)
