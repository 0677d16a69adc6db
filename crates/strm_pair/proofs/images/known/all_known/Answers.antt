-- The names of both sides are those of the state's modules.
use Rattle.strm_pair.proofs.Prelude.{map, ap, sym, ◌∙◌, ◌&&◌}
use Rattle.strm_pair.specs.Prelude.{module_name, modules_now, names_now}
use Rattle.strm_laws.specs.Known.{are_known}
use Rattle.strm_pair.proofs.EndsMade.{names-same}
use Rattle.strm_pair.proofs.images.known.all_known.Goals as goal

pub returns-then-are_known : goal.returns-then-are_known
returns-then-are_known g c =
    let K = g.M.Behaves.does in
    let ms = c.args.text.now.streams.master.modules.items in
    let ns = c.args.text.now.streams.slave.modules.items in
    let first = ap (are_known K) (sym (ap names_now c.as_slice.ensures.value ∙ names-same ms)) ∙ sym c.are_known.ensures ∙ c.if-are_known.true in
    c.are_known-then-are_known.ensures
    ∙ ap (are_known K) (ap names_now c.as_slice-then-are_known.ensures.value ∙ names-same ns)
    ∙ sym (ap (λ b. b && are_known K (map module_name (modules_now ns))) first)

pub returns-else-are_known : goal.returns-else-are_known
returns-else-are_known g c =
    let K = g.M.Behaves.does in
    let ms = c.args.text.now.streams.master.modules.items in
    let ns = c.args.text.now.streams.slave.modules.items in
    let first = ap (are_known K) (sym (ap names_now c.as_slice.ensures.value ∙ names-same ms)) ∙ sym c.are_known.ensures ∙ c.if-are_known.false in
    c.if-are_known.false ∙ sym (ap (λ b. b && are_known K (map module_name (modules_now ns))) first)
