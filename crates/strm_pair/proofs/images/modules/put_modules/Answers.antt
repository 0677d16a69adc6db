-- Their number, and then each.
use Rattle.strm_pair.proofs.Prelude.{[], ◌∷◌, length, map, sym, ap, ◌∙◌, length-map, put_both}
use Rattle.strm_pair.specs.Prelude.{Second, module_format, put}
use Rattle.std.specs.List.{flat_map}
use Rattle.strm_image.proofs.WrittenRows.{modules_told}
use Rattle.strm_pair.specs.AnyModules.{module_in}
use Rattle.strm_pair.specs.Stacks.{modules_in}
use Rattle.strm_pair.proofs.images.modules.put_modules.Goals as goal

pub returns : goal.returns
returns g c =
    let s = g.B.Blocks.value c.args.store.now in
    let ms = modules_in s c.args.stack.now in
    let each = flat_map (module_format Second).text ms in
    c.put_each.ensures
    ∙ ap (λ xs. put (flat_map (module_format Second).text (map (module_in s) xs)) c.put_u8.new.out) c.as_slice.ensures.value
    ∙ ap (put each) (c.put_u8.ensures ∙ ap (λ n. put (n ∷ []) c.args.out) (c.len.ensures.value ∙ sym (length-map c.args.stack.now.modules.items (module_in s))))
    ∙ put_both (length ms ∷ []) each c.args.out
    ∙ ap (λ xs. put xs c.args.out) (sym (modules_told ms))
