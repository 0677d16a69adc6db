-- The text of an ldterm is that of its settings and of both queues as they are kept.
use Rattle.strm_pair.proofs.Prelude.{ℕ, ◌≡◌, ◌++◌, refl, sym, ap, ◌∙◌, append_assoc, Some, put_both}
use Rattle.strm_pair.specs.Prelude.{StoreValue, Second, module_format, queue, Given, put, queue_in, own_in, QueuePair, pair_in, standing}
use Rattle.strm_pair.specs.Prelude.{OfLdterm, standing_in}
use Rattle.strm_types.specs.Ldterms as plain
use Rattle.strm_types.specs.Ldterms.{by_itself}
use Rattle.strm_laws.specs.Stacked.{of_kind}
use Rattle.strm_image.specs.declared.versions.QueueKind.TheVariants as queues
use Rattle.strm_image.specs.Written.{ldterm_text}
use Rattle.strm_image.proofs.WrittenRows.{ldterm_told}
use Rattle.strm_ldterm.specs.declared.ldterm.Ldterm.{Ldterm}
use Rattle.strm_pair.specs.Imaging.{settings_text}

ldterm_parts : (d : plain.Discipline ℕ) → ldterm_text d ≡ settings_text (by_itself d) ++ ((queue Second queues.ModuleRead).text d.read_queue ++ (queue Second queues.ModuleWrite).text d.write_queue)
ldterm_parts d = simp append_assoc refl

pub ldterm_written : (s : StoreValue) (x : Ldterm) (pair : QueuePair) (g : Given)
    → put ((queue Second queues.ModuleWrite).text (queue_in s pair.write)) (put ((queue Second queues.ModuleRead).text (queue_in s pair.read)) (put (settings_text (own_in s x)) g))
    ≡ put ((module_format Second).text (of_kind OfLdterm (standing_in own_in s (standing x (Some pair))))) g
ldterm_written s x pair g =
    let d = plain.discipline (own_in s x) (pair_in s pair) in
    let front = settings_text (own_in s x) in
    let reads = (queue Second queues.ModuleRead).text (queue_in s pair.read) in
    let writes = (queue Second queues.ModuleWrite).text (queue_in s pair.write) in
    put_both reads writes (put front g) ∙ put_both front (reads ++ writes) g
    ∙ ap (λ xs. put xs g) (sym (ldterm_told d ∙ ldterm_parts d))
