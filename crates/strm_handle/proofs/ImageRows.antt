-- An image that a buffer takes stands at its front.
use Rattle.std.proofs.Common.{ℕ, ◌≡◌, ◌≤◌, ◌++◌, ◌∙◌, List, length, drop, ap}
use Rattle.std.proofs.lemmas.List.{take_all}
use Rattle.strm_image.specs.Sinks.{front_over}

pub image_put : (text before out : List ℕ) → out ≡ front_over text before → length text ≤ length before → out ≡ text ++ drop (length text) before
image_put text before out is few = is ∙ ap (λ xs. xs ++ drop (length text) before) (take_all (length before) text few)
