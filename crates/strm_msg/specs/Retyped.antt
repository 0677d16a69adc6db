-- A chain whose first blocks have another kind (datab(9S): db_type).
use Rattle.std.specs.Prelude.{ℕ, zero, suc, List, [], ◌∷◌}
use Rattle.strm_types.specs.declared.kinds.MsgKind.{MsgKind}
use Rattle.strm_blocks.specs.Blocks.{Block, of_kind}

abbrev pub retyped : ℕ → MsgKind → List Block → List Block
retyped zero kind chain = chain
retyped (suc n) kind [] = []
retyped (suc n) kind (b ∷ chain) = of_kind kind b ∷ retyped n kind chain
