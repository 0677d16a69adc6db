-- Blocks of one kind at an end of a message (adjmsg(9F), msgpullup(9F)).
use Rattle.std.specs.Prelude.{Bool, ◌==◌, List, reverse, take_while}
use Rattle.strm_types.specs.declared.kinds.MsgKind.{MsgKind}
use Rattle.strm_types.specs.Kinds.{kind_number}
use Rattle.strm_blocks.specs.Blocks.{Block, block_at}

-- whether two kinds are one, which they are where they have one number
unfoldable pub same_kind : MsgKind → MsgKind → Bool
same_kind a b = kind_number a == kind_number b

-- the blocks from the first on that have the first block's kind
abbrev pub front_run : List Block → List Block
front_run chain = take_while (λ b. same_kind b.kind (block_at 0 chain).kind) chain

-- the blocks at the end that have the last block's kind
abbrev pub tail_run : List Block → List Block
tail_run chain = reverse (front_run (reverse chain))
